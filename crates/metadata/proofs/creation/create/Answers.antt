use Rattle.std.proofs.Common.{ℕ, ◌≡◌, ◌≤◌, List, length, replicate, rules, ◌∙◌, ap, arith}
use Rattle.std.proofs.lemmas.List.{length-replicate}
use Rattle.std.proofs.lemmas.Bool.{and_parts, leb-true}
use Rattle.metadata.specs.Says.{extents_of}
use Rattle.metadata.proofs.LaidOut.{created-kept}
use Rattle.metadata.proofs.creation.create.Goals as goal

pub invariant_of-result : goal.invariant_of-result
invariant_of-result g c =
    let h = c.args.header in
    let entries : List ℕ = c.in-Ok.entries.items in
    let n : ℕ = extents_of h.blocks in
    let zeros : entries ≡ replicate n 0 = search rules in
    let size : length entries ≡ n = ap length zeros ∙ length-replicate {A = ℕ} n 0 in
    let few : h.blocks ≤ 2147483648 = leb-true h.blocks 2147483648 (and_parts _ _ c.requires).1 in
    let made = c.in-Ok-write_all.ensures in
    record {
      sized = size;
      few = few;
      slot = omega arith;
      kept = λ whole faithful. created-kept h c.args.identifiers.now n entries (g.F.StableFile.seen c.write_all.new.file) (g.F.StableFile.may_leave c.write_all.new.file) zeros (omega (arith, size, few))
          (made.created faithful) (made.selected faithful) made.durable;
    }
