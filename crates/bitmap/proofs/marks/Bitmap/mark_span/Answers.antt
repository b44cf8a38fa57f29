use Rattle.std.proofs.Common.{ℕ, ◌≡◌, ◌<◌, ◌≤◌, ◌+◌, ◌-◌, ◌∙◌, ◌||◌, ◌⊎◌, inl, inr, Bool, true, List, length, sym, ap, arith}
use Rattle.std.specs.Prelude.{slice_set}
use Rattle.std.proofs.Math.ListN.{length-set}
use Rattle.std.proofs.lemmas.Bool.{leb-false, or_right, cases_eq}
use Rattle.std.proofs.lemmas.Bool.Decides.{nat_tests}
use Rattle.blocks.specs.Ranges.{is_between}
use Rattle.bitmap.specs.Marks.{marked, marking}
use Rattle.bitmap.specs.Fields.{marks_of}
use Rattle.bitmap.proofs.Bits.{length-bits}
use Rattle.bitmap.proofs.marks.Bitmap.mark_span.Goals.{then-first-self, else-first-self}
use Rattle.bitmap.proofs.Lists.{same-marks, length-marking, marked-marking, marked-set_same, marked-set_other}
use Rattle.bitmap.proofs.marks.Bitmap.mark_span.Goals as goal

-- one block more
one_more : (old xs : List Bool) (first b q : ℕ) → length xs ≡ length old → first ≤ b → b < length old
    → marked xs q ≡ (marked old q || is_between first (b - first) q)
    → marked (slice_set xs b true) q ≡ (marked old q || is_between first (b + 1 - first) q)
one_more old xs first b q long from within before = go (cases_eq q b)
  where
    go : (q ≡ b) ⊎ (q ≡ b → ⊥) → marked (slice_set xs b true) q ≡ (marked old q || is_between first (b + 1 - first) q)
    go (inl same) =
        let inside : is_between first (b + 1 - first) q ≡ true = grind (arith, nat_tests) in
        rw same (marked-set_same xs b true (omega arith)) ∙ sym (or_right (marked old q) (is_between first (b + 1 - first) q) inside)
    go (inr other) =
        let alike : is_between first (b + 1 - first) q ≡ is_between first (b - first) q = grind (arith, nat_tests) in
        marked-set_other xs b true q other ∙ before ∙ ap (λ t. marked old q || t) (sym alike)

pub loop-block-preserved : goal.loop-block-preserved
loop-block-preserved c = record {
  long = rw c.set.ensures (length-set c.loop-block.self c.loop-block.block true ∙ c.loop-block.invariant.long);
  marks = λ q. rw c.set.ensures (one_more c.args.self.now c.loop-block.self c.args.first c.loop-block.block q c.loop-block.invariant.long (omega arith)
      (omega arith) (c.loop-block.invariant.marks q));
}

pub returns : goal.returns
returns c =
    same-marks c.loop-block.self (marking (is_between c.args.first c.args.count) c.args.self.now) (c.loop-block.invariant.long
    ∙ sym (length-marking 0 (is_between c.args.first c.args.count) c.args.self.now))
    (λ q h. let alike : is_between c.args.first (c.loop-block.block - c.args.first) q ≡ is_between c.args.first c.args.count (0 + q) =
    grind (arith, nat_tests) in
    c.loop-block.invariant.marks q ∙ ap (λ t. marked c.args.self.now q || t) alike
    ∙ sym (marked-marking 0 (is_between c.args.first c.args.count) c.args.self.now q (omega (arith, c.loop-block.invariant.long))))

pub prove-unreachable-requires : goal.prove-unreachable-requires
prove-unreachable-requires c =
    let long = length-bits 0 c.self.inside.blocks c.self.inside.words.items in
    let in_device : c.args.first + c.args.count ≤ length (marks_of c.self.inside.blocks c.self.inside.words.items) = rw c.self.view_is c.requires in
    let failed = c.if-prove.true in
    elim c.if-first-self.branch [
      | then-first-self w ↦ omega (arith, leb-false c.args.count (c.self.inside.blocks - c.args.first) (sym w.prove-is ∙ failed))
      | else-first-self w ↦ omega arith
    ]
