use Rattle.std.proofs.Common.{◌≡◌, ◌+◌, ◌||◌, ◌&&◌, ℕ, List, length, take, drop, rules, ◌∙◌, sym, ap, arith}
use Rattle.std.specs.Prelude.{nat_lt}
use Rattle.bitmap.specs.Marks.{marked}
use Rattle.metadata.specs.Says.{marked_in}
use Rattle.metadata.specs.State.{MetadataState}
use Rattle.kept_nodes.specs.Filed.{is_filed}
use Rattle.kept_nodes.proofs.Filed.{portion-more, or-assoc}
use Rattle.kept_nodes.proofs.known.add_marks.Goals as goal

pub loop-first-preserved : goal.loop-first-preserved
loop-first-preserved g c =
    let was = c.loop-first.invariant in
    let first : ℕ = c.loop-first.first in
    record {
      inside = omega arith;
      size = c.add_portion.ensures.size ∙ was.size;
      memory = c.in_ok-marks.ensures.memory ∙ ap (λ (s : MetadataState g.row.F.Denot). record s { file = c.marks.new.self.file }) was.memory;
      seen = c.marks.ensures.seen ∙ was.seen;
      falls = λ faithful. was.falls (c.marks.ensures.falls faithful);
      marks = λ faithful block low.
          let known = marked c.args.known.now block in
          let seen : List ℕ = g.F.StableFile.seen c.args.metadata.now.file in
          let bytes : List ℕ = c.marks.new.buffer in
          let count : ℕ = c.min-count.result in
          let size : length bytes ≡ count = search rules in
          let asked : length (take count c.loop-first.portion) ≡ length bytes = search rules in
          let so_far = nat_lt block first && marked_in seen block in
          let read : bytes ≡ take (length bytes) (drop (2101248 + first) seen) = c.in_ok-marks.ensures.read faithful
          ∙ ap (λ n. take n (drop (2101248 + first) (g.F.StableFile.seen c.loop-first.metadata.file))) asked ∙ ap (λ (l : List ℕ). take (length bytes) (drop (2101248 + first) l)) was.seen in
          c.add_portion.ensures.marks block (omega (arith, low, was.size)) ∙ ap (λ m. m || is_filed first (length bytes) bytes block) (was.marks (c.marks.ensures.falls faithful) block low)
          ∙ or-assoc known so_far (is_filed first (length bytes) bytes block)
          ∙ sym (ap (λ m. known || m) (ap (λ n. nat_lt block (first + n) && marked_in seen block) (sym size) ∙ portion-more seen first (length bytes) bytes block read));
    }
