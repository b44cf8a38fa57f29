use Rattle.std.proofs.Common.{rules, ℕ, ◌≡◌, ◌<◌, Bool, not, List, length, slice_get, ◌∙◌, sym, ap, subst}
use Rattle.bitmap.specs.Marks.{marked}
use Rattle.model.specs.Pair.{same_block}
use Rattle.disk_pair.specs.Disks.{AreFaithful}
use Rattle.disk_pair.proofs.Marking.{marks-cover, none-marked}
use Rattle.disk_pair.proofs.differing.first_marks.Goals.{then-eq+in_ok-mark_differing, else-eq}
use Rattle.disk_pair.proofs.differing.first_marks.Goals as goal

pub returns-clause-cover : goal.returns-clause-cover
returns-clause-cover g c = λ how faithful. elim c.if-eq.branch [
  | then-eq+in_ok-mark_differing w ↦
      let local : length c.if-eq.disks.local ≡ c.args.blocks = search rules in
      let peer : length c.if-eq.disks.peer ≡ c.args.blocks = search rules in
      let ours : c.if-eq.disks.local ≡ c.args.disks.now.local = search rules in
      let theirs : c.if-eq.disks.peer ≡ c.args.disks.now.peer = search rules in
      let now : AreFaithful w.mark_differing.new.disks = subst AreFaithful w.disks-is faithful in
      let found : (block : ℕ) → block < c.args.blocks
      → marked c.if-eq.marks block ≡ not (same_block (slice_get c.if-eq.disks.local block) (slice_get c.if-eq.disks.peer block)) = λ block low.
      ap (λ (l : List Bool). marked l block) w.marks-is ∙ w.in_ok-mark_differing.ensures.marks now block low
      ∙ sym (ap (λ (l : List (List ℕ)). not (same_block (slice_get l block) (slice_get c.if-eq.disks.peer block))) ours
      ∙ ap (λ (l : List (List ℕ)). not (same_block (slice_get c.args.disks.now.local block) (slice_get l block))) theirs) in
      marks-cover c.if-eq.disks.local c.if-eq.disks.peer c.args.blocks c.if-eq.marks local peer found
  | else-eq w ↦ absurd (search rules)
]

pub returns-clause-unmarked : goal.returns-clause-unmarked
returns-clause-unmarked g c = search (rules, none-marked)
