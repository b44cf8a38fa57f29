use Rattle.std.proofs.Common.{ℕ, ◌≡◌, Bool, true, false, List, length, slice_get, ◌∙◌, sym, ap, subst, rules}
use Rattle.bitmap.specs.Marks.{marking}
use Rattle.bitmap.proofs.Lists.{length-marking}
use Rattle.blocks.specs.Ranges.{is_between}
use Rattle.model.specs.Pair.{same_block}
use Rattle.disk_pair.specs.Disks.{AreFaithful}
use Rattle.disk_pair.proofs.Comparing.{read-again}
use Rattle.disk_pair.proofs.Marking.{Marks, marks-alike, marks-differing, unmarked}
use Rattle.disk_pair.proofs.compare.mark_differing.Goals.{then-not-branch, else-not-branch}
use Rattle.disk_pair.proofs.compare.mark_differing.Goals as goal

pub loop-number-preserved : goal.loop-number-preserved
loop-number-preserved g c =
    let was = c.loop-number.invariant in
    let read = c.is_alike.ensures.read in
    let local = c.args.disks.now.local in
    let peer = c.args.disks.now.peer in
    let n = c.loop-number.number in
    let found : AreFaithful c.is_alike.new.disks → same_block (slice_get local n) (slice_get peer n) ≡ c.in_ok-is_alike.field-0 = λ faithful.
    sym (c.in_ok-is_alike.ensures.alike faithful
    ∙ ap (λ (m : ℕ). same_block (slice_get c.loop-number.disks.local m) (slice_get c.loop-number.disks.peer m)) c.from.ensures
    ∙ ap (λ (l : List (List ℕ)). same_block (slice_get l n) (slice_get c.loop-number.disks.peer n)) was.read.local
    ∙ ap (λ (l : List (List ℕ)). same_block (slice_get local n) (slice_get l n)) was.read.peer) in
    let before : AreFaithful c.is_alike.new.disks → Marks local peer n c.loop-number.marks = λ faithful.
    was.marks (read.local_falls faithful.0, read.peer_falls faithful.1) in
    let again = read-again c.args.disks.now c.loop-number.disks c.is_alike.new.disks was.read read in
    elim c.if-not-branch.branch [
      | then-not-branch w ↦
          let is : w.mark.new.self ≡ marking (is_between n 1) c.loop-number.marks = w.mark.ensures ∙ ap (λ (m : ℕ). marking (is_between m 1) c.loop-number.marks) c.from.ensures in
          rw w.marks-is (record {
            size = ap length is ∙ length-marking 0 (is_between n 1) c.loop-number.marks ∙ was.size;
            marks = λ faithful. marks-differing local peer n c.loop-number.marks w.mark.new.self (before faithful) (found faithful ∙ w.if-not-branch.true)
                (search rules) is;
            read = again;
          })
      | else-not-branch w ↦ rw w.marks-is (record {
        size = was.size;
        marks = λ faithful. marks-alike local peer n c.loop-number.marks (before faithful) (found faithful ∙ w.if-not-branch.false);
        read = again;
      })
    ]
