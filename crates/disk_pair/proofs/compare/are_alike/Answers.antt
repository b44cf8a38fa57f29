use Rattle.std.proofs.Common.{ℕ, ◌≡◌, ◌≤◌, List, length, slice_get, ◌∙◌, sym, ap, arith, rules}
use Rattle.model.specs.Pair.{same_block}
use Rattle.disk_pair.proofs.Alike.{same-lists}
use Rattle.disk_pair.proofs.Comparing.{alike-next, one-disk, read-again}
use Rattle.disk_pair.proofs.compare.are_alike.Goals as goal

pub returns-then-not-branch-clause-found : goal.returns-then-not-branch-clause-found
returns-then-not-branch-clause-found g c = λ faithful is. absurd (one-disk c.loop-number.disks.local c.loop-number.disks.peer c.loop-number.number
    c.in_ok-is_alike.field-0 (c.loop-number.invariant.read.local ∙ (is ∙ sym c.loop-number.invariant.read.peer))
    (c.in_ok-is_alike.ensures.alike faithful
    ∙ ap (λ (m : ℕ). same_block (slice_get c.loop-number.disks.local m) (slice_get c.loop-number.disks.peer m)) c.from.ensures) c.if-not-branch.true)

pub loop-number-preserved : goal.loop-number-preserved
loop-number-preserved g c =
    let was = c.loop-number.invariant in
    let read = c.is_alike.ensures.read in
    record {
      alike = λ faithful k less.
          ap (λ (l : List (List ℕ)). slice_get l k) (sym was.read.local)
          ∙ (alike-next c.loop-number.disks.local c.loop-number.disks.peer c.loop-number.number c.in_ok-is_alike.field-0
          (c.in_ok-is_alike.ensures.alike faithful
          ∙ ap (λ (m : ℕ). same_block (slice_get c.loop-number.disks.local m) (slice_get c.loop-number.disks.peer m)) c.from.ensures) c.if-not-branch.false
          (λ j early. ap (λ (l : List (List ℕ)). slice_get l j) was.read.local
          ∙ (was.alike (read.local_falls faithful.0, read.peer_falls faithful.1) j early ∙ ap (λ (l : List (List ℕ)). slice_get l j) (sym was.read.peer))) k less
          ∙ ap (λ (l : List (List ℕ)). slice_get l k) was.read.peer);
      read = read-again c.args.disks.now c.loop-number.disks c.is_alike.new.disks was.read read;
      faults = (c.in_ok-is_alike.ensures.uncounted.0 ∙ was.faults.0, c.in_ok-is_alike.ensures.uncounted.1 ∙ was.faults.1);
    }

pub returns-clause-alike : goal.returns-clause-alike
returns-clause-alike g c = λ faithful same.
    let long : length c.args.disks.now.local ≡ length c.args.disks.now.peer = search rules in
    let local : c.blocks-blocks.result ≡ length c.args.disks.now.local = search rules in
    let end : c.blocks-blocks.result ≤ c.loop-number.number = c.loop-number-test.false in
    same-lists _ _ long (λ k less. c.loop-number.invariant.alike faithful k (omega (arith, less, local, end)))
