use Rattle.std.proofs.Common.{◌≡◌, ◌∙◌, ◌<◌, length, refl, ap, arith, deque_len, deque_capacity}
use Rattle.std.specs.Prelude.{All}
use Rattle.peerdisk.specs.Slots.{pending_from}
use Rattle.peerdisk.specs.Items.{filled}
use Rattle.peerdisk.proofs.InSlots.{begins_at, no-items}
use Rattle.peerdisk.proofs.Stored.{grown-stored, length-filled}
use Rattle.peerdisk.proofs.disk.PeerDisk.reserve.Goals as goal
use Rattle.peerdisk.proofs.disk.PeerDisk.reserve.Goals.{then-len-eq0, else-len-eq0, then-wanted-capacity+in_ok-reserve_exact, else-wanted-capacity}

pub overflow_sub-wanted : goal.overflow_sub-wanted
overflow_sub-wanted g c =
    let s = c.self.inside in
    elim c.if-len-eq0.branch [
      | then-len-eq0 w ↦ omega (arith, w.first-is)
      | else-len-eq0 w ↦
          let above : All (λ p. p.place < c.args.place) (pending_from s.first (filled s.items s.slots.items)) =
          rw (ap (λ s. s.pending) c.self.view_is) c.requires.above in
          let less = begins_at c.args.place s.first (filled s.items s.slots.items) c.self.invariant.row.begins
          (omega (arith, w.if-len-eq0.false, c.len-len.ensures, s.slots.ok, length-filled s.items s.slots.items)) above in
          omega (arith, w.first-is, less, c.from-place.ensures)
    ]

pub invariant_of-self-2 : goal.invariant_of-self-2
invariant_of-self-2 g c =
    let s = c.self.inside in
    let len = deque_len s.slots in
    let first = c.if-len-eq0.first in
    let long : len ≡ length s.slots.items = omega (arith, s.slots.ok) in
    let begin : 0 < len → first ≡ s.first = λ (more : 0 < deque_len s.slots). elim c.if-len-eq0.branch [
      | then-len-eq0 w ↦ absurd (omega (arith, more, w.if-len-eq0.true, c.len-len.ensures))
      | else-len-eq0 w ↦ w.first-is
    ] in
    let low : first < 4294967296 = elim c.if-len-eq0.branch [
      | then-len-eq0 w ↦ omega (arith, w.first-is, c.from-place.ensures, c.ranges.place.fits)
      | else-len-eq0 w ↦ omega (arith, w.first-is, w.if-len-eq0.false, c.len-len.ensures, c.self.invariant.row.small)
    ] in
    elim c.if-wanted-capacity.branch [
      | then-wanted-capacity+in_ok-reserve_exact w ↦
          let e = w.in_ok-reserve_exact.ensures in
          rw (w.self-inside-is, e.items) (grown-stored s.items s.first first s.slots.items s.count len _ (deque_capacity s.slots) _ s.limit c.self.invariant
          long e.len low begin (omega (arith, e.ok, w.if-wanted-capacity.true, w.max.ensures)))
      | else-wanted-capacity w ↦ rw w.self-inside-is
          (grown-stored s.items s.first first s.slots.items s.count len len (deque_capacity s.slots) (deque_capacity s.slots) s.limit c.self.invariant long refl
          low begin (omega (arith, w.if-wanted-capacity.false, c.capacity.ensures)))
    ]

pub returns-clause-same : goal.returns-clause-same
returns-clause-same g c =
    let s = c.self.inside in
    let first = c.if-len-eq0.first in
    let row = filled s.items s.slots.items in
    let pending = ap (λ s. s.pending) c.self.view_is in
    let limit = ap (λ s. s.limit) c.self.view_is in
    let left : pending_from first row ≡ c.args.self.now.pending = elim c.if-len-eq0.branch [
      | then-len-eq0 w ↦ no-items first s.first row (omega (arith, w.if-len-eq0.true, c.len-len.ensures, s.slots.ok, length-filled s.items s.slots.items))
          ∙ pending
      | else-len-eq0 w ↦ rw w.first-is pending
    ] in
    elim c.if-wanted-capacity.branch [
      | then-wanted-capacity+in_ok-reserve_exact w ↦ rw (w.self-inside-is, w.in_ok-reserve_exact.ensures.items, left, limit) refl
      | else-wanted-capacity w ↦ rw (w.self-inside-is, left, limit) refl
    ]
