use Rattle.std.proofs.Common.{◌≡◌, ◌∙◌, ◌+◌, ◌++◌, ◌∷◌, [], ◌-◌, ◌<◌, ◌≤◌, Some, length, length-append, refl, ap, arith, take, deque_len, deque_capacity}
use Rattle.std.specs.Prelude.{All}
use Rattle.std.proofs.lemmas.Bool.Decides.{nat_tests}
use Rattle.peerdisk.specs.Items.{Holds, IsStored, filled}
use Rattle.peerdisk.specs.Slots.{Filled, of_filled, pending_from}
use Rattle.peerdisk.specs.declared.disk.Entry.{Entry}
use Rattle.peerdisk.proofs.Pendings.{order-push, put-room}
use Rattle.peerdisk.proofs.InSlots.{begins-put, from-first, has-room, no-items, put-last}
use Rattle.peerdisk.proofs.Filled.{filled-put, held-padded, held-put, pending-padded}
use Rattle.peerdisk.proofs.Stored.{grown-stored, length-filled}
use Rattle.peerdisk.proofs.disk.PeerDisk.put.Goals as goal
use Rattle.peerdisk.proofs.disk.PeerDisk.put.Goals.{then-is_empty, else-is_empty}

pub overflow_sub-index : goal.overflow_sub-index
overflow_sub-index g c =
    let s = c.self.inside in
    let row = filled s.items s.slots.items in
    let pending = ap (λ s. s.pending) (c.self.view_is ∙ c.in_ok-reserve.ensures.same) in
    elim c.if-is_empty.branch [
      | then-is_empty w ↦ omega (arith, ap (λ x. x.first) w.self-inside-is)
      | else-is_empty w ↦
          let more : 0 < deque_len s.slots = grind (arith, nat_tests, c.is_empty.ensures, w.if-is_empty.false) in
          let begin : length row ≡ 0 → c.args.place ≡ s.first = λ none. absurd (omega (arith, s.slots.ok, none, length-filled s.items s.slots.items)) in
          let above : All (λ p. p.place < c.args.place) (pending_from s.first row) = rw pending c.requires.above in
          let from = from-first c.args.place s.first row c.self.invariant.row.begins begin above in
          omega (arith, from, c.from-place.ensures, ap (λ x. x.first) w.self-inside-is)
    ]

pub invariant_of-self : goal.invariant_of-self
invariant_of-self g c =
    let s = c.self.inside in
    let f = c.if-is_empty.self-inside in
    let old = c.args.self.now in
    let same = c.self.view_is ∙ c.in_ok-reserve.ensures.same in
    let pending = ap (λ s. s.pending) same in
    let cap = deque_capacity s.slots in
    let long : deque_len s.slots ≡ length s.slots.items = omega (arith, s.slots.ok) in
    let reach = ap (λ s. s.reach) c.self.view_is in
    let room : 0 < cap = has-room c.args.place s.first cap (omega (arith, reach, c.in_ok-reserve.ensures.room)) c.self.invariant.row.begun in
    let stored : IsStored f.items f.first f.slots.items f.count (deque_len f.slots) (deque_capacity f.slots) f.limit = elim c.if-is_empty.branch [
      | then-is_empty w ↦
          let empty : deque_len s.slots ≡ 0 = grind (arith, nat_tests, c.is_empty.ensures, w.if-is_empty.true) in
          rw w.self-inside-is (grown-stored s.items s.first c.from-place.result s.slots.items s.count (deque_len s.slots)
          (deque_len s.slots) cap cap s.limit c.self.invariant long refl (omega (arith, c.from-place.ensures, c.ranges.place.fits))
          (λ (more : 0 < deque_len s.slots). absurd (omega (arith, empty, more))) room)
      | else-is_empty w ↦ rw w.self-inside-is c.self.invariant
    ] in
    let row = filled f.items f.slots.items in
    let left : pending_from f.first row ≡ old.pending = elim c.if-is_empty.branch [
      | then-is_empty w ↦
          let empty : deque_len s.slots ≡ 0 = grind (arith, nat_tests, c.is_empty.ensures, w.if-is_empty.true) in
          rw w.self-inside-is (no-items c.from-place.result s.first (filled s.items s.slots.items)
          (omega (arith, long, empty, length-filled s.items s.slots.items)) ∙ pending)
      | else-is_empty w ↦ rw w.self-inside-is pending
    ] in
    let above : All (λ p. p.place < c.args.place) (pending_from f.first row) = rw left c.requires.above in
    let begin : length row ≡ 0 → c.args.place ≡ f.first = λ (none : length row ≡ 0). elim c.if-is_empty.branch [
      | then-is_empty w ↦ omega (arith, ap (λ x. x.first) w.self-inside-is, c.from-place.ensures)
      | else-is_empty w ↦ absurd (let more : 0 < deque_len s.slots = grind (arith, nat_tests, c.is_empty.ensures, w.if-is_empty.false) in omega (
        arith,
        ap (λ x. length x.slots.items) w.self-inside-is,
        more,
        long,
        none,
        length-filled f.items f.slots.items,
      ))
    ] in
    let from : f.first ≤ c.args.place = from-first c.args.place f.first row stored.row.begins begin above in
    let n = c.from-place.result - f.first in
    let at : c.args.place ≡ f.first + n = omega (arith, from, c.from-place.ensures) in
    let put = c.insert_reserved-key in
    let items = put.new.self in
    let slots = c.push_back_reserved.new.self.items in
    let holes = c.put_holes.new.slots.items in
    let held : Holds f.items holes = rw c.put_holes.ensures.slots (held-padded f.items n f.slots.items stored.held) in
    let e : Entry = record { epoch = c.args.epoch; key = put.result } in
    let full : Filled _ = record { epoch = c.args.epoch; item = c.args.item } in
    let was : filled items slots ≡ filled f.items holes ++ Some full ∷ [] = rw c.push_back_reserved.ensures.items
    (filled-put f.items items holes e c.args.item held put.ensures.was_vacant put.ensures.updates) in
    let padding : pending_from f.first (filled f.items holes) ≡ pending_from f.first (take n row) =
    rw c.put_holes.ensures.slots (pending-padded f.first f.items n f.slots.items) in
    let pushed = put-last c.args.place f.first n full row (filled f.items holes) (filled items slots) was padding at
    (omega (arith, c.put_holes.ensures.len, c.put_holes.new.slots.ok, length-filled f.items holes)) above in
    let late : All (λ p. p.epoch ≤ c.args.epoch) (pending_from f.first row) = rw left c.requires.no_earlier in
    record {
      row = record {
        order = rw pushed (order-push (of_filled c.args.place full) (pending_from f.first row) stored.row.order late);
        counted = rw pushed (simp length-append (omega (arith, stored.row.counted)));
        begins = begins-put f.first c.args.place full row (filled items slots) stored.row.begins begin pushed;
        small = omega (arith, c.push_back_reserved.ensures.len, c.put_holes.ensures.len, at, c.ranges.place.fits);
        begun = λ more. omega (arith, c.push_back_reserved.ensures.len, c.push_back_reserved.new.self.ok, c.push_back_reserved.new.self.ring_fits);
      };
      held = rw c.push_back_reserved.ensures.items (held-put f.items items holes e c.args.item held put.ensures.was_vacant put.ensures.updates);
      many = omega (arith, put.ensures.len, stored.many);
      room = omega (arith, put.ensures.capacity, stored.room);
    }

pub returns-clause-put : goal.returns-clause-put
returns-clause-put g c =
    let s = c.self.inside in
    let f = c.if-is_empty.self-inside in
    let old = c.args.self.now in
    let same = c.self.view_is ∙ c.in_ok-reserve.ensures.same in
    let pending = ap (λ s. s.pending) same in
    let cap = deque_capacity s.slots in
    let long : deque_len s.slots ≡ length s.slots.items = omega (arith, s.slots.ok) in
    let reach = ap (λ s. s.reach) c.self.view_is in
    let room : 0 < cap = has-room c.args.place s.first cap (omega (arith, reach, c.in_ok-reserve.ensures.room)) c.self.invariant.row.begun in
    let stored : IsStored f.items f.first f.slots.items f.count (deque_len f.slots) (deque_capacity f.slots) f.limit = elim c.if-is_empty.branch [
      | then-is_empty w ↦
          let empty : deque_len s.slots ≡ 0 = grind (arith, nat_tests, c.is_empty.ensures, w.if-is_empty.true) in
          rw w.self-inside-is (grown-stored s.items s.first c.from-place.result s.slots.items s.count (deque_len s.slots)
          (deque_len s.slots) cap cap s.limit c.self.invariant long refl (omega (arith, c.from-place.ensures, c.ranges.place.fits))
          (λ (more : 0 < deque_len s.slots). absurd (omega (arith, empty, more))) room)
      | else-is_empty w ↦ rw w.self-inside-is c.self.invariant
    ] in
    let row = filled f.items f.slots.items in
    let left : pending_from f.first row ≡ old.pending = elim c.if-is_empty.branch [
      | then-is_empty w ↦
          let empty : deque_len s.slots ≡ 0 = grind (arith, nat_tests, c.is_empty.ensures, w.if-is_empty.true) in
          rw w.self-inside-is (no-items c.from-place.result s.first (filled s.items s.slots.items)
          (omega (arith, long, empty, length-filled s.items s.slots.items)) ∙ pending)
      | else-is_empty w ↦ rw w.self-inside-is pending
    ] in
    let above : All (λ p. p.place < c.args.place) (pending_from f.first row) = rw left c.requires.above in
    let begin : length row ≡ 0 → c.args.place ≡ f.first = λ (none : length row ≡ 0). elim c.if-is_empty.branch [
      | then-is_empty w ↦ omega (arith, ap (λ x. x.first) w.self-inside-is, c.from-place.ensures)
      | else-is_empty w ↦ absurd (let more : 0 < deque_len s.slots = grind (arith, nat_tests, c.is_empty.ensures, w.if-is_empty.false) in omega (
        arith,
        ap (λ x. length x.slots.items) w.self-inside-is,
        more,
        long,
        none,
        length-filled f.items f.slots.items,
      ))
    ] in
    let from : f.first ≤ c.args.place = from-first c.args.place f.first row stored.row.begins begin above in
    let n = c.from-place.result - f.first in
    let at : c.args.place ≡ f.first + n = omega (arith, from, c.from-place.ensures) in
    let put = c.insert_reserved-key in
    let items = put.new.self in
    let slots = c.push_back_reserved.new.self.items in
    let holes = c.put_holes.new.slots.items in
    let held : Holds f.items holes = rw c.put_holes.ensures.slots (held-padded f.items n f.slots.items stored.held) in
    let e : Entry = record { epoch = c.args.epoch; key = put.result } in
    let full : Filled _ = record { epoch = c.args.epoch; item = c.args.item } in
    let was : filled items slots ≡ filled f.items holes ++ Some full ∷ [] = rw c.push_back_reserved.ensures.items
    (filled-put f.items items holes e c.args.item held put.ensures.was_vacant put.ensures.updates) in
    let padding : pending_from f.first (filled f.items holes) ≡ pending_from f.first (take n row) =
    rw c.put_holes.ensures.slots (pending-padded f.first f.items n f.slots.items) in
    let pushed = put-last c.args.place f.first n full row (filled f.items holes) (filled items slots) was padding at
    (omega (arith, c.put_holes.ensures.len, c.put_holes.new.slots.ok, length-filled f.items holes)) above in
    let whole = pushed ∙ ap (λ ps. ps ++ of_filled c.args.place full ∷ []) left in
    let limit : f.limit ≡ old.limit = elim c.if-is_empty.branch [
      | then-is_empty w ↦ rw w.self-inside-is (ap (λ s. s.limit) same)
      | else-is_empty w ↦ rw w.self-inside-is (ap (λ s. s.limit) same)
    ] in
    let few : length old.pending < old.limit = grind (arith, nat_tests, c.may_put.ensures, c.in_ok-may_put.was) in
    rw (whole, limit) (put-room old.limit _ (of_filled c.args.place full) old.pending few)
