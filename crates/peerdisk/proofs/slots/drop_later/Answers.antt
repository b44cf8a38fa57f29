use Rattle.std.proofs.Common.{◌≡◌, ◌∙◌, ◌-◌, ◌<◌, None, true, false, length, refl, sym, ap, arith, deque_len, get_or}
use Rattle.std.specs.Int.{from_bool}
use Rattle.std.proofs.lemmas.List.{get_or_read}
use Rattle.peerdisk.specs.Items.{filled}
use Rattle.peerdisk.specs.Slots.{stays}
use Rattle.peerdisk.proofs.InSlots.{few}
use Rattle.peerdisk.proofs.Ends.{early, items_in, kept-all, last-gone, order-shift}
use Rattle.peerdisk.proofs.Filled.{early-at, some-at}
use Rattle.peerdisk.proofs.Stored.{length-filled}
use Rattle.peerdisk.proofs.slots.drop_later.Goals as goal

pub returns-then-stays-clause-items : goal.returns-then-stays-clause-items
returns-then-stays-clause-items g c = λ first.
    let l = c.loop-last in
    let xs = l.slots.items in
    let row = filled l.items xs in
    let i = deque_len l.slots - 1 in
    let long = c.in-Some.ensures.variant.0 refl in
    let inside : i < length xs = omega (arith, long, l.slots.ok) in
    let read = get_or_read xs i c.in-Some.last.now inside c.in-Some.ensures.lookup None in
    let stay : early c.args.epoch (get_or row i None) ≡ true = early-at c.args.epoch l.items xs i l.invariant.held
    ∙ (ap (stays c.args.epoch) (sym read) ∙ (sym c.stays.ensures ∙ c.if-stays.true)) in
    kept-all c.args.epoch first i (get_or row i None) row (omega (arith, long, l.slots.ok, length-filled l.items xs)) refl stay
    (order-shift 0 first row l.invariant.order) ∙ l.invariant.items first

pub overflow_add-dropped : goal.overflow_add-dropped
overflow_add-dropped g c =
    let l = c.loop-last in
    let d = c.drop_last-dropped in
    let xs = l.slots.items in
    let row = filled l.items xs in
    let n = deque_len d.new.slots in
    let last = get_or row n None in
    let before = filled c.args.items.now c.args.slots.now.items in
    let long = c.in-Some.ensures.variant.0 refl in
    let n_is : n ≡ deque_len l.slots - 1 = omega (arith, long, d.ensures.len) in
    let inside : deque_len l.slots - 1 < length xs = omega (arith, long, l.slots.ok) in
    let read = get_or_read xs (deque_len l.slots - 1) c.in-Some.last.now inside c.in-Some.ensures.lookup None in
    let late : early c.args.epoch last ≡ false =
    early-at c.args.epoch l.items xs n l.invariant.held
    ∙ (ap (λ k. stays c.args.epoch (get_or xs k None)) n_is ∙ (ap (stays c.args.epoch) (sym read) ∙ (sym c.stays.ensures ∙ c.if-stays.false))) in
    let one : d.result ≡ items_in last = d.ensures.count ∙ ap from_bool (sym (some-at l.items xs n l.invariant.held)) in
    let gone = last-gone c.args.epoch l.dropped d.result last row (filled d.new.items d.new.slots.items) before d.ensures.last late one l.invariant.order
    l.invariant.items l.invariant.count in
    omega (arith, gone.count 0, few 0 before, length-filled c.args.items.now c.args.slots.now.items, c.args.slots.now.ok, c.args.slots.now.small)

pub loop-last-preserved : goal.loop-last-preserved
loop-last-preserved g c =
    let l = c.loop-last in
    let d = c.drop_last-dropped in
    let xs = l.slots.items in
    let row = filled l.items xs in
    let n = deque_len d.new.slots in
    let last = get_or row n None in
    let before = filled c.args.items.now c.args.slots.now.items in
    let long = c.in-Some.ensures.variant.0 refl in
    let n_is : n ≡ deque_len l.slots - 1 = omega (arith, long, d.ensures.len) in
    let inside : deque_len l.slots - 1 < length xs = omega (arith, long, l.slots.ok) in
    let read = get_or_read xs (deque_len l.slots - 1) c.in-Some.last.now inside c.in-Some.ensures.lookup None in
    let late : early c.args.epoch last ≡ false =
    early-at c.args.epoch l.items xs n l.invariant.held
    ∙ (ap (λ k. stays c.args.epoch (get_or xs k None)) n_is ∙ (ap (stays c.args.epoch) (sym read) ∙ (sym c.stays.ensures ∙ c.if-stays.false))) in
    let one : d.result ≡ items_in last = d.ensures.count ∙ ap from_bool (sym (some-at l.items xs n l.invariant.held)) in
    let gone = last-gone c.args.epoch l.dropped d.result last row (filled d.new.items d.new.slots.items) before d.ensures.last late one l.invariant.order
    l.invariant.items l.invariant.count in
    record {
      order = gone.order;
      items = gone.items;
      count = gone.count;
      held = d.ensures.held;
      many = omega (arith, d.ensures.many, l.invariant.many);
      room = d.ensures.room ∙ l.invariant.room;
      len = omega (arith, d.ensures.len, l.invariant.len);
      capacity = d.ensures.capacity ∙ l.invariant.capacity;
    }
