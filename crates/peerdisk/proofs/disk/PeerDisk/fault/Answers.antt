use Rattle.std.proofs.Common.{◌≡◌, ◌∙◌, ◌+◌, ◌-◌, Option, None, is_some, length, refl, sym, ap, arith, get_or, nat_le, unwrap_or}
use Rattle.std.specs.Prelude.{filter, option_map}
use Rattle.peerdisk.specs.Items.{filled}
use Rattle.peerdisk.specs.Pending.{Pending, epoch_at, without}
use Rattle.peerdisk.specs.Slots.{AreInOrder, of_filled, pending_from}
use Rattle.peerdisk.proofs.Pendings.{order-filter, order-without}
use Rattle.peerdisk.proofs.InSlots.{at-slot, length-removed, without-slot}
use Rattle.peerdisk.proofs.Ends.{kept, order-shift}
use Rattle.peerdisk.proofs.Filled.{held-trimmed}
use Rattle.peerdisk.proofs.Stored.{WithinRow, left-trimmed, row-trimmed, within-row}
use Rattle.peerdisk.proofs.disk.PeerDisk.fault.Goals as goal

pub overflow_sub-index : goal.overflow_sub-index
overflow_sub-index g c =
    let s = c.self.inside in
    let there : WithinRow c.args.place s.first s.slots.items = within-row c.args.place s.first s.items s.slots.items c.self.invariant.held
    (rw (ap (λ s. s.pending) c.self.view_is) c.requires) in
    omega (arith, there.from, c.from.ensures)

pub take_item-epoch-requires-clause-taken : goal.take_item-epoch-requires-clause-taken
take_item-epoch-requires-clause-taken g c =
    let s = c.self.inside in
    let there : WithinRow c.args.place s.first s.slots.items = within-row c.args.place s.first s.items s.slots.items c.self.invariant.held
    (rw (ap (λ s. s.pending) c.self.view_is) c.requires) in
    ap (λ n. is_some (get_or s.slots.items (n - s.first) None)) c.from.ensures ∙ there.taken

pub drop_later-requires-clause-order : goal.drop_later-requires-clause-order
drop_later-requires-clause-order g c =
    let s = c.self.inside in
    let row = filled s.items s.slots.items in
    let t = c.take_item-epoch in
    let i = c.from.result - s.first in
    let after = filled t.new.items t.new.slots.items in
    let there : WithinRow c.args.place s.first s.slots.items = within-row c.args.place s.first s.items s.slots.items c.self.invariant.held
    (rw (ap (λ s. s.pending) c.self.view_is) c.requires) in
    let at : c.args.place ≡ s.first + i = omega (arith, there.from, c.from.ensures) in
    let left : pending_from s.first after ≡ without c.args.place (pending_from s.first row) = ap (pending_from s.first) t.ensures.left
    ∙ without-slot c.args.place s.first i row at in
    order-shift s.first 0 after (rw left (order-without c.args.place _ c.self.invariant.row.order))

pub invariant_of-self : goal.invariant_of-self
invariant_of-self g c =
    let s = c.self.inside in
    let row = filled s.items s.slots.items in
    let t = c.take_item-epoch in
    let i = c.from.result - s.first in
    let l = c.drop_later in
    let d = c.drop_holes-self-inside in
    let epoch = t.result.0 in
    let after = filled t.new.items t.new.slots.items in
    let kept_row = filled l.new.items l.new.slots.items in
    let there : WithinRow c.args.place s.first s.slots.items = within-row c.args.place s.first s.items s.slots.items c.self.invariant.held
    (rw (ap (λ s. s.pending) c.self.view_is) c.requires) in
    let at : c.args.place ≡ s.first + i = omega (arith, there.from, c.from.ensures) in
    let left : pending_from s.first after ≡ without c.args.place (pending_from s.first row) = ap (pending_from s.first) t.ensures.left
    ∙ without-slot c.args.place s.first i row at in
    let later : pending_from s.first kept_row ≡ kept epoch (without c.args.place (pending_from s.first row)) = l.ensures.items s.first ∙ ap (kept epoch) left in
    let order : AreInOrder (pending_from s.first kept_row) =
    rw later (order-filter (λ p. nat_le p.epoch epoch) (without c.args.place (pending_from s.first row))
    (order-without c.args.place _ c.self.invariant.row.order)) in
    let fewer = length-removed s.first i _ row t.ensures.item in
    let gone = rw t.ensures.left at (l.ensures.count s.first) in
    let counted : s.count - 1 - l.result ≡ length (pending_from s.first kept_row) = omega (arith, gone, fewer, c.self.invariant.row.counted) in
    let end = d.ensures.end in
    record {
      row = row-trimmed d.result s.first l.new.items l.new.slots.items d.new.slots.items (s.count - 1 - l.result) _ _ l.ensures.held d.ensures.slots
          (omega (arith, end, d.new.slots.ok, l.new.slots.ok)) order counted
          (omega (arith, end, l.ensures.len, t.ensures.len, c.self.invariant.row.small))
          (λ from. omega (arith, d.ensures.capacity, l.ensures.capacity, t.ensures.capacity, there.to, s.slots.ok, s.slots.ring_fits));
      held = rw d.ensures.slots (held-trimmed l.new.items l.new.slots.items l.ensures.held);
      many = omega (arith, l.ensures.many, t.ensures.many, c.self.invariant.many);
      room = omega (arith, l.ensures.room, t.ensures.room, c.self.invariant.room);
    }

pub returns-clause-left : goal.returns-clause-left
returns-clause-left g c =
    let s = c.self.inside in
    let row = filled s.items s.slots.items in
    let t = c.take_item-epoch in
    let i = c.from.result - s.first in
    let l = c.drop_later in
    let d = c.drop_holes-self-inside in
    let epoch = t.result.0 in
    let after = filled t.new.items t.new.slots.items in
    let there : WithinRow c.args.place s.first s.slots.items = within-row c.args.place s.first s.items s.slots.items c.self.invariant.held
    (rw (ap (λ s. s.pending) c.self.view_is) c.requires) in
    let at : c.args.place ≡ s.first + i = omega (arith, there.from, c.from.ensures) in
    let left : pending_from s.first after ≡ without c.args.place (pending_from s.first row) = ap (pending_from s.first) t.ensures.left
    ∙ without-slot c.args.place s.first i row at in
    let trim = left-trimmed d.result s.first l.new.items l.new.slots.items d.new.slots.items d.ensures.slots
    (omega (arith, d.ensures.end, d.new.slots.ok, l.new.slots.ok)) in
    let at_epoch : epoch_at c.args.place (pending_from s.first row) ≡ epoch =
    ap (λ (o : Option (Pending _)). unwrap_or (option_map (λ p. p.epoch) o) 0) (at-slot c.args.place s.first i row at
    ∙ ap (option_map (of_filled c.args.place)) t.ensures.item) in
    let all = trim ∙ (l.ensures.items s.first
    ∙ (ap (kept epoch) left ∙ ap (λ n. filter (λ p. nat_le p.epoch n) (without c.args.place (pending_from s.first row))) (sym at_epoch))) in
    rw (← c.self.view_is) (rw all refl)

pub returns-clause-epoch : goal.returns-clause-epoch
returns-clause-epoch g c =
    let s = c.self.inside in
    let row = filled s.items s.slots.items in
    let t = c.take_item-epoch in
    let i = c.from.result - s.first in
    let there : WithinRow c.args.place s.first s.slots.items = within-row c.args.place s.first s.items s.slots.items c.self.invariant.held
    (rw (ap (λ s. s.pending) c.self.view_is) c.requires) in
    let at : c.args.place ≡ s.first + i = omega (arith, there.from, c.from.ensures) in
    rw (← c.self.view_is) (sym (ap (λ (o : Option (Pending _)). unwrap_or (option_map (λ p. p.epoch) o) 0) (at-slot c.args.place s.first i row at
    ∙ ap (option_map (of_filled c.args.place)) t.ensures.item)))
