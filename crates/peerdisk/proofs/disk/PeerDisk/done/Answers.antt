use Rattle.std.proofs.Common.{◌≡◌, ◌∙◌, ◌+◌, ◌-◌, None, is_some, length, refl, ap, arith, get_or}
use Rattle.std.specs.Prelude.{option_map}
use Rattle.peerdisk.specs.Items.{filled}
use Rattle.peerdisk.specs.Pending.{without}
use Rattle.peerdisk.specs.Slots.{AreInOrder, of_filled, pending_from}
use Rattle.peerdisk.proofs.Pendings.{order-without}
use Rattle.peerdisk.proofs.InSlots.{at-slot, length-removed, without-slot}
use Rattle.peerdisk.proofs.Filled.{held-trimmed}
use Rattle.peerdisk.proofs.Stored.{WithinRow, left-trimmed, row-trimmed, within-row}
use Rattle.peerdisk.proofs.disk.PeerDisk.done.Goals as goal

pub overflow_sub-index : goal.overflow_sub-index
overflow_sub-index g c =
    let s = c.self.inside in
    let there : WithinRow c.args.place s.first s.slots.items = within-row c.args.place s.first s.items s.slots.items c.self.invariant.held
    (rw (ap (λ s. s.pending) c.self.view_is) c.requires) in
    omega (arith, there.from, c.from.ensures)

pub take_item-item-requires-clause-taken : goal.take_item-item-requires-clause-taken
take_item-item-requires-clause-taken g c =
    let s = c.self.inside in
    let there : WithinRow c.args.place s.first s.slots.items = within-row c.args.place s.first s.items s.slots.items c.self.invariant.held
    (rw (ap (λ s. s.pending) c.self.view_is) c.requires) in
    ap (λ n. is_some (get_or s.slots.items (n - s.first) None)) c.from.ensures ∙ there.taken

pub invariant_of-self : goal.invariant_of-self
invariant_of-self g c =
    let s = c.self.inside in
    let row = filled s.items s.slots.items in
    let t = c.take_item-item in
    let i = c.from.result - s.first in
    let d = c.drop_holes-self-inside in
    let after = filled t.new.items t.new.slots.items in
    let there : WithinRow c.args.place s.first s.slots.items = within-row c.args.place s.first s.items s.slots.items c.self.invariant.held
    (rw (ap (λ s. s.pending) c.self.view_is) c.requires) in
    let at : c.args.place ≡ s.first + i = omega (arith, there.from, c.from.ensures) in
    let left : pending_from s.first after ≡ without c.args.place (pending_from s.first row) = ap (pending_from s.first) t.ensures.left
    ∙ without-slot c.args.place s.first i row at in
    let order : AreInOrder (pending_from s.first after) = rw left (order-without c.args.place _ c.self.invariant.row.order) in
    let fewer = length-removed s.first i _ row t.ensures.item in
    let counted : s.count - 1 ≡ length (pending_from s.first after) = rw t.ensures.left (omega (arith, fewer, c.self.invariant.row.counted)) in
    let end = d.ensures.end in
    record {
      row = row-trimmed d.result s.first t.new.items t.new.slots.items d.new.slots.items (s.count - 1) _ _ t.ensures.held d.ensures.slots
          (omega (arith, end, d.new.slots.ok, t.new.slots.ok)) order counted
          (omega (arith, end, t.ensures.len, c.self.invariant.row.small))
          (λ from. omega (arith, d.ensures.capacity, t.ensures.capacity, there.to, s.slots.ok, s.slots.ring_fits));
      held = rw d.ensures.slots (held-trimmed t.new.items t.new.slots.items t.ensures.held);
      many = omega (arith, t.ensures.many, c.self.invariant.many);
      room = omega (arith, t.ensures.room, c.self.invariant.room);
    }

pub returns-clause-item : goal.returns-clause-item
returns-clause-item g c =
    let s = c.self.inside in
    let row = filled s.items s.slots.items in
    let t = c.take_item-item in
    let i = c.from.result - s.first in
    let there : WithinRow c.args.place s.first s.slots.items = within-row c.args.place s.first s.items s.slots.items c.self.invariant.held
    (rw (ap (λ s. s.pending) c.self.view_is) c.requires) in
    let at : c.args.place ≡ s.first + i = omega (arith, there.from, c.from.ensures) in
    rw (← c.self.view_is) (ap (option_map (λ p. p.item)) (at-slot c.args.place s.first i row at ∙ ap (option_map (of_filled c.args.place)) t.ensures.item))

pub returns-clause-rest : goal.returns-clause-rest
returns-clause-rest g c =
    let s = c.self.inside in
    let row = filled s.items s.slots.items in
    let t = c.take_item-item in
    let i = c.from.result - s.first in
    let d = c.drop_holes-self-inside in
    let after = filled t.new.items t.new.slots.items in
    let there : WithinRow c.args.place s.first s.slots.items = within-row c.args.place s.first s.items s.slots.items c.self.invariant.held
    (rw (ap (λ s. s.pending) c.self.view_is) c.requires) in
    let at : c.args.place ≡ s.first + i = omega (arith, there.from, c.from.ensures) in
    let left : pending_from s.first after ≡ without c.args.place (pending_from s.first row) = ap (pending_from s.first) t.ensures.left
    ∙ without-slot c.args.place s.first i row at in
    let all = left-trimmed d.result s.first t.new.items t.new.slots.items d.new.slots.items d.ensures.slots
    (omega (arith, d.ensures.end, d.new.slots.ok, t.new.slots.ok)) ∙ left in
    rw (← c.self.view_is) (rw all refl)
