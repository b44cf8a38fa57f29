use Rattle.std.proofs.Common.{◌≡◌, ◌∙◌, ◌+◌, ◌-◌, ◌<◌, None, length, sym, arith, get_or}
use Rattle.std.proofs.lemmas.List.{get_or_read}
use Rattle.peerdisk.specs.Items.{filled}
use Rattle.peerdisk.proofs.InSlots.{at-before, at-past}
use Rattle.peerdisk.proofs.Stored.{at-filled, at-hole, length-filled}
use Rattle.peerdisk.proofs.disk.PeerDisk.entry.Goals as goal

pub returns-then-place-self : goal.returns-then-place-self
returns-then-place-self g c =
    let s = c.self.inside in
    rw (← c.self.view_is) (sym (at-before c.args.place s.first (filled s.items s.slots.items) (omega (arith, c.from-place.ensures, c.if-place-self.true))))

pub returns-then-index-len : goal.returns-then-index-len
returns-then-index-len g c =
    let s = c.self.inside in
    rw (← c.self.view_is) (sym (at-past c.args.place s.first (filled s.items s.slots.items)
    (omega (arith, c.from-place.ensures, c.if-place-self.false, c.if-index-len.true, s.slots.ok, c.len.ensures, length-filled s.items s.slots.items))))

pub returns-in_err-entry : goal.returns-in_err-entry
returns-in_err-entry g c =
    let s = c.self.inside in
    let i = c.from-place.result - s.first in
    let inside : i < length s.slots.items = omega (arith, c.if-index-len.false, s.slots.ok, c.len.ensures) in
    let at : c.args.place ≡ s.first + i = omega (arith, c.from-place.ensures, c.if-place-self.false) in
    let read = get_or_read s.slots.items i c.index.result.now inside c.index.ensures None in
    let hole : get_or s.slots.items i None ≡ None = sym (c.in_err-entry.ensures.value ∙ read) in
    let none : c.from_residual.result ≡ None = cc (c.from_residual.ensures) in
    rw (← c.self.view_is) (rw none (sym (at-hole c.args.place s.first i s.items s.slots.items at hole)))

pub returns : goal.returns
returns g c =
    let s = c.self.inside in
    let e = c.in_ok-entry.entry.now in
    let i = c.from-place.result - s.first in
    let inside : i < length s.slots.items = omega (arith, c.if-index-len.false, s.slots.ok, c.len.ensures) in
    let at : c.args.place ≡ s.first + i = omega (arith, c.from-place.ensures, c.if-place-self.false) in
    let read = get_or_read s.slots.items i c.index.result.now inside c.index.ensures None in
    rw (← c.self.view_is) (sym (at-filled c.args.place s.first i e c.index-2.result.now s.items s.slots.items at (sym (c.in_ok-entry.ensures.value ∙ read))
    c.index-2.ensures))
