use Rattle.std.proofs.Common.{false, sym, ap}
use Rattle.std.proofs.lemmas.Bool.{le-ltb}
use Rattle.peerdisk.specs.Pending.{Pending}
use Rattle.peerdisk.proofs.Pendings.{start-some}
use Rattle.peerdisk.proofs.disk.PeerDisk.start.Goals as goal

pub returns : goal.returns
returns g c =
    let entry = c.in-Some-entry in
    let found : Pending _ = record { place = c.args.place; epoch = entry.epoch; item = entry.item.now } in
    let order = rw (ap (λ s. s.pending) c.self.view_is) at c.self.invariant.row.order in
    start-some c.args.place c.in-Some.first found c.args.self.now.pending false order (sym entry.ensures) (sym c.in-Some.ensures)
    (le-ltb c.in-Some.first entry.epoch c.if-first-epoch.false)
