use Rattle.std.proofs.Common.{◌≡◌, slice_get, subst, sym}
use Rattle.session_api.specs.Opening.{opening_of}
use Rattle.serving.proofs.session.run_filed.Goals as goal

pub start-requires-clause-opening : goal.start-requires-clause-opening
start-requires-clause-opening g c κs within = subst (λ (d : _). g.L.Linked.opening ≡ opening_of c.args.parts (slice_get d.local) (slice_get d.peer)) (sym c.disks.view_is) c.requires.opening
