-- By computation.
use Rattle.std.proofs.Common.{refl}
use Rattle.stops.proofs.worked_moments.Goals as goal

pub returns : goal.returns
returns c = record {
  under_way = record { differs = refl; covered = refl; stopped = refl; copies = refl; unturned = refl };
  start = record { before = refl; stopped = refl; early = refl; taken = refl; late = refl; consistent = refl };
  end = record { same = refl; unmarked = refl; primary = refl; stopped = refl; missed = refl };
  block = record { pending = refl; uncovered = refl; here = refl; there = refl };
  thrice = record { stopped = refl; peer = refl; refused = refl };
  roles = record { back = refl; split = refl };
}
