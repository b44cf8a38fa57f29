use Rattle.stops.proofs.Stopping.{promotions_are_sound}
use Rattle.stops.proofs.Returning.{alone_keeps, returns_are_sound, returns_stay_sound}
use Rattle.stops.proofs.changed_roles.Goals as goal

pub returns : goal.returns
returns c = record { promoted = promotions_are_sound; alone = alone_keeps; returned = returns_are_sound; sessions = returns_stay_sound }
