use Rattle.stops.proofs.Events.{events_cover}
use Rattle.stops.proofs.Growing.{cover_grows}
use Rattle.stops.proofs.cover_grows.Goals as goal

pub returns : goal.returns
returns c = record { grows = cover_grows; events = events_cover }
