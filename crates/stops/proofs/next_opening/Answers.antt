use Rattle.stops.proofs.Stopping.{leaves_a_sound_opening, chains_stay_sound}
use Rattle.stops.proofs.InFlight.{stops_stay_joined}
use Rattle.stops.proofs.Unparted.{leaves_no_part}
use Rattle.stops.proofs.next_opening.Goals as goal

pub returns : goal.returns
returns c = record { opening = leaves_a_sound_opening; unparted = leaves_no_part; chain = chains_stay_sound; in_flight = stops_stay_joined }
