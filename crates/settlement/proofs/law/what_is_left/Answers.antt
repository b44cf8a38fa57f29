use Rattle.settlement.proofs.Leaving.{leaves_an_opening, leaves_a_sound_opening, leaves_no_part}
use Rattle.settlement.proofs.law.what_is_left.Goals as goal

pub returns : goal.returns
returns c = record { opening = leaves_an_opening; next = leaves_a_sound_opening; unparted = leaves_no_part }
