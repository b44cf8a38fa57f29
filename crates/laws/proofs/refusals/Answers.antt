-- Refusals of the pair, event by event.
use Rattle.laws.proofs.Theorems.Refusals.{refused_steps_change_nothing, refused_frames_close, refused_frames_close_the_primary}
use Rattle.laws.proofs.Theorems.Refusals.{refused_frames_close_the_secondary, refused_frames_leave_the_items, refused_frames_lose_the_connection}
use Rattle.laws.proofs.refusals.Goals as goal

pub returns-clause-unchanged : goal.returns-clause-unchanged
returns-clause-unchanged c = refused_steps_change_nothing

pub returns-clause-closed : goal.returns-clause-closed
returns-clause-closed c = refused_frames_close

pub returns-clause-effects : goal.returns-clause-effects
returns-clause-effects c = refused_frames_close_the_primary

pub returns-clause-effects_too : goal.returns-clause-effects_too
returns-clause-effects_too c = refused_frames_close_the_secondary

pub returns-clause-items_stay : goal.returns-clause-items_stay
returns-clause-items_stay c = refused_frames_leave_the_items

pub returns-clause-loss : goal.returns-clause-loss
returns-clause-loss c = refused_frames_lose_the_connection
