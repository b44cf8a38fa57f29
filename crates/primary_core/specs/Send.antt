-- What is due, and the state after it is sent.
use Rattle.std.specs.Prelude.{Bool, true, false, Option, None, Some, Result, Ok, Err}
use Rattle.blocks.specs.declared.outcome.Done.{Done}
use Rattle.blocks.specs.declared.outcome.What.TheVariants as what
use Rattle.blocks.specs.declared.refusal.Refusal.{Refusal}
use Rattle.model.specs.Frames.{Packet, DataFrame, RsDataReplyFrame}
use Rattle.model.specs.Refusals.{done_with}
use Rattle.primary_protocol.specs.Core.{EndState, PrimaryState}
use Rattle.primary_protocol.specs.Transitions.{called, due, owed, sent_from}

-- whether a frame carries blocks
abbrev pub carries_blocks : Packet → Bool
carries_blocks (DataFrame write place) = true
carries_blocks (RsDataReplyFrame block contents place) = true
carries_blocks _ = false

-- whether what is due is a frame with blocks
abbrev pub is_with_blocks : Result Packet Refusal → Bool
is_with_blocks (Ok packet) = carries_blocks packet
is_with_blocks (Err refusal) = false

-- whether the next frame that is due carries blocks
abbrev pub owes_blocks : PrimaryState → Bool
owes_blocks s = is_with_blocks (due s)

-- sends the due packet of an end, if there is one
abbrev pub sent_owed : EndState → PrimaryState → Option Packet → Done × PrimaryState
sent_owed e s None = (done_with what.Nothing, s)
sent_owed e s (Some packet) = sent_from e (called e s packet) s

-- sends the due packet of this end, if the end is open
abbrev pub sent_at : PrimaryState → Option EndState → Done × PrimaryState
sent_at s None = (done_with what.Nothing, s)
sent_at s (Some e) = sent_owed e s (owed e s)

-- sends the due packet of an open end
abbrev pub sent_now : PrimaryState → Done × PrimaryState
sent_now s = sent_at s s.end
