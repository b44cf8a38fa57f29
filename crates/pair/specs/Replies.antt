-- Replies that a pair never gives.
use Rattle.std.specs.Prelude.{Bool, false}
use Rattle.blocks.specs.declared.outcome.Reply.{Reply}
use Rattle.blocks.specs.declared.outcome.Reply.TheVariants as reply
use Rattle.laws.specs.Statements.{is_protocol_error}

-- The step refused a frame that the other end could not have sent, or that belongs to other settings: refusals 20 to
-- 25, 34 and 35.
abbrev pub tells_protocol_error : Reply → Bool
tells_protocol_error (reply.Refused refusal) = is_protocol_error refusal
tells_protocol_error _ = false
