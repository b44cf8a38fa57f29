-- No event of a pair is refused as a protocol error.
use Rattle.std.proofs.Common.{◌≡◌, ◌∙◌, Bool, false, refl, sym, ap}
use Rattle.blocks.specs.declared.outcome.Reply.{Reply}
use Rattle.blocks.specs.declared.outcome.Reply.TheVariants as reply
use Rattle.laws.proofs.Theorems.HonestLink.{every_step_is_honest}
use Rattle.model.specs.Pair.{Event, PairHistory, step}
use Rattle.pair_protocol.specs.State.{IsPair, IsPairStep, PairState}
use Rattle.pair.specs.Replies.{tells_protocol_error}

-- The pair has a history from an opening whose nodes have the same settings, so its step is refused as the law says.
pub honest-reply : (event : Event) (out_of_memory : Bool) (p q : PairState) (one : Reply) → IsPair p → IsPairStep event out_of_memory p one q
    → tells_protocol_error one ≡ false
honest-reply event out_of_memory p q (reply.Ok done) pair steps = refl
honest-reply event out_of_memory p q (reply.Closed completed) pair steps = refl
honest-reply event out_of_memory p q (reply.Refused refusal) pair steps =
    let from = pair.has.run in
    every_step_is_honest from.opening from.events event out_of_memory refusal from.shares from.ranges
    (ap (λ (h : PairHistory). (step event out_of_memory h).0) from.is ∙ sym (steps.replies pair.history pair.has))
