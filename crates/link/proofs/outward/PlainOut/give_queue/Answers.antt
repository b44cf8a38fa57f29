use Rattle.std.proofs.Common.{◌≡◌, List, ◌++◌, ℕ, Option, None, Some, refl, sym, ◌∙◌, subst}
use Rattle.std.specs.Prelude.{IfSome}
use Rattle.std.specs.Option.{ForSome}
use Rattle.std.proofs.lemmas.List.{append_cancel_right}
use Rattle.link.specs.Directions.{QueueState, InState, IsTied, IsDirectionWith}
use Rattle.link.specs.Past.{Past}
use Rattle.link.proofs.outward.PlainOut.give_queue.Goals as goal

-- where the sending end has the queue, the taking end has none
alone : (sent taken : List (List ℕ)) (here : QueueState) (there : Option QueueState)
    → IsTied sent taken (Some here) there → (there ≡ None) × (sent ≡ taken ++ here.frames)
alone sent taken here None tied = (refl, tied)
alone sent taken here (Some other) tied = absurd tied

-- the queue that the sending end hands out belongs to the direction
with_queue : (sent : List (List ℕ)) (number : ℕ) (past : List Past) (queue given left : Option QueueState) → given ≡ queue → left ≡ None
    → ForSome queue (λ q. sent ≡ q.taken ++ q.frames)
    → IfSome given (λ q. (taker : InState) → IsTied sent taker.taken queue taker.queue
    → IsDirectionWith (record { sent = sent; number = number; past = past; queue = left }) taker q)
with_queue sent number past queue None left is gone whole = tt
with_queue sent number past queue (Some q) left is gone whole =
    λ taker tied.
    let P : Option QueueState → Type 0 = λ o. IsTied sent taker.taken o taker.queue in
    let apart = alone sent taker.taken q taker.queue (subst P (sym is) tied) in
    let put : sent ≡ q.taken ++ q.frames = whole q (sym is) in
    record {
      not_there = gone;
      not_here = apart.0;
      sent = put;
      taken = append_cancel_right q.taken taker.taken q.frames (sym put ∙ apart.1);
    }

pub returns-clause-with_queue : goal.returns-clause-with_queue
returns-clause-with_queue c =
    rw (← c.self.view_is) (with_queue c.self.inside.sent.went.frames c.self.inside.number c.self.inside.sent.went.past c.self.inside.queue c.take.result
    c.take.new.self c.take.ensures.value c.take.ensures.after c.self.invariant)
