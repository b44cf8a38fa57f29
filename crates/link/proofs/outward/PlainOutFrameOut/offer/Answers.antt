use Rattle.std.proofs.Common.{◌≡◌, ℕ, List, [], ◌∷◌, ◌++◌, Some, ap, append_assoc}
use Rattle.link.specs.Past.{Went}
use Rattle.link.specs.Directions.{QueueState}
use Rattle.link.proofs.outward.PlainOutFrameOut.offer.Goals as goal

-- a frame put into a queue and added to the frames sent leaves the queue whole
put_in : (queue new : QueueState) (frame : List ℕ) (sent more : List (List ℕ)) → sent ≡ queue.taken ++ queue.frames
    → new ≡ record queue { frames = queue.frames ++ frame ∷ [] } → more ≡ sent ++ frame ∷ []
    → (x : QueueState) → Some new ≡ Some x → more ≡ x.taken ++ x.frames
put_in queue new frame sent more whole put added x is =
    let same : (queue.taken ++ queue.frames) ++ frame ∷ [] ≡ queue.taken ++ (queue.frames ++ frame ∷ []) = append_assoc queue.taken queue.frames (frame ∷ []) in
    cc

pub invariant_of-self-2 : goal.invariant_of-self-2
invariant_of-self-2 c = put_in c.in-Some.queue c.offer.new.self c.args.frame _ _ (c.self.invariant c.in-Some.queue c.in-Some.is) c.in_ok-offer.ensures.put
    (ap (λ (w : Went). w.frames) c.and-sent.ensures)
