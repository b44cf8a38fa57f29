-- What a call answered, as the pair's reply.
use Rattle.std.proofs.Common.{◌≡◌, false, Result, Ok, Err, refl, subst}
use Rattle.blocks.specs.declared.refusal.Refusal.{Refusal}
use Rattle.blocks.specs.declared.refusal.Refusal.TheVariants.{NoMemory}
use Rattle.blocks.specs.declared.outcome.Done.{Done}
use Rattle.blocks.specs.declared.outcome.Reply.{Reply}
use Rattle.blocks.specs.declared.outcome.Reply.TheVariants as reply
use Rattle.endpoint.specs.Calls as link
use Rattle.model.specs.Pair.{Event}
use Rattle.pair_protocol.specs.State.{IsPairStep, PairState, is_out_of_memory}

-- memory was refused in both or in neither
pub out-of-memory-alike : (R : Type 0) (e : Refusal) → link.is_out_of_memory {R = R} (Err e) ≡ is_out_of_memory (reply.Refused e)
out-of-memory-alike R NoMemory = refl
out-of-memory-alike R e = refl

-- a call that is done
pub ok-step : {R : Type 0} (as_reply : Result R Refusal → Reply) (event : Event) (p q : PairState) (result : Result R Refusal) (done : R) (said : Reply)
    → result ≡ Ok done → as_reply (Ok done) ≡ said
    → IsPairStep event (link.is_out_of_memory result) p (as_reply result) q → IsPairStep event false p said q
ok-step {R} as_reply event p q result done said is returned steps =
    subst (λ (r : Reply). IsPairStep event false p r q) returned
    (subst (λ (r : Result R Refusal). IsPairStep event (link.is_out_of_memory r) p (as_reply r) q) is steps)

-- one that is refused
pub err-step : {R : Type 0} (as_reply : Result R Refusal → Reply) (event : Event) (p q : PairState) (result : Result R Refusal) (e : Refusal)
    → as_reply (Err e) ≡ reply.Refused e → result ≡ Err e
    → IsPairStep event (link.is_out_of_memory result) p (as_reply result) q → IsPairStep event (is_out_of_memory (reply.Refused e)) p (reply.Refused e) q
err-step {R} as_reply event p q result e returned is steps =
    subst (λ b. IsPairStep event b p (reply.Refused e) q) (out-of-memory-alike R e)
    (subst (λ (r : Reply). IsPairStep event (link.is_out_of_memory {R = R} (Err e)) p r q) returned
    (subst (λ (r : Result R Refusal). IsPairStep event (link.is_out_of_memory r) p (as_reply r) q) is steps))

-- What is known of one answer.

pub same-done : (a b : Done) → ◌≡◌ {A = Result Done Refusal} (Ok a) (Ok b) → a ≡ b
same-done a b is = cc

pub same-refusal : (a b : Refusal) → ◌≡◌ {A = Result Done Refusal} (Err a) (Err b) → a ≡ b
same-refusal a b is = cc

pub other-way : (e : Refusal) (a : Done) → ◌≡◌ {A = Result Done Refusal} (Err e) (Ok a) → ⊥
other-way e a is = cc
