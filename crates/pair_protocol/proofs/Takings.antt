-- The nodes' steps are the pair's: those that take a frame.
use Rattle.std.proofs.Common.{◌≡◌, ◌⊎◌, inl, inr, false, ◌&&◌, List, [], ◌∷◌, ◌++◌, length, Option, Some, None, Result, Ok, Err, refl}
use Rattle.std.proofs.Common.{sym, ◌∙◌, ap, arith}
use Rattle.std.specs.Prelude.{is_none}
use Rattle.std.proofs.lemmas.List.{length-append}
use Rattle.blocks.specs.declared.refusal.Refusal.{Refusal}
use Rattle.blocks.specs.declared.refusal.Refusal.TheVariants.{NoMemory, NothingThere}
use Rattle.blocks.specs.declared.outcome.Done.{Done}
use Rattle.blocks.specs.declared.outcome.Reply.{Reply}
use Rattle.blocks.specs.declared.outcome.Reply.TheVariants as reply
use Rattle.model.specs.Frames.{Received}
use Rattle.model.specs.Acknowledgements.{ack_in}
use Rattle.model.specs.LocalRuns.{Receives, Takes}
use Rattle.model.specs.Pair.{AckInEvent, PairHistory, ReceiveEvent, next_answer, next_frame, step}
use Rattle.model.specs.Primary.{PrimaryHistory, primary_connection}
use Rattle.model.specs.Secondary.{SecondaryHistory, secondary_connection}
use Rattle.model.specs.SecondarySteps.{receive}
use Rattle.laws.proofs.Pair.Refused.{refused_steps_change_nothing}
use Rattle.endpoint.specs.Calls.{is_out_of_memory}
use Rattle.primary_protocol.specs.Node as primary
use Rattle.primary_protocol.specs.Steps as from_primary
use Rattle.secondary_protocol.specs.Node as secondary
use Rattle.secondary_protocol.specs.Steps as from_secondary
use Rattle.pair_protocol.specs.Carried.{Gave, GivesNext}
use Rattle.pair_protocol.specs.State.{PairHas, PairState, IsPairStep, primary_of, secondary_of}
use Rattle.pair_protocol.proofs.Rooms.{next-is, next-back-is}
use Rattle.pair_protocol.proofs.Stepping.{on-primary, on-secondary}
use Rattle.laws.proofs.Rules.Memory.{ack-in-none, receive-none}

-- a list is not itself with one more
longer : {X : Type 0} (xs : List X) (x : X) → xs ≡ xs ++ x ∷ [] → ⊥
longer xs x same = let n = ap length same ∙ length-append xs (x ∷ []) in absurd (omega (arith, n))

refused-of : (as_reply : Result Done Refusal → Reply) → ((e : Refusal) → as_reply (Err e) ≡ reply.Refused e)
    → ((d : Done) → (x : Done) × (as_reply (Ok d) ≡ reply.Ok x))
    → (r : Result Done Refusal) (e : Refusal) → as_reply r ≡ reply.Refused e → r ≡ Err e
refused-of as_reply refuses tells (Ok d) e is = absurd (let no : reply.Ok (tells d).0 ≡ reply.Refused e = sym (tells d).1 ∙ is in cc)
refused-of as_reply refuses tells (Err x) e is = let same : reply.Refused x ≡ reply.Refused e = sym (refuses x) ∙ is in let one : x ≡ e = cc in ap Err one

-- memory was not refused, or this was the refusal
out-of-memory-or : (r : Result Done Refusal) → (is_out_of_memory r ≡ false) ⊎ (r ≡ Err NoMemory)
out-of-memory-or (Ok d) = inl refl
out-of-memory-or (Err e) = go e
  where
    given : Refusal → Result Done Refusal
    given e = Err e

    go : (e : Refusal) → (is_out_of_memory (given e) ≡ false) ⊎ (given e ≡ Err NoMemory)
    go NoMemory = inr refl
    go e = inl refl

-- The secondary takes a frame.
pub receives-step : (p q : PairState) (result : Result Done Refusal) (frame : Option Received) → Gave frame result p.there
    → secondary.NodeSteps (Receives frame (is_none frame && is_out_of_memory result)) (secondary_of p) (from_secondary.replied (λ done. done) result)
    (secondary_of q)
    → ((one : Received) → frame ≡ Some one → (secondary_of q).taken ≡ (secondary_of p).taken ++ one ∷ []) → primary_of p ≡ primary_of q
    → IsPairStep ReceiveEvent (is_out_of_memory result) p (from_secondary.replied (λ done. done) result) q
receives-step p q result None gave steps grows same =
    on-secondary ReceiveEvent (is_out_of_memory result) p q (from_secondary.replied (λ done. done) result) (receive None (is_out_of_memory result))
    (λ h has. ap (λ (r : Reply × SecondaryHistory). (r.0, record h { secondary = r.1 })) (sym (does h has))) steps same
  where
    does : (h : PairHistory) → PairHas p h → receive None (is_out_of_memory result) h.secondary ≡ receive (next_frame h) (is_out_of_memory result) h.secondary
    does h has = receive-none h.secondary (is_out_of_memory result) (next_frame h) (from_secondary.replied (λ done. done) result)
        (steps.replies h.secondary has.secondary)
        (λ nothing. let g = gave.none refl
        (refused-of (from_secondary.replied (λ done. done)) (λ e. refl) (λ d. (d, refl)) result NothingThere nothing) in next-is p h g.out g.inn has
        g.out_there g.in_there ∙ g.next)
receives-step p q result (Some one) gave steps grows same =
    on-secondary ReceiveEvent (is_out_of_memory result) p q (from_secondary.replied (λ done. done) result) (receive (Some one) false)
    (λ h has. ap (λ (r : Reply × SecondaryHistory). (r.0, record h { secondary = r.1 })) (sym (does h has))) steps same
  where
    g : GivesNext p.there (Some one)
    g = gave.took one refl

    next : (h : PairHistory) → PairHas p h → next_frame h ≡ Some one
    next h has = next-is p h g.out g.inn has g.out_there g.in_there ∙ g.next

    fed : (h : PairHistory) → PairHas p h → is_out_of_memory result ≡ false
    fed h has = elim (out-of-memory-or result) [
      | inl fine ↦ fine
      | inr short ↦
          let said : from_secondary.replied (λ (done : Done). done) result ≡ (receive (Some one) false h.secondary).0 =
          steps.replies h.secondary has.secondary in
          let refused : reply.Refused NoMemory ≡ (receive (next_frame h) false h.secondary).0 = ap (from_secondary.replied (λ (done : Done). done)) (sym short)
          ∙ said ∙ ap (λ (f : Option Received). (receive f false h.secondary).0) (sym (next h has)) in
          let still : (step ReceiveEvent false h).1 ≡ h = refused_steps_change_nothing ReceiveEvent false h NoMemory (sym refused) refl in
          let kept : (receive (Some one) false h.secondary).1 ≡ h.secondary = ap (λ (f : Option Received). (receive f false h.secondary).1) (sym (next h has))
          ∙ ap (λ (x : PairHistory). x.secondary) still in
          let after = steps.after h.secondary has.secondary in
          let more = sym (grows one refl) ∙ after.leaves.taken ∙ ap (λ (x : SecondaryHistory). (secondary_connection x).taken) kept
          ∙ sym has.secondary.leaves.taken in
          absurd (longer (secondary_of p).taken one (sym more))
    ]

    does : (h : PairHistory) → PairHas p h → receive (Some one) false h.secondary ≡ receive (next_frame h) (is_out_of_memory result) h.secondary
    does h has = ap (λ (f : Option Received). receive f false h.secondary) (sym (next h has)) ∙ ap (λ b. receive (next_frame h) b h.secondary) (sym (fed h has))

-- The primary takes a frame.
pub acknowledges-step : (p q : PairState) (result : Result Done Refusal) (frame : Option Received) → Gave frame result p.back
    → primary.NodeSteps (Takes frame (is_none frame && is_out_of_memory result)) (primary_of p) (from_primary.replied reply.Ok result) (primary_of q)
    → ((one : Received) → frame ≡ Some one → (primary_of q).taken ≡ (primary_of p).taken ++ one ∷ []) → secondary_of p ≡ secondary_of q
    → IsPairStep AckInEvent (is_out_of_memory result) p (from_primary.replied reply.Ok result) q
acknowledges-step p q result None gave steps grows same =
    on-primary AckInEvent (is_out_of_memory result) p q (from_primary.replied reply.Ok result) (ack_in None (is_out_of_memory result))
    (λ h has. ap (λ (r : Reply × PrimaryHistory). (r.0, record h { primary = r.1 })) (sym (does h has))) steps same
  where
    does : (h : PairHistory) → PairHas p h → ack_in None (is_out_of_memory result) h.primary ≡ ack_in (next_answer h) (is_out_of_memory result) h.primary
    does h has = ack-in-none h.primary (is_out_of_memory result) (next_answer h) (from_primary.replied reply.Ok result) (steps.replies h.primary has.primary)
        (λ nothing. let g = gave.none refl (refused-of (from_primary.replied reply.Ok) (λ e. refl) (λ d. (d, refl)) result NothingThere nothing) in next-back-is
        p h g.out g.inn has g.out_there g.in_there ∙ g.next)
acknowledges-step p q result (Some one) gave steps grows same =
    on-primary AckInEvent (is_out_of_memory result) p q (from_primary.replied reply.Ok result) (ack_in (Some one) false)
    (λ h has. ap (λ (r : Reply × PrimaryHistory). (r.0, record h { primary = r.1 })) (sym (does h has))) steps same
  where
    g : GivesNext p.back (Some one)
    g = gave.took one refl

    next : (h : PairHistory) → PairHas p h → next_answer h ≡ Some one
    next h has = next-back-is p h g.out g.inn has g.out_there g.in_there ∙ g.next

    fed : (h : PairHistory) → PairHas p h → is_out_of_memory result ≡ false
    fed h has = elim (out-of-memory-or result) [
      | inl fine ↦ fine
      | inr short ↦
          let said : from_primary.replied reply.Ok result ≡ (ack_in (Some one) false h.primary).0 = steps.replies h.primary has.primary in
          let refused : reply.Refused NoMemory ≡ (ack_in (next_answer h) false h.primary).0 = ap (from_primary.replied reply.Ok) (sym short) ∙ said
          ∙ ap (λ (f : Option Received). (ack_in f false h.primary).0) (sym (next h has)) in
          let still : (step AckInEvent false h).1 ≡ h = refused_steps_change_nothing AckInEvent false h NoMemory (sym refused) refl in
          let kept : (ack_in (Some one) false h.primary).1 ≡ h.primary = ap (λ (f : Option Received). (ack_in f false h.primary).1) (sym (next h has))
          ∙ ap (λ (x : PairHistory). x.primary) still in
          let after = steps.after h.primary has.primary in
          let more = sym (grows one refl) ∙ after.leaves.taken ∙ ap (λ (x : PrimaryHistory). (primary_connection x).taken) kept
          ∙ sym has.primary.leaves.taken in
          absurd (longer (primary_of p).taken one (sym more))
    ]

    does : (h : PairHistory) → PairHas p h → ack_in (Some one) false h.primary ≡ ack_in (next_answer h) (is_out_of_memory result) h.primary
    does h has = ap (λ (f : Option Received). ack_in f false h.primary) (sym (next h has)) ∙ ap (λ b. ack_in (next_answer h) b h.primary) (sym (fed h has))
