-- A run, one event after another.
use Rattle.std.proofs.Common.{◌≡◌, Bool, List, [], ◌∷◌, ◌++◌, length, refl, sym, ◌∙◌, ap, subst, arith}
use Rattle.blocks.specs.declared.outcome.Reply.{Reply}
use Rattle.model.specs.Pair.{Event, PairHistory, step, run}
use Rattle.pair_protocol.specs.State.{PairHas, PairState, IsPairStep, Ran, answered, is_out_of_memory}

-- nothing happened
pub ran-none : (p : PairState) → Ran [] [] p p
ran-none p = record { answers = λ h has. refl; after = λ h has. has }

answered-more : (events : List Event) (replies : List Reply) (event : Event) (one : Reply) → length events ≡ length replies
    → answered (events ++ event ∷ []) (replies ++ one ∷ []) ≡ answered events replies ++ (event, is_out_of_memory one) ∷ []
answered-more [] [] event one same = refl
answered-more [] (r ∷ replies) event one same = absurd (omega (arith, same))
answered-more (e ∷ events) [] event one same = absurd (omega (arith, same))
answered-more (e ∷ events) (r ∷ replies) event one same =
    let n : length events ≡ length replies = omega (arith, same) in
    ap (λ (l : List (Event × Bool)). (e, is_out_of_memory r) ∷ l) (answered-more events replies event one n)

run-more : (events : List (Event × Bool)) (event : Event) (out_of_memory : Bool) (h : PairHistory)
    → run (events ++ (event, out_of_memory) ∷ []) h ≡ (
      (run events h).0 ++ (step event out_of_memory (run events h).1).0 ∷ [],
      (step event out_of_memory (run events h).1).1,
    )
run-more [] event out_of_memory h = refl
run-more (first ∷ events) event out_of_memory h = ap (λ (r : List Reply × PairHistory). ((step first.0 first.1 h).0 ∷ r.0, r.1))
    (run-more events event out_of_memory (step first.0 first.1 h).1)

-- one event more
pub ran-more : (events : List Event) (replies : List Reply) (event : Event) (one : Reply) (p q next : PairState) → length events ≡ length replies
    → Ran events replies p q → IsPairStep event (is_out_of_memory one) q one next
    → Ran (events ++ event ∷ []) (replies ++ one ∷ []) p next
ran-more events replies event one p q next same ran steps = record {
  answers = λ h has.
      let now = ran.after h has in
      ap (λ (l : List Reply). l ++ one ∷ []) (ran.answers h has)
      ∙ ap (λ (r : Reply). (run (answered events replies) h).0 ++ r ∷ []) (steps.replies (run (answered events replies) h).1 now)
      ∙ sym (ap (λ (r : List Reply × PairHistory). r.0) (all h));
  after = λ h has.
      subst (λ (r : List Reply × PairHistory). PairHas next r.1) (sym (all h)) (steps.after (run (answered events replies) h).1 (ran.after h has));
}
  where
    all : (h : PairHistory) → run (answered (events ++ event ∷ []) (replies ++ one ∷ [])) h
        ≡ (
          (run (answered events replies) h).0 ++ (step event (is_out_of_memory one) (run (answered events replies) h).1).0 ∷ [],
          (step event (is_out_of_memory one) (run (answered events replies) h).1).1,
        )
    all h = ap (λ (l : List (Event × Bool)). run l h) (answered-more events replies event one same)
        ∙ run-more (answered events replies) event (is_out_of_memory one) h
