-- The last holding is looked at first; one that begins at or before the block is the last to count.
use Rattle.std.proofs.Common.{ℕ, ◌≡◌, ◌≤◌, ◌∙◌, List, Option, ◌∷◌, [], ◌++◌, sym, ap, subst, arith}
use Rattle.std.specs.Prelude.{fold}
use Rattle.overlap.specs.Maps.{AreApart, lowest_with}
use Rattle.overlap.specs.declared.held.Holder.{Holder}
use Rattle.overlap.proofs.Lowest.{apart-front, fold-last, fold-short}
use Rattle.overlap.proofs.held.lowest_holder.Goals as goal

module _ (first : ℕ) (all rest : List (ℕ × Holder)) (e : ℕ × Holder) (a b answer : Option ℕ) (is : all ≡ rest ++ e ∷ []) (apart : AreApart all)
    (so_far : fold (lowest_with first) a all ≡ answer) (next : b ≡ lowest_with first a e) where
  still : fold (lowest_with first) b rest ≡ answer
  still = ap (λ o. fold (lowest_with first) o rest) next ∙ sym (fold-last first a rest e) ∙ ap (fold (lowest_with first) a) (sym is) ∙ so_far

  apart_too : AreApart (rest ++ e ∷ [])
  apart_too = subst AreApart is apart

  goes_on : AreApart rest × (fold (lowest_with first) b rest ≡ answer)
  goes_on = (apart-front rest e apart_too, still)

  stops : e.0 ≤ first → b ≡ answer
  stops low = sym (fold-short first b rest e apart_too low) ∙ still

pub returns-then-start-first : goal.returns-then-start-first
returns-then-start-first c =
    stops c.args.first c.loop-start.holdings c.next_back.new.self (c.in-Some.start.now, c.in-Some.holder.now) c.loop-start.lowest c.with_holder-lowest.result _
    c.in-Some.ensures.steps c.loop-start.invariant.0 c.loop-start.invariant.1 c.with_holder-lowest.ensures (omega (arith, c.if-start-first.true))

pub loop-start-preserved : goal.loop-start-preserved
loop-start-preserved c =
    goes_on c.args.first c.loop-start.holdings c.next_back.new.self (c.in-Some.start.now, c.in-Some.holder.now) c.loop-start.lowest c.with_holder-lowest.result
    _
    c.in-Some.ensures.steps c.loop-start.invariant.0 c.loop-start.invariant.1 c.with_holder-lowest.ensures
