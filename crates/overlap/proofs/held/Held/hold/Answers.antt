use Rattle.std.proofs.Common.{ℕ, ◌≡◌, ◌∙◌, ap, refl, None, Some, Ok, Err, Option, Result, false, is_some, rules}
use Rattle.std.specs.Prelude.{OnOk}
use Rattle.std.specs.Result.{is_err}
use Rattle.std.specs.Ordering.{nat_cmp}
use Rattle.std.specs.BTreeMap.{BTreeMap, get}
use Rattle.overlap.specs.Holdings.{is_held}
use Rattle.overlap.specs.Maps.{holdings}
use Rattle.overlap.specs.declared.held.Span.{Span}
use Rattle.overlap.proofs.Lists.{is_held-holdings, holdings-insert}
use Rattle.overlap.proofs.Tied.{updated, updated_back, tied-same, tied-hold, absent, clear-of}
use Rattle.overlap.proofs.held.Held.hold.Goals as goal

-- what holds after an `Ok`
on_ok : {T E : Type 0} (r : Result T E) (P : Type 0) → is_err r ≡ false → OnOk r P → P
on_ok (Ok x) P is holds = holds
on_ok (Err e) P is holds = absurd (cc)

-- a number that holds nothing is no key
no_key : (n : BTreeMap ℕ Span) (number : ℕ) → is_held number (holdings n.entries) ≡ false → get nat_cmp n number ≡ None
no_key n number is = go (get nat_cmp n number) refl
  where
    go : (o : Option Span) → get nat_cmp n number ≡ o → o ≡ None
    go None at = refl
    go (Some s) at = absurd (let some = is_held-holdings number n.entries in let has = ap (λ p. is_some p) at in cc)

pub invariant_of-self-then-is_err : goal.invariant_of-self-then-is_err
invariant_of-self-then-is_err c =
    let none = absent c.self.inside.by_number c.self.inside.by_first c.self.invariant c.args.range.first.0 c.args.range.count c.args.range.some
    (rw c.self.view_is c.requires.apart) in
    tied-same c.self.inside.by_number c.insert-2.new.self c.self.inside.by_first c.remove.new.self c.self.invariant (search rules)
    (λ q. updated_back c.args.range.first.0 q _ (get nat_cmp c.self.inside.by_first q) (get nat_cmp c.insert.new.self q) (get nat_cmp c.remove.new.self q)
    (get nat_cmp c.self.inside.by_first) none refl (c.in_ok-insert.ensures.updates.0 q) (c.remove.ensures.updates.0 q))

pub invariant_of-self-else-is_err : goal.invariant_of-self-else-is_err
invariant_of-self-else-is_err c =
    let none = absent c.self.inside.by_number c.self.inside.by_first c.self.invariant c.args.range.first.0 c.args.range.count c.args.range.some
    (rw c.self.view_is c.requires.apart) in
    let failed : is_err c.insert-2.result ≡ false = cc in
    let put = on_ok c.insert-2.result _ failed c.insert-2.ensures.updates in
    tied-hold c.self.inside.by_number c.self.inside.by_first c.self.invariant c.insert-2.new.self c.insert.new.self c.args.number
    (record { first = c.args.range.first.0; count = c.args.range.count })
    c.insert-2.ensures.ordered c.args.range.some (no_key c.self.inside.by_number c.args.number (rw c.self.view_is c.requires.new)) none
    (clear-of c.self.inside.by_number c.self.inside.by_first c.self.invariant c.args.range.first.0 c.args.range.count c.args.range.some
    (rw c.self.view_is c.requires.apart))
    (λ q. updated c.args.number q _ _ _ (put.0 q)) (λ q. updated c.args.range.first.0 q _ _ _ (c.in_ok-insert.ensures.updates.0 q))

pub returns-clause-held : goal.returns-clause-held
returns-clause-held c =
    let failed : is_err c.insert-2.result ≡ false = cc in
    let put = on_ok c.insert-2.result _ failed c.insert-2.ensures.entries in
    ap holdings put ∙ rw (← c.self.view_is)
    (holdings-insert c.args.number (record { first = c.args.range.first.0; count = c.args.range.count }) c.self.inside.by_number.entries
    (rw c.self.view_is c.requires.new))
