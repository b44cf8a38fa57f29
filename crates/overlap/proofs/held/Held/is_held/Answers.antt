-- No key is above the last.
use Rattle.std.proofs.Common.{ℕ, ◌≡◌, ◌<◌, ◌∙◌, Option, Some, None, false, refl, sym, ap, is_some, arith}
use Rattle.std.specs.Ordering.{nat_cmp}
use Rattle.std.specs.BTreeMap.{BTreeMap, IsUpperBound, get}
use Rattle.std.proofs.lemmas.Bool.{lt-leb}
use Rattle.std.proofs.lemmas.Bool.Decides.{nat_tests}
use Rattle.overlap.specs.Holdings.{is_held}
use Rattle.overlap.specs.Maps.{holdings}
use Rattle.overlap.specs.declared.held.Span.{Span}
use Rattle.overlap.proofs.Lists.{is_held-holdings}
use Rattle.overlap.proofs.held.Held.is_held.Goals as goal

above : (n : BTreeMap ℕ Span) (number highest : ℕ) → IsUpperBound nat_cmp n highest → highest < number → false ≡ is_held number (holdings n.entries)
above n number highest bound higher = go (get nat_cmp n number) refl
  where
    go : (o : Option Span) → get nat_cmp n number ≡ o → false ≡ is_held number (holdings n.entries)
    go None at = sym (ap is_some at) ∙ is_held-holdings number n.entries
    go (Some s) at = absurd (let low = bound number (rw at refl) in grind (arith, nat_tests))

pub returns-then-number-highest : goal.returns-then-number-highest
returns-then-number-highest c = rw (← c.self.view_is) (c.contains_key.ensures ∙ is_held-holdings c.args.number c.self.inside.by_number.entries)

pub returns-else-number-highest : goal.returns-else-number-highest
returns-else-number-highest c =
    let higher : c.in-Some.highest.now < c.args.number = omega (arith, c.if-number-highest.false) in
    lt-leb c.args.number c.in-Some.highest.now higher
    ∙ rw (← c.self.view_is) (above c.self.inside.by_number c.args.number c.in-Some.highest.now c.in-Some.ensures.greatest higher)
