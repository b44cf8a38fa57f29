-- What the writes hold, beside the block under way.
use Rattle.std.proofs.Common.{ℕ, ◌≡◌, ◌+◌, ◌<◌, ◌==◌, nat_lt, Bool, true, false, not, List, [], ◌∷◌, refl, ◌∙◌, ap, arith, Option, Some, None}
use Rattle.std.specs.Prelude.{if◌then◌else◌}
use Rattle.std.specs.List.{AllByRecursion}
use Rattle.std.proofs.lemmas.Bool.{le-ltb}
use Rattle.overlap.specs.Holdings.{Holding, holding, holding_too, without}
use Rattle.transferlog.proofs.Numbers.{lower_number, higher_number}
use Rattle.transferlog.specs.declared.report.Completed.{Completed}
use Rattle.primary_protocol.specs.Core.{freeing}
use Rattle.primary_core.specs.Kept.{IsNumbered, IsWriter}
use Rattle.primary_core.specs.State.{held_with}
use Rattle.resync.specs.declared.under_way.UnderWay.{UnderWay}

-- What a write holds goes, and the block under way stays.

pub without-held : (number : ℕ) (way : Option UnderWay) (held : List Holding) → 0 < number
    → without number (held_with way held) ≡ held_with way (without number held)
without-held number None held some = refl
without-held number (Some w) held some = rw (lower_number 0 number some) refl

pub freeing-held : (completed : List Completed) (way : Option UnderWay) (held : List Holding) → AllByRecursion IsNumbered completed
    → freeing completed (held_with way held) ≡ held_with way (freeing completed held)
freeing-held [] way held all = refl
freeing-held (c ∷ completed) way held all =
    ap (freeing completed) (without-held c.number way held all.0) ∙ freeing-held completed way (without c.number held) all.1

-- What another write holds comes.

pub holding-held : (h : Holding) (way : Option UnderWay) (held : List Holding) → 0 < h.number
    → holding_too h (held_with way held) ≡ held_with way (holding_too h held)
holding-held h None held some = refl
holding-held h (Some w) held some = rw (le-ltb h.number 0 (omega arith)) refl

-- Only accepted writes hold something.

writers-kept : (accepted : ℕ) (b : Bool) (h : Holding) (held : List Holding) → IsWriter accepted h → AllByRecursion (IsWriter accepted) held
    → AllByRecursion (IsWriter accepted) (if b then h ∷ held else held)
writers-kept accepted true h held here all = (here, all)
writers-kept accepted false h held here all = all

pub writers-without : (accepted number : ℕ) (held : List Holding) → AllByRecursion (IsWriter accepted) held
    → AllByRecursion (IsWriter accepted) (without number held)
writers-without accepted number [] all = tt
writers-without accepted number (h ∷ held) all = writers-kept accepted (not (h.number == number)) h (without number held) all.0
    (writers-without accepted number held all.1)

pub writers-freeing : (accepted : ℕ) (completed : List Completed) (held : List Holding) → AllByRecursion (IsWriter accepted) held
    → AllByRecursion (IsWriter accepted) (freeing completed held)
writers-freeing accepted [] held all = all
writers-freeing accepted (c ∷ completed) held all = writers-freeing accepted completed (without c.number held) (writers-without accepted c.number held all)

-- where one more was accepted
writer-later : (accepted : ℕ) (held : List Holding) → AllByRecursion (IsWriter accepted) held → AllByRecursion (IsWriter (accepted + 1)) held
writer-later accepted [] all = tt
writer-later accepted (h ∷ held) all = (record { numbered = all.0.numbered; known = omega (arith, all.0.known) }, writer-later accepted held all.1)

inserted : (accepted : ℕ) (b : Bool) (new h : Holding) (held : List Holding) → IsWriter accepted new → IsWriter accepted h
    → AllByRecursion (IsWriter accepted) held → AllByRecursion (IsWriter accepted) (holding_too new held)
    → AllByRecursion (IsWriter accepted) (if b then new ∷ h ∷ held else h ∷ holding_too new held)
inserted accepted true new h held is here all rest = (is, (here, all))
inserted accepted false new h held is here all rest = (here, rest)

writers-too : (accepted : ℕ) (new : Holding) (held : List Holding) → IsWriter accepted new → AllByRecursion (IsWriter accepted) held
    → AllByRecursion (IsWriter accepted) (holding_too new held)
writers-too accepted new [] is all = (is, tt)
writers-too accepted new (h ∷ held) is all = inserted accepted (nat_lt new.number h.number) new h held is all.0 all.1 (writers-too accepted new held is all.1)

-- the next write holds its blocks
pub writers-next : (accepted first count : ℕ) (held : List Holding) → AllByRecursion (IsWriter accepted) held
    → AllByRecursion (IsWriter (accepted + 1)) (holding_too (holding (accepted + 1) first count) held)
writers-next accepted first count held all = writers-too (accepted + 1) (holding (accepted + 1) first count) held
    (record { numbered = omega arith; known = omega arith }) (writer-later accepted held all)

-- The block under way holds nothing more.

without-zero : (accepted : ℕ) (held : List Holding) → AllByRecursion (IsWriter accepted) held → without 0 held ≡ held
without-zero accepted [] all = refl
without-zero accepted (h ∷ held) all = rw (higher_number h.number 0 all.0.numbered) (ap (λ more. h ∷ more) (without-zero accepted held all.1))

pub without-block : (accepted : ℕ) (way : Option UnderWay) (held : List Holding) → AllByRecursion (IsWriter accepted) held
    → without 0 (held_with way held) ≡ held
without-block accepted None held all = without-zero accepted held all
without-block accepted (Some w) held all = without-zero accepted held all
