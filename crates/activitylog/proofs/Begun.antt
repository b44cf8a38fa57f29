-- A write begins in an extent that is active, that finds a free slot, or for which another makes room.
use Rattle.std.proofs.Common.{ℕ, ◌≡◌, ◌+◌, ◌<◌, ◌≤◌, Bool, true, false, ◌||◌, List, ◌∷◌, length, Option, Some, None, refl, sym, ◌∙◌, ap, arith, nat_eq, nat_lt}
use Rattle.std.specs.Prelude.{is_some, unwrap_or, MatchOption}
use Rattle.std.specs.List.{IsDistinct}
use Rattle.std.specs.Map.{keys_of, lookup, remove_entry}
use Rattle.std.proofs.lemmas.Bool.{eqb-true, lt-ltb, le-ltb}
use Rattle.activitylog.specs.Activity.{ActivityState, begun, can_begin, is_active, writes_of}
use Rattle.activitylog.specs.Entries.{active_of, oldest_idle}
use Rattle.activitylog.proofs.Entries.{active-lookup, active-remove, active-remove_oldest, is_some-oldest, length-active, oldest-active, writes-lookup}

-- by the answer, whether the extent was active
pub when_known : (o : Option ℕ) (r : Bool) (P : Type 0) (Q : ℕ → Type 0) → MatchOption o ((r ≡ false) × P) (λ w. (r ≡ true) × Q w) → r ≡ true
    → (w : ℕ) × (o ≡ Some w) × Q w
when_known None r P Q returned is = absurd (let no = returned.0 in cc)
when_known (Some w) r P Q returned is = (w, refl, returned.1)

pub when_unknown : (o : Option ℕ) (r : Bool) (P : Type 0) (Q : ℕ → Type 0) → MatchOption o ((r ≡ false) × P) (λ w. (r ≡ true) × Q w) → r ≡ false
    → (o ≡ None) × P
when_unknown None r P Q returned is = (refl, returned.1)
when_unknown (Some w) r P Q returned is = absurd (let yes = returned.0 in cc)

abbrev pub state : ℕ → List (ℕ × ℕ) → ActivityState
state slots es = record { slots = slots; active = active_of es }

module _ (slots k : ℕ) (es : List (ℕ × ℕ)) where
  known : (w : ℕ) → lookup (nat_eq k) es ≡ Some w → is_active k (active_of es) ≡ true
  known w some = sym (active-lookup k es) ∙ ap is_some some

  unknown : lookup (nat_eq k) es ≡ None → is_active k (active_of es) ≡ false
  unknown none = sym (active-lookup k es) ∙ ap is_some none

  pub begun-known : (w : ℕ) → lookup (nat_eq k) es ≡ Some w → state slots ((k, w + 1) ∷ remove_entry (nat_eq k) es) ≡ begun k (state slots es)
  begun-known w some =
      let writes : writes_of k (active_of es) ≡ w = sym (writes-lookup k es) ∙ ap (λ o. unwrap_or o 0) some in
      rw (known w some, writes, active-remove k es) refl

  pub can-known : (w : ℕ) → lookup (nat_eq k) es ≡ Some w → can_begin k (state slots es) ≡ true
  can-known w some = rw (known w some) refl

  module _ (none : lookup (nat_eq k) es ≡ None) where
    no_writes : writes_of k (active_of es) ≡ 0
    no_writes = sym (writes-lookup k es) ∙ ap (λ o. unwrap_or o 0) none

    pub begun-free : length es < slots → state slots ((k, 1) ∷ es) ≡ begun k (state slots es)
    begun-free free =
        let room : nat_lt (length (active_of es)) slots ≡ true = lt-ltb (length (active_of es)) slots (omega (arith, length-active es)) in
        rw (unknown none, no_writes, room) refl

    pub can-free : length es < slots → can_begin k (state slots es) ≡ true
    can-free free =
        let room : nat_lt (length (active_of es)) slots ≡ true = lt-ltb (length (active_of es)) slots (omega (arith, length-active es)) in
        rw (unknown none, room) refl

    module _ (full : slots ≤ length es) where
      no_room : nat_lt (length (active_of es)) slots ≡ false
      no_room = le-ltb (length (active_of es)) slots (omega (arith, length-active es))

      pub can-full : can_begin k (state slots es) ≡ is_some (oldest_idle (active_of es))
      can-full = rw (unknown none, no_room) (sym (is_some-oldest (active_of es)))

      pub other_key : (i : ℕ) → oldest_idle (active_of es) ≡ Some i → nat_eq i k ≡ false
      other_key i oldest = go (nat_eq i k) refl
        where
          go : (b : Bool) → nat_eq i k ≡ b → b ≡ false
          go false is = refl
          go true is =
              let same : i ≡ k = eqb-true i k is in
              let there : is_active k (active_of es) ≡ true = rw (← same) (oldest-active i (active_of es) oldest) in
              absurd (let nowhere = unknown none in cc)

      pub begun-full : (i : ℕ) → oldest_idle (active_of es) ≡ Some i → IsDistinct nat_eq (keys_of es)
          → state slots (remove_entry (nat_eq i) ((k, 1) ∷ es)) ≡ begun k (state slots es)
      begun-full i oldest distinct =
          rw (other_key i oldest, unknown none, no_writes, no_room, active-remove_oldest i es distinct oldest) refl

  -- whether a write may begin, by what the code asks in turn
  pub can-by : (a b : Bool) → is_some (lookup (nat_eq k) es) ≡ a → nat_lt (length es) slots ≡ b
      → can_begin k (state slots es) ≡ ((a || b) || is_some (oldest_idle (active_of es)))
  can-by a b is_known is_free = rw (← is_known, ← is_free, active-lookup k es, ← length-active es, is_some-oldest (active_of es)) refl
