-- How a run of calls of a file goes on.
use Rattle.std.proofs.Common.{Bool, ◌∙◌, ◌≡◌, inl, inr, ⊎_elim, ℕ, List, refl, arith}
use Rattle.std.specs.Prelude.{IsTrue}
use Rattle.metadata.specs.Calls.{Torn, Follows, Elapses, Leaves, IsQuiet}

-- a write that changes nothing
pub Torn-refl : (at n : ℕ) (file : List ℕ) → Torn at n file file
Torn-refl at n file = record { no_shorter = omega arith; no_longer = omega arith; below = λ _ _ _. refl; above = λ _ _ _. refl }

module _ {F : Type 0} (moment : F → ℕ) (left_since : F → ℕ → List ℕ → Type 0) (may_leave : F → List ℕ → Type 0) (step : List ℕ → List ℕ → Type 0) where
  -- before the first call
  pub started : (old : F) → ((c : List ℕ) → left_since old (moment old) c → may_leave old c) → ((c : List ℕ) → may_leave old c → step c c)
      → Leaves moment left_since may_leave step old old
  started old only same = record {
    later = omega arith;
    each = λ c left. (c, only c left, same c (only c left));
    before = λ t c le left. inl left;
  }

  -- one call more, after which a crash leaves what a step makes
  pub goes_on : (old mid new : F) → Leaves moment left_since may_leave step old mid
      → Elapses (moment mid) (moment new) (left_since mid) (left_since new) (may_leave new)
      → ((c : List ℕ) → may_leave new c → (d : List ℕ) × may_leave old d × step d c) → Leaves moment left_since may_leave step old new
  goes_on old mid new so_far time here = record {
    later = omega (arith, so_far.later, time.later);
    each = λ c left. ⊎_elim (so_far.each c) (here c) (time.nothing_else (moment old) c so_far.later left);
    before = λ t c le left. ⊎_elim (so_far.before t c le) (λ now. inr (here c now)) (time.nothing_else t c (omega (arith, le, so_far.later)) left);
  }

  -- what a crash may leave after a write
  pub written : (at n : ℕ) (old new : F) → ((d c : List ℕ) → may_leave old d → Torn at n d c → step d c)
      → Follows (Torn at n) (may_leave old) (may_leave new) → (c : List ℕ) → may_leave new c → (d : List ℕ) × may_leave old d × step d c
  written at n old new torn follows c left =
      let from = follows c left in
      (from.0, from.1, torn from.0 c from.1 from.2)

  -- one write
  pub one_write : (at n : ℕ) (old new : F) → ((c : List ℕ) → left_since old (moment old) c → may_leave old c)
      → ((d c : List ℕ) → may_leave old d → Torn at n d c → step d c)
      → Follows (Torn at n) (may_leave old) (may_leave new) → Elapses (moment old) (moment new) (left_since old) (left_since new) (may_leave new)
      → Leaves moment left_since may_leave step old new
  one_write at n old new only torn follows time =
      goes_on old old new (started old only (λ c left. torn c c left (Torn-refl at n c))) time (written at n old new torn follows)

  -- a write and a sync
  pub write_and_sync : (at n : ℕ) (old mid new : F) → ((c : List ℕ) → left_since old (moment old) c → may_leave old c)
      → ((d c : List ℕ) → may_leave old d → Torn at n d c → step d c)
      → Follows (Torn at n) (may_leave old) (may_leave mid) → Elapses (moment old) (moment mid) (left_since old) (left_since mid) (may_leave mid)
      → ((c : List ℕ) → may_leave new c → may_leave mid c) → Elapses (moment mid) (moment new) (left_since mid) (left_since new) (may_leave new)
      → Leaves moment left_since may_leave step old new
  write_and_sync at n old mid new only torn follows time crash later =
      goes_on old mid new (one_write at n old mid only torn follows time) later (λ c left. written at n old mid torn follows c (crash c left))

  -- a call that reads or syncs
  pub no_write : (old mid new : F) → Leaves moment left_since may_leave step old mid → ((c : List ℕ) → may_leave new c → may_leave mid c)
      → ((c : List ℕ) → may_leave mid c → (d : List ℕ) × may_leave old d × step d c)
      → Elapses (moment mid) (moment new) (left_since mid) (left_since new) (may_leave new) → Leaves moment left_since may_leave step old new
  no_write old mid new so_far crash here time = goes_on old mid new so_far time (λ c left. here c (crash c left))

-- a run of steps is one of wider steps
pub wider : {F : Type 0} (moment : F → ℕ) (left_since : F → ℕ → List ℕ → Type 0) (may_leave : F → List ℕ → Type 0) (step step' : List ℕ → List ℕ → Type 0) (old new : F)
    → ((d c : List ℕ) → may_leave old d → step d c → step' d c) → Leaves moment left_since may_leave step old new → Leaves moment left_since may_leave step' old new
wider moment left_since may_leave step step' old new widens run = record {
  later = run.later;
  each = λ c left. let from = run.each c left in (from.0, from.1, widens from.0 c from.1 from.2);
  before = λ t c le left. ⊎_elim inl (λ from. inr (from.0, from.1, widens from.0 c from.1 from.2)) (run.before t c le left);
}

module _ {F : Type 0} (moment : F → ℕ) (left_since : F → ℕ → List ℕ → Type 0) (may_leave : F → List ℕ → Type 0) (seen : F → List ℕ) (faithful : F → Bool) where
  -- no call
  pub quiet_none : (old : F) → ((c : List ℕ) → left_since old (moment old) c → may_leave old c) → IsQuiet moment left_since may_leave seen faithful old old
  quiet_none old only = record {
    same = refl;
    falls = λ is. is;
    crash = λ c left. left;
    run = started moment left_since may_leave (λ d c. c ≡ d) old only (λ c left. refl);
  }

  -- a call that writes nothing
  pub quiet_call : (old new : F) → ((c : List ℕ) → left_since old (moment old) c → may_leave old c) → seen new ≡ seen old → (IsTrue (faithful new) → IsTrue (faithful old))
      → ((c : List ℕ) → may_leave new c → may_leave old c) → Elapses (moment old) (moment new) (left_since old) (left_since new) (may_leave new)
      → IsQuiet moment left_since may_leave seen faithful old new
  quiet_call old new only same falls crash time = record {
    same = same;
    falls = falls;
    crash = crash;
    run = goes_on moment left_since may_leave (λ d c. c ≡ d) old old new (started moment left_since may_leave (λ d c. c ≡ d) old only (λ c left. refl)) time
        (λ c left. (c, crash c left, refl));
  }

  -- one after another
  pub quiet_then : (a b c : F) → IsQuiet moment left_since may_leave seen faithful a b → IsQuiet moment left_since may_leave seen faithful b c
      → IsQuiet moment left_since may_leave seen faithful a c
  quiet_then a b c s t = record {
    same = t.same ∙ s.same;
    falls = λ is. s.falls (t.falls is);
    crash = λ f left. s.crash f (t.crash f left);
    run = record {
      later = omega (arith, s.run.later, t.run.later);
      each = λ f left. ⊎_elim (s.run.each f) (λ from. (from.0, s.crash from.0 from.1, from.2)) (t.run.before (moment a) f s.run.later left);
      before = λ m f le left. ⊎_elim (s.run.before m f le) (λ from. inr (from.0, s.crash from.0 from.1, from.2)) (t.run.before m f (omega (arith, le, s.run.later)) left);
    };
  }

-- a quiet run, and then one of steps
pub quiet_and : {F : Type 0} (moment : F → ℕ) (left_since : F → ℕ → List ℕ → Type 0) (may_leave : F → List ℕ → Type 0) (seen : F → List ℕ) (faithful : F → Bool)
    (step step' : List ℕ → List ℕ → Type 0) (a b c : F) → ((d f : List ℕ) → f ≡ d → step' d f) → ((d f : List ℕ) → step d f → step' d f)
    → IsQuiet moment left_since may_leave seen faithful a b → Leaves moment left_since may_leave step b c → Leaves moment left_since may_leave step' a c
quiet_and moment left_since may_leave seen faithful step step' a b c same widens s t = record {
  later = omega (arith, s.run.later, t.later);
  each = λ f left. ⊎_elim (λ past. let from = s.run.each f past in (from.0, from.1, same from.0 f from.2)) (λ from. (from.0, s.crash from.0 from.1, widens from.0 f from.2))
      (t.before (moment a) f s.run.later left);
  before = λ m f le left. ⊎_elim
      (λ past. ⊎_elim inl (λ from. inr (from.0, from.1, same from.0 f from.2)) (s.run.before m f le past))
      (λ from. inr (from.0, s.crash from.0 from.1, widens from.0 f from.2)) (t.before m f (omega (arith, le, s.run.later)) left);
}
