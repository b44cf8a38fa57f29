-- The entry for a block, where a loop enters a number for the blocks of a range, or takes it out.
use Rattle.std.proofs.Common.{◌≡◌, ℕ, ◌+◌, ◌≤◌, nat_le, nat_lt, Bool, true, false, ◌&&◌, refl, ◌∙◌, arith, Option, Some, None}
use Rattle.std.specs.Prelude.{nat_eq, if◌then◌else◌, cond}
use Rattle.std.proofs.lemmas.Bool.Decides.{nat_tests}
use Rattle.transferlog.specs.Log.{is_number}

-- whether the loop has come past the block
abbrev pub passed : ℕ → ℕ → ℕ → Bool
passed first upto block = nat_le first block && nat_lt block upto

pub none_passed : (first block : ℕ) → passed first first block ≡ false
none_passed first block = grind (arith, nat_tests)

here_passed : (first upto block : ℕ) → first ≤ upto → nat_eq upto block ≡ true → passed first (upto + 1) block ≡ true
here_passed first upto block from is = grind (arith, nat_tests)

here_not_yet : (first upto block : ℕ) → nat_eq upto block ≡ true → passed first upto block ≡ false
here_not_yet first upto block is = grind (arith, nat_tests)

elsewhere : (first upto block : ℕ) → nat_eq upto block ≡ false → passed first (upto + 1) block ≡ passed first upto block
elsewhere first upto block is = grind (arith, nat_tests)

-- One more number is entered.
pub entered_next : (first upto number block : ℕ) (old mid new : Option ℕ) → first ≤ upto → mid ≡ (if passed first upto block then Some number else old)
    → new ≡ cond (nat_eq upto block) (Some number) mid → new ≡ (if passed first (upto + 1) block then Some number else old)
entered_next first upto number block old mid new from so is = go (nat_eq upto block) refl
  where
    go : (b : Bool) → nat_eq upto block ≡ b → new ≡ (if passed first (upto + 1) block then Some number else old)
    go true here = rw (here_passed first upto block from here) (is ∙ rw here refl)
    go false other = rw (elsewhere first upto block other) (is ∙ (rw other refl ∙ so))

-- One more entry is taken out, if it has the number.
taken_here : (a b : Bool) (number : ℕ) (old mid new : Option ℕ) → a ≡ true → mid ≡ old → b ≡ is_number number mid → new ≡ (if b then None else mid)
    → new ≡ (if a && is_number number old then None else old)
taken_here a b number old mid new here same has is = rw (here, ← same, ← has) is

pub taken_next : (first upto number block : ℕ) (old here mid new : Option ℕ) → first ≤ upto
    → mid ≡ (if passed first upto block && is_number number old then None else old) → (nat_eq upto block ≡ true → here ≡ mid)
    → new ≡ (if is_number number here then cond (nat_eq upto block) None mid else mid)
    → new ≡ (if passed first (upto + 1) block && is_number number old then None else old)
taken_next first upto number block old here mid new from so at is = go (nat_eq upto block) refl
  where
    go : (b : Bool) → nat_eq upto block ≡ b → new ≡ (if passed first (upto + 1) block && is_number number old then None else old)
    go true equal =
        let same : mid ≡ old = so ∙ rw (here_not_yet first upto block equal) refl in
        let found : here ≡ old = at equal ∙ same in
        rw (here_passed first upto block from equal) (is ∙ rw (equal, same, found) refl)
    go false other = rw (elsewhere first upto block other) (is ∙ (rw other (either (is_number number here) mid) ∙ so))
      where
        either : (b : Bool) (o : Option ℕ) → (if b then o else o) ≡ o
        either true o = refl
        either false o = refl
