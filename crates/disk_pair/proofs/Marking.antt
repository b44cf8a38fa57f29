-- Marks of the blocks on which two disks differ.
use Rattle.std.proofs.Common.{ℕ, zero, suc, ◌≡◌, ◌+◌, ◌<◌, ◌≤◌, inl, inr, Bool, true, false, not, ◌||◌, List, Option, None, length, replicate}
use Rattle.std.proofs.Common.{slice_get, ◌∙◌, sym, ap, arith, refl}
use Rattle.std.specs.Prelude.{◌&&◌, nat_lt}
use Rattle.std.proofs.lemmas.Bool.{both_ways, cases_lt}
use Rattle.std.proofs.lemmas.Option.{slice_get_past}
use Rattle.std.proofs.lemmas.Bool.Decides.{nat_tests}
use Rattle.bitmap.specs.Marks.{marked, marking}
use Rattle.bitmap.proofs.Lists.{length-marking, marked-marking, marked-past}
use Rattle.blocks.specs.Ranges.{is_between}
use Rattle.model.specs.Headline.{Cover}
use Rattle.model.specs.Pair.{same_block}

-- no block of a new bitmap is marked
pub none-marked : (blocks block : ℕ) → marked (replicate blocks false) block ≡ false
none-marked zero block = refl
none-marked (suc blocks) zero = refl
none-marked (suc blocks) (suc block) = none-marked blocks block

-- The blocks before the `number`th on which these disks differ are marked, and no other one.
pub record Marks (local peer : List (List ℕ)) (number : ℕ) (marks : List Bool) : Type 0 where
  pub before : (block : ℕ) → block < number → marked marks block ≡ not (same_block (slice_get local block) (slice_get peer block))
  pub later : (block : ℕ) → number ≤ block → marked marks block ≡ false

or-none : (b : Bool) → (b || false) ≡ b
or-none true = refl
or-none false = refl

or-all : (b : Bool) → (b || true) ≡ true
or-all true = refl
or-all false = refl

pub unmarked : (local peer : List (List ℕ)) (marks : List Bool) → ((block : ℕ) → marked marks block ≡ false) → Marks local peer 0 marks
unmarked local peer marks clear = record { before = λ block low. absurd (omega (arith, low)); later = λ block high. clear block }

-- the disks are alike in the next block
pub marks-alike : (local peer : List (List ℕ)) (n : ℕ) (marks : List Bool) → Marks local peer n marks → same_block (slice_get local n) (slice_get peer n) ≡ true
    → Marks local peer (n + 1) marks
marks-alike local peer n marks was same = record {
  before = λ block low. elim (cases_lt block n) [
    | inl less ↦ was.before block less
    | inr high ↦ let here : block ≡ n = omega (arith, low, high) in
        was.later block high ∙ sym (ap (λ b. not (same_block (slice_get local b) (slice_get peer b))) here ∙ ap not same)
  ];
  later = λ block high. was.later block (omega (arith, high));
}

-- they differ in it, and it is marked
pub marks-differing : (local peer : List (List ℕ)) (n : ℕ) (marks new : List Bool) → Marks local peer n marks
    → same_block (slice_get local n) (slice_get peer n) ≡ false → n < length marks → new ≡ marking (is_between n 1) marks → Marks local peer (n + 1) new
marks-differing local peer n marks new was differ inside is = record { before = before; later = later }
  where
    beside : (block : ℕ) (m : Bool) → block < length marks → is_between n 1 block ≡ m → marked new block ≡ (marked marks block || m)
    beside block m low between =
        let start : 0 + block ≡ block = omega arith in
        ap (λ (l : List Bool). marked l block) is ∙ marked-marking 0 (is_between n 1) marks block low ∙ ap (λ b. marked marks block || is_between n 1 b) start
        ∙ ap (λ m. marked marks block || m) between

    before : (block : ℕ) → block < n + 1 → marked new block ≡ not (same_block (slice_get local block) (slice_get peer block))
    before block low = elim (cases_lt block n) [
      | inl less ↦ let out : is_between n 1 block ≡ false = grind (arith, nat_tests) in
          beside block false (omega (arith, less, inside)) out ∙ or-none (marked marks block) ∙ was.before block less
      | inr high ↦ let here : block ≡ n = omega (arith, low, high) in
          let in-it : is_between n 1 block ≡ true = grind (arith, nat_tests) in
          beside block true (omega (arith, here, inside)) in-it ∙ or-all (marked marks block)
          ∙ sym (ap (λ b. not (same_block (slice_get local b) (slice_get peer b))) here ∙ ap not differ)
    ]

    later : (block : ℕ) → n + 1 ≤ block → marked new block ≡ false
    later block high = elim (cases_lt block (length marks)) [
      | inl low ↦ let out : is_between n 1 block ≡ false = grind (arith, nat_tests) in
          beside block false low out ∙ or-none (marked marks block) ∙ was.later block (omega (arith, high))
      | inr past ↦ ap (λ (l : List Bool). marked l block) is
          ∙ marked-past (marking (is_between n 1) marks) block (omega (arith, past, length-marking 0 (is_between n 1) marks))
    ]

-- Two disks of so many blocks differ only where they were found to differ.
pub marks-cover : (local peer : List (List ℕ)) (blocks : ℕ) (marks : List Bool) → length local ≡ blocks → length peer ≡ blocks
    → ((block : ℕ) → block < blocks → marked marks block ≡ not (same_block (slice_get local block) (slice_get peer block)))
    → Cover (λ block. nat_lt block blocks && marked marks block) (slice_get local) (slice_get peer)
marks-cover local peer blocks marks ours theirs found block differ = elim (cases_lt block blocks) [
  | inl low ↦
      let inside : nat_lt block blocks ≡ true = grind (arith, nat_tests) in
      rw inside (found block low ∙ ap not differ)
  | inr high ↦ absurd (both_ways (same_block (slice_get local block) (slice_get peer block)) differ
      (ap (λ (a : Option (List ℕ)). same_block a (slice_get peer block)) (slice_get_past local block (omega (arith, ours, high)))
      ∙ ap (λ (b : Option (List ℕ)). same_block None b) (slice_get_past peer block (omega (arith, theirs, high)))))
]
