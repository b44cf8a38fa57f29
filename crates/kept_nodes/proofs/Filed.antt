-- Marks as bytes of a file.
use Rattle.std.proofs.Common.{ℕ, ◌≡◌, ◌≢◌, ◌⊎◌, ◌+◌, ◌-◌, ◌*◌, ◌/◌, ◌<◌, ◌≤◌, ◌==◌, inl, inr, Bool, true, false, not, ◌||◌, ◌&&◌, List, length, take, drop}
use Rattle.std.proofs.Common.{replicate, slice_index, refl, sym, ◌∙◌, ap, arith, length-take, get_or-take, get_or-drop}
use Rattle.std.specs.Prelude.{nat_lt, min}
use Rattle.std.proofs.lemmas.Bool.{cases_lt, cases_Bool, eqb-true}
use Rattle.std.proofs.lemmas.List.{get_or_past, get_or-replicate, length-replicate}
use Rattle.std.proofs.lemmas.Bool.Decides.{nat_tests}
use Rattle.blocks.specs.Ranges.{is_between}
use Rattle.bitmap.specs.Marks.{marked, marking}
use Rattle.bitmap.proofs.Lists.{length-marking, marked-marking}
use Rattle.kept_nodes.specs.Filed.{is_filed}
use Rattle.metadata.specs.Says.{marked_in}

pub or-none : (b : Bool) → (b || false) ≡ b
or-none true = refl
or-none false = refl

pub or-assoc : (a b c : Bool) → ((a || b) || c) ≡ (a || (b || c))
or-assoc true b c = refl
or-assoc false b c = refl

pub and-all : (b : Bool) → (b && true) ≡ b
and-all true = refl
and-all false = refl

pub and-none : (b : Bool) → (b && false) ≡ false
and-none true = refl
and-none false = refl

-- no byte yet
pub filed-none : (first : ℕ) (bytes : List ℕ) (b : ℕ) → is_filed first 0 bytes b ≡ false
filed-none first bytes b = let none : is_between first 0 b ≡ false = grind (arith, nat_tests) in rw none refl

-- one byte more
pub filed-more : (first i : ℕ) (bytes : List ℕ) (b : ℕ) → (byte : Bool) → not (slice_index bytes i == 0) ≡ byte
    → is_filed first (i + 1) bytes b ≡ (is_filed first i bytes b || (is_between (first + i) 1 b && byte))
filed-more first i bytes b byte is = go (cases b (first + i))
  where
    cases : (x y : ℕ) → (x ≡ y) ⊎ (x ≢ y)
    cases x y = elim (cases_lt x y) [ inl low ↦ inr (λ e. omega arith) | inr high ↦ elim (cases_lt y x) [ inl more ↦ inr (λ e. omega arith) | inr none ↦ inl (omega arith) ] ]

    go : (b ≡ first + i) ⊎ (b ≢ first + i) → is_filed first (i + 1) bytes b ≡ (is_filed first i bytes b || (is_between (first + i) 1 b && byte))
    go (inl here) =
        let inside : is_between first (i + 1) b ≡ true = grind (arith, nat_tests) in
        let before : is_between first i b ≡ false = grind (arith, nat_tests) in
        let this : is_between (first + i) 1 b ≡ true = grind (arith, nat_tests) in
        let place : b - first ≡ i = omega arith in
        rw (inside, before, this) (ap (λ n. not (slice_index bytes n == 0)) place ∙ is)
    go (inr other) =
        let alike : is_between first (i + 1) b ≡ is_between first i b = grind (arith, nat_tests) in
        let this : is_between (first + i) 1 b ≡ false = grind (arith, nat_tests) in
        rw (alike, this) (sym (or-none (is_filed first i bytes b)))

-- a number is 0 or another one
pub byte-zero : (n : ℕ) → n ≡ 0 → not (n == 0) ≡ false
byte-zero n is = grind (arith, nat_tests)

pub byte-set : (n : ℕ) → n ≢ 0 → not (n == 0) ≡ true
byte-set n other = grind (arith, nat_tests)

-- marks to which such blocks were added
pub record Adds (old new : List Bool) (such : ℕ → Bool) : Type 0 where
  pub size : length new ≡ length old
  pub marks : (b : ℕ) → b < length old → marked new b ≡ (marked old b || such b)

-- more were added
pub adds-marking : (old mid new : List Bool) (such more all : ℕ → Bool) → Adds old mid such → new ≡ marking more mid
    → ((b : ℕ) → all b ≡ (such b || more b)) → Adds old new all
adds-marking old mid new such more all adds is alike = record {
  size = ap length is ∙ length-marking 0 more mid ∙ adds.size;
  marks = λ b low.
      let start : 0 + b ≡ b = omega arith in
      ap (λ (l : List Bool). marked l b) is ∙ marked-marking 0 more mid b (omega (arith, low, adds.size)) ∙ ap (λ n. marked mid b || more n) start
      ∙ ap (λ m. m || more b) (adds.marks b low) ∙ or-assoc (marked old b) (such b) (more b) ∙ sym (ap (λ m. marked old b || m) (alike b));
}

-- the same blocks
pub adds-alike : (old new : List Bool) (such all : ℕ → Bool) → Adds old new such → ((b : ℕ) → all b ≡ such b) → Adds old new all
adds-alike old new such all adds alike = record { size = adds.size; marks = λ b low. adds.marks b low ∙ sym (ap (λ m. marked old b || m) (alike b)) }

-- the range that goes on in an extent
pub between-more : (first more b start : ℕ) → start ≤ first → is_between start (first + more - start) b ≡ (is_between start (first - start) b || is_between first more b)
between-more first more b start low = grind (arith, nat_tests)

-- and these three ways to be one of the blocks so far
old-one : (x y z m q : Bool) → x ≡ true → y ≡ true → z ≡ false → (x && m) ≡ ((y && m) || (z && q))
old-one x y z m q one two three = rw (one, two, three) (sym (or-none m))

new-one : (x y z m q : Bool) → x ≡ true → y ≡ false → z ≡ true → m ≡ q → (x && m) ≡ ((y && m) || (z && q))
new-one x y z m q one two three same = rw (one, two, three) same

no-one : (x y z m q : Bool) → x ≡ false → y ≡ false → z ≡ false → (x && m) ≡ ((y && m) || (z && q))
no-one x y z m q one two three = rw (one, two, three) refl

-- a portion of the file
pub portion-more : (seen : List ℕ) (first n : ℕ) (bytes : List ℕ) (b : ℕ) → bytes ≡ take n (drop (2101248 + first) seen)
    → (nat_lt b (first + n) && marked_in seen b) ≡ ((nat_lt b first && marked_in seen b) || is_filed first n bytes b)
portion-more seen first n bytes b read = elim (cases_lt b first) [
  | inl below ↦ old-one (nat_lt b (first + n)) (nat_lt b first) (is_between first n b) (marked_in seen b) (not (slice_index bytes (b - first) == 0))
      (grind (arith, nat_tests)) (grind (arith, nat_tests)) (grind (arith, nat_tests))
  | inr from ↦ elim (cases_lt b (first + n)) [
    | inl inside ↦
        let place : 2101248 + first + (b - first) ≡ 2101248 + b = omega arith in
        new-one (nat_lt b (first + n)) (nat_lt b first) (is_between first n b) (marked_in seen b) (not (slice_index bytes (b - first) == 0))
        (grind (arith, nat_tests)) (grind (arith, nat_tests)) (grind (arith, nat_tests))
        (ap (λ x. not (x == 0)) (sym (ap (λ (l : List ℕ). slice_index l (b - first)) read ∙ get_or-take n (drop (2101248 + first) seen) (b - first) 0 (omega arith)
        ∙ get_or-drop (2101248 + first) seen (b - first) 0 ∙ ap (slice_index seen) place)))
    | inr past ↦ no-one (nat_lt b (first + n)) (nat_lt b first) (is_between first n b) (marked_in seen b) (not (slice_index bytes (b - first) == 0))
        (grind (arith, nat_tests)) (grind (arith, nat_tests)) (grind (arith, nat_tests))
  ]
]

-- bytes that are all zero
pub filed-zeros : (first n : ℕ) (bytes : List ℕ) (b : ℕ) → bytes ≡ take n (replicate 4096 0) → is_filed first (length bytes) bytes b ≡ false
filed-zeros first n bytes b zeros =
    let byte : slice_index bytes (b - first) ≡ 0 = ap (λ (l : List ℕ). slice_index l (b - first)) zeros ∙ part-zero (b - first) in
    ap (λ x. is_between first (length bytes) b && not (x == 0)) byte ∙ and-none (is_between first (length bytes) b)
  where
    part-zero : (i : ℕ) → slice_index (take n (replicate 4096 0)) i ≡ 0
    part-zero i = elim (cases_lt i n) [
      | inl low ↦ get_or-take n (replicate 4096 0) i 0 low ∙ elim (cases_lt i 4096) [
        | inl in_row ↦ get_or-replicate 4096 i 0 0 in_row
        | inr past ↦ get_or_past (replicate 4096 0) i 0 (omega (arith, length-replicate {A = ℕ} 4096 0))
      ]
      | inr high ↦ get_or_past (take n (replicate 4096 0)) i 0 (omega (arith, length-take {A = ℕ} n (replicate 4096 0)))
    ]

-- no block was added
pub adds-none : (old : List Bool) (such : ℕ → Bool) → ((b : ℕ) → such b ≡ false) → Adds old old such
adds-none old such none = record { size = refl; marks = λ b low. sym (ap (λ m. marked old b || m) (none b) ∙ or-none (marked old b)) }

pub between-none : (start b : ℕ) → is_between start (start - start) b ≡ false
between-none start b = grind (arith, nat_tests)

-- the blocks of an extent, as far as the device goes
pub extent-between : (extent b end len : ℕ) → end ≡ min len ((extent + 1) * 1024) → extent * 1024 < len → b < len
    → is_between (extent * 1024) (end - extent * 1024) b ≡ (b / 1024 == extent)
extent-between extent b end len is inside low = grind (arith, nat_tests)

-- one extent more
pub entries-more : (x number : ℕ) (entered : Bool) → (nat_lt x (number + 1) && entered) ≡ ((nat_lt x number && entered) || ((x == number) && entered))
entries-more x number entered = elim (cases_lt x number) [
  | inl below ↦ old-one (nat_lt x (number + 1)) (nat_lt x number) (x == number) entered entered (grind (arith, nat_tests)) (grind (arith, nat_tests)) (grind (arith, nat_tests))
  | inr from ↦ elim (cases_lt number x) [
    | inl past ↦ no-one (nat_lt x (number + 1)) (nat_lt x number) (x == number) entered entered (grind (arith, nat_tests)) (grind (arith, nat_tests)) (grind (arith, nat_tests))
    | inr none ↦ new-one (nat_lt x (number + 1)) (nat_lt x number) (x == number) entered entered (grind (arith, nat_tests)) (grind (arith, nat_tests)) (grind (arith, nat_tests)) refl
  ]
]

-- whether a number is another one has a say only there
pub only-there : (such : ℕ → Bool) (x number : ℕ) (v : Bool) → such number ≡ v → ((x == number) && such x) ≡ ((x == number) && v)
only-there such x number v is = elim (cases_Bool (x == number)) [
  | inl same ↦ let here : x ≡ number = eqb-true x number same in ap (λ m. (x == number) && m) (ap such here ∙ is)
  | inr other ↦ ap (λ m. m && such x) other ∙ sym (ap (λ m. m && v) other)
]

pub or-swap : (a b : Bool) → (a || b) ≡ (b || a)
or-swap true true = refl
or-swap true false = refl
or-swap false true = refl
or-swap false false = refl
