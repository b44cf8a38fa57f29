-- What a write at one place leaves as it was.
use Rattle.std.proofs.Common.{ℕ, ◌≡◌, ◌+◌, ◌<◌, ◌≤◌, ◌==◌, inl, inr, true, false, not, List, [], ◌∷◌, length, take, drop, slice_index, sym, ◌∙◌, ap, arith}
use Rattle.std.proofs.Common.{length-take, length-drop, get_or-take, get_or-drop}
use Rattle.std.specs.Prelude.{if◌then◌else◌}
use Rattle.std.proofs.lemmas.List.{ext_get_or, get_or_past}
use Rattle.std.proofs.lemmas.Bool.{cases_lt}
use Rattle.metadata.specs.Calls.{Torn, Holds}
use Rattle.metadata.specs.Says.{selected_in, slot_at, slot_bytes}
use Rattle.metadata.specs.Steps.{SameFront, OnlyEntry, OnlyMarks}

-- the same length, and the same bytes outside a range
pub record Within (at n : ℕ) (old new : List ℕ) : Type 0 where
  pub size : length new ≡ length old
  pub below : (i : ℕ) → i < at → slice_index new i ≡ slice_index old i
  pub above : (i : ℕ) → at + n ≤ i → slice_index new i ≡ slice_index old i

past_both : (old new : List ℕ) (i : ℕ) → length new ≡ length old → length old ≤ i → slice_index new i ≡ slice_index old i
past_both old new i size high = get_or_past new i 0 (omega arith) ∙ sym (get_or_past old i 0 high)

-- a write inside the file, whole or torn
pub within-torn : (at n : ℕ) (old new : List ℕ) → at + n ≤ length old → Torn at n old new → Within at n old new
within-torn at n old new inside torn =
    let size : length new ≡ length old = omega (arith, torn.no_shorter, torn.no_longer) in
    record {
      size = size;
      below = λ i low. torn.below i (omega arith) low;
      above = λ i high. elim (cases_lt i (length old)) [
        | inl in_file ↦ torn.above i in_file high
        | inr past ↦ past_both old new i size past
      ];
    }

-- a part of two files
pub part-same : (a n : ℕ) (old new : List ℕ) → length new ≡ length old → ((i : ℕ) → a ≤ i → i < a + n → slice_index new i ≡ slice_index old i)
    → take n (drop a new) ≡ take n (drop a old)
part-same a n old new size same =
    ext_get_or 0 (take n (drop a new)) (take n (drop a old))
    (omega (arith, length-take n (drop a new), length-take n (drop a old), length-drop a new, length-drop a old))
    (λ i low.
    let short : i < n = omega (arith, length-take n (drop a new)) in
    get_or-take n (drop a new) i 0 short ∙ get_or-drop a new i 0 ∙ same (a + i) (omega arith) (omega arith)
    ∙ sym (get_or-drop a old i 0) ∙ sym (get_or-take n (drop a old) i 0 short))

-- the first bytes of two files
pub first-same : (n : ℕ) (old new : List ℕ) → length new ≡ length old → ((i : ℕ) → i < n → slice_index new i ≡ slice_index old i)
    → take n new ≡ take n old
first-same n old new size same =
    ext_get_or 0 (take n new) (take n old)
    (omega (arith, length-take n new, length-take n old))
    (λ i low.
    let short : i < n = omega (arith, length-take n new) in
    get_or-take n new i 0 short ∙ same i short ∙ sym (get_or-take n old i 0 short))

-- a slot ends before the entries
pub slot-low : (n : ℕ) → slot_at n + 128 ≤ 4096
slot-low n = elim (n == 0) as (λ b. (if b then 1024 else 1536) + 128 ≤ 4096) [ true ↦ omega arith | false ↦ omega arith ]

-- files with the same bytes before the entries
pub front-same : (old new : List ℕ) → length new ≡ length old → ((i : ℕ) → i < 4096 → slice_index new i ≡ slice_index old i) → SameFront old new
front-same old new size same =
    let selected : selected_in new ≡ selected_in old = ap (λ n. if n == 0 then 0 else 1) (same 512 (omega arith)) in
    record {
      size = size;
      header = first-same 48 old new size (λ i low. same i (omega arith));
      selected = selected;
      saved = ap (λ n. slot_bytes n new) selected
          ∙ part-same (slot_at (selected_in old)) 128 old new size (λ i from below. same i (omega (arith, slot-low (selected_in old))));
    }

-- only an entry differs
pub only-entry : (extent : ℕ) (old new : List ℕ) → extent < 2097152 → Within (4096 + extent) 1 old new → OnlyEntry extent old new
only-entry extent old new inside within = record {
  front = front-same old new within.size (λ i low. within.below i (omega arith));
  others = λ x few other. ap (λ n. not (n == 0)) (elsewhere (4096 + x) (λ is. other (omega arith)));
  marks = λ b. ap (λ n. not (n == 0)) (within.above (2101248 + b) (omega arith));
}
  where
    elsewhere : (i : ℕ) → (i ≡ 4096 + extent → ⊥) → slice_index new i ≡ slice_index old i
    elsewhere i other = elim (cases_lt i (4096 + extent)) [
      | inl low ↦ within.below i low
      | inr high ↦ elim (cases_lt (4096 + extent) i) [
        | inl more ↦ within.above i (omega arith)
        | inr no_more ↦ absurd (other (omega arith))
      ]
    ]

-- only marks differ
pub only-marks : (first count : ℕ) (old new : List ℕ) → Within (2101248 + first) count old new → OnlyMarks first count old new
only-marks first count old new within = record {
  front = front-same old new within.size (λ i low. within.below i (omega arith));
  entries = λ x few. ap (λ n. not (n == 0)) (within.below (4096 + x) (omega arith));
  below = λ b low. ap (λ n. not (n == 0)) (within.below (2101248 + b) (omega arith));
  above = λ b high. ap (λ n. not (n == 0)) (within.above (2101248 + b) (omega arith));
}

-- the byte that was written
pub byte-here : (at b : ℕ) (file : List ℕ) → Holds file at (b ∷ []) → slice_index file at ≡ b
byte-here at b file holds =
    let place : at + 0 ≡ at = omega arith in
    ap (slice_index file) (sym place) ∙ holds.each 0 (omega arith)
