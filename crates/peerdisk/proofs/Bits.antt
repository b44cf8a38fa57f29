-- The bits of the blocks, as words change.
use Rattle.std.proofs.Common.{ℕ, zero, suc, ◌≡◌, ◌≢◌, ◌+◌, ◌-◌, ◌*◌, ◌/◌, ◌%◌, ◌^◌, ◌<◌, ◌≤◌, ◌==◌, ◌⊎◌, inl, inr, true, false, not, ◌&&◌, ◌||◌}
use Rattle.std.proofs.Common.{List, ◌++◌, length, take, drop, refl, sym, ◌∙◌, ap, arith, replicate}
use Rattle.std.specs.Prelude.{slice_set, slice_index}
use Rattle.std.specs.Int.{w64}
use Rattle.std.specs.Int.RustNames.{bit_or}
use Rattle.std.proofs.Math.Bool.{or-false}
use Rattle.std.proofs.lemmas.Bool.{cases_eq, cases_lt, or_right}
use Rattle.std.proofs.lemmas.Bool.Decides.{nat_tests}
use Rattle.std.proofs.lemmas.List.{get_or-set_same, get_or-set_other, get_or-append_right, get_or_append_left, get_or-drop, get_or-take, length-take-le}
use Rattle.std.proofs.lemmas.Nat.Bits.{bit_at_set_same, bit_at_set_other, bit_at-zero}
use Rattle.blocks.specs.Ranges.{is_between}
use Rattle.peerdisk.specs.Stamped.{bit_of}

-- The bits of these blocks are set, or were one before.
abbrev pub AreSet : ℕ → ℕ → List ℕ → List ℕ → Type 0
AreSet first count before now = (block : ℕ) → bit_of now block ≡ (bit_of before block || is_between first count block)

-- the block's bit in its word
abbrev mask : ℕ → ℕ
mask block = 1 * 2 ^ (block % 64) % 18446744073709551616

abbrev pub with_bit : List ℕ → ℕ → List ℕ
with_bit words block = slice_set words (block / 64) (bit_or (slice_index words (block / 64)) (mask block))

bit-set_same : (words : List ℕ) (block : ℕ) → block / 64 < length words → bit_of (with_bit words block) block ≡ true
bit-set_same words block within =
    let word = slice_index words (block / 64) in
    rw (get_or-set_same words (block / 64) (bit_or word (mask block)) 0 within)
    (ap (λ bit. bit == 1) (bit_at_set_same w64 word (block % 64) (omega arith)))

bit-set_other : (words : List ℕ) (block other : ℕ) → block / 64 < length words → other ≢ block → bit_of (with_bit words block) other ≡ bit_of words other
bit-set_other words block other within apart = go (cases_eq (other / 64) (block / 64))
  where
    go : (other / 64 ≡ block / 64) ⊎ (other / 64 ≡ block / 64 → ⊥) → bit_of (with_bit words block) other ≡ bit_of words other
    go (inl same) =
        let word = slice_index words (block / 64) in
        let place : other % 64 ≢ block % 64 = λ e. apart (omega arith) in
        rw (same, get_or-set_same words (block / 64) (bit_or word (mask block)) 0 within)
        (ap (λ bit. bit == 1) (bit_at_set_other w64 word (block % 64) (omega arith) (other % 64) place))
    go (inr elsewhere) =
        let word = slice_index words (block / 64) in
        rw (get_or-set_other words (block / 64) (other / 64) (bit_or word (mask block)) 0 elsewhere) refl

pub set-none : (first count : ℕ) (words : List ℕ) → count ≡ 0 → AreSet first count words words
set-none first count words none block =
    let outside : is_between first count block ≡ false = grind (arith, nat_tests) in
    rw outside (sym (or-false (bit_of words block)))

-- one block more
pub set-more : (first block : ℕ) (before now : List ℕ) → first ≤ block → block / 64 < length now → AreSet first (block - first) before now
    → AreSet first (block + 1 - first) before (with_bit now block)
set-more first block before now from within set other = go (cases_eq other block)
  where
    go : (other ≡ block) ⊎ (other ≡ block → ⊥) → bit_of (with_bit now block) other ≡ (bit_of before other || is_between first (block + 1 - first) other)
    go (inl same) =
        let inside : is_between first (block + 1 - first) block ≡ true = grind (arith, nat_tests) in
        rw same (bit-set_same now block within ∙ sym (or_right (bit_of before block) (is_between first (block + 1 - first) block) inside))
    go (inr apart) =
        let alike : is_between first (block + 1 - first) other ≡ is_between first (block - first) other = grind (arith, nat_tests) in
        rw alike (bit-set_other now block other within apart ∙ set other)

-- The words of an extent are zeros.
abbrev pub AreCleared : ℕ → List ℕ → List ℕ → Type 0
AreCleared extent before now = (block : ℕ) → bit_of now block ≡ (not (block / 1024 == extent) && bit_of before block)

pub zero-word : (n word : ℕ) → slice_index (replicate n 0) word ≡ 0
zero-word zero word = refl
zero-word (suc n) zero = refl
zero-word (suc n) (suc word) = zero-word n word

-- the words with zeros in place of as many from one on
abbrev zeroed : ℕ → ℕ → List ℕ → List ℕ → List ℕ
zeroed from many before zeros = take from before ++ (zeros ++ drop many (drop from before))

zeroed-word : (from many : ℕ) (before zeros : List ℕ) (word : ℕ) → from + many ≤ length before → length zeros ≡ many
    → ((i : ℕ) → slice_index zeros i ≡ 0) → from ≤ word → word < from + many → slice_index (zeroed from many before zeros) word ≡ 0
zeroed-word from many before zeros word within long none start end =
    get_or-append_right (take from before) (zeros ++ drop many (drop from before)) from word 0 (length-take-le from before (omega arith)) start
    ∙ get_or_append_left zeros (drop many (drop from before)) 0 (word - from) (omega arith)
    ∙ none (word - from)

zeroed-before : (from many : ℕ) (before zeros : List ℕ) (word : ℕ) → from ≤ length before → word < from
    → slice_index (zeroed from many before zeros) word ≡ slice_index before word
zeroed-before from many before zeros word within less =
    get_or_append_left (take from before) (zeros ++ drop many (drop from before)) 0 word (omega (arith, length-take-le from before within))
    ∙ get_or-take from before word 0 less

zeroed-after : (from many : ℕ) (before zeros : List ℕ) (word : ℕ) → from + many ≤ length before → length zeros ≡ many → from + many ≤ word
    → slice_index (zeroed from many before zeros) word ≡ slice_index before word
zeroed-after from many before zeros word within long past =
    let place : from + (many + (word - from - many)) ≡ word = omega arith in
    get_or-append_right (take from before) (zeros ++ drop many (drop from before)) from word 0 (length-take-le from before (omega arith)) (omega arith)
    ∙ get_or-append_right zeros (drop many (drop from before)) many (word - from) 0 long (omega arith)
    ∙ get_or-drop many (drop from before) (word - from - many) 0 ∙ get_or-drop from before (many + (word - from - many)) 0
    ∙ ap (slice_index before) place

pub cleared : (from many extent : ℕ) (before zeros : List ℕ) → from ≡ 16 * extent → many ≡ 16 → from + many ≤ length before → length zeros ≡ many
    → ((i : ℕ) → slice_index zeros i ≡ 0) → AreCleared extent before (zeroed from many before zeros)
cleared from many extent before zeros start size within long none block =
    go (cases_eq (block / 1024) extent) (cases_lt (block / 64) from)
  where
    kept : (block / 1024 ≡ extent → ⊥) → slice_index (zeroed from many before zeros) (block / 64) ≡ slice_index before (block / 64)
        → bit_of (zeroed from many before zeros) block ≡ (not (block / 1024 == extent) && bit_of before block)
    kept apart same = let elsewhere : (block / 1024 == extent) ≡ false = grind (arith, nat_tests) in rw (elsewhere, same) refl

    go : (block / 1024 ≡ extent) ⊎ (block / 1024 ≡ extent → ⊥) → (block / 64 < from) ⊎ (from ≤ block / 64)
        → bit_of (zeroed from many before zeros) block ≡ (not (block / 1024 == extent) && bit_of before block)
    go (inl same) place =
        let here : (block / 1024 == extent) ≡ true = grind (arith, nat_tests) in
        let word = zeroed-word from many before zeros (block / 64) within long none (omega arith) (omega arith) in
        rw (here, word, bit_at-zero (block % 64)) refl
    go (inr apart) (inl less) = kept apart (zeroed-before from many before zeros (block / 64) (omega arith) less)
    go (inr apart) (inr more) = kept apart (zeroed-after from many before zeros (block / 64) within long (omega arith))
