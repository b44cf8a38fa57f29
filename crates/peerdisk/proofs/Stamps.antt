-- The stamps of the extents, and the blocks that they and the bits give an epoch.
use Rattle.std.proofs.Common.{ℕ, ◌≡◌, ◌≢◌, ◌+◌, ◌-◌, ◌/◌, ◌<◌, ◌≤◌, ◌==◌, ◌⊎◌, inl, inr, Bool, true, false, ◌&&◌, ◌||◌}
use Rattle.std.proofs.Common.{List, length, refl, sym, ◌∙◌, ap, arith}
use Rattle.std.specs.Prelude.{slice_set, slice_index}
use Rattle.std.specs.List.{list_any}
use Rattle.std.proofs.lemmas.Bool.{cases_eq}
use Rattle.std.proofs.lemmas.Bool.Decides.{nat_tests}
use Rattle.std.proofs.lemmas.List.{get_or-set_same, get_or-set_other}
use Rattle.blocks.specs.Ranges.{IsRange, below, is_between}
use Rattle.peerdisk.specs.Blocks.{adding, has, has_any, none_of}
use Rattle.peerdisk.specs.Stamped.{AreStamped, bit_of, covered, is_covered, is_stamped}
use Rattle.peerdisk.proofs.Bits.{AreCleared, AreSet}
use Rattle.peerdisk.proofs.Flags.{adding-flags, any-none, any-same, flags-same, has-flags, length-flags}

pub length-covered : (blocks epoch : ℕ) (stamps words : List ℕ) → length (covered blocks epoch stamps words) ≡ blocks
length-covered blocks epoch stamps words = length-flags blocks (is_covered epoch stamps words)

-- An epoch begins.
pub none-covered : (blocks next : ℕ) (stamps words : List ℕ) → ((extent : ℕ) → slice_index stamps extent < next) → covered blocks next stamps words ≡ none_of blocks
none-covered blocks next stamps words older = flags-same blocks (is_covered next stamps words) (λ (k : ℕ). false) (λ (k : ℕ) (within : k < blocks).
    let less = older (k / 1024) in
    let other : is_stamped next stamps k ≡ false = grind (arith, nat_tests) in
    rw other refl)

-- A range inside the device, as contracts say it: by the length of the view.
pub range-inside : {blocks epoch : ℕ} {stamps words : List ℕ} → AreStamped blocks epoch stamps words
    → (view : List Bool) → covered blocks epoch stamps words ≡ view
    → (first count : ℕ) → first + count ≤ length view → 0 < count → count ≤ 32 → first / 1024 ≡ (first + count - 1) / 1024 → IsRange blocks first count
range-inside {blocks = blocks} {epoch = epoch} {stamps = stamps} {words = words} is view same first count within some few one = record {
  some = some;
  few = few;
  inside = omega (arith, length-covered blocks epoch stamps words, ap length same);
  one_extent = one;
}

-- Blocks are looked up.
pub none-older : {blocks first count : ℕ} → IsRange blocks first count → (epoch : ℕ) (stamps words : List ℕ) → slice_index stamps (first / 1024) ≢ epoch
    → has_any first count (covered blocks epoch stamps words) ≡ false
none-older {blocks = blocks} {first = first} {count = count} range epoch stamps words older =
    any-same (λ offset. has (covered blocks epoch stamps words) (first + offset)) (λ offset. false) count (λ (k : ℕ) (within : k < count).
    let one : first / 1024 ≡ (first + count - 1) / 1024 = range.one_extent in
    let extent : (first + k) / 1024 ≡ first / 1024 = omega arith in
    let other : (slice_index stamps (first / 1024) == epoch) ≡ false = grind (arith, nat_tests) in
    has-flags blocks (is_covered epoch stamps words) (first + k) (omega (arith, range.inside)) ∙ rw (extent, other) refl)
    ∙ any-none count

pub any-current : {blocks first count : ℕ} → IsRange blocks first count → (epoch : ℕ) (stamps words : List ℕ) → slice_index stamps (first / 1024) ≡ epoch
    → has_any first count (covered blocks epoch stamps words) ≡ list_any (λ offset. bit_of words (first + offset)) (below count)
any-current {blocks = blocks} {first = first} {count = count} range epoch stamps words current =
    any-same (λ offset. has (covered blocks epoch stamps words) (first + offset)) (λ offset. bit_of words (first + offset)) count
    (λ (k : ℕ) (within : k < count).
    let one : first / 1024 ≡ (first + count - 1) / 1024 = range.one_extent in
    let extent : (first + k) / 1024 ≡ first / 1024 = omega arith in
    let same : (slice_index stamps (first / 1024) == epoch) ≡ true = grind (arith, nat_tests) in
    has-flags blocks (is_covered epoch stamps words) (first + k) (omega (arith, range.inside)) ∙ rw (extent, same) refl)

-- Blocks are added in an extent that has the epoch's stamp.
within-current : (current bit between : Bool) → (between ≡ true → current ≡ true) → (current && (bit || between)) ≡ ((current && bit) || between)
within-current true bit between is = refl
within-current false bit true is = is refl
within-current false bit false is = refl

pub added-current : {blocks first count : ℕ} → IsRange blocks first count → (epoch : ℕ) (stamps words now : List ℕ) → slice_index stamps (first / 1024) ≡ epoch
    → AreSet first count words now → covered blocks epoch stamps now ≡ adding first count (covered blocks epoch stamps words)
added-current {blocks = blocks} {first = first} {count = count} range epoch stamps words now current set =
    adding-flags blocks (is_covered epoch stamps words) (is_covered epoch stamps now) first count (λ (k : ℕ) (within : k < blocks).
    ap (λ b. is_stamped epoch stamps k && b) (set k)
    ∙ within-current (is_stamped epoch stamps k) (bit_of words k) (is_between first count k) (stamped k))
  where
    stamped : (k : ℕ) → is_between first count k ≡ true → is_stamped epoch stamps k ≡ true
    stamped k is =
        let one : first / 1024 ≡ (first + count - 1) / 1024 = range.one_extent in
        let from : first ≤ k = grind (arith, nat_tests) in
        let to : k < first + count = grind (arith, nat_tests) in
        let extent : k / 1024 ≡ first / 1024 = omega arith in
        rw extent (grind (arith, nat_tests))

-- An extent without the epoch's stamp gets it, and its bits are cleared: no block is added or lost.
pub opened-same : (blocks epoch extent : ℕ) (stamps words now : List ℕ) → extent < length stamps → slice_index stamps extent ≢ epoch
    → AreCleared extent words now → covered blocks epoch (slice_set stamps extent epoch) now ≡ covered blocks epoch stamps words
opened-same blocks epoch extent stamps words now within older cleared =
    flags-same blocks (is_covered epoch (slice_set stamps extent epoch) now) (is_covered epoch stamps words)
    (λ (k : ℕ) (inside : k < blocks). go k (cases_eq (k / 1024) extent))
  where
    go : (k : ℕ) → (k / 1024 ≡ extent) ⊎ (k / 1024 ≡ extent → ⊥)
        → is_covered epoch (slice_set stamps extent epoch) now k ≡ is_covered epoch stamps words k
    go k (inl same) =
        let here : (extent == extent) ≡ true = grind (arith, nat_tests) in
        let other : (slice_index stamps extent == epoch) ≡ false = grind (arith, nat_tests) in
        let stamp : (epoch == epoch) ≡ true = grind (arith, nat_tests) in
        rw (cleared k, same, here, other, get_or-set_same stamps extent epoch 0 within, stamp) refl
    go k (inr apart) =
        let elsewhere : (k / 1024 == extent) ≡ false = grind (arith, nat_tests) in
        rw (cleared k, elsewhere, get_or-set_other stamps extent (k / 1024) epoch 0 apart) refl

pub added-older : {blocks first count : ℕ} → IsRange blocks first count → (epoch extent : ℕ) (stamps words zeros now : List ℕ)
    → extent ≡ first / 1024 → extent < length stamps → slice_index stamps extent ≢ epoch → AreCleared extent words zeros → AreSet first count zeros now
    → covered blocks epoch (slice_set stamps extent epoch) now ≡ adding first count (covered blocks epoch stamps words)
added-older {blocks = blocks} {first = first} {count = count} range epoch extent stamps words zeros now is within older cleared set =
    let current : slice_index (slice_set stamps extent epoch) (first / 1024) ≡ epoch = ap (slice_index (slice_set stamps extent epoch)) (sym is)
    ∙ get_or-set_same stamps extent epoch 0 within in
    added-current range epoch (slice_set stamps extent epoch) zeros now current set
    ∙ ap (adding first count) (opened-same blocks epoch extent stamps words zeros within older cleared)
