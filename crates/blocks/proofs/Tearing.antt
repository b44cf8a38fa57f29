-- A write that stops after some of its blocks leaves each block old or new.
use Rattle.std.proofs.Common.{ℕ, zero, suc, ◌≡◌, ◌+◌, ◌-◌, ◌*◌, ◌/◌, ◌≤◌, ◌⊎◌, inl, inr, List, [], ◌∷◌, ◌++◌, length, take, drop, min, slice_get, Some, None}
use Rattle.std.proofs.Common.{refl, sym, ◌∙◌, ap, arith, length-take}
use Rattle.std.proofs.lemmas.List.{take-append-drop, length-take-le, take_at, take_min}
use Rattle.blocks.specs.Contents.{cut, blocks_of, overwritten, IsTorn}
use Rattle.blocks.specs.Faults.{WriteArming, FaultState, written}
use Rattle.blocks.proofs.Cutting.{length-cut, cut-add, cut-append, length-blocks_of, length-overwritten}

-- a block of a row that begins with the first blocks of another
front_torn : (k : ℕ) (blocks device : List (List ℕ)) (block : ℕ) → length blocks ≤ length device
    → (slice_get (take k blocks ++ drop (length (take k blocks)) device) block ≡ slice_get device block)
    ⊎ (slice_get (take k blocks ++ drop (length (take k blocks)) device) block ≡ slice_get blocks block)
front_torn zero blocks device block fits = inl refl
front_torn (suc k) [] device block fits = inl refl
front_torn (suc k) (x ∷ blocks) [] block fits = absurd (omega (arith, fits))
front_torn (suc k) (x ∷ blocks) (d ∷ device) zero fits = inr refl
front_torn (suc k) (x ∷ blocks) (d ∷ device) (suc block) fits = front_torn k blocks device block (omega (arith, fits))

-- a block after the first so many blocks were written from a place on
each_torn : (k first : ℕ) (blocks device : List (List ℕ)) (block : ℕ) → first + length blocks ≤ length device
    → (slice_get (overwritten device first (take k blocks)) block ≡ slice_get device block)
    ⊎ ((first ≤ block) × (slice_get (overwritten device first (take k blocks)) block ≡ slice_get blocks (block - first)))
each_torn k zero blocks device block fits =
    let none : 0 + length (take k blocks) ≡ length (take k blocks) = omega arith in
    let same : block - 0 ≡ block = omega arith in
    rw (none, same) (elim (front_torn k blocks device block (omega (arith, fits))) [ inl old ↦ inl old | inr new ↦ inr (omega arith, new) ])
each_torn k (suc first) blocks [] block fits = absurd (omega (arith, fits))
each_torn k (suc first) blocks (d ∷ device) zero fits = inl refl
each_torn k (suc first) blocks (d ∷ device) (suc block) fits =
    let next : suc first + length (take k blocks) ≡ suc (first + length (take k blocks)) = omega arith in
    let less : suc block - suc first ≡ block - first = omega arith in
    rw (next, less) (elim (each_torn k first blocks device block (omega (arith, fits))) [ inl old ↦ inl old | inr new ↦ inr (omega (arith, new.0), new.1) ])

pub torn_after : (k first : ℕ) (blocks device : List (List ℕ)) → first + length blocks ≤ length device
    → IsTorn device first blocks (overwritten device first (take k blocks))
torn_after k first blocks device fits = record {
  size = length-overwritten device (take k blocks) first (omega (arith, length-take k blocks));
  each = λ block. each_torn k first blocks device block fits;
}

-- the first blocks of whole ones are those of their first bytes
pub blocks_of-take : (n : ℕ) (bytes : List ℕ) → n ≤ length bytes / 4096 → blocks_of 4096 (take (n * 4096) bytes) ≡ take n (blocks_of 4096 bytes)
blocks_of-take n bytes fits =
    let more : ℕ = length bytes / 4096 - n in
    let all : length bytes / 4096 ≡ n + more = omega arith in
    let long : length (take (n * 4096) bytes) ≡ n * 4096 = length-take-le (n * 4096) bytes (omega arith) in
    let size : length (take (n * 4096) bytes) / 4096 ≡ n = omega (arith, long) in
    let place : length (take (n * 4096) bytes) ≡ 4096 * n = omega (arith, long) in
    ap (λ (m : ℕ). cut 4096 m (take (n * 4096) bytes)) size
    ∙ sym (cut-append 4096 n (take (n * 4096) bytes) (drop (n * 4096) bytes) place)
    ∙ ap (cut 4096 n) (take-append-drop (n * 4096) bytes)
    ∙ sym (ap (take n) (ap (λ (m : ℕ). cut 4096 m bytes) all ∙ cut-add 4096 n more bytes)
    ∙ take_at (cut 4096 n bytes) (cut 4096 more (drop (4096 * n) bytes)) n (length-cut 4096 n bytes))

-- as many bytes as so many blocks have, or as there are, make the first blocks of a write
pub kept_put : (k n count first : ℕ) (bytes : List ℕ) (device torn : List (List ℕ)) → length bytes ≡ 4096 * count → n ≡ min k count
    → torn ≡ overwritten device first (blocks_of 4096 (take (n * 4096) bytes)) → torn ≡ overwritten device first (take k (blocks_of 4096 bytes))
kept_put k n count first bytes device torn whole least is =
    let size : length (blocks_of 4096 bytes) ≡ count = omega (arith, length-blocks_of bytes, whole) in
    let some : n ≡ min k (length (blocks_of 4096 bytes)) = least ∙ ap (min k) (sym size) in
    let kept : blocks_of 4096 (take (n * 4096) bytes) ≡ take k (blocks_of 4096 bytes) =
    blocks_of-take n bytes (omega (arith, least, whole)) ∙ ap (λ (m : ℕ). take m (blocks_of 4096 bytes)) some ∙ take_min k (blocks_of 4096 bytes) in
    is ∙ ap (overwritten device first) kept

-- a disk that was armed for this write
pub fault_after : (s : FaultState) (arming : WriteArming) (first faults : ℕ) (blocks disk : List (List ℕ)) → s.write_arming ≡ Some arming → arming.passes ≡ 0
    → disk ≡ overwritten s.disk first (take arming.kept blocks) → faults ≡ s.faults + 1
    → record s { disk = disk; faults = faults; write_arming = None } ≡ written first blocks s
fault_after s arming first faults blocks disk armed now torn counted = rw (armed, now, torn, counted) refl
