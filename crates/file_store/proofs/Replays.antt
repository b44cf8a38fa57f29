-- What a call of a file keeps, and what a file that keeps what was written gives.
use Rattle.std.proofs.Common.{ℕ, zero, suc, ◌≡◌, ◌+◌, ◌-◌, ◌*◌, ◌/◌, ◌<◌, ◌≤◌, inl, inr, Bool, true, ◌&&◌, List, [], ◌∷◌, length, take, drop, ◌⊎◌}
use Rattle.std.proofs.Common.{Option, Some, None, slice_get, ap, arith, length-append, length-take, length-drop, refl, sym, ◌∙◌, subst}
use Rattle.std.specs.Prelude.{IsTrue, Result, Ok, Err, OnOk, OnErr, is_err, false}
use Rattle.std.proofs.lemmas.Bool.{cases_lt, and_parts}
use Rattle.std.proofs.lemmas.Slice.Eq.{bytes_eq-Decides}
use Rattle.blocks.specs.Contents.{AreRead, blocks_of, overwritten, IsTorn}
use Rattle.blocks.proofs.Cutting.{length-blocks_of, length-overwritten, slice_get-cut}
use Rattle.blocks.proofs.Buffers.{one-block}
use Rattle.blocks.proofs.Written.{written-inside, written-before, written-after}
use Rattle.file_store.specs.Events.{are_held, first_blocks, is_held, replay}
use Rattle.file_store.specs.declared.remains.Remains.{Remains}
use Rattle.file_store.specs.declared.remains.Remains.TheVariants.{New, Old, Mixed}
use Rattle.recorded_file.specs.Calls.{Event, written}

-- there are as many
pub length-first : (n : ℕ) (image : ℕ → List ℕ) → length (first_blocks n image) ≡ n
length-first zero image = refl
length-first (suc n) image = let rest = length-first n image in omega (arith, length-append (first_blocks n image) (image n ∷ []))

-- A disk of which nothing was written is torn in no block.
pub untorn : (device : List (List ℕ)) (first : ℕ) (written : List (List ℕ)) → IsTorn device first written device
untorn device first written = record { size = refl; each = λ block. inl refl }

-- One more of the blocks was written.
pub torn-more : (old new : List (List ℕ)) (first offset : ℕ) (written : List (List ℕ)) (bytes : List ℕ) → IsTorn old first written new
    → slice_get written offset ≡ Some bytes → first + offset < length old → IsTorn old first written (overwritten new (first + offset) (bytes ∷ []))
torn-more old new first offset written bytes torn at inside = record {
  size = length-overwritten new (bytes ∷ []) (first + offset) (omega (arith, torn.size, inside)) ∙ torn.size;
  each = λ block. elim (cases_lt block (first + offset)) [
    | inl before ↦ kept block (written-before new (bytes ∷ []) (first + offset) block (omega (arith, torn.size, inside)) before)
    | inr from ↦ elim (cases_lt block (first + offset + 1)) [
      | inr after ↦ kept block (written-after new (bytes ∷ []) (first + offset) block (omega (arith, torn.size, inside)) (omega (arith, after)))
      | inl here ↦
          let none : block - (first + offset) ≡ 0 = omega arith in
          let index : block - first ≡ offset = omega arith in
          inr (
            omega arith,
            written-inside new (bytes ∷ []) (first + offset) block (omega (arith, torn.size, inside)) from (omega (arith, here))
                ∙ (ap (slice_get (bytes ∷ [])) none ∙ (sym at ∙ ap (slice_get written) (sym index))),
          )
    ]
  ];
}
  where
    kept : (block : ℕ) → slice_get (overwritten new (first + offset) (bytes ∷ [])) block ≡ slice_get new block
        → (slice_get (overwritten new (first + offset) (bytes ∷ [])) block ≡ slice_get old block)
        ⊎ ((first ≤ block) × (slice_get (overwritten new (first + offset) (bytes ∷ [])) block ≡ slice_get written (block - first)))
    kept block is = elim (torn.each block) [ inl was ↦ inl (is ∙ was) | inr is_new ↦ inr (is_new.0, is ∙ is_new.1) ]

-- a block of bytes, by its offset
pub block-at : (bytes : List ℕ) (offset : ℕ) → offset < length bytes / 4096 → slice_get (blocks_of 4096 bytes) offset ≡ Some (take 4096 (drop (4096 * offset) bytes))
block-at bytes offset less = slice_get-cut 4096 (length bytes / 4096) offset bytes less

-- Blocks that are held are those of the disk.
pub held-blocks : (disk : List (List ℕ)) (first : ℕ) (blocks : List (List ℕ)) → are_held disk first blocks ≡ true → (offset : ℕ) → offset < length blocks
    → slice_get blocks offset ≡ slice_get disk (first + offset)
held-blocks disk first [] held offset less = absurd (omega arith)
held-blocks disk first (b ∷ blocks) held zero less =
    let here = (and_parts (is_held (slice_get disk first) b) (are_held disk (suc first) blocks) held).0 in
    let index : first + 0 ≡ first = omega arith in
    one (slice_get disk first) here ∙ ap (slice_get disk) (sym index)
  where
    one : (found : Option (List ℕ)) → is_held found b ≡ true → Some b ≡ found
    one None is = absurd (cc)
    one (Some x) is = let same : x ≡ b = grind (arith, bytes_eq-Decides x b) in ap Some (sym same)
held-blocks disk first (b ∷ blocks) held (suc offset) less =
    let rest = (and_parts (is_held (slice_get disk first) b) (are_held disk (suc first) blocks) held).1 in
    let index : first + suc offset ≡ suc first + offset = omega arith in
    held-blocks disk (suc first) blocks rest offset (omega arith) ∙ ap (slice_get disk) (sym index)

pub read-held : (disk : List (List ℕ)) (first : ℕ) (bytes : List ℕ) (before : Bool) → IsTrue (before && are_held disk first (blocks_of 4096 bytes))
    → AreRead disk first bytes (length bytes / 4096)
read-held disk first bytes before held = record {
  each = λ offset less. held-blocks disk first (blocks_of 4096 bytes) (and_parts before (are_held disk first (blocks_of 4096 bytes)) held).1 offset
      (omega (arith, less, length-blocks_of bytes));
}

-- A read of one block gives that block.
pub one-read : (disk : List (List ℕ)) (block size : ℕ) (bytes : List ℕ) → size ≡ 4096 → length bytes ≡ 4096 → AreRead disk block bytes (size / 4096)
    → slice_get disk block ≡ Some bytes
one-read disk block size bytes whole long read =
    let index : block + 0 ≡ block = omega arith in
    ap (slice_get disk) (sym index) ∙ (sym (read.each 0 (omega (arith, whole))) ∙ ap (λ (l : List (List ℕ)). slice_get l 0) (one-block bytes long))

-- One more of the blocks was written, from its bytes.
pub torn-noted : (old new : List (List ℕ)) (first offset count : ℕ) (bytes : List ℕ) → IsTorn old first (blocks_of 4096 bytes) new → offset < count
    → length bytes ≡ 4096 * count → first + count ≤ length old
    → IsTorn old first (blocks_of 4096 bytes)
    (overwritten new (first + offset) (blocks_of 4096 (take (offset * 4096 + 4096 - offset * 4096) (drop (offset * 4096) bytes))))
torn-noted old new first offset count bytes torn less whole inside =
    let size : offset * 4096 + 4096 - offset * 4096 ≡ 4096 = omega arith in
    let start : offset * 4096 ≡ 4096 * offset = omega arith in
    let long : length (take 4096 (drop (4096 * offset) bytes)) ≡ 4096 = simp (length-take, length-drop) (omega (arith, less, whole)) in
    let same : blocks_of 4096 (take (offset * 4096 + 4096 - offset * 4096) (drop (offset * 4096) bytes)) ≡ take 4096 (drop (4096 * offset) bytes) ∷ []
    = (λ i. blocks_of 4096 (take (size i) (drop (start i) bytes))) ∙ one-block (take 4096 (drop (4096 * offset) bytes)) long in
    subst (λ (written : List (List ℕ)). IsTorn old first (blocks_of 4096 bytes) (overwritten new (first + offset) written)) (sym same)
    (torn-more old new first offset (blocks_of 4096 bytes) (take 4096 (drop (4096 * offset) bytes)) torn (block-at bytes offset (omega (arith, less, whole)))
    (omega (arith, less, inside)))

-- What holds of a result that is no error.
pub if-ok : {T E P : Type 0} (r : Result T E) → is_err r ≡ false → OnOk r P → P
if-ok (Ok x) is p = p
if-ok (Err e) is p = absurd (cc)

-- A write within the disk leaves as many blocks.
sized-written : (blocks : ℕ) (image : ℕ → List ℕ) (events new : List Event) (first : ℕ) (bytes : List ℕ) → length (replay blocks image events).disk ≡ blocks
    → first + length bytes / 4096 ≤ blocks → new ≡ written first bytes ∷ events → length (replay blocks image new).disk ≡ blocks
sized-written blocks image events new first bytes sized inside is =
    let old = (replay blocks image events).disk in
    let count = length-blocks_of bytes in
    let fits : first + length (blocks_of 4096 bytes) ≤ length old = omega (arith, count, sized, inside) in
    rw is (length-overwritten old (blocks_of 4096 bytes) first fits ∙ sized)

-- So does one of which the file says whether it took it,
pub sized-put : {T E : Type 0} (r : Result T E) (blocks : ℕ) (image : ℕ → List ℕ) (events new : List Event) (first : ℕ) (bytes : List ℕ)
    → length (replay blocks image events).disk ≡ blocks → first + length bytes / 4096 ≤ blocks
    → OnOk r (new ≡ written first bytes ∷ events) → OnErr r (new ≡ events) → length (replay blocks image new).disk ≡ blocks
sized-put (Ok x) blocks image events new first bytes sized inside taken same = sized-written blocks image events new first bytes sized inside taken
sized-put (Err e) blocks image events new first bytes sized inside taken same = rw same sized

-- and one of which it says what is left.
pub sized-again : (r : Remains) (blocks : ℕ) (image : ℕ → List ℕ) (events new : List Event) (first : ℕ) (bytes : List ℕ)
    → length (replay blocks image events).disk ≡ blocks → first + length bytes / 4096 ≤ blocks
    → (r ≡ New → new ≡ written first bytes ∷ events) → (r ≡ Old → new ≡ events) → (r ≡ Mixed → new ≡ events)
    → length (replay blocks image new).disk ≡ blocks
sized-again New blocks image events now first bytes sized inside new old mixed = sized-written blocks image events now first bytes sized inside (new refl)
sized-again Old blocks image events now first bytes sized inside new old mixed = rw (old refl) sized
sized-again Mixed blocks image events now first bytes sized inside new old mixed = rw (mixed refl) sized
