-- Blocks of a disk as they are read into a buffer.
use Rattle.std.proofs.Common.{ℕ, ◌≡◌, ◌+◌, ◌-◌, ◌*◌, ◌/◌, ◌<◌, ◌≤◌, inl, inr, Bool, true, List, [], ◌∷◌, ◌++◌, length, take, drop, Some, slice_get, refl, sym}
use Rattle.std.proofs.Common.{◌∙◌, ap, arith}
use Rattle.std.specs.Prelude.{IsTrue}
use Rattle.std.proofs.lemmas.Bool.{cases_lt}
use Rattle.std.proofs.lemmas.List.{take-append-drop, take_all}
use Rattle.std.proofs.lemmas.Slice.{take-put_mid, drop-put_mid}
use borrow.Rule.Slice.PartMut.{put_mid}
use Rattle.blocks.specs.Contents.{AreRead, blocks_of, overwritten}
use Rattle.blocks.proofs.Cutting.{blocks_of-written, length-blocks_of}
use Rattle.blocks.proofs.Written.{written-before, written-inside}

-- So many blocks were read; the disk holds the same, and no call failed.
pub record IsReading (old new : List (List ℕ)) (first : ℕ) (bytes : List ℕ) (offset faults more : ℕ) (steady still was now : Bool) : Type 0 where
  pub same : new ≡ old
  pub read : IsTrue now → AreRead old first bytes offset
  pub falls : IsTrue now → IsTrue was
  pub sure : steady ≡ true → now ≡ was
  pub uncounted : more ≡ faults
  pub works : steady ≡ true → still ≡ true

-- None was read yet.
pub none-read : (device : List (List ℕ)) (first : ℕ) (bytes : List ℕ) → AreRead device first bytes 0
none-read device first bytes = record { each = λ offset less. absurd (omega arith) }

-- the blocks of one block are itself
pub one-block : (bytes : List ℕ) → length bytes ≡ 4096 → blocks_of 4096 bytes ≡ bytes ∷ []
one-block bytes is =
    let one : length bytes / 4096 ≡ 1 = omega arith in
    rw one (ap (λ (l : List ℕ). l ∷ []) (take_all 4096 bytes (omega (arith, is))))

-- a part of a buffer that was written
put-is : {X : Type 0} (at size : ℕ) (xs ys : List X) → length ys ≡ size → at ≤ length xs → put_mid at size xs ys ≡ take at xs ++ ys ++ drop (at + length ys) xs
put-is at size xs ys long inside =
    let whole = sym (take-append-drop (at + length ys) (put_mid at size xs ys)) in
    let front : take (at + length ys) (put_mid at size xs ys) ≡ take at xs ++ ys = take-put_mid at size xs ys (at + length ys) refl inside in
    let back : drop (at + length ys) (put_mid at size xs ys) ≡ drop (at + length ys) xs = drop-put_mid at size xs ys (at + length ys)
    (omega arith) inside long in
    whole ∙ (λ i. front i ++ back i)

-- One block more was read.
pub read-more : (device : List (List ℕ)) (first offset : ℕ) (bytes block : List ℕ) → AreRead device first bytes offset
    → slice_get device (first + offset) ≡ Some block → length block ≡ 4096
    → offset < length bytes / 4096 → 4096 * (length bytes / 4096) ≡ length bytes
    → AreRead device first (put_mid (offset * 4096) (offset * 4096 + 4096 - offset * 4096) bytes block) (offset + 1)
read-more device first offset bytes block was at long less whole = record { each = λ k early. ap (λ (l : List (List ℕ)). slice_get l k) blocks ∙ go k early }
  where
    put : put_mid (offset * 4096) (offset * 4096 + 4096 - offset * 4096) bytes block ≡ take (offset * 4096) bytes ++ block
        ++ drop (offset * 4096 + length block) bytes
    put = put-is (offset * 4096) (offset * 4096 + 4096 - offset * 4096) bytes block (omega (arith, long)) (omega (arith, less, whole))

    blocks : blocks_of 4096 (put_mid (offset * 4096) (offset * 4096 + 4096 - offset * 4096) bytes block) ≡ overwritten (blocks_of 4096 bytes) offset
        (block ∷ [])
    blocks = ap (blocks_of 4096) put
        ∙ (blocks_of-written offset 1 bytes block whole (omega arith) (omega arith) ∙ ap (overwritten (blocks_of 4096 bytes) offset) (one-block block long))

    size : length (blocks_of 4096 bytes) ≡ length bytes / 4096
    size = length-blocks_of bytes

    go : (k : ℕ) → k < offset + 1 → slice_get (overwritten (blocks_of 4096 bytes) offset (block ∷ [])) k ≡ slice_get device (first + k)
    go k early = elim (cases_lt k offset) [
      | inl before ↦ written-before (blocks_of 4096 bytes) (block ∷ []) offset k (omega (arith, size)) before ∙ was.each k before
      | inr from ↦
          let is : k ≡ offset = omega arith in
          let none : k - offset ≡ 0 = omega arith in
          written-inside (blocks_of 4096 bytes) (block ∷ []) offset k (omega (arith, size)) from (omega arith)
          ∙ (ap (slice_get (block ∷ [])) none ∙ (sym at ∙ ap (λ n. slice_get device (first + n)) (sym is)))
    ]
