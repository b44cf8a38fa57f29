-- Blocks of two disks are compared, and those that differ without a mark are counted.
use Rattle.std.proofs.Common.{ℕ, suc, ◌≡◌, ◌+◌, ◌<◌, ◌==◌, inl, inr, Bool, true, false, cond, not, ◌&&◌, List, [], ◌∷◌, Option, Some, None, length, filter}
use Rattle.std.proofs.Common.{slice_get, refl}
use Rattle.std.proofs.Common.{sym, ◌∙◌, ap, subst, arith, length-append}
use Rattle.std.proofs.lemmas.Bool.{and_from, both_ways, cases_lt, eq-eqb}
use Rattle.std.proofs.lemmas.List.Elements.{filter-append}
use Rattle.bitmap.specs.Marks.{marked}
use Rattle.blocks.specs.Ranges.{below}
use Rattle.laws.proofs.Blocks.SameBlocks.{same-equal}
use Rattle.model.specs.Pair.{same_block, same_bytes}
use Rattle.disk_pair.specs.Disks.{DisksState, WereRead, unmarked_between}

-- the disks differ in this block, and it is not marked
abbrev pub counts : List Bool → List (List ℕ) → List (List ℕ) → ℕ → Bool
counts marks local peer block = not (same_block (slice_get local block) (slice_get peer block)) && not (marked marks block)

-- one block more
between-more : (marks : List Bool) (local peer : List (List ℕ)) (n : ℕ)
    → unmarked_between marks local peer (n + 1) ≡ unmarked_between marks local peer n + (cond (counts marks local peer n) 1 0)
between-more marks local peer n =
    let next : n + 1 ≡ suc n = omega arith in
    ap (λ (m : ℕ). length (filter (counts marks local peer) (below m))) next
    ∙ (ap length (filter-append (counts marks local peer) (below n) (n ∷ []))
    ∙ (length-append (filter (counts marks local peer) (below n)) (filter (counts marks local peer) (n ∷ []))
    ∙ ap (λ (m : ℕ). length (filter (counts marks local peer) (below n)) + m) (one (counts marks local peer n))))
  where
    one : (b : Bool) → length {A = ℕ} (cond b (n ∷ []) []) ≡ cond b 1 0
    one true = refl
    one false = refl

-- of no blocks none does
pub between-none : (marks : List Bool) (local peer : List (List ℕ)) → unmarked_between marks local peer 0 ≡ 0
between-none marks local peer = refl

-- Of a block that differs or not, one more counts where it does and is not marked.
pub between-next : (marks : List Bool) (local peer : List (List ℕ)) (n count : ℕ) (same mark : Bool) → count ≡ unmarked_between marks local peer n
    → same ≡ same_block (slice_get local n) (slice_get peer n) → mark ≡ marked marks n
    → count + (cond (not same && not mark) 1 0) ≡ unmarked_between marks local peer (n + 1)
between-next marks local peer n count same mark here one two =
    (λ i. here i + (cond (not (one i) && not (two i)) 1 0)) ∙ sym (between-more marks local peer n)

bytes-itself : (a : List ℕ) → same_bytes a a ≡ true
bytes-itself [] = refl
bytes-itself (x ∷ a) = and_from (x == x) (same_bytes a a) (eq-eqb x x refl) (bytes-itself a)

-- a block is the same as itself
pub same-itself : (a : Option (List ℕ)) → same_block a a ≡ true
same-itself None = refl
same-itself (Some a) = bytes-itself a

-- Disks that are one differ in no block.
pub one-disk : (local peer : List (List ℕ)) (n : ℕ) (same : Bool) → local ≡ peer → same ≡ same_block (slice_get local n) (slice_get peer n) → same ≡ false → ⊥
one-disk local peer n same is found differs =
    let equal : slice_get local n ≡ slice_get peer n = ap (λ (l : List (List ℕ)). slice_get l n) is in
    let yes : same ≡ true = found ∙ subst (λ (b : Option (List ℕ)). same_block (slice_get local n) b ≡ true) equal (same-itself (slice_get local n)) in
    both_ways same differs yes

-- One block more is the same.
pub alike-next : (local peer : List (List ℕ)) (n : ℕ) (same : Bool) → same ≡ same_block (slice_get local n) (slice_get peer n) → same ≡ true
    → ((k : ℕ) → k < n → slice_get local k ≡ slice_get peer k) → (k : ℕ) → k < n + 1 → slice_get local k ≡ slice_get peer k
alike-next local peer n same found alike before k less = elim (cases_lt k n) [
  | inl early ↦ before k early
  | inr late ↦
      let is : k ≡ n = omega arith in
      ap (slice_get local) is ∙ (same-equal (slice_get local n) (slice_get peer n) (sym found ∙ alike) ∙ sym (ap (slice_get peer) is))
]

-- two reads after each other are reads
pub read-again : (a b c : DisksState) → WereRead a b → WereRead b c → WereRead a c
read-again a b c first then = record {
  local = then.local ∙ first.local;
  peer = then.peer ∙ first.peer;
  local_falls = λ is. first.local_falls (then.local_falls is);
  peer_falls = λ is. first.peer_falls (then.peer_falls is);
}
