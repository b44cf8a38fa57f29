-- Blocks of two disks are compared.
use Rattle.std.proofs.Common.{ℕ, suc, ◌≡◌, ◌+◌, Bool, true, false, cond, not, ◌&&◌, [], ◌∷◌, length, filter, refl, sym, ◌∙◌, ap, arith, length-append, max}
use Rattle.std.proofs.lemmas.List.Elements.{filter-append}
use Rattle.blocks.specs.Ranges.{below}
use Rattle.model.specs.Pair.{same_block}
use Rattle.model.specs.Headline.{is_marked}
use Rattle.model.specs.Primary.{PrimaryHistory, local_map}
use Rattle.model.specs.Secondary.{SecondaryHistory, secondary_map}
use Rattle.model.specs.Settlement.{unmarked_differences}

-- the disks differ in this block, and it is not marked
abbrev pub counts : PrimaryHistory → SecondaryHistory → ℕ → Bool
counts p s block = not (same_block (local_map p block) (secondary_map s block)) && not (is_marked p block)

-- so many of the first blocks do
pub many : (p : PrimaryHistory) (s : SecondaryHistory) → ℕ → ℕ
many p s n = length (filter (counts p s) (below n))

-- one block more
pub many-more : (p : PrimaryHistory) (s : SecondaryHistory) (n : ℕ) → many p s (n + 1) ≡ many p s n + (cond (counts p s n) 1 0)
unfolding many
many-more p s n =
    let next : n + 1 ≡ suc n = omega arith in
    ap (λ (m : ℕ). length (filter (counts p s) (below m))) next
    ∙ (ap length (filter-append (counts p s) (below n) (n ∷ []))
    ∙ (length-append (filter (counts p s) (below n)) (filter (counts p s) (n ∷ []))
    ∙ ap (λ (m : ℕ). length (filter (counts p s) (below n)) + m) (one (counts p s n))))
  where
    one : (b : Bool) → length {A = ℕ} (cond b (n ∷ []) []) ≡ cond b 1 0
    one true = refl
    one false = refl

-- of no blocks none does
pub many-none : (p : PrimaryHistory) (s : SecondaryHistory) → many p s 0 ≡ 0
unfolding many
many-none p s = refl

-- Of a block that differs or not, one more counts where it does and is not marked.
pub many-next : (p : PrimaryHistory) (s : SecondaryHistory) (n count : ℕ) (differs marked : Bool) → count ≡ many p s n
    → differs ≡ not (same_block (local_map p n) (secondary_map s n)) → marked ≡ is_marked p n → count + (cond (differs && not marked) 1 0) ≡ many p s (n + 1)
many-next p s n count differs marked here one two =
    (λ i. here i + (cond (one i && not (two i)) 1 0)) ∙ sym (many-more p s n)

-- of all blocks so many do as the settlement counts
pub many-all : (p : PrimaryHistory) (s : SecondaryHistory) → many p s (max p.settings.blocks s.settings.blocks) ≡ unmarked_differences p s
unfolding many
many-all p s = refl
