-- The blocks of an item, by its bytes.
use Rattle.std.proofs.Common.{ℕ, zero, suc, ◌≡◌, ◌*◌, ◌/◌, ◌≤◌, List, [], ◌∷◌, length, take, refl, sym, ◌∙◌, ap, arith}
use Rattle.blocks.specs.Contents.{blocks_of, cut}
use Rattle.model.specs.Stream.{contents_of, first_of}
use Rattle.secondary_core.specs.declared.item.ItemKind.{ItemKind}
use Rattle.secondary_core.specs.declared.item.ItemKind.TheVariants as kind
use Rattle.secondary_core.specs.Items.{IsNamed, item_as}

length-cut : (size n : ℕ) (bytes : List ℕ) → length (cut size n bytes) ≡ n
length-cut size zero bytes = refl
length-cut size (suc n) bytes = ap suc (length-cut size n _)

take-all : (n : ℕ) (bytes : List ℕ) → length bytes ≤ n → take n bytes ≡ bytes
take-all zero [] few = refl
take-all (suc n) [] few = refl
take-all zero (b ∷ bytes) few = absurd (omega arith)
take-all (suc n) (b ∷ bytes) few = ap (λ more. b ∷ more) (take-all n bytes (omega arith))

one-block : (bytes : List ℕ) → length bytes ≡ 4096 → blocks_of 4096 bytes ≡ bytes ∷ []
one-block bytes long =
    let one : length bytes / 4096 ≡ 1 = omega (arith, long) in
    rw one (ap (λ (b : List ℕ). b ∷ []) (take-all 4096 bytes (omega (arith, long))))

pub contents-are : (k : ItemKind) (first count : ℕ) (bytes : List ℕ) → length bytes ≡ 4096 * count → IsNamed k count
    → blocks_of 4096 bytes ≡ contents_of (item_as k first bytes)
contents-are (kind.Write number) first count bytes long named = refl
contents-are kind.Resync first count bytes long named = one-block bytes (omega (arith, long, named))

pub count-is : (k : ItemKind) (first count : ℕ) (bytes : List ℕ) → length bytes ≡ 4096 * count → IsNamed k count
    → count ≡ length (contents_of (item_as k first bytes))
count-is (kind.Write number) first count bytes long named = let n : length bytes / 4096 ≡ count =
    omega (arith, long) in sym (length-cut 4096 (length bytes / 4096) bytes ∙ n)
count-is kind.Resync first count bytes long named = named

pub first-is : (k : ItemKind) (first : ℕ) (bytes : List ℕ) → first_of (item_as k first bytes) ≡ first
first-is (kind.Write number) first bytes = refl
first-is kind.Resync first bytes = refl

-- how many blocks bytes have
pub blocks-length : (bytes : List ℕ) → length (blocks_of 4096 bytes) ≡ length bytes / 4096
blocks-length bytes = length-cut 4096 (length bytes / 4096) bytes
