-- Lists that others begin with.
use Rattle.std.proofs.Common.{ℕ, zero, suc, ◌≡◌, ◌+◌, true, List, [], ◌∷◌, ◌++◌, length, take, drop, map, Option, Some, refl, sym, ◌∙◌, ap, subst, arith}
use Rattle.std.proofs.Common.{append_assoc, ◌≤◌, slice_get, length-append, Bool}
use Rattle.std.specs.Prelude.{filter_map}
use Rattle.std.specs.List.{list_any}
use Rattle.std.proofs.lemmas.List.{take-append-drop, append-nil, take-append-le, map-append}
use Rattle.model.specs.Stream.{IsBeginning}
use Rattle.std.proofs.lemmas.Bool.{or_left}
use Rattle.laws.proofs.Lists.Elements.{get-left}
use Rattle.std.proofs.lemmas.List.Folds.{list_any-append}
use Rattle.std.proofs.lemmas.List.Elements.{filter_map-append}

-- a part from the front begins the list
pub begins-take : {X : Type 0} (n : ℕ) (xs : List X) → IsBeginning (take n xs) xs
begins-take n xs = (drop n xs, take-append-drop n xs)

-- a list begins itself
pub begins-self : {X : Type 0} (xs : List X) → IsBeginning xs xs
begins-self xs = ([], append-nil xs)

-- what begins a beginning begins the list
pub begins-trans : {X : Type 0} (xs ys zs : List X) → IsBeginning xs ys → IsBeginning ys zs → IsBeginning xs zs
begins-trans xs ys zs a b = (a.0 ++ b.0, sym (append_assoc xs a.0 b.0) ∙ (ap (λ (l : List _). l ++ b.0) a.1 ∙ b.1))

-- the same without the first so many
pub begins-drop : {X : Type 0} (n : ℕ) (xs ys : List X) → IsBeginning xs ys → IsBeginning (drop n xs) (drop n ys)
begins-drop zero xs ys a = a
begins-drop (suc n) [] ys a = (drop (suc n) ys, refl)
begins-drop (suc n) (x ∷ xs) ys a = subst (λ (l : List _). IsBeginning (drop n xs) (drop (suc n) l)) a.1 (begins-drop n xs (xs ++ a.0) (a.0, refl))

-- the same of what a filter makes of them
pub begins-filter_map : {X Y : Type 0} (f : X → Option Y) (xs ys : List X) → IsBeginning xs ys → IsBeginning (filter_map f xs) (filter_map f ys)
begins-filter_map f xs ys a = (filter_map f a.0, sym (filter_map-append f xs a.0) ∙ ap (filter_map f) a.1)

-- the first so many of a list are those of a longer one
pub take-begins : {X : Type 0} (n : ℕ) (xs ys : List X) → n ≤ length xs → IsBeginning xs ys → take n xs ≡ take n ys
take-begins n xs ys within b = subst (λ (l : List _). take n xs ≡ take n l) b.1 (sym (take-append-le n xs b.0 within))

-- a beginning is no longer than the list
pub length-begins : {X : Type 0} (xs ys : List X) → IsBeginning xs ys → length xs ≤ length ys
length-begins xs ys b = let whole : length xs + length b.0 ≡ length ys = sym (length-append xs b.0) ∙ ap length b.1 in omega arith

-- the first so many of a list begin the first so many and one
pub begins-further : {X : Type 0} (n : ℕ) (xs : List X) → IsBeginning (take n xs) (take (suc n) xs)
begins-further zero xs = (take 1 xs, refl)
begins-further (suc n) [] = ([], refl)
begins-further (suc n) (x ∷ xs) = let rest = begins-further n xs in (rest.0, ap (λ (l : List _). x ∷ l) rest.1)

-- the same of what they are mapped to
pub begins-map : {X Y : Type 0} (f : X → Y) (xs ys : List X) → IsBeginning xs ys → IsBeginning (map f xs) (map f ys)
begins-map f xs ys b = (map f b.0, sym (map-append f xs b.0) ∙ ap (map f) b.1)

-- one element more of a list that goes on
next-begins : {X : Type 0} (xs rest : List X) (y : X) → slice_get (xs ++ rest) (length xs) ≡ Some y → IsBeginning (xs ++ y ∷ []) (xs ++ rest)
next-begins [] [] y at = absurd (cc)
next-begins [] (z ∷ rest) y at = let same : z ≡ y = cc in (rest, ap (λ v. v ∷ rest) (sym same))
next-begins (x ∷ xs) rest y at = let more = next-begins xs rest y at in (more.0, ap (λ (l : List _). x ∷ l) more.1)

-- a list goes on as the one that it begins
pub begins-next : {X : Type 0} (xs ys : List X) (y : X) → IsBeginning xs ys → slice_get ys (length xs) ≡ Some y → IsBeginning (xs ++ y ∷ []) ys
begins-next xs ys y b at =
    subst (λ (l : List _). IsBeginning (xs ++ y ∷ []) l) b.1 (next-begins xs b.0 y (subst (λ (l : List _). slice_get l (length xs) ≡ Some y) (sym b.1) at))

-- the same list before both
pub begins-append : {X : Type 0} (xs ys zs : List X) → IsBeginning ys zs → IsBeginning (xs ++ ys) (xs ++ zs)
begins-append xs ys zs b = (b.0, append_assoc xs ys b.0 ∙ ap (λ (l : List _). xs ++ l) b.1)

-- what stands in a beginning stands in the list
pub get-beginning : {X : Type 0} (xs ys : List X) (n : ℕ) (x : X) → IsBeginning xs ys → slice_get xs n ≡ Some x → slice_get ys n ≡ Some x
get-beginning xs ys n x b at = subst (λ (l : List _). slice_get l n ≡ Some x) b.1 (get-left xs b.0 n x at)

-- what some element of a beginning passes, some element of the list passes
pub any-grows : {X : Type 0} (p : X → Bool) (xs ys : List X) → IsBeginning xs ys → list_any p xs ≡ true → list_any p ys ≡ true
any-grows p xs ys b h = subst (λ (l : List _). list_any p l ≡ true) b.1 (list_any-append p xs b.0 ∙ or_left (list_any p xs) (list_any p b.0) h)
