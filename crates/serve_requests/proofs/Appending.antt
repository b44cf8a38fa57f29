-- What is appended, one after another.
use Rattle.std.proofs.Common.{arith, ℕ, ◌≡◌, List, [], ◌∷◌, ◌++◌, map, refl, sym, ap, ◌∙◌, append_assoc}
use Rattle.std.proofs.lemmas.List.{append-nil, map_push, map-append}
use Rattle.blocks.specs.declared.range.Range.{Range}
use Rattle.nbd.specs.Pieces.{pair_of}
use Rattle.serve_requests.specs.Reads.{AreHeld}
use Rattle.serve_requests.specs.Receipts.{HasMore}

-- those of some ranges, and then that of one more
pub one-more : {A B C : Type 0} (of : A → C) (asked : B → C) (yielded : List B) (last : B) (old before new : List A)
    → HasMore of (map asked yielded) old before → HasMore of (asked last ∷ []) before new → HasMore of (map asked (yielded ++ last ∷ [])) old new
one-more of asked yielded last old before new done one = record {
  more = done.more ++ one.more;
  appended = one.appended ∙ ap (λ l. l ++ one.more) done.appended ∙ append_assoc old done.more one.more;
  each = map-append of done.more one.more ∙ ap (λ l. l ++ map of one.more) done.each ∙ ap (λ l. map asked yielded ++ l) one.each
      ∙ sym (map_push asked yielded last);
}

-- what is left goes on
pub left-one : (yielded : List Range) (range : Range) (left rest ranges : List (ℕ × ℕ)) → map pair_of yielded ++ left ≡ ranges → left ≡ pair_of range ∷ rest
    → map pair_of (yielded ++ range ∷ []) ++ rest ≡ ranges
left-one yielded range left rest ranges all first =
    ap (λ (l : List (ℕ × ℕ)). l ++ rest) (map_push pair_of yielded range) ∙ append_assoc (map pair_of yielded) (pair_of range ∷ []) rest
    ∙ sym (ap (λ (l : List (ℕ × ℕ)). map pair_of yielded ++ l) first) ∙ all

-- what was held in some ranges, and then in one more
pub held-one : (holds : ℕ → ℕ → List ℕ → Type 0) (yielded : List Range) (range : Range) (before bytes new : List ℕ) → AreHeld holds (map pair_of yielded) before
    → holds range.first.0 range.count bytes → new ≡ before ++ bytes → AreHeld holds (map pair_of (yielded ++ range ∷ [])) new
held-one holds [] range before bytes new done one grown =
    (bytes, ([], (grown ∙ ap (λ (l : List ℕ). l ++ bytes) done ∙ sym (append-nil bytes), (one, refl))))
held-one holds (first ∷ yielded) range before bytes new done one grown = (
  done.0,
  (
    done.1.0 ++ bytes,
    (
      grown ∙ ap (λ (l : List ℕ). l ++ bytes) done.1.1.0 ∙ append_assoc done.0 done.1.0 bytes,
      (done.1.1.1.0, held-one holds yielded range done.1.0 bytes (done.1.0 ++ bytes) done.1.1.1.1 one refl),
    ),
  ),
)

-- a list that goes on with one item
pub left-item : {A : Type 0} (yielded left rest all : List A) (item : A) → yielded ++ left ≡ all → left ≡ item ∷ rest → (yielded ++ item ∷ []) ++ rest ≡ all
left-item yielded left rest all item done first = append_assoc yielded (item ∷ []) rest ∙ sym (ap (λ l. yielded ++ l) first) ∙ done

-- such a list is not empty
pub not-empty : {A : Type 0} (yielded : List A) (item : A) → yielded ++ item ∷ [] ≡ [] → ⊥
not-empty [] item empty = grind arith
not-empty (first ∷ yielded) item empty = grind arith
