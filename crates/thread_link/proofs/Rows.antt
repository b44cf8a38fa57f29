-- Each move keeps the rule of the row.
use Rattle.std.proofs.Common.{◌≡◌, ◌≢◌, ℕ, zero, suc, true, false, true≢false, List, [], ◌∷◌, ◌++◌, length, map, set, sym, refl, ap, ◌∙◌, subst, ⊎_elim}
use Rattle.std.proofs.Common.{append_assoc}
use Rattle.std.proofs.lemmas.List.{map-append}
use mathlib.Core.Option.{some, some-ne-none}
use lib.ListN.{get_elem?}
use Rattle.crossbeam_queue.specs.Fifo.{Pushes, Pops, Forks, Merges, Learns}
use Rattle.crossbeam_queue.proofs.Lists.{at_set, at_snoc}
use Rattle.thread_link.specs.declared.pieces.Log.{Log}
use Rattle.thread_link.specs.Pieces.{PieceState}
use Rattle.thread_link.specs.Moments.{Fact}
use Rattle.thread_link.specs.Row.{log, piece_of, Fits, PushedAt, SheetsInOrder}
use Rattle.thread_link.specs.declared.sheet.Sheet.{Sheet}

at_end : (l : List Log) (a b : Log) (j : ℕ) → get_elem? l j ≢ some b → get_elem? (l ++ a ∷ []) j ≡ some b → j ≡ length l
at_end [] a b zero n e = refl
at_end [] a b (suc j) n e = absurd (some-ne-none b (sym e))
at_end (x ∷ xs) a b zero n e = absurd (n e)
at_end (x ∷ xs) a b (suc j) n e = ap suc (at_end xs a b j n e)

abbrev All : (ℕ → Log → Type 0) → List Log → Type 0
All F views = (port : ℕ) (v : Log) → get_elem? views port ≡ some v → F port v

all_set : (F : ℕ → Log → Type 0) (views : List Log) (port : ℕ) (w : Log) → F port w → ((j : ℕ) (u : Log) → j ≢ port → get_elem? views j ≡ some u → F j u)
    → All F (set views port w)
all_set F views port w mine others j u e = ⊎_elim (λ (x : (j ≡ port) × (w ≡ u)). subst (λ (y : ℕ × Log). F y.0 y.1) (λ i. (sym x.0 i, x.1 i)) mine)
    (λ (x : (j ≢ port) × (get_elem? views j ≡ some u)). others j u x.0 x.1) (at_set views port j w u e)

pub begins : (holds : Fact) → holds [] [] → SheetsInOrder holds [] (log true true [] [] ∷ [])
begins holds first = (
  0,
  0,
  [],
  [],
  refl,
  all_set (Fits 0 0 [] []) (log true true [] [] ∷ []) 0 (log true true [] []) ((λ _. (refl, refl)), λ _. (refl, refl))
      (λ j u other e. absurd (other (at_end [] _ u j (λ x. some-ne-none u (sym x)) e))),
  first,
)

-- a push keeps the fact
abbrev pub PushKeeps : Fact → Type 0
PushKeeps holds = (pushed taken : List PieceState) (piece : PieceState) → holds pushed taken → holds (pushed ++ piece ∷ []) taken

-- taking the first piece that is there keeps the fact
abbrev pub TakeKeeps : Fact → Type 0
TakeKeeps holds = (taken there : List PieceState) (piece : PieceState) → holds (taken ++ piece ∷ there) taken
    → holds (taken ++ piece ∷ there) (taken ++ piece ∷ [])

pub sends : (holds : Fact) → PushKeeps holds → (n port : ℕ) (v : Log) (x : Sheet) → v.pushes ≡ true
    → Pushes (SheetsInOrder holds) n port v x (λ w. w ≡ log v.pushes v.takes (v.pushed ++ piece_of x ∷ []) v.taken)
sends holds keeps n port v x may items views _ h at = let w : Log = log v.pushes v.takes (v.pushed ++ piece_of x ∷ []) v.taken in let mine = h.5 port v at in let sent =
    h.2 ++ piece_of x ∷ [] in (
      w,
      (
        h.0,
        h.1,
        sent,
        h.3,
        ap (λ l. l ++ piece_of x ∷ []) h.4 ∙ append_assoc h.3 (map piece_of items) (piece_of x ∷ [])
            ∙ ap (λ (l : List PieceState). h.3 ++ l) (sym (map-append piece_of items (x ∷ []))),
        all_set (Fits h.0 h.1 sent h.3) views port w ((λ _. ((mine.0 may).0, ap (λ l. l ++ piece_of x ∷ []) (mine.0 may).1)), mine.1)
            (λ j u other e. ((λ p. absurd (other (((h.5 j u e).0 p).0 ∙ sym (mine.0 may).0))), (h.5 j u e).1)),
        keeps h.2 h.3 (piece_of x) h.6,
      ),
      refl,
    )

pub gets : (holds : Fact) → TakeKeeps holds → (port : ℕ) (v : Log) → v.takes ≡ true
    → Pops (SheetsInOrder holds) port v (λ x w. w ≡ log v.pushes v.takes v.pushed (v.taken ++ piece_of x ∷ []))
gets holds keeps port v may x items views h at = let w : Log = log v.pushes v.takes v.pushed (v.taken ++ piece_of x ∷ []) in let mine = h.5 port v at in let got =
    h.3 ++ piece_of x ∷ [] in (
      w,
      (
        h.0,
        h.1,
        h.2,
        got,
        h.4 ∙ sym (append_assoc h.3 (piece_of x ∷ []) (map piece_of items)),
        all_set (Fits h.0 h.1 h.2 got) views port w (mine.0, λ _. ((mine.1 may).0, ap (λ l. l ++ piece_of x ∷ []) (mine.1 may).1))
            (λ j u other e. ((h.5 j u e).0, λ p. absurd (other (((h.5 j u e).1 p).0 ∙ sym (mine.1 may).0)))),
        subst (λ (l : List PieceState). holds l got) (sym h.4) (keeps h.3 (map piece_of items) (piece_of x) (subst (λ (l : List PieceState). holds l h.3) h.4 h.6)),
      ),
      refl,
    )

pub forks : (holds : Fact) (port : ℕ) (v : Log) → v.pushes ≡ true → v.takes ≡ true
    → Forks (SheetsInOrder holds) port v (log true false v.pushed []) (log false true [] v.taken)
forks holds port v a b items views h at = let l : Log = log true false v.pushed [] in let r : Log = log false true [] v.taken in let mine =
    h.5 port v at in let vs : List Log = set views port l in
    let Old : ℕ → Log → Type 0 = λ j u. (u.pushes ≡ true → (j ≡ h.0) × (u.pushed ≡ h.2)) × (u.takes ≢ true) in
    let old : All Old vs = all_set Old views port l ((λ _. mine.0 a), λ p. true≢false (sym p))
    (λ j u other e. ((h.5 j u e).0, λ p. other (((h.5 j u e).1 p).0 ∙ sym (mine.1 b).0))) in (
      h.0,
      length vs,
      h.2,
      h.3,
      h.4,
      λ j u e. ⊎_elim (λ x. ((old j u x).0, λ p. absurd ((old j u x).1 p)))
          (λ (is : r ≡ u). (
            (λ p. absurd (true≢false (sym (ap (λ (y : Log). y.pushes) is ∙ p)))),
            λ p. (at_end vs r u j (λ x. (old j u x).1 p) e, ap (λ (y : Log). y.taken) (sym is) ∙ (mine.1 b).1),
          )) (at_snoc vs r u j e),
      h.6,
    )

pub merges : (holds : Fact) (port : ℕ) (v : Log) (other : ℕ) (u : Log) → v.pushes ≡ true → u.takes ≡ true
    → Merges (SheetsInOrder holds) port v other u (log true true v.pushed u.taken) (log false false [] [])
merges holds port v other u a b items views h at two at' = let both : Log = log true true v.pushed u.taken in let mine = h.5 port v at in let vs : List Log =
    set views port both in
    let was : get_elem? views other ≡ some u = ⊎_elim (λ x. absurd (two x.0)) (λ x. x.1) (at_set views port other both u at') in let theirs =
    (h.5 other u was).1 b in
    let Now : ℕ → Log → Type 0 = λ j y. j ≢ other → Fits h.0 port h.2 h.3 j y in
    let now : All Now vs = all_set Now views port both (λ _. ((λ _. mine.0 a), λ _. (refl, theirs.1)))
    (λ j y _ e apart. ((h.5 j y e).0, λ p. absurd (apart (((h.5 j y e).1 p).0 ∙ sym theirs.0)))) in (
      h.0,
      port,
      h.2,
      h.3,
      h.4,
      all_set (Fits h.0 port h.2 h.3) vs other (log false false [] []) (
        (λ p. absurd (true≢false (sym p))),
        λ p. absurd (true≢false (sym p)),
      ) (λ j y apart e. now j y e apart),
      h.6,
    )

pub totals : (holds : Fact) (port : ℕ) (v : Log) → v.pushes ≡ true → v.takes ≡ true → Learns (SheetsInOrder holds) port v (λ sheets. v.pushed ≡ v.taken ++ map piece_of sheets)
totals holds port v a b items views h at = let mine = h.5 port v at in (mine.0 a).1 ∙ h.4 ∙ ap (λ l. l ++ map piece_of items) (sym (mine.1 b).1)

-- at a push that is refused the row is as the rule says
pub full_at : (holds : Fact) (port : ℕ) (v : Log) → v.pushes ≡ true → Learns (SheetsInOrder holds) port v (λ sheets. PushedAt holds v.pushed (map piece_of sheets))
full_at holds port v may items views h at =
    let same = ((h.5 port v at).0 may).1 in
    (h.3, same ∙ h.4, subst (λ (l : List PieceState). holds l h.3) (sym same) h.6)

-- and so it is at a pop that finds nothing
pub empty_at : (holds : Fact) (port : ℕ) (v : Log) → v.takes ≡ true → Learns (SheetsInOrder holds) port v (λ sheets. holds (v.taken ++ map piece_of sheets) v.taken)
empty_at holds port v may items views h at =
    let same = ((h.5 port v at).1 may).1 in
    subst (λ (l : List PieceState × List PieceState). holds l.0 l.1) (λ i. ((h.4 ∙ ap (λ l. l ++ map piece_of items) (sym same)) i, (sym same) i)) h.6
