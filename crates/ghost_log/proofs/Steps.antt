-- The ghost side of each call. Assumes `Logic`.
use Rattle.std.proofs.Common.{◌≡◌, ◌⊎◌, inl, inr, ℕ, List, [], ◌∷◌, ◌++◌, map, sym, refl, ap, ◌∙◌, subst}
use mathlib.Core.List.{IsPrefix, cons≢nil}
use seplogic.Ra.Ura.{Ura}
use base.Fraction.{full_share}
use base.Stored.{Gv, gnil, Coded}
use base.Logic.{SProp, ent, sep, ex, ex_e, ex_i, guard, guard_e, guard_i, upd, emp, id⊢, via}
use base.Growing.{Least, latest, at_least, prefix_refl, prefix_anti}
use base.Shift.{Keyless}
use types.Logic.{Logic, sem}
use types.Owned.{basic}
use types.Growing.{latest_new, latest_grows, latest_shows, latest_bounds, at_least_dup, at_least_join}
use types.Kit.{‵, raw, ◌⊛◌, some, given, later, ◌$◌, ◌∵◌, !, qed, by, move, keep, drop, split, learn, frame, check, show, use0, use1, use2, updating, await, now, done}
use Rattle.ghost_log.specs.Owned.{logs, blank_owns, log_owns, seen_owns}

abbrev head : Gv → List Gv → Gv
head d [] = d
head d (x ∷ xs) = x

abbrev tail : List Gv → List Gv
tail [] = []
tail (x ∷ xs) = xs

-- of two beginnings of one list, one begins the other
in_line : (p q l : List Gv) → IsPrefix p l → IsPrefix q l → IsPrefix p q ⊎ IsPrefix q p
in_line [] q l h k = inl (q, refl)
in_line (x ∷ p) [] l h k = inr (x ∷ p, refl)
in_line (x ∷ p) (y ∷ q) l h k =
    let same : x ≡ y = ap (head gnil) (h.1 ∙ sym k.1) in elim (in_line p q (tail l) (h.0, ap tail h.1) (k.0, ap tail k.1)) [
      | inl t ↦ inl (t.0, λ i. same i ∷ t.1 i)
      | inr t ↦ inr (t.0, λ i. sym same i ∷ t.1 i)
    ]

module _ {M : Type 1} {𝓤 : Ura M} (𝓛 : Logic 𝓤) where
  pub begins : ent 𝓤 (emp 𝓤) (upd 𝓤 (ex 𝓤 (λ (γ : ℕ). sem 𝓛 (blank_owns γ))))
  unfolding blank_owns
  begins = latest_new logs 𝓛 []

  pub starts : ent 𝓤 (emp 𝓤) (𝓛.H.⇛ (ex 𝓤 (λ (γ : ℕ). sem 𝓛 (blank_owns γ))))
  starts = via 𝓤 _ begins (basic 𝓛 _)

  module _ {E : Type 0} (c : Coded E) (γ : ℕ) where
    pub opened : ent 𝓤 (sem 𝓛 (blank_owns γ)) (sem 𝓛 (log_owns c.code γ []))
    unfolding blank_owns log_owns
    opened = id⊢ 𝓤 _

    pub seen_twice : (xs : List E) → ent 𝓤 (sem 𝓛 (seen_owns c.code γ xs)) (sep 𝓤 (sem 𝓛 (seen_owns c.code γ xs)) (sem 𝓛 (seen_owns c.code γ xs)))
    unfolding seen_owns
    seen_twice xs = at_least_dup logs 𝓛 γ (map c.code xs)

    map_append : (xs ys : List E) → map c.code (xs ++ ys) ≡ map c.code xs ++ map c.code ys
    map_append [] ys = refl
    map_append (x ∷ xs) ys = ap (λ (zs : List Gv). c.code x ∷ zs) (map_append xs ys)

    pub grows : (xs more : List E) → ent 𝓤 (sem 𝓛 (log_owns c.code γ xs)) (upd 𝓤 (sem 𝓛 (log_owns c.code γ (xs ++ more))))
    unfolding log_owns
    grows xs more = latest_grows logs 𝓛 γ (map c.code xs) (map c.code (xs ++ more)) (map c.code more, sym (map_append xs more))

    pub shows : (xs : List E) → ent 𝓤 (sem 𝓛 (log_owns c.code γ xs)) (sep 𝓤 (sem 𝓛 (log_owns c.code γ xs)) (sem 𝓛 (seen_owns c.code γ xs)))
    unfolding log_owns seen_owns
    shows xs = latest_shows logs 𝓛 full_share γ (map c.code xs) (map c.code xs) (logs.same (map c.code xs))

    pub grown : (xs more : List E) → ent 𝓤 (sem 𝓛 (log_owns c.code γ xs)) (𝓛.H.⇛ (sep 𝓤 (sem 𝓛 (log_owns c.code γ (xs ++ more))) (sem 𝓛 (seen_owns c.code γ (xs ++ more)))))
    grown xs more = let L = log_owns c.code γ (xs ++ more) in let S = seen_owns c.code γ (xs ++ more) in qed 𝓛 (‵ (log_owns c.code γ xs) ∷ []) ∵ updating ! $
        use1 𝓛 (later (‵ L)) (via 𝓤 _ (grows xs more) (basic 𝓛 _)) $ await ! tt $ use1 𝓛 (‵ L ⊛ ‵ S) (shows (xs ++ more)) $ split ! $ now ! $ done !

    code_prefix : (xs ys : List E) → IsPrefix (map c.code xs) (map c.code ys) → IsPrefix xs ys
    code_prefix [] ys h = (ys, refl)
    code_prefix (x ∷ xs) [] h = absurd (cons≢nil h.1)
    code_prefix (x ∷ xs) (y ∷ ys) h = let t = code_prefix xs ys (h.0, ap tail h.1) in (t.0, λ i. c.inj x y (ap (head gnil) h.1) i ∷ t.1 i)

    pub under : (xs ys : List E) → ent 𝓤 (sep 𝓤 (sem 𝓛 (log_owns c.code γ xs)) (sem 𝓛 (seen_owns c.code γ ys)))
        (guard 𝓤 (IsPrefix ys xs) (sep 𝓤 (sem 𝓛 (log_owns c.code γ xs)) (sem 𝓛 (seen_owns c.code γ ys))))
    unfolding log_owns seen_owns
    under xs ys = let L = log_owns c.code γ xs in let S = seen_owns c.code γ ys in qed 𝓛 (‵ L ∷ ‵ S ∷ []) ∵
        use2 𝓛 (given (IsPrefix (map c.code ys) (map c.code xs)) (‵ L ⊛ ‵ S)) (latest_bounds logs 𝓛 full_share γ (map c.code xs) (map c.code ys)) $ learn ! (λ h. split ! $ check ! (code_prefix ys xs h) $ done !)

    abbrev Joined : List E → List E → SProp 𝓤
    Joined xs ys = ex 𝓤 (λ (zs : List E). guard 𝓤 (IsPrefix xs zs × IsPrefix ys zs) (sem 𝓛 (seen_owns c.code γ zs)))

    -- what was reached is the list of these entries
    reached : (xs ys zs : List E) (z : List Gv) → z ≡ map c.code zs → IsPrefix xs zs → IsPrefix ys zs → ent 𝓤 (sem 𝓛 (at_least logs γ z)) (Joined xs ys)
    unfolding seen_owns
    reached xs ys zs z is one other =
        let S : SProp 𝓤 = sem 𝓛 (at_least logs γ (map c.code zs)) in
        let F : List E → SProp 𝓤 = λ ws. guard 𝓤 (IsPrefix xs ws × IsPrefix ys ws) (sem 𝓛 (at_least logs γ (map c.code ws))) in
        subst (λ (w : List Gv). ent 𝓤 (sem 𝓛 (at_least logs γ w)) (ex 𝓤 F)) (sym is)
        (via 𝓤 (F zs) (guard_i 𝓤 (IsPrefix xs zs × IsPrefix ys zs) S (one, other)) (ex_i 𝓤 F zs))

    -- of what two have seen, one has seen all
    pub joins : (xs ys : List E) → ent 𝓤 (sep 𝓤 (sem 𝓛 (seen_owns c.code γ xs)) (sem 𝓛 (seen_owns c.code γ ys))) (Joined xs ys)
    unfolding seen_owns
    joins xs ys =
        let p : List Gv = map c.code xs in
        let q : List Gv = map c.code ys in
        let F : List Gv → SProp 𝓤 = λ z. guard 𝓤 (Least IsPrefix p q z) (sem 𝓛 (at_least logs γ z)) in
        via 𝓤 (ex 𝓤 F) (at_least_join logs 𝓛 γ p q) (ex_e 𝓤 F (λ z. guard_e 𝓤 (Least IsPrefix p q z) (sem 𝓛 (at_least logs γ z)) (λ least.
        elim (in_line p q z least.0 least.1) [
          | inl under ↦ reached xs ys ys z (prefix_anti z q (least.2 q under (prefix_refl q)) least.1) (code_prefix xs ys under) (code_prefix ys ys (prefix_refl q))
          | inr over ↦ reached xs ys xs z (prefix_anti z p (least.2 p (prefix_refl p) over) least.0) (code_prefix xs xs (prefix_refl p)) (code_prefix ys xs over)
        ])))
