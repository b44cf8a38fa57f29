-- Writes that are begun for places, one after another.
use Rattle.std.proofs.Common.{ℕ, ◌≡◌, List, [], ◌∷◌, ◌++◌, map, refl, sym, subst, ap, ◌∙◌, append_assoc}
use Rattle.std.proofs.lemmas.List.{append-nil, map-append}
use Rattle.device_parts.specs.Places.{Place}
use Rattle.session_api.specs.Begun.{BegunState}
use Rattle.serve_requests.specs.Places.{AllPairs, AreOwn, BeginsOne, IsFrontBy, IsFrontTo}

-- a pair more
pairs-push : (R : Place → BegunState → Type 0) (places : List Place) (begun : List BegunState) (p : Place) (b : BegunState) → AllPairs R places begun → R p b
    → AllPairs R (places ++ p ∷ []) (begun ++ b ∷ [])
unfolding AllPairs
pairs-push R [] [] p b each one = (one, tt)
pairs-push R [] (c ∷ begun) p b each one = absurd each
pairs-push R (q ∷ places) [] p b each one = absurd each
pairs-push R (q ∷ places) (c ∷ begun) p b each one = (each.0, pairs-push R places begun p b each.1 one)

-- nothing was begun yet
pub none-yet : (R : Place → BegunState → Type 0) (all : List Place) (begun : List BegunState) → begun ≡ [] → IsFrontTo R all all begun
unfolding AllPairs
none-yet R all begun none = record { front = []; parts = refl; each = subst (AllPairs R []) (sym none) tt }

-- one more was
pub one-further : (R : Place → BegunState → Type 0) (all left rest : List Place) (p : Place) (before new : List BegunState) → IsFrontTo R all left before
    → left ≡ p ∷ rest → BeginsOne R p before new → IsFrontTo R all rest new
one-further R all left rest p before new done first one = record {
  front = done.front ++ p ∷ [];
  parts = append_assoc done.front (p ∷ []) rest ∙ ap (λ (ps : List Place). done.front ++ ps) (sym first) ∙ done.parts;
  each = subst (AllPairs R (done.front ++ p ∷ [])) (sym one.appended) (pairs-push R done.front before p one.begun done.each one.of);
}

-- all were
pub all-begun : (R : Place → BegunState → Type 0) (all rest : List Place) (begun : List BegunState) → IsFrontTo R all rest begun → rest ≡ [] → AllPairs R all begun
all-begun R all rest begun done none =
    subst (λ (ps : List Place). AllPairs R ps begun) (sym (append-nil done.front) ∙ ap (λ (ps : List Place). done.front ++ ps) (sym none) ∙ done.parts) done.each

-- a front, whatever is left
pub front-left : (R : Place → BegunState → Type 0) (all rest : List Place) (begun : List BegunState) → IsFrontTo R all rest begun → IsFrontBy R all begun
front-left R all rest begun done = record { rest = rest; front = done }

-- a relation that says less
pub pairs-weaker : (R S : Place → BegunState → Type 0) (places : List Place) (begun : List BegunState) → ((p : Place) (b : BegunState) → R p b → S p b)
    → AllPairs R places begun → AllPairs S places begun
unfolding AllPairs
pairs-weaker R S [] [] less each = tt
pairs-weaker R S [] (b ∷ begun) less each = absurd each
pairs-weaker R S (p ∷ places) [] less each = absurd each
pairs-weaker R S (p ∷ places) (b ∷ begun) less each = (less p b each.0, pairs-weaker R S places begun less each.1)

pub front-to-weaker : (R S : Place → BegunState → Type 0) (all rest : List Place) (begun : List BegunState) → ((p : Place) (b : BegunState) → R p b → S p b)
    → IsFrontTo R all rest begun → IsFrontTo S all rest begun
front-to-weaker R S all rest begun less done =
    record { front = done.front; parts = done.parts; each = pairs-weaker R S done.front begun less done.each }

pub front-weaker : (R S : Place → BegunState → Type 0) (all : List Place) (begun : List BegunState) → ((p : Place) (b : BegunState) → R p b → S p b)
    → IsFrontBy R all begun → IsFrontBy S all begun
front-weaker R S all begun less done = record { rest = done.rest; front = front-to-weaker R S all done.rest begun less done.front }

-- no write is begun, and the caller has none more
pub own-none : (old new : List BegunState) (before own : List ℕ) → new ≡ old → own ≡ before → AreOwn old new before own
own-none old new before own same mine = record { more = []; appended = same ∙ sym (append-nil old); mine = mine ∙ sym (append-nil before) }

-- one is, and it is the caller's
pub own-one : (old new : List BegunState) (write : BegunState) (before own : List ℕ) → new ≡ old ++ write ∷ [] → own ≡ before ++ write.number ∷ []
    → AreOwn old new before own
own-one old new write before own grown mine = record { more = write ∷ []; appended = grown; mine = mine }

-- some are, and then others
pub own-more : (old between new : List BegunState) (before own later : List ℕ) → AreOwn old between before own → AreOwn between new own later
    → AreOwn old new before later
own-more old between new before own later one other = record {
  more = one.more ++ other.more;
  appended = other.appended ∙ ap (λ (l : List BegunState). l ++ other.more) one.appended ∙ append_assoc old one.more other.more;
  mine = other.mine ∙ ap (λ (l : List ℕ). l ++ map (λ (b : BegunState). b.number) other.more) one.mine
      ∙ append_assoc before (map (λ (b : BegunState). b.number) one.more) (map (λ (b : BegunState). b.number) other.more)
      ∙ ap (λ (l : List ℕ). before ++ l) (sym (map-append (λ (b : BegunState). b.number) one.more other.more));
}

-- all that a caller has is what was begun
pub own-all : (old new : List BegunState) (before own : List ℕ) → old ≡ [] → AreOwn old new before own
    → own ≡ before ++ map (λ (b : BegunState). b.number) new
own-all old new before own none are =
    are.mine ∙ ap (λ (l : List BegunState). before ++ map (λ (b : BegunState). b.number) l) (sym (are.appended ∙ ap (λ (l : List BegunState). l ++ are.more) none))
