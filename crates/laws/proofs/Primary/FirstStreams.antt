-- Which stream is the first that began, once the last connection's stream begins.
use Rattle.std.proofs.Common.{ℕ, ◌≡◌, ◌-◌, inl, inr, false, true, List, [], ◌∷◌, ◌++◌, length, Some, slice_get, Ok, refl, sym, ◌∙◌, ap, subst, arith}
use Rattle.std.proofs.lemmas.Bool.{both_ways}
use Rattle.std.proofs.lemmas.Option.{slice_get_within}
use Rattle.blocks.specs.declared.tuple.Tuple.{Tuple}
use Rattle.blocks.specs.declared.outcome.Decision.{Decision}
use Rattle.model.specs.Stream.{StreamItem}
use Rattle.model.specs.Frames.{Received, UuidsFrame}
use Rattle.model.specs.Identifiers.{decision}
use Rattle.model.specs.Primary.{PrimaryConnection, PrimaryHistory, no_primary_connection, primary_connection, last_index, change_last}
use Rattle.laws.specs.Reflections.{FirstBegan, NoneBegan}
use Rattle.laws.proofs.Lists.Elements.{get-end}
use Rattle.laws.proofs.Lists.Last.{get-change, get-change-back, get-last-changed}
use Rattle.laws.proofs.Primary.Homes.{HasHomes, open-at}

-- a stream that has not begun has no item
pub no-item : (h : PrimaryHistory) → HasHomes h → (primary_connection h).closed ≡ false → (primary_connection h).begun ≡ false
    → (n : ℕ) (i : StreamItem) → slice_get (primary_connection h).stream n ≡ Some i → ⊥
no-item h homes standing fresh n i at =
    let empty : (primary_connection h).stream ≡ [] = homes.empty (length h.connections - 1) (primary_connection h) (open-at h standing) fresh in
    let there : slice_get [] n ≡ Some i = subst (λ (l : List StreamItem). slice_get l n ≡ Some i) empty at in cc (there)

module _ (h later : PrimaryHistory) (peer : Tuple) (f : PrimaryConnection → PrimaryConnection) (fresh : (primary_connection h).begun ≡ false)
    (connections : later.connections ≡ change_last f h.connections) (opening : later.opening_tuple ≡ h.opening_tuple) where
  -- one that began before stays the first
  pub first-stays : (other : Decision) → FirstBegan h other → FirstBegan later other
  first-stays other old = record {
    connection = old.connection;
    end = old.end;
    at = elim (get-change f (no_primary_connection h.tuple) h.connections old.connection old.end old.at) [
      | inl same ↦ subst (λ (l : List PrimaryConnection). slice_get l old.connection ≡ Some old.end) (sym connections) same
      | inr changed ↦ absurd (both_ways (primary_connection h).begun fresh (ap (λ (x : PrimaryConnection). x.begun) (sym changed.1) ∙ old.begun))
    ];
    begun = old.begun;
    earlier = λ k d early at. elim (get-change-back f (no_primary_connection h.tuple) h.connections k d
        (subst (λ (l : List PrimaryConnection). slice_get l k ≡ Some d) connections at)) [
          | inl same ↦ old.earlier k d early same
          | inr changed ↦ absurd (let end = changed.2 in let within = slice_get_within h.connections old.connection old.end old.at in omega arith)
        ];
    peer = old.peer;
    n = old.n;
    taken = old.taken;
    decides = subst (λ (t : Tuple). decision t old.peer ≡ Ok other) (sym opening) old.decides;
  }

  -- where none began before, it is this one
  pub first-now : (decided : Decision) → (primary_connection h).closed ≡ false → (f (primary_connection h)).begun ≡ true
      → (f (primary_connection h)).taken ≡ (primary_connection h).taken ++ Ok (UuidsFrame peer) ∷ [] → decision h.tuple peer ≡ Ok decided → NoneBegan h
      → FirstBegan later decided
  first-now decided standing begun taken is none = record {
    connection = last_index h.connections;
    end = f (primary_connection h);
    at = subst (λ (l : List PrimaryConnection). slice_get l (last_index h.connections) ≡ Some (f (primary_connection h))) (sym connections)
        (get-last-changed f (no_primary_connection h.tuple) h.connections (primary_connection h) (open-at h standing) refl);
    begun = begun;
    earlier = λ k d early at. elim (get-change-back f (no_primary_connection h.tuple) h.connections k d
        (subst (λ (l : List PrimaryConnection). slice_get l k ≡ Some d) connections at)) [
          | inl same ↦ none.none k d same
          | inr changed ↦ absurd (let end = changed.2 in omega arith)
        ];
    peer = peer;
    n = length (primary_connection h).taken;
    taken = subst (λ (l : List Received). slice_get l (length (primary_connection h).taken) ≡ Some (Ok (UuidsFrame peer))) (sym taken)
        (get-end (primary_connection h).taken (Ok (UuidsFrame peer)));
    decides = subst (λ (t : Tuple). decision t peer ≡ Ok decided) (none.tuple ∙ sym opening) is;
  }
