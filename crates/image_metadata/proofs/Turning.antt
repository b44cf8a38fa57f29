-- A primary whose identifiers turned is not taken for one with the peer's data.
use Rattle.std.proofs.Common.{ℕ, ◌≡◌, Bool, true, false, ◌==◌, ◌&&◌, Ok, refl, subst}
use Rattle.std.specs.Prelude.{if◌then◌else◌}
use Rattle.std.proofs.lemmas.Bool.{both_ways, eq-eqb, eqb-true}
use Rattle.blocks.specs.Identifiers.{decision, lost}
use Rattle.blocks.specs.declared.outcome.Decision.TheVariants.{NoSync}
use Rattle.blocks.specs.declared.tuple.Tuple.{Tuple}
use Rattle.image_metadata.specs.Opening.{turned}
use Rattle.laws.proofs.WriteOrder.Generations.{decided-none}

pub turned-copies : (own peer : Tuple) (word : ℕ) → (word ≡ peer.current → ⊥) → (own.current ≡ peer.current → own.bitmap ≡ 0)
    → decision (turned own peer true word) peer ≡ Ok NoSync → ⊥
turned-copies own peer word fresh unparted is = go (own.current == peer.current) refl (decided-none (turned own peer true word) peer is)
  where
    by-bitmap : (none : Bool) → (own.bitmap == 0) ≡ none → none ≡ true
        → (if none then record own { current = word; bitmap = own.current } else own).current ≡ peer.current → ⊥
    by-bitmap true is-zero told same = fresh same
    by-bitmap false is-zero told same = absurd (cc)

    go : (same : Bool) → (own.current == peer.current) ≡ same → (if true && same then lost word own else own).current ≡ peer.current → ⊥
    go true equal same = by-bitmap (own.bitmap == 0) refl (eq-eqb own.bitmap 0 (unparted (eqb-true own.current peer.current equal))) same
    go false equal same = both_ways (own.current == peer.current) equal (eq-eqb own.current peer.current same)
