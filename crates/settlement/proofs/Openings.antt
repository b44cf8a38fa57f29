-- Openings whose identifiers are honest, and runs from them.
use Rattle.std.proofs.Common.{ℕ, ◌≡◌, ◌<◌, nat_lt, Bool, true, ◌&&◌, ◌==◌, List, [], ◌∷◌, Option, Some, None, slice_get, refl, sym, subst, arith}
use Rattle.std.proofs.lemmas.Bool.{and_from, both_ways, eq-eqb}
use Rattle.blocks.specs.declared.settings.Settings.{Settings}
use Rattle.blocks.specs.declared.tuple.Tuple.{Tuple}
use Rattle.model.specs.Contents.{BlockMap}
use Rattle.model.specs.Headline.{Cover, IsHonest}
use Rattle.model.specs.LocalRuns.{PrimaryEvent, SecondaryEvent, primary_run, secondary_run}
use Rattle.model.specs.Pair.{same_block, same_bytes}
use Rattle.model.specs.Primary.{PrimaryHistory}
use Rattle.model.specs.Secondary.{SecondaryHistory}
use Rattle.model.specs.Theorems.{Opening, primary_at, secondary_at}
use Rattle.laws.proofs.Joining.Openings.{HasOpening, HasOpeningToo, kept-opening-primary, kept-opening-secondary}
use Rattle.settlement.specs.Settled.{WasHonest, WereHonest}

honest-of : (o : Opening) (p : PrimaryHistory) (s : SecondaryHistory) → HasOpening o p → HasOpeningToo o s → WasHonest o → WereHonest p s
honest-of o p s here there honest =
    subst (λ (t : Settings). IsHonest p.opening_tuple s.opening_tuple (λ block. nat_lt block t.blocks && p.opening_marks block) p.opening_map s.opening_map)
    (sym here.settings)
    (subst (λ (m : ℕ → Bool). IsHonest p.opening_tuple s.opening_tuple (λ block. nat_lt block o.settings.blocks && m block) p.opening_map s.opening_map)
    (sym here.marks)
    (subst (λ (m : BlockMap). IsHonest p.opening_tuple s.opening_tuple (λ block. nat_lt block o.settings.blocks && o.marks block) m s.opening_map)
    (sym here.disk)
    (subst (λ (m : BlockMap). IsHonest p.opening_tuple s.opening_tuple (λ block. nat_lt block o.settings.blocks && o.marks block) o.local m)
    (sym there.disk)
    (subst (λ (t : Tuple). IsHonest t s.opening_tuple (λ block. nat_lt block o.settings.blocks && o.marks block) o.local o.peer) (sym here.tuple)
    (subst (λ (t : Tuple). IsHonest o.own t (λ block. nat_lt block o.settings.blocks && o.marks block) o.local o.peer) (sym there.tuple) honest)))))

pub were-honest : (o : Opening) (here : List PrimaryEvent) (there : List SecondaryEvent) → WasHonest o
    → WereHonest (primary_run here (primary_at o)) (secondary_run there (secondary_at o))
were-honest o here there = honest-of o _ _ (kept-opening-primary o here) (kept-opening-secondary o there)

-- A first opening.

bytes-self : (a : List ℕ) → same_bytes a a ≡ true
bytes-self [] = refl
bytes-self (x ∷ a) = and_from (x == x) (same_bytes a a) (eq-eqb x x refl) (bytes-self a)

block-self : (a : Option (List ℕ)) → same_block a a ≡ true
block-self None = refl
block-self (Some a) = bytes-self a

-- two disks that are one differ nowhere
covers-same : (marks : ℕ → Bool) (local peer : List (List ℕ)) → local ≡ peer → Cover marks (slice_get local) (slice_get peer)
covers-same marks local peer is block differs = absurd (both_ways (same_block (slice_get local block) (slice_get peer block)) differs
    (subst (λ (l : List (List ℕ)). same_block (slice_get local block) (slice_get l block) ≡ true) is (block-self (slice_get local block))))

-- The primary's data have an identifier, and the peer's disk has it only where the disks are one; no block was marked before.
pub first-honest : (own peer : Tuple) (marks : ℕ → Bool) (local other : List (List ℕ)) → 0 < own.current → own.bitmap ≡ 0
    → (peer.current ≡ own.current → local ≡ other) → IsHonest own peer marks (slice_get local) (slice_get other)
first-honest own peer marks local other some none alike = record {
  own_data = some;
  same_current = λ is. covers-same marks local other (alike is);
  from_bitmap = λ above is. absurd (omega (arith, above, none));
}
