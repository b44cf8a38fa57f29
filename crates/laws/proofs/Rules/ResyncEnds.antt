-- When a resync is over: what holds where a running one is, that no other is, and the test by what it asks.
use Rattle.std.proofs.Common.{ℕ, ◌≡◌, ◌<◌, Bool, true, false, not, ◌&&◌, ◌||◌, List, [], ◌∷◌, length, filter, refl, sym, ◌∙◌, ap, arith, ◌==◌}
use Rattle.std.specs.Prelude.{if◌then◌else◌}
use Rattle.std.specs.List.{list_any}
use Rattle.std.proofs.lemmas.Bool.{and_parts, not-true}
use Rattle.model.specs.Stream.{below}
use Rattle.model.specs.Primary.{PrimaryHistory, primary_connection, is_established, in_resync, resync_runs, under_way, marked_blocks}
use Rattle.model.specs.PrimarySteps.{resync_is_over}
use Rattle.laws.proofs.Lists.Picks.{pick-none, below-has}

-- nothing is let through exactly where nothing passes
none-or-some : {X : Type 0} (p : X → Bool) (xs : List X) → (length (filter p xs) == 0) ≡ not (list_any p xs)
none-or-some p [] = refl
none-or-some {X} p (x ∷ xs) = elim (p x) as (λ b. (length {A = X} (if b then x ∷ filter p xs else filter p xs) == 0) ≡ not (b || list_any p xs))
    [ true ↦ grind (arith) | false ↦ none-or-some p xs ]

-- the rule, by whether a resync runs
abbrev over_if : PrimaryHistory → Bool → Bool
over_if g runs = elim runs as (λ _. Bool) [ false ↦ false | true ↦ (length (marked_blocks g) == 0) && (length (under_way (primary_connection g)) == 0) ]

-- What holds where one is over.

-- it runs, and no block is marked
over-has : (g : PrimaryHistory) → resync_is_over g ≡ true → (resync_runs (primary_connection g) ≡ true) × ((length (marked_blocks g) == 0) ≡ true)
over-has g over = go (resync_runs (primary_connection g)) over
  where
    go : (runs : Bool) → over_if g runs ≡ true → (runs ≡ true) × ((length (marked_blocks g) == 0) ≡ true)
    go true is = (refl, (and_parts (length (marked_blocks g) == 0) (length (under_way (primary_connection g)) == 0) is).0)
    go false is = absurd (cc)

-- its stream stands
pub over-established : (g : PrimaryHistory) → resync_is_over g ≡ true → is_established (primary_connection g) ≡ true
over-established g over = (and_parts (is_established (primary_connection g)) (in_resync (primary_connection g).stream) (over-has g over).0).0

-- and is in a resync
pub over-runs : (g : PrimaryHistory) → resync_is_over g ≡ true → in_resync (primary_connection g).stream ≡ true
over-runs g over = (and_parts (is_established (primary_connection g)) (in_resync (primary_connection g).stream) (over-has g over).0).1

-- no block of the device is marked
pub over-unmarked : (g : PrimaryHistory) → resync_is_over g ≡ true → (block : ℕ) → block < g.settings.blocks → g.marks block ≡ false
over-unmarked g over block inside =
    let place = below-has g.settings.blocks block inside in
    pick-none g.marks (below g.settings.blocks) place.0 block
    (not-true (list_any g.marks (below g.settings.blocks)) (sym (none-or-some g.marks (below g.settings.blocks)) ∙ (over-has g over).1)) place.1

-- What concludes it.

-- where none runs, none is over
pub not-running : (g : PrimaryHistory) → resync_runs (primary_connection g) ≡ false → resync_is_over g ≡ false
not-running g none = ap (over_if g) none

-- whatever asks the same is the rule
pub over-by : (g : PrimaryHistory) (runs idle clean : Bool) → runs ≡ resync_runs (primary_connection g)
    → idle ≡ (length (under_way (primary_connection g)) == 0)
    → clean ≡ not (list_any g.marks (below g.settings.blocks)) → ((runs && idle) && clean) ≡ resync_is_over g
over-by g runs idle clean is_running is_idle is_clean =
    (λ i. (is_running i && is_idle i) && (is_clean ∙ sym (none-or-some g.marks (below g.settings.blocks))) i)
    ∙ turned (resync_runs (primary_connection g)) (length (under_way (primary_connection g)) == 0) (length (marked_blocks g) == 0)
  where
    turned : (r i c : Bool) → ((r && i) && c) ≡ elim r as (λ _. Bool) [ false ↦ false | true ↦ c && i ]
    turned false i c = refl
    turned true true true = refl
    turned true true false = refl
    turned true false true = refl
    turned true false false = refl

-- with the same marks, and a stream that runs alike and has the same under way, it is over alike
pub over-alike : (g later : PrimaryHistory) → later.settings ≡ g.settings → later.marks ≡ g.marks
    → resync_runs (primary_connection later) ≡ resync_runs (primary_connection g)
    → under_way (primary_connection later) ≡ under_way (primary_connection g) → resync_is_over later ≡ resync_is_over g
over-alike g later settings marks runs way = λ i. elim (runs i) as (λ _. Bool)
    [ false ↦ false | true ↦ (length (filter (marks i) (below (settings i).blocks)) == 0) && (length (way i) == 0) ]
