-- Steps one after another, as long as the metadata is whole.
use Rattle.std.proofs.Common.{◌≡◌, Bool, true, false, refl}
use Rattle.std.proofs.lemmas.Bool.{both_ways}
use Rattle.primary.specs.State.{PrimaryView}
use Rattle.secondary.specs.State.{SecondaryView}
use Rattle.session_nodes.proofs.Primaries.{runs-on}
use Rattle.session_nodes.proofs.Secondaries as secondaries
use Rattle.session_nodes.specs.Primaries.{PrimaryRuns}
use Rattle.session_nodes.specs.Secondaries.{SecondaryRuns}

-- what is whole now was whole before
pub whole-before : (was is : Bool) → (was ≡ true → is ≡ true) → is ≡ false → was ≡ false
whole-before true is stays whole = absurd (both_ways is whole (stays refl))
whole-before false is stays whole = refl

-- two runs; the second leaves broken what was broken
pub runs-whole : (u v w : PrimaryView) (was is : Bool) → (was ≡ false → PrimaryRuns u v) → (was ≡ true → is ≡ true) → (is ≡ false → PrimaryRuns v w) → is ≡ false
    → PrimaryRuns u w
runs-whole u v w was is one stays two whole = runs-on u v w (one (whole-before was is stays whole)) (two whole)

-- the same of a secondary
pub runs-whole-too : (u v w : SecondaryView) (was is : Bool) → (was ≡ false → SecondaryRuns u v) → (was ≡ true → is ≡ true) → (is ≡ false → SecondaryRuns v w) → is ≡ false
    → SecondaryRuns u w
runs-whole-too u v w was is one stays two whole = secondaries.runs-on u v w (one (whole-before was is stays whole)) (two whole)
