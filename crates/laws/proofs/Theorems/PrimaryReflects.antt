-- `primary_reflects`: a primary's half of the cover.
use Rattle.std.proofs.Common.{List, ◌∙◌}
use Rattle.std.proofs.lemmas.Bool.{lt-ltb}
use Rattle.model.specs.Contents.{IsDisk}
use Rattle.model.specs.LocalRuns.{PrimaryEvent, primary_run}
use Rattle.model.specs.Theorems.{Opening, primary_at, HasRanges}
use Rattle.laws.specs.Statements.{PrimaryReflects, PrimaryMarksAtRest}
use Rattle.laws.proofs.Releases.InOrderMoves.{Ordered}
use Rattle.laws.proofs.Accounted.{IsAccounted}
use Rattle.laws.proofs.Accounted.Reflected.{reflected, rest-marked}
use Rattle.laws.proofs.Accounted.Released.{accounted-run}

-- every run of a primary keeps the order of its writes, and accounts for its unmarked blocks
pub accounted : (o : Opening) (events : List PrimaryEvent) → HasRanges o → IsDisk o.settings.blocks o.local
    → Ordered o.settings (primary_run events (primary_at o)) × IsAccounted (primary_run events (primary_at o))
accounted o events ranges sized = accounted-run o.settings o.local o.own o.marks events ranges.here (λ block inside. sized block
    ∙ lt-ltb block o.settings.blocks inside)

-- a block that is neither marked nor under an unreleased write stands as an item that is surely applied has it, or as at the opening
pub reflects : PrimaryReflects
reflects o events ranges sized faithful block clean = reflected (primary_run events (primary_at o)) block (accounted o events ranges sized).1 faithful clean

-- while no stream stands, every block under an unreleased write is marked
pub marks_at_rest : PrimaryMarksAtRest
marks_at_rest o events ranges sized resting block covered =
    let both = accounted o events ranges sized in
    rest-marked (primary_run events (primary_at o)) block both.1 both.0.1.0 resting covered
