-- `primary_alone`: streams, places, extents, releases and the journal of a primary by itself.
use Rattle.std.proofs.Common.{◌∙◌, suc, ◌≡◌, Some, slice_get, sym, ap, subst, arith}
use Rattle.std.proofs.lemmas.Bool.{lt-ltb}
use Rattle.blocks.specs.Positions.{StreamPosition}
use Rattle.model.specs.LocalRuns.{primary_run}
use Rattle.model.specs.Theorems.{primary_at}
use Rattle.laws.specs.Statements.{PrimaryStreamsAreLawful, PrimaryExtentsAreFew, PrimaryStaysClosed, PrimaryReleasesInOrder, PrimaryWritesOnce, JournalIsOnDisk}
use Rattle.laws.proofs.Primary.LawfulMoves.{primary_lawful}
use Rattle.laws.proofs.Primary.ExtentsMoves.{primary_extents}
use Rattle.laws.proofs.Primary.StaysClosed.{primary_stays_closed}
use Rattle.laws.proofs.Releases.Cleared.{released-in-order}
use Rattle.laws.proofs.Releases.Runs.{ordered-run}
use Rattle.laws.proofs.Tracked.JournalOnDisk.{journal-on-disk-run}
use Rattle.model.specs.Contents.{Write}
use Rattle.model.specs.Primary.{Accepted, PrimaryHistory}
use Rattle.laws.proofs.Primary.Moves.{keeps-run}
use Rattle.laws.proofs.Primary.Homes.{HasHomes}
use Rattle.laws.proofs.Primary.HomesMoves.{homes-kept, homes-released, homes-opening}
use Rattle.laws.proofs.Lists.Elements.{same-at}

-- the streams of a primary are lawful
pub streams_are_lawful : PrimaryStreamsAreLawful
streams_are_lawful o events ranges = primary_lawful o.settings o.local o.own o.marks events ranges.here

-- its active extents are no more than its slots
pub extents_are_few : PrimaryExtentsAreFew
extents_are_few o events = primary_extents o.settings o.local o.own o.marks events

-- its releases come in the order of the writes of a block
pub releases_in_order : PrimaryReleasesInOrder
releases_in_order o events ranges sized i j block a b less ata atb cova covb released =
    released-in-order o.settings (primary_run events (primary_at o))
    (ordered-run o.settings o.local o.own o.marks events ranges.here (λ block inside. sized block ∙ lt-ltb block o.settings.blocks inside)) i j block a b
    less ata atb cova covb released

-- what its journal has is on the local disk
pub journal_is_on_disk : JournalIsOnDisk
journal_is_on_disk o events = journal-on-disk-run o.settings o.local o.own o.marks events

-- a closed end of a primary stays as it is
pub stays_closed : PrimaryStaysClosed
stays_closed p events = primary_stays_closed events p

-- a write has one place
pub writes_once : PrimaryWritesOnce
writes_once o events k l place other c d a b atc atd ina inb number =
    let p : PrimaryHistory = primary_run events (primary_at o) in
    let homes : HasHomes p = keeps-run HasHomes HasHomes homes-kept homes-released events (primary_at o) (homes-opening o.settings o.local o.own o.marks) in
    let x = homes.homed k place c a atc ina in
    let y = homes.homed l other d b atd inb in
    let nx : a.number ≡ suc x.0 = ap (λ (w : Write). w.number) (sym x.3) ∙ homes.numbered x.0 x.1 x.2 in
    let ny : b.number ≡ suc y.0 = ap (λ (w : Write). w.number) (sym y.3) ∙ homes.numbered y.0 y.1 y.2 in
    let index : x.0 ≡ y.0 = omega arith in
    let same : x.1 ≡ y.1 = same-at p.writes y.0 x.1 y.1 (subst (λ n. slice_get p.writes n ≡ Some x.1) index x.2) y.2 in
    let one : StreamPosition = record { index = k; place = place } in
    let two : StreamPosition = record { index = l; place = other } in
    let homes : Some one ≡ Some two = sym x.4 ∙ (ap (λ (z : Accepted). z.home) same ∙ y.4) in
    let pairs : one ≡ two = cc in
    (ap (λ (z : StreamPosition). z.index) pairs, ap (λ (z : StreamPosition). z.place) pairs)
