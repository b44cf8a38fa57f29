-- What every history that a pair has says, clause by clause.
use Rattle.std.proofs.Common.{ℕ, ◌≡◌, ◌<◌, nat_lt, Bool, ◌&&◌, List, sym, ◌∙◌, ap, subst}
use Rattle.blocks.specs.declared.settings.Settings.{Settings}
use Rattle.blocks.specs.declared.tuple.Tuple.{Tuple}
use Rattle.model.specs.Contents.{BlockMap}
use Rattle.model.specs.Pair.{Event, PairHistory, same_block, run}
use Rattle.model.specs.Primary.{PrimaryHistory}
use Rattle.model.specs.Secondary.{SecondaryHistory}
use Rattle.model.specs.Theorems.{pair_at, marks_at, IsSoundOpening}
use Rattle.model.specs.Headline.{TakesABeginning, StaysClosed, StaysClosedToo, HoldsEarlierEpochs, KeepsPromises, MarksDifferences, CoversDifferences, Cover}
use Rattle.model.specs.Headline.{opening_marked}
use Rattle.model.specs.WriteOrder.{KeepsWriteOrder, IsUnharmed}
use Rattle.laws.proofs.Theorems.Headline.{every_beginning, every_epochs, every_promises, every_marks, every_close}
use Rattle.laws.proofs.Theorems.Cover.{every_cover}
use Rattle.laws.proofs.Theorems.WriteOrder.{every_write_order}
use Rattle.pair_protocol.specs.State.{IsRun, WasHonest}
use Rattle.pair_protocol.proofs.Honest.{opens-here, opens-there, honest-kept}
use Rattle.pair_protocol.proofs.Grounded.{runs-faithfully, grounded-kept}
use Rattle.pair_protocol.specs.Steps.{HasClauses}

-- the history of a run
from-run : (Holds : PrimaryHistory → SecondaryHistory → Type 0) (h : PairHistory) (is : IsRun h)
    → Holds (run is.events (pair_at is.opening)).1.primary (run is.events (pair_at is.opening)).1.secondary → Holds h.primary h.secondary
from-run Holds h is holds = subst (λ (x : PairHistory). Holds x.primary x.secondary) is.is holds

-- what the secondary took is a beginning of a lawful stream, each write once
pub beginning : (h : PairHistory) → IsRun h → TakesABeginning h.primary h.secondary
beginning h is = from-run TakesABeginning h is (every_beginning is.opening is.events is.shares is.ranges)

-- the secondary's disk holds every write of earlier epochs and part of one
pub epochs : (h : PairHistory) → IsRun h → HoldsEarlierEpochs h.secondary
epochs h is = from-run (λ p s. HoldsEarlierEpochs s) h is (every_epochs is.opening is.events is.shares tt)

-- every write completed over the link has what its protocol promises
pub promises : (h : PairHistory) → IsRun h → KeepsPromises h.primary h.secondary
promises h is = from-run KeepsPromises h is (every_promises is.opening is.events is.shares tt)

-- the identifiers of the opening were honest, as the history has them
sound : (h : PairHistory) (is : IsRun h) → WasHonest h → IsSoundOpening is.opening
sound h is honest =
    let here = opens-here h is in
    let there = opens-there h is in
    let marked : (block : ℕ) → opening_marked h.primary block ≡ marks_at is.opening block
    = λ block. ap (λ (s : Settings). nat_lt block s.blocks && h.primary.opening_marks block) here.settings
    ∙ ap (λ (m : ℕ → Bool). nat_lt block is.opening.settings.blocks && m block) here.marks in
    let covers : Cover (opening_marked h.primary) h.primary.opening_map h.secondary.opening_map → Cover (marks_at is.opening) is.opening.local is.opening.peer
    = λ cover block differs. sym (marked block) ∙ cover block (ap (λ (m : BlockMap). same_block (m block) (h.secondary.opening_map block)) here.disk
    ∙ ap (λ (m : BlockMap). same_block (is.opening.local block) (m block)) there.disk ∙ differs) in
    record {
      ranges = is.ranges;
      local = is.local;
      peer = is.peer;
      identifiers = record {
        own_data = subst (λ (t : Tuple). 0 < t.current) here.tuple honest.own_data;
        same_current = λ same. covers (honest.same_current (ap (λ (t : Tuple). t.current) there.tuple ∙ same ∙ sym (ap (λ (t : Tuple). t.current) here.tuple)));
        from_bitmap = λ some same. covers
            (honest.from_bitmap (subst (λ (t : Tuple). 0 < t.bitmap) (sym here.tuple) some) (ap (λ (t : Tuple). t.current) there.tuple ∙ same
            ∙ sym (ap (λ (t : Tuple). t.bitmap) here.tuple)));
      };
    }

-- while no stream stands, every block on which the disks differ is marked
pub marks : (h : PairHistory) → IsRun h → WasHonest h → MarksDifferences h.primary h.secondary
marks h is honest = from-run MarksDifferences h is (every_marks is.opening is.events is.shares (sound h is honest))

-- at every moment it is marked or under an unreleased write
pub cover : (h : PairHistory) → IsRun h → WasHonest h → CoversDifferences h.primary h.secondary
cover h is honest = from-run CoversDifferences h is (every_cover is.opening is.events is.shares (sound h is honest))

-- where nothing failed, the secondary's disk keeps the order of writes
pub order : (h : PairHistory) → IsRun h → WasHonest h → IsUnharmed h.primary h.secondary → KeepsWriteOrder h.primary h.secondary
order h is honest = from-run (λ p s. IsUnharmed p s → KeepsWriteOrder p s) h is (every_write_order is.opening is.events is.shares (sound h is honest))

-- a closed end stays as it is, but for what is still applied
pub closed : (h : PairHistory) → IsRun h → (more : List (Event × Bool))
    → StaysClosed h.primary (run more h).1.primary × StaysClosedToo h.secondary (run more h).1.secondary
closed h is more = subst (λ (x : PairHistory). StaysClosed x.primary (run more x).1.primary × StaysClosedToo x.secondary (run more x).1.secondary) is.is
    (every_close is.opening is.events more)

-- all of them
pub has-clauses : (h : PairHistory) → IsRun h → HasClauses h
has-clauses h is = record {
  faithful = runs-faithfully h is;
  beginning = beginning h is;
  closed = closed h is;
  epochs = epochs h is;
  promises = promises h is;
  marks = marks h is;
  cover = cover h is;
  order = order h is;
  honest = λ more. honest-kept more h is;
  grounded = λ more. grounded-kept more h is;
}
