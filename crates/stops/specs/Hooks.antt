-- Where the metadata has to be asked: which events of a primary cover a block that was not covered. Nothing is proved here.
use Rattle.std.specs.Prelude.{ℕ, suc, ◌≡◌, ◌<◌, ◌≤◌, ◌⊎◌, Bool, true, false, List, [], ◌∷◌, length, Some, slice_get}
use Rattle.model.specs.Contents.{covers, extent_of}
use Rattle.model.specs.Headline.{is_covered, is_marked}
use Rattle.model.specs.LocalRuns.{PrimaryEvent, Opens, Submits, WritesLocally, FailsLocally, Sends, Takes, Resyncs, FailsResync, Closes, Receipts}
use Rattle.model.specs.LocalRuns.{primary_after, primary_run}
use Rattle.model.specs.Primary.{Accepted, PrimaryConnection, PrimaryHistory}
use Rattle.model.specs.Theorems.{Opening, primary_at}

abbrev pub begun_by : Bool → ℕ → ℕ
begun_by true n = suc n
begun_by false n = n

-- how many streams have begun
abbrev pub begun_count : List PrimaryConnection → ℕ
begun_count [] = 0
begun_count (c ∷ cs) = begun_by c.begun (begun_count cs)

-- there is a write beyond the first `n` that has the block
abbrev pub HasNewWrite : ℕ → ℕ → PrimaryHistory → Type 0
HasNewWrite n block h = (i : ℕ) × (a : Accepted) × (n ≤ i) × (slice_get h.writes i ≡ Some a) × (covers a.write block ≡ true)

-- there is, or more than `m` streams have begun, and the block is marked
abbrev pub HasGrown : ℕ → ℕ → ℕ → PrimaryHistory → Type 0
HasGrown n m block h = HasNewWrite n block h ⊎ ((m < begun_count h.connections) × (is_marked h block ≡ true))

-- An event covers no block that was not covered, but those of the write that it accepts, and those that are marked as a stream
-- begins by it.
abbrev pub CoverGrowsByHooks : Type 0
CoverGrowsByHooks =
    (o : Opening) (events : List PrimaryEvent) (event : PrimaryEvent) (block : ℕ)
    → is_covered (primary_after event (primary_run events (primary_at o))) block ≡ true
    → (is_covered (primary_run events (primary_at o)) block ≡ true)
    ⊎ HasGrown (length (primary_run events (primary_at o)).writes) (begun_count (primary_run events (primary_at o)).connections) block
    (primary_after event (primary_run events (primary_at o)))

-- What an event may cover beside what was covered: a submission, blocks of its extent; a frame that is taken, what is marked as a
-- stream begins; every other event nothing.
abbrev pub MayCover : PrimaryEvent → PrimaryHistory → ℕ → Type 0
MayCover (Submits first contents out_of_memory) h block = extent_of block ≡ extent_of first
MayCover (Takes frame out_of_memory) h block =
    HasGrown (length h.writes) (begun_count h.connections) block (primary_after (Takes frame out_of_memory) h)
MayCover (Opens sync loss out_of_memory) h block = ⊥
MayCover (WritesLocally number) h block = ⊥
MayCover (FailsLocally number offsets) h block = ⊥
MayCover (Sends room out_of_memory) h block = ⊥
MayCover (Resyncs read out_of_memory) h block = ⊥
MayCover (FailsResync out_of_memory) h block = ⊥
MayCover Closes h block = ⊥
MayCover (Receipts number) h block = ⊥

abbrev pub EventsCover : Type 0
EventsCover =
    (o : Opening) (events : List PrimaryEvent) (event : PrimaryEvent) (block : ℕ)
    → is_covered (primary_after event (primary_run events (primary_at o))) block ≡ true
    → (is_covered (primary_run events (primary_at o)) block ≡ true) ⊎ MayCover event (primary_run events (primary_at o)) block
