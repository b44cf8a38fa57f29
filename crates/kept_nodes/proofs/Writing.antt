-- Writing marks: what a call changes of a file, and what whatever a stop leaves still has.
use Rattle.std.proofs.Common.{ℕ, ◌≡◌, ◌+◌, ◌-◌, ◌*◌, ◌==◌, ◌≤◌, ◌<◌, inl, inr, Bool, true, false, not, List, length, take, drop, get_or, Result, Ok, Err}
use Rattle.std.proofs.Common.{refl, sym, ◌∙◌, ap, subst, arith}
use Rattle.std.specs.Prelude.{IsTrue, OnErr, OnOk, slice_index}
use Rattle.std.proofs.lemmas.Bool.{both_ways, cases_eq, cases_lt}
use Rattle.std.proofs.lemmas.List.{get_or-drop, get_or-take}
use Rattle.bitmap.specs.Marks.{count_in, marked}
use Rattle.kept_nodes.specs.Left.{EntriesStand, IsKnown, LosesNothing, Outcomes}
use Rattle.kept_nodes.specs.Recorded.{ComesBy, HasMarks, KeepsMarked, OnlyMarksOf}
use Rattle.kept_nodes.proofs.Losing.{comes, inside, marked-within, none-marked}
use Rattle.metadata.specs.Calls.{Leaves, Only}
use Rattle.metadata.specs.Says.{entered_in, extents_of, marked_in}
use Rattle.metadata.specs.State.{MetadataState, is_entered}
use Rattle.metadata.specs.Steps.{IsIn, OnlyMarks, SameMarks}
use Rattle.metadata.specs.declared.header.Header.{Header}
use Rattle.model.specs.Contents.{extent_of}

-- an extent of a device has an entry in the file
low : (n blocks x : ℕ) → n ≡ extents_of blocks → blocks ≤ 2147483648 → x < n → x < 2097152
low n blocks x sized blocks_few within = omega (arith, sized, blocks_few, within)

-- and so has the extent of a block of the device
low-of : (blocks block : ℕ) → blocks ≤ 2147483648 → block < blocks → extent_of block < 2097152
low-of blocks block blocks_few within = omega (arith, blocks_few, within)

-- Steps of a file.

pub marks-same : (file : List ℕ) → SameMarks file file
marks-same file = λ b. refl

pub marks-both : (one two three : List ℕ) → SameMarks one two → SameMarks two three → SameMarks one three
marks-both one two three first second = λ b. second b ∙ first b

pub of-same : (extent : ℕ) (file : List ℕ) → OnlyMarksOf extent file file
of-same extent file = record { entries = λ x low. refl; others = λ block other. refl }

pub of-both : (extent : ℕ) (one two three : List ℕ) → OnlyMarksOf extent one two → OnlyMarksOf extent two three → OnlyMarksOf extent one three
of-both extent one two three first second = record {
  entries = λ x low. second.entries x low ∙ first.entries x low;
  others = λ block other. second.others block other ∙ first.others block other;
}

-- marks of some blocks of an extent are marks of it
pub of-range : (extent first count : ℕ) (old new : List ℕ) → extent * 1024 ≤ first → first + count ≤ (extent + 1) * 1024 → OnlyMarks first count old new
    → OnlyMarksOf extent old new
of-range extent first count old new from to only = record {
  entries = only.entries;
  others = λ block other. elim (cases_lt block first) [
    | inl below ↦ only.below block below
    | inr above ↦ elim (cases_lt block (first + count)) [
      | inl within ↦ absurd (other (omega (arith, above, within, from, to)))
      | inr past ↦ only.above block past
    ]
  ];
}

-- The marks of an extent, a run of like ones after another: those of the blocks from `first` and before `from` are there.
abbrev pub HasMarksFrom : ℕ → ℕ → List Bool → List ℕ → Type 0
HasMarksFrom first from marks file = (block : ℕ) → first ≤ block → block < from → marked_in file block ≡ marked marks block

pub from-more : (first from to : ℕ) (marks : List Bool) (old new : List ℕ) → from ≤ to → OnlyMarks from (to - from) old new
    → ((block : ℕ) → IsIn from (to - from) block → marked_in new block ≡ marked marks from)
    → ((block : ℕ) → from ≤ block → block < to → marked marks block ≡ marked marks from)
    → HasMarksFrom first from marks old → HasMarksFrom first to marks new
from-more first from to marks old new order only written alike before block low high = elim (cases_lt block from) [
  | inl below ↦ only.below block below ∙ before block low below
  | inr above ↦ written block (record { from = above; below = omega (arith, order, above, high) }) ∙ sym (alike block above high)
]

-- marks of an extent that a file has, as they were read of it
pub filed-just : (file filed : List ℕ) (marks : List Bool) (first count n block : ℕ)
    → filed ≡ take n (drop (2101248 + first) file) → length filed ≡ n → count ≤ n
    → ((offset : ℕ) → offset < length filed → not (slice_index filed offset == 0) ≡ marked marks (first + offset))
    → first ≤ block → block < first + count → marked_in file block ≡ marked marks block
filed-just file filed marks first count n block read size enough each low high =
    let offset : ℕ = block - first in
    let here : first + offset ≡ block = omega arith in
    let there : (2101248 + first) + offset ≡ 2101248 + block = omega arith in
    let inside_it : offset < n = omega arith in
    let found : slice_index filed offset ≡ slice_index file (2101248 + block) = ap (λ (l : List ℕ). get_or l offset 0) read
    ∙ (get_or-take n (drop (2101248 + first) file) offset 0 inside_it ∙ (get_or-drop (2101248 + first) file offset 0 ∙ ap (λ n. get_or file n 0) there)) in
    ap (λ n. not (n == 0)) (sym found) ∙ (each offset (omega (arith, size, inside_it)) ∙ ap (marked marks) here)

module _ {F : Type 0} (seen : F → List ℕ) (may_leave : F → List ℕ → Type 0) (faithful : F → Bool) where
  -- What memory has, after calls that changed nothing of it but whether the file is broken.

  pub memory-both : (old mid new : MetadataState F) → new ≡ record mid { file = new.file; is_broken = new.is_broken } → mid ≡ record old { file = mid.file }
      → new ≡ record old { file = new.file; is_broken = new.is_broken }
  memory-both old mid new memory before = memory ∙ ap (λ (m : MetadataState F). record m { file = new.file; is_broken = new.is_broken }) before

  pub memory-more : (old mid new : MetadataState F) → new ≡ record mid { file = new.file; is_broken = new.is_broken } → new.is_broken ≡ mid.is_broken
      → mid ≡ record old { file = mid.file } → new ≡ record old { file = new.file }
  memory-more old mid new memory whole before = memory-both old mid new memory before
      ∙ ap (λ (b : Bool). record old { file = new.file; is_broken = b }) (whole ∙ ap (λ (m : MetadataState F). m.is_broken) before)

  pub memory-still : (old new : MetadataState F) → new ≡ record old { file = new.file } → new ≡ record old { file = new.file; is_broken = new.is_broken }
  memory-still old new memory = memory
      ∙ ap (λ (b : Bool). record old { file = new.file; is_broken = b }) (sym (ap (λ (m : MetadataState F). m.is_broken) memory))

  -- Whatever a stop leaves, one call after another.

  pub comes-same : (step : List ℕ → List ℕ → Type 0) (old new : MetadataState F) → new ≡ old → ((file : List ℕ) → step file file)
      → ComesBy step seen may_leave old new
  comes-same step old new same stays c left = (c, subst (λ (m : MetadataState F). Outcomes seen may_leave m c) same left, stays c)

  pub comes-both : (step : List ℕ → List ℕ → Type 0) (old mid new : MetadataState F)
      → ((one two three : List ℕ) → step one two → step two three → step one three)
      → ComesBy step seen may_leave old mid → ComesBy step seen may_leave mid new → ComesBy step seen may_leave old new
  comes-both step old mid new joins first second c left =
      let late = second c left in
      let early = first late.0 late.1 in
      (early.0, early.1, joins early.0 late.0 c early.2 late.2)

  pub comes-weaker : (strong weak : List ℕ → List ℕ → Type 0) (old new : MetadataState F) → ((d c : List ℕ) → strong d c → weak d c)
      → ComesBy strong seen may_leave old new → ComesBy weak seen may_leave old new
  comes-weaker strong weak old new weaker comes c left = let from = comes c left in (from.0, from.1, weaker from.0 c from.2)

  -- where no outcome is new
  pub comes-fewer : (step : List ℕ → List ℕ → Type 0) (old new : MetadataState F) → ((file : List ℕ) → step file file)
      → ((c : List ℕ) → Outcomes seen may_leave new c → Outcomes seen may_leave old c) → ComesBy step seen may_leave old new
  comes-fewer step old new stays fewer c left = (c, fewer c left, stays c)

  -- a run of marks of an extent, after others of it
  pub comes-run : (extent from to : ℕ) (old mid new : MetadataState F) → extent * 1024 ≤ from → from ≤ to → to ≤ (extent + 1) * 1024
      → ComesBy (OnlyMarksOf extent) seen may_leave old mid → ComesBy (OnlyMarks from (to - from)) seen may_leave mid new
      → ComesBy (OnlyMarksOf extent) seen may_leave old new
  comes-run extent from to old mid new low order high before run = comes-both (OnlyMarksOf extent) old mid new (of-both extent) before
      (comes-weaker (OnlyMarks from (to - from)) (OnlyMarksOf extent) mid new
      (λ d c step. of-range extent from (to - from) d c low (omega (arith, order, high)) step) run)

  -- Marked blocks are kept.

  pub keeps-both : (marks : List Bool) (old mid new : MetadataState F) → KeepsMarked marks seen may_leave faithful old mid
      → KeepsMarked marks seen may_leave faithful mid new → KeepsMarked marks seen may_leave faithful old new
  keeps-both marks old mid new one two = record {
    header = two.header ∙ one.header;
    falls = λ still. one.falls (two.falls still);
    entries = λ still stand. two.entries still (one.entries (two.falls still) stand);
    known = λ still stand block is known. two.known still (one.entries (two.falls still) stand) block is (one.known (two.falls still) stand block is known);
  }

  -- where nothing is lost
  pub keeps-lost : (marks : List Bool) (old new : MetadataState F) → length marks ≡ old.header.blocks → LosesNothing seen may_leave faithful old new
      → KeepsMarked marks seen may_leave faithful old new
  keeps-lost marks old new size lost = record {
    header = lost.header;
    falls = lost.falls;
    entries = lost.entries;
    known = λ still stand block is. lost.known still stand block (subst (λ n. block < n) size (marked-within marks block is));
  }

  -- where no outcome is new
  pub keeps-fewer : (marks : List Bool) (old new : MetadataState F) → new.header ≡ old.header → new.entries ≡ old.entries
      → (IsTrue (faithful new.file) → IsTrue (faithful old.file))
      → ((c : List ℕ) → Outcomes seen may_leave new c → Outcomes seen may_leave old c) → KeepsMarked marks seen may_leave faithful old new
  keeps-fewer marks old new header entries falls fewer = record {
    header = header;
    falls = falls;
    entries = λ still stand. subst (EntriesStand (Outcomes seen may_leave new)) (sym entries) (λ x within is c left. stand x within is c (fewer c left));
    known = λ still stand block is known. elim known [
      | inl entered ↦ inl (λ c left. entered c (fewer c left))
      | inr marked ↦ inr (λ c left. marked c (fewer c left))
    ];
  }

  -- a read, and a call that loses nothing
  pub keeps-read : (marks : List Bool) (old mid new : MetadataState F) → length marks ≡ old.header.blocks
      → mid ≡ record old { file = mid.file; is_broken = mid.is_broken } → (IsTrue (faithful mid.file) → IsTrue (faithful old.file))
      → ((c : List ℕ) → Outcomes seen may_leave mid c → Outcomes seen may_leave old c) → LosesNothing seen may_leave faithful mid new
      → KeepsMarked marks seen may_leave faithful old new
  keeps-read marks old mid new size memory falls fewer lost =
      let header : mid.header ≡ old.header = ap (λ (m : MetadataState F). m.header) memory in
      keeps-both marks old mid new (keeps-fewer marks old mid header (ap (λ (m : MetadataState F). m.entries) memory) falls fewer)
      (keeps-lost marks mid new (size ∙ sym (ap (λ (h : Header). h.blocks) header)) lost)

  -- Only marks of one extent change.

  entries-stay : (extent : ℕ) (old new : MetadataState F) → length old.entries ≡ extents_of old.header.blocks → old.header.blocks ≤ 2147483648
      → new.entries ≡ old.entries → ComesBy (OnlyMarksOf extent) seen may_leave old new → EntriesStand (Outcomes seen may_leave old) old.entries
      → EntriesStand (Outcomes seen may_leave new) new.entries
  entries-stay extent old new sized blocks_few entries comes stand = subst (EntriesStand (Outcomes seen may_leave new)) (sym entries) (λ x within is c left.
      let from = comes c left in
      from.2.entries x (low (length old.entries) old.header.blocks x sized blocks_few within) ∙ stand x within is from.0 from.1)

  entered-stays : (extent : ℕ) (old new : MetadataState F) → ComesBy (OnlyMarksOf extent) seen may_leave old new → (x : ℕ) → x < 2097152
      → ((c : List ℕ) → Outcomes seen may_leave old c → entered_in c x ≡ true) → (c : List ℕ) → Outcomes seen may_leave new c → entered_in c x ≡ true
  entered-stays extent old new comes x within entered c left = let from = comes c left in from.2.entries x within ∙ entered from.0 from.1

  -- of one that is entered: nothing is lost
  pub entered-loses : (extent : ℕ) (old new : MetadataState F) → length old.entries ≡ extents_of old.header.blocks → old.header.blocks ≤ 2147483648
      → extent < length old.entries → is_entered old.entries extent ≡ true → new ≡ record old { file = new.file; is_broken = new.is_broken }
      → (IsTrue (faithful new.file) → IsTrue (faithful old.file))
      → (old.is_broken ≡ true → new.is_broken ≡ true) → (IsTrue (faithful new.file) → ComesBy (OnlyMarksOf extent) seen may_leave old new)
      → LosesNothing seen may_leave faithful old new
  entered-loses extent old new sized blocks_few within is memory falls broken comes = record {
    header = ap (λ (m : MetadataState F). m.header) memory;
    falls = falls;
    entries = λ still stand. entries-stay extent old new sized blocks_few (ap (λ (m : MetadataState F). m.entries) memory) (comes still) stand;
    known = λ still stand block within_device known. elim known [
      | inl entered ↦ inl (entered-stays extent old new (comes still) (extent_of block) (low-of old.header.blocks block blocks_few within_device) entered)
      | inr marked ↦ elim (cases_eq (extent_of block) extent) [
        | inl same ↦ inl (entered-stays extent old new (comes still) (extent_of block) (low-of old.header.blocks block blocks_few within_device)
            (λ c left. subst (λ x. entered_in c x ≡ true) (sym same) (stand extent within is c left)))
        | inr other ↦ inr (λ c left. let from = comes still c left in from.2.others block other ∙ marked from.0 from.1)
      ]
    ];
    broken = broken;
  }

  -- of one that has no marked block: each marked block is kept
  pub unmarked-keeps : (extent : ℕ) (marks : List Bool) (old new : MetadataState F) → length old.entries ≡ extents_of old.header.blocks
      → old.header.blocks ≤ 2147483648 → length marks ≡ old.header.blocks → count_in marks extent ≡ 0
      → new ≡ record old { file = new.file; is_broken = new.is_broken }
      → (IsTrue (faithful new.file) → IsTrue (faithful old.file)) → (IsTrue (faithful new.file) → ComesBy (OnlyMarksOf extent) seen may_leave old new)
      → KeepsMarked marks seen may_leave faithful old new
  unmarked-keeps extent marks old new sized blocks_few size none memory falls comes = record {
    header = ap (λ (m : MetadataState F). m.header) memory;
    falls = falls;
    entries = λ still stand. entries-stay extent old new sized blocks_few (ap (λ (m : MetadataState F). m.entries) memory) (comes still) stand;
    known = λ still stand block is known.
        let within : block < old.header.blocks = subst (λ n. block < n) size (marked-within marks block is) in
        elim known [
          | inl entered ↦ inl (entered-stays extent old new (comes still) (extent_of block) (low-of old.header.blocks block blocks_few within) entered)
          | inr marked ↦ inr (λ c left.
              let from = comes still c left in
              from.2.others block (λ same. none-marked marks extent block none same is) ∙ marked from.0 from.1)
        ];
  }

  -- After a sync each outcome has the marks that the file has, and so has each that comes by a step which changes no mark.

  pub marks-left : (marks : List Bool) (extents : ℕ) (old new : MetadataState F) → Only (seen old.file) (may_leave old.file)
      → HasMarks extents marks (seen old.file) → ComesBy SameMarks seen may_leave old new
      → (c : List ℕ) → Outcomes seen may_leave new c → HasMarks extents marks c
  marks-left marks extents old new synced has comes c left block within below =
      let from = comes c left in
      from.2 block ∙ subst (λ (f : List ℕ). marked_in f block ≡ marked marks block) (sym (only old synced from.0 from.1)) (has block within below)
    where
      only : (m : MetadataState F) → Only (seen m.file) (may_leave m.file) → (c : List ℕ) → Outcomes seen may_leave m c → c ≡ seen m.file
      only m synced c (inl now) = now.1
      only m synced c (inr left) = synced c left

  -- so each marked block is known
  pub marks-known : (marks : List Bool) (extents : ℕ) (m : MetadataState F) → extents ≡ extents_of (length marks)
      → ((c : List ℕ) → Outcomes seen may_leave m c → HasMarks extents marks c) → (block : ℕ) → marked marks block ≡ true
      → IsKnown (Outcomes seen may_leave m) block
  marks-known marks extents m size has block is =
      let within = marked-within marks block is in
      inr (λ c left. has c left block within (inside extents (length marks) block size within) ∙ is)

  module _ (moment : F → ℕ) (left_since : F → ℕ → List ℕ → Type 0)
      (counts_now : (file : F) (t : ℕ) (c : List ℕ) → t ≤ moment file → may_leave file c → left_since file t c) where
    -- a call of the metadata, by what it returned
    pub call-comes : {E : Type 0} (r : Result (Unit {0}) E) (step weak : List ℕ → List ℕ → Type 0) (old new : MetadataState F) → old.is_broken ≡ false
        → ((d c : List ℕ) → step d c → weak d c) → OnErr r (new.is_broken ≡ true) → OnOk r (step (seen old.file) (seen new.file))
        → Leaves moment left_since may_leave step old.file new.file → ComesBy weak seen may_leave old new
    call-comes (Ok t) step weak old new whole weaker broken says run =
        comes seen may_leave faithful moment left_since counts_now step weak old new whole weaker (λ fine. weaker (seen old.file) (seen new.file) says) run
    call-comes (Err e) step weak old new whole weaker broken says run =
        comes seen may_leave faithful moment left_since counts_now step weak old new whole weaker (λ fine. absurd (both_ways new.is_broken fine broken)) run
