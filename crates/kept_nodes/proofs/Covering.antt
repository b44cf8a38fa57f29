-- What a step of a primary asks of its metadata: where the cover does not grow, and nothing is lost, all that a stop leaves is said.
use Rattle.std.proofs.Common.{ℕ, ◌≡◌, ◌<◌, ◌⊎◌, inl, inr, Bool, true, false, not, List, [], ◌∷◌, ◌++◌, length, filter, Option, Some, None, refl, ap, sym, ◌∙◌}
use Rattle.std.proofs.Common.{subst}
use Rattle.std.specs.Prelude.{IfSome, IsTrue, Result, Ok, Err}
use Rattle.std.specs.List.{list_any}
use Rattle.std.proofs.lemmas.Bool.{both_ways, or_cases}
use Rattle.blocks.specs.declared.outcome.Done.{Done}
use Rattle.blocks.specs.declared.outcome.Reply.{Reply}
use Rattle.blocks.specs.declared.outcome.Reply.TheVariants as reply
use Rattle.blocks.specs.declared.outcome.What.TheVariants as what
use Rattle.blocks.specs.declared.refusal.Refusal.{Refusal}
use Rattle.blocks.specs.declared.settings.Settings.{Settings}
use Rattle.blocks.specs.declared.tuple.Tuple.{Tuple}
use Rattle.bitmap.specs.Marks.{marked}
use Rattle.kept_nodes.specs.Asked.{begins_full_copy, is_full_copy}
use Rattle.kept_nodes.specs.Kept.{CoversPrimary, SaysPrimary, PrimaryIsKept, is_broken}
use Rattle.kept_nodes.proofs.Losing.{inside, loses-self}
use Rattle.kept_nodes.proofs.Turning.{whole-before}
use Rattle.kept_nodes.specs.Left.{Across, EntriesStand, IsKnown, LosesNothing, Outcomes}
use Rattle.metadata.specs.Says.{extents_of}
use Rattle.metadata.specs.State.{MetadataState, is_entered}
use Rattle.metadata.specs.declared.header.Header.{Header}
use Rattle.metadata.specs.declared.identifiers.Identifiers.{Identifiers}
use Rattle.model.specs.Acknowledgements.{ack_in}
use Rattle.model.specs.Contents.{covers, extent_of}
use Rattle.model.specs.Frames.{Received}
use Rattle.model.specs.Headline.{is_covered, is_marked}
use Rattle.model.specs.LocalRuns.{PrimaryEvent, Opens, Submits, Takes, primary_after, primary_run}
use Rattle.model.specs.Primary.{Accepted, PrimaryHistory, is_released, unreleased}
use Rattle.model.specs.PrimarySteps.{open_tests, opened, succeeding, take_completed}
use Rattle.model.specs.Stopped.{stopped_tuple}
use Rattle.model.specs.Theorems.{Opening, primary_at}
use Rattle.laws.proofs.Joining.Openings.{kept-opening-primary}
use Rattle.laws.proofs.Primary.Moves.{following-from, tested-keeps}
use Rattle.laws.proofs.Rules.Receipts.{receipt-has}
use Rattle.primary.specs.State.{PrimaryView}
use Rattle.primary_protocol.specs.Steps.{IsReached, replied}
use Rattle.session_nodes.specs.Primaries.{PrimaryBegan, PrimaryHas}
use Rattle.stops.proofs.Events.{events_cover}
use Rattle.stops.proofs.Frames.{BeginsFullCopy, frame-covers}
use Rattle.stops.specs.Hooks.{MayCover}

-- Histories that are reached.

-- an opening that leads to the history
abbrev from : {h : PrimaryHistory} → IsReached h → Opening
from r = record { settings = r.settings; peer_settings = r.settings; local = r.disk; peer = r.disk; own = r.tuple; peer_tuple = r.tuple; marks = r.marks }

-- what an event covers beside what was covered
pub covers-after : (h : PrimaryHistory) (event : PrimaryEvent) (block : ℕ) → IsReached h → is_covered (primary_after event h) block ≡ true
    → (is_covered h block ≡ true) ⊎ MayCover event h block
covers-after h event block r =
    subst (λ (x : PrimaryHistory). is_covered (primary_after event x) block ≡ true → (is_covered x block ≡ true) ⊎ MayCover event x block) r.is
    (events_cover (from r) r.events event block)

-- what a frame that is taken does
pub covers-taking : (h : PrimaryHistory) (frame : Option Received) (out_of_memory : Bool) (block : ℕ) → IsReached h
    → is_covered (primary_after (Takes frame out_of_memory) h) block ≡ true → (is_covered h block ≡ true) ⊎ BeginsFullCopy (ack_in frame out_of_memory h).0
covers-taking h frame out_of_memory block r =
    subst (λ (x : PrimaryHistory). is_covered (primary_after (Takes frame out_of_memory) x) block ≡ true
    → (is_covered x block ≡ true) ⊎ BeginsFullCopy (ack_in frame out_of_memory x).0) r.is
    (frame-covers (from r) r.events frame out_of_memory block)

run-both : (one two : List PrimaryEvent) (h : PrimaryHistory) → primary_run two (primary_run one h) ≡ primary_run (one ++ two) h
run-both [] two h = refl
run-both (event ∷ one) two h = run-both one two (primary_after event h)

-- no event changes the settings
pub settings-after : (h : PrimaryHistory) (event : PrimaryEvent) → IsReached h → (primary_after event h).settings ≡ h.settings
settings-after h event r = subst (λ (x : PrimaryHistory). (primary_after event x).settings ≡ x.settings) r.is
    (ap (λ (x : PrimaryHistory). x.settings) (run-both r.events (event ∷ []) (primary_at (from r)))
    ∙ ((kept-opening-primary (from r) (r.events ++ event ∷ [])).settings ∙ sym (kept-opening-primary (from r) r.events).settings))

-- a history that began so goes on
pub began-more : (o : Option Opening) (event : PrimaryEvent) (h : PrimaryHistory) → PrimaryBegan o h → PrimaryBegan o (primary_after event h)
began-more None event h began = tt
began-more (Some opening) event h began = (began.0 ++ event ∷ [], ap (primary_after event) began.1 ∙ run-both began.0 (event ∷ []) (primary_at opening))

-- and so does one that only opens
pub first-began : (o : Option Opening) (sync loss : ℕ) (h : PrimaryHistory) → IfSome o (λ opening. h ≡ primary_at opening)
    → PrimaryBegan o (primary_after (Opens sync loss false) h)
first-began None sync loss h is = tt
first-began (Some opening) sync loss h is = (Opens sync loss false ∷ [], ap (primary_after (Opens sync loss false)) is)

-- a receipt that is taken turns no identifier
pub receipts-stopped : (number : ℕ) (h : PrimaryHistory) → stopped_tuple (take_completed number h).1 ≡ stopped_tuple h
receipts-stopped number h = receipt-has (λ r. stopped_tuple r.1 ≡ stopped_tuple h) number h (λ refusal. refl) refl (λ entry. refl)

abbrev IsUnwritten : PrimaryHistory → Type 0
IsUnwritten h = h.writes ≡ []

-- a node that has only opened has no write
pub opens-unwritten : (sync loss : ℕ) (out_of_memory : Bool) (h : PrimaryHistory) → h.writes ≡ [] → (primary_after (Opens sync loss out_of_memory) h).writes ≡ []
opens-unwritten sync loss out_of_memory h none = tested-keeps IsUnwritten h (open_tests h sync loss out_of_memory)
    (λ _. succeeding what.Nothing (opened h sync loss)) none
    (λ passed. following-from IsUnwritten IsUnwritten IsUnwritten (λ g no. no) (λ g over no. no) (λ g on no. no) (λ g over no. no) (λ g no. no)
    (opened h sync loss) none)

-- and covers what is marked
pub unwritten-marked : (h : PrimaryHistory) (block : ℕ) → h.writes ≡ [] → is_covered h block ≡ true → is_marked h block ≡ true
unwritten-marked h block none covered = elim (or_cases (is_marked h block) (list_any (λ (a : Accepted). covers a.write block) (unreleased h)) covered) [
  | inl marked ↦ marked
  | inr under ↦ absurd (both_ways (list_any (λ (a : Accepted). covers a.write block) (unreleased h))
      (ap (λ (l : List Accepted). list_any (λ (a : Accepted). covers a.write block) (filter (λ (a : Accepted). not (is_released h a)) l)) none) under)
]

-- Metadata that goes on with a history.

-- what holds of each holds where there is one
pub each-some : {A : Type 0} (P : A → Type 0) (v : Option A) → ((a : A) → P a) → IfSome v P
each-some P None each = tt
each-some P (Some a) each = each a

-- what is said of the tuple that was saved, where it is the one that a stop leaves
pub saved-is : {F : Type 0} (tuple : Tuple) (X : MetadataState F → Type 0) (h : PrimaryHistory) (new : Option (MetadataState F))
    → IfSome new (λ m. m.is_broken ≡ false → (m.identifiers.tuple ≡ tuple) × X m) → tuple ≡ stopped_tuple h
    → IfSome new (λ m. m.is_broken ≡ false → m.identifiers.tuple ≡ stopped_tuple h)
saved-is tuple X h None said is = tt
saved-is tuple X h (Some m) said is = λ whole. (said whole).0 ∙ is

-- what a reply says of a full copy, the result says too
pub full-copy-said : (result : Result Done Refusal) (said : Reply) → replied reply.Ok result ≡ said → BeginsFullCopy said → begins_full_copy result ≡ true
full-copy-said (Ok done) said is begins =
    let same : done ≡ begins.0 = cc in
    subst (λ (d : Done). is_full_copy d.what ≡ true) (sym same) (ap is_full_copy begins.2)
full-copy-said (Err refusal) said is begins = absurd (let is_ok = begins.1 in cc)

-- a file that is broken is there
pub broken-some : {F : Type 0} (v : Option (MetadataState F)) → is_broken v ≡ true → IfSome v (λ m. m.is_broken ≡ true)
broken-some None is = tt
broken-some (Some m) is = is

module _ {F : Type 0} (seen : F → List ℕ) (may_leave : F → List ℕ → Type 0) (faithful : F → Bool) where
  abbrev pub Covers : Bool → PrimaryHistory → MetadataState F → Type 0
  Covers owes h m = CoversPrimary (faithful m.file) (Outcomes seen may_leave m) m owes h

  -- the block was covered, and a stop left something of it, or its extent is entered now
  abbrev pub Grows : Bool → PrimaryHistory → PrimaryHistory → MetadataState F → Type 0
  Grows owed h g new = (block : ℕ) → block < h.settings.blocks → is_covered g block ≡ true
      → ((owed ≡ false) × (is_covered h block ≡ true)) ⊎ ((extent_of block < length new.entries) × (is_entered new.entries (extent_of block) ≡ true))

  pub covers-on : (old new : MetadataState F) (owes owed : Bool) (h g : PrimaryHistory) → LosesNothing seen may_leave faithful old new
      → g.settings ≡ h.settings → (owes ≡ false → Grows owed h g new) → (owes ≡ true → new.is_broken ≡ true) → Covers owed h old → Covers owes g new
  covers-on old new owes owed h g lost settings grows owing was = record {
    blocks = ap (λ (x : Header). x.blocks) lost.header ∙ was.blocks ∙ sym (ap (λ (x : Settings). x.blocks) settings);
    covered = λ still none block inside covered.
        let within : block < h.settings.blocks = subst (λ (x : Settings). block < x.blocks) settings inside in
        elim (grows none block within covered) [
          | inl before ↦ lost.known still (was.entries (lost.falls still)) block (subst (λ n. block < n) (sym was.blocks) within)
              (was.covered (lost.falls still) before.0 block within before.1)
          | inr entered ↦ inl (λ c left. lost.entries still (was.entries (lost.falls still)) (extent_of block) entered.0 entered.1 c left)
        ];
    entries = λ still. lost.entries still (was.entries (lost.falls still));
    owes = owing;
  }

  -- where both have metadata, or neither has
  pub covers-across : (old new : Option (MetadataState F)) (owes owed : Bool) (h g : PrimaryHistory) → Across (LosesNothing seen may_leave faithful) old new
      → g.settings ≡ h.settings → (owes ≡ false → IfSome new (λ m. Grows owed h g m)) → (owes ≡ true → IfSome new (λ m. m.is_broken ≡ true))
      → IfSome old (λ m. Covers owed h m) → IfSome new (λ m. Covers owes g m)
  covers-across None None owes owed h g lost settings grows owing was = tt
  covers-across None (Some new) owes owed h g lost settings grows owing was = absurd lost
  covers-across (Some old) None owes owed h g lost settings grows owing was = absurd lost
  covers-across (Some old) (Some new) owes owed h g lost settings grows owing was = covers-on old new owes owed h g lost settings grows owing was

  -- what is said covers
  pub covers-said : (m : Option (MetadataState F)) (owes : Bool) (h : PrimaryHistory)
      → IfSome m (λ m. SaysPrimary (faithful m.file) (Outcomes seen may_leave m) m owes h) → IfSome m (λ m. Covers owes h m)
  covers-said None owes h says = tt
  covers-said (Some m) owes h says = says.covers

  -- and with the tuple it says all
  pub says-all : (m : Option (MetadataState F)) (owes : Bool) (h : PrimaryHistory) → IfSome m (λ m. Covers owes h m)
      → IfSome m (λ m. m.is_broken ≡ false → m.identifiers.tuple ≡ stopped_tuple h)
      → IfSome m (λ m. SaysPrimary (faithful m.file) (Outcomes seen may_leave m) m owes h)
  says-all None owes h covers saved = tt
  says-all (Some m) owes h covers saved = record { covers = covers; saved = saved }

  -- a full copy that is owed stays so
  pub owing-on : (old new : Option (MetadataState F)) (owes : Bool) (h : PrimaryHistory) → Across (LosesNothing seen may_leave faithful) old new
      → IfSome old (λ m. Covers owes h m) → owes ≡ true → IfSome new (λ m. m.is_broken ≡ true)
  owing-on None None owes h lost was is = tt
  owing-on None (Some new) owes h lost was is = absurd lost
  owing-on (Some old) None owes h lost was is = absurd lost
  owing-on (Some old) (Some new) owes h lost was is = lost.broken (was.owes is)

  -- no metadata comes, and none goes
  pub none-before : (old new : Option (MetadataState F)) → Across (LosesNothing seen may_leave faithful) old new → new ≡ None → old ≡ None
  none-before None new lost is = refl
  none-before (Some old) None lost is = absurd lost
  none-before (Some old) (Some new) lost is = absurd (cc)

  pub lost-none : (m : Option (MetadataState F)) → Across (LosesNothing seen may_leave faithful) m m
  lost-none None = tt
  lost-none (Some m) = loses-self seen may_leave faithful m

  -- Nothing more is covered, and nothing was lost.
  pub covers-still : (old new : Option (MetadataState F)) (owes : Bool) (h g : PrimaryHistory) → Across (LosesNothing seen may_leave faithful) old new
      → g.settings ≡ h.settings → ((block : ℕ) → is_covered g block ≡ true → is_covered h block ≡ true) → IfSome old (λ m. Covers owes h m)
      → IfSome new (λ m. Covers owes g m)
  covers-still old new owes h g lost settings less was = covers-across old new owes owes h g lost settings
      (λ no. each-some (λ m. Grows owes h g m) new (λ m block within covered. inl (no, less block covered))) (owing-on old new owes h lost was) was

  -- More is covered, all of it in extents that are entered now.
  pub grows-in : (P : ℕ → Type 0) (old new : Option (MetadataState F)) (owed : Bool) (h g : PrimaryHistory) → Across (LosesNothing seen may_leave faithful) old new
      → IfSome old (λ m. Covers owed h m) → IfSome new (λ m. length m.entries ≡ extents_of m.header.blocks)
      → IfSome new (λ m. (x : ℕ) → P x → x < length m.entries → is_entered m.entries x ≡ true)
      → ((block : ℕ) → is_covered g block ≡ true → ((owed ≡ false) × (is_covered h block ≡ true)) ⊎ P (extent_of block)) → IfSome new (λ m. Grows owed h g m)
  grows-in P None None owed h g lost was sized entered grown = tt
  grows-in P None (Some new) owed h g lost was sized entered grown = absurd lost
  grows-in P (Some old) None owed h g lost was sized entered grown = absurd lost
  grows-in P (Some old) (Some new) owed h g lost was sized entered grown = λ block within covered. elim (grown block covered) [
    | inl before ↦ inl before
    | inr here ↦
        let device : new.header.blocks ≡ h.settings.blocks = ap (λ (x : Header). x.blocks) lost.header ∙ was.blocks in
        let low = inside (length new.entries) new.header.blocks block sized (subst (λ n. block < n) (sym device) within) in
        inr (low, entered (extent_of block) here low)
  ]

  -- The metadata of a node that has no write yet: each marked block is known.
  pub first-says : (m : MetadataState F) (new : Option (MetadataState F)) (h : PrimaryHistory) (marks : List Bool) → h.writes ≡ []
      → m.header.blocks ≡ h.settings.blocks → ((block : ℕ) → marked marks block ≡ is_marked h block)
      → (IsTrue (faithful m.file) → (block : ℕ) → marked marks block ≡ true → IsKnown (Outcomes seen may_leave m) block)
      → (IsTrue (faithful m.file) → EntriesStand (Outcomes seen may_leave m) m.entries) → Across (LosesNothing seen may_leave faithful) (Some m) new
      → IfSome new (λ m. m.is_broken ≡ false → m.identifiers.tuple ≡ stopped_tuple h)
      → IfSome new (λ m. SaysPrimary (faithful m.file) (Outcomes seen may_leave m) m false h)
  first-says m new h marks none blocks same known stand lost saved =
      says-all new false h (covers-still (Some m) new false h h lost refl (λ block covered. covered) (record {
        blocks = blocks;
        covered = λ still no block within covered. known still block (same block ∙ unwritten-marked h block none covered);
        entries = stand;
        owes = λ is. absurd (cc);
      })) saved

  -- A node over metadata that covers what it covers, after the identifiers were saved.
  pub kept-saved : (opening : Option Opening) (w : PrimaryView) (mid new : Option (MetadataState F)) (owes : Bool) (g : PrimaryHistory) → PrimaryHas w g
      → PrimaryBegan opening g → Across (LosesNothing seen may_leave faithful) mid new → IfSome mid (λ m. Covers owes g m) → (mid ≡ None → owes ≡ false)
      → IfSome new (λ m. m.is_broken ≡ false → m.identifiers.tuple ≡ stopped_tuple g) → PrimaryIsKept seen may_leave faithful opening w new owes
  kept-saved opening w mid new owes g has began lost covers alone saved = record {
    history = g;
    has = has;
    began = began;
    says = says-all new owes g (covers-still mid new owes g g lost refl (λ block covered. covered) covers) saved;
    alone = λ none. alone (none-before mid new lost none);
  }

  -- An event that covers nothing new, after which the identifiers were saved.
  pub kept-event : (opening : Option Opening) (event : PrimaryEvent) → ((h : PrimaryHistory) (block : ℕ) → MayCover event h block → ⊥)
      → (v w : PrimaryView) (old new : Option (MetadataState F)) (owes : Bool) → PrimaryIsKept seen may_leave faithful opening v old owes
      → Across (LosesNothing seen may_leave faithful) old new → ((h : PrimaryHistory) → PrimaryHas v h → PrimaryHas w (primary_after event h))
      → ((h : PrimaryHistory) → PrimaryHas w h → IfSome new (λ m. m.is_broken ≡ false → m.identifiers.tuple ≡ stopped_tuple h))
      → PrimaryIsKept seen may_leave faithful opening w new owes
  kept-event opening event none v w old new owes had lost after saved =
      let h = had.history in
      let has = after h had.has in
      kept-saved opening w old new owes (primary_after event h) has (began-more opening event h had.began) lost
      (covers-still old old owes h (primary_after event h) (lost-none old) (settings-after h event had.has.has.reached)
      (λ block covered. elim (covers-after h event block had.has.has.reached covered) [ inl was ↦ was | inr may ↦ absurd (none h block may) ])
      (covers-said old owes h had.says)) had.alone (saved (primary_after event h) has)

  -- No event: the node is as it was for each history that it has.
  pub kept-still : (opening : Option Opening) (v w : PrimaryView) (old new : Option (MetadataState F)) (owes : Bool)
      → PrimaryIsKept seen may_leave faithful opening v old owes → Across (LosesNothing seen may_leave faithful) old new
      → ((h : PrimaryHistory) → PrimaryHas v h → PrimaryHas w h)
      → ((h : PrimaryHistory) → PrimaryHas w h → IfSome new (λ m. m.is_broken ≡ false → m.identifiers.tuple ≡ stopped_tuple h))
      → PrimaryIsKept seen may_leave faithful opening w new owes
  kept-still opening v w old new owes had lost after saved =
      let has = after had.history had.has in
      kept-saved opening w old new owes had.history has had.began lost (covers-said old owes had.history had.says) had.alone (saved had.history has)

  -- what was saved still is, where no identifiers were saved since
  saved-on : (old new : Option (MetadataState F)) (owes : Bool) (h : PrimaryHistory) → Across (LosesNothing seen may_leave faithful) old new
      → Across (λ (a b : MetadataState F). b.identifiers ≡ a.identifiers) old new
      → IfSome old (λ m. SaysPrimary (faithful m.file) (Outcomes seen may_leave m) m owes h)
      → IfSome new (λ m. m.is_broken ≡ false → m.identifiers.tuple ≡ stopped_tuple h)
  saved-on None None owes h lost same says = tt
  saved-on None (Some new) owes h lost same says = absurd lost
  saved-on (Some old) None owes h lost same says = absurd lost
  saved-on (Some old) (Some new) owes h lost same says =
      λ whole. ap (λ (x : Identifiers). x.tuple) same ∙ says.saved (whole-before old.is_broken new.is_broken lost.broken whole)

  -- The metadata alone goes on.
  pub kept-alone : (opening : Option Opening) (v : PrimaryView) (old new : Option (MetadataState F)) (owes : Bool)
      → PrimaryIsKept seen may_leave faithful opening v old owes → Across (LosesNothing seen may_leave faithful) old new
      → Across (λ (a b : MetadataState F). b.identifiers ≡ a.identifiers) old new → PrimaryIsKept seen may_leave faithful opening v new owes
  kept-alone opening v old new owes had lost same =
      kept-saved opening v old new owes had.history had.has had.began lost (covers-said old owes had.history had.says) had.alone
      (saved-on old new owes had.history lost same had.says)

  -- An event that covers nothing new and turns no identifier.
  pub kept-unturned : (opening : Option Opening) (event : PrimaryEvent) → ((h : PrimaryHistory) (block : ℕ) → MayCover event h block → ⊥)
      → ((h : PrimaryHistory) → stopped_tuple (primary_after event h) ≡ stopped_tuple h) → (v w : PrimaryView) (m : Option (MetadataState F)) (owes : Bool)
      → PrimaryIsKept seen may_leave faithful opening v m owes → ((h : PrimaryHistory) → PrimaryHas v h → PrimaryHas w (primary_after event h))
      → PrimaryIsKept seen may_leave faithful opening w m owes
  kept-unturned opening event none unturned v w m owes had after =
      let h = had.history in
      kept-saved opening w m m owes (primary_after event h) (after h had.has) (began-more opening event h had.began) (lost-none m)
      (covers-still m m owes h (primary_after event h) (lost-none m) (settings-after h event had.has.has.reached)
      (λ block covered. elim (covers-after h event block had.has.has.reached covered) [ inl was ↦ was | inr may ↦ absurd (none h block may) ])
      (covers-said m owes h had.says)) had.alone (go m had.says)
    where
      go : (v : Option (MetadataState F)) → IfSome v (λ m. SaysPrimary (faithful m.file) (Outcomes seen may_leave m) m owes had.history)
          → IfSome v (λ m. m.is_broken ≡ false → m.identifiers.tuple ≡ stopped_tuple (primary_after event had.history))
      go None says = tt
      go (Some x) says = λ whole. says.saved whole ∙ sym (unturned had.history)

  -- A submission, before which its extent was entered.
  pub kept-submit : (opening : Option Opening) (first : ℕ) (contents : List (List ℕ)) (out_of_memory : Bool) (v w : PrimaryView)
      (old mid new : Option (MetadataState F)) (owes : Bool) → PrimaryIsKept seen may_leave faithful opening v old owes
      → Across (LosesNothing seen may_leave faithful) old mid → Across (LosesNothing seen may_leave faithful) mid new
      → IfSome mid (λ m. length m.entries ≡ extents_of m.header.blocks)
      → IfSome mid (λ m. extent_of first < length m.entries → is_entered m.entries (extent_of first) ≡ true)
      → ((h : PrimaryHistory) → PrimaryHas v h → PrimaryHas w (primary_after (Submits first contents out_of_memory) h))
      → ((h : PrimaryHistory) → PrimaryHas w h → IfSome new (λ m. m.is_broken ≡ false → m.identifiers.tuple ≡ stopped_tuple h))
      → PrimaryIsKept seen may_leave faithful opening w new owes
  kept-submit opening first contents out_of_memory v w old mid new owes had lost again sized entered after saved =
      let h = had.history in
      let event = Submits first contents out_of_memory in
      let covers_old = covers-said old owes h had.says in
      kept-saved opening w mid new owes (primary_after event h) (after h had.has) (began-more opening event h had.began) again
      (covers-across old mid owes owes h (primary_after event h) lost (settings-after h event had.has.has.reached)
      (λ no. grows-in (λ x. x ≡ extent_of first) old mid owes h (primary_after event h) lost covers_old sized (here mid entered)
      (λ block covered. elim (covers-after h event block had.has.has.reached covered) [ inl was ↦ inl (no, was) | inr same ↦ inr same ]))
      (owing-on old mid owes h lost covers_old) covers_old) (λ none. had.alone (none-before old mid lost none))
      (saved (primary_after event h) (after h had.has))
    where
      here : (v : Option (MetadataState F)) → IfSome v (λ m. extent_of first < length m.entries → is_entered m.entries (extent_of first) ≡ true)
          → IfSome v (λ m. (x : ℕ) → x ≡ extent_of first → x < length m.entries → is_entered m.entries x ≡ true)
      here None entered = tt
      here (Some m) entered = λ x same low. subst (λ n. is_entered m.entries n ≡ true) (sym same) (entered (subst (λ n. n < length m.entries) same low))

  -- A frame that was taken, after which every extent was entered if a full copy begins by it.
  pub kept-taking : (opening : Option Opening) (frame : Option Received) (out_of_memory : Bool) (result : Result Done Refusal) (v w : PrimaryView)
      (old mid new : Option (MetadataState F)) (owed owes : Bool) → PrimaryIsKept seen may_leave faithful opening v old owed
      → Across (LosesNothing seen may_leave faithful) old mid → Across (LosesNothing seen may_leave faithful) mid new
      → (begins_full_copy result ≡ true → owes ≡ false → IfSome mid (λ m. (x : ℕ) → x < length m.entries → is_entered m.entries x ≡ true))
      → (begins_full_copy result ≡ true → IfSome mid (λ m. length m.entries ≡ extents_of m.header.blocks))
      → (begins_full_copy result ≡ true → owes ≡ true → is_broken mid ≡ true) → (begins_full_copy result ≡ false → owes ≡ owed)
      → ((h : PrimaryHistory) → PrimaryHas v h → replied reply.Ok result ≡ (ack_in frame out_of_memory h).0)
      → ((h : PrimaryHistory) → PrimaryHas v h → PrimaryHas w (primary_after (Takes frame out_of_memory) h))
      → ((h : PrimaryHistory) → PrimaryHas w h → IfSome new (λ m. m.is_broken ≡ false → m.identifiers.tuple ≡ stopped_tuple h))
      → PrimaryIsKept seen may_leave faithful opening w new owes
  kept-taking opening frame out_of_memory result v w old mid new owed owes had lost again entered sized fault other replies after saved =
      kept-saved opening w mid new owes g (after h had.has) (began-more opening event h had.began) again (covers (begins_full_copy result) refl)
      (alone (begins_full_copy result) refl owes refl) (saved g (after h had.has))
    where
      h : PrimaryHistory
      h = had.history

      event : PrimaryEvent
      event = Takes frame out_of_memory

      g : PrimaryHistory
      g = primary_after event h

      covers_old : IfSome old (λ m. Covers owed h m)
      covers_old = covers-said old owed h had.says

      settings : g.settings ≡ h.settings
      settings = settings-after h event had.has.has.reached

      covers : (b : Bool) → begins_full_copy result ≡ b → IfSome mid (λ m. Covers owes g m)
      covers true begins = covers-across old mid owes owed h g lost settings
          (λ no. grows-in (λ x. Unit {0}) old mid owed h g lost covers_old (sized begins) (all mid (entered begins no)) (λ block covered. inr tt))
          (λ is. broken-some mid (fault begins is)) covers_old
        where
          all : (v : Option (MetadataState F)) → IfSome v (λ m. (x : ℕ) → x < length m.entries → is_entered m.entries x ≡ true)
              → IfSome v (λ m. (x : ℕ) → Unit {0} → x < length m.entries → is_entered m.entries x ≡ true)
          all None each = tt
          all (Some m) each = λ x any low. each x low
      covers false begins = subst (λ (b : Bool). IfSome mid (λ m. Covers b g m)) (sym (other begins))
          (covers-still old mid owed h g lost settings (λ block covered. elim (covers-taking h frame out_of_memory block had.has.has.reached covered) [
            | inl was ↦ was
            | inr full ↦ absurd (both_ways (begins_full_copy result) begins
                (full-copy-said result (ack_in frame out_of_memory h).0 (replies h had.has) full))
          ]) covers_old)

      alone : (b : Bool) → begins_full_copy result ≡ b → (c : Bool) → owes ≡ c → mid ≡ None → owes ≡ false
      alone true begins true is none = absurd (both_ways (is_broken mid) (ap is_broken none) (fault begins is))
      alone true begins false is none = is
      alone false begins c is none = other begins ∙ had.alone (none-before old mid lost none)
