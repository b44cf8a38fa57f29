-- What a step of a primary covers that was not covered before: the blocks of a write that it accepts, or any as a stream begins.
use Rattle.std.proofs.Common.{ℕ, ◌≡◌, ◌≤◌, ◌<◌, ◌⊎◌, inl, inr, Bool, true, false, not, List, [], ◌∷◌, ◌++◌, length, map, Option, Some, None, slice_get}
use Rattle.std.proofs.Common.{Ok, refl, sym, ◌∙◌, ap, subst, arith, ◌==◌}
use Rattle.std.specs.Prelude.{if◌then◌else◌, option_map}
use Rattle.std.proofs.lemmas.Bool.{both_ways, not-true, false_from_ne_true}
use Rattle.std.proofs.lemmas.Option.{slice_get-map}
use Rattle.blocks.specs.declared.settings.Settings.{Settings}
use Rattle.blocks.specs.declared.tuple.Tuple.{Tuple}
use Rattle.blocks.specs.declared.outcome.Decision.{Decision}
use Rattle.blocks.specs.declared.outcome.Decision.TheVariants.{NoSync, BitmapSync, FullSync}
use Rattle.model.specs.Contents.{Write}
use Rattle.model.specs.Stream.{StreamItem, WriteItem, ResyncItem, BarrierItem, SyncUuidItem, UuidsItem, IsBeginning, last_epoch, within}
use Rattle.model.specs.Frames.{UuidsFrame, Received}
use Rattle.model.specs.Identifiers.{sync_end}
use Rattle.model.specs.Primary.{LocalOutcome, Waiting, OnDisk, Failed, Accepted, PrimaryConnection, PrimaryHistory, no_primary_connection}
use Rattle.model.specs.Primary.{primary_connection, last_index}
use Rattle.model.specs.Primary.{change_last, with_primary_connection, is_established, accepted_frames}
use Rattle.model.specs.Primary.{is_waiting}
use Rattle.model.specs.Primary.{is_released, unreleased}
use Rattle.model.specs.PrimarySteps.{follows, submission, submitted, set_outcome, faulted, accepted_at, opened}
use Rattle.model.specs.PrimarySteps.{submitted_with, faulted_by}
use Rattle.model.specs.Acknowledgements.{begun_with}
use Rattle.model.specs.LocalRuns.{primary_run}
use Rattle.laws.proofs.Lists.Beginnings.{begins-self}
use Rattle.laws.proofs.Lists.Last.{get-change, change-twice}
use Rattle.laws.proofs.Primary.Moves.{following-from, IsKeptByMoves, IsKeptByReleases, keeps-run, with_frame, pushing}
use Rattle.laws.proofs.Primary.Homes.{HasHomes}
use Rattle.laws.proofs.Primary.HomesMoves.{homes-kept, homes-marks, homes-opening}
use Rattle.laws.proofs.Lists.Elements.{get-left, get-more}
use Rattle.laws.proofs.Lists.Picks.{pick-filtered}
use Rattle.laws.proofs.Primary.Ends.{not-refused, frames-taking}
use Rattle.laws.proofs.Primary.HomesFollowing.{homes-completions, homes-ending, homes-parting}
use Rattle.laws.proofs.Rules.RefusedFrames.{refused_out, refused-last}
use Rattle.std.proofs.Common.{nat_lt, ◌||◌, ◌&&◌, length-append}
use Rattle.std.specs.List.{list_any}
use Rattle.std.proofs.lemmas.Bool.{cases_Bool, or_parts, or_cases, and_from, eqb-true}
use Rattle.std.proofs.lemmas.List.{length-map}
use Rattle.model.specs.Contents.{covers}
use Rattle.model.specs.Frames.{BarrierAckFrame, counting}
use Rattle.model.specs.Headline.{is_covered, is_marked}
use Rattle.model.specs.LocalRuns.{primary_after}
use Rattle.model.specs.Marks.{is_cleared, marking_unreleased}
use Rattle.model.specs.PrimarySteps.{given, is_unfinished, with_outcome}
use Rattle.model.specs.Primary.{last_of}
use Rattle.model.specs.Theorems.{primary_at}
use Rattle.laws.proofs.Accounted.{held-covers}
use Rattle.laws.proofs.Lists.Elements.{get-end}
use Rattle.laws.proofs.Lists.Last.{change-none}
use Rattle.laws.proofs.Lists.Picks.{pick-any, pick-found}
use Rattle.laws.proofs.Pair.RefusedFrames.{others-count}
use Rattle.laws.proofs.Primary.ExtentsMoves.{KeepsRelease, keeps-self, keeps-growing, keeps-closed, AllKeep, LaterWrites, later-self, released-later}
use Rattle.laws.proofs.Primary.HomesMoves.{homes-released}
use Rattle.laws.proofs.Primary.Moves.{keeps-after}
use Rattle.laws.proofs.Rules.CloseMarks.{close-marks}
use Rattle.laws.proofs.Rules.RefusedFrames.{refused_by, refusing_frame, refusing-last}
use Rattle.laws.proofs.Rules.Releases.{held-waiting}
use Rattle.laws.proofs.Tracked.Outcomes.{unfinished-waits}
use Rattle.stops.specs.Hooks.{CoverGrowsByHooks, HasGrown, HasNewWrite, begun_count, begun_by}

-- no connection changes
keep-same : (cs ds : List PrimaryConnection) → ds ≡ cs → AllKeep cs ds
keep-same cs ds same k c at = (c, subst (λ (l : List PrimaryConnection). slice_get l k ≡ Some c) (sym same) at, keeps-self c)

-- the last connection changes
keep-change : (h : PrimaryHistory) (ds : List PrimaryConnection) (f : PrimaryConnection → PrimaryConnection) → ds ≡ change_last f h.connections
    → ((k : ℕ) → slice_get h.connections k ≡ Some (primary_connection h) → KeepsRelease (primary_connection h) (f (primary_connection h)))
    → AllKeep h.connections ds
keep-change h ds f connections keeps k c at =
    let old : (x : PrimaryConnection) → slice_get (change_last f h.connections) k ≡ Some x
    → slice_get ds k ≡ Some x = λ x there. subst (λ (l : List PrimaryConnection). slice_get l k ≡ Some x) (sym connections) there in
    elim (get-change f (no_primary_connection h.tuple) h.connections k c at) [
      | inl same ↦ (c, old c same, keeps-self c)
      | inr changed ↦ (
        f c,
        old (f c) changed.0,
        subst (λ (x : PrimaryConnection). KeepsRelease x (f x)) (sym changed.1) (keeps k (at ∙ ap (λ (x : PrimaryConnection). Some x) changed.1)),
      )
    ]

count-change : (f : PrimaryConnection → PrimaryConnection) → ((c : PrimaryConnection) → c.begun ≡ true → (f c).begun ≡ true) → (cs : List PrimaryConnection)
    → begun_count cs ≤ begun_count (change_last f cs)
count-change f keeps [] = omega arith
count-change f keeps (c ∷ []) = go c.begun (f c).begun (keeps c)
  where
    go : (b d : Bool) → (b ≡ true → d ≡ true) → begun_by b 0 ≤ begun_by d 0
    go true true k = omega arith
    go false true k = omega arith
    go false false k = omega arith
    go true false k = absurd (let no : false ≡ true = k refl in cc)
count-change f keeps (c ∷ d ∷ cs) = go c.begun (count-change f keeps (d ∷ cs))
  where
    go : (b : Bool) → begun_count (d ∷ cs) ≤ begun_count (change_last f (d ∷ cs)) → begun_by b (begun_count (d ∷ cs)) ≤ begun_by b (begun_count (change_last f (d ∷ cs)))
    go true less = omega arith
    go false less = less

count-more : (c : PrimaryConnection) (cs : List PrimaryConnection) → begun_count cs ≤ begun_count (cs ++ c ∷ [])
count-more c [] = omega arith
count-more c (d ∷ cs) = go d.begun (count-more c cs)
  where
    go : (b : Bool) → begun_count cs ≤ begun_count (cs ++ c ∷ []) → begun_by b (begun_count cs) ≤ begun_by b (begun_count (cs ++ c ∷ []))
    go true less = omega arith
    go false less = less

-- the last stream begins
count-begins : (f : PrimaryConnection → PrimaryConnection) (none : PrimaryConnection) → ((c : PrimaryConnection) → (f c).begun ≡ true) → (cs : List PrimaryConnection)
    → (last_of none cs).begun ≡ false → none.closed ≡ true → (last_of none cs).closed ≡ false → begun_count cs < begun_count (change_last f cs)
count-begins f none begins [] new shut standing = absurd (both_ways none.closed standing shut)
count-begins f none begins (c ∷ []) new shut standing = go c.begun (f c).begun new (begins c)
  where
    go : (b d : Bool) → b ≡ false → d ≡ true → begun_by b 0 < begun_by d 0
    go false true is on = omega arith
    go true d is on = absurd (cc)
    go false false is on = absurd (cc)
count-begins f none begins (c ∷ d ∷ cs) new shut standing = go c.begun (begins-rest d cs new standing)
  where
    begins-rest : (d : PrimaryConnection) (cs : List PrimaryConnection) → (last_of d cs).begun ≡ false → (last_of d cs).closed ≡ false
        → begun_count (d ∷ cs) < begun_count (change_last f (d ∷ cs))
    begins-rest d [] new standing = one d.begun (f d).begun new (begins d)
      where
        one : (b e : Bool) → b ≡ false → e ≡ true → begun_by b 0 < begun_by e 0
        one false true is on = omega arith
        one true e is on = absurd (cc)
        one false false is on = absurd (cc)
    begins-rest d (e ∷ cs) new standing = more d.begun (begins-rest e cs new standing)
      where
        more : (b : Bool) → begun_count (e ∷ cs) < begun_count (change_last f (e ∷ cs)) → begun_by b (begun_count (e ∷ cs)) < begun_by b (begun_count (change_last f (e ∷ cs)))
        more true less = omega arith
        more false less = less

    go : (b : Bool) → begun_count (d ∷ cs) < begun_count (change_last f (d ∷ cs)) → begun_by b (begun_count (d ∷ cs)) < begun_by b (begun_count (change_last f (d ∷ cs)))
    go true less = omega arith
    go false less = less

-- an unreleased write has the block
abbrev under : PrimaryHistory → ℕ → Bool
under h block = list_any (λ (x : Accepted). covers x.write block) (unreleased h)

-- Since there were `n` writes and `m` streams: no unreleased write has the block, or a new write has it; and it is not marked, or
-- a new write has it, or a stream began.
record Grown (n m block : ℕ) (h : PrimaryHistory) : Type 0 where
  held : (under h block ≡ false) ⊎ HasNewWrite n block h
  marked : (is_marked h block ≡ false) ⊎ (HasNewWrite n block h ⊎ (m < begun_count h.connections))
  streams : m ≤ begun_count h.connections
  accepted : n ≤ length h.writes

-- accepted writes that stay
abbrev StayWrites : List Accepted → List Accepted → Type 0
StayWrites ws vs = (i : ℕ) (a : Accepted) → slice_get ws i ≡ Some a → (b : Accepted) × (slice_get vs i ≡ Some b) × (b.write ≡ a.write)

-- a clean block has neither a mark nor an unreleased write
clean-parts : (h : PrimaryHistory) (block : ℕ) → is_covered h block ≡ false → (is_marked h block ≡ false)
    × (list_any (λ (x : Accepted). covers x.write block) (unreleased h) ≡ false)
clean-parts h block clean = or_parts (is_marked h block) (list_any (λ (x : Accepted). covers x.write block) (unreleased h)) clean

-- no write that has it is unreleased
clean-of : (h : PrimaryHistory) (block i : ℕ) (a : Accepted) → under h block ≡ false → slice_get h.writes i ≡ Some a → is_released h a ≡ false
    → covers a.write block ≡ true → ⊥
clean-of h block i a clean at held covered = both_ways (under h block) clean (held-covers h block i a at held covered)

-- no unreleased write has a clean block later, where what was released stays so and no write was added
none-under : (h later : PrimaryHistory) (block : ℕ) → HasHomes h → AllKeep h.connections later.connections → LaterWrites h.writes later.writes
    → under h block ≡ false → under later block ≡ false
none-under h later block homes keep writes clean = false_from_ne_true (list_any (λ (x : Accepted). covers x.write block) (unreleased later)) (λ under.
    let some = pick-any (λ (x : Accepted). covers x.write block) (unreleased later) under in
    let stood = pick-filtered (λ (x : Accepted). not (is_released later x)) later.writes some.0 some.1 some.2 in
    let old = writes stood.0 some.1 stood.1 in
    let held : is_released h old.0 ≡ false = false_from_ne_true (is_released h old.0) (λ released.
    both_ways (is_released later some.1) (not-true (is_released later some.1) stood.2)
    (released-later h later stood.0 old.0 some.1 homes keep old.1 old.3 old.4 released)) in
    clean-of h block stood.0 old.0 clean old.1 held (subst (λ (w : Write). covers w block ≡ true) old.2 some.3))

both-off : (a b : Bool) → a ≡ false → b ≡ false → (a || b) ≡ false
both-off false false one two = refl
both-off true b one two = absurd (cc)
both-off false true one two = absurd (cc)

-- a new write stays new
stay-new : (n block : ℕ) (h later : PrimaryHistory) → StayWrites h.writes later.writes → HasNewWrite n block h → HasNewWrite n block later
stay-new n block h later stay new = let now = stay new.0 new.1 new.3 in
    (new.0, now.0, new.2, now.1, subst (λ (w : Write). covers w block ≡ true) (sym now.2) new.4)

-- what a step leaves of it
grown-later : (n m block : ℕ) (h later : PrimaryHistory) → HasHomes h → AllKeep h.connections later.connections → LaterWrites h.writes later.writes
    → StayWrites h.writes later.writes → length h.writes ≤ length later.writes → begun_count h.connections ≤ begun_count later.connections
    → (under h block ≡ false → is_marked h block ≡ false → is_marked later block ≡ false) → Grown n m block h → Grown n m block later
grown-later n m block h later homes keep writes stay longer counts marks g = record {
  held = held g.held;
  marked = marked g.held g.marked;
  streams = omega (arith, g.streams);
  accepted = omega (arith, g.accepted);
}
  where
    held : (under h block ≡ false) ⊎ HasNewWrite n block h → (under later block ≡ false) ⊎ HasNewWrite n block later
    held (inl clean) = inl (none-under h later block homes keep writes clean)
    held (inr new) = inr (stay-new n block h later stay new)

    marked : (under h block ≡ false) ⊎ HasNewWrite n block h → (is_marked h block ≡ false) ⊎ (HasNewWrite n block h ⊎ (m < begun_count h.connections))
        → (is_marked later block ≡ false) ⊎ (HasNewWrite n block later ⊎ (m < begun_count later.connections))
    marked (inl clean) (inl off) = inl (marks clean off)
    marked (inr new) (inl off) = inr (inl (stay-new n block h later stay new))
    marked u (inr (inl new)) = inr (inl (stay-new n block h later stay new))
    marked u (inr (inr began)) = inr (inr (omega (arith, began, counts)))

stay-self : (ws : List Accepted) → StayWrites ws ws
stay-self ws i a at = (a, at, refl)

-- the marks stay
marks-same : (h later : PrimaryHistory) (block : ℕ) → later.settings ≡ h.settings → (h.marks block ≡ false → later.marks block ≡ false) → is_marked h block ≡ false
    → is_marked later block ≡ false
marks-same h later block settings fewer clean = go (nat_lt block h.settings.blocks) refl (h.marks block) refl
  where
    go : (b : Bool) → nat_lt block h.settings.blocks ≡ b → (c : Bool) → h.marks block ≡ c → is_marked later block ≡ false
    go true in_range true on = absurd (both_ways (is_marked h block) clean (and_from (nat_lt block h.settings.blocks) (h.marks block) in_range on))
    go true in_range false off = and_off (nat_lt block later.settings.blocks) (later.marks block) (fewer off)
      where
        and_off : (a b : Bool) → b ≡ false → (a && b) ≡ false
        and_off true b is = is
        and_off false b is = refl
    go false past c is = subst (λ (s : Settings). (nat_lt block s.blocks && later.marks block) ≡ false) (sym settings) (ap (λ x. x && later.marks block) past)

-- the last connection changes, and no write
grown-change : (n m block : ℕ) (h later : PrimaryHistory) (f : PrimaryConnection → PrimaryConnection) → later.settings ≡ h.settings
    → later.connections ≡ change_last f h.connections → later.writes ≡ h.writes → ((c : PrimaryConnection) → c.begun ≡ true → (f c).begun ≡ true)
    → (under h block ≡ false → h.marks block ≡ false → later.marks block ≡ false)
    → ((k : ℕ) → slice_get h.connections k ≡ Some (primary_connection h) → KeepsRelease (primary_connection h) (f (primary_connection h))) → HasHomes h
    → Grown n m block h → Grown n m block later
grown-change n m block h later f settings connections writes begun marks keeps homes g =
    grown-later n m block h later homes (keep-change h later.connections f connections keeps) (subst (LaterWrites h.writes) (sym writes) (later-self h.writes))
    (subst (StayWrites h.writes) (sym writes) (stay-self h.writes)) (subst (λ (l : List Accepted). length h.writes ≤ length l) (sym writes) (omega arith))
    (subst (λ (l : List PrimaryConnection). begun_count h.connections ≤ begun_count l) (sym connections) (count-change f begun h.connections))
    (λ clean off. marks-same h later block settings (marks clean) off) g

-- neither changes
grown-same : (n m block : ℕ) (h later : PrimaryHistory) → later.settings ≡ h.settings → later.connections ≡ h.connections → later.writes ≡ h.writes
    → (under h block ≡ false → h.marks block ≡ false → later.marks block ≡ false) → HasHomes h → Grown n m block h → Grown n m block later
grown-same n m block h later settings connections writes marks homes g =
    grown-change n m block h later (λ c. c) settings (connections ∙ sym (change-none h.connections)) writes (λ c was. was) marks
    (λ k at. keeps-self (primary_connection h)) homes g

-- an item goes to the end of a stream
keeps-appending : (c : PrimaryConnection) (item : StreamItem) → KeepsRelease c (record c { stream = c.stream ++ item ∷ [] })
keeps-appending c item = keeps-growing c (record c { stream = c.stream ++ item ∷ [] }) refl (item ∷ [], refl) (begins-self (accepted_frames c))

grown-appending : (n m block : ℕ) (h later : PrimaryHistory) (item : StreamItem) → later.settings ≡ h.settings
    → later.connections ≡ change_last (λ c. record c { stream = c.stream ++ item ∷ [] }) h.connections → later.writes ≡ h.writes → later.marks ≡ h.marks
    → HasHomes h → Grown n m block h → Grown n m block later
grown-appending n m block h later item settings connections writes marks homes g =
    grown-change n m block h later (λ c. record c { stream = c.stream ++ item ∷ [] }) settings connections writes (λ c was. was)
    (λ clean off. ap (λ (x : ℕ → Bool). x block) marks ∙ off) (λ k at. keeps-appending (primary_connection h) item) homes g

-- a frame is taken
keeps-taking : (h : PrimaryHistory) (frame : Received) → HasHomes h → (primary_connection h).closed ≡ false → (k : ℕ)
    → slice_get h.connections k ≡ Some (primary_connection h)
    → KeepsRelease (primary_connection h) (with_frame frame (primary_connection h))
keeps-taking h frame homes standing k at = keeps-growing (primary_connection h) (with_frame frame (primary_connection h)) refl
    (begins-self (primary_connection h).stream)
    (frames-taking (primary_connection h) frame (not-refused h homes standing k at))

-- what holds between steps, and after a step's effect
abbrev Both : ℕ → ℕ → ℕ → PrimaryHistory → Type 0
Both n m block h = HasHomes h × Grown n m block h

grown-following : (n m block : ℕ) (h : PrimaryHistory) → Both n m block h → Both n m block (follows h).history
grown-following n m block = following-from (Both n m block) (Both n m block) (Both n m block)
    (λ h p. (homes-completions h p.0, grown-same n m block h _ refl refl refl (λ clean off. off) p.0 p.1))
    (λ g over p. (homes-parting g over p.0, grown-appending n m block g _ (BarrierItem (last_epoch (primary_connection g).stream)) refl refl refl refl p.0 p.1))
    (λ g on p. p)
    (λ g over p. (homes-ending g over p.0, grown-appending n m block g _ (UuidsItem (sync_end g.tuple)) refl refl refl refl p.0 p.1)) (λ g p. p)

-- a write more
grown-added : (n m block : ℕ) (h later : PrimaryHistory) (added : Accepted) → AllKeep h.connections later.connections → later.settings ≡ h.settings
    → later.writes ≡ h.writes ++ added ∷ []
    → begun_count h.connections ≤ begun_count later.connections → (covers added.write block ≡ false → h.marks block ≡ false → later.marks block ≡ false)
    → HasHomes h → Grown n m block h → Grown n m block later
grown-added n m block h later added keep settings writes counts marks homes g = record {
  held = held (covers added.write block) refl g.held;
  marked = marked (covers added.write block) refl g.marked;
  streams = let s = g.streams in omega arith;
  accepted = let s = g.accepted in let more = ap length writes ∙ length-append h.writes (added ∷ []) in omega arith;
}
  where
    stay : StayWrites h.writes later.writes
    stay i a at = (a, subst (λ (l : List Accepted). slice_get l i ≡ Some a) (sym writes) (get-left h.writes (added ∷ []) i a at), refl)

    new-write : covers added.write block ≡ true → HasNewWrite n block later
    new-write has = (
      length h.writes,
      added,
      g.accepted,
      subst (λ (l : List Accepted). slice_get l (length h.writes) ≡ Some added) (sym writes)
          (get-end h.writes added),
      has,
    )

    keeps-clean : covers added.write block ≡ false → under h block ≡ false → under later block ≡ false
    keeps-clean other clean =
        false_from_ne_true (list_any (λ (x : Accepted). covers x.write block) (unreleased later)) (λ under.
        let some = pick-any (λ (x : Accepted). covers x.write block) (unreleased later) under in
        let stood = pick-filtered (λ (x : Accepted). not (is_released later x)) later.writes some.0 some.1 some.2 in
        elim (get-more h.writes added stood.0 some.1 (subst (λ (l : List Accepted). slice_get l stood.0 ≡ Some some.1) writes stood.1)) [
          | inl was ↦ clean-of h block stood.0 some.1 clean was (false_from_ne_true (is_released h some.1) (λ released.
              both_ways (is_released later some.1) (not-true (is_released later some.1) stood.2)
              (released-later h later stood.0 some.1 some.1 homes keep was refl (λ done. done) released))) some.3
          | inr new ↦ both_ways (covers added.write block) other (subst (λ (x : Accepted). covers x.write block ≡ true) new.1 some.3)
        ])

    held : (b : Bool) → covers added.write block ≡ b → (under h block ≡ false) ⊎ HasNewWrite n block h → (under later block ≡ false) ⊎ HasNewWrite n block later
    held true has clean = inr (new-write has)
    held false other (inl clean) = inl (keeps-clean other clean)
    held false other (inr new) = inr (stay-new n block h later stay new)

    marked : (b : Bool) → covers added.write block ≡ b → (is_marked h block ≡ false) ⊎ (HasNewWrite n block h ⊎ (m < begun_count h.connections))
        → (is_marked later block ≡ false) ⊎ (HasNewWrite n block later ⊎ (m < begun_count later.connections))
    marked true has clean = inr (inl (new-write has))
    marked false other (inl off) = inl (marks-same h later block settings (marks other) off)
    marked false other (inr (inl new)) = inr (inl (stay-new n block h later stay new))
    marked false other (inr (inr began)) = inr (inr (omega (arith, began, counts)))

grown-submits : (n m block : ℕ) (h : PrimaryHistory) (first : ℕ) (contents : List (List ℕ)) → HasHomes h → Grown n m block h
    → Grown n m block (submitted h first contents)
grown-submits n m block h first contents homes g = go (is_established (primary_connection h))
  where
    go : (b : Bool) → Grown n m block (submitted_with b h first contents)
    go true = grown-added n m block h _ (record {
      write = submission h first contents;
      journal_length = length h.journal;
      home = Some (record { index = last_index h.connections; place = length (primary_connection h).stream });
      outcome = Waiting;
    }) (keep-change h _ (λ c. record c { stream = c.stream ++ WriteItem (submission h first contents) ∷ [] }) refl
        (λ k at. keeps-appending (primary_connection h) (WriteItem (submission h first contents)))) refl refl
        (count-change (λ c. record c { stream = c.stream ++ WriteItem (submission h first contents) ∷ [] }) (λ c was. was) h.connections)
        (λ other off. off) homes g
    go false = grown-added n m block h _ (record { write = submission h first contents; journal_length = length h.journal; home = None; outcome = Waiting })
        (keep-same h.connections h.connections refl) refl refl (omega arith) (λ other off. both-off _ _ off other) homes g

-- the local disk finishes a write
put-down : (number : ℕ) (outcome : LocalOutcome) (a : Accepted) → is_waiting outcome ≡ false
    → ((set_outcome number outcome a).write ≡ a.write) × ((set_outcome number outcome a).home ≡ a.home) × (is_waiting a.outcome ≡ false
    → is_waiting (set_outcome number outcome a).outcome ≡ false)
put-down number outcome a finished = elim (a.write.number == number) as
    (λ b. ((if b then record a { outcome = outcome } else a).write ≡ a.write) × ((if b then record a { outcome = outcome } else a).home ≡ a.home)
    × (is_waiting a.outcome ≡ false → is_waiting (if b then record a { outcome = outcome } else a).outcome ≡ false))
    [ true ↦ (refl, refl, λ done. finished) | false ↦ (refl, refl, λ done. done) ]

grown-outcome : (n m block : ℕ) (h later : PrimaryHistory) (number : ℕ) (outcome : LocalOutcome) → is_waiting outcome ≡ false → later.settings ≡ h.settings
    → later.connections ≡ h.connections → later.writes ≡ map (set_outcome number outcome) h.writes
    → (under h block ≡ false → h.marks block ≡ false → later.marks block ≡ false) → HasHomes h
    → Grown n m block h → Grown n m block later
grown-outcome n m block h later number outcome finished settings connections writes marks homes g =
    grown-later n m block h later homes (keep-same h.connections later.connections connections)
    (subst (LaterWrites h.writes) (sym writes) (λ i b at. find i b (slice_get h.writes i) refl (sym (slice_get-map (set_outcome number outcome) h.writes i)
    ∙ at)))
    (subst (StayWrites h.writes) (sym writes) (λ i a at. (
      set_outcome number outcome a,
      slice_get-map (set_outcome number outcome) h.writes i ∙ ap (option_map (set_outcome number outcome)) at,
      (put-down number outcome a finished).0,
    )))
    (let same = ap length writes ∙ length-map h.writes (set_outcome number outcome) in omega arith)
    (subst (λ (l : List PrimaryConnection). begun_count h.connections ≤ begun_count l) (sym connections) (omega arith))
    (λ clean off. marks-same h later block settings (marks clean) off) g
  where
    find : (i : ℕ) (b : Accepted) (v : Option Accepted) → slice_get h.writes i ≡ v → option_map (set_outcome number outcome) v ≡ Some b
        → (a : Accepted) × (slice_get h.writes i ≡ Some a) × (b.write ≡ a.write) × (b.home ≡ a.home) × (is_waiting a.outcome ≡ false
        → is_waiting b.outcome ≡ false)
    find i b None is there = absurd (cc)
    find i b (Some a) is there =
        let same : set_outcome number outcome a ≡ b = cc in
        let kept = put-down number outcome a finished in (
          a,
          is,
          ap (λ (x : Accepted). x.write) (sym same) ∙ kept.0,
          ap (λ (x : Accepted). x.home) (sym same)
              ∙ kept.1,
          λ done. subst (λ (x : Accepted). is_waiting x.outcome ≡ false) same (kept.2 done),
        )

-- a write that fails was unreleased, so its blocks were covered
grown-faults : (n m block : ℕ) (h : PrimaryHistory) (number : ℕ) (offsets : List ℕ) → is_unfinished h number ≡ true → HasHomes h → Grown n m block h
    → Grown n m block (faulted number offsets h)
grown-faults n m block h number offsets unfinished homes g = go (accepted_at h number) refl
  where
    go : (v : Option Accepted) → accepted_at h number ≡ v → Grown n m block (faulted_by v number offsets h)
    go None is = g
    go (Some accepted) is = grown-outcome n m block h _ number (Failed (within (length accepted.write.contents) offsets)) refl refl refl refl
        (λ clean off. both-off _ _ off (false_from_ne_true (covers accepted.write block) (λ has.
        let found = pick-found (λ (a : Accepted). a.write.number == number) h.writes accepted is in
        let waits = unfinished-waits h number found.0 accepted homes unfinished found.1 (eqb-true accepted.write.number number found.2) in
        clean-of h block found.0 accepted clean found.1 (held-waiting h accepted waits) has))) homes g

-- a stream begins: what it covers more is of that
grown-begins : (n m block : ℕ) (h : PrimaryHistory) (peer : Tuple) (decided : Decision) → (primary_connection h).closed ≡ false
    → (primary_connection h).begun ≡ false → HasHomes h → Grown n m block h
    → Grown n m block (begun_with decided (record (with_primary_connection (with_frame (Ok (UuidsFrame peer))) h) { peer = Some peer }))
grown-begins n m block h peer decided standing new homes g = go decided
  where
    taken : PrimaryHistory
    taken = record (with_primary_connection (with_frame (Ok (UuidsFrame peer))) h) { peer = Some peer }

    by : (later : PrimaryHistory) (f : PrimaryConnection → PrimaryConnection) → later.connections ≡ change_last f h.connections → later.writes ≡ h.writes
        → ((c : PrimaryConnection) → (f c).begun ≡ true)
        → ((k : ℕ) → slice_get h.connections k ≡ Some (primary_connection h) → KeepsRelease (primary_connection h) (f (primary_connection h))) → Grown n m block later
    by later f connections writes begins keeps =
        let more : begun_count h.connections < begun_count later.connections =
        subst (λ (l : List PrimaryConnection). begun_count h.connections < begun_count l) (sym connections)
        (count-begins f (no_primary_connection h.tuple) begins h.connections new refl standing) in
        record {
          held = under-still g.held;
          marked = inr (inr (omega (arith, more, g.streams)));
          streams = omega (arith, more, g.streams);
          accepted = subst (λ (l : List Accepted). n ≤ length l) (sym writes) g.accepted;
        }
      where
        under-still : (under h block ≡ false) ⊎ HasNewWrite n block h → (under later block ≡ false) ⊎ HasNewWrite n block later
        under-still (inl clean) = inl (none-under h later block homes (keep-change h later.connections f connections keeps)
            (subst (LaterWrites h.writes) (sym writes) (later-self h.writes)) clean)
        under-still (inr new) = inr (stay-new n block h later (subst (StayWrites h.writes) (sym writes) (stay-self h.writes)) new)

    -- a stream that begins was empty
    begun-keeps : (d : PrimaryConnection) → d.closed ≡ (primary_connection h).closed
        → accepted_frames d ≡ accepted_frames (with_frame (Ok (UuidsFrame peer)) (primary_connection h))
        → (k : ℕ) → slice_get h.connections k ≡ Some (primary_connection h) → KeepsRelease (primary_connection h) d
    begun-keeps d closed frames k at = keeps-growing (primary_connection h) d closed
        (d.stream, ap (λ (l : List StreamItem). l ++ d.stream) (homes.empty k (primary_connection h) at new))
        (subst (IsBeginning (accepted_frames (primary_connection h))) (sym frames)
        (frames-taking (primary_connection h) (Ok (UuidsFrame peer)) (not-refused h homes standing k at)))

    go : (v : Decision) → Grown n m block (begun_with v (record (with_primary_connection (with_frame (Ok (UuidsFrame peer))) h) { peer = Some peer }))
    go NoSync = by _ (λ c. record c { taken = c.taken ++ Ok (UuidsFrame peer) ∷ []; begun = true })
        (change-twice (with_frame (Ok (UuidsFrame peer))) (λ c. record c { begun = true }) h.connections) refl (λ c. refl) (begun-keeps _ refl refl)
    go BitmapSync = by _ (λ c. record c { taken = c.taken ++ Ok (UuidsFrame peer) ∷ []; begun = true; stream = SyncUuidItem (primary_connection taken).sync ∷ [] })
        (change-twice (with_frame (Ok (UuidsFrame peer))) (λ c. record c { begun = true; stream = SyncUuidItem (primary_connection taken).sync ∷ [] }) h.connections) refl (λ c. refl) (begun-keeps _ refl refl)
    go FullSync = by _ (λ c. record c { taken = c.taken ++ Ok (UuidsFrame peer) ∷ []; begun = true; stream = SyncUuidItem (primary_connection taken).sync ∷ [] })
        (change-twice (with_frame (Ok (UuidsFrame peer))) (λ c. record c { begun = true; stream = SyncUuidItem (primary_connection taken).sync ∷ [] }) h.connections) refl (λ c. refl) (begun-keeps _ refl refl)

grown-taking : (n m block : ℕ) (h later : PrimaryHistory) (frame : Received) → (primary_connection h).closed ≡ false → later.settings ≡ h.settings
    → later.connections ≡ change_last (with_frame frame) h.connections → later.writes ≡ h.writes
    → (under h block ≡ false → h.marks block ≡ false → later.marks block ≡ false) → HasHomes h → Grown n m block h → Grown n m block later
grown-taking n m block h later frame standing settings connections writes marks homes g = grown-change n m block h later (with_frame frame) settings connections writes
    (λ c was. was) marks (keeps-taking h frame homes standing) homes g

-- what a close marks beside is of unreleased writes
close-clean : (h mid : PrimaryHistory) (block : ℕ) → HasHomes h → AllKeep h.connections mid.connections → mid.writes ≡ h.writes → mid.marks ≡ h.marks
    → under h block ≡ false → h.marks block ≡ false → marking_unreleased mid block ≡ false
close-clean h mid block homes keep writes marks clean off =
    sym (close-marks mid block false (sym (none-under h mid block homes keep (subst (LaterWrites h.writes) (sym writes) (later-self h.writes)) clean)))
    ∙ ap (λ (m : ℕ → Bool). m block || false) marks ∙ ap (λ b. b || false) off

-- a refused frame acknowledges nothing
keeps-refusing : (h : PrimaryHistory) (frame : Received) → HasHomes h → (primary_connection h).closed ≡ false → (k : ℕ)
    → slice_get h.connections k ≡ Some (primary_connection h) → KeepsRelease (primary_connection h) (refusing_frame frame (primary_connection h))
keeps-refusing h frame homes standing k at = keeps-growing (primary_connection h) (refusing_frame frame (primary_connection h)) refl
    (begins-self (primary_connection h).stream)
    (subst (IsBeginning (accepted_frames (primary_connection h))) (sym (others-count frame (primary_connection h).taken)
    ∙ refl) (subst (λ b. IsBeginning (counting b (primary_connection h).taken) (primary_connection h).taken) (sym (not-refused h homes standing k at))
    (begins-self (primary_connection h).taken)))

grown-kept : (n m block : ℕ) → IsKeptByMoves (Both n m block) (Both n m block)
grown-kept n m block = record {
  following = grown-following n m block;
  opens = λ h sync loss closed fresh p. (
    homes-kept.opens h sync loss closed fresh p.0,
    grown-later n m block h (opened h sync loss) p.0 (λ k c at. (c, get-left h.connections _ k c at, keeps-self c)) (later-self h.writes) (stay-self h.writes)
        (omega arith) (count-more _ h.connections) (λ clean off. marks-same h (opened h sync loss) block refl (λ off. off) off) p.1,
  );
  submits = λ h first contents may p. (homes-kept.submits h first contents may p.0, grown-submits n m block h first contents p.0 p.1);
  writes = λ h number waiting p. (homes-kept.writes h number waiting p.0, grown-outcome n m block h _ number OnDisk refl refl refl refl (λ clean off. off) p.0 p.1);
  faults = λ h number offsets waiting p. (homes-kept.faults h number offsets waiting p.0, grown-faults n m block h number offsets waiting p.0 p.1);
  sends =
      λ h standing due p. (
        homes-kept.sends h standing due p.0,
        grown-change n m block h _ pushing refl refl refl (λ c was. was) (λ clean off. off)
            (λ k at. keeps-growing (primary_connection h) (pushing (primary_connection h)) refl (begins-self (primary_connection h).stream)
            (begins-self (accepted_frames (primary_connection h)))) p.0 p.1,
      );
  greets = λ h frame standing new met p. (homes-kept.greets h frame standing new met p.0, grown-taking n m block h _ frame standing refl refl refl (λ clean off. off) p.0 p.1);
  begins = λ h peer decided standing new late is fresh p. (
    homes-kept.begins h peer decided standing new late is fresh p.0,
    grown-begins n m block h peer decided standing new p.0 p.1,
  );
  receives = λ h ack standing begun may p. (homes-kept.receives h ack standing begun may p.0, grown-taking n m block h _ _ standing refl refl refl (λ clean off. off) p.0 p.1);
  applies = λ h ack standing begun may p. (homes-kept.applies h ack standing begun may p.0, grown-taking n m block h _ _ standing refl refl refl (λ clean off. off) p.0 p.1);
  clears = λ h ack standing begun may p. (
    homes-kept.clears h ack standing begun may p.0,
    grown-taking n m block h _ _ standing refl refl refl
        (λ clean off. ap (λ x. x && not (block == ack.first)) off) p.0 p.1,
  );
  confirms = λ h number size standing begun turn p. (
    homes-kept.confirms h number size standing begun turn p.0,
    grown-taking n m block h _ _ standing refl refl refl (λ clean off. off) p.0 p.1,
  );
  refuses = λ h frame peer standing p. (
    homes-kept.refuses h frame peer standing p.0,
    grown-change n m block h _ (refused_out frame) refl
        (refused-last frame peer h) refl (λ c was. was)
        (λ clean off. close-clean h (refused_by frame peer h) block p.0
        (keep-change h (refused_by frame peer h).connections (refusing_frame frame) (refusing-last frame h.connections) (keeps-refusing h frame p.0 standing)) refl refl clean off)
        (λ k at. keeps-closed (primary_connection h) _ refl) p.0 p.1,
  );
  resyncs = λ h block' read may runs alone is p. (
    homes-kept.resyncs h block' read may runs alone is p.0,
    grown-appending n m block h _ (ResyncItem block' (given read h block')) refl refl refl refl p.0 p.1,
  );
  closes = λ h standing p. (
    homes-kept.closes h standing p.0,
    grown-change n m block h _ (λ c. record c { closed = true }) refl refl refl (λ c was. was)
        (λ clean off. close-clean h h block p.0 (keep-same h.connections h.connections refl) refl refl clean off)
        (λ k at. keeps-closed (primary_connection h) _ refl) p.0 p.1,
  );
  receipts = λ h number p. (
    homes-kept.receipts h number p.0,
    grown-same n m block h _ refl refl refl (λ clean off. off) p.0 p.1,
  );
}

grown-released : (n m block : ℕ) → IsKeptByReleases (Both n m block) (Both n m block)
grown-released n m block = record {
  writes = λ h number waiting p q. (
    homes-marks (with_outcome number OnDisk h) _ q.0,
    grown-same n m block (with_outcome number OnDisk h) _ refl refl refl
        (λ clean off. ap (λ x. x && not (is_cleared h (with_outcome number OnDisk h) block)) off) q.0 q.1,
  );
  confirms = λ h number size standing begun turn p q.
      let taken : PrimaryHistory = with_primary_connection (with_frame (Ok (BarrierAckFrame number size))) h in
      (homes-marks taken _ q.0, grown-same n m block taken _ refl refl refl (λ clean off. ap (λ x. x && not (is_cleared h taken block)) off) q.0 q.1);
}

-- One event of a primary.
pub cover_grows : CoverGrowsByHooks
cover_grows o events event block covered =
    let h : PrimaryHistory = primary_run events (primary_at o) in
    let n : ℕ = length h.writes in
    let m : ℕ = begun_count h.connections in
    elim (cases_Bool (is_covered h block)) [
      | inl was ↦ inl was
      | inr clean ↦
          let homes : HasHomes h = keeps-run HasHomes HasHomes homes-kept homes-released events (primary_at o) (homes-opening o.settings o.local o.own o.marks) in
          let parts = or_parts (is_marked h block) (under h block) clean in
          let after = keeps-after (Both n m block) (Both n m block) (grown-kept n m block) (grown-released n m block) event h
          (homes, record { held = inl parts.1; marked = inl parts.0; streams = omega arith; accepted = omega arith }) in
          inr (grown-of n m block (primary_after event h) covered after.1.held after.1.marked)
    ]
  where
    grown-of : (n m block : ℕ) (g : PrimaryHistory) → is_covered g block ≡ true → (under g block ≡ false) ⊎ HasNewWrite n block g
        → (is_marked g block ≡ false) ⊎ (HasNewWrite n block g ⊎ (m < begun_count g.connections)) → HasGrown n m block g
    grown-of n m block g covered (inr new) marked = inl new
    grown-of n m block g covered (inl clean) (inr (inl new)) = inl new
    grown-of n m block g covered (inl clean) (inl off) = absurd (elim (or_cases (is_marked g block) (under g block) covered) [
      | inl on ↦ both_ways (is_marked g block) off on
      | inr on ↦ both_ways (under g block) clean on
    ])
    grown-of n m block g covered (inl clean) (inr (inr began)) = elim (or_cases (is_marked g block) (under g block) covered) [
      | inl on ↦ inr (began, on)
      | inr on ↦ absurd (both_ways (under g block) clean on)
    ]
