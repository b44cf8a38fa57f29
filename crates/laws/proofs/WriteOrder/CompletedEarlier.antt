-- A write that was completed when another one was accepted was accepted earlier, and on one connection it is of an earlier
-- epoch: a completed write's epoch is over. Kept by every step of a primary.
use Rattle.std.proofs.Common.{ℕ, suc, ◌≡◌, ◌-◌, ◌<◌, ◌≤◌, ◌⊎◌, inl, inr, Bool, true, false, not, ◌==◌, List, [], ◌∷◌, ◌++◌, length, take, map, Option, Some}
use Rattle.std.proofs.Common.{None, slice_get, Ok, refl, sym, ◌∙◌, ap, subst, arith, length-append}
use Rattle.std.specs.Prelude.{unwrap_or}
use Rattle.std.specs.List.{list_any}
use Rattle.std.proofs.lemmas.Bool.{cases_lt, both_ways, and_parts, not-true, eqb-true}
use Rattle.std.proofs.lemmas.Option.{slice_get_within}
use Rattle.std.proofs.Math.Seq.{take-append_seam}
use Rattle.std.proofs.lemmas.List.{append-nil}
use Rattle.blocks.specs.declared.settings.Settings.{Settings}
use Rattle.blocks.specs.declared.tuple.Tuple.{Tuple}
use Rattle.blocks.specs.declared.outcome.Decision.{Decision}
use Rattle.blocks.specs.declared.outcome.Decision.TheVariants.{NoSync, BitmapSync, FullSync}
use Rattle.blocks.specs.SettingsRange.{IsInRange}
use Rattle.model.specs.Contents.{BlockMap}
use Rattle.model.specs.Stream.{StreamItem, WriteItem, ResyncItem, BarrierItem, SyncUuidItem, UuidsItem, IsBeginning, epoch_of, last_epoch, within}
use Rattle.model.specs.Frames.{Received, UuidsFrame, RsWriteAckFrame, BarrierAckFrame}
use Rattle.model.specs.Identifiers.{sync_end}
use Rattle.model.specs.Marks.{marking}
use Rattle.model.specs.Primary.{LocalOutcome, Waiting, OnDisk, Accepted, Completion, PrimaryConnection, PrimaryHistory, no_primary_connection}
use Rattle.model.specs.Primary.{primary_connection, last_index}
use Rattle.model.specs.Primary.{change_last, with_primary_connection, is_established, local_map, is_completed, is_open, primary_opening}
use Rattle.model.specs.PrimarySteps.{set_outcome, completion_of, newly_completed, with_completions, appending, ending_resync, follows, submission, submitted}
use Rattle.model.specs.PrimarySteps.{with_outcome, accepted_at, faulted, closing, submitted_with, faulted_by}
use Rattle.model.specs.Acknowledgements.{begun_with}
use Rattle.model.specs.LocalRuns.{PrimaryEvent, primary_run}
use Rattle.model.specs.WriteOrder.{comes_before}
use Rattle.laws.proofs.Rules.EpochEnds.{TakesWrites, takes-writes, goes-on}
use Rattle.laws.proofs.Lists.Beginnings.{begins-self, take-begins}
use Rattle.laws.proofs.Lists.Elements.{get-left, get-more, same-at}
use Rattle.laws.proofs.Lists.Fronts.{get-front}
use Rattle.laws.proofs.Lists.Last.{get-change, change-twice, get-last-changed}
use Rattle.laws.proofs.Lists.Picks.{pick-any, pick-filtered, pick-image}
use Rattle.laws.proofs.Streams.Lawful.{epoch-end, epoch-bound}
use Rattle.laws.proofs.Streams.Places.{epoch-grows}
use Rattle.laws.proofs.Primary.Homes.{HasHomes, open-at, outcome-write, outcome-home}
use Rattle.laws.proofs.Primary.Moves.{IsKeptByMoves, IsKeptByReleases, following-from, keeps-run, with_frame, pushing}
use Rattle.laws.proofs.Releases.InOrderMoves.{Ordered, OrderedAfter, in-order-kept}
use Rattle.laws.proofs.Primary.LastEpoch.{write-open}
use Rattle.laws.proofs.Primary.Ends.{established-parts}
use Rattle.laws.proofs.Accounted.{epoch-same}
use Rattle.laws.proofs.Releases.Runs.{ordered-released, ordered-opening}
use Rattle.std.specs.Prelude.{is_some, if◌then◌else◌}
use Rattle.blocks.specs.Positions.{StreamPosition}
use Rattle.laws.proofs.WriteOrder.Sets.{AreInTurn}
use Rattle.laws.proofs.Rules.RefusedFrames.{refused_out, refused-last}
use Rattle.model.specs.PrimarySteps.{given}

-- In turn; and what that is seen by: no write was accepted with a longer journal, and each home is a place of its stream.
pub record HasTurns (h : PrimaryHistory) : Type 0 where
  pub lengths : (n : ℕ) (a : Accepted) → slice_get h.writes n ≡ Some a → a.journal_length ≤ length h.journal
  pub stood : (n k place : ℕ) (a : Accepted) → slice_get h.writes n ≡ Some a → a.home ≡ Some (record { index = k; place = place })
      → (c : PrimaryConnection) × (slice_get h.connections k ≡ Some c) × (place < length c.stream)
  pub turn : AreInTurn h

-- each stream is still there, and has only grown
abbrev pub StreamsGrow : PrimaryHistory → PrimaryHistory → Type 0
StreamsGrow h later = (k : ℕ) (c : PrimaryConnection) → slice_get h.connections k ≡ Some c
    → (d : PrimaryConnection) × (slice_get later.connections k ≡ Some d) × IsBeginning c.stream d.stream

-- writes that are the same but for what the local disk did
abbrev pub WritesStay : List Accepted → List Accepted → Type 0
WritesStay ws vs = (i : ℕ) (b : Accepted) → slice_get vs i ≡ Some b
    → (a : Accepted) × (slice_get ws i ≡ Some a) × (b.write ≡ a.write) × (b.home ≡ a.home) × (b.journal_length ≡ a.journal_length)

-- those that stay as they are
pub stay-same : (ws : List Accepted) → WritesStay ws ws
stay-same ws i b at = (b, at, refl, refl, refl)

-- those of which one is done or failed
pub stay-outcome : (number : ℕ) (outcome : LocalOutcome) (ws : List Accepted) → WritesStay ws (map (set_outcome number outcome) ws)
stay-outcome number outcome ws i b at =
    let was = pick-image (set_outcome number outcome) ws i b at in (
      was.0,
      was.1,
      ap (λ (x : Accepted). x.write) (sym was.2) ∙ outcome-write number outcome was.0,
      ap (λ (x : Accepted). x.home) (sym was.2) ∙ outcome-home number outcome was.0,
      ap (λ (x : Accepted). x.journal_length) (sym was.2) ∙ outcome-length was.0,
    )
  where
    outcome-length : (a : Accepted) → (set_outcome number outcome a).journal_length ≡ a.journal_length
    outcome-length a = elim (a.write.number == number) as (λ b. (if b then record a { outcome = outcome } else a).journal_length ≡ a.journal_length)
        [ true ↦ refl | false ↦ refl ]

-- a change of the last connection by which its stream only grows
pub streams-change : (h later : PrimaryHistory) (f : PrimaryConnection → PrimaryConnection) → later.connections ≡ change_last f h.connections
    → IsBeginning (primary_connection h).stream (f (primary_connection h)).stream → StreamsGrow h later
streams-change h later f connections grows k c at =
    subst (λ (l : List PrimaryConnection). (d : PrimaryConnection) × (slice_get l k ≡ Some d) × IsBeginning c.stream d.stream)
    (sym connections) (elim (get-change f (no_primary_connection h.tuple) h.connections k c at) [
      | inl same ↦ (c, same, begins-self c.stream)
      | inr changed ↦ (f c, changed.0, subst (λ (x : PrimaryConnection). IsBeginning x.stream (f x).stream) (sym changed.1) grows)
    ])

-- no connection changes
pub streams-same : (h later : PrimaryHistory) → later.connections ≡ h.connections → StreamsGrow h later
streams-same h later connections k c at = (c, subst (λ (l : List PrimaryConnection). slice_get l k ≡ Some c) (sym connections) at, begins-self c.stream)

-- what came before a write stays as the journal goes on
before-same : (h later : PrimaryHistory) (a b x y : Accepted) → IsBeginning h.journal later.journal → y.journal_length ≤ length h.journal → a.write ≡ x.write
    → b.journal_length ≡ y.journal_length
    → comes_before later a b ≡ true → comes_before h x y ≡ true
before-same h later a b x y journal within write size before =
    ap (list_any (λ (entry : Completion). entry.write.number == x.write.number)) (take-begins y.journal_length h.journal later.journal within journal)
    ∙ (ap (λ w. list_any (λ (entry : Completion). entry.write.number == w) (take y.journal_length later.journal)) (ap (λ w. w.number) (sym write))
    ∙ (ap (λ n. list_any (λ (entry : Completion). entry.write.number == a.write.number) (take n later.journal)) (sym size) ∙ before))

-- Streams and the journal go on, and no write is added.
pub turns-go-on : (h later : PrimaryHistory) → StreamsGrow h later → WritesStay h.writes later.writes → IsBeginning h.journal later.journal → HasTurns h
    → HasTurns later
turns-go-on h later grow writes journal t = record {
  lengths = λ n b at. let a = writes n b at in let low = t.lengths n a.0 a.1 in let same = a.4 in let long = grows-length in omega arith;
  stood = λ n k place b at home.
      let a = writes n b at in
      let was = t.stood n k place a.0 a.1 (sym a.3 ∙ home) in
      let new = grow k was.0 was.1 in
      (new.0, new.1, longer was.0.stream new.0.stream place new.2 was.2);
  turn = record {
    earlier = λ m n a b ata atb before.
        let x = writes m a ata in
        let y = writes n b atb in
        t.turn.earlier m n x.0 y.0 x.1 y.1 (before-same h later a b x.0 y.0 journal (t.lengths n y.0 y.1) x.2 y.4 before);
    apart = λ m n k place other a b c ata atb before ha hb at.
        let x = writes m a ata in
        let y = writes n b atb in
        let one = t.stood m k place x.0 x.1 (sym x.3 ∙ ha) in
        let two = t.stood n k other y.0 y.1 (sym y.3 ∙ hb) in
        let same : two.0 ≡ one.0 = same-at h.connections k two.0 one.0 two.1 one.1 in
        let inside : other < length one.0.stream = subst (λ (d : PrimaryConnection). other < length d.stream) same two.2 in
        let new = grow k one.0 one.1 in
        let is : new.0 ≡ c = same-at later.connections k new.0 c new.1 at in
        let less = t.turn.apart m n k place other x.0 y.0 one.0 x.1 y.1 (before-same h later a b x.0 y.0 journal (t.lengths n y.0 y.1) x.2 y.4 before) (sym x.3
        ∙ ha) (sym y.3 ∙ hb) one.1 in
        let near = epoch-same one.0.stream new.0.stream place new.2 (let l = one.2 in omega arith) in
        let far = epoch-same one.0.stream new.0.stream other new.2 (omega arith) in
        subst (λ (d : PrimaryConnection). epoch_of d.stream place < epoch_of d.stream other) is (omega arith);
  };
}
  where
    grows-length : length h.journal ≤ length later.journal
    grows-length = let e = ap length journal.1 in let long = length-append h.journal journal.0 in omega arith

    longer : (xs ys : List StreamItem) (place : ℕ) → IsBeginning xs ys → place < length xs → place < length ys
    longer xs ys place b less = let e = ap length b.1 in let long = length-append xs b.0 in omega arith

-- A write is accepted that is in no entry of the journal, and whose home is behind every other's of its stream.
pub turns-added : (h later : PrimaryHistory) (new : Accepted) → StreamsGrow h later → later.writes ≡ h.writes ++ new ∷ [] → later.journal ≡ h.journal
    → new.journal_length ≡ length h.journal
    → ((n : ℕ) (entry : Completion) → slice_get h.journal n ≡ Some entry → entry.write.number ≡ new.write.number → ⊥)
    → ((k place : ℕ) → new.home ≡ Some (record { index = k; place = place }) → (c : PrimaryConnection) × (slice_get later.connections k ≡ Some c)
    × (place < length c.stream))
    → ((n k place other : ℕ) (a : Accepted) (c : PrimaryConnection) → slice_get h.writes n ≡ Some a → is_completed h a.write.number ≡ true
    → a.home ≡ Some (record { index = k; place = place })
    → new.home ≡ Some (record { index = k; place = other }) → slice_get later.connections k ≡ Some c
    → epoch_of c.stream place < epoch_of c.stream other)
    → HasTurns h → HasTurns later
turns-added h later new grow writes journal size unknown is_established apart t = record {
  lengths = λ n b at. elim (there n b at) [
    | inl old ↦ let low = t.lengths n b old in let same = ap length journal in omega arith
    | inr added ↦ let is = ap (λ (x : Accepted). x.journal_length) added.1 in let same = ap length journal in omega arith
  ];
  stood = λ n k place b at home. elim (there n b at) [
    | inl old ↦
        let was = t.stood n k place b old home in
        let more = grow k was.0 was.1 in
        (more.0, more.1, (let e = ap length more.2.1 in let long = length-append was.0.stream more.2.0 in let low = was.2 in omega arith))
    | inr added ↦ is_established k place (ap (λ (x : Accepted). x.home) (sym added.1) ∙ home)
  ];
  turn = record {
    earlier = λ m n a b ata atb before. elim (there m a ata) [
      | inr new_a ↦ absurd (never a b (ap (λ (x : Accepted). x.write.number) new_a.1) before)
      | inl old_a ↦ elim (there n b atb) [
        | inl old_b ↦ t.turn.earlier m n a b old_a old_b (back a b before)
        | inr new_b ↦ let within = slice_get_within h.writes m a old_a in let end = new_b.0 in omega arith
      ]
    ];
    apart = λ m n k place other a b c ata atb before ha hb at. elim (there m a ata) [
      | inr new_a ↦ absurd (never a b (ap (λ (x : Accepted). x.write.number) new_a.1) before)
      | inl old_a ↦ elim (there n b atb) [
        | inr new_b ↦ apart m k place other a c old_a (done a b new_b.1 before) ha (ap (λ (x : Accepted). x.home) (sym new_b.1) ∙ hb) at
        | inl old_b ↦
            let one = t.stood m k place a old_a ha in
            let two = t.stood n k other b old_b hb in
            let same : two.0 ≡ one.0 = same-at h.connections k two.0 one.0 two.1 one.1 in
            let inside : other < length one.0.stream = subst (λ (d : PrimaryConnection). other < length d.stream) same two.2 in
            let grown = grow k one.0 one.1 in
            let is : grown.0 ≡ c = same-at later.connections k grown.0 c grown.1 at in
            let less = t.turn.apart m n k place other a b one.0 old_a old_b (back a b before) ha hb one.1 in
            let near = epoch-same one.0.stream grown.0.stream place grown.2 (let l = one.2 in omega arith) in
            let far = epoch-same one.0.stream grown.0.stream other grown.2 (omega arith) in
            subst (λ (d : PrimaryConnection). epoch_of d.stream place < epoch_of d.stream other) is (omega arith)
      ]
    ];
  };
}
  where
    there : (n : ℕ) (b : Accepted) → slice_get later.writes n ≡ Some b → (slice_get h.writes n ≡ Some b) ⊎ ((n ≡ length h.writes) × (b ≡ new))
    there n b at = get-more h.writes new n b (subst (λ (l : List Accepted). slice_get l n ≡ Some b) writes at)

    back : (a b : Accepted) → comes_before later a b ≡ true → comes_before h a b ≡ true
    back a b before = ap (λ (l : List Completion). list_any (λ (entry : Completion). entry.write.number == a.write.number) (take b.journal_length l))
        (sym journal) ∙ before

    never : (a b : Accepted) → a.write.number ≡ new.write.number → comes_before later a b ≡ true → ⊥
    never a b is before =
        let found = pick-any (λ (entry : Completion). entry.write.number == a.write.number) (take b.journal_length h.journal) (back a b before) in
        unknown found.0 found.1 (get-front b.journal_length h.journal found.0 found.1 found.2).1 (eqb-true found.1.write.number a.write.number found.3 ∙ is)

    done : (a b : Accepted) → b ≡ new → comes_before later a b ≡ true → is_completed h a.write.number ≡ true
    done a b is before =
        let all : take b.journal_length h.journal ≡ h.journal = ap (λ n. take n h.journal) (ap (λ (x : Accepted). x.journal_length) is ∙ size)
        ∙ (ap (λ l. take (length h.journal) l) (sym (append-nil h.journal)) ∙ take-append_seam h.journal []) in
        ap (list_any (λ (entry : Completion). entry.write.number == a.write.number)) (sym all) ∙ back a b before

-- The journal, streams and writes stay, but for a change of the last connection.
turns-change : (h later : PrimaryHistory) (f : PrimaryConnection → PrimaryConnection) → later.connections ≡ change_last f h.connections
    → IsBeginning (primary_connection h).stream (f (primary_connection h)).stream → later.writes ≡ h.writes → later.journal ≡ h.journal → HasTurns h
    → HasTurns later
turns-change h later f connections grows writes journal t =
    turns-go-on h later (streams-change h later f connections grows) (subst (λ (l : List Accepted). WritesStay h.writes l) (sym writes) (stay-same h.writes))
    (subst (λ (l : List Completion). IsBeginning h.journal l) (sym journal) (begins-self h.journal)) t

turns-same : (h later : PrimaryHistory) → later.connections ≡ h.connections → WritesStay h.writes later.writes → later.journal ≡ h.journal → HasTurns h
    → HasTurns later
turns-same h later connections writes journal t = turns-go-on h later (streams-same h later connections) writes
    (subst (λ (l : List Completion). IsBeginning h.journal l) (sym journal) (begins-self h.journal)) t

turns-completions : (h : PrimaryHistory) → HasTurns h → HasTurns (with_completions h)
turns-completions h t = turns-go-on h (with_completions h) (streams-same h (with_completions h) refl) (stay-same h.writes)
    (map (completion_of h) (newly_completed h), refl) t

turns-submits : (settings : Settings) (h : PrimaryHistory) (first : ℕ) (contents : List (List ℕ)) → Ordered settings h → HasTurns h
    → HasTurns (submitted h first contents)
turns-submits settings h first contents p t = go (is_established (primary_connection h)) refl
  where
    unknown : (n : ℕ) (entry : Completion) → slice_get h.journal n ≡ Some entry → entry.write.number ≡ suc (length h.writes) → ⊥
    unknown n entry at is = let low = p.0.numbers.0 n entry at in omega arith

    closed-epoch : (standing : is_established (primary_connection h) ≡ true) (n place : ℕ) (a : Accepted) → slice_get h.writes n ≡ Some a
        → is_completed h a.write.number ≡ true
        → a.home ≡ Some (record { index = last_index h.connections; place = place })
        → epoch_of ((primary_connection h).stream ++ WriteItem (submission h first contents) ∷ []) place < epoch_of
        ((primary_connection h).stream ++ WriteItem (submission h first contents) ∷ []) (length (primary_connection h).stream)
    closed-epoch standing n place a at done home =
        let c : PrimaryConnection = primary_connection h in
        let homes = p.1.1.0.0 in
        let last = open-at h (established-parts c standing).0 in
        let was = homes.housed n (last_index h.connections) place a at home in
        let there : slice_get c.stream place ≡ Some (WriteItem a.write) = subst (λ (x : PrimaryConnection). slice_get x.stream place ≡ Some (WriteItem a.write))
        (same-at h.connections (last_index h.connections) was.0 c was.1 last) was.2 in
        let within = slice_get_within c.stream place (WriteItem a.write) there in
        let near = epoch-grows c.stream (WriteItem (submission h first contents) ∷ []) place (omega arith) in
        let far = epoch-end c.stream (WriteItem (submission h first contents) ∷ []) in
        let bound = epoch-bound c.stream place in
        elim (cases_lt (epoch_of c.stream place) (last_epoch c.stream)) [
          | inl less ↦ omega arith
          | inr not_less ↦ absurd (
              let same : epoch_of c.stream place ≡ last_epoch c.stream = omega arith in
              let open_one = write-open h c (last_index h.connections) place a.write homes last (goes-on h standing p.1.1.0.1.on) same there in
              let picked = pick-filtered (is_open h) h.writes open_one.0 open_one.1 open_one.2 in
              let not_done = not-true (is_completed h open_one.1.write.number) (and_parts (not (is_completed h open_one.1.write.number)) _ picked.2).0 in
              both_ways (is_completed h a.write.number) (subst (λ (w : _). is_completed h w.number ≡ false) open_one.3 not_done) done)
        ]

    go : (b : Bool) → is_established (primary_connection h) ≡ b → HasTurns (submitted_with b h first contents)
    go true is =
        let item : StreamItem = WriteItem (submission h first contents) in
        let f : PrimaryConnection → PrimaryConnection = λ c. record c { stream = c.stream ++ item ∷ [] } in
        let last = open-at h (established-parts (primary_connection h) is).0 in
        let new_last = get-last-changed f (no_primary_connection h.tuple) h.connections (primary_connection h) last refl in
        let new : Accepted = record {
          write = submission h first contents;
          journal_length = length h.journal;
          home = Some (record { index = last_index h.connections; place = length (primary_connection h).stream });
          outcome = Waiting;
        } in
        let later : PrimaryHistory = appending item (record h { writes = h.writes ++ new ∷ [] }) in
        turns-added h later new (streams-change h later f refl (item ∷ [], refl)) refl refl refl unknown
        (λ k place home.
        let here : StreamPosition = record { index = last_index h.connections; place = length (primary_connection h).stream } in
        let there : StreamPosition = record { index = k; place = place } in
        let same : here ≡ there = let e : Some here ≡ Some there = home in cc in
        let index : last_index h.connections ≡ k = ap (λ (x : StreamPosition). x.index) same in
        let end : length (primary_connection h).stream ≡ place = ap (λ (x : StreamPosition). x.place) same in (
          f (primary_connection h),
          subst (λ (n : ℕ). slice_get (change_last f h.connections) n ≡ Some (f (primary_connection h))) index new_last,
          (let long = length-append (primary_connection h).stream (item ∷ []) in omega arith),
        ))
        (λ n k place other a c at done ha hb there.
        let here : StreamPosition = record { index = last_index h.connections; place = length (primary_connection h).stream } in
        let that : StreamPosition = record { index = k; place = other } in
        let same : here ≡ that = let e : Some here ≡ Some that = hb in cc in
        let index : last_index h.connections ≡ k = ap (λ (x : StreamPosition). x.index) same in
        let end : length (primary_connection h).stream ≡ other = ap (λ (x : StreamPosition). x.place) same in
        let home : a.home ≡ Some (record { index = last_index h.connections; place = place }) =
        subst (λ (m : ℕ). a.home ≡ Some (record { index = m; place = place })) (sym index) ha in
        let ended : f (primary_connection h) ≡ c = same-at (change_last f h.connections) (last_index h.connections) (f (primary_connection h)) c new_last
        (subst (λ (m : ℕ). slice_get (change_last f h.connections) m ≡ Some c) (sym index) there) in
        subst (λ (x : PrimaryConnection). epoch_of x.stream place < epoch_of x.stream other) ended
        (subst (λ (m : ℕ). epoch_of (f (primary_connection h)).stream place < epoch_of (f (primary_connection h)).stream m) end
        (closed-epoch is n place a at done home)))
        t
    go false is =
        let new : Accepted = record { write = submission h first contents; journal_length = length h.journal; home = None; outcome = Waiting } in
        let later : PrimaryHistory = record h { writes = h.writes ++ new ∷ []; marks = marking (submission h first contents) h.marks } in
        turns-added h later new (streams-same h later refl) refl refl refl unknown (λ k place home. absurd (cc))
        (λ n k place other a c at done ha hb there. absurd (cc)) t

turns-faults : (h : PrimaryHistory) (number : ℕ) (offsets : List ℕ) → HasTurns h → HasTurns (faulted number offsets h)
turns-faults h number offsets t = go (accepted_at h number)
  where
    go : (v : Option Accepted) → HasTurns
        (faulted_by v number offsets h)
    go None = t
    go (Some accepted) = turns-same h _ refl (stay-outcome number _ h.writes) refl t

turns-begins : (h : PrimaryHistory) (peer : Tuple) (decided : Decision) → HasHomes h → (primary_connection h).closed ≡ false
    → (primary_connection h).begun ≡ false → HasTurns h
    → HasTurns (begun_with decided (record (with_primary_connection (with_frame (Ok (UuidsFrame peer))) h) { peer = Some peer }))
turns-begins h peer decided homes standing new t = go decided
  where
    empty : (primary_connection h).stream ≡ []
    empty = homes.empty (length h.connections - 1) (primary_connection h) (open-at h standing) new

    twice : (later : PrimaryHistory) (g : PrimaryConnection → PrimaryConnection)
        → later.connections ≡ change_last g (change_last (with_frame (Ok (UuidsFrame peer))) h.connections)
        → later.writes ≡ h.writes → later.journal ≡ h.journal → HasTurns later
    twice later g connections writes journal =
        turns-change h later (λ c. g (with_frame (Ok (UuidsFrame peer)) c)) (connections ∙ change-twice (with_frame (Ok (UuidsFrame peer))) g h.connections)
        (subst (λ (l : List StreamItem). IsBeginning l (g (with_frame (Ok (UuidsFrame peer)) (primary_connection h))).stream) (sym empty)
        ((g (with_frame (Ok (UuidsFrame peer)) (primary_connection h))).stream, refl)) writes journal t

    go : (v : Decision) → HasTurns (begun_with v (record (with_primary_connection (with_frame (Ok (UuidsFrame peer))) h) { peer = Some peer }))
    go NoSync = twice _ (λ c. record c { begun = true }) refl refl refl
    go BitmapSync = twice _ (λ c. record c {
      begun = true;
      stream = SyncUuidItem (primary_connection (with_primary_connection (with_frame (Ok (UuidsFrame peer))) h)).sync ∷ [];
    })
        refl refl refl
    go FullSync = twice _ (λ c. record c {
      begun = true;
      stream = SyncUuidItem (primary_connection (with_primary_connection (with_frame (Ok (UuidsFrame peer))) h)).sync ∷ [];
    }) refl
        refl refl

turns-following : (h : PrimaryHistory) → HasTurns h → HasTurns (follows h).history
turns-following = following-from HasTurns HasTurns HasTurns turns-completions
    (λ g over t. turns-change g _ (λ c. record c { stream = c.stream ++ BarrierItem (last_epoch (primary_connection g).stream) ∷ [] }) refl
    (BarrierItem (last_epoch (primary_connection g).stream) ∷ [], refl) refl refl t) (λ g on t. t)
    (λ g over t. turns-change g (ending_resync g) (λ c. record c { stream = c.stream ++ UuidsItem (sync_end g.tuple) ∷ [] }) refl
    (UuidsItem (sync_end g.tuple) ∷ [], refl) refl refl t) (λ g t. t)

-- Every move keeps it, beside the order.
pub turns-kept : (settings : Settings) → TakesWrites settings → IsKeptByMoves (λ h. Ordered settings h × HasTurns h) (λ h. OrderedAfter settings h × HasTurns h)
turns-kept settings bound =
    let order = in-order-kept settings bound in
    let takes : (h : PrimaryHistory) (frame : Received) → HasTurns h
    → HasTurns (with_primary_connection (with_frame frame) h) = λ h frame t. turns-change h _ (with_frame frame) refl
    (begins-self (primary_connection h).stream) refl refl t in
    record {
      following = λ h p. (order.following h p.0, turns-following h p.1);
      opens = λ h sync loss closed fresh p. (
        order.opens h sync loss closed fresh p.0,
        turns-go-on h _ (λ k c at. (c, get-left h.connections _ k c at, begins-self c.stream)) (stay-same h.writes) (begins-self h.journal) p.1,
      );
      submits = λ h first contents may p. (order.submits h first contents may p.0, turns-submits settings h first contents p.0 p.1);
      writes = λ h number waiting p. (order.writes h number waiting p.0, turns-same h _ refl (stay-outcome number OnDisk h.writes) refl p.1);
      faults = λ h number offsets waiting p. (order.faults h number offsets waiting p.0, turns-faults h number offsets p.1);
      sends = λ h standing due p. (order.sends h standing due p.0, turns-change h _ pushing refl (begins-self (primary_connection h).stream) refl refl p.1);
      greets = λ h frame standing new met p. (order.greets h frame standing new met p.0, takes h frame p.1);
      begins = λ h peer decided standing new late is fresh p. (
        order.begins h peer decided standing new late is fresh p.0,
        turns-begins h peer decided p.0.1.1.0.0 standing new p.1,
      );
      receives = λ h ack standing begun may p. (order.receives h ack standing begun may p.0, takes h _ p.1);
      applies = λ h ack standing begun may p. (order.applies h ack standing begun may p.0, takes h _ p.1);
      clears = λ h ack standing begun may p. (
        order.clears h ack standing begun may p.0,
        turns-change h _ (with_frame (Ok (RsWriteAckFrame ack))) refl (begins-self (primary_connection h).stream) refl refl p.1,
      );
      confirms = λ h number size standing begun turn p. (order.confirms h number size standing begun turn p.0, takes h _ p.1);
      refuses = λ h frame peer standing p. (
        order.refuses h frame peer standing p.0,
        turns-change h _ (refused_out frame)
            (refused-last frame peer h) (begins-self (primary_connection h).stream) refl refl
            p.1,
      );
      resyncs = λ h block read may runs alone is p. (
        order.resyncs h block read may runs alone is p.0,
        turns-change h _ (λ c. record c { stream = c.stream ++ ResyncItem block (given read h block) ∷ [] }) refl
            (ResyncItem block (given read h block) ∷ [], refl) refl refl p.1,
      );
      closes = λ h standing p. (
        order.closes h standing p.0,
        turns-change h (closing h) (λ c. record c { closed = true }) refl (begins-self (primary_connection h).stream) refl refl p.1,
      );
      receipts = λ h number p. (order.receipts h number p.0, turns-same h _ refl (stay-same h.writes) refl p.1);
    }

-- no release matters to it
pub turns-released : (settings : Settings) → IsKeptByReleases (λ h. Ordered settings h × HasTurns h) (λ h. OrderedAfter settings h × HasTurns h)
turns-released settings =
    let order = ordered-released settings in
    record {
      writes = λ h number waiting p q. (order.writes h number waiting p.0 q.0, turns-same (with_outcome number OnDisk h) _ refl (stay-same _) refl q.1);
      confirms = λ h number size standing begun turn p q. (
        order.confirms h number size standing begun turn p.0 q.0,
        turns-same (with_primary_connection (with_frame (Ok (BarrierAckFrame number size))) h) _ refl (stay-same _) refl q.1,
      );
    }

-- In every run of a primary what was completed when a write was accepted comes in turn before it.
pub turns-run : (settings : Settings) (disk : BlockMap) (tuple : Tuple) (marks : ℕ → Bool) (events : List PrimaryEvent) → IsInRange settings
    → ((block : ℕ) → block < settings.blocks → is_some (disk block) ≡ true)
    → HasTurns (primary_run events (primary_opening settings disk tuple marks))
turns-run settings disk tuple marks events range sized =
    (keeps-run (λ h. Ordered settings h × HasTurns h) (λ h. OrderedAfter settings h × HasTurns h) (turns-kept settings (takes-writes settings range))
    (turns-released settings) events (primary_opening settings disk tuple marks) (
      ordered-opening settings disk tuple marks sized,
      record {
        lengths = λ n a at. absurd (cc);
        stood = λ n k place a at. absurd (cc);
        turn = record { earlier = λ m n a b ata. absurd (cc); apart = λ m n k place other a b c ata. absurd (cc) };
      },
    )).1
