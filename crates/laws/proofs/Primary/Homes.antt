-- Where the accepted writes stand, and what the journal of completions says: kept by every step of a primary.
use Rattle.std.proofs.Common.{ℕ, suc, ◌≡◌, ◌-◌, ◌≤◌, ◌⊎◌, inl, inr, Bool, true, false, List, [], ◌++◌, length, Some, slice_get, refl, sym, ◌∙◌, ap, subst}
use Rattle.std.proofs.Common.{arith, Option, None, ◌==◌}
use Rattle.std.proofs.lemmas.Bool.{both_ways}
use Rattle.blocks.specs.declared.settings.Protocol.{Protocol}
use Rattle.model.specs.Contents.{Write}
use Rattle.model.specs.Stream.{StreamItem, WriteItem, IsBeginning, epoch_of}
use Rattle.model.specs.Primary.{Accepted, Linked, Completion, PrimaryConnection, PrimaryHistory, no_primary_connection, last_of, primary_connection}
use Rattle.model.specs.Primary.{change_last, accepted_frames}
use Rattle.model.specs.Primary.{is_answered_by, is_alone, is_confirmed, barrier_acknowledged, LocalOutcome}
use Rattle.laws.proofs.Lists.Beginnings.{begins-self}
use Rattle.laws.proofs.Lists.Last.{get-change, get-change-back, last-at}
use Rattle.laws.proofs.Lists.Elements.{get-left, get-split}
use Rattle.std.specs.Prelude.{if◌then◌else◌}
use Rattle.blocks.specs.Positions.{StreamPosition}
use Rattle.model.specs.PrimarySteps.{set_outcome}
use Rattle.laws.proofs.Rules.Answered.{answered-more}

-- A later state of a connection: its stream, what was pushed and what was accepted have only grown.
pub record Grows (c d : PrimaryConnection) : Type 0 where
  pub stream : IsBeginning c.stream d.stream
  pub pushed : c.pushed ≤ d.pushed
  pub frames : IsBeginning (accepted_frames c) (accepted_frames d)

-- a connection that stays as it is has grown
pub grows-self : (c : PrimaryConnection) → Grows c c
grows-self c = record { stream = begins-self c.stream; pushed = omega arith; frames = begins-self (accepted_frames c) }

-- each connection has only grown
abbrev pub AllGrow : List PrimaryConnection → List PrimaryConnection → Type 0
AllGrow cs ds = (k : ℕ) (c : PrimaryConnection) → slice_get cs k ≡ Some c → (d : PrimaryConnection) × (slice_get ds k ≡ Some d) × Grows c d

-- what was answered stays so
pub answered-grows : (asked : Protocol) (c d : PrimaryConnection) (place : ℕ) (item : StreamItem) → Grows c d → is_answered_by asked c place item ≡ true
    → is_answered_by asked d place item ≡ true
answered-grows asked c d place item g h = answered-more asked c d place item g.pushed g.frames h

-- an entry that was completed over the link: its write stands at its home, and is answered there
pub record IsLinked (asked : Protocol) (connections : List PrimaryConnection) (entry : Completion) : Type 0 where
  pub connection : ℕ
  pub place : ℕ
  pub end : PrimaryConnection
  pub home : entry.home ≡ Some (record { index = connection; place = place })
  pub there : slice_get connections connection ≡ Some end
  pub item : slice_get end.stream place ≡ Some (WriteItem entry.write)
  pub answered : is_answered_by asked end place (WriteItem entry.write) ≡ true

-- a linked entry stays linked where connections grow
pub linked-grows : (asked : Protocol) (cs ds : List PrimaryConnection) (entry : Completion) → AllGrow cs ds → IsLinked asked cs entry → IsLinked asked ds entry
linked-grows asked cs ds entry grow l =
    let more = grow l.connection l.end l.there in
    record {
      connection = l.connection;
      place = l.place;
      end = more.0;
      home = l.home;
      there = more.1;
      item = subst (λ (s : List StreamItem). slice_get s l.place ≡ Some (WriteItem entry.write)) more.2.stream.1
          (get-left l.end.stream more.2.stream.0 l.place (WriteItem entry.write) l.item);
      answered = answered-grows asked l.end more.0 l.place (WriteItem entry.write) more.2 l.answered;
    }

-- Numbers rise from 1; a write's home is where it stands, and what stands in a stream is an accepted write at home; a
-- stream that has not begun is empty; an end that refused a frame is closed; the journal's linked entries are answered.
pub record HasHomes (h : PrimaryHistory) : Type 0 where
  pub numbered : (i : ℕ) (accepted : Accepted) → slice_get h.writes i ≡ Some accepted → accepted.write.number ≡ suc i
  pub housed : (i k place : ℕ) (accepted : Accepted) → slice_get h.writes i ≡ Some accepted → accepted.home ≡ Some (record { index = k; place = place })
      → (c : PrimaryConnection) × (slice_get h.connections k ≡ Some c) × (slice_get c.stream place ≡ Some (WriteItem accepted.write))
  pub homed : (k place : ℕ) (c : PrimaryConnection) (write : Write) → slice_get h.connections k ≡ Some c → slice_get c.stream place ≡ Some (WriteItem write)
      → (i : ℕ) × (accepted : Accepted) × (slice_get h.writes i ≡ Some accepted) × (accepted.write ≡ write)
      × (accepted.home ≡ Some (record { index = k; place = place }))
  pub empty : (k : ℕ) (c : PrimaryConnection) → slice_get h.connections k ≡ Some c → c.begun ≡ false → c.stream ≡ []
  pub refused : (k : ℕ) (c : PrimaryConnection) → slice_get h.connections k ≡ Some c → c.refused ≡ true → c.closed ≡ true
  pub journal : (n : ℕ) (entry : Completion) → slice_get h.journal n ≡ Some entry → entry.kind ≡ Linked → IsLinked h.settings.protocol h.connections entry

-- the last connection of an open end is there
pub open-at : (h : PrimaryHistory) → (primary_connection h).closed ≡ false → slice_get h.connections (length h.connections - 1) ≡ Some (primary_connection h)
open-at h standing = elim (last-at (no_primary_connection h.tuple) h.connections) [
  | inl none ↦ absurd (both_ways (primary_connection h).closed standing
      (ap (λ (l : List PrimaryConnection). (last_of (no_primary_connection h.tuple) l).closed) none))
  | inr at ↦ at
]

-- Accepted writes that are the same but for what the local disk did.
abbrev pub SameWrites : List Accepted → List Accepted → Type 0
SameWrites ws vs =
    ((i : ℕ) (a : Accepted) → slice_get ws i ≡ Some a → (b : Accepted) × (slice_get vs i ≡ Some b) × (b.write ≡ a.write) × (b.home ≡ a.home))
    × ((i : ℕ) (b : Accepted) → slice_get vs i ≡ Some b → (a : Accepted) × (slice_get ws i ≡ Some a) × (b.write ≡ a.write) × (b.home ≡ a.home))

-- writes that stay are the same
pub same-writes : (ws : List Accepted) → SameWrites ws ws
same-writes ws = (λ i a at. (a, at, refl, refl), λ i a at. (a, at, refl, refl))

-- What a change of a connection has to keep: it grows, no write is added to its stream, an empty stream stays so until it
-- begins, and it is closed once it refused a frame.
pub record KeepsConnection (c d : PrimaryConnection) : Type 0 where
  pub more : List StreamItem
  pub stream : d.stream ≡ c.stream ++ more
  pub no_write : (n : ℕ) (write : Write) → slice_get more n ≡ Some (WriteItem write) → ⊥
  pub pushed : c.pushed ≤ d.pushed
  pub frames : IsBeginning (accepted_frames c) (accepted_frames d)
  pub empty : d.begun ≡ false → d.stream ≡ []
  pub refused : d.refused ≡ true → d.closed ≡ true

keeps-grows : (c d : PrimaryConnection) → KeepsConnection c d → Grows c d
keeps-grows c d k = record { stream = (k.more, sym k.stream); pushed = k.pushed; frames = k.frames }

-- A move that changes the last connection so, and no write but for its outcome.
pub homes-change : (h later : PrimaryHistory) (f : PrimaryConnection → PrimaryConnection) → HasHomes h → later.settings ≡ h.settings
    → later.connections ≡ change_last f h.connections → SameWrites h.writes later.writes
    → later.journal ≡ h.journal → ((k : ℕ) → slice_get h.connections k ≡ Some (primary_connection h)
    → KeepsConnection (primary_connection h) (f (primary_connection h))) → HasHomes later
homes-change h later f homes settings connections writes journal keeps =
    let none : PrimaryConnection = no_primary_connection h.tuple in
    let grow : AllGrow h.connections later.connections = subst (AllGrow h.connections) (sym connections)
    (λ k c at. elim (get-change f none h.connections k c at) [
      | inl same ↦ (c, same, grows-self c)
      | inr changed ↦ (
        f c,
        changed.0,
        subst (λ (x : PrimaryConnection). Grows x (f x)) (sym changed.1)
            (keeps-grows (primary_connection h) (f (primary_connection h)) (keeps k (at ∙ ap (λ (x : PrimaryConnection). Some x) changed.1))),
      )
    ]) in
    let back : (k : ℕ) (d : PrimaryConnection) → slice_get later.connections k ≡ Some d
    → (slice_get h.connections k ≡ Some d) ⊎ ((d ≡ f (primary_connection h)) × (slice_get h.connections k ≡ Some (primary_connection h)))
    = λ k d at. elim (get-change-back f none h.connections k d (rw (← connections) at)) [ inl same ↦ inl same | inr changed ↦ inr (changed.0, changed.1) ] in
    record {
      numbered = λ i b at. let a = writes.1 i b at in ap (λ (w : Write). w.number) a.2 ∙ homes.numbered i a.0 a.1;
      housed = λ i k place b at home.
          let a = writes.1 i b at in
          let old = homes.housed i k place a.0 a.1 (sym a.3 ∙ home) in
          let new = grow k old.0 old.1 in (
            new.0,
            new.1,
            subst (λ (w : Write). slice_get new.0.stream place ≡ Some (WriteItem w)) (sym a.2)
                (subst (λ (s : List StreamItem). slice_get s place ≡ Some (WriteItem a.0.write)) new.2.stream.1
                (get-left old.0.stream new.2.stream.0 place (WriteItem a.0.write) old.2)),
          );
      homed = λ k place d write at item.
          let find : (c : PrimaryConnection) → slice_get h.connections k ≡ Some c → slice_get c.stream place ≡ Some (WriteItem write)
          → (i : ℕ) × (accepted : Accepted) × (slice_get later.writes i ≡ Some accepted) × (accepted.write ≡ write)
          × (accepted.home ≡ Some (record { index = k; place = place }))
          = λ c there was. let a = homes.homed k place c write there was in let b = writes.0 a.0 a.1 a.2 in (a.0, b.0, b.1, b.2 ∙ a.3, b.3 ∙ a.4) in
          elim (back k d at) [
            | inl same ↦ find d same item
            | inr changed ↦
                let kept = keeps k changed.1 in
                let item' : slice_get ((primary_connection h).stream ++ kept.more) place ≡ Some (WriteItem write) = rw (← kept.stream, ← changed.0) item in
                elim (get-split (primary_connection h).stream kept.more place (WriteItem write) item') [
                  | inl old ↦ find (primary_connection h) changed.1 old
                  | inr new ↦ absurd (kept.no_write new.0 write new.2)
                ]
          ];
      empty = λ k d at new. elim (back k d at) [
        | inl same ↦ homes.empty k d same new
        | inr changed ↦ rw changed.0 ((keeps k changed.1).empty (rw (← changed.0) new))
      ];
      refused = λ k d at was. elim (back k d at) [
        | inl same ↦ homes.refused k d same was
        | inr changed ↦ rw changed.0 ((keeps k changed.1).refused (rw (← changed.0) was))
      ];
      journal = λ n entry at linked. rw settings
          (linked-grows h.settings.protocol h.connections later.connections entry grow (homes.journal n entry (rw (← journal) at) linked));
    }

-- a write with a home: whether it is alone, or confirmed, is seen on its connection
pub alone-at : (h : PrimaryHistory) (a : Accepted) (home : StreamPosition) (c : PrimaryConnection) → a.home ≡ Some home
    → slice_get h.connections home.index ≡ Some c
    → is_alone h a ≡ c.closed
alone-at h a home c is at =
    ap (λ (v : Option StreamPosition). elim v as
    (λ _. Bool) [ None ↦ true | Some home ↦ elim (slice_get h.connections home.index) as (λ _. Bool) [ None ↦ true | Some c ↦ c.closed ] ]) is
    ∙ ap (λ (v : Option PrimaryConnection). elim v as (λ _. Bool) [ None ↦ true | Some c ↦ c.closed ]) at

-- and whether it is confirmed
pub confirmed-at : (h : PrimaryHistory) (a : Accepted) (home : StreamPosition) (c : PrimaryConnection) → a.home ≡ Some home
    → slice_get h.connections home.index ≡ Some c
    → is_confirmed h a ≡ barrier_acknowledged c (epoch_of c.stream home.place)
confirmed-at h a home c is at =
    ap (λ (v : Option StreamPosition). elim v as
    (λ _. Bool) [
      | None ↦ false
      | Some home ↦ elim (slice_get h.connections home.index) as
          (λ _. Bool) [ None ↦ false | Some c ↦ barrier_acknowledged c (epoch_of c.stream home.place) ]
    ]) is
    ∙ ap (λ (v : Option PrimaryConnection). elim v as (λ _. Bool) [ None ↦ false | Some c ↦ barrier_acknowledged c (epoch_of c.stream home.place) ]) at

-- a write without a home is alone
pub alone-homeless : (h : PrimaryHistory) (a : Accepted) → a.home ≡ None → is_alone h a ≡ true
alone-homeless h a is = ap (λ (v : Option StreamPosition). elim v as
    (λ _. Bool) [ None ↦ true | Some home ↦ elim (slice_get h.connections home.index) as (λ _. Bool) [ None ↦ true | Some c ↦ c.closed ] ]) is

-- the outcome of a write changes neither the write nor its home
pub outcome-write : (number : ℕ) (outcome : LocalOutcome) (a : Accepted) → (set_outcome number outcome a).write ≡ a.write
outcome-write number outcome a = elim (a.write.number == number) as (λ b. (if b then record a { outcome = outcome } else a).write ≡ a.write)
    [ true ↦ refl | false ↦ refl ]

-- nor its home
pub outcome-home : (number : ℕ) (outcome : LocalOutcome) (a : Accepted) → (set_outcome number outcome a).home ≡ a.home
outcome-home number outcome a = elim (a.write.number == number) as (λ b. (if b then record a { outcome = outcome } else a).home ≡ a.home)
    [ true ↦ refl | false ↦ refl ]
