-- The moves that neither accept a write nor begin, clear or close anything keep the account of unmarked blocks.
use Rattle.std.proofs.Common.{ℕ, ◌≡◌, ◌-◌, ◌+◌, ◌<◌, ◌⊎◌, inl, inr, Bool, true, false, List, [], ◌∷◌, ◌++◌, length, Some, None, slice_get, refl, sym, ◌∙◌, ap}
use Rattle.std.proofs.Common.{subst, arith, nat_lt, nat_le}
use Rattle.std.specs.Prelude.{if◌then◌else◌}
use Rattle.std.proofs.lemmas.Bool.{cases_Bool, both_ways, and_parts, ltb-true}
use Rattle.blocks.specs.declared.settings.Settings.{Settings}
use Rattle.blocks.specs.declared.outcome.Decision.{Decision}
use Rattle.blocks.specs.declared.outcome.Decision.TheVariants.{FullSync}
use Rattle.model.specs.Contents.{covers}
use Rattle.model.specs.Stream.{StreamItem, IsBeginning}
use Rattle.model.specs.Frames.{Received}
use Rattle.model.specs.Primary.{Accepted, PrimaryConnection, PrimaryHistory, no_primary_connection, last_of, last_index, primary_connection, change_last}
use Rattle.model.specs.Primary.{accepted_frames, is_waiting}
use Rattle.laws.specs.Reflections.{touches, NoneBegan, FirstBegan}
use Rattle.laws.proofs.Lists.Beginnings.{begins-self}
use Rattle.laws.proofs.Lists.Last.{get-change, get-change-back, change-none, last-at}
use Rattle.laws.proofs.Primary.Moves.{with_frame, pushing}
use Rattle.laws.proofs.Primary.Homes.{HasHomes, Grows, grows-self, AllGrow, open-at}
use Rattle.laws.proofs.Blocks.Latest.{latest}
use Rattle.laws.proofs.Blocks.LatestMoves.{latest-same-last, latest-appended}
use Rattle.laws.proofs.Blocks.LatestPlaces.{latest-at}
use Rattle.laws.proofs.Tracked.Kept.{IsKnown}
use Rattle.laws.proofs.Accounted.{IsAccounted, Carries, KeepsBegun}
use Rattle.laws.proofs.Accounted.Moves.{ComeFrom, settled-carries, waiting-carries, none-carries, first-carries}
use Rattle.laws.proofs.Primary.Ends.{not-refused, frames-taking}
use Rattle.laws.proofs.Primary.Writes.{KeepsWrites, keeps-writes}
use Rattle.std.proofs.Common.{IsTrue}

-- What a move has to keep of the connection that it changes.
pub record KeepsEnd (c d : PrimaryConnection) : Type 0 where
  pub grows : Grows c d
  pub closed : d.closed ≡ true → c.closed ≡ true
  pub taken : IsBeginning c.taken d.taken

-- each write is still there, and does not wait again
abbrev pub StayThere : List Accepted → List Accepted → Type 0
StayThere ws vs = (i : ℕ) (a : Accepted) → slice_get ws i ≡ Some a
    → (b : Accepted) × (slice_get vs i ≡ Some b) × (b.write ≡ a.write) × (b.home ≡ a.home) × (is_waiting a.outcome ≡ false → is_waiting b.outcome ≡ false)

-- a change of the last connection
pub grows-change : (h later : PrimaryHistory) (f : PrimaryConnection → PrimaryConnection) → later.connections ≡ change_last f h.connections
    → Grows (primary_connection h) (f (primary_connection h))
    → AllGrow h.connections later.connections
grows-change h later f connections grows = subst (AllGrow h.connections) (sym connections)
    (λ k c at. elim (get-change f (no_primary_connection h.tuple) h.connections k c at) [
      | inl same ↦ (c, same, grows-self c)
      | inr changed ↦ (f c, changed.0, subst (λ (x : PrimaryConnection). Grows x (f x)) (sym changed.1) grows)
    ])

-- a change of the last connection that keeps its end carries what accounts for a block
pub carries-change : (h later : PrimaryHistory) (f : PrimaryConnection → PrimaryConnection) → later.connections ≡ change_last f h.connections
    → StayThere h.writes later.writes
    → KeepsEnd (primary_connection h) (f (primary_connection h)) → (IsTrue later.faithful → IsTrue h.faithful) → Carries h later
carries-change h later f connections writes keeps falls = record {
  grow = grows-change h later f connections keeps.grows;
  former = λ k d at. elim (get-change-back f (no_primary_connection h.tuple) h.connections k d
      (subst (λ (l : List PrimaryConnection). slice_get l k ≡ Some d) connections at)) [
        | inl same ↦ inl (d, same, λ c. c, begins-self d.taken)
        | inr changed ↦ inl (
          primary_connection h,
          changed.1,
          λ closed. keeps.closed (subst (λ (x : PrimaryConnection). x.closed ≡ true) changed.0 closed),
          subst (λ (x : PrimaryConnection). IsBeginning (primary_connection h).taken x.taken) (sym changed.0) keeps.taken,
        )
      ];
  writes = writes;
  faithful = falls;
}

-- a change of the last connection that begins nothing
pub begun-change : (h later : PrimaryHistory) (f : PrimaryConnection → PrimaryConnection) → later.connections ≡ change_last f h.connections
    → (f (primary_connection h)).begun ≡ (primary_connection h).begun
    → IsBeginning (primary_connection h).taken (f (primary_connection h)).taken → KeepsBegun h later
begun-change h later f connections begun taken =
    let none : PrimaryConnection = no_primary_connection h.tuple in
    record {
      forward = λ k c at was. subst (λ (l : List PrimaryConnection). (d : PrimaryConnection) × (slice_get l k ≡ Some d) × (d.begun ≡ true)
          × IsBeginning c.taken d.taken)
          (sym connections) (elim (get-change f none h.connections k c at) [
            | inl same ↦ (c, same, was, begins-self c.taken)
            | inr changed ↦ (
              f c,
              changed.0,
              subst (λ (x : PrimaryConnection). (f x).begun ≡ x.begun) (sym changed.1) begun ∙ was,
              subst (λ (x : PrimaryConnection). IsBeginning x.taken (f x).taken) (sym changed.1) taken,
            )
          ]);
      back = λ k d at. elim (get-change-back f none h.connections k d (subst (λ (l : List PrimaryConnection). slice_get l k ≡ Some d) connections at)) [
        | inl same ↦ inl (d, same, refl)
        | inr changed ↦ inl (primary_connection h, changed.1, subst (λ (x : PrimaryConnection). x.begun ≡ (primary_connection h).begun) (sym changed.0) begun)
      ];
    }

-- What is said of the streams that began.
abbrev pub Began : PrimaryHistory → Type 0
Began h = NoneBegan h ⊎ ((decided : Decision) × FirstBegan h decided × (decided ≡ FullSync → (block : ℕ) → block < h.settings.blocks → h.marks block ≡ false
    → latest h.connections block ≡ None → ⊥))

-- a block that a write has lies in the device
pub covered-inside : (h : PrimaryHistory) → IsKnown h → (i block : ℕ) (b : Accepted) → slice_get h.writes i ≡ Some b → covers b.write block ≡ true
    → block < h.settings.blocks
covered-inside h known i block b at covered =
    let parts = and_parts (nat_le b.write.first block) (nat_lt block (b.write.first + length b.write.contents)) covered in
    let before : block < b.write.first + length b.write.contents = ltb-true block (b.write.first + length b.write.contents) parts.1 in
    let within = known.tracked.writes_inside i b at in
    omega arith

-- Nothing closes, no mark of the device goes, and no block gets another last item: all is accounted for as before.
pub accounted-from : (h later : PrimaryHistory) → IsAccounted h → IsKnown later → Carries h later → ComeFrom h later → later.settings ≡ h.settings
    → later.opening_marks ≡ h.opening_marks → Began later
    → ((block : ℕ) → block < later.settings.blocks → later.marks block ≡ false → h.marks block ≡ false)
    → ((block : ℕ) → later.marks block ≡ false → latest later.connections block ≡ latest h.connections block) → IsAccounted later
accounted-from h later accounted known carries come settings opening_marks began marks last = record {
  known = known;
  waiting = λ i block b at alone waits covered.
      let before = waiting-carries h later accounted carries come i block b at alone waits covered in
      elim (cases_Bool (later.marks block)) [
        | inl marked ↦ marked
        | inr not_so ↦ absurd (both_ways (h.marks block) (marks block (covered-inside later known i block b at covered) not_so) before.4)
      ];
  settled = λ block touch unmarked is.
      let was : latest h.connections block ≡ Some touch = sym (last block unmarked) ∙ is in
      settled-carries h later block touch accounted carries (latest-at h.connections block touch was)
      (marks block (known.tracked.items_inside block touch is) unmarked) was is;
  untouched = λ block inside unmarked none.
      ap (λ (m : ℕ → Bool). m block) opening_marks
      ∙ accounted.untouched block (subst (λ (s : Settings). block < s.blocks) settings inside) (marks block inside unmarked) (sym (last block unmarked)
      ∙ none);
  began = began;
}

-- what began carries over
pub began-carries : (h later : PrimaryHistory) → KeepsBegun h later → later.settings ≡ h.settings → later.opening_tuple ≡ h.opening_tuple
    → (NoneBegan h → later.tuple ≡ h.tuple)
    → ((block : ℕ) → block < later.settings.blocks → later.marks block ≡ false → latest later.connections block ≡ None
    → (h.marks block ≡ false) × (latest h.connections block ≡ None)) → Began h → Began later
began-carries h later keeps settings opening_tuple tuple clean began = elim began [
  | inl none ↦ inl (none-carries h later keeps opening_tuple (tuple none) none)
  | inr first ↦ inr (
    first.0,
    first-carries h later first.0 keeps opening_tuple first.1,
    λ full block inside unmarked none. let was = clean block inside unmarked none in first.2 full block
        (subst (λ (s : Settings). block < s.blocks) settings inside) was.0 was.1,
  )
]

-- a move that carries it and touches no block keeps the account
pub accounted-carries : (h later : PrimaryHistory) → IsAccounted h → IsKnown later → Carries h later → ComeFrom h later → KeepsBegun h later
    → later.settings ≡ h.settings → later.opening_marks ≡ h.opening_marks → later.opening_tuple ≡ h.opening_tuple → (NoneBegan h → later.tuple ≡ h.tuple)
    → ((block : ℕ) → later.marks block ≡ false → h.marks block ≡ false)
    → ((block : ℕ) → later.marks block ≡ false → latest later.connections block ≡ latest h.connections block) → IsAccounted later
accounted-carries h later accounted known carries come keeps settings opening_marks opening_tuple tuple marks last =
    accounted-from h later accounted known carries come settings opening_marks
    (began-carries h later keeps settings opening_tuple tuple (λ block inside unmarked none. (marks block unmarked, sym (last block unmarked) ∙ none))
    accounted.began) (λ block inside unmarked. marks block unmarked) last

-- the same, where the last connection changes and its stream does not
pub accounted-change : (h later : PrimaryHistory) (f : PrimaryConnection → PrimaryConnection) → IsAccounted h → IsKnown later
    → later.connections ≡ change_last f h.connections
    → KeepsWrites h.writes later.writes → KeepsEnd (primary_connection h) (f (primary_connection h))
    → (f (primary_connection h)).begun ≡ (primary_connection h).begun
    → (f (primary_connection h)).stream ≡ (primary_connection h).stream
    → later.settings ≡ h.settings → later.opening_marks ≡ h.opening_marks → later.opening_tuple ≡ h.opening_tuple → (NoneBegan h → later.tuple ≡ h.tuple)
    → ((block : ℕ) → later.marks block ≡ false → h.marks block ≡ false) → (IsTrue later.faithful → IsTrue h.faithful) → IsAccounted later
accounted-change h later f accounted known connections writes keeps begun stream settings opening_marks opening_tuple tuple marks falls =
    accounted-carries h later accounted known (carries-change h later f connections writes.forward keeps falls) writes.back
    (begun-change h later f connections begun keeps.taken) settings opening_marks opening_tuple tuple marks
    (λ block unmarked. ap (λ (l : List PrimaryConnection). latest l block) connections
    ∙ latest-same-last (no_primary_connection h.tuple) f h.connections block stream)

-- no connection changes
pub keeps-end : (c : PrimaryConnection) → KeepsEnd c c
keeps-end c = record { grows = grows-self c; closed = λ x. x; taken = begins-self c.taken }

-- a move that changes no connection keeps the account
pub accounted-still : (h later : PrimaryHistory) → IsAccounted h → IsKnown later → later.connections ≡ h.connections → KeepsWrites h.writes later.writes
    → later.settings ≡ h.settings
    → later.opening_marks ≡ h.opening_marks → later.opening_tuple ≡ h.opening_tuple
    → (NoneBegan h → later.tuple ≡ h.tuple) → ((block : ℕ) → later.marks block ≡ false → h.marks block ≡ false) → (IsTrue later.faithful → IsTrue h.faithful) → IsAccounted later
accounted-still h later accounted known connections writes settings opening_marks opening_tuple tuple marks falls =
    accounted-change h later (λ c. c) accounted known (connections
    ∙ sym (change-none h.connections)) writes (keeps-end (primary_connection h)) refl refl settings opening_marks opening_tuple tuple marks falls

-- one more frame was pushed, or taken
pub keeps-pushed : (c : PrimaryConnection) → KeepsEnd c (pushing c)
keeps-pushed c = record {
  grows = record { stream = begins-self c.stream; pushed = omega arith; frames = begins-self (accepted_frames c) };
  closed = λ x. x;
  taken = begins-self c.taken;
}

-- an end that takes a frame more is kept
pub keeps-taken : (c : PrimaryConnection) (frame : Received) → c.refused ≡ false → KeepsEnd c (with_frame frame c)
keeps-taken c frame plain = record {
  grows = record { stream = begins-self c.stream; pushed = omega arith; frames = frames-taking c frame plain };
  closed = λ x. x;
  taken = (frame ∷ [], refl);
}

-- the open end has refused nothing
pub open-plain : (h : PrimaryHistory) → HasHomes h → (primary_connection h).closed ≡ false → (primary_connection h).refused ≡ false
open-plain h homes standing = not-refused h homes standing (length h.connections - 1) (open-at h standing)

-- a stream that has begun is that of a connection
pub begun-at : (h : PrimaryHistory) → (primary_connection h).begun ≡ true → slice_get h.connections (length h.connections - 1) ≡ Some (primary_connection h)
begun-at h begun = elim (last-at (no_primary_connection h.tuple) h.connections) [
  | inl none ↦ absurd (both_ways (primary_connection h).begun (ap (λ (l : List PrimaryConnection). (last_of (no_primary_connection h.tuple) l).begun) none)
      begun)
  | inr at ↦ at
]

-- a stream that has begun is on a connection
pub begun-some : (h : PrimaryHistory) → (primary_connection h).begun ≡ true → h.connections ≡ [] → ⊥
begun-some h begun none = both_ways (primary_connection h).begun (ap (λ (l : List PrimaryConnection). (last_of (no_primary_connection h.tuple) l).begun) none)
    begun

-- An item that touches marked blocks alone, or none, goes to the end of the stream.
pub accounted-appending : (h later : PrimaryHistory) (item : StreamItem) → ((block : ℕ) → h.marks block ≡ false → touches item block ≡ false) → IsAccounted h
    → IsKnown later
    → (primary_connection h).begun ≡ true → later.connections ≡ change_last (λ c. record c { stream = c.stream ++ item ∷ [] }) h.connections
    → later.writes ≡ h.writes → later.settings ≡ h.settings → later.opening_marks ≡ h.opening_marks → later.opening_tuple ≡ h.opening_tuple
    → later.marks ≡ h.marks → (IsTrue later.faithful → IsTrue h.faithful) → IsAccounted later
accounted-appending h later item none accounted known begun connections writes settings opening_marks opening_tuple marks falls =
    let f : PrimaryConnection → PrimaryConnection = λ c. record c { stream = c.stream ++ item ∷ [] } in
    let keeps : KeepsEnd (primary_connection h) (f (primary_connection h)) =
    record {
      grows = record { stream = (item ∷ [], refl); pushed = omega arith; frames = begins-self (accepted_frames (primary_connection h)) };
      closed = λ x. x;
      taken = begins-self (primary_connection h).taken;
    } in
    let kept : KeepsWrites h.writes later.writes = subst (KeepsWrites h.writes) (sym writes) (keeps-writes h.writes) in
    accounted-carries h later accounted known (carries-change h later f connections kept.forward keeps falls) kept.back
    (begun-change h later f connections refl keeps.taken) settings opening_marks opening_tuple
    (λ began. absurd (both_ways (primary_connection h).begun (began.none (length h.connections - 1) (primary_connection h) (begun-at h begun)) begun))
    (λ block unmarked. ap (λ (m : ℕ → Bool). m block) (sym marks) ∙ unmarked)
    (λ block unmarked. ap (λ (l : List PrimaryConnection). latest l block) connections
    ∙ (latest-appended (no_primary_connection h.tuple) f item h.connections block (begun-some h begun) refl
    ∙ ap (λ b. if b then Some (record { connection = last_index h.connections; place = length (primary_connection h).stream; item = item })
    else latest h.connections block) (none block (ap (λ (m : ℕ → Bool). m block) (sym marks) ∙ unmarked))))
