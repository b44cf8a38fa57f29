-- Accepting a write and the close of an end keep the account of unmarked blocks.
use Rattle.std.proofs.Common.{ℕ, ◌≡◌, ◌-◌, ◌<◌, inl, inr, Bool, true, false, List, [], ◌∷◌, ◌++◌, length, Option, Some, None, slice_get, refl, IsTrue}
use Rattle.std.proofs.Common.{sym, ◌∙◌, ap, subst, arith}
use Rattle.std.specs.Prelude.{if◌then◌else◌}
use Rattle.std.specs.List.{list_any}
use Rattle.std.proofs.lemmas.Bool.{cases_Bool, both_ways}
use Rattle.std.proofs.lemmas.List.{append-nil}
use Rattle.blocks.specs.Positions.{StreamPosition}
use Rattle.blocks.specs.declared.tuple.Tuple.{Tuple}
use Rattle.model.specs.Contents.{Write, covers}
use Rattle.model.specs.Stream.{StreamItem, WriteItem, IsBeginning, epoch_of}
use Rattle.model.specs.Frames.{Received}
use Rattle.model.specs.Identifiers.{lost}
use Rattle.model.specs.Marks.{marking}
use Rattle.model.specs.Primary.{Waiting, Accepted, PrimaryConnection, PrimaryHistory, no_primary_connection, last_of, primary_connection, last_index}
use Rattle.model.specs.Primary.{change_last, is_established}
use Rattle.model.specs.Primary.{accepted_frames, is_waiting, is_released, unreleased, barrier_acknowledged, is_barrier_ack}
use Rattle.model.specs.PrimarySteps.{appending, submission, submitted, closing, submitted_with}
use Rattle.laws.proofs.Rules.CloseMarks.{close-parts}
use Rattle.laws.proofs.Rules.Marking.{unmarked-by, marked-still, marked-covered}
use Rattle.laws.specs.Reflections.{touches}
use Rattle.laws.proofs.Lists.Beginnings.{begins-self}
use Rattle.laws.proofs.Lists.Last.{get-change, get-last-changed, change-twice, last-change}
use Rattle.laws.proofs.Primary.Homes.{confirmed-at, alone-homeless, HasHomes, Grows, grows-self, AllGrow, open-at, alone-at}
use Rattle.laws.proofs.Blocks.Latest.{latest}
use Rattle.laws.proofs.Blocks.LatestMoves.{latest-same-last, latest-appended}
use Rattle.laws.proofs.Blocks.LatestPlaces.{latest-at}
use Rattle.laws.proofs.Tracked.Kept.{IsKnown}
use Rattle.laws.proofs.Accounted.{home-of, IsAccounted, Carries, KeepsBegun, held-covers}
use Rattle.laws.proofs.Accounted.Moves.{sure-carries, settled-carries, alone-before}
use Rattle.laws.proofs.Accounted.Steps.{KeepsEnd, open-plain, begun-some, grows-change, carries-change, begun-change, began-carries}
use Rattle.laws.proofs.Lists.Elements.{get-left, get-more, get-end, same-at}
use Rattle.laws.proofs.Primary.Ends.{established-parts, frames-refusing}
use Rattle.laws.proofs.Rules.RefusedFrames.{refusing_frame, refused_out, refused_by, refusing-last}
use Rattle.laws.proofs.Rules.Releases.{held-waiting, released-same, released-none}

-- The end closes.

-- what a close does: the end's last frame may be refused, its stream stays, and all that is not released is marked
pub account-shuts : (h later : PrimaryHistory) (f : PrimaryConnection → PrimaryConnection) → (primary_connection h).closed ≡ false → IsAccounted h
    → IsKnown later
    → later.connections ≡ change_last f h.connections
    → later.writes ≡ h.writes → Grows (primary_connection h) (f (primary_connection h)) → (f (primary_connection h)).stream ≡ (primary_connection h).stream
    → (f (primary_connection h)).begun ≡ (primary_connection h).begun
    → IsBeginning (primary_connection h).taken (f (primary_connection h)).taken
    → later.settings ≡ h.settings → later.opening_marks ≡ h.opening_marks → later.opening_tuple ≡ h.opening_tuple
    → ((primary_connection h).begun ≡ false → later.tuple ≡ h.tuple)
    → ((block : ℕ) → later.marks block ≡ false → (h.marks block ≡ false) × ((i : ℕ) (a : Accepted) → slice_get h.writes i ≡ Some a → is_released h a ≡ false
    → covers a.write block ≡ false)) → (IsTrue later.faithful → IsTrue h.faithful) → IsAccounted later
account-shuts h later f standing accounted known connections writes grows stream begun taken settings opening_marks opening_tuple tuple marks falls =
    let grow : AllGrow h.connections later.connections = grows-change h later f connections grows in
    let last : (block : ℕ) → latest later.connections block ≡ latest h.connections block =
    λ block. ap (λ (l : List PrimaryConnection). latest l block) connections
    ∙ latest-same-last (no_primary_connection h.tuple) f h.connections block stream in
    record {
      known = known;
      waiting = λ i block b at alone waits covered. elim (cases_Bool (later.marks block)) [
        | inl marked ↦ marked
        | inr unmarked ↦ absurd (
            let held : is_released h b ≡ false = held-waiting h b waits in
            both_ways (covers b.write block) ((marks block unmarked).1 i b (subst (λ (l : List Accepted). slice_get l i ≡ Some b) writes at) held) covered)
      ];
      settled = λ block touch unmarked is.
          let was : latest h.connections block ≡ Some touch = sym (last block) ∙ is in
          let there = latest-at h.connections block touch was in
          let clean = marks block unmarked in
          elim (accounted.settled block touch clean.0 was) [
            | inl sure ↦ inl (sure-carries h later block touch grow falls there is sure)
            | inr held ↦ absurd (
                let a : Accepted = held.1 in
                let home = accounted.known.tracked.homes.housed held.0 touch.connection touch.place a held.2 held.3 in
                let same : there.0 ≡ home.0 = same-at h.connections touch.connection there.0 home.0 there.1 home.1 in
                let item : touch.item ≡ WriteItem a.write = same-at home.0.stream touch.place touch.item (WriteItem a.write)
                (subst (λ (c : PrimaryConnection). slice_get c.stream touch.place ≡ Some touch.item) same there.2) home.2 in
                both_ways (covers a.write block) (clean.1 held.0 a held.2 held.4) (subst (λ (x : StreamItem). touches x block ≡ true) item there.3))
          ];
      untouched =
          λ block inside unmarked none. ap (λ (m : ℕ → Bool). m block) opening_marks
          ∙ accounted.untouched block (subst (λ s. block < s) (ap (λ s. s.blocks) settings) inside) (marks block unmarked).0 (sym (last block) ∙ none);
      began = began-carries h later (begun-change h later f connections begun taken) settings opening_tuple
          (λ none. tuple (none.none (length h.connections - 1) (primary_connection h) (open-at h standing)))
          (λ block inside unmarked none. ((marks block unmarked).0, sym (last block) ∙ none)) accounted.began;
    }

-- a test that no element of a filtered list passes
none-unreleased : (h : PrimaryHistory) (block i : ℕ) (a : Accepted) → list_any (λ (x : Accepted). covers x.write block) (unreleased h) ≡ false
    → slice_get h.writes i ≡ Some a
    → is_released h a ≡ false → covers a.write block ≡ false
none-unreleased h block i a none at held = elim (cases_Bool (covers a.write block)) [
  | inl covered ↦ absurd (both_ways (list_any (λ (x : Accepted). covers x.write block) (unreleased h)) none (held-covers h block i a at held covered))
  | inr free ↦ free
]

-- the tuple goes on only where the stream had begun
tuple-stays : (loss : ℕ) (t : Tuple) (b : Bool) → b ≡ false → (if b then lost loss t else t) ≡ t
tuple-stays loss t b new = ap (λ x. if x then lost loss t else t) new

-- the close of an end keeps the account
pub account-closes : (h : PrimaryHistory) → (primary_connection h).closed ≡ false → IsAccounted h → IsKnown (closing h) → IsAccounted (closing h)
account-closes h standing accounted known = account-shuts h (closing h) (λ c. record c { closed = true }) standing accounted known refl refl
    (record { stream = begins-self (primary_connection h).stream; pushed = omega arith; frames = begins-self (accepted_frames (primary_connection h)) }) refl
    refl
    (begins-self (primary_connection h).taken) refl refl refl (λ new. tuple-stays (primary_connection h).loss h.tuple (primary_connection h).begun new)
    (λ block unmarked.
    let parts = close-parts h block unmarked in
    (parts.0, λ i a at held. none-unreleased h block i a parts.1 at held)) (λ faithful. faithful)

-- A refused frame releases nothing.

-- a change of the last connection that neither accepts a frame nor closes the end
same-released : (h later : PrimaryHistory) (f : PrimaryConnection → PrimaryConnection) → HasHomes h → later.connections ≡ change_last f h.connections
    → (f (primary_connection h)).stream ≡ (primary_connection h).stream
    → accepted_frames (f (primary_connection h)) ≡ accepted_frames (primary_connection h) → (f (primary_connection h)).closed ≡ (primary_connection h).closed
    → (i : ℕ) (a : Accepted) → slice_get h.writes i ≡ Some a → is_released later a ≡ is_released h a
same-released h later f homes connections stream frames closed i a at = go a.home refl
  where
    -- on a connection whose end changed so
    alike : (c : PrimaryConnection) (place : ℕ) → primary_connection h ≡ c
        → barrier_acknowledged (f c) (epoch_of (f c).stream place) ≡ barrier_acknowledged c (epoch_of c.stream place)
    alike c place same =
        subst (λ (x : PrimaryConnection). barrier_acknowledged (f x) (epoch_of (f x).stream place) ≡ barrier_acknowledged x (epoch_of x.stream place)) same
        (λ i. list_any (is_barrier_ack (epoch_of (stream i) place)) (frames i))

    go : (v : Option StreamPosition) → a.home ≡ v → is_released later a ≡ is_released h a
    go None is = released-none later a (alone-homeless later a is) ∙ sym (released-none h a (alone-homeless h a is))
    go (Some home) is =
        let was = homes.housed i home.index home.place a at is in
        elim (get-change f (no_primary_connection h.tuple) h.connections home.index was.0 was.1) [
          | inl same ↦
              let there = subst (λ (l : List PrimaryConnection). slice_get l home.index ≡ Some was.0) (sym connections) same in
              released-same h later a (confirmed-at later a home was.0 is there ∙ sym (confirmed-at h a home was.0 is was.1))
              (alone-at later a home was.0 is there ∙ sym (alone-at h a home was.0 is was.1))
          | inr changed ↦
              let there = subst (λ (l : List PrimaryConnection). slice_get l home.index ≡ Some (f was.0)) (sym connections) changed.0 in
              released-same h later a
              (confirmed-at later a home (f was.0) is there ∙ (alike was.0 home.place (sym changed.1) ∙ sym (confirmed-at h a home was.0 is was.1)))
              (alone-at later a home (f was.0) is there
              ∙ (subst (λ (x : PrimaryConnection). (f x).closed ≡ x.closed) (sym changed.1) closed ∙ sym (alone-at h a home was.0 is was.1)))
        ]

-- a frame that is refused closes the end, and keeps the account
pub account-refuses : (h : PrimaryHistory) (frame : Received) (peer : Option Tuple) → (primary_connection h).closed ≡ false → IsAccounted h
    → IsKnown (closing (refused_by frame peer h))
    → IsAccounted (closing (refused_by frame peer h))
account-refuses h frame peer standing accounted known =
    let g : PrimaryConnection → PrimaryConnection = refusing_frame frame in
    let f : PrimaryConnection → PrimaryConnection = refused_out frame in
    let before : PrimaryHistory = refused_by frame peer h in
    let plain = open-plain h accounted.known.tracked.homes standing in
    let twice : before.connections ≡ change_last g h.connections = refusing-last frame h.connections in
    let frames : accepted_frames (f (primary_connection h)) ≡ accepted_frames (primary_connection h) = frames-refusing (primary_connection h) frame plain in
    let ends : primary_connection before ≡ g (primary_connection h) = ap (last_of (no_primary_connection h.tuple)) twice
    ∙ elim (last-change g (no_primary_connection h.tuple) (no_primary_connection h.tuple) h.connections) [
      | inl none ↦ absurd (both_ways (primary_connection h).closed standing
          (ap (λ (l : List PrimaryConnection). (last_of (no_primary_connection h.tuple) l).closed) none))
      | inr is ↦ is
    ] in
    account-shuts h (closing before) f standing accounted known
    (ap (change_last (λ (c : PrimaryConnection). record c { closed = true })) twice ∙ change-twice g (λ c. record c { closed = true }) h.connections) refl
    (record {
      stream = begins-self (primary_connection h).stream;
      pushed = omega arith;
      frames = (
        [],
        append-nil (accepted_frames (primary_connection h))
            ∙ sym frames,
      );
    }) refl refl
    (frame ∷ [], refl) refl refl refl
    (λ new. tuple-stays (primary_connection before).loss h.tuple (primary_connection before).begun (ap (λ (c : PrimaryConnection). c.begun) ends ∙ new))
    (λ block unmarked.
    let parts = close-parts before block unmarked in (
      parts.0,
      λ i a at held. none-unreleased before block i a parts.1 at (same-released h before g accounted.known.tracked.homes twice refl frames refl i a at
          ∙ held),
    )) (λ faithful. faithful)

-- A write is accepted.

-- a new write joins the others
stay-and-one : (ws : List Accepted) (added : Accepted) (i : ℕ) (a : Accepted) → slice_get ws i ≡ Some a
    → (b : Accepted) × (slice_get (ws ++ added ∷ []) i ≡ Some b) × (b.write ≡ a.write) × (b.home ≡ a.home) × (is_waiting a.outcome ≡ false
    → is_waiting b.outcome ≡ false)
stay-and-one ws added i a at = (a, get-left ws (added ∷ []) i a at, refl, refl, λ w. w)

-- accepting a write keeps the account
pub account-submits : (h : PrimaryHistory) (first : ℕ) (contents : List (List ℕ)) → IsAccounted h → IsKnown (submitted h first contents)
    → IsAccounted (submitted h first contents)
account-submits h first contents accounted known = go (is_established (primary_connection h)) refl known
  where
    go : (b : Bool) → is_established (primary_connection h) ≡ b → IsKnown (submitted_with b h first contents) → IsAccounted (submitted_with b h first contents)
    go false is known =
        let w : Write = submission h first contents in
        let added : Accepted = record { write = w; journal_length = length h.journal; home = None; outcome = Waiting } in
        let later : PrimaryHistory = record h { writes = h.writes ++ added ∷ []; marks = marking w h.marks } in
        let carries : Carries h later = record {
          grow = λ k c at. (c, at, grows-self c);
          former = λ k d at. inl (d, at, λ c. c, begins-self d.taken);
          writes = stay-and-one h.writes added;
          faithful = λ faithful. faithful;
        } in
        let keeps : KeepsBegun h later = record { forward = λ k c at was. (c, at, was, begins-self c.taken); back = λ k d at. inl (d, at, refl) } in
        let clean : (block : ℕ) → later.marks block ≡ false → h.marks block ≡ false = λ block unmarked. (unmarked-by w h.marks block unmarked).0 in
        record {
          known = known;
          waiting = λ i block b at alone waits covered. elim (get-more h.writes added i b at) [
            | inl old ↦ marked-still w h.marks block (accounted.waiting i block b old alone waits covered)
            | inr new ↦ marked-covered w h.marks block (ap (λ (x : Accepted). covers x.write block) (sym new.1) ∙ covered)
          ];
          settled = λ block touch unmarked is. settled-carries h later block touch accounted carries (latest-at h.connections block touch is)
              (clean block unmarked) is is;
          untouched = λ block inside unmarked none. accounted.untouched block inside (clean block unmarked) none;
          began = began-carries h later keeps refl refl (λ none. refl) (λ block inside unmarked none. (clean block unmarked, none)) accounted.began;
        }
    go true is known =
        let w : Write = submission h first contents in
        let standing = established-parts (primary_connection h) is in
        let k0 : ℕ = last_index h.connections in
        let p0 : ℕ = length (primary_connection h).stream in
        let added : Accepted = record { write = w; journal_length = length h.journal; home = Some (record { index = k0; place = p0 }); outcome = Waiting } in
        let f : PrimaryConnection → PrimaryConnection = λ c. record c { stream = c.stream ++ WriteItem w ∷ [] } in
        let later : PrimaryHistory = appending (WriteItem w) (record h { writes = h.writes ++ added ∷ [] }) in
        let keeps : KeepsEnd (primary_connection h) (f (primary_connection h)) =
        record {
          grows = record { stream = (WriteItem w ∷ [], refl); pushed = omega arith; frames = begins-self (accepted_frames (primary_connection h)) };
          closed = λ x. x;
          taken = begins-self (primary_connection h).taken;
        } in
        let carries : Carries h later = carries-change h later f refl (stay-and-one h.writes added) keeps (λ faithful. faithful) in
        let there : slice_get later.connections k0 ≡ Some (f (primary_connection h)) = get-last-changed f (no_primary_connection h.tuple) h.connections
        (primary_connection h)
        (open-at h standing.0) refl in
        let last : (block : ℕ) → latest later.connections block ≡ (if covers w block then Some (record { connection = k0; place = p0; item = WriteItem w })
        else latest h.connections block)
        = λ block. latest-appended (no_primary_connection h.tuple) f (WriteItem w) h.connections block (begun-some h standing.1) refl in
        let past : (block : ℕ) → latest later.connections block ≡ None → latest h.connections block ≡ None = λ block none. elim (cases_Bool (covers w block)) [
          | inl covered ↦ absurd (let e : latest later.connections block ≡ Some (record { connection = k0; place = p0; item = WriteItem w }) = last block
              ∙ ap (λ b. if b then Some (record { connection = k0; place = p0; item = WriteItem w }) else latest h.connections block) covered in cc (e, none))
          | inr free ↦ sym (last block ∙ ap (λ b. if b then Some (record { connection = k0; place = p0; item = WriteItem w })
              else latest h.connections block) free) ∙ none
        ] in
        record {
          known = known;
          waiting = λ i block b at alone waits covered. elim (get-more h.writes added i b at) [
            | inl old ↦ accounted.waiting i block b old (alone-before h later i b b accounted.known.tracked.homes carries old refl alone) waits covered
            | inr new ↦ absurd (both_ways (primary_connection h).closed standing.0
                (sym (alone-at later b (record { index = k0; place = p0 }) (f (primary_connection h)) (ap (λ (x : Accepted). x.home) new.1) there) ∙ alone))
          ];
          settled = λ block touch unmarked is. elim (cases_Bool (covers w block)) [
            | inl covered ↦
                let one : Some (record { connection = k0; place = p0; item = WriteItem w }) ≡ Some touch =
                sym (ap (λ b. if b then Some (record { connection = k0; place = p0; item = WriteItem w }) else latest h.connections block) covered)
                ∙ (sym (last block) ∙ is) in
                let same : record { connection = k0; place = p0; item = WriteItem w } ≡ touch = cc in
                inr (length h.writes, added, get-end h.writes added, ap home-of same, refl)
            | inr free ↦
                let was : latest h.connections block ≡ Some touch = sym (ap (λ b. if b then Some (record { connection = k0; place = p0; item = WriteItem w })
                else latest h.connections block) free) ∙ (sym (last block) ∙ is) in
                settled-carries h later block touch accounted carries (latest-at h.connections block touch was) unmarked was is
          ];
          untouched = λ block inside unmarked none. accounted.untouched block inside unmarked (past block none);
          began = began-carries h later (begun-change h later f refl refl (begins-self (primary_connection h).taken)) refl refl (λ none. refl)
              (λ block inside unmarked none. (unmarked, past block none)) accounted.began;
        }
