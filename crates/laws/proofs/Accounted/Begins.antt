-- The begin of a stream keeps the account of unmarked blocks.
use Rattle.std.proofs.Common.{ℕ, ◌≡◌, ◌-◌, ◌<◌, inl, inr, true, false, List, [], ◌∷◌, ◌++◌, length, Some, slice_get, Ok, refl, sym, ◌∙◌, ap, subst, arith}
use Rattle.std.proofs.Common.{nat_lt}
use Rattle.std.specs.Prelude.{if◌then◌else◌}
use Rattle.std.proofs.lemmas.Bool.{both_ways, lt-ltb}
use Rattle.blocks.specs.declared.tuple.Tuple.{Tuple}
use Rattle.blocks.specs.declared.outcome.Decision.{Decision}
use Rattle.blocks.specs.declared.outcome.Decision.TheVariants.{NoSync, BitmapSync, FullSync}
use Rattle.model.specs.Stream.{StreamItem, SyncUuidItem, IsBeginning}
use Rattle.model.specs.Frames.{Received, UuidsFrame}
use Rattle.model.specs.Identifiers.{decision}
use Rattle.model.specs.Primary.{PrimaryConnection, PrimaryHistory, no_primary_connection, last_of, primary_connection, last_index, change_last}
use Rattle.model.specs.Primary.{with_primary_connection, accepted_frames}
use Rattle.model.specs.Acknowledgements.{begun_with}
use Rattle.laws.proofs.Lists.Last.{change-twice}
use Rattle.laws.proofs.Primary.Moves.{with_frame}
use Rattle.laws.proofs.Primary.Homes.{open-at}
use Rattle.laws.proofs.Primary.FirstStreams.{first-now, first-stays}
use Rattle.laws.proofs.Blocks.Latest.{latest}
use Rattle.laws.proofs.Blocks.LatestMoves.{latest-same-last, latest-appended}
use Rattle.laws.proofs.Tracked.Kept.{IsKnown}
use Rattle.laws.proofs.Accounted.{IsAccounted, IsTrue}
use Rattle.laws.proofs.Accounted.Steps.{KeepsEnd, open-plain, carries-change, Began, accounted-from}
use Rattle.laws.proofs.Blocks.Ranges.{touches-nothing}
use Rattle.laws.proofs.Primary.Ends.{frames-taking}

-- What the begin of a stream does to its connection and its marks.
record Begins (h later : PrimaryHistory) (peer : Tuple) (decided : Decision) (f : PrimaryConnection → PrimaryConnection) : Type 0 where
  connections : later.connections ≡ change_last f h.connections
  writes : later.writes ≡ h.writes
  settings : later.settings ≡ h.settings
  opening_marks : later.opening_marks ≡ h.opening_marks
  opening_tuple : later.opening_tuple ≡ h.opening_tuple
  closed : (f (primary_connection h)).closed ≡ (primary_connection h).closed
  begun : (f (primary_connection h)).begun ≡ true
  taken : (f (primary_connection h)).taken ≡ (primary_connection h).taken ++ Ok (UuidsFrame peer) ∷ []
  pushed : (f (primary_connection h)).pushed ≡ (primary_connection h).pushed
  frames : accepted_frames (f (primary_connection h)) ≡ accepted_frames (with_frame (Ok (UuidsFrame peer)) (primary_connection h))
  last : (block : ℕ) → latest later.connections block ≡ latest h.connections block
  marks : (block : ℕ) → block < later.settings.blocks → later.marks block ≡ false → h.marks block ≡ false
  full : decided ≡ FullSync → (block : ℕ) → block < later.settings.blocks → later.marks block ≡ false → ⊥
  falls : IsTrue later.faithful → IsTrue h.faithful

-- the streams that began are those of before and this one
began-begins : (h later : PrimaryHistory) (peer : Tuple) (decided : Decision) (f : PrimaryConnection → PrimaryConnection)
    → (primary_connection h).closed ≡ false → (primary_connection h).begun ≡ false
    → decision h.tuple peer ≡ Ok decided → IsAccounted h → Begins h later peer decided f → Began later
began-begins h later peer decided f standing new is accounted b = elim accounted.began [
  | inl none ↦ inr (
    decided,
    first-now h later peer f new b.connections b.opening_tuple decided standing b.begun b.taken is none,
    λ whole block inside unmarked latest_none. b.full whole block inside unmarked,
  )
  | inr first ↦ inr (
    first.0,
    first-stays h later peer f new b.connections b.opening_tuple first.0 first.1,
    λ whole block inside unmarked none. first.2 whole block (subst (λ s. block < s) (ap (λ s. s.blocks) b.settings) inside) (b.marks block inside unmarked)
        (sym (b.last block) ∙ none),
  )
]

account-beginning : (h later : PrimaryHistory) (peer : Tuple) (decided : Decision) (f : PrimaryConnection → PrimaryConnection)
    → (primary_connection h).closed ≡ false
    → (primary_connection h).begun ≡ false
    → decision h.tuple peer ≡ Ok decided → IsAccounted h → IsKnown later → Begins h later peer decided f → IsAccounted later
account-beginning h later peer decided f standing new is accounted known b =
    let homes = accounted.known.tracked.homes in
    let c : PrimaryConnection = primary_connection h in
    let empty = homes.empty (length h.connections - 1) c (open-at h standing) new in
    let taken : IsBeginning c.taken (f c).taken = (Ok (UuidsFrame peer) ∷ [], sym b.taken) in
    let keeps : KeepsEnd c (f c) = record {
      grows = record {
        stream = ((f c).stream, ap (λ (l : List StreamItem). l ++ (f c).stream) empty);
        pushed = let same = b.pushed in omega arith;
        frames = subst (λ (l : List Received). IsBeginning (accepted_frames c) l) (sym b.frames)
            (frames-taking c (Ok (UuidsFrame peer)) (open-plain h homes standing));
      };
      closed = λ closed. sym b.closed ∙ closed;
      taken = taken;
    } in
    accounted-from h later accounted known
    (carries-change h later f b.connections (λ i a at. (a, subst (λ ws. slice_get ws i ≡ Some a) (sym b.writes) at, refl, refl, λ w. w)) keeps b.falls)
    (λ i a at. (a, subst (λ ws. slice_get ws i ≡ Some a) b.writes at, refl, refl, λ w. w)) b.settings b.opening_marks
    (began-begins h later peer decided f standing new is accounted b) b.marks (λ block unmarked. b.last block)

-- the begin of a stream keeps the account, whatever was decided
pub account-begins : (h : PrimaryHistory) (peer : Tuple) (decided : Decision) → (primary_connection h).closed ≡ false → (primary_connection h).begun ≡ false
    → decision h.tuple peer ≡ Ok decided → IsAccounted h
    → IsKnown (begun_with decided (record (with_primary_connection (with_frame (Ok (UuidsFrame peer))) h) { peer = Some peer }))
    → IsAccounted (begun_with decided (record (with_primary_connection (with_frame (Ok (UuidsFrame peer))) h) { peer = Some peer }))
account-begins h peer decided standing new is accounted = go decided is
  where
    frame : Received
    frame = Ok (UuidsFrame peer)

    taken : PrimaryHistory
    taken = record (with_primary_connection (with_frame (Ok (UuidsFrame peer))) h) { peer = Some peer }

    some : h.connections ≡ [] → ⊥
    some none = both_ways (primary_connection h).closed standing (ap (λ (l : List PrimaryConnection). (last_of (no_primary_connection h.tuple) l).closed) none)

    -- the first item of a resync touches no block
    sync-last : (word : ℕ) (f : PrimaryConnection → PrimaryConnection) (block : ℕ) → (f (primary_connection h)).stream ≡ SyncUuidItem word ∷ []
        → latest (change_last f h.connections) block ≡ latest h.connections block
    sync-last word f block is =
        let empty = accounted.known.tracked.homes.empty (length h.connections - 1) (primary_connection h) (open-at h standing) new in
        latest-appended (no_primary_connection h.tuple) f (SyncUuidItem word) h.connections block some (is
        ∙ ap (λ (l : List StreamItem). l ++ SyncUuidItem word ∷ []) (sym empty))
        ∙ ap (λ b. if b then Some (record { connection = last_index h.connections; place = length (primary_connection h).stream; item = SyncUuidItem word })
        else latest h.connections block) (touches-nothing 0 block)

    go : (v : Decision) → decision h.tuple peer ≡ Ok v
        → IsKnown (begun_with v (record (with_primary_connection (with_frame (Ok (UuidsFrame peer))) h) { peer = Some peer }))
        → IsAccounted (begun_with v (record (with_primary_connection (with_frame (Ok (UuidsFrame peer))) h) { peer = Some peer }))
    go NoSync is known =
        let f : PrimaryConnection → PrimaryConnection = λ c. record c { taken = c.taken ++ Ok (UuidsFrame peer) ∷ []; begun = true } in
        let twice : (begun_with NoSync taken).connections ≡ change_last f h.connections = change-twice (with_frame (Ok (UuidsFrame peer)))
        (λ c. record c { begun = true }) h.connections in
        account-beginning h (begun_with NoSync taken) peer NoSync f standing new is accounted known (record {
          connections = twice;
          writes = refl;
          settings = refl;
          opening_marks = refl;
          opening_tuple = refl;
          falls = λ faithful. faithful;
          closed = refl;
          begun = refl;
          taken = refl;
          pushed = refl;
          frames = refl;
          last = λ block. ap (λ (l : List PrimaryConnection). latest l block) twice
              ∙ latest-same-last (no_primary_connection h.tuple) f h.connections block refl;
          marks = λ block inside unmarked. unmarked;
          full = λ e. absurd (cc);
        })
    go BitmapSync is known =
        let word : ℕ = (primary_connection taken).sync in
        let f : PrimaryConnection → PrimaryConnection = λ c. record c {
          taken = c.taken ++ Ok (UuidsFrame peer) ∷ [];
          begun = true;
          stream = SyncUuidItem word ∷ [];
        } in
        let twice : (begun_with BitmapSync taken).connections ≡ change_last f h.connections = change-twice (with_frame (Ok (UuidsFrame peer)))
        (λ c. record c { begun = true; stream = SyncUuidItem word ∷ [] }) h.connections in
        account-beginning h (begun_with BitmapSync taken) peer BitmapSync f standing new is accounted known (record {
          connections = twice;
          writes = refl;
          settings = refl;
          opening_marks = refl;
          opening_tuple = refl;
          falls = λ faithful. faithful;
          closed = refl;
          begun = refl;
          taken = refl;
          pushed = refl;
          frames = refl;
          last = λ block. ap (λ (l : List PrimaryConnection). latest l block) twice ∙ sync-last word f block refl;
          marks = λ block inside unmarked. unmarked;
          full = λ e. absurd (cc);
        })
    go FullSync is known =
        let word : ℕ = (primary_connection taken).sync in
        let f : PrimaryConnection → PrimaryConnection = λ c. record c {
          taken = c.taken ++ Ok (UuidsFrame peer) ∷ [];
          begun = true;
          stream = SyncUuidItem word ∷ [];
        } in
        let twice : (begun_with FullSync taken).connections ≡ change_last f h.connections = change-twice (with_frame (Ok (UuidsFrame peer)))
        (λ c. record c { begun = true; stream = SyncUuidItem word ∷ [] }) h.connections in
        account-beginning h (begun_with FullSync taken) peer FullSync f standing new is accounted known (record {
          connections = twice;
          writes = refl;
          settings = refl;
          opening_marks = refl;
          opening_tuple = refl;
          falls = λ faithful. faithful;
          closed = refl;
          begun = refl;
          taken = refl;
          pushed = refl;
          frames = refl;
          last = λ block. ap (λ (l : List PrimaryConnection). latest l block) twice ∙ sync-last word f block refl;
          marks = λ block inside unmarked. absurd (both_ways (nat_lt block h.settings.blocks) unmarked (lt-ltb block h.settings.blocks inside));
          full = λ e block inside unmarked. both_ways (nat_lt block h.settings.blocks) unmarked (lt-ltb block h.settings.blocks inside);
        })
