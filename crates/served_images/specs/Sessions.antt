-- What the sessions of a server leave, one after another.
use Rattle.std.specs.Prelude.{ℕ, ◌≡◌, ◌⊎◌, ◌+◌, ◌<◌, ◌≤◌, true, false, not, List, [], ◌∷◌, IsTrue, length, min, slice_get}
use Rattle.std.specs.List.{list_any}
use Rattle.bitmap.specs.Marks.{marked}
use Rattle.blocks.specs.declared.settings.Settings.{Settings}
use Rattle.settlement.specs.Left.{IsUnparted}
use Rattle.settlement.specs.Next.{IsLeft, unknown}
use Rattle.model.specs.Headline.{IsJoined}
use Rattle.model.specs.LocalRuns.{PrimaryEvent, SecondaryEvent, primary_run, secondary_run}
use Rattle.model.specs.Pair.{same_block}
use Rattle.model.specs.Primary.{PrimaryHistory, is_failed, local_map, marked_blocks}
use Rattle.model.specs.Secondary.{SecondaryHistory, secondary_map}
use Rattle.model.specs.Settlement.{Receipt, Settlement}
use Rattle.model.specs.Theorems.{Opening, IsSoundOpening, Settles, SettlesAnyhow, primary_at, secondary_at}
use Rattle.model.specs.WriteOrder.{KeepsWriteOrder}
use Rattle.program_values.specs.declared.serve_options.FirstStart.{FirstStart}
use Rattle.program_values.specs.declared.serve_options.FirstStart.TheVariants.{AssumeEqual, Compare, Copy}
use Rattle.primary.specs.State.{PrimaryView, node as primary_node}
use Rattle.primary_protocol.specs.Node.{NodeHas as PrimaryHas}
use Rattle.secondary.specs.State.{SecondaryView, node as secondary_node}
use Rattle.secondary_protocol.specs.Node.{NodeHas as SecondaryHas}
use Rattle.serve_requests.specs.Answered.{AreAnswered}
use Rattle.disk_pair.specs.Disks.{AreFaithful, DisksState}
use Rattle.served_images.specs.declared.totals.Totals.{Totals}
use Rattle.settlement.specs.Settled.{AreAll, WasHonest, WereHonest}
use Rattle.session_api.specs.Opening.{opening_of}
use Rattle.session_api.specs.declared.session_start.SessionStart.{SessionStart}
use Rattle.told.specs.declared.entry.Told.{Told}
use Rattle.told.specs.Stands.{AllReadOwn, Stands, StandsIn}

-- what a session leaves for the next one: both disks, what the next one starts from, and the results so far
pub record Rest : Type 0 where
  pub disks : DisksState
  pub parts : SessionStart
  pub totals : Totals

-- the opening of the session that starts from here
abbrev pub opening : Rest → Opening
opening rest = opening_of rest.parts (slice_get rest.disks.local) (slice_get rest.disks.peer)

-- the sum of two counts, as far as 64 bits count
abbrev pub counted : ℕ → ℕ → ℕ
counted a b = min (a + b) 18446744073709551615

-- What a session of these two histories comes to, with the receipts that its work gave: they are all that the session gave, one for each
-- completed write; its settlement says all that the theorem on joined nodes says of one, with honest identifiers and without; the totals
-- go on by the settlement's numbers; the parts are what both nodes leave; and if the resyncs copied what the local disk held, the opening
-- of these parts over the disks as they are is sound.
pub record ComesTo (p : PrimaryHistory) (s : SecondaryHistory) (receipts : List Receipt) (before after : Totals) (parts : SessionStart) : Type 0 where
  pub numbers : Settlement
  pub anyhow : SettlesAnyhow p s receipts numbers
  pub settles : WereHonest p s → Settles p s receipts numbers
  pub all : AreAll p receipts
  pub completed : after.completed ≡ counted before.completed (length receipts)
  pub confirmed : after.confirmed ≡ counted before.confirmed numbers.confirmed
  pub marked : after.marked ≡ length (marked_blocks p)
  pub left : IsLeft parts p s
  pub unparted : WereHonest p s → (p.opening_tuple.current ≡ s.opening_tuple.current → p.opening_tuple.bitmap ≡ 0)
      → parts.own.current ≡ parts.peer.current → parts.own.bitmap ≡ 0
  pub sound : WereHonest p s → IsTrue p.faithful → IsSoundOpening (opening_of parts (local_map p) (secondary_map s))

-- It comes to that for all histories that the two nodes have, if these are joined, and the secondary has no connection that the
-- primary never had.
abbrev pub NodesComeTo : PrimaryView → SecondaryView → List Receipt → Totals → Totals → SessionStart → Type 0
NodesComeTo primary secondary receipts before after parts =
    secondary.core.number ≤ primary.core.connections → (p : PrimaryHistory) (s : SecondaryHistory) → PrimaryHas (primary_node primary) p
    → SecondaryHas (secondary_node secondary) s → IsJoined p s → ComesTo p s receipts before after parts

-- One session: two runs of the model, one of each node, from the session's opening. They are joined and come to what is left, and
-- both disks hold what the runs lead to. The receipts are those of requests that the session's clients had answered, and each write of
-- these stands in the history to which the primary's run leads, under its number and with its bytes: those of a WRITE that was answered
-- with success are the parts of its payload, and each has its receipt. All else that the session's callers were told stands there, too:
-- each write that was told as accepted, each receipt, and each read at a moment of its own, at which the disk had each write of which the
-- number and the receipt had been told before. If each read of the local disk so far was faithful, the resyncs copied what it held. If
-- they did, and the opening was sound, what is left for the next session is sound, too; and if no local write failed besides, the peer's
-- disk has an order of writes while it calls itself consistent.
pub record IsSession (o : Opening) (before : Totals) (rest : Rest) : Type 0 where
  pub here : List PrimaryEvent
  pub there : List SecondaryEvent
  pub receipts : List Receipt
  pub first : List PrimaryEvent
  pub log : List Told
  pub told : Stands rest.disks.local_faithful (primary_run first (primary_at o)) log (primary_run here (primary_at o))
  pub own : AllReadOwn rest.disks.local_faithful (primary_run first (primary_at o)) log (primary_run here (primary_at o))
  pub answered : AreAnswered (StandsIn (primary_run here (primary_at o))) receipts
  pub joined : IsJoined (primary_run here (primary_at o)) (secondary_run there (secondary_at o))
  pub comes : ComesTo (primary_run here (primary_at o)) (secondary_run there (secondary_at o)) receipts before rest.totals rest.parts
  pub local : (block : ℕ) → slice_get rest.disks.local block ≡ local_map (primary_run here (primary_at o)) block
  pub peer : (block : ℕ) → slice_get rest.disks.peer block ≡ secondary_map (secondary_run there (secondary_at o)) block
  pub faithful : IsTrue rest.disks.local_faithful → IsTrue (primary_run here (primary_at o)).faithful
  pub honest : WasHonest o → IsTrue (primary_run here (primary_at o)).faithful → WasHonest (opening rest)
  pub unparted : WasHonest o → IsUnparted o → IsUnparted (opening rest)
  pub order : WasHonest o → IsUnparted o → IsTrue (primary_run here (primary_at o)).faithful
      → list_any (λ accepted. is_failed accepted.outcome) (primary_run here (primary_at o)).writes ≡ false
      → KeepsWriteOrder (primary_run here (primary_at o)) (secondary_run there (secondary_at o))

-- What is supposed of a first start: each read of both disks so far gave what they hold, and disks that were taken as alike are so.
pub record IsTrusted (how : FirstStart) (first : Rest) : Type 0 where
  pub faithful : AreFaithful first.disks
  pub equal : how ≡ AssumeEqual → first.disks.local ≡ first.disks.peer

-- The start of a server's first session, over these disks and with these settings: no block is marked, and nothing was written yet.
-- The peer's disk is unknown, so that all is copied, if a comparison found a difference or a copy was asked for; it is known if they
-- are taken as alike, or a comparison found none.
pub record IsFirst (chosen : Settings) (how : FirstStart) (disks : DisksState) (first : Rest) : Type 0 where
  pub settings : first.parts.settings ≡ chosen
  pub own : first.parts.own ≡ record { current = 1; bitmap = 0; first_historical = 0; second_historical = 0 }
  pub same : how ≡ Compare → AreFaithful first.disks → disks.local ≡ disks.peer → first.parts.peer ≡ first.parts.own
  pub other : how ≡ Compare → AreFaithful first.disks → (disks.local ≡ disks.peer → ⊥) → first.parts.peer ≡ unknown
  pub copied : how ≡ Copy → first.parts.peer ≡ unknown
  pub assumed : how ≡ AssumeEqual → first.parts.peer ≡ first.parts.own
  pub marks : (block : ℕ) → marked first.parts.marks block ≡ false
  pub totals : first.totals ≡ record { completed = 0; confirmed = 0; marked = 0 }
  pub local : first.disks.local ≡ disks.local
  pub peer : first.disks.peer ≡ disks.peer
  pub honest : IsTrusted how first → WasHonest (opening first)

-- The start of a server's first session over images that get their metadata, with these settings: nothing was written yet. After a
-- comparison just the blocks are marked on which the disks differ, and if there is one, the peer's disk is known by the primary's bitmap
-- identifier, so that they are copied; else none is marked, and before a copy the peer's disk is unknown.
pub record IsMarkedStart (chosen : Settings) (how : FirstStart) (disks : DisksState) (first : Rest) : Type 0 where
  pub settings : first.parts.settings ≡ chosen
  pub compared : how ≡ Compare → AreFaithful first.disks → (block : ℕ) → block < chosen.blocks
      → marked first.parts.marks block ≡ not (same_block (slice_get disks.local block) (slice_get disks.peer block))
  pub unmarked : (how ≡ Compare → ⊥) → (block : ℕ) → marked first.parts.marks block ≡ false
  pub parted : how ≡ Compare → (block : ℕ) → marked first.parts.marks block ≡ true → first.parts.own.bitmap ≡ first.parts.peer.current
  pub copied : how ≡ Copy → first.parts.peer ≡ unknown
  pub totals : first.totals ≡ record { completed = 0; confirmed = 0; marked = 0 }
  pub local : first.disks.local ≡ disks.local
  pub peer : first.disks.peer ≡ disks.peer
  pub honest : IsTrusted how first → WasHonest (opening first)

-- The start of a server's first session over images that had metadata, with these settings: nothing was written yet.
pub record IsKeptStart (chosen : Settings) (disks : DisksState) (first : Rest) : Type 0 where
  pub settings : first.parts.settings ≡ chosen
  pub totals : first.totals ≡ record { completed = 0; confirmed = 0; marked = 0 }
  pub local : first.disks.local ≡ disks.local
  pub peer : first.disks.peer ≡ disks.peer

-- The start of a server's first session: without metadata, with new metadata, or with metadata that was there.
abbrev pub IsStart : Settings → FirstStart → DisksState → Rest → Type 0
IsStart chosen how disks first = IsFirst chosen how disks first ⊎ (IsMarkedStart chosen how disks first ⊎ IsKeptStart chosen disks first)

-- Sessions led from the first start to this one; between them are the starts of those after the first, the latest first.
abbrev pub HasCome : Rest → List Rest → Rest → Type 0
HasCome first [] rest = rest ≡ first
HasCome first (before ∷ earlier) rest = IsSession (opening before) before.totals rest × HasCome first earlier before

-- when each of these sessions ended, each read of the local disk so far had given what it held
abbrev pub StayedFaithful : List Rest → Rest → Type 0
StayedFaithful [] rest = Unit {0}
StayedFaithful (before ∷ earlier) rest = IsTrue rest.disks.local_faithful × StayedFaithful earlier before

-- What a server leaves after its sessions, one or more: from such a start one led to the next, and the last one to this. If the
-- identifiers of the first one were honest and the disks were faithful, those with which each session began were honest.
pub record IsServed (chosen : Settings) (how : FirstStart) (disks : DisksState) (rest : Rest) : Type 0 where
  pub first : Rest
  pub starts : IsStart chosen how disks first
  pub earlier : List Rest
  pub last : Rest
  pub session : IsSession (opening last) last.totals rest
  pub come : HasCome first earlier last
  pub honest : WasHonest (opening first) → StayedFaithful earlier last → WasHonest (opening last)
  pub unparted : WasHonest (opening first) → IsUnparted (opening first) → StayedFaithful earlier last → IsUnparted (opening last)
