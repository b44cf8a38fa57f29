-- What the steps that push no frame keep: what was pushed, and the frames that were due; and what the local disk holds.
use Rattle.std.proofs.Common.{ℕ, suc, ◌≡◌, ◌-◌, ◌≤◌, Bool, true, false, ◌&&◌, List, [], ◌∷◌, ◌++◌, length, map, take, Option, Some, None, IsTrue, is_none}
use Rattle.std.proofs.Common.{slice_get, refl, sym, ◌∙◌, ap, subst}
use Rattle.std.specs.Prelude.{unwrap_or, if◌then◌else◌}
use Rattle.std.proofs.lemmas.Bool.{both_ways, and_parts}
use Rattle.std.proofs.lemmas.List.{map-append}
use Rattle.blocks.specs.declared.settings.Settings.{Settings}
use Rattle.blocks.specs.declared.refusal.Refusal.TheVariants.{NotConnected, NothingToDo}
use Rattle.blocks.specs.declared.outcome.What.TheVariants as what
use Rattle.blocks.specs.declared.outcome.Reply.{Reply}
use Rattle.blocks.specs.declared.outcome.Reply.TheVariants as reply
use Rattle.model.specs.Contents.{BlockMap, overlay, block_under, is_between}
use Rattle.model.specs.Stream.{StreamItem, WriteItem, ResyncItem, BarrierItem, UuidsItem, IsBeginning, within, last_epoch}
use Rattle.model.specs.Frames.{Received}
use Rattle.model.specs.Marks.{marking, releasing}
use Rattle.model.specs.Primary.{Waiting, OnDisk, Failed, Accepted, PrimaryConnection, PrimaryHistory, free_block, last_index, primary_connection, change_last}
use Rattle.model.specs.Primary.{is_established}
use Rattle.model.specs.Primary.{frames_due, local_map, local_layer}
use Rattle.model.specs.PrimarySteps as step
use Rattle.model.specs.PrimarySteps.{follows, appending, succeeding, submission, submitted_with, copying, given}
use Rattle.laws.proofs.Rules.FramesDue as rule
use Rattle.laws.proofs.Rules.EpochEnds.{over-standing}
use Rattle.laws.proofs.Blocks.Overlays.{overlay-append}
use Rattle.laws.proofs.Lists.Beginnings.{begins-self, begins-trans, take-begins}
use Rattle.laws.proofs.Lists.Last.{length-change}
use Rattle.laws.proofs.Lists.Tests.{test-passed}
use Rattle.laws.proofs.Primary.Moves.{following-from, tested-keeps}
use Rattle.laws.proofs.Primary.StaysClosed.{open-established}
use Rattle.laws.proofs.Rules.ResyncEnds.{over-established}
use Rattle.primary_protocol.proofs.Common.Reached.{primary-connection-of}
use Rattle.laws.proofs.Rules.Memory.{may-copy-open}
use Rattle.laws.proofs.Rules.Receipts.{receipt-has}

-- What a step may change besides what is due: the frames taken, whether the stream has begun, and what the local disk holds.
pub record Change : Type 0 where
  pub taken : List Received
  pub begun : Bool
  pub disk : BlockMap
  pub faithful : Bool

-- no change of a history
abbrev pub unchanged : PrimaryHistory → Change
unchanged h = record { taken = (primary_connection h).taken; begun = (primary_connection h).begun; disk = local_map h; faithful = h.faithful }

-- After a step without a push that opens no end: this has changed, and what is due at an open end only grows.
pub record Keeps (h : PrimaryHistory) (change : Change) (later : PrimaryHistory) : Type 0 where
  pub settings : later.settings ≡ h.settings
  pub hello : (primary_connection later).hello ≡ (primary_connection h).hello
  pub pushed : (primary_connection later).pushed ≡ (primary_connection h).pushed
  pub stream : IsBeginning (primary_connection h).stream (primary_connection later).stream
  pub rests : (primary_connection h).closed ≡ true → (primary_connection later).stream ≡ (primary_connection h).stream
  pub shut : (primary_connection h).closed ≡ true → (primary_connection later).closed ≡ true
  pub connections : length later.connections ≡ length h.connections
  pub taken : (primary_connection later).taken ≡ change.taken
  pub begun : (primary_connection later).begun ≡ change.begun
  pub disk : (block : ℕ) → local_map later block ≡ change.disk block
  pub faithful : later.faithful ≡ change.faithful

-- a history keeps its own
pub keeps-self : (h : PrimaryHistory) → Keeps h (unchanged h) h
keeps-self h = record {
  settings = refl;
  hello = refl;
  pushed = refl;
  stream = begins-self (primary_connection h).stream;
  rests = λ was. refl;
  shut = λ was. was;
  connections = refl;
  taken = refl;
  begun = refl;
  disk = λ block. refl;
  faithful = refl;
}

-- The open end changes, with more in its stream.
pub keeps-change : (h g later : PrimaryHistory) (before after : Change) (f : PrimaryConnection → PrimaryConnection) (more : List StreamItem) → Keeps h before g
    → (primary_connection g).closed ≡ false → later.settings ≡ g.settings
    → later.connections ≡ change_last f g.connections → (f (primary_connection g)).hello ≡ (primary_connection g).hello
    → (f (primary_connection g)).pushed ≡ (primary_connection g).pushed
    → (f (primary_connection g)).stream ≡ (primary_connection g).stream ++ more
    → (f (primary_connection g)).taken ≡ after.taken → (f (primary_connection g)).begun ≡ after.begun → ((block : ℕ) → local_map later block ≡ after.disk block)
    → later.faithful ≡ after.faithful → Keeps h after later
keeps-change h g later before after f more k unshut settings connections hello pushed stream taken begun disk faithful = record {
  settings = settings ∙ k.settings;
  hello = ap (λ (c : PrimaryConnection). c.hello) out ∙ (hello ∙ k.hello);
  pushed = ap (λ (c : PrimaryConnection). c.pushed) out ∙ (pushed ∙ k.pushed);
  stream = begins-trans (primary_connection h).stream (primary_connection g).stream (primary_connection later).stream k.stream (
    more,
    sym (ap (λ (c : PrimaryConnection). c.stream) out ∙ stream),
  );
  rests = λ was. absurd (both_ways (primary_connection g).closed unshut (k.shut was));
  shut = λ was. absurd (both_ways (primary_connection g).closed unshut (k.shut was));
  connections = ap length connections ∙ (length-change f g.connections ∙ k.connections);
  taken = ap (λ (c : PrimaryConnection). c.taken) out ∙ taken;
  begun = ap (λ (c : PrimaryConnection). c.begun) out ∙ begun;
  disk = disk;
  faithful = faithful;
}
  where
    out : primary_connection later ≡ f (primary_connection g)
    out = primary-connection-of f g later connections unshut

-- an item goes to a stream that stands
keeps-appending : (h g : PrimaryHistory) (change : Change) (item : StreamItem) → (primary_connection g).closed ≡ false → Keeps h change g
    → Keeps h change (appending item g)
keeps-appending h g change item unshut k = keeps-change h g (appending item g) change change (λ c. record c { stream = c.stream ++ item ∷ [] })
    (item ∷ []) k unshut refl refl refl refl refl k.taken k.begun k.disk k.faithful

-- what no connection sees
pub keeps-rest : (h g later : PrimaryHistory) (before after : Change) → Keeps h before g → later.settings ≡ g.settings
    → primary_connection later ≡ primary_connection g
    → length later.connections ≡ length g.connections → before.taken ≡ after.taken → before.begun ≡ after.begun
    → ((block : ℕ) → local_map later block ≡ after.disk block) → later.faithful ≡ after.faithful → Keeps h after later
keeps-rest h g later before after k settings out connections taken begun disk faithful = record {
  settings = settings ∙ k.settings;
  hello = ap (λ (c : PrimaryConnection). c.hello) out ∙ k.hello;
  pushed = ap (λ (c : PrimaryConnection). c.pushed) out ∙ k.pushed;
  stream = subst (λ (c : PrimaryConnection). IsBeginning (primary_connection h).stream c.stream) (sym out) k.stream;
  rests = λ was. ap (λ (c : PrimaryConnection). c.stream) out ∙ k.rests was;
  shut = λ was. ap (λ (c : PrimaryConnection). c.closed) out ∙ k.shut was;
  connections = connections ∙ k.connections;
  taken = ap (λ (c : PrimaryConnection). c.taken) out ∙ (k.taken ∙ taken);
  begun = ap (λ (c : PrimaryConnection). c.begun) out ∙ (k.begun ∙ begun);
  disk = disk;
  faithful = faithful;
}

-- What follows an effect.
pub keeps-following : (h g : PrimaryHistory) (change : Change) → Keeps h change g → Keeps h change (follows g).history
keeps-following h g change = following-from (Keeps h change) (Keeps h change) (Keeps h change)
    (λ x k. keeps-rest h x (step.with_completions x) change change k refl refl refl refl refl k.disk k.faithful)
    (λ x over k. keeps-appending h x change (BarrierItem (last_epoch (primary_connection x).stream))
    (open-established (primary_connection x) (over-standing x over)) k)
    (λ x on k. k)
    (λ x over k. keeps-change h x (step.ending_resync x) change change (λ c. record c { stream = c.stream ++ UuidsItem _ ∷ [] }) (UuidsItem _ ∷ []) k
    (open-established (primary_connection x) (over-established x over)) refl refl refl refl refl k.taken k.begun k.disk k.faithful)
    (λ x k. k) g

-- what is due only grows at its end
pub due-begins : (h later : PrimaryHistory) (change : Change) → Keeps h change later
    → IsBeginning (frames_due h.settings (primary_connection h)) (frames_due h.settings (primary_connection later))
due-begins h later change k = rule.due-begins h.settings (primary_connection h) (primary_connection later) k.hello k.stream

-- What was pushed stays: at an open end no more was pushed than is due.
pub pushed-stays : (h later : PrimaryHistory) (change : Change) → Keeps h change later
    → ((primary_connection h).closed ≡ false → (primary_connection h).pushed ≤ length (frames_due h.settings (primary_connection h)))
    → take (primary_connection later).pushed (frames_due later.settings (primary_connection later)) ≡ take (primary_connection h).pushed
    (frames_due h.settings (primary_connection h))
pushed-stays h later change k within =
    ap (λ n. take n (frames_due later.settings (primary_connection later))) k.pushed
    ∙ (ap (λ (s : Settings). take (primary_connection h).pushed (frames_due s (primary_connection later))) k.settings ∙ go (primary_connection h).closed refl)
  where
    go : (b : Bool) → (primary_connection h).closed ≡ b
        → take (primary_connection h).pushed (frames_due h.settings (primary_connection later)) ≡ take (primary_connection h).pushed
        (frames_due h.settings (primary_connection h))
    go true was = ap (take (primary_connection h).pushed) (rule.due-same h.settings (primary_connection h) (primary_connection later) k.hello (k.rests was))
    go false was = sym (take-begins (primary_connection h).pushed (frames_due h.settings (primary_connection h))
        (frames_due h.settings (primary_connection later)) (within was)
        (due-begins h later change k))

-- The steps.

-- a write that waits lays nothing
bare : (a : Accepted) (block : ℕ) (v : Option (List ℕ)) → a.outcome ≡ Waiting → block_under (local_layer a) block v ≡ v
bare a block v waits = ap (λ (x : Accepted). block_under (local_layer x) block v) (λ i. record a { outcome = waits i })
    ∙ off (is_between a.write.first (length a.write.contents) block)
  where
    off : (b : Bool) → (if b && false then slice_get a.write.contents (block - a.write.first) else v) ≡ v
    off true = refl
    off false = refl

disk-submits : (h : PrimaryHistory) (a : Accepted) (block : ℕ) → a.outcome ≡ Waiting
    → overlay h.opening_map (map local_layer (h.writes ++ a ∷ [])) block ≡ local_map h block
disk-submits h a block waits =
    ap (λ (l : List _). overlay h.opening_map l block) (map-append local_layer h.writes (a ∷ []))
    ∙ (overlay-append h.opening_map (map local_layer h.writes) (local_layer a) block ∙ bare a block (local_map h block) waits)

-- a write is accepted
pub submits-keeps : (first : ℕ) (contents : List (List ℕ)) (out_of_memory : Bool) (h : PrimaryHistory)
    → Keeps h (unchanged h) (step.submit first contents out_of_memory h).1
submits-keeps first contents out_of_memory h =
    tested-keeps (Keeps h (unchanged h)) h (step.submit_tests h first contents out_of_memory)
    (λ _. succeeding (what.Write (suc (length h.writes))) (step.submitted h first contents)) (keeps-self h)
    (λ passed. keeps-following h (step.submitted h first contents) (unchanged h) (go (is_established (primary_connection h)) refl))
  where
    go : (b : Bool) → is_established (primary_connection h) ≡ b → Keeps h (unchanged h) (submitted_with b h first contents)
    go true is =
        keeps-change h h _ (unchanged h) (unchanged h) (λ c. record c { stream = c.stream ++ WriteItem (submission h first contents) ∷ [] })
        (WriteItem (submission h first contents) ∷ []) (keeps-self h) (open-established (primary_connection h) is) refl refl refl refl refl refl refl
        (λ block. disk-submits h (record {
          write = submission h first contents;
          journal_length = length h.journal;
          home = Some (record { index = last_index h.connections; place = length (primary_connection h).stream });
          outcome = Waiting;
        }) block refl) refl
    go false is =
        keeps-rest h h _ (unchanged h) (unchanged h) (keeps-self h) refl refl refl refl refl
        (λ block. disk-submits h (record { write = submission h first contents; journal_length = length h.journal; home = None; outcome = Waiting }) block refl) refl

-- the disk holds something else
abbrev pub written : PrimaryHistory → BlockMap → Change
written h disk = record (unchanged h) { disk = disk }

-- the local disk does a write
pub writes-keeps : (number : ℕ) (h : PrimaryHistory)
    → Keeps h (written h (local_map (step.with_outcome number OnDisk h))) (follows (releasing h (step.with_outcome number OnDisk h))).history
writes-keeps number h =
    let later : PrimaryHistory = releasing h (step.with_outcome number OnDisk h) in
    keeps-following h later (written h (local_map (step.with_outcome number OnDisk h)))
    (keeps-rest h h later (unchanged h) (written h (local_map (step.with_outcome number OnDisk h))) (keeps-self h) refl refl refl refl refl (λ block. refl) refl)

-- the local disk fails a write
pub fails-keeps : (number : ℕ) (offsets : List ℕ) (h : PrimaryHistory)
    → Keeps h (written h (local_map (step.faulted number offsets h))) (follows (step.faulted number offsets h)).history
fails-keeps number offsets h = keeps-following h (step.faulted number offsets h) (written h (local_map (step.faulted number offsets h)))
    (go (step.accepted_at h number))
  where
    after : Option Accepted → PrimaryHistory
    after v = elim v as (λ _. PrimaryHistory) [
      | None ↦ h
      | Some accepted ↦ step.with_outcome number (Failed (within (length accepted.write.contents) offsets))
          (record h { marks = marking accepted.write h.marks })
    ]

    go : (v : Option Accepted) → Keeps h (written h (local_map (after v))) (after v)
    go None = keeps-self h
    go (Some accepted) = keeps-rest h h (after (Some accepted)) (unchanged h) (written h (local_map (after (Some accepted))))
        (keeps-self h) refl refl refl refl refl (λ block. refl) refl

-- All but whether the history is faithful is kept, and that too where the block was read as the disk has it.
abbrev pub KeepsRead : Option (List ℕ) → PrimaryHistory → PrimaryHistory → Type 0
KeepsRead read h later = (faithful : Bool) × (IsTrue (is_none read && h.faithful) → IsTrue faithful)
    × Keeps h (record (unchanged h) { faithful = faithful }) later

-- a block is copied
pub resyncs-keeps : (read : Option (List ℕ)) (out_of_memory : Bool) (h : PrimaryHistory) → KeepsRead read h (step.resync_next read out_of_memory h).1
resyncs-keeps read out_of_memory h = tested-keeps (KeepsRead read h) h (step.resync_tests h out_of_memory) (λ _. after (free_block h)) same
    (λ passed. go (free_block h) (may-copy-open h out_of_memory passed).0)
  where
    after : Option ℕ → Reply × PrimaryHistory
    after v = elim v as (λ _. Reply × PrimaryHistory) [
      | None ↦ (reply.Refused NothingToDo, h)
      | Some block ↦ succeeding (what.Block (record { 0 = block }) (length (primary_connection h).stream)) (copying read block h)
    ]

    same : KeepsRead read h h
    same = (h.faithful, (λ faithful. (and_parts (is_none read) h.faithful faithful).1), keeps-self h)

    go : (v : Option ℕ) → (primary_connection h).closed ≡ false → KeepsRead read h (after v).1
    go None unshut = same
    go (Some block) unshut = (
      is_none read && h.faithful,
      (λ faithful. faithful),
      keeps-following h (copying read block h) (record (unchanged h) { faithful = is_none read && h.faithful })
          (keeps-change h h (copying read block h) (unchanged h) (record (unchanged h) { faithful = is_none read && h.faithful })
          (λ c. record c { stream = c.stream ++ ResyncItem block (given read h block) ∷ [] })
          (ResyncItem block (given read h block) ∷ []) (keeps-self h) unshut refl refl refl refl refl refl refl (λ other. refl) refl),
    )

-- the end closes
pub closing-keeps : (h g : PrimaryHistory) (change : Change) → (primary_connection g).closed ≡ false → Keeps h change g → Keeps h change (step.closing g)
closing-keeps h g change unshut k = record {
  settings = k.settings;
  hello = ap (λ (c : PrimaryConnection). c.hello) out ∙ k.hello;
  pushed = ap (λ (c : PrimaryConnection). c.pushed) out ∙ k.pushed;
  stream = subst (λ (c : PrimaryConnection). IsBeginning (primary_connection h).stream c.stream) (sym out) k.stream;
  rests = λ was. absurd (both_ways (primary_connection g).closed unshut (k.shut was));
  shut = λ was. ap (λ (c : PrimaryConnection). c.closed) out;
  connections = length-change (λ c. record c { closed = true }) g.connections ∙ k.connections;
  taken = ap (λ (c : PrimaryConnection). c.taken) out ∙ k.taken;
  begun = ap (λ (c : PrimaryConnection). c.begun) out ∙ k.begun;
  disk = k.disk;
  faithful = k.faithful;
}
  where
    out : primary_connection (step.closing g) ≡ record (primary_connection g) { closed = true }
    out = primary-connection-of (λ c. record c { closed = true }) g (step.closing g) refl unshut

-- nothing else is lost by it
pub closes-keeps : (h : PrimaryHistory) → Keeps h (unchanged h) (step.close_primary h).1
closes-keeps h = tested-keeps (Keeps h (unchanged h)) h (((primary_connection h).closed, NotConnected) ∷ [])
    (λ _. let after = follows (step.closing h) in (reply.Closed (length after.completed), after.history)) (keeps-self h)
    (λ passed. keeps-following h (step.closing h) (unchanged h)
    (closing-keeps h h (unchanged h) (test-passed (primary_connection h).closed NotConnected [] passed).0 (keeps-self h)))

-- a receipt is taken
pub receipts-keeps : (number : ℕ) (h : PrimaryHistory) → Keeps h (unchanged h) (step.take_completed number h).1
receipts-keeps number h = receipt-has (λ r. Keeps h (unchanged h) r.1) number h (λ refusal. keeps-self h) given (λ entry. given)
  where
    given : Keeps h (unchanged h) (step.receipted number h)
    given = keeps-rest h h (step.receipted number h) (unchanged h) (unchanged h) (keeps-self h) refl refl refl refl refl (λ block. refl) refl
