-- The notation of worked examples: openings, lists of events, and the expected replies. Blocks have one byte here, so
-- that every example computes.
use Rattle.std.specs.Prelude.{ℕ, true, false, List, [], ◌∷◌, ◌++◌, replicate, Some, None}
use Rattle.blocks.specs.declared.tuple.Tuple.{Tuple}
use Rattle.blocks.specs.declared.settings.Settings.{Settings}
use Rattle.blocks.specs.declared.refusal.Refusal.{Refusal}
use Rattle.blocks.specs.declared.outcome.Decision.{Decision}
use Rattle.blocks.specs.declared.outcome.What.TheVariants as what
use Rattle.blocks.specs.declared.outcome.Reply.{Reply}
use Rattle.blocks.specs.declared.outcome.Reply.TheVariants as reply
use Rattle.blocks.specs.declared.command.Command.{Command}
use Rattle.blocks.specs.declared.command.Command.TheVariants as command
use Rattle.model.specs.Contents.{filled}
use Rattle.model.specs.Refusals.{done_with}
use Rattle.model.specs.Pair.{Event, OpenEvent, SubmitEvent, SendEvent, ReceiveEvent, AckOutEvent, AckInEvent, PairHistory, pair_opening, run_fed}

-- Openings.

-- a tuple by its four words
abbrev pub words : ℕ → ℕ → ℕ → ℕ → Tuple
words current bitmap first second = record { current = current; bitmap = bitmap; first_historical = first; second_historical = second }

-- zero-filled disks and no marks, with these tuples
abbrev pub fresh_with : Settings → Tuple → Tuple → PairHistory
fresh_with settings own peer = pair_opening settings (filled settings.blocks (0 ∷ [])) (filled settings.blocks (0 ∷ [])) own peer (λ block. false)

-- a new pair with equal identifiers
abbrev pub fresh : Settings → PairHistory
fresh settings = fresh_with settings (words 1 0 0 0) (words 1 0 0 0)

-- Events.

-- a write of `count` blocks that are filled with one byte
abbrev pub fill : ℕ → ℕ → ℕ → Event
fill first count byte = SubmitEvent first (replicate count (byte ∷ []))

-- an opening and the two hellos
abbrev pub connect : ℕ → ℕ → List Event
connect sync loss = OpenEvent sync loss ∷ hello ++ hello ++ hello
  where
    hello : List Event
    hello = SendEvent ∷ ReceiveEvent ∷ AckOutEvent ∷ AckInEvent ∷ []

-- a fresh pair after its first connect
abbrev pub connected : Settings → PairHistory
connected settings = (run_fed (connect 5 7) (fresh settings)).1

-- the replies to these events
abbrev pub replies : List Event → PairHistory → List Reply
replies events h = (run_fed events h).0

-- the pair after these events
abbrev pub after : List Event → PairHistory → PairHistory
after events h = (run_fed events h).1

-- Replies.

-- the reply of a refusal
abbrev pub refused : Refusal → Reply
refused refusal = reply.Refused refusal

-- the reply of a step with nothing to report
abbrev pub done : Reply
done = reply.Ok (done_with what.Nothing)

-- the reply that names an accepted write
abbrev pub accepted : ℕ → Reply
accepted number = reply.Ok (done_with (what.Write number))

-- the reply that names an item of the stream that was sent or taken
abbrev pub item : Command → ℕ → Reply
item name place = reply.Ok (done_with (what.Frame name (Some place)))

-- the reply that names a frame without a place
abbrev pub frame : Command → Reply
frame name = reply.Ok (done_with (what.Frame name None))

-- the reply that names the decision
abbrev pub decided : Decision → Reply
decided decision = reply.Ok (done_with (what.Decided decision))

-- the reply that names a copied block and its place
abbrev pub resynced : ℕ → ℕ → Reply
resynced block place = reply.Ok (done_with (what.Block (record { 0 = block }) place))

-- the same reply, and this write was completed
abbrev pub completing : ℕ → Reply → Reply
completing number (reply.Ok report) = reply.Ok (record report { completed = Some number })
completing number other = other

-- the same reply, and a barrier ended this epoch
abbrev pub with_barrier : ℕ → Reply → Reply
with_barrier epoch (reply.Ok report) = reply.Ok (record report { barrier = Some epoch })
with_barrier epoch other = other

-- the same reply, and a resync ended
abbrev pub with_sync : Reply → Reply
with_sync (reply.Ok report) = reply.Ok (record report { synced = true })
with_sync other = other

-- the replies to a connect whose last reply is this
abbrev pub connecting : Reply → List Reply
connecting last =
    done ∷ frame command.Protocol ∷ frame command.Protocol ∷ frame command.Protocol ∷ frame command.Protocol
    ∷ frame command.Sizes ∷ frame command.Sizes ∷ frame command.Sizes ∷ frame command.Sizes
    ∷ frame command.Uuids ∷ frame command.Uuids ∷ frame command.Uuids ∷ last ∷ []
