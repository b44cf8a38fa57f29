-- What a refused frame does to the end that took it: the frame counts as taken and as refused, and the end closes.
use Rattle.std.proofs.Common.{◌≡◌, true, ◌∷◌, [], List, ◌++◌, Option, Ok, Err, ◌∙◌, ap}
use Rattle.blocks.specs.declared.tuple.Tuple.{Tuple}
use Rattle.blocks.specs.declared.refusal.Refusal.{Refusal}
use Rattle.blocks.specs.declared.outcome.What.{What}
use Rattle.blocks.specs.declared.outcome.Reply.{Reply}
use Rattle.blocks.specs.declared.outcome.Reply.TheVariants as reply
use Rattle.model.specs.Frames.{Received}
use Rattle.model.specs.Primary.{PrimaryConnection, PrimaryHistory, with_primary_connection, change_last}
use Rattle.model.specs.PrimarySteps.{follows, succeeding, closing}
use Rattle.model.specs.Acknowledgements.{Taken, taking, take_frame}
use Rattle.model.specs.Secondary.{SecondaryConnection, SecondaryHistory, secondary_connection, with_secondary_connection}
use Rattle.model.specs.SecondarySteps.{succeeding_secondary, Checked, checking, take_item}
use Rattle.laws.proofs.Lists.Last.{change-twice}

-- A primary.

-- an end that took a frame
abbrev took : Received → PrimaryConnection → PrimaryConnection
took frame c = record c { taken = c.taken ++ frame ∷ [] }

-- an end that refused the last frame that it took
abbrev pub refusing : PrimaryConnection → PrimaryConnection
refusing c = record c { refused = true }

-- an end that took a frame and refused it
abbrev pub refusing_frame : Received → PrimaryConnection → PrimaryConnection
refusing_frame frame c = refusing (took frame c)

-- an end that is closed by that
abbrev pub refused_out : Received → PrimaryConnection → PrimaryConnection
refused_out frame c = record c { taken = c.taken ++ frame ∷ []; refused = true; closed = true }

-- the history by then, where the peer's tuple may have been seen
abbrev pub refused_by : Received → Option Tuple → PrimaryHistory → PrimaryHistory
refused_by frame peer h = with_primary_connection refusing (record (with_primary_connection (took frame) h) { peer = peer })

-- the last end took the frame and refused it
pub refusing-last : (frame : Received) (cs : List PrimaryConnection)
    → change_last refusing (change_last (took frame) cs) ≡ change_last (refusing_frame frame) cs
refusing-last frame cs = change-twice (took frame) refusing cs

-- and closed
pub refused-last : (frame : Received) (peer : Option Tuple) (h : PrimaryHistory)
    → (closing (refused_by frame peer h)).connections ≡ change_last (refused_out frame) h.connections
refused-last frame peer h = ap (change_last (λ (c : PrimaryConnection). record c { closed = true })) (refusing-last frame h.connections)
    ∙ change-twice (refusing_frame frame) (λ (c : PrimaryConnection). record c { closed = true }) h.connections

-- What holds after each frame that is accepted, and after each that is refused, holds after a frame.
pub frame-has : (P : Reply × PrimaryHistory → Type 0) (Q : Taken → Type 0) (frame : Received) (h : PrimaryHistory)
    → Q (taking frame h (with_primary_connection (took frame) h)) → ((done : What × PrimaryHistory) → Q (Ok done) → P (succeeding done.0 done.1))
    → ((error : Refusal × PrimaryHistory) → Q (Err error) → P (reply.Refused error.0, (follows (closing (with_primary_connection refusing error.1))).history))
    → P (take_frame frame h)
frame-has P Q frame h comes accepts refuses = go (taking frame h (with_primary_connection (took frame) h)) comes
  where
    go : (v : Taken) → Q v → P (elim v as (λ _. Reply × PrimaryHistory) [
      | Ok done ↦ succeeding done.0 done.1
      | Err error ↦ (reply.Refused error.0, (follows (closing (with_primary_connection refusing error.1))).history)
    ])
    go (Ok done) q = accepts done q
    go (Err error) q = refuses error q

-- A secondary.

-- an end that took a frame
abbrev took_too : Received → SecondaryConnection → SecondaryConnection
took_too frame c = record c { taken = c.taken ++ frame ∷ [] }

-- an end that took a frame and refused it
abbrev pub refusing_too : Received → SecondaryConnection → SecondaryConnection
refusing_too frame c = record c { taken = c.taken ++ frame ∷ []; refused = true }

-- an end that refused the last frame that it took, and closed
abbrev pub refused_end : SecondaryConnection → SecondaryConnection
refused_end c = record c { refused = true; closed = true }

-- an end that took a frame, refused it and closed
abbrev pub refused_in : Received → SecondaryConnection → SecondaryConnection
refused_in frame c = refused_end (took_too frame c)

-- the history by then
abbrev pub refused_by_too : Received → SecondaryHistory → SecondaryHistory
refused_by_too frame h = with_secondary_connection refused_end (with_secondary_connection (took_too frame) h)

-- so the last end is left
pub refused-last-too : (frame : Received) (h : SecondaryHistory) → (refused_by_too frame h).connections ≡ change_last (refused_in frame) h.connections
refused-last-too frame h = change-twice (took_too frame) refused_end h.connections

-- What holds after each frame that is accepted, and after each that is refused, holds after a frame.
pub item-has : (P : Reply × SecondaryHistory → Type 0) (Q : Checked → Type 0) (frame : Received) (h : SecondaryHistory)
    → Q (checking frame (secondary_connection h) (with_secondary_connection (took_too frame) h))
    → ((done : What × SecondaryHistory) → Q (Ok done) → P (succeeding_secondary done.0 done.1))
    → ((refusal : Refusal) → Q (Err refusal) → P (reply.Refused refusal, refused_by_too frame h)) → P (take_item frame h)
item-has P Q frame h comes accepts refuses = go (checking frame (secondary_connection h) (with_secondary_connection (took_too frame) h)) comes
  where
    go : (v : Checked) → Q v → P (elim v as (λ _. Reply × SecondaryHistory)
        [ Ok done ↦ succeeding_secondary done.0 done.1 | Err refusal ↦ (reply.Refused refusal, refused_by_too frame h) ])
    go (Ok done) q = accepts done q
    go (Err refusal) q = refuses refusal q

-- a frame that is refused leaves that
pub item-refused : (frame : Received) (h : SecondaryHistory) (refusal : Refusal)
    → checking frame (secondary_connection h) (with_secondary_connection (took_too frame) h) ≡ Err refusal
    → take_item frame h ≡ (reply.Refused refusal, refused_by_too frame h)
item-refused frame h refusal is = ap (λ (v : Checked). elim v as (λ _. Reply × SecondaryHistory)
    [ Ok done ↦ succeeding_secondary done.0 done.1 | Err refusal ↦ (reply.Refused refusal, refused_by_too frame h) ]) is
