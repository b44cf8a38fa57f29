-- Examples in which the premises of the theorems are met and their conclusions are not empty: histories that a short
-- list of events reaches.
use Rattle.std.specs.Prelude.{◌≡◌, ◌==◌, true, false, if◌then◌else◌, List, [], ◌∷◌, ◌++◌, length, take, Some, None, slice_get, Ok}
use Rattle.blocks.specs.declared.settings.Protocol.TheVariants as protocol
use Rattle.blocks.specs.declared.refusal.Refusal.TheVariants.{SplitBrain, BadBarrierAck, BadField}
use Rattle.blocks.specs.declared.outcome.Reply.TheVariants as reply
use Rattle.blocks.specs.SettingsRange.{standard}
use Rattle.model.specs.Acknowledgements.{ack_in}
use Rattle.model.specs.Contents.{Write, covers, filled}
use Rattle.model.specs.Frames.{BarrierFrame, ProtocolFrame, SizesFrame, UuidsFrame, WriteAckFrame, BarrierAckFrame}
use Rattle.model.specs.LocalRuns.{PrimaryEvent, Opens, Submits, WritesLocally, Sends, Takes, primary_run}
use Rattle.model.specs.Stream.{WriteItem, epoch_of}
use Rattle.model.specs.Primary.{OnDisk, Accepted, Linked, Alone, PrimaryHistory, primary_connection, primary_connection_at, is_established, is_released}
use Rattle.model.specs.Primary.{unreleased, active_extents}
use Rattle.model.specs.Secondary.{SecondaryHistory, secondary_connection, items_taken, pending, secondary_map, whole}
use Rattle.model.specs.SecondarySteps.{receive}
use Rattle.model.specs.Pair.{Event, LocalEvent, SendEvent, ReceiveEvent, PeerEvent, AckOutEvent, AckInEvent, ClosePrimaryEvent, CloseSecondaryEvent}
use Rattle.model.specs.Pair.{PairHistory, step, run_fed, differing, marked}
use Rattle.model.specs.Headline.{IsJoined, IsGrounded, is_covered}
use Rattle.model.specs.Settlement.{is_at_rest, settle}
use Rattle.model.specs.Rows.{words, fresh_with, fill, connect}
use Rattle.model.specs.ResyncRows.{written_alone, first_copied, second_copied, ended}
use Rattle.model.specs.WriteOrder.{comes_before, has_adopted, IsUnharmed}
use Rattle.model.specs.WriteRows.{one_write}
use Rattle.model.specs.Theorems.{Opening, primary_at, pair_at, IsSoundOpening}
use Rattle.laws.specs.Reflections.{touches, is_sure}
use Rattle.laws.specs.Statements.{is_refused_frame, is_refused_by}

-- A new pair of eight blocks of one byte each, with equal identifiers.
abbrev pub new_pair : Opening
new_pair = record {
  settings = standard;
  peer_settings = standard;
  local = filled 8 (0 ∷ []);
  peer = filled 8 (0 ∷ []);
  own = words 1 0 0 0;
  peer_tuple = words 1 0 0 0;
  marks = λ block. false;
}

-- A pair whose peer was away for a write of block 2, which is marked.
abbrev pub left_behind : Opening
left_behind = record {
  settings = standard;
  peer_settings = standard;
  local = λ block. if block == 2 then Some (170 ∷ []) else filled 8 (0 ∷ []) block;
  peer = filled 8 (0 ∷ []);
  own = words 7 1 0 0;
  peer_tuple = words 1 0 0 0;
  marks = λ block. block == 2;
}

-- a new pair after its connection and these events
abbrev pub reached : List Event → PairHistory
reached events = (run_fed (connect 5 7 ++ events) (pair_at new_pair)).1

-- the write of these examples
abbrev pub the_write : Write
the_write = record { number = 1; first = 2; contents = (170 ∷ []) ∷ [] }

-- Openings as the theorems require them: equal disks under equal identifiers, and disks that differ where they are
-- marked.
pub record OpeningsAreMet : Type 0 where
  pub equal : IsSoundOpening new_pair
  pub marked : IsSoundOpening left_behind
  pub differing : differing (pair_at left_behind) ≡ 2 ∷ []

-- One write under protocol C: the frames are joined, the write is completed over the link, taken, and on the peer's
-- disk.
pub record OneWriteIsMet : Type 0 where
  pub joined : IsJoined (reached one_write).primary (reached one_write).secondary
  pub completed : (reached one_write).primary.journal ≡ record { write = the_write; kind = Linked; home = Some (record { index = 0; place = 0 }) } ∷ []
  pub taken : items_taken (secondary_connection (reached one_write).secondary) ≡ WriteItem the_write ∷ []
  pub applied : (secondary_connection (reached one_write).secondary).applied ≡ (0, 0) ∷ []

-- A write that the peer has not seen: the disks differ in its block, which the unreleased write covers, in one extent;
-- and once the primary has closed it is marked.
abbrev pub unseen : List Event
unseen = fill 2 1 170 ∷ LocalEvent 1 ∷ []

-- the same, and the primary closes
abbrev pub unseen_and_lost : List Event
unseen_and_lost = unseen ++ ClosePrimaryEvent ∷ []

-- a connection is established, and then none
pub record CoverIsMet : Type 0 where
  pub grounded : IsGrounded (reached unseen).primary (reached unseen).secondary
  pub standing : is_established (primary_connection (reached unseen).primary) ≡ true
  pub differs : differing (reached unseen) ≡ 2 ∷ []
  pub unmarked : marked (reached unseen) ≡ []
  pub unreleased : length (unreleased (reached unseen).primary) ≡ 1
  pub active : active_extents (reached unseen).primary ≡ 0 ∷ []
  pub lost : is_established (primary_connection (reached unseen_and_lost).primary) ≡ false
  pub still : differing (reached unseen_and_lost) ≡ 2 ∷ []
  pub marked : marked (reached unseen_and_lost) ≡ 2 ∷ []

-- A write whose epoch the peer has acknowledged: its block is not covered any more, since the peer has applied the
-- write; and a block that nothing touched was never covered.
abbrev pub released : List Event
released = one_write ++ SendEvent ∷ ReceiveEvent ∷ AckOutEvent ∷ AckInEvent ∷ []

-- both ways in which a block is not covered
pub record ReflectionIsMet : Type 0 where
  pub written : is_covered (reached released).primary 2 ≡ false
  pub touched : touches (WriteItem the_write) 2 ≡ true
  pub sure : is_sure (primary_connection (reached released).primary) 0 (WriteItem the_write) ≡ true
  pub untouched : is_covered (reached released).primary 3 ≡ false

-- Both ends close, and nothing is pending.
abbrev pub settled : List Event
settled = released ++ ClosePrimaryEvent ∷ CloseSecondaryEvent ∷ []

-- two nodes at rest, and their settlement
pub record RestIsMet : Type 0 where
  pub rest : is_at_rest (reached settled).primary (reached settled).secondary ≡ true
  pub numbers : settle (reached settled).primary (reached settled).secondary
      (record { number = 1; first = 2; count = 1; kind = Linked; home = Some (record { index = 0; place = 0 }) } ∷ []) false ≡ Ok
      (record { sent = 2; taken = 2; applied = 1; confirmed = 1; unmarked = 0 })

-- Two writes while the link was down, the resync that copies them to its end, and a write that is completed since.
abbrev pub rewritten : List Event
rewritten =
    written_alone ++ connect 9 11 ++ first_copied ++ second_copied ++ ended
    ++ fill 2 1 204 ∷ LocalEvent 3 ∷ SendEvent ∷ ReceiveEvent ∷ PeerEvent 6 ∷ AckOutEvent ∷ AckOutEvent ∷ AckInEvent ∷ AckInEvent ∷ []

-- the first of them, which was accepted with no write completed
abbrev pub first_alone : Accepted
first_alone = record { write = record { number = 1; first = 3; contents = (170 ∷ []) ∷ [] }; journal_length = 0; home = None; outcome = OnDisk }

-- the last one, which came over the link, and was accepted when both of the others were completed
abbrev pub since : Accepted
since = record {
  write = record { number = 3; first = 2; contents = (204 ∷ []) ∷ [] };
  journal_length = 2;
  home =
      Some (record { index = 1; place = 6 });
  outcome = OnDisk;
}

-- The premises of the write order, at a secondary that has adopted a tuple; and what is on its disk then.
pub record OrderIsMet : Type 0 where
  pub unharmed : IsUnharmed (reached rewritten).primary (reached rewritten).secondary
  pub consistent : (reached rewritten).secondary.consistent ≡ true
  pub adopted : has_adopted (reached rewritten).secondary ≡ true
  pub earlier : slice_get (reached rewritten).primary.writes 0 ≡ Some first_alone
  pub later : slice_get (reached rewritten).primary.writes 2 ≡ Some since
  pub completed : slice_get (reached rewritten).primary.journal 2
      ≡ Some (record { write = since.write; kind = Linked; home = Some (record { index = 1; place = 6 }) })
  pub before : comes_before (reached rewritten).primary first_alone since ≡ true
  pub copied : secondary_map (reached rewritten).secondary 3 ≡ Some (170 ∷ [])
  pub written : secondary_map (reached rewritten).secondary 2 ≡ Some (204 ∷ [])
  pub whole_to : whole (reached rewritten).secondary ≡ 2

-- The same, and the peer takes the barrier that ends the last write's epoch.
abbrev pub rewritten_to_the_end : List Event
rewritten_to_the_end = rewritten ++ SendEvent ∷ ReceiveEvent ∷ []

-- The premises of the write order's second half: the last write came over the present connection, in an epoch to which
-- the secondary is whole; and the writes before it.
pub record WholeEpochIsMet : Type 0 where
  pub unharmed : IsUnharmed (reached rewritten_to_the_end).primary (reached rewritten_to_the_end).secondary
  pub consistent : (reached rewritten_to_the_end).secondary.consistent ≡ true
  pub write : slice_get (reached rewritten_to_the_end).primary.writes 2 ≡ Some since
  pub connection : (secondary_connection (reached rewritten_to_the_end).secondary).number ≡ 2
  pub epoch : epoch_of (primary_connection_at (reached rewritten_to_the_end).primary 2).stream 6 ≡ 3
  pub whole_to : whole (reached rewritten_to_the_end).secondary ≡ 3
  pub before : comes_before (reached rewritten_to_the_end).primary first_alone since ≡ true
  pub written : secondary_map (reached rewritten_to_the_end).secondary 2 ≡ Some (204 ∷ [])

-- A write that is sent, taken, and on the local disk alone.
abbrev pub under_way : PairHistory
under_way = reached (unseen ++ SendEvent ∷ ReceiveEvent ∷ [])

-- A primary that gets a BARRIER_ACK there, though it sent no barrier: the write is marked and completed alone, and the
-- loss word becomes its current identifier.
abbrev pub broken_off : PrimaryHistory
broken_off = (ack_in (Some (Ok (BarrierAckFrame 1 1))) false under_way.primary).1

-- A secondary that gets the second barrier there, and never got the first.
abbrev pub broken_off_too : SecondaryHistory
broken_off_too = (receive (Some (Ok (BarrierFrame 2))) false under_way.secondary).1

-- Two nodes that each went on from the same data by itself, before the primary takes the last frame of the hello.
abbrev pub estranged : PairHistory
estranged = (run_fed (take 12 (connect 9 11)) (fresh_with standard (words 7 1 0 0) (words 8 1 0 0))).1

-- Frames that are refused, and what the refusal does.
pub record RefusedFramesAreMet : Type 0 where
  pub hello : (step AckInEvent false estranged).0 ≡ reply.Refused SplitBrain
  pub by_hello : is_refused_by AckInEvent SplitBrain ≡ true
  pub hello_before : (primary_connection estranged.primary).closed ≡ false
  pub hello_seen : (step AckInEvent false estranged).1.primary.peer ≡ Some (words 8 1 0 0)
  pub primary : (ack_in (Some (Ok (BarrierAckFrame 1 1))) false under_way.primary).0 ≡ reply.Refused BadBarrierAck
  pub frame : is_refused_frame BadBarrierAck ≡ true
  pub first : (primary_connection under_way.primary).refused ≡ false
  pub unmarked : under_way.primary.marks 2 ≡ false
  pub marks : broken_off.marks 2 ≡ true
  pub identifiers : broken_off.tuple ≡ words 7 1 0 0
  pub uncompleted : under_way.primary.journal ≡ []
  pub completed : broken_off.journal ≡ record { write = the_write; kind = Alone; home = Some (record { index = 0; place = 0 }) } ∷ []
  pub secondary : (receive (Some (Ok (BarrierFrame 2))) false under_way.secondary).0 ≡ reply.Refused BadField
  pub frame_too : is_refused_frame BadField ≡ true
  pub first_too : (secondary_connection under_way.secondary).refused ≡ false
  pub before_too : (secondary_connection under_way.secondary).closed ≡ false
  pub closed_too : (secondary_connection broken_off_too).closed ≡ true
  pub stays : pending (secondary_connection broken_off_too) ≡ (0, WriteItem the_write) ∷ []

-- A primary by itself that took the peer's hello.
abbrev pub met : List PrimaryEvent
met =
    Opens 5 7 false ∷ Sends true false ∷ Sends true false ∷ Sends true false
    ∷ Takes (Some (Ok (ProtocolFrame protocol.C))) false ∷ Takes (Some (Ok (SizesFrame 8))) false ∷ Takes (Some (Ok (UuidsFrame (words 1 0 0 0)))) false ∷ []

-- Then a write of block 2, another one over it once the first is completed, and the acknowledgement of the first one's
-- epoch.
abbrev pub written_over : List PrimaryEvent
written_over =
    met ++ Submits 2 ((170 ∷ []) ∷ []) false ∷ WritesLocally 1 ∷ Sends true false ∷ Takes
    (Some (Ok (WriteAckFrame (record { first = 2; number = 1; count = 1; place = 0 })))) false
    ∷ Submits 2 ((187 ∷ []) ∷ []) false ∷ WritesLocally 2 ∷ Sends true false ∷ Sends true false ∷ Takes
    (Some (Ok (WriteAckFrame (record { first = 2; number = 2; count = 1; place = 2 })))) false
    ∷ Sends true false ∷ Takes (Some (Ok (BarrierAckFrame 1 1))) false ∷ []

-- then the acknowledgement of the second one's epoch
abbrev pub released_in_turn : List PrimaryEvent
released_in_turn = written_over ++ Takes (Some (Ok (BarrierAckFrame 2 1))) false ∷ []

-- the first of the two writes
abbrev pub the_earlier : Accepted
the_earlier = record { write = the_write; journal_length = 0; home = Some (record { index = 0; place = 0 }); outcome = OnDisk }

-- the second one, over the first
abbrev pub the_later : Accepted
the_later =
    record {
      write = record { number = 2; first = 2; contents = (187 ∷ []) ∷ [] };
      journal_length = 1;
      home =
          Some (record { index = 0; place = 2 });
      outcome = OnDisk;
    }

-- Of two writes that share a block the earlier one is released first; and then both are.
pub record ReleasesAreMet : Type 0 where
  pub earlier : slice_get (primary_run released_in_turn (primary_at new_pair)).writes 0 ≡ Some the_earlier
  pub later : slice_get (primary_run released_in_turn (primary_at new_pair)).writes 1 ≡ Some the_later
  pub shared : covers the_earlier.write 2 ≡ true
  pub shared_too : covers the_later.write 2 ≡ true
  pub first : is_released (primary_run written_over (primary_at new_pair)) the_earlier ≡ true
  pub waits : is_released (primary_run written_over (primary_at new_pair)) the_later ≡ false
  pub second : is_released (primary_run released_in_turn (primary_at new_pair)) the_later ≡ true
  pub both : is_released (primary_run released_in_turn (primary_at new_pair)) the_earlier ≡ true
