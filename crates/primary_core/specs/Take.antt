-- The effect of a taken packet, as its call returns it.
use Rattle.std.specs.Prelude.{true, Some, [], ◌∷◌, Result, Ok, Err}
use Rattle.blocks.specs.declared.outcome.Done.{Done}
use Rattle.blocks.specs.declared.refusal.Refusal.{Refusal}
use Rattle.blocks.specs.Identifiers.{sync_start}
use Rattle.model.specs.Stream.{SyncUuidItem}
use Rattle.transferlog.specs.Log as log
use Rattle.primary_protocol.specs.Core.{EndState, PrimaryState}
use Rattle.primary_protocol.specs.Taking.{Taken}

-- a call's result, with the state then
abbrev pub taken_as : Result Done Refusal → PrimaryState → Taken
taken_as (Ok done) s = Ok (done, s)
taken_as (Err refusal) s = Err (refusal, s)

-- begins a resync in a stream that has begun at this end
abbrev pub resyncing : EndState → PrimaryState → PrimaryState
resyncing e s = record s {
  tuple = sync_start e.sync s.tuple;
  log = (log.uuids_placed s.log).1;
  end = Some (record e { unsent = SyncUuidItem e.sync ∷ []; resync = true });
}
