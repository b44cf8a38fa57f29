-- Accepting a write: its tests, and the state before its item goes to the stream.
use Rattle.std.specs.Prelude.{ℕ, ◌≡◌, ◌*◌, nat_le, ◌==◌, true, false, ◌&&◌, not, List, [], ◌∷◌, ◌++◌, length, Some, None, is_some, unwrap_or, Result, Ok, Err}
use Rattle.blocks.specs.declared.refusal.Refusal.{Refusal}
use Rattle.blocks.specs.declared.refusal.Refusal.TheVariants.{Conflict, LogFull, ActivityFull, JournalFull, StreamFull, NotConnected}
use Rattle.model.specs.Contents.{is_range, extent_of}
use Rattle.model.specs.Refusals.{Test, first_refusal}
use Rattle.transferlog.specs.declared.report.Accepted.{Accepted}
use Rattle.transferlog.specs.Log as log
use Rattle.overlap.specs.Holdings as overlap
use Rattle.overlap.specs.Holdings.{holding, holding_too}
use Rattle.activitylog.specs.Activity.{begun, can_begin}
use Rattle.blocks.specs.declared.settings.Settings.{Settings}
use Rattle.blocks.specs.declared.outcome.Done.{Done}
use Rattle.blocks.specs.declared.outcome.What.TheVariants as what
use Rattle.blocks.specs.Ranges.{is_between}
use Rattle.bitmap.specs.Marks.{marking}
use Rattle.model.specs.Stream.{WriteItem}
use Rattle.primary_protocol.specs.Core.{Open, PrimaryState, is_established, appending, following}
use Rattle.primary_protocol.specs.Transitions.{whole_blocks}

-- the tests of a submission, but for those of its range and of memory
abbrev pub range_tests : ℕ → ℕ → PrimaryState → List Test
range_tests first count s =
    let met = overlap.conflict first count s.held in
    (not (is_established s) && (s.tuple.bitmap == 0), NotConnected) ∷ (nat_le 1048576 s.log.accepted, JournalFull)
    ∷ (nat_le s.settings.backlog (length s.log.writes), LogFull) ∷ (is_some met, Conflict (unwrap_or met 0)) ∷ (
      not (can_begin (extent_of first) s.activity),
      ActivityFull,
    )
    ∷ (is_established s && nat_le 4294967288 s.log.epochs.places, StreamFull) ∷ []

-- the result of the tests
abbrev pub result_of_tests : List Test → Result (Unit {0}) Refusal
result_of_tests tests = elim (first_refusal tests) [ Some refusal ↦ Err refusal | None ↦ Ok tt ]

-- the blocks of these bytes lie in the device, from the first one on
pub record IsWhole (settings : Settings) (first count : ℕ) (bytes : List ℕ) : Type 0 where
  pub range : is_range settings first (length (whole_blocks bytes)) ≡ true
  pub counted : length (whole_blocks bytes) ≡ count
  pub long : length bytes ≡ 4096 * count

-- Puts the write in the log, inserts its interval, and counts it in its extent.
abbrev pub taken_in : ℕ → ℕ → List ℕ → PrimaryState → Accepted × PrimaryState
taken_in first count bytes s =
    let accepted = log.accepting first count bytes s.log in (
      accepted.0,
      record s {
        log = accepted.1;
        entries = s.entries ++ record { first = first; count = count; fate = Open; taken = false } ∷ [];
        held = holding_too (holding accepted.0.number first count) s.held;
        activity = begun (extent_of first) s.activity;
      },
    )

-- Puts the write's item in the stream, or marks its blocks if there is none; and what follows.
abbrev pub gone_out : Accepted → ℕ → ℕ → List ℕ → PrimaryState → Done × PrimaryState
gone_out accepted first count bytes s =
    let item = WriteItem (record { number = accepted.number; first = first; contents = whole_blocks bytes }) in
    elim (is_established s) [
      | true ↦ following (what.Write accepted.number) accepted.barrier (appending (item ∷ []) s)
      | false ↦ following (what.Write accepted.number) None (record s { marks = marking (is_between first count) s.marks })
    ]
