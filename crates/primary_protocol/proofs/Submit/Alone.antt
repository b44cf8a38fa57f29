-- A write is accepted without a connection: what that leaves, before what follows.
use Rattle.std.proofs.Common.{ℕ, suc, ◌≡◌, ◌+◌, ◌<◌, true, false, not, ◌&&◌, List, [], ◌∷◌, ◌++◌, length, map, Some, None, slice_get, refl, sym, ◌∙◌, ap, subst}
use Rattle.std.proofs.Common.{arith}
use Rattle.std.specs.Prelude.{option_map, if◌then◌else◌}
use Rattle.std.proofs.lemmas.Bool.{both_ways}
use Rattle.std.proofs.lemmas.List.{length-append, map-append}
use Rattle.blocks.specs.declared.settings.Settings.{Settings}
use Rattle.blocks.specs.Ranges.{is_between}
use Rattle.model.specs.Contents.{Write, extent_of}
use Rattle.model.specs.Stream.{WriteItem, BarrierItem, last_epoch}
use Rattle.model.specs.Marks.{marking}
use Rattle.model.specs.Primary.{Accepted, PrimaryHistory, primary_connection, last_index, is_established, is_completed, is_open, open_writes, is_released}
use Rattle.model.specs.Primary.{unreleased, under_way}
use Rattle.model.specs.PrimarySteps.{with_completions, appending, submission, submitted}
use Rattle.transferlog.specs.Log as log
use Rattle.transferlog.specs.Log.{LogState, home_in, accepted_write, with_last_write}
use Rattle.transferlog.specs.Writes.{completed_of}
use Rattle.transferlog.specs.declared.local.Local.TheVariants as local
use Rattle.overlap.specs.Holdings.{Holding, holding, holding_too}
use Rattle.activitylog.specs.Activity.{can_begin, begun}
use Rattle.bitmap.specs.Marks as bits
use Rattle.laws.proofs.Rules.EpochEnds.{TakesWrites, down-on}
use Rattle.laws.proofs.Primary.Homes.{HasHomes}
use Rattle.laws.proofs.Releases.InOrderMoves.{Ordered, OrderedAfter, in-order-kept}
use Rattle.laws.proofs.Primary.Moves.{MaySubmit}
use Rattle.laws.proofs.Tracked.Kept.{fresh-number}
use Rattle.primary_protocol.specs.Core.{Open, PrimaryState, unmarking}
use Rattle.primary_protocol.specs.Transitions.{whole_blocks}
use Rattle.primary_protocol.specs.Leaves.{logged_of, holding_item, holding_write, held_of, LeavesLog, LeavesStream, LeavesActivity, IsQuiet, Leaves}
use Rattle.primary_protocol.proofs.Submit.Entries.{open-lower, HasRange, accepted_at, entries-more, done-more}
use Rattle.primary_protocol.proofs.Submit.NewWrite.{blocks-whole, concat-whole, latest-more, holding-end, filter-one}
use Rattle.primary_protocol.proofs.Submit.Extents.{begins-activity}
use Rattle.primary_protocol.proofs.Common.Following.{IsDue, parted}
use Rattle.primary_protocol.proofs.Common.Marks.{unmarking-none, marking-in}
use Rattle.primary_protocol.proofs.Common.NothingFollows.{quiet-none}

module _ (settings : Settings) (bound : TakesWrites settings) (s : PrimaryState) (h : PrimaryHistory) (first : ℕ) (bytes : List ℕ) (left : Leaves s h)
    (ordered : Ordered settings h)
    (may : MaySubmit h first (whole_blocks bytes)) (range : HasRange h.settings first (length (whole_blocks bytes)))
    (begins : can_begin (extent_of first) s.activity ≡ true) (down : is_established (primary_connection h) ≡ false) where
  homes : HasHomes h
  homes = ordered.1.1.0.0

  abbrev pub write : Write
  write = submission h first (whole_blocks bytes)

  abbrev pub new : Accepted
  new = accepted_at h first (whole_blocks bytes) None

  abbrev pub later : PrimaryHistory
  later = record h { writes = h.writes ++ new ∷ []; marks = marking write h.marks }

  pub submitted-is : submitted h first (whole_blocks bytes) ≡ later
  submitted-is = ap (λ b. elim b as (λ _. PrimaryHistory) [
    | true ↦ appending (WriteItem write)
        (record h {
          writes =
              h.writes ++ accepted_at h first (whole_blocks bytes)
              (Some (record { index = last_index h.connections; place = length (primary_connection h).stream })) ∷ [];
        })
    | false ↦ later
  ]) down

  after : OrderedAfter settings later
  after = subst (OrderedAfter settings) submitted-is ((in-order-kept settings bound).submits h first (whole_blocks bytes) may ordered)

  fresh : is_completed h (suc (length h.writes)) ≡ false
  fresh = fresh-number h ordered.0.numbers

  unreleased-is : unreleased later ≡ unreleased h ++ new ∷ []
  unreleased-is = filter-one (λ a. not (is_released h a)) h.writes new true refl

  connection-is : s.log.connection ≡ None
  connection-is = left.rest.log.connection ∙ ap (λ b. if b then Some (last_index h.connections) else None) down

  abbrev pub l1 : LogState
  l1 = log.with_write (accepted_write first (length (whole_blocks bytes)) bytes None s.log) s.log.epochs s.log

  pub accepting-is : log.accepting first (length (whole_blocks bytes)) bytes s.log ≡ (record { number = s.log.accepted + 1; place = None; barrier = None }, l1)
  accepting-is = ap (λ v. (
    record {
      number = s.log.accepted + 1;
      place = option_map (λ x. x.place) (home_in v (s.log.accepted + 1) s.log.epochs).0;
      barrier = (home_in v (s.log.accepted + 1) s.log.epochs).1.0;
    },
    log.with_write (accepted_write first (length (whole_blocks bytes)) bytes (home_in v (s.log.accepted + 1) s.log.epochs).0 s.log)
        (home_in v (s.log.accepted + 1) s.log.epochs).1.1 s.log,
  )) connection-is

  new-logged : accepted_write first (length (whole_blocks bytes)) bytes None s.log ≡ logged_of later new
  new-logged = λ i. record {
    number = number_is i;
    first = first;
    count = length (whole_blocks bytes);
    contents = sym (concat-whole bytes range.some) i;
    blocks = sym (blocks-whole bytes range.some) i;
    home = None;
    linked = false;
    sent = false;
    answered = false;
    local = local.Waiting;
  }
    where
      number_is : s.log.accepted + 1 ≡ suc (length h.writes)
      number_is = let all = left.rest.log.accepted in omega arith

  log-left : LeavesLog l1 later
  log-left = record {
    protocol = left.rest.log.protocol;
    backlog = left.rest.log.backlog;
    accepted = let all = left.rest.log.accepted in let size = length-append h.writes (new ∷ []) in omega arith;
    connection = left.rest.log.connection;
    writes = (λ i. left.rest.log.writes i ++ new-logged i ∷ [])
        ∙ (sym (map-append (logged_of later) (unreleased h) (new ∷ [])) ∙ ap (map (logged_of later)) (sym unreleased-is));
    last_writes =
        ap (with_last_write (s.log.accepted + 1) first (length (whole_blocks bytes))) left.rest.log.last_writes
        ∙ latest-more h.settings.blocks h.writes new (s.log.accepted + 1) first (length (whole_blocks bytes)) (let all = left.rest.log.accepted in omega arith)
        refl refl range.inside;
  }

  quiet : IsQuiet later
  quiet = done-more h later first (whole_blocks bytes) None left.rest.quiet fresh refl refl (λ i a at. refl)

  held-left : holding_too (holding (s.log.accepted + 1) first (length (whole_blocks bytes))) s.held ≡ held_of later
  held-left =
      ap (holding_too (holding (s.log.accepted + 1) first (length (whole_blocks bytes)))) (left.rest.held
      ∙ ap (λ b. map holding_item (if b then under_way (primary_connection h) else []) ++ map holding_write (open_writes h)) down)
      ∙ (holding-end (holding (s.log.accepted + 1) first (length (whole_blocks bytes))) (map holding_write (open_writes h)) lower
      ∙ (opens ∙ sym (ap (λ b. map holding_item (if b then under_way (primary_connection h) else []) ++ map holding_write (open_writes later)) down)))
    where
      all : s.log.accepted ≡ length h.writes
      all = left.rest.log.accepted

      lower : (i : ℕ) (x : Holding) → slice_get (map holding_write (open_writes h)) i ≡ Some x → x.number < s.log.accepted + 1
      lower i x at = let low = open-lower h homes i x at in let size = all in omega arith

      opens : map holding_write (open_writes h) ++ holding (s.log.accepted + 1) first (length (whole_blocks bytes)) ∷ [] ≡ map holding_write (open_writes later)
      opens =
          (λ i. map holding_write (open_writes h) ++ holding ((let size = all in let is : s.log.accepted + 1 ≡ suc (length h.writes) = omega arith in is) i)
          first (length (whole_blocks bytes)) ∷ [])
          ∙ (sym (map-append holding_write (open_writes h) (new ∷ []))
          ∙ ap (map holding_write) (sym (filter-one (is_open h) h.writes new true (ap (λ b. not b && true) fresh))))

  still-so : parted (with_completions later) ≡ with_completions later
  still-so = ap (λ b. elim b as (λ _. PrimaryHistory) [
    | true ↦ appending (BarrierItem (last_epoch (primary_connection (with_completions later)).stream))
        (with_completions later)
    | false ↦ with_completions later
  ]) (down-on (with_completions later) down)

  -- All is there for what follows.
  pub alone-due : IsDue (record s {
    log = l1;
    entries = s.entries ++ record { first = first; count = length (whole_blocks bytes); fate = Open; taken = false } ∷ [];
    held = holding_too (holding (s.log.accepted + 1) first (length (whole_blocks bytes))) s.held;
    activity = begun (extent_of first) s.activity;
    marks = bits.marking (is_between first (length (whole_blocks bytes))) s.marks;
  }) None later
  alone-due = record {
    homes = after.1.1.0.0;
    done = λ i a at completed. sym (quiet i a at) ∙ completed;
    settings = left.rest.settings;
    tuple = left.rest.tuple;
    peer = left.rest.peer;
    connections = left.rest.connections;
    log = log-left;
    completed = sym (ap (map (λ a. completed_of (logged_of later a))) (quiet-none later quiet));
    barrier_is = sym (ap (λ b. if b then Some (last_epoch (primary_connection (with_completions later)).stream)
        else None) (down-on (with_completions later) down));
    stream = subst (LeavesStream l1) (sym still-so) (record {
      max_epoch = left.stream.max_epoch;
      on = λ so. absurd (both_ways (is_established (primary_connection h)) down so);
      here = λ so. absurd (both_ways (is_established (primary_connection h)) down so);
      off = λ none. left.stream.off none;
    });
    entries = entries-more s h later first (whole_blocks bytes) None left fresh refl refl refl;
    receipts = λ i number at. let few = left.rest.entries.receipts i number at in let size = length-append h.writes (new ∷ []) in omega arith;
    held = held-left;
    marks =
        ap (λ m. unmarking [] l1.last_writes (bits.marking (is_between first (length (whole_blocks bytes))) m)) left.rest.marks
        ∙ (ap (unmarking [] l1.last_writes) (marking-in h.settings.blocks (is_between first (length (whole_blocks bytes))) h.marks)
        ∙ unmarking-none [] l1.last_writes h.settings.blocks (marking write h.marks) (λ n r at. absurd (cc)));
    activity = subst (LeavesActivity (begun (extent_of first) s.activity) h.settings.slots) (sym unreleased-is)
        (begins-activity s.activity h.settings.slots (unreleased h) new left.rest.activity begins);
    end = left.rest.end;
  }
