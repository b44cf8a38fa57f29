-- What follows a step's effect: the journal, then the barrier, then the end of a resync.
use Rattle.std.proofs.Common.{ℕ, ◌≡◌, ◌-◌, ◌≤◌, Bool, true, false, not, ◌&&◌, ◌||◌, List, [], ◌∷◌, ◌++◌, length, map, Option, Some, None, slice_get}
use Rattle.std.proofs.Common.{refl, sym, ◌∙◌, ap, subst, ◌==◌}
use Rattle.std.proofs.Math.Bool.{or-false}
use Rattle.std.proofs.lemmas.List.{append-nil}
use Rattle.std.specs.Prelude.{option_map, is_none, if◌then◌else◌}
use Rattle.std.specs.List.{list_any}
use Rattle.std.proofs.lemmas.Bool.{both_ways}
use Rattle.std.proofs.lemmas.List.Folds.{list_any-append}
use Rattle.std.proofs.Math.Bool.{and-false, or-true}
use Rattle.blocks.specs.declared.tuple.Tuple.{Tuple}
use Rattle.blocks.specs.declared.outcome.What.{What}
use Rattle.blocks.specs.declared.outcome.Done.{Done}
use Rattle.blocks.specs.declared.outcome.Reply.{Reply}
use Rattle.blocks.specs.declared.outcome.Reply.TheVariants as reply
use Rattle.blocks.specs.Identifiers.{sync_end}
use Rattle.blocks.specs.Ranges.{below}
use Rattle.model.specs.Stream.{StreamItem, BarrierItem, UuidsItem, last_epoch}
use Rattle.model.specs.Primary.{Accepted, PrimaryConnection, PrimaryHistory, no_primary_connection, last_of, primary_connection, last_index, is_established}
use Rattle.model.specs.Primary.{is_completed, completes, unreleased}
use Rattle.model.specs.Primary.{open_writes, in_resync, is_sync_start, is_sync_end, resync_runs, under_way}
use Rattle.model.specs.PrimarySteps.{Followed, newly_completed, with_completions, epoch_is_over, appending, resync_is_over, ending_resync, succeeding}
use Rattle.model.specs.PrimarySteps.{followed_with}
use Rattle.transferlog.specs.Log as log
use Rattle.transferlog.specs.Writes.{completed_of}
use Rattle.laws.proofs.Rules.ResyncEnds.{over-established, not-running, over-by}
use Rattle.laws.proofs.Rules.EpochEnds.{over-standing}
use Rattle.laws.proofs.Lists.Last.{length-change}
use Rattle.laws.proofs.Primary.Homes.{HasHomes}
use Rattle.laws.proofs.Primary.HomesFollowing.{homes-completions, homes-parting}
use Rattle.laws.proofs.Primary.Ends.{established-parts}
use Rattle.primary_protocol.specs.Core as core
use Rattle.primary_protocol.specs.Core.{UnderWay, EndState, PrimaryState, entering, freeing, leaving, unmarking, reporting, barrier_item, is_over, ending}
use Rattle.primary_protocol.specs.Core.{done_of}
use Rattle.primary_protocol.specs.Core.{following}
use Rattle.primary_protocol.specs.Leaves.{logged_of, entry_of, held_of, marks_in, standing, LeavesLog, LeavesStream, LeavesActivity, EndLeft, UnderWayLeft}
use Rattle.primary_protocol.specs.Leaves.{LeavesRest, Leaves, holding_item, holding_write}
use Rattle.primary_protocol.proofs.Common.Filters.{any-map}
use Rattle.primary_protocol.proofs.Common.Completing.{MayComplete, quiet-completed, entries-completed}
use Rattle.primary_protocol.proofs.Common.Freeing.{held-completed}
use Rattle.primary_protocol.proofs.Common.Appending.{queued, rest-more, primary-connection-more}
use Rattle.primary_protocol.proofs.Common.Epochs.{epochs-plain}
use Rattle.primary_protocol.proofs.Common.Connections.{SeesSame}

-- the history once the barrier is appended, where the last epoch is over
abbrev pub parted : PrimaryHistory → PrimaryHistory
parted g = elim (epoch_is_over g) [ true ↦ appending (BarrierItem (last_epoch (primary_connection g).stream)) g | false ↦ g ]

-- the barrier of that
abbrev pub barrier_of : PrimaryHistory → Option ℕ
barrier_of g = if epoch_is_over g then Some (last_epoch (primary_connection g).stream) else None

-- What a step's effect leaves, before what follows: what is completed stands in the log's report and not yet in the journal, the
-- log's epochs have the barrier, and what was released is in the log's report alone.
pub record IsDue (s : PrimaryState) (barrier : Option ℕ) (h : PrimaryHistory) : Type 0 where
  pub homes : HasHomes h
  pub done : (i : ℕ) (a : Accepted) → slice_get h.writes i ≡ Some a → is_completed h a.write.number ≡ true → completes h a ≡ true
  pub settings : s.settings ≡ h.settings
  pub tuple : s.tuple ≡ h.tuple
  pub peer : s.peer ≡ h.peer
  pub connections : s.connections ≡ length h.connections
  pub log : LeavesLog s.log h
  pub completed : s.log.completed ≡ map (λ a. completed_of (logged_of h a)) (newly_completed h)
  pub barrier_is : barrier ≡ barrier_of (with_completions h)
  pub stream : LeavesStream s.log (parted (with_completions h))
  pub entries : s.entries ≡ map (entry_of h) h.writes
  pub receipts : (i number : ℕ) → slice_get h.receipts i ≡ Some number → number ≤ length h.writes
  pub held : s.held ≡ held_of h
  pub marks : unmarking s.log.released s.log.last_writes s.marks ≡ marks_in h.settings.blocks h.marks
  pub activity : LeavesActivity (leaving s.log.released s.activity) h.settings.slots (unreleased h)
  pub end : EndLeft s.end (primary_connection h)

-- The transition answers as the model's step does, and leaves what the step leaves.
pub record Follows (got : Done × PrimaryState) (step : Reply × PrimaryHistory) : Type 0 where
  pub reply : reply.Ok got.0 ≡ step.0
  pub leaves : Leaves got.1 step.1

-- Lists and truth values.

-- an end that queues nothing
queued-none : (v : Option EndState) → option_map (λ (e : EndState). record e { unsent = e.unsent ++ [] }) v ≡ v
queued-none None = refl
queued-none (Some e) = λ i. Some (record e { unsent = append-nil e.unsent i })

-- Streams.

pub runs-more : (c d : PrimaryConnection) (item : StreamItem) → d.stream ≡ c.stream ++ item ∷ [] → is_established d ≡ is_established c
    → is_sync_start item ≡ false → is_sync_end item ≡ false
    → resync_runs d ≡ resync_runs c
runs-more c d item stream on no_start no_end =
    λ i. on i && (((ap (list_any is_sync_start) stream
    ∙ (list_any-append is_sync_start c.stream (item ∷ [])
    ∙ (ap (λ b. list_any is_sync_start c.stream || (b || false)) no_start ∙ or-false (list_any is_sync_start c.stream)))) i)
    && not ((ap (list_any is_sync_end) stream
    ∙ (list_any-append is_sync_end c.stream (item ∷ [])
    ∙ (ap (λ b. list_any is_sync_end c.stream || (b || false)) no_end ∙ or-false (list_any is_sync_end c.stream)))) i))

pub ends-with : (d : PrimaryConnection) (items : List StreamItem) (item : StreamItem) → d.stream ≡ items ++ item ∷ [] → is_sync_end item ≡ true
    → resync_runs d ≡ false
ends-with d items item stream ends =
    ap (λ b. is_established d && (list_any is_sync_start d.stream && not b)) (ap (list_any is_sync_end) stream
    ∙ (list_any-append is_sync_end items (item ∷ []) ∙ (ap (λ b. list_any is_sync_end items || (b || false)) ends ∙ or-true (list_any is_sync_end items))))
    ∙ (ap (λ b. is_established d && b) (and-false (list_any is_sync_start d.stream)) ∙ and-false (is_established d))

-- What is read off.

-- a running resync is over at the state where it is in the history
over-same : (t : PrimaryState) (p : PrimaryHistory) → t.marks ≡ marks_in p.settings.blocks p.marks → EndLeft t.end (primary_connection p)
    → is_over t ≡ resync_is_over p
over-same t p marks end = go t.end end
  where
    unmarked : not (list_any (λ mark. mark) t.marks) ≡ not (list_any p.marks (below p.settings.blocks))
    unmarked = ap (λ (l : List Bool). not (list_any (λ mark. mark) l)) marks ∙ ap not (any-map (λ mark. mark) p.marks (below p.settings.blocks))

    ways : (v : Option UnderWay) → UnderWayLeft v (primary_connection p) → is_none v ≡ (length (under_way (primary_connection p)) == 0)
    ways None is = sym (ap (λ (l : List (ℕ × StreamItem)). length l == 0) is)
    ways (Some way) is = sym (ap (λ (l : List (ℕ × StreamItem)). length l == 0) is.1)

    closed-not : (c : PrimaryConnection) → c.closed ≡ true → resync_runs c ≡ false
    closed-not c shut = ap (λ b. (not b && c.begun) && in_resync c.stream) shut

    go : (v : Option EndState) → EndLeft v (primary_connection p)
        → elim v as (λ _. Bool) [ None ↦ false | Some e ↦ (e.resync && is_none e.under_way) && not (list_any (λ mark. mark) t.marks) ] ≡ resync_is_over p
    go None shut = sym (not-running p (closed-not (primary_connection p) shut))
    go (Some e) l = over-by p e.resync (is_none e.under_way) _ l.resync (ways e.under_way l.under_way) unmarked

-- the last connection, whatever the tuple is
pub primary-connection-other : (p : PrimaryHistory) (tuple : Tuple) → (primary_connection p).closed ≡ false
    → primary_connection (record p { tuple = tuple }) ≡ primary_connection p
primary-connection-other p tuple standing = go p.connections standing
  where
    go : (cs : List PrimaryConnection) → (last_of (no_primary_connection p.tuple) cs).closed ≡ false
        → last_of (no_primary_connection tuple) cs ≡ last_of (no_primary_connection p.tuple) cs
    go [] standing = absurd (cc)
    go (c ∷ cs) standing = refl

module _ (s : PrimaryState) (barrier : Option ℕ) (h : PrimaryHistory) (due : IsDue s barrier h) where
  may : MayComplete h
  may = record { numbered = due.homes.numbered; done = due.done }

  g : PrimaryHistory
  g = with_completions h

  -- the journal is written, and the log's report put down
  reported : LeavesRest (reporting s) (with_completions h)
  reported = record {
    settings = due.settings;
    tuple = due.tuple;
    peer = due.peer;
    connections = due.connections;
    log = record {
      protocol = due.log.protocol;
      backlog = due.log.backlog;
      accepted = due.log.accepted;
      connection = due.log.connection;
      writes = due.log.writes;
      last_writes = due.log.last_writes;
    };
    entries = record { entries = (λ i. entering (due.completed i) (due.entries i)) ∙ entries-completed h may; receipts = due.receipts };
    marks = due.marks;
    held = (λ i. freeing (due.completed i) (due.held i)) ∙ held-completed h may;
    activity = due.activity;
    end = due.end;
    quiet = quiet-completed h may;
  }

  -- the state once the barrier waits to be sent
  abbrev with_barrier : PrimaryState
  with_barrier = core.appending (barrier_item barrier) (reporting s)

  rest-parted : LeavesRest (core.appending (barrier_item barrier) (reporting s)) (parted (with_completions h))
  rest-parted = go (epoch_is_over (with_completions h)) refl due.barrier_is
    where
      go : (b : Bool) → epoch_is_over (with_completions h) ≡ b
          → barrier ≡ (if b then Some (last_epoch (primary_connection (with_completions h)).stream) else None)
          → LeavesRest (core.appending (barrier_item barrier) (reporting s))
          (elim b as (λ _. PrimaryHistory) [
            | true ↦ appending (BarrierItem (last_epoch (primary_connection (with_completions h)).stream))
                (with_completions h)
            | false ↦ with_completions h
          ])
      go false on none =
          subst (λ (v : Option ℕ). LeavesRest (core.appending (barrier_item v) (reporting s)) (with_completions h)) (sym none)
          (subst (λ (v : Option EndState). LeavesRest (record (reporting s) { end = v }) (with_completions h)) (sym (queued-none s.end)) reported)
      go true over some =
          let on = established-over over in
          let epoch : ℕ = last_epoch (primary_connection (with_completions h)).stream in
          let more = rest-more (reporting s) (with_completions h) (BarrierItem epoch) reported (homes-completions h due.homes) on refl in
          let out = primary-connection-more (reporting s) (with_completions h) (BarrierItem epoch) reported (homes-completions h due.homes) on refl in
          subst (λ (v : Option ℕ). LeavesRest (core.appending (barrier_item v) (reporting s)) (appending (BarrierItem epoch) (with_completions h))) (sym some)
          (subst (λ (v : Option EndState). LeavesRest (record (reporting s) { end = v }) (appending (BarrierItem epoch) (with_completions h)))
          (same s.end due.end (sym (runs-more (primary_connection (with_completions h))
          (primary_connection (appending (BarrierItem epoch) (with_completions h)))
          (BarrierItem epoch) (ap (λ (c : PrimaryConnection). c.stream) out) (ap is_established out) refl refl))) more)
        where
          established-over : epoch_is_over (with_completions h) ≡ true → is_established (primary_connection (with_completions h)) ≡ true
          established-over is = over-standing (with_completions h) is

          same : (v : Option EndState) → EndLeft v (primary_connection h) → {r : Bool} → resync_runs (primary_connection h) ≡ r
              → option_map (queued (BarrierItem (last_epoch (primary_connection (with_completions h)).stream) ∷ []) r) v ≡ option_map
              (λ (e : EndState). record e { unsent = e.unsent ++ BarrierItem (last_epoch (primary_connection (with_completions h)).stream) ∷ [] }) v
          same None shut is = refl
          same (Some e) l is = λ i. Some (record e {
            unsent = e.unsent ++ BarrierItem (last_epoch (primary_connection (with_completions h)).stream) ∷ [];
            resync = (sym is ∙ sym l.resync) i;
          })

  homes-parted : HasHomes (parted (with_completions h))
  homes-parted = go (epoch_is_over (with_completions h)) refl
    where
      go : (b : Bool) → epoch_is_over (with_completions h) ≡ b
          → HasHomes (elim b as (λ _. PrimaryHistory) [
            | true ↦ appending (BarrierItem (last_epoch (primary_connection (with_completions h)).stream))
                (with_completions h)
            | false ↦ with_completions h
          ])
      go true over = homes-parting (with_completions h) over (homes-completions h due.homes)
      go false on = homes-completions h due.homes

  -- A resync that is over ends.
  ended : resync_is_over (parted (with_completions h)) ≡ true
      → Leaves (ending (core.appending (barrier_item barrier) (reporting s))) (ending_resync (parted (with_completions h)))
  ended over = record { rest = rest; stream = stream }
    where
      p : PrimaryHistory
      p = parted (with_completions h)

      on : is_established (primary_connection (parted (with_completions h))) ≡ true
      on = over-established (parted (with_completions h)) over

      standing_so : (primary_connection (parted (with_completions h))).closed ≡ false
      standing_so = (established-parts (primary_connection (parted (with_completions h))) on).0

      tuple : Tuple
      tuple = sync_end (parted (with_completions h)).tuple

      -- with the tuple that ends it
      q : PrimaryHistory
      q = record (parted (with_completions h)) { tuple = sync_end (parted (with_completions h)).tuple }

      last : primary_connection (record (parted (with_completions h)) { tuple = sync_end (parted (with_completions h)).tuple }) ≡ primary_connection
          (parted (with_completions h))
      last = primary-connection-other (parted (with_completions h)) (sync_end (parted (with_completions h)).tuple) standing_so

      homes-turned : HasHomes (record (parted (with_completions h)) { tuple = sync_end (parted (with_completions h)).tuple })
      homes-turned = record {
        numbered = homes-parted.numbered;
        housed = homes-parted.housed;
        homed = homes-parted.homed;
        empty = homes-parted.empty;
        refused = homes-parted.refused;
        journal = homes-parted.journal;
      }

      t : PrimaryState
      t = record (core.appending (barrier_item barrier) (reporting s)) { tuple = sync_end s.tuple; log = (log.uuids_placed s.log).1 }

      turned : LeavesRest (record (core.appending (barrier_item barrier) (reporting s)) { tuple = sync_end s.tuple; log = (log.uuids_placed s.log).1 })
          (record (parted (with_completions h)) { tuple = sync_end (parted (with_completions h)).tuple })
      turned = record {
        settings = rest-parted.settings;
        tuple = ap sync_end rest-parted.tuple;
        peer = rest-parted.peer;
        connections = rest-parted.connections;
        log = record {
          protocol = rest-parted.log.protocol;
          backlog = rest-parted.log.backlog;
          accepted = rest-parted.log.accepted;
          connection = rest-parted.log.connection ∙ sym (λ i. if is_established (last i) then Some (last_index (parted (with_completions h)).connections)
              else None);
          writes = rest-parted.log.writes;
          last_writes = rest-parted.log.last_writes;
        };
        entries = record { entries = rest-parted.entries.entries; receipts = rest-parted.entries.receipts };
        marks = rest-parted.marks;
        held = rest-parted.held ∙ sym (held-last
            (primary_connection (record (parted (with_completions h)) { tuple = sync_end (parted (with_completions h)).tuple }))
            (primary_connection (parted (with_completions h))) last);
        activity = rest-parted.activity;
        end = subst (EndLeft (core.appending (barrier_item barrier) (reporting s)).end) (sym last) rest-parted.end;
        quiet = rest-parted.quiet;
      }
        where
          held-last : (c d : PrimaryConnection) → c ≡ d
              → map holding_item (if is_established c then under_way c
              else []) ++ map holding_write (open_writes (parted (with_completions h))) ≡ map holding_item
              (if is_established d then under_way d else []) ++ map holding_write (open_writes (parted (with_completions h)))
          held-last c d same = λ i. map holding_item (if is_established (same i) then under_way (same i)
              else []) ++ map holding_write (open_writes (parted (with_completions h)))

      on-turned : is_established (primary_connection (record (parted (with_completions h)) { tuple = sync_end (parted (with_completions h)).tuple })) ≡ true
      on-turned = ap is_established last ∙ on

      closing_item : StreamItem
      closing_item = UuidsItem (sync_end (parted (with_completions h)).tuple)

      out : primary_connection (ending_resync (parted (with_completions h))) ≡
          record (primary_connection (record (parted (with_completions h)) { tuple = sync_end (parted (with_completions h)).tuple })) {
            stream =
                (primary_connection (record (parted (with_completions h)) { tuple = sync_end (parted (with_completions h)).tuple })).stream
                ++ UuidsItem (sync_end (parted (with_completions h)).tuple) ∷ [];
          }
      out = primary-connection-more t q (UuidsItem (sync_end (parted (with_completions h)).tuple)) turned homes-turned on-turned refl

      over_runs : resync_runs (primary_connection (ending_resync (parted (with_completions h)))) ≡ false
      over_runs = ends-with (primary_connection (ending_resync (parted (with_completions h))))
          (primary_connection (record (parted (with_completions h)) { tuple = sync_end (parted (with_completions h)).tuple })).stream
          (UuidsItem (sync_end (parted (with_completions h)).tuple)) (ap (λ (c : PrimaryConnection). c.stream) out) refl

      tuples : UuidsItem (sync_end s.tuple) ≡ UuidsItem (sync_end (parted (with_completions h)).tuple)
      tuples = ap (λ (x : Tuple). UuidsItem (sync_end x)) rest-parted.tuple

      rest : LeavesRest (ending (core.appending (barrier_item barrier) (reporting s))) (ending_resync (parted (with_completions h)))
      rest =
          subst (λ (i : StreamItem). LeavesRest (record t { end = option_map (queued (i ∷ []) false) t.end }) (ending_resync (parted (with_completions h))))
          (sym tuples)
          (subst (λ (b : Bool). LeavesRest (record t { end = option_map (queued (UuidsItem (sync_end (parted (with_completions h)).tuple) ∷ []) b) t.end })
          (ending_resync (parted (with_completions h)))) over_runs
          (rest-more t q (UuidsItem (sync_end (parted (with_completions h)).tuple)) turned homes-turned on-turned refl))

      stream : LeavesStream (log.uuids_placed s.log).1 (ending_resync (parted (with_completions h)))
      stream = record {
        max_epoch = due.stream.max_epoch;
        on = λ so. epochs-plain s.log (log.uuids_placed s.log).1 (primary_connection (parted (with_completions h)))
            (primary_connection (ending_resync (parted (with_completions h))))
            (UuidsItem (sync_end (parted (with_completions h)).tuple)) (due.stream.on on)
            (subst (SeesSame (primary_connection (parted (with_completions h))))
            (sym (out ∙ ap (λ (c : PrimaryConnection). record c { stream = c.stream ++ UuidsItem (sync_end (parted (with_completions h)).tuple) ∷ [] }) last))
            (record { closed = refl; pushed = refl; taken = refl; refused = refl }))
            (ap (λ (c : PrimaryConnection). c.stream) out
            ∙ ap (λ (c : PrimaryConnection). c.stream ++ UuidsItem (sync_end (parted (with_completions h)).tuple) ∷ []) last) refl
            refl refl refl refl refl refl;
        here = λ so i a at behind.
            let place = due.stream.here on i a at behind in (
              place.0,
              place.1 ∙ ap (λ m. Some (record { index = m - 1; place = place.0 }))
                  (sym (length-change (λ (c : PrimaryConnection). record c
                  { stream = c.stream ++ UuidsItem (sync_end (parted (with_completions h)).tuple) ∷ [] })
                  (parted (with_completions h)).connections)),
            );
        off = λ none. absurd (both_ways (is_established (primary_connection (ending_resync (parted (with_completions h))))) none (ap is_established out
            ∙ on-turned));
      }

  -- Step and transition agree: what follows is reported and left alike.
  pub follow : (name : What) → Follows (following name barrier s) (succeeding name h)
  follow name = go (resync_is_over (parted (with_completions h))) refl
    where
      first : option_map (λ c. c.number) (slice_get s.log.completed 0) ≡ slice_get (map (λ accepted. accepted.write.number) (newly_completed h)) 0
      first = ap (λ l. option_map (λ c. c.number) (slice_get l 0)) due.completed ∙ heads (newly_completed h)
        where
          heads : (xs : List Accepted) → option_map (λ c. c.number) (slice_get (map (λ a. completed_of (logged_of h a)) xs) 0) ≡ slice_get
              (map (λ accepted. accepted.write.number) xs) 0
          heads [] = refl
          heads (x ∷ xs) = refl

      same : is_over (core.appending (barrier_item barrier) (reporting s)) ≡ resync_is_over (parted (with_completions h))
      same = over-same (core.appending (barrier_item barrier) (reporting s)) (parted (with_completions h)) rest-parted.marks rest-parted.end

      model-by : Bool → Followed
      model-by b = followed_with b (parted (with_completions h)) (map (λ accepted. accepted.write.number) (newly_completed h)) (barrier_of (with_completions h))

      core-by : Bool → Done × PrimaryState
      core-by b = if b then (done_of name barrier true s.log, ending (core.appending (barrier_item barrier) (reporting s)))
          else (done_of name barrier false s.log, core.appending (barrier_item barrier) (reporting s))

      step-by : Bool → Reply × PrimaryHistory
      step-by b = (
        reply.Ok (record {
          what = name;
          completed = slice_get (model-by b).completed 0;
          barrier = (model-by b).barrier;
          synced = (model-by b).synced;
        }),
        (model-by b).history,
      )

      by : (b : Bool) → resync_is_over (parted (with_completions h)) ≡ b → Follows (core-by b) (step-by b)
      by true over = record {
        reply = λ i. reply.Ok (record { what = name; completed = first i; barrier = due.barrier_is i; synced = true });
        leaves = ended over;
      }
      by false on = record {
        reply = λ i. reply.Ok (record { what = name; completed = first i; barrier = due.barrier_is i; synced = false });
        leaves = record { rest = rest-parted; stream = due.stream };
      }

      go : (b : Bool) → resync_is_over (parted (with_completions h)) ≡ b → Follows (following name barrier s) (succeeding name h)
      go b is = subst (λ (x : Done × PrimaryState). Follows x (succeeding name h)) (ap core-by (sym (same ∙ is)))
          (subst (Follows (core-by b)) (ap step-by (sym is)) (by b is))
