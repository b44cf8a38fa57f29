-- Between steps no resync is over, and a step that completes nothing is followed by nothing.
use Rattle.std.proofs.Common.{ℕ, ◌≡◌, Bool, true, false, not, ◌&&◌, List, [], ◌∷◌, ◌++◌, map, Some, None, slice_get, refl, ◌∙◌, ap, subst}
use Rattle.std.proofs.lemmas.List.{append-nil}
use Rattle.std.specs.Prelude.{if◌then◌else◌}
use Rattle.blocks.specs.declared.outcome.What.{What}
use Rattle.blocks.specs.declared.outcome.Reply.{Reply}
use Rattle.blocks.specs.declared.outcome.Reply.TheVariants as reply
use Rattle.model.specs.Refusals.{done_with}
use Rattle.model.specs.Stream.{BarrierItem, UuidsItem, last_epoch}
use Rattle.model.specs.Identifiers.{sync_end}
use Rattle.model.specs.Primary.{Accepted, PrimaryConnection, PrimaryHistory, no_primary_connection, primary_connection, is_established, is_failed, is_open}
use Rattle.model.specs.Primary.{completes, in_resync}
use Rattle.model.specs.PrimarySteps.{Followed, completion_of, newly_completed, with_completions, epoch_is_over, appending, resync_is_over, ending_resync}
use Rattle.model.specs.PrimarySteps.{follows, succeeding, followed_with}
use Rattle.laws.proofs.Rules.ResyncEnds.{over-established, not-running}
use Rattle.laws.proofs.Primary.Ends.{established-parts}
use Rattle.laws.proofs.Primary.LawfulMoves.{last-changed}
use Rattle.laws.proofs.Primary.Moves.{IsKeptByMoves, keeps-run}
use Rattle.primary_protocol.specs.Leaves.{IsQuiet}
use Rattle.primary_protocol.specs.Steps.{IsReached}
use Rattle.primary_protocol.proofs.Common.Filters.{filter-none}
use Rattle.primary_protocol.proofs.Common.Following.{parted, barrier_of, ends-with, primary-connection-other}

-- no resync is over
abbrev pub IsResting : PrimaryHistory → Type 0
IsResting h = resync_is_over h ≡ false

ended-rests : (p : PrimaryHistory) → resync_is_over p ≡ true → IsResting (ending_resync p)
ended-rests p over =
    let on = over-established p over in
    let unshut = (established-parts (primary_connection p) on).0 in
    let turned : primary_connection (record p { tuple = sync_end p.tuple }) ≡ primary_connection p = primary-connection-other p (sync_end p.tuple) unshut in
    let last : primary_connection (ending_resync p) ≡ record (primary_connection (record p { tuple = sync_end p.tuple })) {
      stream =
          (primary_connection (record p { tuple = sync_end p.tuple })).stream ++ UuidsItem (sync_end p.tuple) ∷ [];
    } =
    last-changed (record p { tuple = sync_end p.tuple }) (λ (c : PrimaryConnection). record c { stream = c.stream ++ UuidsItem (sync_end p.tuple) ∷ [] })
    (no_primary_connection (sync_end p.tuple)) (ap (λ (c : PrimaryConnection). c.closed) turned ∙ unshut) in
    not-running (ending_resync p) (ends-with (primary_connection (ending_resync p)) (primary_connection (record p { tuple = sync_end p.tuple })).stream
    (UuidsItem (sync_end p.tuple))
    (ap (λ (c : PrimaryConnection). c.stream) last) refl)

-- what follows a step leaves none
pub follows-rest : (h : PrimaryHistory) → IsResting (follows h).history
follows-rest h = go (resync_is_over (parted (with_completions h))) refl
  where
    numbers : List ℕ
    numbers = map (λ accepted. accepted.write.number) (newly_completed h)

    go : (b : Bool) → resync_is_over (parted (with_completions h)) ≡ b
        → IsResting (followed_with b (parted (with_completions h)) (map (λ accepted. accepted.write.number) (newly_completed h))
        (barrier_of (with_completions h))).history
    go true over = ended-rests (parted (with_completions h)) over
    go false on = on

resting-kept : IsKeptByMoves IsResting (λ h. Unit {0})
resting-kept = record {
  following = λ h q. follows-rest h;
  opens = λ h sync loss closed fresh p. tt;
  submits = λ h first contents may p. tt;
  writes = λ h number waiting p. tt;
  faults = λ h number offsets waiting p. tt;
  sends = λ h standing due p. tt;
  greets = λ h frame standing new met p. tt;
  begins = λ h peer decided standing new late is fresh p. tt;
  receives = λ h ack standing begun may p. tt;
  applies = λ h ack standing begun may p. tt;
  clears = λ h ack standing begun may p. tt;
  confirms = λ h number size standing begun turn p. tt;
  refuses = λ h frame peer standing p. tt;
  resyncs = λ h block read may runs alone is p. tt;
  closes = λ h standing p. tt;
  receipts = λ h number p. p;
}

-- so between steps no resync is over
pub reached-rests : (h : PrimaryHistory) → IsReached h → IsResting h
reached-rests h r = subst IsResting r.is
    (keeps-run IsResting (λ h. Unit {0}) resting-kept (record { writes = λ h number waiting p q. tt; confirms = λ h number size standing begun turn p q. tt })
    r.events _ refl)

pub down-rests : (h : PrimaryHistory) → is_established (primary_connection h) ≡ false → resync_is_over h ≡ false
down-rests h none = not-running h (ap (λ b. b && in_resync (primary_connection h).stream) none)

-- Nothing to follow.

-- where the journal has what is to be completed, nothing is completed now
pub quiet-none : (h : PrimaryHistory) → IsQuiet h → newly_completed h ≡ []
quiet-none h quiet = filter-none (λ a. is_open h a && completes h a) h.writes
    (λ i a at. ap (λ b. (not b && not (is_failed a.outcome)) && completes h a) (quiet i a at) ∙ go (completes h a) (not (is_failed a.outcome)))
  where
    go : (b c : Bool) → ((not b && c) && b) ≡ false
    go true c = refl
    go false true = refl
    go false false = refl

-- A step that completes nothing, ends no epoch and no resync is followed by nothing.
pub still : (h : PrimaryHistory) → IsQuiet h → epoch_is_over h ≡ false → resync_is_over h ≡ false → (name : What)
    → succeeding name h ≡ (reply.Ok (done_with name), h)
still h quiet on rests name = ap answer (same-follow ∙ by-resync)
  where
    answer : Followed → Reply × PrimaryHistory
    answer after = (reply.Ok (record { what = name; completed = slice_get after.completed 0; barrier = after.barrier; synced = after.synced }), after.history)

    followed : PrimaryHistory → List ℕ → Followed
    followed g numbers = elim (resync_is_over (parted g)) [
      | true ↦ record { history = ending_resync (parted g); completed = numbers; barrier = barrier_of g; synced = true }
      | false ↦ record { history = parted g; completed = numbers; barrier = barrier_of g; synced = false }
    ]

    none : newly_completed h ≡ []
    none = quiet-none h quiet

    journal : with_completions h ≡ h
    journal = λ i. record h { journal = (ap (λ (l : List Accepted). h.journal ++ map (completion_of h) l) none ∙ append-nil h.journal) i }

    same-follow : follows h ≡ followed h []
    same-follow = λ i. followed (journal i) (map (λ accepted. accepted.write.number) (none i))

    parted-is : parted h ≡ h
    parted-is = ap (λ b. elim b as (λ _. PrimaryHistory) [ true ↦ appending_barrier | false ↦ h ]) on
      where
        appending_barrier : PrimaryHistory
        appending_barrier = appending (BarrierItem (last_epoch (primary_connection h).stream)) h

    by-resync : followed h [] ≡ record { history = h; completed = []; barrier = None; synced = false }
    by-resync =
        ap (λ b. followed_with b (parted h) ([]) (barrier_of h)) (ap resync_is_over parted-is ∙ rests)
        ∙ λ i. record {
          history = parted-is i;
          completed = [];
          barrier = if on i then Some (last_epoch (primary_connection h).stream)
              else None;
          synced = false;
        }
