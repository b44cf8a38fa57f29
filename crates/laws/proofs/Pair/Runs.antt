-- A run of a pair is a run of each node by itself, and their frames are joined.
use Rattle.std.proofs.Common.{ℕ, ◌≡◌, Bool, not, ◌&&◌, List, [], ◌∷◌, ◌++◌, length, Option, Some, None, slice_get, refl, sym, ◌∙◌, ap, subst, arith, zero, suc}
use Rattle.std.proofs.Common.{inl, inr}
use Rattle.std.specs.Prelude.{option_map, if◌then◌else◌}
use Rattle.blocks.specs.declared.refusal.Refusal.{Refusal}
use Rattle.blocks.specs.declared.refusal.Refusal.TheVariants.{BadRange, UnknownJob, NotDrained}
use Rattle.blocks.specs.declared.settings.Settings.{Settings}
use Rattle.blocks.specs.declared.outcome.Reply.{Reply}
use Rattle.blocks.specs.declared.outcome.Reply.TheVariants as reply
use Rattle.blocks.specs.declared.outcome.What.TheVariants as what
use Rattle.model.specs.Stream.{below, contents_of, IsBeginning}
use Rattle.model.specs.Refusals.{Test, first_refusal}
use Rattle.model.specs.Primary.{PrimaryHistory, PrimaryConnection, no_primary_connection, primary_connection_at}
use Rattle.model.specs.PrimarySteps.{open_tests, opened, open_primary, succeeding, tested, follows, is_unfinished, accepted_at, local_fault}
use Rattle.model.specs.Secondary.{SecondaryHistory, SecondaryConnection, no_secondary_connection, secondary_connection, with_secondary_connection, is_drained}
use Rattle.model.specs.Secondary.{items_taken, secondary_connection_at}
use Rattle.model.specs.SecondarySteps.{answering, open_secondary_tests, opened_secondary, open_secondary, succeeding_secondary, tested_secondary, peer_tests}
use Rattle.model.specs.SecondarySteps.{peer_fault}
use Rattle.model.specs.LocalRuns.{PrimaryEvent, Opens, Submits, WritesLocally, FailsLocally, Sends, Takes, Resyncs, FailsResync, Closes, primary_after}
use Rattle.model.specs.LocalRuns.{primary_run, SecondaryEvent, OpensToo, Receives, Applies, FailsToApply, Acknowledges, ClosesToo, secondary_after}
use Rattle.model.specs.LocalRuns.{secondary_run}
use Rattle.model.specs.Headline.{IsJoined, pushed_by, pushed_back_by}
use Rattle.model.specs.Pair.{Event, OpenEvent, SubmitEvent, LocalEvent, LocalFaultEvent, SendEvent, ReceiveEvent, PeerEvent, PeerFaultEvent, AckOutEvent}
use Rattle.model.specs.Pair.{AckInEvent, ResyncEvent, ResyncFaultEvent, ClosePrimaryEvent, CloseSecondaryEvent, PairHistory, has_room, next_frame}
use Rattle.model.specs.Pair.{answers_have_room, next_answer, keeps_too_many, local_fault_kept, peer_fault_kept, open_pair_tests, open_pair, step, run}
use Rattle.laws.proofs.Primary.Moves.{keeps-after, Reads}
use Rattle.laws.proofs.Primary.Faithful.{AreOwn, own_read, own-append}
use Rattle.laws.proofs.Primary.Homes.{HasHomes}
use Rattle.laws.proofs.Primary.HomesMoves.{homes-kept, homes-released, homes-opening}
use Rattle.laws.proofs.Pair.Links.{AreLinked}
use Rattle.laws.proofs.Pair.Primary.{HasEnds, ends-following, ends-submit, ends-local, ends-fault, ends-send, ends-resync, ends-resync-fault, ends-close}
use Rattle.laws.proofs.Pair.Primary.{ends-ack-in}
use Rattle.laws.proofs.Pair.Secondary.{HasEndsToo, ends-answering, ends-receive, ends-peer, ends-fault-too, ends-push, ends-close-too}
use Rattle.laws.proofs.Lists.Pairs.{Pairs, pairs-length, pairs-get, pairs-append}
use Rattle.laws.proofs.Lists.Tests.{test-passed}
use Rattle.laws.proofs.Secondary.Numbers.{NumbersRise, AreCounted, IsSeen, counted-after, numbers-rise, secondary-connection-there, secondary-connection-cases}
use Rattle.laws.proofs.Joining.Ends.{primary-connection-there, primary-connection-cases}
use Rattle.laws.proofs.Lists.Elements.{get-there}
use Rattle.model.specs.Theorems.{Opening, primary_at, secondary_at, pair_at}
use Rattle.std.proofs.lemmas.Option.{slice_get_within}

-- The connections of a pair are linked, each end with the other, and the primary's streams are empty until they begin.
pub record IsLinkedPair (h : PairHistory) : Type 0 where
  pub homes : HasHomes h.primary
  pub pairs : Pairs (AreLinked h.primary.settings h.secondary.settings) h.primary.connections h.secondary.connections
  pub counted : AreCounted h.secondary.connections

-- Events of each node by itself lead from one history of a pair to another.
pub record AreRuns (h later : PairHistory) : Type 0 where
  pub here : List PrimaryEvent
  pub there : List SecondaryEvent
  pub primary : later.primary ≡ primary_run here h.primary
  pub secondary : later.secondary ≡ secondary_run there h.secondary
  -- the resyncs copy what the local disk has
  pub own : AreOwn here

-- it does, and the pair is linked then
abbrev LeadsTo : PairHistory → PairHistory → Type 0
LeadsTo h later = AreRuns h later × IsLinkedPair later

leads-self : (h : PairHistory) → IsLinkedPair h → LeadsTo h h
leads-self h linked = (record { here = []; there = []; primary = refl; secondary = refl; own = tt }, linked)

-- an event of the primary
leads-primary : (h : PairHistory) (event : PrimaryEvent) → Reads own_read event → IsLinkedPair h
    → HasEnds h.primary.settings h.secondary.settings h.secondary.connections (primary_after event h.primary)
    → LeadsTo h (record h { primary = primary_after event h.primary })
leads-primary h event own linked ends = (
  record { here = event ∷ []; there = []; primary = refl; secondary = refl; own = (own, tt) },
  record {
    homes = keeps-after HasHomes HasHomes homes-kept homes-released event h.primary linked.homes;
    pairs = subst (λ (s : Settings). Pairs (AreLinked s h.secondary.settings) (primary_after event h.primary).connections h.secondary.connections)
        (sym ends.settings) ends.pairs;
    counted = linked.counted;
  },
)

-- an event of the secondary
leads-secondary : (h : PairHistory) (event : SecondaryEvent) → IsSeen event → IsLinkedPair h
    → HasEndsToo h.primary.settings h.secondary.settings h.primary.connections (secondary_after event h.secondary)
    → LeadsTo h (record h { secondary = secondary_after event h.secondary })
leads-secondary h event seen linked ends = (
  record { here = []; there = event ∷ []; primary = refl; secondary = refl; own = tt },
  record {
    homes = linked.homes;
    pairs = subst (λ (s : Settings). Pairs (AreLinked h.primary.settings s) h.primary.connections (secondary_after event h.secondary).connections)
        (sym ends.settings) ends.pairs;
    counted = counted-after event seen h.secondary linked.counted;
  },
)

-- Both ends open.

primary-passed : (h : PrimaryHistory) (tests : List Test) (done : Unit {0} → Reply × PrimaryHistory) → first_refusal tests ≡ None
    → tested h tests done ≡ done tt
primary-passed h tests done none =
    ap (λ (v : Option Refusal). elim v as (λ _. Reply × PrimaryHistory) [ Some refusal ↦ (reply.Refused refusal, h) | None ↦ done tt ]) none

secondary-passed : (h : SecondaryHistory) (tests : List Test) (done : Unit {0} → Reply × SecondaryHistory) → first_refusal tests ≡ None
    → tested_secondary h tests done ≡ done tt
secondary-passed h tests done none =
    ap (λ (v : Option Refusal). elim v as (λ _. Reply × SecondaryHistory) [ Some refusal ↦ (reply.Refused refusal, h) | None ↦ done tt ]) none

-- two new ends are linked
linked-new : (here there : Settings) (c : PrimaryConnection) (d : SecondaryConnection) → c.pushed ≡ 0 → c.taken ≡ [] → d.pushed ≡ 0 → d.taken ≡ []
    → AreLinked here there c d
linked-new here there c d sent taken answered taken_too = record {
  out = rw taken_too (_, refl);
  back = rw taken (_, refl);
  sent = omega arith;
  answered = omega arith;
}

opens-linked : (sync loss : ℕ) (h : PairHistory) → IsLinkedPair h
    → Pairs (AreLinked h.primary.settings h.secondary.settings) (follows (opened h.primary sync loss)).history.connections
    (with_secondary_connection answering (opened_secondary 0 h.secondary)).connections
    × ((follows (opened h.primary sync loss)).history.settings ≡ h.primary.settings)
opens-linked sync loss h linked =
    let p : PrimaryHistory = h.primary in
    let s : SecondaryHistory = h.secondary in
    let both : HasEnds p.settings s.settings (opened_secondary 0 s).connections (opened p sync loss) = record {
      settings = refl;
      pairs = pairs-append (AreLinked p.settings s.settings) p.connections s.connections _ _ linked.pairs
          (linked-new p.settings s.settings _ _ refl refl refl refl);
    } in
    let followed = ends-following p.settings s.settings (opened_secondary 0 s).connections (no_secondary_connection s) (opened p sync loss) both in
    let answered = ends-answering p.settings s.settings (follows (opened p sync loss)).history.connections (no_primary_connection p.tuple)
    (opened_secondary 0 s)
    (record { settings = refl; pairs = followed.pairs }) in
    (answered.pairs, followed.settings)

leads-open : (sync loss : ℕ) (out_of_memory : Bool) (h : PairHistory) → IsLinkedPair h → LeadsTo h (open_pair sync loss out_of_memory h).1
leads-open sync loss out_of_memory h linked = go (first_refusal (open_pair_tests h sync loss out_of_memory)) refl
  where
    both : first_refusal (open_pair_tests h sync loss out_of_memory) ≡ None
        → LeadsTo h (record { primary = (open_primary sync loss out_of_memory h.primary).1; secondary = (open_secondary 0 h.secondary).1 })
    both none =
        let tests = test-passed (not ((secondary_connection h.secondary).closed && is_drained h.secondary)) NotDrained
        (open_tests h.primary sync loss out_of_memory) none in
        let here : (open_primary sync loss out_of_memory h.primary).1 ≡ (follows (opened h.primary sync loss)).history =
        ap (λ (r : Reply × PrimaryHistory). r.1)
        (primary-passed h.primary (open_tests h.primary sync loss out_of_memory) (λ _. succeeding what.Nothing (opened h.primary sync loss)) tests.1) in
        let free : first_refusal (open_secondary_tests h.secondary) ≡ None = ap (λ b. if b then Some NotDrained else None) tests.0 in
        let there : (open_secondary 0 h.secondary).1 ≡ with_secondary_connection answering (opened_secondary 0 h.secondary) =
        ap (λ (r : Reply × SecondaryHistory). r.1)
        (secondary-passed h.secondary (open_secondary_tests h.secondary) (λ _. succeeding_secondary what.Nothing (opened_secondary 0 h.secondary)) free) in
        let linked_too = opens-linked sync loss h linked in (
          record { here = Opens sync loss out_of_memory ∷ []; there = OpensToo 0 ∷ []; primary = refl; secondary = refl; own = (tt, tt) },
          record {
            homes = keeps-after HasHomes HasHomes homes-kept homes-released (Opens sync loss out_of_memory) h.primary linked.homes;
            pairs =
                rw (here, there) (subst (λ (s : Settings). Pairs (AreLinked s h.secondary.settings) (follows (opened h.primary sync loss)).history.connections
                (with_secondary_connection answering (opened_secondary 0 h.secondary)).connections) (sym linked_too.1) linked_too.0);
            counted = counted-after (OpensToo 0) refl h.secondary linked.counted;
          },
        )

    go : (v : Option Refusal) → first_refusal (open_pair_tests h sync loss out_of_memory) ≡ v → LeadsTo h (elim v as (λ _. Reply × PairHistory) [
      | Some refusal ↦ (reply.Refused refusal, h)
      | None ↦ let primary = open_primary sync loss out_of_memory h.primary in (
        primary.0,
        record { primary = primary.1; secondary = (open_secondary 0 h.secondary).1 },
      )
    ]).1
    go (Some refusal) none = leads-self h linked
    go None none = both none

-- Faults, where more blocks may be said to be kept than there are.

leads-local-fault : (number kept : ℕ) (h : PairHistory) → IsLinkedPair h → LeadsTo h (record h { primary = (local_fault_kept number kept h.primary).1 })
leads-local-fault number kept h linked =
    go (first_refusal ((not (is_unfinished h.primary number), UnknownJob) ∷
    (keeps_too_many kept (option_map (λ accepted. length accepted.write.contents) (accepted_at h.primary number)), BadRange) ∷ []))
  where
    go : (v : Option Refusal) → LeadsTo h
        (record h {
          primary = (elim v as (λ _. Reply × PrimaryHistory) [
            | Some refusal ↦ (reply.Refused refusal, h.primary)
            | None ↦ local_fault number
                (below kept) h.primary
          ]).1;
        })
    go (Some refusal) = leads-self h linked
    go None =
        leads-primary h (FailsLocally number (below kept)) tt linked
        (ends-fault h.primary.settings h.secondary.settings h.secondary.connections (no_secondary_connection h.secondary) number (below kept) h.primary
        (record { settings = refl; pairs = linked.pairs }))

leads-peer-fault : (place kept : ℕ) (h : PairHistory) → IsLinkedPair h → LeadsTo h (record h { secondary = (peer_fault_kept place kept h.secondary).1 })
leads-peer-fault place kept h linked =
    go (first_refusal (peer_tests h.secondary place
    ++ (
      keeps_too_many kept (option_map (λ item. length (contents_of item)) (slice_get (items_taken (secondary_connection h.secondary)) place)),
      BadRange,
    ) ∷ []))
  where
    go : (v : Option Refusal)
        → LeadsTo h (record h {
          secondary =
              (elim v as (λ _. Reply × SecondaryHistory) [
                | Some refusal ↦ (reply.Refused refusal, h.secondary)
                | None ↦ peer_fault place
                    (below kept) h.secondary
              ]).1;
        })
    go (Some refusal) = leads-self h linked
    go None =
        leads-secondary h (FailsToApply place (below kept)) tt linked
        (ends-fault-too h.primary.settings h.secondary.settings h.primary.connections (no_primary_connection h.primary.tuple) place (below kept) h.secondary
        (record { settings = refl; pairs = linked.pairs }))

-- One event of the pair is at most one of each node.
leads-step : (event : Event) (out_of_memory : Bool) (h : PairHistory) → IsLinkedPair h → LeadsTo h (step event out_of_memory h).1
leads-step event out_of_memory h linked = go event
  where
    here : HasEnds h.primary.settings h.secondary.settings h.secondary.connections h.primary
    here = record { settings = refl; pairs = linked.pairs }

    there : HasEndsToo h.primary.settings h.secondary.settings h.primary.connections h.secondary
    there = record { settings = refl; pairs = linked.pairs }

    go : (event : Event) → LeadsTo h (step event out_of_memory h).1
    go (OpenEvent sync loss) = leads-open sync loss out_of_memory h linked
    go (SubmitEvent first contents) =
        leads-primary h (Submits first contents out_of_memory) tt linked
        (ends-submit h.primary.settings h.secondary.settings h.secondary.connections (no_secondary_connection h.secondary) first contents out_of_memory
        h.primary here)
    go (LocalEvent number) = leads-primary h (WritesLocally number) tt linked
        (ends-local h.primary.settings h.secondary.settings h.secondary.connections (no_secondary_connection h.secondary) number h.primary here)
    go (LocalFaultEvent number kept) = leads-local-fault number kept h linked
    go SendEvent = leads-primary h (Sends (has_room h) out_of_memory) tt linked
        (ends-send h.primary.settings h.secondary.settings h.secondary.connections (no_secondary_connection h.secondary)
        (has_room h) out_of_memory h.primary here)
    go ReceiveEvent =
        leads-secondary h (Receives (next_frame h) out_of_memory) tt linked
        (ends-receive h.primary.settings h.secondary.settings h.primary.connections (no_primary_connection h.primary.tuple)
        (next_frame h) out_of_memory h.secondary there
        refl)
    go (PeerEvent place) = leads-secondary h (Applies place) tt linked
        (ends-peer h.primary.settings h.secondary.settings h.primary.connections (no_primary_connection h.primary.tuple) place h.secondary there)
    go (PeerFaultEvent place kept) = leads-peer-fault place kept h linked
    go AckOutEvent =
        leads-secondary h (Acknowledges (answers_have_room h) out_of_memory) tt linked
        (ends-push h.primary.settings h.secondary.settings h.primary.connections (no_primary_connection h.primary.tuple)
        (answers_have_room h) out_of_memory h.secondary
        there)
    go AckInEvent =
        leads-primary h (Takes (next_answer h) out_of_memory) tt linked
        (ends-ack-in h.primary.settings h.secondary.settings h.secondary.connections (no_secondary_connection h.secondary)
        (next_answer h) out_of_memory h.primary linked.homes
        here refl)
    go ResyncEvent = leads-primary h (Resyncs None out_of_memory) refl linked
        (ends-resync h.primary.settings h.secondary.settings h.secondary.connections (no_secondary_connection h.secondary) out_of_memory h.primary here)
    go ResyncFaultEvent = leads-primary h (FailsResync out_of_memory) tt linked
        (ends-resync-fault h.primary.settings h.secondary.settings h.secondary.connections (no_secondary_connection h.secondary) out_of_memory h.primary here)
    go ClosePrimaryEvent = leads-primary h Closes tt linked
        (ends-close h.primary.settings h.secondary.settings h.secondary.connections (no_secondary_connection h.secondary) h.primary here)
    go CloseSecondaryEvent = leads-secondary h ClosesToo tt linked
        (ends-close-too h.primary.settings h.secondary.settings h.primary.connections (no_primary_connection h.primary.tuple) h.secondary there)

-- Runs.

primary-run-append : (first second : List PrimaryEvent) (h : PrimaryHistory) → primary_run (first ++ second) h ≡ primary_run second (primary_run first h)
primary-run-append [] second h = refl
primary-run-append (event ∷ first) second h = primary-run-append first second (primary_after event h)

secondary-run-append : (first second : List SecondaryEvent) (h : SecondaryHistory)
    → secondary_run (first ++ second) h ≡ secondary_run second (secondary_run first h)
secondary-run-append [] second h = refl
secondary-run-append (event ∷ first) second h = secondary-run-append first second (secondary_after event h)

runs-trans : (h mid later : PairHistory) → AreRuns h mid → AreRuns mid later → AreRuns h later
runs-trans h mid later a b = record {
  here = a.here ++ b.here;
  there = a.there ++ b.there;
  primary = b.primary ∙ (ap (primary_run b.here) a.primary ∙ sym (primary-run-append a.here b.here h.primary));
  secondary = b.secondary ∙ (ap (secondary_run b.there) a.secondary ∙ sym (secondary-run-append a.there b.there h.secondary));
  own = own-append a.here b.here a.own b.own;
}

-- a run leads to two nodes that ran by themselves and are joined
pub leads-run : (events : List (Event × Bool)) (h : PairHistory) → IsLinkedPair h → LeadsTo h (run events h).1
leads-run [] h linked = leads-self h linked
leads-run (event ∷ events) h linked =
    let one = leads-step event.0 event.1 h linked in
    let rest = leads-run events (step event.0 event.1 h).1 one.1 in
    (runs-trans h (step event.0 event.1 h).1 (run events (step event.0 event.1 h).1).1 one.0 rest.0, rest.1)

joined-pair : (h : PairHistory) → IsLinkedPair h → NumbersRise h.secondary.connections → IsJoined h.primary h.secondary
joined-pair h linked rise = record { out = out; back = back }
  where
    p : PrimaryHistory
    p = h.primary

    s : SecondaryHistory
    s = h.secondary

    same : length h.primary.connections ≡ length h.secondary.connections
    same = pairs-length (AreLinked h.primary.settings h.secondary.settings) h.primary.connections h.secondary.connections linked.pairs

    -- the two ends of a number that was opened
    together : (k : ℕ) (c : PrimaryConnection) → slice_get h.primary.connections k ≡ Some c
        → (d : SecondaryConnection) × (secondary_connection_at h.secondary (suc k) ≡ d) × AreLinked h.primary.settings h.secondary.settings c d
    together k c at =
        let within = slice_get_within p.connections k c at in
        let size = same in let found = get-there s.connections k (omega arith) in (
          found.0,
          subst (λ n. secondary_connection_at s n ≡ found.0) (linked.counted k found.0 found.1) (secondary-connection-there s rise k found.0 found.1),
          pairs-get (AreLinked p.settings s.settings) p.connections s.connections k c found.0 linked.pairs at found.1,
        )

    out : (number : ℕ) → IsBeginning (secondary_connection_at h.secondary number).taken (pushed_by h.primary (primary_connection_at h.primary number))
    out number = elim (secondary-connection-cases s number) [
      | inr none ↦ subst (λ (d : SecondaryConnection). IsBeginning d.taken (pushed_by p (primary_connection_at p number))) (sym none) (_, refl)
      | inl found ↦
          let index : number ≡ suc found.0 = sym found.3 ∙ linked.counted found.0 found.1 found.2 in
          let within = slice_get_within s.connections found.0 found.1 found.2 in
          let size = same in
          let other = get-there p.connections found.0 (omega arith) in
          let both = together found.0 other.0 other.1 in
          subst (λ n. IsBeginning (secondary_connection_at s n).taken (pushed_by p (primary_connection_at p n))) (sym index)
          (subst (λ (d : SecondaryConnection). IsBeginning d.taken (pushed_by p (primary_connection_at p (suc found.0)))) (sym both.1)
          (subst (λ (c : PrimaryConnection). IsBeginning both.0.taken (pushed_by p c)) (sym (primary-connection-there p found.0 other.0 other.1)) both.2.out))
    ]

    back : (number : ℕ) → IsBeginning (primary_connection_at h.primary number).taken (pushed_back_by h.secondary (secondary_connection_at h.secondary number))
    back zero = (_, refl)
    back (suc k) = elim (primary-connection-cases p k) [
      | inr none ↦ subst (λ (c : PrimaryConnection). IsBeginning c.taken (pushed_back_by s (secondary_connection_at s (suc k)))) (sym none) (_, refl)
      | inl found ↦
          let both = together k found.0 found.1 in
          subst (λ (c : PrimaryConnection). IsBeginning c.taken (pushed_back_by s (secondary_connection_at s (suc k)))) (sym found.2)
          (subst (λ (d : SecondaryConnection). IsBeginning found.0.taken (pushed_back_by s d)) (sym both.1) both.2.back)
    ]

-- Each node's part of a run of the pair is a run of that node by itself, and the frames of the two are joined: on each
-- connection what one end took begins what the other pushed.
pub pair_runs_are_joined : (o : Opening) (events : List (Event × Bool))
    → (here : List PrimaryEvent) × (there : List SecondaryEvent)
    × ((run events (pair_at o)).1.primary ≡ primary_run here (primary_at o))
    × ((run events (pair_at o)).1.secondary ≡ secondary_run there (secondary_at o))
    × IsJoined (run events (pair_at o)).1.primary (run events (pair_at o)).1.secondary
    × (length (run events (pair_at o)).1.primary.connections ≡ length (run events (pair_at o)).1.secondary.connections)
    × AreCounted (run events (pair_at o)).1.secondary.connections
pair_runs_are_joined o events =
    let opening : PairHistory = pair_at o in
    let all = leads-run events opening (record { homes = homes-opening o.settings o.local o.own o.marks; pairs = tt; counted = λ j d at. absurd (cc) }) in
    let rise = subst (λ (x : SecondaryHistory). NumbersRise x.connections) (sym all.0.secondary) (numbers-rise all.0.there (secondary_at o) refl) in
    let h : PairHistory = (run events opening).1 in (
      all.0.here,
      all.0.there,
      all.0.primary,
      all.0.secondary,
      joined-pair h all.1 rise,
      pairs-length (AreLinked h.primary.settings h.secondary.settings) h.primary.connections h.secondary.connections all.1.pairs,
      all.1.counted,
    )
