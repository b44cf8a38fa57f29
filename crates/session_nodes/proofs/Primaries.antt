-- A primary's calls keep all its connections over one link.
use Rattle.std.proofs.Common.{ℕ, zero, suc, ◌≡◌, ◌<◌, ◌≤◌, ◌-◌, inl, inr, Bool, true, false, not, List, [], ◌∷◌, ◌++◌, length, take, Option}
use Rattle.std.proofs.Common.{Some, None, slice_get, Ok, refl, sym, ◌∙◌, ap, subst, arith}
use Rattle.std.specs.Prelude.{All, unwrap_or, Result, Err, IfOk, IfSome, IsTrue, OnErr, is_some}
use Rattle.std.proofs.lemmas.List.{length-append}
use Rattle.std.proofs.lemmas.List.Elements.{All-append, All-cons, All-head, All-nil, All-tail}
use Rattle.std.proofs.lemmas.Bool.{cases_lt}
use Rattle.std.proofs.lemmas.Option.{slice_get_within}
use Rattle.blocks.specs.declared.refusal.Refusal.{Refusal}
use Rattle.blocks.specs.declared.refusal.Refusal.TheVariants.{UnknownJob}
use Rattle.blocks.specs.declared.refusal.Refusal.TheVariants.{ReadFault}
use Rattle.blocks.specs.declared.outcome.Reply.{Reply}
use Rattle.blocks.specs.declared.outcome.Reply.TheVariants as reply
use Rattle.blocks.specs.declared.outcome.What.TheVariants as what
use Rattle.model.specs.Frames.{Received}
use Rattle.model.specs.Refusals.{first_refusal, done_with}
use Rattle.model.specs.Primary.{OnDisk, PrimaryConnection, PrimaryHistory, no_primary_connection, primary_connection, primary_connection_at}
use Rattle.model.specs.Primary.{with_primary_connection, frames_due}
use Rattle.model.specs.PrimarySteps as step
use Rattle.model.specs.Acknowledgements as step_in
use Rattle.model.specs.Marks.{releasing}
use Rattle.model.specs.LocalRuns.{PrimaryEvent, Opens, Submits, WritesLocally, FailsLocally, Sends, Takes, Resyncs, FailsResync, Closes, Receipts}
use Rattle.model.specs.LocalRuns.{primary_after, primary_run}
use Rattle.model.specs.Theorems.{Opening, primary_at}
use Rattle.model.specs.Headline.{StaysClosed}
use Rattle.link.specs.Ends.{InEnd, OutEnd}
use Rattle.endpoint.specs.Calls.{IsNewIn, IsNewOut, is_out_of_memory}
use Rattle.endpoint.specs.PacketReceiver.{incoming}
use Rattle.endpoint.specs.PacketSender.{outgoing}
use Rattle.laws.proofs.Lists.Elements.{get-there, same-at}
use Rattle.laws.proofs.Lists.Last.{last-at, length-change}
use Rattle.laws.proofs.Primary.Moves.{pushing, tested-keeps}
use Rattle.laws.proofs.Primary.StaysClosed.{primary_stays_closed}
use Rattle.laws.proofs.Joining.Ends.{primary-connection-there}
use Rattle.primary_protocol.specs.Steps.{IsReached, plainly, replied}
use Rattle.primary_protocol.specs.Node.{NodeHas, NodeSteps, primary_step}
use Rattle.primary_protocol.proofs.Common.Reached.{reached-ordered}
use Rattle.primary_protocol.proofs.Node.Keeps.{Change, Keeps, unchanged, keeps-self, keeps-following, submits-keeps, writes-keeps, fails-keeps, resyncs-keeps}
use Rattle.primary_protocol.proofs.Node.Keeps.{closes-keeps, receipts-keeps}
use Rattle.primary_protocol.proofs.Node.Runs.{opens-to, refused-same}
use Rattle.primary_protocol.proofs.Node.Takes.{takes-keep}
use Rattle.primary.specs.State.{IsRestarted, PrimaryView, node}
use Rattle.primary.specs.Work.{IsWork}
use Rattle.session_nodes.specs.Traffic.{KnowTraffic}
use Rattle.session_nodes.proofs.Ends.{NextTraffic, SameEnds, traffic-begins, traffic-first, traffic-stays}
use Rattle.session_nodes.specs.Primaries.{sent, came, PrimaryHas, PrimaryBegan, PrimaryIsHad, IsOwnStep, IsPrimaryStep, PrimaryGoesOn, PrimarySteps, PrimaryRuns}
use Rattle.laws.proofs.Rules.Memory.{may-open, ack-in-has}

-- Events that open no end leave the number of connections.

abbrev pub IsNoOpening : PrimaryEvent → Type 0
IsNoOpening (Opens sync loss out_of_memory) = ⊥
IsNoOpening event = Unit {0}

-- as many connections, and the settings
record Stays (h later : PrimaryHistory) : Type 0 where
  connections : length later.connections ≡ length h.connections
  settings : later.settings ≡ h.settings

stays-self : (h : PrimaryHistory) → Stays h h
stays-self h = record { connections = refl; settings = refl }

stays-keeps : (h later : PrimaryHistory) (change : Change) → Keeps h change later → Stays h later
stays-keeps h later change k = record { connections = k.connections; settings = k.settings }

stays-follows : (h g : PrimaryHistory) → Stays h g → Stays h (step.follows g).history
stays-follows h g was =
    let k = keeps-following g g (unchanged g) (keeps-self g) in
    record { connections = k.connections ∙ was.connections; settings = k.settings ∙ was.settings }

stays-takes : (h : PrimaryHistory) → IsReached h → (frame : Option Received) (out_of_memory : Bool) → Stays h (step_in.ack_in frame out_of_memory h).1
stays-takes h reached frame out_of_memory = ack-in-has (λ r. Stays h r.1) frame out_of_memory h (λ refusal other. stays-self h)
    (λ taken is standing. stays-keeps h _ _ (takes-keep h taken standing (reached-ordered h reached).ordered.1.1.0.0).1)

stays-after : (event : PrimaryEvent) → IsNoOpening event → (h : PrimaryHistory) → IsReached h → Stays h (primary_after event h)
stays-after (Opens sync loss out_of_memory) none h reached = absurd none
stays-after (Submits first contents out_of_memory) none h reached = stays-keeps h _ _ (submits-keeps first contents out_of_memory h)
stays-after (WritesLocally number) none h reached =
    tested-keeps (Stays h) h ((not (step.is_unfinished h number), UnknownJob) ∷ [])
    (λ _. step.succeeding what.Nothing (releasing h (step.with_outcome number OnDisk h))) (stays-self h)
    (λ passed. stays-keeps h _ _ (writes-keeps number h))
stays-after (FailsLocally number offsets) none h reached =
    tested-keeps (Stays h) h ((not (step.is_unfinished h number), UnknownJob) ∷ []) (λ _. step.succeeding what.Nothing (step.faulted number offsets h))
    (stays-self h) (λ passed. stays-keeps h _ _ (fails-keeps number offsets h))
stays-after (Sends room out_of_memory) none h reached =
    tested-keeps (Stays h) h (step.send_tests h room out_of_memory) (λ _. step.succeeding (step.sending h) (with_primary_connection pushing h)) (stays-self h)
    (λ passed. stays-follows h (with_primary_connection pushing h) (record { connections = length-change pushing h.connections; settings = refl }))
stays-after (Takes frame out_of_memory) none h reached = stays-takes h reached frame out_of_memory
stays-after (Resyncs read out_of_memory) none h reached = stays-keeps h _ _ (resyncs-keeps read out_of_memory h).2
stays-after (FailsResync out_of_memory) none h reached = tested-keeps (Stays h) h (step.resync_tests h out_of_memory) (λ _. (reply.Refused ReadFault, h))
    (stays-self h)
    (λ passed. stays-self h)
stays-after Closes none h reached = stays-keeps h _ _ (closes-keeps h)
stays-after (Receipts number) none h reached = stays-keeps h _ _ (receipts-keeps number h)

-- What went past on a connection that has ended.

-- the traffic of a number is the same in both
record SameTraffic (h later : PrimaryHistory) (number : ℕ) : Type 0 where
  pushed : sent later number ≡ sent h number
  taken : came later number ≡ came h number

-- Between two histories at most one connection more was opened, and all but the last one of the later history had ended.
record GoesOn (h later : PrimaryHistory) : Type 0 where
  settings : later.settings ≡ h.settings
  stays : StaysClosed h later
  least : length h.connections ≤ length later.connections
  most : length later.connections ≤ suc (length h.connections)
  shut : (k : ℕ) (c : PrimaryConnection) → suc k < length later.connections → slice_get h.connections k ≡ Some c → c.closed ≡ true

same-from : (h later : PrimaryHistory) (number : ℕ) → later.settings ≡ h.settings → primary_connection_at later number ≡ primary_connection_at h number
    → SameTraffic h later number
same-from h later number settings same = record {
  pushed = ap (λ (c : PrimaryConnection). take c.pushed (frames_due later.settings c)) same
      ∙ ap (λ s. take (primary_connection_at h number).pushed (frames_due s (primary_connection_at h number))) settings;
  taken = ap (λ (c : PrimaryConnection). c.taken) same;
}

-- an end that was never open
never : (h later : PrimaryHistory) (number : ℕ) → primary_connection_at h number ≡ no_primary_connection h.tuple
    → primary_connection_at later number ≡ no_primary_connection later.tuple
    → SameTraffic h later number
never h later number here there = record {
  pushed = ap (λ (c : PrimaryConnection). take c.pushed (frames_due later.settings c)) there
      ∙ sym (ap (λ (c : PrimaryConnection). take c.pushed (frames_due h.settings c)) here);
  taken = ap (λ (c : PrimaryConnection). c.taken) there ∙ sym (ap (λ (c : PrimaryConnection). c.taken) here);
}

same-traffic : (h later : PrimaryHistory) → GoesOn h later → (number : ℕ) → (number ≡ length later.connections → ⊥) → SameTraffic h later number
same-traffic h later on zero other = never h later zero refl refl
same-traffic h later on (suc k) other = go (slice_get h.connections k) refl (slice_get later.connections k) refl
  where
    absent : (g : PrimaryHistory) → slice_get g.connections k ≡ None → primary_connection_at g (suc k) ≡ no_primary_connection g.tuple
    absent g none = ap (λ (v : Option PrimaryConnection). unwrap_or v (no_primary_connection g.tuple)) none

    go : (v : Option PrimaryConnection) → slice_get h.connections k ≡ v → (w : Option PrimaryConnection) → slice_get later.connections k ≡ w
        → SameTraffic h later (suc k)
    go (Some c) here w there =
        let inside = slice_get_within h.connections k c here in
        let least = on.least in
        let early : suc k < length later.connections = omega (arith, other) in
        let closed = on.shut k c early here in
        same-from h later (suc k) on.settings (primary-connection-there later k c (on.stays.same k c here closed) ∙ sym (primary-connection-there h k c here))
    go None here None there = never h later (suc k) (absent h here) (absent later there)
    go None here (Some d) there =
        let inside = slice_get_within later.connections k d there in
        let most = on.most in
        let within : k < length h.connections = omega (arith, other) in
        let found = get-there h.connections k within in
        absurd (let both : Some found.0 ≡ None = sym found.1 ∙ here in cc (both))

-- The next history of a node over one link.

-- the last connection by its number
last-primary-connection : (h : PrimaryHistory) → 0 < length h.connections → primary_connection_at h (length h.connections) ≡ primary_connection h
last-primary-connection h some = elim (last-at (no_primary_connection h.tuple) h.connections) [
  | inl none ↦ absurd (let size : length h.connections ≡ 0 = ap length none in omega arith)
  | inr last ↦
      let next : suc (length h.connections - 1) ≡ length h.connections = omega arith in
      sym (ap (primary_connection_at h) next) ∙ primary-connection-there h (length h.connections - 1) (primary_connection h) last
]

-- The node goes on to a later history, of which both ends know the traffic, where they know what is new of it.
has-next : (w : PrimaryView) (h later : PrimaryHistory) → NodeHas (node w) later → GoesOn h later → 0 < length later.connections
    → (NextTraffic w.outgoing w.incoming (length later.connections) (sent h) (sent later) (came h) (came later)
    → KnowTraffic w.outgoing w.incoming (length later.connections) (sent later) (came later)) → PrimaryHas w later
has-next w h later has on some know = record {
  has = has;
  over = record { traffic = ends; opened = some; ended = ended };
}
  where
    last : primary_connection_at later (length later.connections) ≡ primary_connection later
    last = last-primary-connection later some

    ends : KnowTraffic w.outgoing w.incoming (length later.connections) (sent later) (came later)
    ends = know (record {
      pushed_last = has.leaves.pushed ∙ ap (λ (c : PrimaryConnection). take c.pushed (frames_due later.settings c)) (sym last);
      taken_last = has.leaves.taken ∙ ap (λ (c : PrimaryConnection). c.taken) (sym last);
      pushed = λ number other. (same-traffic h later on number other).pushed;
      taken = λ number other. (same-traffic h later on number other).taken;
    })

    ended : (k : ℕ) (c : PrimaryConnection) → suc k < length later.connections → slice_get later.connections k ≡ Some c → c.closed ≡ true
    ended k c early at =
        let most = on.most in
        let within : k < length h.connections = omega arith in
        let found = get-there h.connections k within in
        let closed = on.shut k found.0 early found.1 in
        ap (λ (x : PrimaryConnection). x.closed) (same-at later.connections k c found.0 at (on.stays.same k found.0 found.1 closed)) ∙ closed

-- A step that opens no end.
has-step : (event : PrimaryEvent) → IsNoOpening event → (v w : PrimaryView) (h : PrimaryHistory) → PrimaryHas v h
    → SameEnds v.outgoing w.outgoing v.incoming w.incoming
    → NodeHas (node w) (primary_after event h) → PrimaryHas w (primary_after event h)
has-step event none v w h was same has =
    let stays = stays-after event none h was.has.reached in
    let over = was.over in
    let count : length (primary_after event h).connections ≡ length h.connections = stays.connections in
    let opened = over.opened in
    has-next w h (primary_after event h) has
    (record {
      settings = stays.settings;
      stays = primary_stays_closed (event ∷ []) h;
      least = omega arith;
      most = omega arith;
      shut = λ k c early at. over.ended k c (omega arith) at;
    })
    (omega arith) (traffic-stays over.traffic same count)

-- So the node's step is a step over the link, and the node is one over it then.
pub steps-over : {Returned : Type 0} (event : PrimaryEvent) → IsNoOpening event → (step : PrimaryHistory → Returned × PrimaryHistory)
    → ((h : PrimaryHistory) → (step h).1 ≡ primary_after event h)
    → (v w : PrimaryView) (returned : Returned) → SameEnds v.outgoing w.outgoing v.incoming w.incoming
    → ((h : PrimaryHistory) → NodeHas (node v) h → returned ≡ (step h).0)
    → ((h : PrimaryHistory) → NodeHas (node v) h → NodeHas (node w) (step h).1) → IsPrimaryStep step v returned w
steps-over event none step is v w returned same said after = record {
  replies = λ h was. said h was.has;
  after = λ h was. subst (PrimaryHas w) (sym (is h)) (has-step event none v w h was same (subst (NodeHas (node w)) (is h) (after h was.has)));
}

-- A step of the work is a run of one event, and runs go on.
pub runs-step : (event : PrimaryEvent) → IsWork event → (v w : PrimaryView) (returned : Reply)
    → ((h : PrimaryHistory) → (primary_step event h).1 ≡ primary_after event h)
    → PrimarySteps event v returned w → PrimaryRuns v w
runs-step event work v w returned is steps h was =
    (event ∷ [], (All-cons IsWork event [] work (All-nil IsWork), subst (PrimaryHas w) (is h) (steps.after h was)))

pub runs-self : (v : PrimaryView) → PrimaryRuns v v
runs-self v h was = ([], (All-nil IsWork, was))

run-both : (events more : List PrimaryEvent) (h : PrimaryHistory) → primary_run more (primary_run events h) ≡ primary_run (events ++ more) h
run-both [] more h = refl
run-both (event ∷ events) more h = run-both events more (primary_after event h)

pub runs-on : (u v w : PrimaryView) → PrimaryRuns u v → PrimaryRuns v w → PrimaryRuns u w
runs-on u v w first second h was =
    let one = first h was in
    let two = second (primary_run one.0 h) one.1.1 in
    (one.0 ++ two.0, (All-append IsWork one.0 two.0 one.1.0 two.1.0, subst (PrimaryHas w) (run-both one.0 two.0 h) two.1.1))

-- What is work is a step of the node's own.
work-own : (event : PrimaryEvent) → IsWork event → IsOwnStep event
work-own (Opens sync loss out_of_memory) work = absurd work
work-own (Submits first contents out_of_memory) work = absurd work
work-own (WritesLocally number) work = tt
work-own (FailsLocally number offsets) work = tt
work-own (Sends room out_of_memory) work = tt
work-own (Takes frame out_of_memory) work = tt
work-own (Resyncs read out_of_memory) work = tt
work-own (FailsResync out_of_memory) work = tt
work-own Closes work = absurd work
work-own (Receipts number) work = absurd work

works-own : (events : List PrimaryEvent) → All IsWork events → All IsOwnStep events
works-own [] work = All-nil IsOwnStep
works-own (event ∷ events) work = All-cons IsOwnStep event events (work-own event (All-head IsWork event events work))
    (works-own events (All-tail IsWork event events work))

-- A disk that is as faithful as before has not become faithful.
pub falls-with : (v w : PrimaryView) → w.faithful ≡ v.faithful → IsTrue w.faithful → IsTrue v.faithful
falls-with v w same still = subst IsTrue same still

-- nor does a new connection make it so
pub falls-reopened : (v w : PrimaryView) (result : Result ℕ Refusal) → IfOk result (λ number. IsRestarted number v w) → OnErr result (w ≡ v)
    → IsTrue w.faithful → IsTrue v.faithful
falls-reopened v w (Ok number) restarted unchanged = falls-with v w (ap (λ (x : PrimaryView). x.faithful) restarted.rest)
falls-reopened v w (Err e) restarted unchanged = falls-with v w (ap (λ (x : PrimaryView). x.faithful) unchanged)

pub goes-on-self : (v : PrimaryView) → PrimaryGoesOn v v
goes-on-self v = record { leads = λ h was. ([], (All-nil IsOwnStep, was)); falls = λ still. still }

pub goes-on-runs : (v w : PrimaryView) → PrimaryRuns v w → (IsTrue w.faithful → IsTrue v.faithful) → PrimaryGoesOn v w
goes-on-runs v w runs falls = record {
  leads = λ h was. let run = runs h was in (run.0, (works-own run.0 run.1.0, run.1.1));
  falls = falls;
}

pub goes-on-closes : (v w : PrimaryView) (returned : Reply) → PrimarySteps Closes v returned w → (IsTrue w.faithful → IsTrue v.faithful) → PrimaryGoesOn v w
goes-on-closes v w returned steps falls = record {
  leads = λ h was. (Closes ∷ [], (All-cons IsOwnStep Closes [] tt (All-nil IsOwnStep), steps.after h was));
  falls = falls;
}

pub goes-on-both : (u v w : PrimaryView) → PrimaryGoesOn u v → PrimaryGoesOn v w → PrimaryGoesOn u w
goes-on-both u v w first second = record {
  leads = λ h was.
      let one = first.leads h was in
      let two = second.leads (primary_run one.0 h) one.1.1 in
      (one.0 ++ two.0, (All-append IsOwnStep one.0 two.0 one.1.0 two.1.0, subst (PrimaryHas w) (run-both one.0 two.0 h) two.1.1));
  falls = λ still. first.falls (second.falls still);
}

-- A run from an opening goes on.
began-run : (o : Option Opening) (events : List PrimaryEvent) (h : PrimaryHistory) → PrimaryBegan o h → PrimaryBegan o (primary_run events h)
began-run None events h began = tt
began-run (Some opening) events h began =
    (began.0 ++ events, ap (primary_run events) began.1 ∙ run-both began.0 events (primary_at opening))

pub had-runs : {o : Option Opening} (v w : PrimaryView) → PrimaryIsHad o v → PrimaryRuns v w → PrimaryIsHad o w
had-runs {o} v w had runs = record {
  history = _;
  has = (runs had.history had.has).1.1;
  began = began-run o (runs had.history had.has).0 had.history had.began;
}

pub had-over : {Returned : Type 0} {o : Option Opening} (event : PrimaryEvent) (step : PrimaryHistory → Returned × PrimaryHistory) (v w : PrimaryView)
    (returned : Returned) → ((h : PrimaryHistory) → (step h).1 ≡ primary_after event h) → PrimaryIsHad o v → IsPrimaryStep step v returned w → PrimaryIsHad o w
had-over {o = o} event step v w returned is had steps = record {
  history = (step had.history).1;
  has = steps.after had.history had.has;
  began = subst (PrimaryBegan o) (sym (is had.history)) (began-run o (event ∷ []) had.history had.began);
}

-- a node that runs from an opening, of which the caller may know nothing
pub had-from : (o : Option Opening) (sync loss : ℕ) (v : PrimaryView) (h : PrimaryHistory) → IfSome o (λ opening. h ≡ primary_at opening)
    → PrimaryHas v (primary_after (Opens sync loss false) h) → PrimaryIsHad o v
had-from None sync loss v h is has = record { history = _; has = has; began = tt }
had-from (Some opening) sync loss v h is has = record {
  history = _;
  has = has;
  began = (Opens sync loss false ∷ [], ap (primary_after (Opens sync loss false)) is);
}

-- An opening: one connection more, over the ends that the node has.

-- an opening that is accepted comes at a closed end, and adds a connection
opened-shut : (sync loss : ℕ) (h : PrimaryHistory) → plainly tt ≡ (step.open_primary sync loss false h).0 → (primary_connection h).closed ≡ true
opened-shut sync loss h is = go (first_refusal (step.open_tests h sync loss false)) refl is
  where
    go : (v : Option Refusal) → first_refusal (step.open_tests h sync loss false) ≡ v
        → plainly tt ≡ (elim v as (λ _. Reply × PrimaryHistory) [
          | Some refusal ↦ (reply.Refused refusal, h)
          | None ↦ step.succeeding what.Nothing
              (step.opened h sync loss)
        ]).0 → (primary_connection h).closed ≡ true
    go (Some refusal) none said = absurd (cc)
    go None none said = (may-open h sync loss false none).closed

opened-more : (sync loss : ℕ) (h : PrimaryHistory) → plainly tt ≡ (step.open_primary sync loss false h).0
    → (length (step.open_primary sync loss false h).1.connections ≡ suc (length h.connections))
    × ((step.open_primary sync loss false h).1.settings ≡ h.settings)
opened-more sync loss h is =
    let to = opens-to sync loss false h (done_with what.Nothing) is in
    let k = keeps-following (step.opened h sync loss) (step.opened h sync loss) (unchanged (step.opened h sync loss)) (keeps-self (step.opened h sync loss)) in
    let size : length (step.opened h sync loss).connections ≡ suc (length h.connections) = length-append h.connections _ ∙ omega arith in
    (ap (λ (g : PrimaryHistory). length g.connections) to ∙ (k.connections ∙ size), ap (λ (g : PrimaryHistory). g.settings) to ∙ k.settings)

-- so the history goes on where all but the last end had been closed
opens-on : (sync loss : ℕ) (h : PrimaryHistory) → plainly tt ≡ (step.open_primary sync loss false h).0
    → ((k : ℕ) (c : PrimaryConnection) → suc k < length h.connections → slice_get h.connections k ≡ Some c → c.closed ≡ true)
    → GoesOn h (primary_after (Opens sync loss false) h)
opens-on sync loss h said ended = record {
  settings = more.1;
  stays = primary_stays_closed (Opens sync loss false ∷ []) h;
  least = omega (arith, more.0);
  most = omega (arith, more.0);
  shut = shut;
}
  where
    more : (length (step.open_primary sync loss false h).1.connections ≡ suc (length h.connections))
        × ((step.open_primary sync loss false h).1.settings ≡ h.settings)
    more = opened-more sync loss h said

    shut : (k : ℕ) (c : PrimaryConnection) → suc k < length (step.open_primary sync loss false h).1.connections → slice_get h.connections k ≡ Some c
        → c.closed ≡ true
    shut k c early at = elim (cases_lt (suc k) (length h.connections)) [
      | inl before ↦ ended k c before at
      | inr end ↦
          let inside = slice_get_within h.connections k c at in
          elim (last-at (no_primary_connection h.tuple) h.connections) [
            | inl none ↦ absurd (let size : length h.connections ≡ 0 = ap length none in omega arith)
            | inr last ↦
                let size = more.0 in
                let index : length h.connections - 1 ≡ k = omega arith in
                let one : c ≡ primary_connection h = same-at h.connections k c (primary_connection h) at
                (subst (λ n. slice_get h.connections n ≡ Some (primary_connection h)) index last) in
                ap (λ (x : PrimaryConnection). x.closed) one ∙ opened-shut sync loss h said
          ]
    ]

has-opened : (sync loss number : ℕ) (v w : PrimaryView) (h : PrimaryHistory) → PrimaryHas v h → plainly tt ≡ (step.open_primary sync loss false h).0
    → NodeHas (node w) (primary_after (Opens sync loss false) h)
    → number ≡ w.core.connections → IsRestarted number v w → PrimaryHas w (primary_after (Opens sync loss false) h)
has-opened sync loss number v w h was said has counted restarted =
    let size = (opened-more sync loss h said).0 in
    let r = subst (λ (n : ℕ). IsRestarted n v w) (counted ∙ has.leaves.core.rest.connections) restarted in
    has-next w h (primary_after (Opens sync loss false) h) has (opens-on sync loss h said was.over.ended) (omega arith)
    (traffic-begins was.over.traffic (omega arith) r.before r.room r.waiting r.out_there r.out r.had r.queued r.capacity r.in_there r.inn)

-- So an end that opens anew goes on over its link, and one that is refused stays as it is.
pub reopens-over : (sync loss : ℕ) (v w : PrimaryView) (result : Result ℕ Refusal)
    → NodeSteps (Opens sync loss (is_out_of_memory result)) (node v) (replied (λ (number : ℕ). plainly tt) result) (node w)
    → IfOk result (λ number. IsRestarted number v w) → IfOk result (λ number. number ≡ w.core.connections) → OnErr result (w ≡ v)
    → PrimarySteps (Opens sync loss (is_out_of_memory result)) v (replied (λ (number : ℕ). plainly tt) result) w
reopens-over sync loss v w (Ok number) s restarted counted unchanged = record {
  replies = λ h was. s.replies h was.has;
  after = λ h was. has-opened sync loss number v w h was (s.replies h was.has) (s.after h was.has) counted restarted;
}
reopens-over sync loss v w (Err e) s restarted counted unchanged = record {
  replies = λ h was. s.replies h was.has;
  after = λ h was.
      let stays : primary_after (Opens sync loss (is_out_of_memory {R = ℕ} (Err e))) h ≡ h =
      refused-same (Opens sync loss (is_out_of_memory {R = ℕ} (Err e))) tt h e
      (s.replies h was.has) in
      subst (PrimaryHas w) (sym stays) (subst (λ (x : PrimaryView). PrimaryHas x h) (sym unchanged) was);
}

-- both sides of the link are there
pub is-there : {o : Option Opening} (v : PrimaryView) → PrimaryIsHad o v → (is_some v.outgoing ≡ true) × (is_some v.incoming ≡ true)
is-there v had = (ap is_some had.has.over.traffic.out_there, ap is_some had.has.over.traffic.in_there)

-- A new node that opens over unused ends.
pub first-over : (sync loss : ℕ) (v w : PrimaryView) (h : PrimaryHistory) (o : OutEnd) (i : InEnd) → IsNewOut o → IsNewIn i → h.connections ≡ []
    → NodeHas (node v) h
    → NodeSteps (Opens sync loss false) (node v) (plainly tt) (node w) → w.outgoing ≡ Some (outgoing o) → w.incoming ≡ Some (incoming i)
    → PrimaryHas w (primary_after (Opens sync loss false) h)
first-over sync loss v w h o i out inn none has steps out_there in_there =
    has-next w h later (steps.after h has) (opens-on sync loss h said (λ k c early at. absurd (omega (arith, ap length none)))) (omega (arith, one))
    (traffic-first o i out inn out_there in_there one
    (λ number. ap (λ (c : PrimaryConnection). take c.pushed (frames_due h.settings c)) (never-open number))
    (λ number. ap (λ (c : PrimaryConnection). c.taken) (never-open number)))
  where
    later : PrimaryHistory
    later = primary_after (Opens sync loss false) h

    said : plainly tt ≡ (step.open_primary sync loss false h).0
    said = steps.replies h has

    one : length (primary_after (Opens sync loss false) h).connections ≡ 1
    one = (opened-more sync loss h said).0 ∙ ap (λ (l : List PrimaryConnection). suc (length l)) none

    never-open : (number : ℕ) → primary_connection_at h number ≡ no_primary_connection h.tuple
    never-open zero = refl
    never-open (suc k) = ap (λ (l : List PrimaryConnection). unwrap_or (slice_get l k) (no_primary_connection h.tuple)) none

-- A read changes no more than whether the disk is faithful.
pub has-read : (v w : PrimaryView) (faults : ℕ) (steady faithful : Bool) → w ≡ record v { faults = faults; steady = steady; faithful = faithful }
    → (IsTrue w.faithful → IsTrue v.faithful) → (h : PrimaryHistory) → PrimaryHas v h → PrimaryHas w h
has-read v w faults steady faithful is falls h has = subst (λ (x : PrimaryView). PrimaryHas x h) (sym is) (record {
  has = record {
    leaves = record {
      core = has.has.leaves.core;
      disk = has.has.leaves.disk;
      pushed = has.has.leaves.pushed;
      taken = has.has.leaves.taken;
      faithful = λ true. has.has.leaves.faithful (falls (subst (λ (x : PrimaryView). IsTrue x.faithful) (sym is) true));
    };
    reached = has.has.reached;
  };
  over = record { traffic = has.over.traffic; opened = has.over.opened; ended = has.over.ended };
})

pub had-read : {o : Option Opening} (v w : PrimaryView) (faults : ℕ) (steady faithful : Bool)
    → w ≡ record v { faults = faults; steady = steady; faithful = faithful } → (IsTrue w.faithful → IsTrue v.faithful)
    → PrimaryIsHad o v → PrimaryIsHad o w
had-read v w faults steady faithful is falls had = record {
  history = had.history;
  has = has-read v w faults steady faithful is falls had.history had.has;
  began = had.began;
}

-- a node of whose beginning nothing is known
pub forget : {o : Option Opening} (v : PrimaryView) → PrimaryIsHad o v → PrimaryIsHad None v
forget v had = record { history = had.history; has = had.has; began = tt }
