-- A secondary's calls keep all its connections over one link.
use Rattle.std.proofs.Common.{ℕ, suc, ◌≡◌, ◌<◌, ◌≤◌, ◌-◌, ◌+◌, inl, inr, true, not, ◌&&◌, List, [], ◌∷◌, ◌++◌, length, take, Option}
use Rattle.std.proofs.Common.{Some, None, slice_get, Ok, refl, sym, ◌∙◌, ap, subst, arith, ◌==◌}
use Rattle.std.specs.Prelude.{Result, Err, IfSome, OnOk, OnErr, find, unwrap_or, is_some}
use Rattle.std.proofs.lemmas.List.{length-append}
use Rattle.std.proofs.lemmas.List.Elements.{All-append, All-cons, All-nil}
use Rattle.std.proofs.lemmas.Bool.{cases_Bool, not-false, and_parts, cases_lt}
use Rattle.std.proofs.lemmas.Option.{slice_get_cases, slice_get_within}
use Rattle.blocks.specs.declared.refusal.Refusal.{Refusal}
use Rattle.blocks.specs.declared.refusal.Refusal.TheVariants.{NotDrained}
use Rattle.blocks.specs.declared.settings.Protocol.{Protocol}
use Rattle.blocks.specs.declared.outcome.Reply.{Reply}
use Rattle.blocks.specs.declared.outcome.Reply.TheVariants as reply
use Rattle.blocks.specs.declared.outcome.What.TheVariants as what
use Rattle.model.specs.Refusals.{first_refusal, done_with}
use Rattle.model.specs.Primary.{last_of, change_last}
use Rattle.model.specs.Secondary.{SecondaryConnection, SecondaryHistory, no_secondary_connection, secondary_connection, secondary_connection_at}
use Rattle.model.specs.Secondary.{with_secondary_connection, answers_due, is_drained, items_taken}
use Rattle.model.specs.SecondarySteps.{answering, applying, failing}
use Rattle.model.specs.SecondarySteps as step
use Rattle.model.specs.LocalRuns.{SecondaryEvent, OpensToo, Receives, Applies, FailsToApply, Acknowledges, ClosesToo, secondary_after, secondary_run}
use Rattle.model.specs.Headline.{StaysClosedToo}
use Rattle.model.specs.Theorems.{Opening, secondary_at}
use Rattle.link.specs.Ends.{InEnd, OutEnd}
use Rattle.endpoint.specs.Calls.{IsNewIn, IsNewOut}
use Rattle.endpoint.specs.PacketReceiver.{incoming}
use Rattle.endpoint.specs.PacketSender.{outgoing}
use Rattle.laws.proofs.Lists.Elements.{get-there, same-at}
use Rattle.laws.proofs.Lists.Last.{last-at, last-change, last-more, length-change}
use Rattle.laws.proofs.Lists.Tests.{test-passed}
use Rattle.laws.proofs.Secondary.Moves.{framed, receipting, pushed_one, closed_end, after-receive, after-peer, after-fault, after-push}
use Rattle.laws.proofs.Secondary.Moves.{after-close}
use Rattle.laws.proofs.Secondary.Numbers.{NumbersRise, numbers-rise, secondary-connection-there, secondary-connection-cases}
use Rattle.laws.proofs.Secondary.Stays.{secondary_stays_closed}
use Rattle.secondary_protocol.specs.Steps.{plainly, replied}
use Rattle.secondary_protocol.specs.Node.{IsReached, NodeHas, NodeSteps, secondary_step}
use Rattle.secondary_protocol.proofs.Node.Runs.{opens-to, refused-same}
use Rattle.secondary.specs.State.{IsRestarted, SecondaryView, node}
use Rattle.secondary.specs.Work.{IsWork}
use Rattle.session_nodes.specs.Traffic.{KnowTraffic}
use Rattle.session_nodes.proofs.Ends.{NextTraffic, SameEnds, traffic-begins, traffic-first, traffic-stays}
use Rattle.session_nodes.specs.Secondaries.{sent, came, SecondaryHas, SecondaryBegan, SecondaryIsHad, SecondarySteps, SecondaryRuns}
use Rattle.laws.proofs.Rules.RefusedFrames.{refused_end}

-- Events that open no end leave the number of connections.

abbrev pub IsNoOpening : SecondaryEvent → Type 0
IsNoOpening (OpensToo unseen) = ⊥
IsNoOpening event = Unit {0}

-- as many connections, the last of the same number, and the settings
record Stays (h later : SecondaryHistory) : Type 0 where
  connections : length later.connections ≡ length h.connections
  number : (secondary_connection later).number ≡ (secondary_connection h).number
  settings : later.settings ≡ h.settings

stays-self : (h : SecondaryHistory) → Stays h h
stays-self h = record { connections = refl; number = refl; settings = refl }

-- a change of the last connection that leaves its number leaves the last number
number-with : (f : SecondaryConnection → SecondaryConnection) → ((d : SecondaryConnection) → (f d).number ≡ d.number) → (g later : SecondaryHistory)
    → later.connections ≡ change_last f g.connections
    → (secondary_connection later).number ≡ (secondary_connection g).number
number-with f same g later changed = elim (last-change f (no_secondary_connection g) (no_secondary_connection later) g.connections) [
  | inl none ↦
      let empty : later.connections ≡ [] = changed ∙ ap (change_last f) none in
      ap (λ (l : List SecondaryConnection). (last_of (no_secondary_connection later) l).number) empty
      ∙ sym (ap (λ (l : List SecondaryConnection). (last_of (no_secondary_connection g) l).number) none)
  | inr last ↦ ap (λ (l : List SecondaryConnection). (last_of (no_secondary_connection later) l).number) changed
      ∙ (ap (λ (d : SecondaryConnection). d.number) last ∙ same (secondary_connection g))
]

stays-with : (f : SecondaryConnection → SecondaryConnection) → ((d : SecondaryConnection) → (f d).number ≡ d.number) → (h g : SecondaryHistory) → Stays h g
    → Stays h (with_secondary_connection f g)
stays-with f same h g was = record {
  connections = length-change f g.connections ∙ was.connections;
  number = number-with f same g (with_secondary_connection f g) refl ∙ was.number;
  settings = was.settings;
}

number-answering : (d : SecondaryConnection) → (answering d).number ≡ d.number
number-answering d = elim (cases_Bool d.closed) [ inl is ↦ rw is refl | inr is ↦ rw is refl ]

number-applying : (asked : Protocol) (place : ℕ) (d : SecondaryConnection) → (applying asked place d).number ≡ d.number
number-applying asked place d = elim (slice_get_cases (items_taken d) place).1 [ inl at ↦ rw (at.2, applying) refl | inr past ↦ rw (past.1, applying) refl ]

stays-answering : (h g : SecondaryHistory) → Stays h g → Stays h (with_secondary_connection answering g)
stays-answering h g was = stays-with answering number-answering h g was

stays-after : (event : SecondaryEvent) → IsNoOpening event → (h : SecondaryHistory) → Stays h (secondary_after event h)
stays-after (OpensToo unseen) none h = absurd none
stays-after (Receives frame out_of_memory) none h = after-receive (Stays h) h frame out_of_memory (stays-self h) (λ taken is standing.
    let framed_too : Stays h (with_secondary_connection (framed taken) h) = stays-with (framed taken) (λ d. refl) h h (stays-self h) in
    record {
      accepts = stays-answering h _ framed_too;
      receipts = λ write at frame_is late. stays-answering h _
          (stays-with (receipting (length (items_taken (secondary_connection h))) write) (λ d. refl) h (with_secondary_connection (framed taken) h) framed_too);
      adopts = λ item tuple consistent brings late. stays-answering h (step.adopting tuple consistent (with_secondary_connection (framed taken) h))
          (record {
            connections = framed_too.connections;
            number = number-with (framed taken) (λ d. refl) h (step.adopting tuple consistent (with_secondary_connection (framed taken) h)) refl;
            settings = framed_too.settings;
          });
      refuses = stays-with refused_end (λ d. refl) h (with_secondary_connection (framed taken) h) framed_too;
    })
stays-after (Applies place) none h = after-peer (Stays h) h place (stays-self h) (λ waiting first.
    stays-answering h _ (stays-with (applying h.settings.protocol place) (number-applying h.settings.protocol place) h h (stays-self h)))
stays-after (FailsToApply place offsets) none h = after-fault (Stays h) h place offsets (stays-self h)
    (λ waiting first. stays-with (failing place offsets) (λ d. refl) h h (stays-self h))
stays-after (Acknowledges room out_of_memory) none h = after-push (Stays h) h room out_of_memory (stays-self h)
    (λ standing due. stays-with pushed_one (λ d. refl) h h (stays-self h))
stays-after ClosesToo none h = after-close (Stays h) h (stays-self h) (λ standing. stays-with closed_end (λ d. refl) h h (stays-self h))

-- the numbers of a history that a node has rise
has-rise : (h : SecondaryHistory) → IsReached h → NumbersRise h.connections
has-rise h is = subst (λ (g : SecondaryHistory). NumbersRise g.connections) (sym is.reached) (numbers-rise is.events _ refl)

-- What went past on a connection that has ended.

-- the traffic of a number is the same in both
record SameTraffic (h later : SecondaryHistory) (number : ℕ) : Type 0 where
  pushed : sent later number ≡ sent h number
  taken : came later number ≡ came h number

-- Between two histories at most one connection more was opened, and all but the last one of the later history had ended.
record GoesOn (h later : SecondaryHistory) : Type 0 where
  settings : later.settings ≡ h.settings
  stays : StaysClosedToo h later
  least : length h.connections ≤ length later.connections
  most : length later.connections ≤ suc (length h.connections)
  last : length later.connections ≡ length h.connections → (secondary_connection later).number ≡ (secondary_connection h).number
  shut : (k : ℕ) (c : SecondaryConnection) → suc k < length later.connections → slice_get h.connections k ≡ Some c → c.closed ≡ true

-- what stands where a closed connection stood
stayed : (h later : SecondaryHistory) → StaysClosedToo h later → (k : ℕ) (c d : SecondaryConnection) → slice_get h.connections k ≡ Some c → c.closed ≡ true
    → slice_get later.connections k ≡ Some d → d ≡ record c { applied = d.applied; gone = d.gone }
stayed h later stays k c d at closed there =
    let kept = stays.same k c at closed in
    subst (λ (x : SecondaryConnection). x ≡ record c { applied = x.applied; gone = x.gone }) (same-at later.connections k kept.0 d kept.1 there) kept.2

-- it keeps its number
number-stays : (c d : SecondaryConnection) → d ≡ record c { applied = d.applied; gone = d.gone } → d.number ≡ c.number
number-stays c d same = ap (λ (x : SecondaryConnection). x.number) same

-- an end that stayed as it was, but for what is still applied there
same-from : (h later : SecondaryHistory) (number : ℕ) → later.settings ≡ h.settings → (c d : SecondaryConnection)
    → d ≡ record c { applied = d.applied; gone = d.gone }
    → secondary_connection_at later number ≡ d → secondary_connection_at h number ≡ c → SameTraffic h later number
same-from h later number settings c d same there here = record {
  pushed = ap (λ (x : SecondaryConnection). take x.pushed (answers_due later.settings x)) there
      ∙ (ap (λ (x : SecondaryConnection). take x.pushed (answers_due later.settings x)) same
      ∙ (ap (λ s. take c.pushed (answers_due s c)) settings ∙ sym (ap (λ (x : SecondaryConnection). take x.pushed (answers_due h.settings x)) here)));
  taken = ap (λ (x : SecondaryConnection). x.taken) there
      ∙ (ap (λ (x : SecondaryConnection). x.taken) same ∙ sym (ap (λ (x : SecondaryConnection). x.taken) here));
}

-- an end that was never open
never : (h later : SecondaryHistory) (number : ℕ) → secondary_connection_at h number ≡ no_secondary_connection h
    → secondary_connection_at later number ≡ no_secondary_connection later → SameTraffic h later number
never h later number here there = record {
  pushed = ap (λ (c : SecondaryConnection). take c.pushed (answers_due later.settings c)) there
      ∙ sym (ap (λ (c : SecondaryConnection). take c.pushed (answers_due h.settings c)) here);
  taken = ap (λ (c : SecondaryConnection). c.taken) there ∙ sym (ap (λ (c : SecondaryConnection). c.taken) here);
}

-- where the last connection stands
last-established : (h : SecondaryHistory) → 0 < length h.connections → slice_get h.connections (length h.connections - 1) ≡ Some (secondary_connection h)
last-established h some = elim (last-at (no_secondary_connection h) h.connections) [
  | inl none ↦ absurd (let size : length h.connections ≡ 0 = ap length none in omega arith)
  | inr last ↦ last
]

-- a connection of another number than the last one's is no last one
not-last : (h : SecondaryHistory) (j : ℕ) (d : SecondaryConnection) → slice_get h.connections j ≡ Some d → (d.number ≡ (secondary_connection h).number → ⊥)
    → suc j < length h.connections
not-last h j d at other = elim (cases_lt (suc j) (length h.connections)) [
  | inl before ↦ before
  | inr end ↦
      let inside = slice_get_within h.connections j d at in
      let index : length h.connections - 1 ≡ j = omega arith in
      let last = last-established h (omega arith) in
      absurd (other (ap (λ (x : SecondaryConnection). x.number)
      (same-at h.connections j d (secondary_connection h) at (subst (λ n. slice_get h.connections n ≡ Some (secondary_connection h)) index last))))
]

-- the end of a closed connection goes on under its number
same-closed : (h later : SecondaryHistory) → NumbersRise h.connections → NumbersRise later.connections → GoesOn h later → (j : ℕ) (c : SecondaryConnection)
    → suc j < length later.connections → slice_get h.connections j ≡ Some c → SameTraffic h later c.number
same-closed h later rise also on j c early at =
    let stays = on.stays.same j c at (on.shut j c early at) in
    let number : stays.0.number ≡ c.number = number-stays c stays.0 stays.2 in
    same-from h later c.number on.settings c stays.0 stays.2 (ap (secondary_connection_at later) (sym number)
    ∙ secondary-connection-there later also j stays.0 stays.1) (secondary-connection-there h rise j c at)

same-traffic : (h later : SecondaryHistory) → NumbersRise h.connections → NumbersRise later.connections → GoesOn h later → (number : ℕ)
    → (number ≡ (secondary_connection later).number → ⊥) → SameTraffic h later number
same-traffic h later rise also on number other = elim (secondary-connection-cases later number) [
  | inl there ↦
      let d = there.1 in
      let early = not-last later there.0 d there.2 (λ last. other (sym there.3 ∙ last)) in
      let most = on.most in
      let found = get-there h.connections there.0 (omega arith) in
      let kept = stayed h later on.stays there.0 found.0 d found.1 (on.shut there.0 found.0 early found.1) there.2 in
      let is : found.0.number ≡ number = sym (number-stays found.0 d kept) ∙ there.3 in
      subst (SameTraffic h later) is (same-closed h later rise also on there.0 found.0 early found.1)
  | inr none ↦ elim (secondary-connection-cases h number) [
    | inl here ↦
        let inside = slice_get_within h.connections here.0 here.1 here.2 in
        elim (cases_lt (suc here.0) (length later.connections)) [
          | inl early ↦ subst (SameTraffic h later) here.3 (same-closed h later rise also on here.0 here.1 early here.2)
          | inr end ↦
              let least = on.least in
              let equal : length later.connections ≡ length h.connections = omega arith in
              let index : length h.connections - 1 ≡ here.0 = omega arith in
              let last : here.1 ≡ secondary_connection h = same-at h.connections here.0 here.1 (secondary_connection h) here.2
              (subst (λ n. slice_get h.connections n ≡ Some (secondary_connection h)) index (last-established h (omega arith))) in
              absurd (other (sym here.3 ∙ (ap (λ (x : SecondaryConnection). x.number) last ∙ sym (on.last equal))))
        ]
    | inr nor ↦ never h later number nor none
  ]
]

-- The next history of a node over one link.

-- the last connection by its number
last-secondary-connection : (h : SecondaryHistory) → NumbersRise h.connections → 0 < length h.connections
    → secondary_connection_at h (secondary_connection h).number ≡ secondary_connection h
last-secondary-connection h rise some = secondary-connection-there h rise (length h.connections - 1) (secondary_connection h) (last-established h some)

-- The node goes on to a later history, of which both ends know the traffic, where they know what is new of it.
has-next : (w : SecondaryView) (h later : SecondaryHistory) → IsReached h → NodeHas (node w) later → GoesOn h later → 0 < length later.connections
    → (NextTraffic w.outgoing w.incoming (secondary_connection later).number (sent h) (sent later) (came h) (came later)
    → KnowTraffic w.outgoing w.incoming (secondary_connection later).number (sent later) (came later)) → SecondaryHas w later
has-next w h later reached has on some know = record {
  has = has;
  over = record { traffic = ends; opened = some; ended = ended };
}
  where
    last : secondary_connection_at later (secondary_connection later).number ≡ secondary_connection later
    last = last-secondary-connection later (has-rise later has.reached) some

    traffic : (number : ℕ) → (number ≡ (secondary_connection later).number → ⊥) → SameTraffic h later number
    traffic = same-traffic h later (has-rise h reached) (has-rise later has.reached) on

    ends : KnowTraffic w.outgoing w.incoming (secondary_connection later).number (sent later) (came later)
    ends = know (record {
      pushed_last = has.leaves.pushed ∙ ap (λ (d : SecondaryConnection). take d.pushed (answers_due later.settings d)) (sym last);
      taken_last = has.leaves.taken ∙ ap (λ (d : SecondaryConnection). d.taken) (sym last);
      pushed = λ number other. (traffic number other).pushed;
      taken = λ number other. (traffic number other).taken;
    })

    ended : (k : ℕ) (d : SecondaryConnection) → suc k < length later.connections → slice_get later.connections k ≡ Some d → d.closed ≡ true
    ended k d early at =
        let most = on.most in
        let within : k < length h.connections = omega arith in
        let found = get-there h.connections k within in
        let closed = on.shut k found.0 early found.1 in
        ap (λ (x : SecondaryConnection). x.closed) {y = record found.0 { applied = d.applied; gone = d.gone }}
        (stayed h later on.stays k found.0 d found.1 closed at)
        ∙ closed

-- A step that opens no end.
has-step : (event : SecondaryEvent) → IsNoOpening event → (v w : SecondaryView) (h : SecondaryHistory) → SecondaryHas v h
    → SameEnds v.outgoing w.outgoing v.incoming w.incoming
    → NodeHas (node w) (secondary_after event h) → SecondaryHas w (secondary_after event h)
has-step event none v w h was same has =
    let stays = stays-after event none h in
    let over = was.over in
    let count : length (secondary_after event h).connections ≡ length h.connections = stays.connections in
    let opened = over.opened in
    has-next w h (secondary_after event h) was.has.reached has
    (record {
      settings = stays.settings;
      stays = secondary_stays_closed (event ∷ []) h;
      least = omega arith;
      most = omega arith;
      last = λ equal. stays.number;
      shut = λ k c early at. over.ended k c (omega arith) at;
    })
    (omega arith) (traffic-stays over.traffic same stays.number)

-- So the node's step is a step over the link, and the node is one over it then.
pub steps-over : (event : SecondaryEvent) → IsNoOpening event → ((h : SecondaryHistory) → (secondary_step event h).1 ≡ secondary_after event h)
    → (v w : SecondaryView) (returned : Reply) → SameEnds v.outgoing w.outgoing v.incoming w.incoming → NodeSteps event (node v) returned (node w)
    → SecondarySteps event v returned w
steps-over event none is v w returned same steps = record {
  replies = λ h was. steps.replies h was.has;
  after = λ h was. subst (SecondaryHas w) (sym (is h)) (has-step event none v w h was same (subst (NodeHas (node w)) (is h) (steps.after h was.has)));
}

-- where only the core and what came in are new
pub outgoing-stays : (v w : SecondaryView) → w ≡ record v { core = w.core; incoming = w.incoming } → w.outgoing ≡ v.outgoing
outgoing-stays v w rest = ap (λ (x : SecondaryView). x.outgoing) rest

-- A step of the work is a run of one event, and runs go on.
pub runs-step : (event : SecondaryEvent) → IsWork event → (v w : SecondaryView) (returned : Reply)
    → ((h : SecondaryHistory) → (secondary_step event h).1 ≡ secondary_after event h)
    → SecondarySteps event v returned w → SecondaryRuns v w
runs-step event work v w returned is steps h was =
    (event ∷ [], (All-cons IsWork event [] work (All-nil IsWork), subst (SecondaryHas w) (is h) (steps.after h was)))

pub runs-self : (v : SecondaryView) → SecondaryRuns v v
runs-self v h was = ([], (All-nil IsWork, was))

run-both : (events more : List SecondaryEvent) (h : SecondaryHistory) → secondary_run more (secondary_run events h) ≡ secondary_run (events ++ more) h
run-both [] more h = refl
run-both (event ∷ events) more h = run-both events more (secondary_after event h)

pub runs-on : (u v w : SecondaryView) → SecondaryRuns u v → SecondaryRuns v w → SecondaryRuns u w
runs-on u v w first second h was =
    let one = first h was in
    let two = second (secondary_run one.0 h) one.1.1 in
    (one.0 ++ two.0, (All-append IsWork one.0 two.0 one.1.0 two.1.0, subst (SecondaryHas w) (run-both one.0 two.0 h) two.1.1))

-- A run from an opening goes on.
began-run : (o : Option Opening) (events : List SecondaryEvent) (h : SecondaryHistory) → SecondaryBegan o h → SecondaryBegan o (secondary_run events h)
began-run None events h began = tt
began-run (Some opening) events h began =
    (began.0 ++ events, ap (secondary_run events) began.1 ∙ run-both began.0 events (secondary_at opening))

pub had-runs : {o : Option Opening} (v w : SecondaryView) → SecondaryIsHad o v → SecondaryRuns v w → SecondaryIsHad o w
had-runs {o} v w had runs = record {
  history = _;
  has = (runs had.history had.has).1.1;
  began = began-run o (runs had.history had.has).0 had.history had.began;
}

pub had-over : {o : Option Opening} (event : SecondaryEvent) (v w : SecondaryView) (returned : Reply)
    → ((h : SecondaryHistory) → (secondary_step event h).1 ≡ secondary_after event h) → SecondaryIsHad o v → SecondarySteps event v returned w
    → SecondaryIsHad o w
had-over {o = o} event v w returned is had steps = record {
  history = (secondary_step event had.history).1;
  has = steps.after had.history had.has;
  began = subst (SecondaryBegan o) (sym (is had.history)) (began-run o (event ∷ []) had.history had.began);
}

-- a node that runs from an opening, of which the caller may know nothing
pub had-from : (o : Option Opening) (v : SecondaryView) (h : SecondaryHistory) → IfSome o (λ opening. h ≡ secondary_at opening)
    → SecondaryHas v (secondary_after (OpensToo 0) h) → SecondaryIsHad o v
had-from None v h is has = record { history = _; has = has; began = tt }
had-from (Some opening) v h is has = record { history = _; has = has; began = (OpensToo 0 ∷ [], ap (secondary_after (OpensToo 0)) is) }

-- An opening: one connection more, over the ends that the node has.

-- An opening that is accepted comes at a closed end.
opened-shut : (unseen : ℕ) (h : SecondaryHistory) → reply.Ok (plainly tt) ≡ (step.open_secondary unseen h).0 → (secondary_connection h).closed ≡ true
opened-shut unseen h is = go (first_refusal (step.open_secondary_tests h)) refl is
  where
    go : (v : Option Refusal) → first_refusal (step.open_secondary_tests h) ≡ v
        → reply.Ok (plainly tt) ≡ (elim v as
        (λ _. Reply × SecondaryHistory) [
          | Some refusal ↦ (reply.Refused refusal, h)
          | None ↦ step.succeeding_secondary what.Nothing
              (step.opened_secondary unseen h)
        ]).0 → (secondary_connection h).closed ≡ true
    go (Some refusal) none said = absurd (cc)
    go None none said =
        let passed = test-passed (not ((secondary_connection h).closed && is_drained h)) NotDrained [] none in
        (and_parts (secondary_connection h).closed (is_drained h) (not-false ((secondary_connection h).closed && is_drained h) passed.0)).0

-- It adds a connection of the next number.
record Opened (unseen : ℕ) (h later : SecondaryHistory) : Type 0 where
  connections : length later.connections ≡ suc (length h.connections)
  number : (secondary_connection later).number ≡ suc ((secondary_connection h).number + unseen)
  settings : later.settings ≡ h.settings

opened-more : (unseen : ℕ) (h : SecondaryHistory) → reply.Ok (plainly tt) ≡ (step.open_secondary unseen h).0
    → Opened unseen h (secondary_after (OpensToo unseen) h)
opened-more unseen h is = subst (Opened unseen h) (sym (opens-to unseen h (done_with what.Nothing) is)) (record {
  connections = length-change answering (step.opened_secondary unseen h).connections ∙ (length-append h.connections _ ∙ omega arith);
  number = number-with answering number-answering (step.opened_secondary unseen h) (with_secondary_connection answering (step.opened_secondary unseen h)) refl
      ∙ ap (λ (d : SecondaryConnection). d.number) (last-more (no_secondary_connection (step.opened_secondary unseen h)) _ h.connections);
  settings = refl;
})

-- so the history goes on where all but the last end had been closed
opens-on : (unseen : ℕ) (h : SecondaryHistory) → reply.Ok (plainly tt) ≡ (step.open_secondary unseen h).0
    → ((k : ℕ) (d : SecondaryConnection) → suc k < length h.connections → slice_get h.connections k ≡ Some d → d.closed ≡ true)
    → GoesOn h (secondary_after (OpensToo unseen) h)
opens-on unseen h said ended = record {
  settings = more.settings;
  stays = secondary_stays_closed (OpensToo unseen ∷ []) h;
  least = let size = more.connections in omega arith;
  most = let size = more.connections in omega arith;
  last = λ equal. absurd (let size = more.connections in omega arith);
  shut = shut;
}
  where
    more : Opened unseen h (secondary_after (OpensToo unseen) h)
    more = opened-more unseen h said

    shut : (k : ℕ) (d : SecondaryConnection) → suc k < length (secondary_after (OpensToo unseen) h).connections → slice_get h.connections k ≡ Some d
        → d.closed ≡ true
    shut k d early at = elim (cases_lt (suc k) (length h.connections)) [
      | inl before ↦ ended k d before at
      | inr end ↦
          let size = more.connections in
          let inside = slice_get_within h.connections k d at in
          let index : length h.connections - 1 ≡ k = omega arith in
          let one : d ≡ secondary_connection h = same-at h.connections k d (secondary_connection h) at
          (subst (λ n. slice_get h.connections n ≡ Some (secondary_connection h)) index (last-established h (omega arith))) in
          ap (λ (x : SecondaryConnection). x.closed) one ∙ opened-shut unseen h said
    ]

has-opened : (unseen number : ℕ) (v w : SecondaryView) (h : SecondaryHistory) → SecondaryHas v h → reply.Ok (plainly tt) ≡ (step.open_secondary unseen h).0
    → NodeHas (node w) (secondary_after (OpensToo unseen) h)
    → number ≡ suc ((secondary_connection h).number + unseen) → IsRestarted number v w → SecondaryHas w (secondary_after (OpensToo unseen) h)
has-opened unseen number v w h was said has counted restarted =
    let more = opened-more unseen h said in
    let size = more.connections in
    let next = more.number in
    let r = subst (λ (n : ℕ). IsRestarted n v w) (counted ∙ sym more.number) restarted in
    has-next w h (secondary_after (OpensToo unseen) h) was.has.reached has (opens-on unseen h said was.over.ended) (omega arith)
    (traffic-begins was.over.traffic (omega arith) r.before r.room r.waiting r.out_there r.out r.had r.queued r.capacity r.in_there r.inn)

-- So an end that opens anew goes on over its link, and one that is refused stays as it is.
pub reopens-over : (number : ℕ) (v w : SecondaryView) (result : Result (Unit {0}) Refusal) → v.core.number < number
    → NodeSteps (OpensToo (number - (v.core.number + 1))) (node v) (replied plainly result) (node w)
    → OnOk result (IsRestarted number v w) → OnErr result (w ≡ v) → SecondarySteps (OpensToo (number - (v.core.number + 1))) v (replied plainly result) w
reopens-over number v w (Ok returned) above s restarted unchanged = record {
  replies = λ h was. s.replies h was.has;
  after = λ h was.
      let last = was.has.leaves.core.last.number in
      has-opened (number - (v.core.number + 1)) number v w h was (s.replies h was.has) (s.after h was.has) (omega arith) restarted;
}
reopens-over number v w (Err e) above s restarted unchanged = record {
  replies = λ h was. s.replies h was.has;
  after = λ h was.
      let event : SecondaryEvent = OpensToo (number - (v.core.number + 1)) in
      let stays : (secondary_step event h).1 ≡ h = refused-same event tt h e (s.replies h was.has) in
      subst (SecondaryHas w) (sym stays) (subst (λ (x : SecondaryView). SecondaryHas x h) (sym unchanged) was);
}

-- both sides of the link are there
pub is-there : {o : Option Opening} (v : SecondaryView) → SecondaryIsHad o v → (is_some v.outgoing ≡ true) × (is_some v.incoming ≡ true)
is-there v had = (ap is_some had.has.over.traffic.out_there, ap is_some had.has.over.traffic.in_there)

-- A new node that opens over unused ends.
pub first-over : (v w : SecondaryView) (h : SecondaryHistory) (o : OutEnd) (i : InEnd) → IsNewOut o → IsNewIn i → h.connections ≡ [] → NodeHas (node v) h
    → NodeSteps (OpensToo 0) (node v) (reply.Ok (plainly tt)) (node w) → w.outgoing ≡ Some (outgoing o) → w.incoming ≡ Some (incoming i)
    → SecondaryHas w (secondary_after (OpensToo 0) h)
first-over v w h o i out inn none has steps out_there in_there =
    has-next w h later has.reached (steps.after h has) (opens-on 0 h said (λ k d early at. absurd (omega (arith, ap length none)))) (omega (arith, one))
    (traffic-first o i out inn out_there in_there first
    (λ number. ap (λ (d : SecondaryConnection). take d.pushed (answers_due h.settings d)) (never-open number))
    (λ number. ap (λ (d : SecondaryConnection). d.taken) (never-open number)))
  where
    later : SecondaryHistory
    later = secondary_after (OpensToo 0) h

    said : reply.Ok (plainly tt) ≡ (step.open_secondary 0 h).0
    said = steps.replies h has

    one : length (secondary_after (OpensToo 0) h).connections ≡ 1
    one = (opened-more 0 h said).connections ∙ ap (λ (l : List SecondaryConnection). suc (length l)) none

    first : (secondary_connection (secondary_after (OpensToo 0) h)).number ≡ 1
    first =
        let before : (secondary_connection h).number ≡ 0 = ap (λ (l : List SecondaryConnection). (last_of (no_secondary_connection h) l).number) none in
        let next = (opened-more 0 h said).number in
        omega arith

    never-open : (number : ℕ) → secondary_connection_at h number ≡ no_secondary_connection h
    never-open number = ap (λ (l : List SecondaryConnection). unwrap_or (find (λ (d : SecondaryConnection). d.number == number) l) (no_secondary_connection h))
        none
