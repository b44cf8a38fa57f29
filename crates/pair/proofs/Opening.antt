-- Opening a pair: each way in which the call ends.
use Rattle.std.proofs.Common.{ℕ, ◌≡◌, ◌<◌, Bool, true, false, not, Option, Some, Result, Ok, Err, refl, sym, ◌∙◌, ap, subst}
use Rattle.blocks.specs.declared.refusal.Refusal.{Refusal}
use Rattle.blocks.specs.declared.refusal.Refusal.TheVariants.{NoMemory}
use Rattle.blocks.specs.declared.outcome.Done.{Done}
use Rattle.blocks.specs.declared.outcome.Reply.TheVariants as reply
use Rattle.blocks.specs.declared.outcome.What.TheVariants as what
use Rattle.blocks.specs.declared.settings.Settings.{Settings}
use Rattle.endpoint.specs.Calls.{is_out_of_memory, refusal_in}
use Rattle.endpoint.specs.PacketReceiver.{PacketReceiverState}
use Rattle.endpoint.specs.PacketSender.{PacketSenderState}
use Rattle.model.specs.LocalRuns.{Opens, OpensToo}
use Rattle.model.specs.Pair.{OpenEvent, PairHistory}
use Rattle.model.specs.Primary.{PrimaryHistory}
use Rattle.model.specs.PrimarySteps.{open_primary, open_tests}
use Rattle.model.specs.Refusals.{done_with, first_refusal}
use Rattle.model.specs.Secondary.{SecondaryHistory, secondary_connection, is_drained}
use Rattle.pair_protocol.specs.State.{AreEnds, Direction, IsDirection, IsPairStep, PairHas}
use Rattle.pair_protocol.proofs.Keeping.{own-settings, same-settings}
use Rattle.pair_protocol.proofs.Opening.{not-opened, opened}
use Rattle.primary_protocol.specs.Node as primary
use Rattle.primary_protocol.specs.Steps.{plainly, replied}
use Rattle.secondary_protocol.specs.Node as secondary
use Rattle.secondary_protocol.specs.Steps as from_secondary
use Rattle.primary.specs.State.{PrimaryView}
use Rattle.primary.specs.State as local
use Rattle.secondary.specs.State.{SecondaryView}
use Rattle.secondary.specs.State as peer
use Rattle.pair.specs.State.{PairView, IsPairView, state}
use Rattle.pair.proofs.Opens.{counted, may-not, never-refused, no-link, past-first, was-refused}

-- whatever would have been answered, memory was refused or not
same-out-of-memory : (A B : Type 0) (e : Refusal) → is_out_of_memory {R = A} (Err e) ≡ is_out_of_memory {R = B} (Err e)
same-out-of-memory A B NoMemory = refl
same-out-of-memory A B e = refl

-- The secondary is closed and drained, as its calls told.
module _ (v : PairView) (was : IsPairView v) (sync loss : ℕ) (is_open drained : Bool) (shut : is_open ≡ false) (empty : drained ≡ true)
    (tells : (h : SecondaryHistory) → secondary.NodeHas (peer.node v.secondary) h → is_open ≡ not (secondary_connection h).closed)
    (says : (h : SecondaryHistory) → secondary.NodeHas (peer.node v.secondary) h → drained ≡ is_drained h) where
  closed-then : (b : Bool) → not b ≡ false → b ≡ true
  closed-then true is = refl
  closed-then false is = absurd (cc)

  closed : (h : PairHistory) → PairHas (state v) h → (secondary_connection h.secondary).closed ≡ true
  closed h has = closed-then (secondary_connection h.secondary).closed (sym (tells h.secondary has.secondary) ∙ shut)

  is-drained : (h : PairHistory) → PairHas (state v) h → is_drained h.secondary ≡ true
  is-drained h has = sym (says h.secondary has.secondary) ∙ empty

  -- the primary refuses it, but for want of memory
  pub refused-step : (may : Result (Unit {0}) Refusal)
      → ((h : PrimaryHistory) → primary.NodeHas (local.node v.primary) h → refusal_in may ≡ first_refusal (open_tests h sync loss false)) → (e : Refusal)
      → may ≡ Err e
      → (result : Result Done Refusal) → result ≡ Err e
      → IsPairStep (OpenEvent sync loss) (is_out_of_memory result) (state v) (replied reply.Ok result) (state v)
  refused-step may asks e refused result returned =
      subst (λ (r : Result Done Refusal). IsPairStep (OpenEvent sync loss) (is_out_of_memory r) (state v) (replied reply.Ok r) (state v)) (sym returned)
      (not-opened sync loss (is_out_of_memory {R = Done} (Err e)) (state v) e
      (λ h has. past-first sync loss (is_out_of_memory {R = Done} (Err e)) h (closed h has) (is-drained h has)
      ∙ may-not sync loss e h.primary (sym (ap refusal_in refused) ∙ asks h.primary has.primary)))

  -- there is no memory for the link
  pub short-step : (may : Result (Unit {0}) Refusal)
      → ((h : PrimaryHistory) → primary.NodeHas (local.node v.primary) h → refusal_in may ≡ first_refusal (open_tests h sync loss false)) → may ≡ Ok tt
      → (result : Result Done Refusal) → result ≡ Err NoMemory
      → IsPairStep (OpenEvent sync loss) (is_out_of_memory result) (state v) (replied reply.Ok result) (state v)
  short-step may asks fine result returned =
      subst (λ (r : Result Done Refusal). IsPairStep (OpenEvent sync loss) (is_out_of_memory r) (state v) (replied reply.Ok r) (state v)) (sym returned)
      (not-opened sync loss true (state v) NoMemory (λ h has. past-first sync loss true h (closed h has) (is-drained h has)
      ∙ no-link sync loss h.primary (sym (asks h.primary has.primary) ∙ ap refusal_in fine)))

  -- the primary's end does not open
  pub not-opened-step : (w : PrimaryView) (got : Result (Unit {0}) Refusal) (e : Refusal) → got ≡ Err e → w ≡ v.primary
      → primary.NodeSteps (Opens sync loss (is_out_of_memory got)) (local.node v.primary) (replied plainly got) (local.node w)
      → (result : Result Done Refusal) → result ≡ Err e
      → IsPairStep (OpenEvent sync loss) (is_out_of_memory result) (state v) (replied reply.Ok result) (state (record { primary = w; secondary = v.secondary }))
  not-opened-step w got e refused same steps result returned =
      subst (λ (r : Result Done Refusal). IsPairStep (OpenEvent sync loss) (is_out_of_memory r) (state v) (replied reply.Ok r)
      (state (record { primary = w; secondary = v.secondary }))) (sym returned)
      (subst (λ (x : PrimaryView). IsPairStep (OpenEvent sync loss) (is_out_of_memory {R = Done} (Err e)) (state v) (reply.Refused e)
      (state (record { primary = x; secondary = v.secondary }))) (sym same)
      (not-opened sync loss (is_out_of_memory {R = Done} (Err e)) (state v) e
      (λ h has. past-first sync loss (is_out_of_memory {R = Done} (Err e)) h (closed h has) (is-drained h has)
      ∙ was-refused sync loss (is_out_of_memory {R = Done} (Err e)) e h.primary (here h has))))
    where
      here : (h : PairHistory) → PairHas (state v) h → reply.Refused e ≡ (open_primary sync loss (is_out_of_memory {R = Done} (Err e)) h.primary).0
      here h has =
          let said : replied plainly got ≡ (open_primary sync loss (is_out_of_memory got) h.primary).0 = steps.replies h.primary has.primary in
          ap (replied plainly) (sym refused) ∙ said ∙ ap (λ (r : Result (Unit {0}) Refusal). (open_primary sync loss (is_out_of_memory r) h.primary).0) refused
          ∙ ap (λ b. (open_primary sync loss b h.primary).0) (same-out-of-memory (Unit {0}) Done e)

  -- The primary's end opened.
  module _ (w : PrimaryView) (got : Result (Unit {0}) Refusal) (fine : got ≡ Ok tt)
      (steps : primary.NodeSteps (Opens sync loss (is_out_of_memory got)) (local.node v.primary) (replied plainly got) (local.node w)) where
    opens : primary.NodeSteps (Opens sync loss false) (local.node v.primary) (reply.Ok (done_with what.Nothing)) (local.node w)
    opens = subst (λ (r : Result (Unit {0}) Refusal). primary.NodeSteps (Opens sync loss (is_out_of_memory r)) (local.node v.primary) (replied plainly r)
        (local.node w)) fine steps

    pub is-counted : v.secondary.core.number < 4294967295
    is-counted = counted v sync loss was.pair.history was.pair.has (opens.replies was.pair.history.primary was.pair.has.primary)

    -- the secondary's is not refused then
    pub never : (e : Refusal) (other : Result (Unit {0}) Refusal) (x : SecondaryView) → other ≡ Err e
        → secondary.NodeSteps (OpensToo 0) (peer.node v.secondary) (from_secondary.replied from_secondary.plainly other) (peer.node x) → ⊥
    never e other x refused there =
        let h = was.pair.history in
        let said = there.replies h.secondary was.pair.has.secondary in
        never-refused e h.secondary (closed h was.pair.has) (is-drained h was.pair.has) (ap (from_secondary.replied from_secondary.plainly) (sym refused)
        ∙ said)

    -- and both are open
    pub opened-step : (may : Result (Unit {0}) Refusal)
        → ((h : PrimaryHistory) → primary.NodeHas (local.node v.primary) h → refusal_in may ≡ first_refusal (open_tests h sync loss false)) → may ≡ Ok tt
        → (x : SecondaryView) (other : Result (Unit {0}) Refusal)
        → secondary.NodeSteps (OpensToo 0) (peer.node v.secondary) (from_secondary.replied from_secondary.plainly other) (peer.node x)
        → (done : Done) → done ≡ done_with what.Nothing
        → IsPairStep (OpenEvent sync loss) false (state v) (reply.Ok done) (state (record { primary = w; secondary = x }))
    opened-step may asks may_fine x other there done is =
        subst (λ (d : Done). IsPairStep (OpenEvent sync loss) false (state v) (reply.Ok d) (state (record { primary = w; secondary = x }))) (sym is)
        (opened sync loss false (state v) (state (record { primary = w; secondary = x })) (reply.Ok (done_with what.Nothing))
        (from_secondary.replied from_secondary.plainly other)
        (λ h has. past-first sync loss false h (closed h has) (is-drained h has) ∙ sym (asks h.primary has.primary) ∙ ap refusal_in may_fine) opens there)

-- A direction that has both sides.
pub both-there : (capacity : ℕ) (d : Direction) (o : PacketSenderState) (i : PacketReceiverState) → d.out ≡ Some o → d.inn ≡ Some i → AreEnds capacity o i
    → IsDirection capacity d
both-there capacity d o i out inn ends =
    subst (λ (v : Option PacketSenderState). IsDirection capacity (record { out = v; inn = d.inn })) (sym out) (i, inn, ends)

-- what the new link holds is what both nodes' settings say
pub own-link : (v : PairView) → IsPairView v → (settings : Settings) → ((h : PrimaryHistory) → primary.NodeHas (local.node v.primary) h → settings ≡ h.settings)
    → (settings.link ≡ v.primary.core.settings.link) × (settings.link ≡ v.secondary.core.settings.link)
own-link v was settings says =
    let h = was.pair.history in
    let here : settings ≡ h.primary.settings = says h.primary was.pair.has.primary in (
      ap (λ (s : Settings). s.link) (here ∙ sym (own-settings (state v) h was.pair.has)),
      ap (λ (s : Settings). s.link) (here ∙ sym (same-settings (state v) h was.pair.has)),
    )

-- a direction that holds as many
pub resized : (m n : ℕ) (o : PacketSenderState) (i : PacketReceiverState) → m ≡ n → AreEnds m o i → AreEnds n o i
resized m n o i same ends = subst (λ k. AreEnds k o i) same ends
