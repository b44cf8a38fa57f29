-- A secondary opens only when it is drained: on a connection before the last one nothing is pending.
use Rattle.std.proofs.Common.{ℕ, suc, ◌≡◌, ◌+◌, ◌-◌, ◌<◌, inl, inr, true, not, ◌&&◌, List, [], ◌∷◌, ◌++◌, length, Some, slice_get, sym, ◌∙◌, ap, subst}
use Rattle.std.proofs.Common.{arith, length-append}
use Rattle.std.proofs.lemmas.Bool.{cases_lt, and_parts, not-false, eqb-true}
use Rattle.std.proofs.lemmas.Option.{slice_get_within}
use Rattle.blocks.specs.declared.refusal.Refusal.TheVariants.{NotDrained}
use Rattle.blocks.specs.declared.outcome.What.TheVariants as what
use Rattle.model.specs.Primary.{change_last}
use Rattle.model.specs.Secondary.{SecondaryConnection, SecondaryHistory, no_secondary_connection, secondary_connection, secondary_map, pending, is_drained}
use Rattle.model.specs.Secondary.{new_secondary_connection}
use Rattle.model.specs.SecondarySteps.{answering, applying, failing, open_secondary_tests, opened_secondary, open_secondary, succeeding_secondary, next_number}
use Rattle.model.specs.LocalRuns.{SecondaryEvent, OpensToo, Receives, Applies, FailsToApply, Acknowledges, ClosesToo, secondary_after, secondary_run}
use Rattle.model.specs.Theorems.{secondary_at}
use Rattle.laws.specs.Statements.{SecondaryDrainsFirst}
use Rattle.laws.proofs.Lists.Last.{get-change-back, last-at, length-change}
use Rattle.laws.proofs.Lists.Elements.{get-more}
use Rattle.laws.proofs.Lists.Tests.{test-passed}
use Rattle.laws.proofs.Secondary.Runs.{tested-keeps}
use Rattle.laws.proofs.Secondary.Moves.{after-receive, after-peer, after-fault, after-push, after-close, framed, pushed_one, closed_end}
use Rattle.laws.proofs.Rules.RefusedFrames.{refused_end}

-- nothing is pending before the last connection
abbrev AreDrained : List SecondaryConnection → Type 0
AreDrained ds = (k : ℕ) (d : SecondaryConnection) → slice_get ds k ≡ Some d → suc k < length ds → length (pending d) ≡ 0

abbrev IsDrainedBefore : SecondaryHistory → Type 0
IsDrainedBefore h = AreDrained h.connections

-- a change of the last connection keeps it
changes : (ds : List SecondaryConnection) (f : SecondaryConnection → SecondaryConnection) → AreDrained ds → AreDrained (change_last f ds)
changes [] f all k d at less = absurd (cc)
changes (x ∷ ds) f all k d at less =
    let size = length-change f (x ∷ ds) in
    elim (get-change-back f x (x ∷ ds) k d at) [ inl same ↦ all k d same (omega arith) | inr changed ↦ absurd (let end = changed.2 in omega arith) ]

-- a new connection comes where nothing is pending on the last one
opens : (unseen : ℕ) (h : SecondaryHistory) → is_drained h ≡ true → IsDrainedBefore h → IsDrainedBefore (opened_secondary unseen h)
opens unseen h drained all k d at less =
    let new : SecondaryConnection = new_secondary_connection (next_number unseen h) (secondary_map h) h.tuple in
    let size : length (h.connections ++ new ∷ []) ≡ length h.connections + 1 = length-append h.connections (new ∷ []) in
    elim (get-more h.connections new k d at) [
      | inr added ↦ absurd (let here = added.0 in omega arith)
      | inl old ↦
          let within = slice_get_within h.connections k d old in
          elim (cases_lt (suc k) (length h.connections)) [
            | inl early ↦ all k d old early
            | inr last ↦ elim (last-at (no_secondary_connection h) h.connections) [
              | inl none ↦ absurd (let size_too : length h.connections ≡ 0 = ap length none in omega arith)
              | inr there ↦
                  let index : length h.connections - 1 ≡ k = omega arith in
                  let here : slice_get h.connections k ≡ Some (secondary_connection h) =
                  subst (λ (n : ℕ). slice_get h.connections n ≡ Some (secondary_connection h)) index there in
                  let same : secondary_connection h ≡ d = let e : Some (secondary_connection h) ≡ Some d = sym here ∙ old in cc in
                  subst (λ (x : SecondaryConnection). length (pending x) ≡ 0) same (eqb-true (length (pending (secondary_connection h))) 0 drained)
            ]
          ]
    ]

drained-open : (unseen : ℕ) (h : SecondaryHistory) → IsDrainedBefore h → IsDrainedBefore (open_secondary unseen h).1
drained-open unseen h all = tested-keeps IsDrainedBefore h (open_secondary_tests h) (λ _. succeeding_secondary what.Nothing (opened_secondary unseen h)) all
    (λ passed.
    let one = test-passed (not ((secondary_connection h).closed && is_drained h)) NotDrained [] passed in
    let free = and_parts (secondary_connection h).closed (is_drained h) (not-false ((secondary_connection h).closed && is_drained h) one.0) in
    changes (opened_secondary unseen h).connections answering (opens unseen h free.1 all))

drained-after : (event : SecondaryEvent) (h : SecondaryHistory) → IsDrainedBefore h → IsDrainedBefore (secondary_after event h)
drained-after (OpensToo unseen) h all = drained-open unseen h all
drained-after (Receives frame out_of_memory) h all = after-receive IsDrainedBefore h frame out_of_memory all (λ taken is standing. record {
  accepts = changes _ answering (changes h.connections (framed taken) all);
  receipts = λ write at frame_is late. changes _ answering (changes _ _ (changes h.connections (framed taken) all));
  adopts = λ item tuple consistent brings late. changes _ answering (changes h.connections (framed taken) all);
  refuses = changes _ refused_end (changes h.connections (framed taken) all);
})
drained-after (Applies place) h all = after-peer IsDrainedBefore h place all
    (λ waiting none. changes _ answering (changes h.connections (applying h.settings.protocol place) all))
drained-after (FailsToApply place offsets) h all = after-fault IsDrainedBefore h place offsets all
    (λ waiting none. changes h.connections (failing place offsets) all)
drained-after (Acknowledges room out_of_memory) h all = after-push IsDrainedBefore h room out_of_memory all
    (λ standing due. changes h.connections pushed_one all)
drained-after ClosesToo h all = after-close IsDrainedBefore h all (λ standing. changes h.connections closed_end all)

drained-run : (events : List SecondaryEvent) (h : SecondaryHistory) → IsDrainedBefore h → IsDrainedBefore (secondary_run events h)
drained-run [] h all = all
drained-run (event ∷ events) h all = drained-run events (secondary_after event h) (drained-after event h all)

-- Whatever frames a secondary takes and however its disk fails: nothing is pending before the last connection.
pub drains_first : SecondaryDrainsFirst
drains_first o events k d at less = drained-run events (secondary_at o) (λ k d at less. absurd (cc)) k d at less
