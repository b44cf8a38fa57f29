-- What a step keeps of a pair: the settings, and so how much the link holds.
use Rattle.std.proofs.Common.{◌≡◌, Bool, sym, ◌∙◌, ap, subst}
use Rattle.blocks.specs.declared.outcome.Reply.{Reply}
use Rattle.blocks.specs.declared.settings.Settings.{Settings}
use Rattle.model.specs.Pair.{Event, PairHistory, step}
use Rattle.model.specs.Theorems.{Opening}
use Rattle.pair_protocol.specs.State.{IsDirection, IsPair, IsPairStep, IsRun, PairHas, PairState}
use Rattle.pair_protocol.proofs.Honest.{opens-here, opens-there}
use Rattle.pair_protocol.proofs.Stepping.{is-run-more, same-opening}

-- a run keeps the settings of its opening
here-kept : (h : PairHistory) (is : IsRun h) → h.primary.settings ≡ is.opening.settings
here-kept h is = (opens-here h is).settings

there-kept : (h : PairHistory) (is : IsRun h) → h.secondary.settings ≡ is.opening.peer_settings
there-kept h is = (opens-there h is).settings

-- Some history is had after a step, where both directions are as they are between two calls.
pub pair-kept : (event : Event) (out_of_memory : Bool) (p q : PairState) (said : Reply) → IsPair p → IsPairStep event out_of_memory p said q
    → IsDirection p.primary.settings.link q.there → IsDirection p.secondary.settings.link q.back → IsPair q
pair-kept event out_of_memory p q said was steps there back = record {
  history = (step event out_of_memory h).1;
  has = after;
  there = subst (λ (s : Settings). IsDirection s.link q.there) here there;
  back = subst (λ (s : Settings). IsDirection s.link q.back) over back;
}
  where
    h : PairHistory
    h = was.history

    after : PairHas q (step event out_of_memory h).1
    after = steps.after h was.has

    here : p.primary.settings ≡ q.primary.settings
    here = was.has.primary.leaves.core.rest.settings ∙ here-kept h was.has.run
        ∙ sym (ap (λ (o : Opening). o.settings) (same-opening event out_of_memory h was.has.run))
        ∙ sym (here-kept (step event out_of_memory h).1 (is-run-more event out_of_memory h was.has.run)) ∙ sym after.primary.leaves.core.rest.settings

    over : p.secondary.settings ≡ q.secondary.settings
    over = was.has.secondary.leaves.core.settings ∙ there-kept h was.has.run
        ∙ sym (ap (λ (o : Opening). o.peer_settings) (same-opening event out_of_memory h was.has.run))
        ∙ sym (there-kept (step event out_of_memory h).1 (is-run-more event out_of_memory h was.has.run)) ∙ sym after.secondary.leaves.core.settings

-- both nodes have the same settings
pub same-settings : (p : PairState) (h : PairHistory) → PairHas p h → p.secondary.settings ≡ h.primary.settings
same-settings p h has = has.secondary.leaves.core.settings ∙ there-kept h has.run ∙ has.run.shares ∙ sym (here-kept h has.run)

pub own-settings : (p : PairState) (h : PairHistory) → PairHas p h → p.primary.settings ≡ h.primary.settings
own-settings p h has = has.primary.leaves.core.rest.settings
