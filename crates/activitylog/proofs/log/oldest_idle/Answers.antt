use Rattle.std.proofs.Common.{◌≡◌, ◌∙◌, ap, None}
use Rattle.std.specs.Prelude.{fold, map}
use Rattle.std.specs.Map.Iter.{deref_pair}
use Rattle.std.proofs.lemmas.Map.Iter.{iter_end}
use Rattle.activitylog.proofs.Entries.{later_idle, oldest-idle}
use Rattle.activitylog.proofs.log.oldest_idle.Goals as goal

pub returns : goal.returns
returns c =
    let whole : map deref_pair c.loop-extent.yielded ≡ c.iter-extent-items.result =
    (iter_end deref_pair _ c.loop-extent.yielded _ _ _ _ c.into_iter-extent-iterator.ensures.into_iter_gives c.loop-extent.yielded_by c.in-None.is
    c.next.ensures.steps).0 in
    c.loop-extent.invariant ∙ ap (fold later_idle None) (whole ∙ c.iter-extent-items.ensures.rest) ∙ oldest-idle c.args.active.now.entries
