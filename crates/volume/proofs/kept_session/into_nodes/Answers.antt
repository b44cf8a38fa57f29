use Rattle.std.proofs.Common.{Some, subst, sym}
use Rattle.kept_nodes.specs.Kept.{PrimaryIsKept, SecondaryIsKept}
use Rattle.primary.specs.State.{PrimaryView}
use Rattle.secondary.specs.State.{SecondaryView}
use Rattle.session_nodes.specs.Primaries.{PrimaryHas, PrimaryIsHad}
use Rattle.session_nodes.specs.Secondaries.{SecondaryHas, SecondaryIsHad}
use Rattle.told_nodes.specs.Told.{IsTold}
use Rattle.volume.proofs.kept_session.into_nodes.Goals as goal

pub returns-clause-had : goal.returns-clause-had
returns-clause-had g c = record {
  0 = subst (λ (v : PrimaryView). PrimaryIsHad (Some g.L.Linked.opening) v) (sym c.join_nodes-primary.ensures.primary) c.into_parts-primary.ensures.had;
  1 = subst (λ (v : SecondaryView). SecondaryIsHad (Some g.L.Linked.opening) v) (sym c.join_nodes-primary.ensures.secondary) c.into_parts-secondary.ensures.had;
}

pub returns-clause-told : goal.returns-clause-told
returns-clause-told g c = subst (λ (v : PrimaryView). IsTold (Some g.L.Linked.opening) c.into_parts-primary.result.2.log v) (sym c.join_nodes-primary.ensures.primary)
    c.into_parts-primary.ensures.told

pub returns-clause-joined : goal.returns-clause-joined
returns-clause-joined g c = λ p s had held.
    c.join_nodes-primary.ensures.joined p s (subst (λ (v : PrimaryView). PrimaryHas v p) c.join_nodes-primary.ensures.primary had)
    (subst (λ (v : SecondaryView). SecondaryHas v s) c.join_nodes-primary.ensures.secondary held)

pub returns-clause-kept : goal.returns-clause-kept
returns-clause-kept g c = (
  c.into_parts-primary.ensures.kept.0,
  subst (λ (v : PrimaryView). PrimaryIsKept g.F.StableFile.seen g.F.StableFile.may_leave g.F.StableFile.faithful (Some g.L.Linked.opening) v
      c.into_parts-primary.result.1 c.into_parts-primary.ensures.kept.0) (sym c.join_nodes-primary.ensures.primary) c.into_parts-primary.ensures.kept.1,
)

pub returns-clause-kept_too : goal.returns-clause-kept_too
returns-clause-kept_too g c = subst (λ (v : SecondaryView). SecondaryIsKept (Some g.L.Linked.opening) v c.into_parts-secondary.result.1 c.into_parts-secondary.result.2)
    (sym c.join_nodes-primary.ensures.secondary) c.into_parts-secondary.ensures.kept
