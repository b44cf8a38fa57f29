use Rattle.std.proofs.Common.{refl, slice_get}
use Rattle.std.specs.Prelude.{unwrap_or, false}
use Rattle.model.specs.LocalRuns.{Opens, primary_after}
use Rattle.model.specs.Primary.{PrimaryHistory, primary_opening}
use Rattle.kept_nodes.proofs.Covering.{first-began, opens-unwritten}
use Rattle.kept_nodes.proofs.kept_primary.KeptPrimary.open.Goals as goal

pub invariant_of-result : goal.invariant_of-result
invariant_of-result g c =
    let first : PrimaryHistory = primary_opening c.args.settings (slice_get (g.S.Store.contents c.args.store)) c.args.tuple
    (λ block. unwrap_or (slice_get c.args.marks block) false) in
    let later : PrimaryHistory = primary_after (Opens c.args.words.sync c.args.words.loss false) first in
    record {
      history = later;
      has = c.in_ok-node.ensures.opened;
      began = first-began g.B.Beginning.opening c.args.words.sync c.args.words.loss first c.requires.began;
      says = c.in-Ok.ensures.says later c.in_ok-node.ensures.opened (opens-unwritten c.args.words.sync c.args.words.loss false first refl);
      alone = λ none. refl;
    }
