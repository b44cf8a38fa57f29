use Rattle.std.proofs.Common.{◌≤◌, ◌∙◌, false, length, rules, sym, arith}
use Rattle.model.specs.Primary.{PrimaryHistory}
use Rattle.model.specs.Secondary.{SecondaryHistory, secondary_connection}
use Rattle.primary.specs.State.{PrimaryView, node as primary_node}
use Rattle.primary_protocol.specs.Node.{NodeHas as PrimaryHas}
use Rattle.secondary.specs.State.{SecondaryView, node as secondary_node}
use Rattle.secondary_protocol.specs.Node.{NodeHas as SecondaryHas}
use Rattle.settlement.proofs.Settling.{entries-by, keeps-order, kept-settles, settled-says, settled-says-anyhow}
use Rattle.settlement.proofs.settlement.confirm.Goals as goal

-- a secondary's last connection is not numbered above the primary's last one
few : (v : PrimaryView) (w : SecondaryView) → w.core.number ≤ v.core.connections → (p : PrimaryHistory) (s : SecondaryHistory) → PrimaryHas (primary_node v) p
    → SecondaryHas (secondary_node w) s → (secondary_connection s).number ≤ length p.connections
few v w least p s hp hs = let number = hs.leaves.core.last.number in let connections = hp.leaves.core.rest.connections in omega (
  arith,
  least,
  number,
  connections,
)

pub returns-clause-kept : goal.returns-clause-kept
returns-clause-kept g c = search rules

pub returns-clause-history : goal.returns-clause-history
returns-clause-history g c = λ least p s hp hs.
    returns-clause-kept g c p s hp hs ∙ kept-settles p s c.args.receipts.now false hs.reached (few c.args.primary.now c.args.secondary.now least p s hp hs)

pub returns-clause-settles : goal.returns-clause-settles
returns-clause-settles g c = λ least p s hp hs joined honest.
    settled-says p s hp.reached hs.reached honest joined c.args.receipts.now _ (sym (returns-clause-history g c least p s hp hs))

pub returns-clause-anyhow : goal.returns-clause-anyhow
returns-clause-anyhow g c = λ least p s hp hs joined.
    settled-says-anyhow p s hp.reached hs.reached joined c.args.receipts.now _ (sym (returns-clause-history g c least p s hp hs))

pub returns-clause-entries : goal.returns-clause-entries
returns-clause-entries g c = λ p hp. entries-by p c.args.receipts.now c.confirm-are_found.result c.if-not-are_found.false (c.confirm-are_found.ensures.found p hp)

pub returns-clause-order : goal.returns-clause-order
returns-clause-order g c = λ p s hp hs joined honest. keeps-order p s hp.reached hs.reached honest joined
