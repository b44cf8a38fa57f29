use Rattle.std.proofs.Common.{sym, ◌∙◌, ap, subst}
use Rattle.blocks.specs.declared.settings.Settings.{Settings}
use Rattle.metadata.specs.declared.header.Header.{Header}
use Rattle.primary.specs.State.{PrimaryView, node}
use Rattle.primary_protocol.specs.Node.{NodeHas}
use Rattle.kept_nodes.proofs.Covering.{first-says}
use Rattle.kept_nodes.proofs.Losing.{on-ok}
use Rattle.kept_nodes.proofs.kept_primary.with_file.Goals as goal

pub returns-clause-says : goal.returns-clause-says
returns-clause-says g c = λ h has none.
    let fine = sym c.is_err.ensures.value ∙ c.if-is_err.false in
    let known = on-ok c.enter_marked.result fine c.enter_marked.ensures.known in
    let stand = on-ok c.enter_marked.result fine c.enter_marked.ensures.stand in
    let there : NodeHas (node c.node-primary.result.now) h = subst (λ (v : PrimaryView). NodeHas (node v) h) (sym c.node-primary.ensures.node) has.has in
    first-says g.F.StableFile.seen g.F.StableFile.may_leave g.F.StableFile.faithful c.enter_marked.new.metadata c.save_identifiers.new.metadata h c.bitmap.result.now none
    (ap (λ (x : Header). x.blocks) c.enter_marked.ensures.keeps.header ∙ (ap (λ (x : Header). x.blocks) (sym c.header.ensures) ∙ (c.if-header-from.false
    ∙ (c.from.ensures ∙ ap (λ (x : Settings). x.blocks) (c.settings.ensures h there)))))
    (c.bitmap.ensures.marks h there) known stand c.save_identifiers.ensures.keeps (c.save_identifiers.ensures.saved h has)
