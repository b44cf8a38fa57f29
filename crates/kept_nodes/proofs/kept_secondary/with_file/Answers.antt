use Rattle.std.proofs.Common.{◌≡◌, None, ap, subst, sym, ◌∙◌}
use Rattle.blocks.specs.declared.settings.Settings.{Settings}
use Rattle.metadata.specs.declared.header.Header.{Header}
use Rattle.secondary.specs.State.{SecondaryView}
use Rattle.kept_nodes.specs.Kept.{SecondaryIsKept}
use Rattle.kept_nodes.proofs.Saving.{secondary-unfiled}
use Rattle.kept_nodes.proofs.kept_secondary.with_file.Goals as goal

pub save_identifiers-requires : goal.save_identifiers-requires
save_identifiers-requires g c =
    let had = c.node-secondary.ensures.had in
    let settings : c.settings.result ≡ c.args.node.now.core.settings = c.settings.ensures had.history had.has.has
    ∙ (sym had.has.has.leaves.core.settings ∙ ap (λ (v : SecondaryView). v.core.settings) c.node-secondary.ensures.node) in
    ap (λ (x : Header). x.blocks) (sym c.header.ensures)
    ∙ (c.if-header-from.false ∙ (c.from.ensures ∙ ap (λ (x : Settings). x.blocks) settings))

pub returns-in_default-clause-kept : goal.returns-in_default-clause-kept
returns-in_default-clause-kept g c = subst (λ (v : SecondaryView). SecondaryIsKept {F = g.row.F.Denot} g.B.Beginning.opening v None c.args.is_doubted)
    c.node-secondary.ensures.node (secondary-unfiled g.row.F.Denot g.B.Beginning.opening c.node-secondary.result.now c.args.is_doubted c.node-secondary.ensures.had)
