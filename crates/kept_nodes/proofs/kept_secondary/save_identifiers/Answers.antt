use Rattle.std.proofs.Common.{◌≡◌, ◌&&◌, ◌∙◌, not, ap, subst, sym}
use Rattle.model.specs.Secondary.{SecondaryHistory}
use Rattle.secondary.specs.State.{SecondaryView, node}
use Rattle.secondary_protocol.specs.Node.{NodeHas}
use Rattle.kept_nodes.specs.Kept.{SecondaryIsKept}
use Rattle.kept_nodes.proofs.Saving.{IsSized, kept-saved, there-still}
use Rattle.kept_nodes.proofs.kept_secondary.save_identifiers.Goals.{then-is_consistent, else-is_consistent}
use Rattle.kept_nodes.proofs.kept_secondary.save_identifiers.Goals as goal

pub returns-clause-kept : goal.returns-clause-kept
returns-clause-kept g c =
    let both : c.if-is_consistent.save_turned ≡ (c.is_consistent.result && not c.args.is_doubted) = elim c.if-is_consistent.branch [
      | then-is_consistent w ↦ w.save_turned-is ∙ sym (ap (λ a. a && not c.args.is_doubted) w.if-is_consistent.true)
      | else-is_consistent w ↦ w.save_turned-is ∙ w.if-is_consistent.false ∙ sym (ap (λ a. a && not c.args.is_doubted) w.if-is_consistent.false)
    ] in
    let consistent : (h : SecondaryHistory) → NodeHas (node c.node-secondary.result.now) h → c.if-is_consistent.save_turned ≡ (h.consistent && not c.args.is_doubted)
    = λ h has. both ∙ ap (λ a. a && not c.args.is_doubted) (c.is_consistent.ensures h has) in
    let sized : IsSized c.args.metadata.now c.node-secondary.result.now =
    subst (λ (v : SecondaryView). IsSized c.args.metadata.now v) (sym c.node-secondary.ensures.node) c.requires in
    subst (λ (v : SecondaryView). SecondaryIsKept g.B.Beginning.opening v c.save_turned.new.metadata c.args.is_doubted) c.node-secondary.ensures.node
    (kept-saved g.F.StableFile.seen g.F.StableFile.may_leave g.F.StableFile.faithful g.B.Beginning.opening c.node-secondary.result.now c.args.is_doubted
    c.tuple.result c.if-is_consistent.save_turned c.args.metadata.now c.save_turned.new.metadata c.node-secondary.ensures.had c.tuple.ensures consistent sized
    c.save_turned.ensures.keeps c.save_turned.ensures.saved)

pub returns-clause-there : goal.returns-clause-there
returns-clause-there g c = there-still g.F.StableFile.seen g.F.StableFile.may_leave g.F.StableFile.faithful c.args.metadata.now c.save_turned.new.metadata
    c.save_turned.ensures.keeps
