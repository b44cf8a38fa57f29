use Rattle.std.proofs.Common.{ℕ, ◌≡◌, Option, Some, None, refl, sym, subst}
use Rattle.std.specs.Prelude.{IfSome}
use Rattle.model.specs.Primary.{next_local}
use Rattle.primary.specs.Calls.{WritesOne}
use Rattle.primary.specs.State.{PrimaryView}
use Rattle.session_nodes.specs.Primaries.{PrimaryHas}
use Rattle.kept_nodes.specs.Kept.{PrimaryIsKept}
use Rattle.kept_nodes.proofs.Covering.{kept-event, kept-still}
use Rattle.kept_nodes.proofs.Working.{LedBy, writes-led}
use Rattle.session_nodes.proofs.Primaries.{goes-on-runs}
use Rattle.kept_nodes.proofs.kept_primary.KeptPrimary.write_next.Goals as goal

pub invariant_of-self : goal.invariant_of-self
invariant_of-self g c = go (next_local c.self.invariant.history) refl (c.write_next-written.ensures.writes c.self.invariant.history c.self.invariant.has)
  where
    go : (v : Option ℕ) → next_local c.self.invariant.history ≡ v
        → IfSome v (λ number. WritesOne number c.write_next-written.result c.self.inside.node c.write_next-written.new.self)
        → PrimaryIsKept g.F.StableFile.seen g.F.StableFile.may_leave g.F.StableFile.faithful g.B.Beginning.opening c.write_next-written.new.self
        c.save_identifiers.new.metadata c.self.inside.owes_all
    go None is none = kept-still g.F.StableFile.seen g.F.StableFile.may_leave g.F.StableFile.faithful g.B.Beginning.opening c.self.inside.node
        c.write_next-written.new.self c.self.inside.metadata c.save_identifiers.new.metadata c.self.inside.owes_all c.self.invariant
        c.save_identifiers.ensures.keeps
        (λ h has. subst (λ (v : PrimaryView). PrimaryHas v h)
        (sym (c.write_next-written.ensures.nothing c.self.invariant.history c.self.invariant.has is).1) has) c.save_identifiers.ensures.saved
    go (Some number) is written =
        let led : LedBy c.self.inside.node c.write_next-written.new.self = writes-led number c.write_next-written.result c.self.inside.node
        c.write_next-written.new.self c.write_next-written.ensures.outward c.write_next-written.ensures.inward written in
        kept-event g.F.StableFile.seen g.F.StableFile.may_leave g.F.StableFile.faithful g.B.Beginning.opening led.event led.none c.self.inside.node
        c.write_next-written.new.self c.self.inside.metadata c.save_identifiers.new.metadata c.self.inside.owes_all c.self.invariant
        c.save_identifiers.ensures.keeps led.after c.save_identifiers.ensures.saved

pub returns-clause-goes_on : goal.returns-clause-goes_on
returns-clause-goes_on g c = rw (← c.self.view_is)
    (goes-on-runs c.self.inside.node c.write_next-written.new.self c.write_next-written.ensures.runs c.write_next-written.ensures.falls)
