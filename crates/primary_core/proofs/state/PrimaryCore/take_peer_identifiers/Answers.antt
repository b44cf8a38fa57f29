use Rattle.std.proofs.Common.{◌≡◌, false, Some, None, refl, sym, ◌∙◌, ap}
use Rattle.std.specs.Prelude.{option_map}
use Rattle.blocks.specs.Identifiers.{decision, stands_in}
use Rattle.blocks.specs.declared.outcome.What.TheVariants as what
use Rattle.primary_protocol.specs.Core.{EndState, PrimaryState, following}
use Rattle.primary_protocol.specs.Taking.{begun_with, hearing}
use Rattle.primary_core.specs.State.{core_of, end_of}
use Rattle.primary_core.proofs.Beginning.{begun-over, meets}
use Rattle.primary_core.proofs.state.PrimaryCore.take_peer_identifiers.Goals as goal

pub returns : goal.returns
returns c e is =
    let s = c.args.self.now.state in
    let peer = c.args.peer in
    let v = core_of c.self.inside in
    let x = c.in-Some.connection in
    let here = ap (λ y. y.state.end) c.self.view_is ∙ is in
    let ends = sym (ap (option_map end_of) c.in-Some.is) ∙ here in
    let same : end_of x ≡ e = cc in
    let sync : stands_in e.sync peer ≡ false = ap (λ (x : EndState). stands_in x.sync peer) (sym same) ∙ (sym c.stands_in.ensures ∙ c.if-stands_in.false) in
    let loss : stands_in e.loss peer ≡ false = ap (λ (x : EndState). stands_in x.loss peer) (sym same)
    ∙ (sym c.stands_in-else-stands_in.ensures ∙ c.if-stands_in-2.false) in
    let decided = c.in_ok-decided.decided in
    let allowed = ap (λ x. decision x.state.tuple peer) (sym c.self.view_is) ∙ (sym c.decide.ensures ∙ c.in_ok-decided.was) in
    let seen : PrimaryState = record v.state { peer = Some peer } in
    let begun = c.begin.ensures (hearing e) (ap (λ (x : PrimaryState). x.end) c.hello_frame_received.ensures ∙ ap (option_map hearing) here)
    ∙ (ap (begun_with decided (hearing e)) c.hello_frame_received.ensures
    ∙ (begun-over decided (hearing e) seen (option_map hearing v.state.end)
    ∙ ap (λ x. begun_with decided (hearing e) (record x.state { peer = Some peer })) c.self.view_is)) in
    meets peer (hearing e) s decided (c.finish_step.result, c.finish_step.new.self.state) (rw (sync, loss) refl) allowed (c.finish_step.ensures
    ∙ ap (following (what.Decided decided) None) begun)
