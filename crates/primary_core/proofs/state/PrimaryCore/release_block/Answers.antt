use Rattle.std.proofs.Common.{◌≡◌, List, Some, None, sym, ◌∙◌, ap}
use Rattle.std.specs.Prelude.{option_map}
use Rattle.overlap.specs.Holdings.{Holding, without}
use Rattle.resync.specs.UnderWay.{ResyncState}
use Rattle.primary_protocol.specs.Core.{EndState, PrimaryState}
use Rattle.primary_core.specs.State.{end_of, state_of}
use Rattle.primary_core.proofs.Ends.{opened-as}
use Rattle.primary_core.proofs.Held.{without-block}
use Rattle.primary_core.proofs.state.PrimaryCore.release_block.Goals.{in-Some, in_default}
use Rattle.primary_core.proofs.state.PrimaryCore.release_block.Goals as goal

pub returns : goal.returns
returns c e is =
    let s = c.self.inside in
    let here = ap (λ v. v.state.end) c.self.view_is ∙ (ap (λ (x : PrimaryState). x.end) c.unmark.ensures ∙ is) in
    elim c.match-self.branch [
      | in-Some w ↦
          let x = w.in-Some.connection in
          let t = state_of (record s { connection = Some x }) in
          let ends = sym (ap (option_map end_of) w.in-Some.is) ∙ here in
          let same : end_of x ≡ e = cc in
          rw w.self-inside-is (ap (λ (r : ResyncState). state_of (record s { connection = Some (record x { resync = r }) })) w.acknowledged.ensures
          ∙ (ap (λ (h : List Holding). record t { held = h; end = Some (record (end_of x) { under_way = None }) })
          (sym (without-block s.log.state.accepted x.resync.under_way s.held c.self.invariant.writers))
          ∙ (ap (λ (y : EndState). record t { held = without 0 t.held; end = Some (record y { under_way = None }) }) same
          ∙ ap (λ (y : PrimaryState). record y { held = without 0 y.held; end = Some (record e { under_way = None }) })
          (opened-as s c.unmark.new.self x c.self.view_is w.in-Some.is ∙ c.unmark.ensures))))
      | in_default w ↦ absurd (let none : None ≡ Some e = sym (ap (option_map end_of) w.in_default.is) ∙ here in cc)
    ]
