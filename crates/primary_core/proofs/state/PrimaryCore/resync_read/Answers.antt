use Rattle.std.proofs.Common.{ℕ, suc, false, ◌≡◌, ◌∷◌, ◌++◌, [], List, None, Some, refl, sym, ◌∙◌, ap, arith, add-one}
use Rattle.std.specs.Prelude.{option_map}
use Rattle.blocks.specs.declared.outcome.Done.{Done}
use Rattle.blocks.specs.declared.outcome.What.TheVariants as what
use Rattle.model.specs.Stream.{ResyncItem}
use Rattle.overlap.specs.Holdings.{Holding, holding, holding_too}
use Rattle.resync.specs.UnderWay.{ResyncState}
use Rattle.transferlog.specs.Log.{LogState, resync_placed}
use Rattle.primary_protocol.specs.Core.{EndState, PrimaryState, appending, following}
use Rattle.primary_protocol.specs.Transitions.{copying}
use Rattle.primary_core.specs.Resyncing.{resync_choice}
use Rattle.primary_core.specs.State.{end_of, state_of}
use Rattle.primary_core.proofs.Copying.{chosen, chosen-inside, held-free, holding-zero}
use Rattle.primary_core.proofs.Ends.{end-at, opened-as}
use Rattle.primary_core.proofs.state.PrimaryCore.resync_read.Goals.{in-Some, in_default-connection}
use Rattle.primary_core.proofs.state.PrimaryCore.resync_read.Goals as goal

pub append-requires-clause-sent : goal.append-requires-clause-sent
append-requires-clause-sent c =
    let s = state_of c.self.inside in
    let is = c.self.invariant.sound in
    let inside = chosen-inside s c.args.block.0 (ap (λ y. resync_choice false y.state) c.self.view_is ∙ c.requires.chosen) in
    (omega (arith, inside, is.marks, is.in_range.blocks.1), c.requires.whole)

pub returns : goal.returns
returns c e at =
    let s = c.self.inside in
    let block = c.args.block.0 in
    let place = c.in-Ok.place in
    let item = ResyncItem block c.args.contents in
    elim c.match-self.branch [
      | in-Some w ↦
          let x = w.in-Some.connection in
          let t = state_of (record s { connection = Some x }) in
          let seen = opened-as s c.args.self.now x c.self.view_is w.in-Some.is in
          let ends = sym (end-at s c.args.self.now x c.self.view_is w.in-Some.is) ∙ at in
          let same : end_of x ≡ e = cc in
          let is = chosen t (end_of x) block refl (ap (resync_choice false) seen ∙ c.requires.chosen) in
          let held : holding 0 block 1 ∷ s.held ≡ holding_too (holding 0 block 1) t.held =
          sym (holding-zero s.log.state.accepted block s.held c.self.invariant.writers)
          ∙ ap (holding_too (holding 0 block 1)) (sym (held-free x.resync.under_way s.held is.free)) in
          let left : ℕ → ℕ × LogState → List Holding → Done × PrimaryState = λ k p h. following (what.Block (record { 0 = block }) p.0) None (record t {
            log = p.1;
            held = h;
            end = Some (record (end_of x) {
              unsent = x.outbox.items ++ item ∷ [];
              under_way = Some (record { block = block; place = p.0; epoch = k });
            });
          }) in
          let epoch : c.epoch-epoch.result ≡ suc s.log.state.epochs.ended = c.epoch-epoch.ensures ∙ add-one s.log.state.epochs.ended in
          c.finish_step.ensures ∙ (ap (following (what.Block c.args.block place) None) (c.append.ensures.state
          ∙ (ap (λ i. appending (item ∷ []) (state_of i)) w.self-inside-is
          ∙ ap (λ (r : ResyncState). appending (item ∷ []) (state_of (record s { log = c.place_resync.new.self; connection = Some (record x { resync = r }) })))
          w.copy.ensures))
          ∙ (ap (λ (k : ℕ). left k (place, c.place_resync.new.self.state) (holding 0 block 1 ∷ s.held)) epoch
          ∙ (ap (λ (p : ℕ × LogState). left (suc s.log.state.epochs.ended) p (holding 0 block 1 ∷ s.held)) c.in-Ok.ensures.placed
          ∙ (ap (left (suc s.log.state.epochs.ended) (resync_placed s.log.state)) held
          ∙ (ap (λ (y : EndState). copying block c.args.contents y t) same ∙ ap (copying block c.args.contents e) seen)))))
      | in_default-connection w ↦ absurd
          (let none : None ≡ Some e = sym (ap (option_map end_of) w.in_default-connection.is) ∙ (ap (λ v. v.state.end) c.self.view_is ∙ at) in cc)
    ]
