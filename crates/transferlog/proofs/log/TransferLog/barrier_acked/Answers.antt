use Rattle.std.proofs.Common.{◌≡◌, ◌+◌, ℕ, Bool, true, not, refl, sym, ◌∙◌, ap, List, ◌++◌, []}
use Rattle.transferlog.specs.Log.{LogState, LogValue, may_confirm}
use Rattle.std.specs.Prelude.{filter, map}
use Rattle.transferlog.specs.Writes.{is_released, released_of}
use Rattle.transferlog.specs.Fields.{log_of}
use Rattle.transferlog.proofs.Kept.{newly_from, newly_below, bounded_confirmed, awaited_of, log_confirmed, confirmed_is}
use Rattle.transferlog.proofs.log.TransferLog.barrier_acked.Goals as goal

-- what is added to a list that was cleared
onto_empty : {X : Type 0} (new cleared added : List X) → new ≡ cleared ++ added → cleared ≡ [] → new ≡ added
onto_empty new cleared added is empty = is ∙ ap (λ front. front ++ added) empty

-- the test was passed, on the fields
passed : (number size : ℕ) (s now : LogState) (b : Bool) → s ≡ now → b ≡ may_confirm number size now → b ≡ true → may_confirm number size s ≡ true
passed number size s now b same is so = ap (may_confirm number size) same ∙ (sym is ∙ so)

pub release_all-requires-clause-low : goal.release_all-requires-clause-low
release_all-requires-clause-low c = newly_from c.self.inside.acknowledged_through _ c.self.inside.ring.writes c.self.invariant.kept

pub release_all-requires-clause-high : goal.release_all-requires-clause-high
release_all-requires-clause-high c = newly_below c.self.inside.acknowledged_through _ c.self.inside.ring.writes c.self.invariant.kept

pub invariant_of-self : goal.invariant_of-self
invariant_of-self c =
    let l = c.self.inside in
    let s = log_of l in
    let inv = c.self.invariant in
    let may = passed c.args.number c.args.size s _ c.may_confirm.result (ap (λ (v : LogValue). v.state) c.self.view_is) c.may_confirm.ensures
    c.if-not-may_confirm.false in
    let bounded = bounded_confirmed c.args.number c.args.size l.acknowledged_through l.accepted l.epochs.state (awaited_of c.args.number c.args.size s may)
    (record { confirmed_writes = inv.acknowledged_through; begun = inv.begun }) in
    log_confirmed l _ (l.acknowledged_through + c.args.size) inv c.release_all.ensures.next refl refl (ap (λ n. l.acknowledged_through + n) c.from.ensures) refl
    (c.release_all.ensures.writes ∙ ap (λ n. filter (λ w. not (is_released (l.acknowledged_through + n) w)) l.ring.writes) c.from.ensures)
    (c.release_all.ensures.capacity ∙ c.forget_all.ensures.capacity) c.clear.ensures.capacity (rw (ap (λ p. p.1) c.acknowledge.ensures) bounded)
    (record { blocks = refl; numbers = c.forget_all.ensures.numbers; known = c.forget_all.ensures.known }) c.release_all.ensures.rises
    (onto_empty _ _ _ c.release_all.ensures.released c.forget_all.ensures.items
    ∙ ap (λ n. map released_of (filter (is_released (l.acknowledged_through + n)) l.ring.writes)) c.from.ensures)

pub returns : goal.returns
returns c =
    let l = c.self.inside in
    let s = log_of l in
    let may = passed c.args.number c.args.size s _ c.may_confirm.result (ap (λ (v : LogValue). v.state) c.self.view_is) c.may_confirm.ensures
    c.if-not-may_confirm.false in
    let released = onto_empty _ _ _ c.release_all.ensures.released c.forget_all.ensures.items in
    rw (← c.self.view_is, c.forget_all.ensures.numbers) (rw may (confirmed_is c.args.number c.args.size s _ _ _ _ _ (ap (λ n. l.acknowledged_through + n) c.from.ensures)
    (c.release_all.ensures.writes ∙ ap (λ n. filter (λ w. not (is_released (l.acknowledged_through + n) w)) l.ring.writes) c.from.ensures)
    (ap (λ p. p.1) c.acknowledge.ensures)
    (released ∙ ap (λ n. map released_of (filter (is_released (l.acknowledged_through + n)) l.ring.writes)) c.from.ensures)
    c.clear.ensures.items))
