use Rattle.std.proofs.Common.{◌≡◌, ◌++◌, List, [], Bool, None, Some, true, false, refl, sym, ◌∙◌, ap, not}
use Rattle.transferlog.specs.Ring.{changed}
use Rattle.transferlog.specs.Fields.{log_of}
use Rattle.transferlog.proofs.InSlots.{number-changed}
use Rattle.transferlog.proofs.Kept.{log_changed, changed_is, bounded_ended}
use Rattle.transferlog.proofs.Turned.{released_is, writes_are, completed_is, closes_is, no_release, after_release}
use Rattle.transferlog.specs.Log.{ended_by}
use Rattle.transferlog.proofs.log.TransferLog.change.Goals as goal

-- what is added to a list that was cleared
onto_empty : {X : Type 0} (new cleared added : List X) → new ≡ cleared ++ added → cleared ≡ [] → new ≡ added
onto_empty new cleared added is empty = is ∙ ap (λ front. front ++ added) empty

is_not : (b : Bool) → not b ≡ true → b ≡ false
is_not true is = cc
is_not false is = refl

is_so : (b : Bool) → not b ≡ false → b ≡ true
is_so true is = refl
is_so false is = cc

pub invariant_of-self : goal.invariant_of-self
invariant_of-self c =
    let l = c.self.inside in
    let s = log_of l in
    let n = c.args.number in
    let f = changed c.args.change in
    let inv = c.self.invariant in
    let none = sym c.in_default.is ∙ c.change.ensures.report in
    let writes = writes_are s n f None (number-changed c.args.change) c.change.ensures.rises inv.kept (no_release s n f (number-changed c.args.change) none) in
    log_changed l _ n c.args.change inv (ap (λ r. r.next) c.change.ensures.next) refl refl refl refl (ap (λ r. r.writes) c.change.ensures.next ∙ writes)
    c.forget_all.ensures.capacity c.clear.ensures.capacity (record { confirmed_writes = inv.acknowledged_through; begun = inv.begun })
    (record { blocks = refl; numbers = c.forget_all.ensures.numbers; known = c.forget_all.ensures.known }) c.change.ensures.rises
    (c.forget_all.ensures.items ∙ released_is s n f None (number-changed c.args.change) c.change.ensures.rises inv.kept
    (no_release s n f (number-changed c.args.change) none))

pub returns-in_default : goal.returns-in_default
returns-in_default c =
    let l = c.self.inside in
    let s = log_of l in
    let n = c.args.number in
    let f = changed c.args.change in
    let inv = c.self.invariant in
    let none = sym c.in_default.is ∙ c.change.ensures.report in
    let keeps = number-changed c.args.change in
    let gone = no_release s n f keeps none in
    let closed = closes_is s n f None c.change.ensures.rises none in
    rw (← c.self.view_is, c.forget_all.ensures.numbers) (changed_is s n f _ _ _ (None, l.epochs.state)
    (ap (λ r. r.writes) c.change.ensures.next ∙ writes_are s n f None keeps c.change.ensures.rises inv.kept gone)
    (c.forget_all.ensures.items ∙ released_is s n f None keeps c.change.ensures.rises inv.kept gone)
    (c.clear.ensures.items ∙ completed_is s n f None c.change.ensures.rises none)
    (ap (λ (b : Bool). ended_by b n l.epochs.state) closed))

pub invariant_of-self-then-not-report : goal.invariant_of-self-then-not-report
invariant_of-self-then-not-report c =
    let l = c.self.inside in
    let s = log_of l in
    let n = c.args.number in
    let f = changed c.args.change in
    let inv = c.self.invariant in
    let ring = after_release s n f c.change.new.self c.release.new.self c.release.result (number-changed c.args.change) c.change.ensures.rises inv.kept
    (ap (λ r. r.writes) c.change.ensures.next) c.release.ensures.release (ap (λ r. r.writes) c.release.ensures.next) in
    log_changed l _ n c.args.change inv (ap (λ r. r.next) c.release.ensures.next ∙ ap (λ r. r.next) c.change.ensures.next) refl refl refl refl ring.0
    (c.note.ensures.capacity ∙ c.forget_all.ensures.capacity) (c.note_completed.ensures.capacity
    ∙ c.clear.ensures.capacity) (record { confirmed_writes = inv.acknowledged_through; begun = inv.begun })
    (record { blocks = refl; numbers = c.forget_all.ensures.numbers; known = c.forget_all.ensures.known }) c.change.ensures.rises
    (onto_empty _ _ _ c.note.ensures.items c.forget_all.ensures.items ∙ ring.1)

pub returns-then-not-report : goal.returns-then-not-report
returns-then-not-report c =
    let l = c.self.inside in
    let s = log_of l in
    let n = c.args.number in
    let f = changed c.args.change in
    let inv = c.self.invariant in
    let ring = after_release s n f c.change.new.self c.release.new.self c.release.result (number-changed c.args.change) c.change.ensures.rises inv.kept
    (ap (λ r. r.writes) c.change.ensures.next) c.release.ensures.release (ap (λ r. r.writes) c.release.ensures.next) in
    let turned = sym c.in-Some.is ∙ c.change.ensures.report in
    let closed = closes_is s n f (Some c.in-Some.report) c.change.ensures.rises turned in
    let open_still : c.in-Some.report.closes ≡ false = is_not c.in-Some.report.closes c.if-not-report.true in
    rw (← c.self.view_is, c.forget_all.ensures.numbers) (changed_is s n f _ _ _ (None, l.epochs.state)
    ring.0
    (onto_empty _ _ _ c.note.ensures.items c.forget_all.ensures.items ∙ ring.1)
    (onto_empty _ _ _ c.note_completed.ensures.items c.clear.ensures.items ∙ completed_is s n f (Some c.in-Some.report) c.change.ensures.rises turned)
    (ap (λ (b : Bool). ended_by b n l.epochs.state) (sym open_still ∙ closed)))

pub invariant_of-self-2 : goal.invariant_of-self-2
invariant_of-self-2 c =
    let l = c.self.inside in
    let s = log_of l in
    let n = c.args.number in
    let f = changed c.args.change in
    let inv = c.self.invariant in
    let ring = after_release s n f c.change.new.self c.release.new.self c.release.result (number-changed c.args.change) c.change.ensures.rises inv.kept
    (ap (λ r. r.writes) c.change.ensures.next) c.release.ensures.release (ap (λ r. r.writes) c.release.ensures.next) in
    let bounded = bounded_ended true n l.acknowledged_through l.accepted l.epochs.state (record { confirmed_writes = inv.acknowledged_through; begun = inv.begun }) in
    log_changed l _ n c.args.change inv (ap (λ r. r.next) c.release.ensures.next ∙ ap (λ r. r.next) c.change.ensures.next) refl refl refl refl ring.0
    (c.note.ensures.capacity ∙ c.forget_all.ensures.capacity) (c.note_completed.ensures.capacity ∙ c.clear.ensures.capacity)
    (rw (ap (λ p. p.1) c.completed.ensures) bounded)
    (record { blocks = refl; numbers = c.forget_all.ensures.numbers; known = c.forget_all.ensures.known }) c.change.ensures.rises
    (onto_empty _ _ _ c.note.ensures.items c.forget_all.ensures.items ∙ ring.1)

pub returns : goal.returns
returns c =
    let l = c.self.inside in
    let s = log_of l in
    let n = c.args.number in
    let f = changed c.args.change in
    let inv = c.self.invariant in
    let ring = after_release s n f c.change.new.self c.release.new.self c.release.result (number-changed c.args.change) c.change.ensures.rises inv.kept
    (ap (λ r. r.writes) c.change.ensures.next) c.release.ensures.release (ap (λ r. r.writes) c.release.ensures.next) in
    let turned = sym c.in-Some.is ∙ c.change.ensures.report in
    let closed = closes_is s n f (Some c.in-Some.report) c.change.ensures.rises turned in
    let closes : c.in-Some.report.closes ≡ true = is_so c.in-Some.report.closes c.if-not-report.false in
    rw (← c.self.view_is, c.forget_all.ensures.numbers) (changed_is s n f _ _ _ (c.completed.result, c.completed.new.self.state)
    ring.0
    (onto_empty _ _ _ c.note.ensures.items c.forget_all.ensures.items ∙ ring.1)
    (onto_empty _ _ _ c.note_completed.ensures.items c.clear.ensures.items ∙ completed_is s n f (Some c.in-Some.report) c.change.ensures.rises turned)
    (c.completed.ensures ∙ ap (λ (b : Bool). ended_by b n l.epochs.state) (sym closes ∙ closed)))
