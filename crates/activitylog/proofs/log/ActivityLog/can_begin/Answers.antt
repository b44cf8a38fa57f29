use Rattle.std.proofs.Common.{◌∙◌, true, false, nat_lt, length, refl, sym, ap}
use Rattle.std.specs.Prelude.{is_some}
use Rattle.activitylog.proofs.Begun.{can-by}
use Rattle.activitylog.proofs.log.ActivityLog.can_begin.Goals as goal
use Rattle.activitylog.proofs.log.ActivityLog.can_begin.Goals.{then-contains, else-contains}

pub returns-then-len-self : goal.returns-then-len-self
returns-then-len-self c = elim c.if-contains.branch [
  | then-contains w ↦ rw (
    ← c.self.view_is,
    can-by c.self.inside.slots c.args.extent.0 c.self.inside.active.entries true (nat_lt (length c.self.inside.active.entries) c.self.inside.slots)
        (sym c.contains.ensures ∙ w.if-contains.true) refl,
  ) c.if-len-self.true
  | else-contains w ↦ rw (
    ← c.self.view_is,
    can-by c.self.inside.slots c.args.extent.0 c.self.inside.active.entries false true (sym c.contains.ensures
        ∙ w.if-contains.false) (sym (ap (λ n. nat_lt n c.self.inside.slots) w.len.ensures.len) ∙ sym w.value-is ∙ c.if-len-self.true),
  ) c.if-len-self.true
]

pub returns-else-len-self : goal.returns-else-len-self
returns-else-len-self c = elim c.if-contains.branch [
  | then-contains w ↦ absurd (let is = w.if-contains.true in cc)
  | else-contains w ↦ rw (
    ← c.self.view_is,
    can-by c.self.inside.slots c.args.extent.0 c.self.inside.active.entries false false (sym c.contains.ensures
        ∙ w.if-contains.false) (sym (ap (λ n. nat_lt n c.self.inside.slots) w.len.ensures.len) ∙ sym w.value-is ∙ c.if-len-self.false),
  ) (c.is_some.ensures
      ∙ ap is_some c.oldest_idle.ensures)
]
