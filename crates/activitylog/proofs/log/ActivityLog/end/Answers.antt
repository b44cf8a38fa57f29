use Rattle.std.proofs.Common.{◌≡◌, ◌<◌, ◌-◌, Some, None, unwrap_or, refl, sym, ap, arith, nat_eq}
use Rattle.std.specs.Map.{lookup}
use Rattle.std.proofs.lemmas.Map.{length-set_value}
use Rattle.activitylog.specs.Activity.{writes_of}
use Rattle.activitylog.specs.Entries.{active_of}
use Rattle.activitylog.proofs.Entries.{writes-lookup, active-set}
use Rattle.activitylog.proofs.log.ActivityLog.end.Goals as goal
use Rattle.activitylog.proofs.log.ActivityLog.end.Goals.{in-Some, in_default}

pub overflow_sub-writes : goal.overflow_sub-writes
overflow_sub-writes c =
    let has : lookup (nat_eq c.args.extent.0) c.self.inside.active.entries ≡ Some c.in-Some.writes.now = sym c.in-Some.ensures.value in
    let writes = ap (λ o. unwrap_or o 0) has in
    let some : 0 < writes_of c.args.extent.0 (active_of c.self.inside.active.entries) = rw (ap (λ s. s.active) c.self.view_is) c.requires in
    omega (arith, writes-lookup c.args.extent.0 c.self.inside.active.entries)

pub invariant_of-self : goal.invariant_of-self
invariant_of-self c = elim c.match-peek_mut.branch [
  | in-Some w ↦ (let long = length-set_value (nat_eq c.args.extent.0) c.self.inside.active.entries (w.in-Some.writes.now - 1) in rw w.self-inside-is
      (c.self.invariant.0, c.self.invariant.1, omega (arith, c.self.invariant.2)))
  | in_default w ↦ rw w.self-inside-is c.self.invariant
]

pub returns : goal.returns
returns c = elim c.match-peek_mut.branch [
  | in-Some w ↦ (let has : lookup (nat_eq c.args.extent.0) c.self.inside.active.entries ≡ Some w.in-Some.writes.now =
      sym w.in-Some.ensures.value in rw (w.self-inside-is, ← c.self.view_is, active-set c.args.extent.0 w.in-Some.writes.now c.self.inside.active.entries has)
      refl)
  | in_default w ↦ (let has : lookup (nat_eq c.args.extent.0) c.self.inside.active.entries ≡ None = sym w.in_default.ensures.value in
      let writes = ap (λ o. unwrap_or o 0) has in
      let some : 0 < writes_of c.args.extent.0 (active_of c.self.inside.active.entries) = rw (ap (λ s. s.active) c.self.view_is) c.requires in
      absurd (omega (arith, writes-lookup c.args.extent.0 c.self.inside.active.entries)))
]
