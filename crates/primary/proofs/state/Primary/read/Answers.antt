use Rattle.std.proofs.Common.{rules, ◌≡◌, ◌<◌, inl, inr, true, false, ap, subst, Err, refl}
use Rattle.blocks.specs.declared.refusal.Refusal.TheVariants.{NoMemory}
use Rattle.primary.specs.State.{PrimaryView}
use Rattle.primary.proofs.Reading.{always, not-range, one-range}
use Rattle.primary.proofs.state.Primary.read.Goals.{in-Ok, in-Err}
use Rattle.primary.proofs.state.Primary.read.Goals as goal

pub returns-in_err-range-clause-refused : goal.returns-in_err-range-clause-refused
returns-in_err-range-clause-refused g c =
    let refused : c.from_residual.result ≡ Err c.in_err-range.field-0.0 = search rules in
    rw refused (inl (
      c.in_err-range.ensures.refused,
      not-range _ _ _ _ _ c.self.invariant c.self.view_is c.blocks-2.ensures
          (λ range. let wrong : false ≡ true = c.in_err-range.ensures.accepted.1 range in cc),
      refl,
    ))

pub returns-in_err-bytes-clause-refused : goal.returns-in_err-bytes-clause-refused
returns-in_err-bytes-clause-refused g c =
    let refused : c.from_residual-in_err-bytes.result ≡ Err NoMemory = search rules in
    rw refused (inr (inl (refl, one-range _ _ _ _ _ c.self.invariant c.self.view_is c.blocks-2.ensures (c.in_ok-range.ensures.accepted.0 refl), refl)))

pub returns-clause-within : goal.returns-clause-within
returns-clause-within g c = always _ c.match-read_blocks.result
    (one-range _ _ _ _ _ c.self.invariant c.self.view_is c.blocks-2.ensures (c.in_ok-range.ensures.accepted.0 refl))

pub returns-clause-refused : goal.returns-clause-refused
returns-clause-refused g c = elim c.match-read_blocks.branch [
  | in-Ok w ↦ rw w.result-is tt
  | in-Err w ↦ rw w.result-is (inr (inr (
    refl,
    one-range _ _ _ _ _ c.self.invariant c.self.view_is c.blocks-2.ensures (c.in_ok-range.ensures.accepted.0 refl),
    subst (λ n. n < g.S.Store.faults c.read_blocks.new.self) (ap (λ (v : PrimaryView). v.faults) c.self.view_is) w.in-Err.ensures.counted,
  )))
]
