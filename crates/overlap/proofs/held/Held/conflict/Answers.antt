-- The walk is over the holdings that begin up to the end of the range.
use Rattle.std.proofs.Common.{ℕ, ◌≡◌, ◌∙◌, ◌+◌, ◌-◌, sym, ap, rules, arith}
use Rattle.std.specs.Prelude.{Option, Some, None, IfSome}
use Rattle.overlap.specs.Maps.{lowest_of}
use Rattle.overlap.proofs.Tied.{apart-between, is-conflict, is-lowest, is-none}
use Rattle.overlap.proofs.held.Held.conflict.Goals as goal

pub lowest_holder-requires : goal.lowest_holder-requires
lowest_holder-requires c =
    let between = c.range.ensures.between (search rules) in
    rw between (apart-between c.self.inside.by_number c.self.inside.by_first c.self.invariant (c.args.range.first.0 + (c.args.range.count - 1))
    c.range.ensures.ordered)

pub returns-clause-answer : goal.returns-clause-answer
returns-clause-answer c =
    let walk = c.lowest_holder.ensures ∙ ap (lowest_of c.args.range.first.0) (c.range.ensures.between (search rules)) in
    rw (← c.self.view_is) (walk ∙ is-conflict c.self.inside.by_number c.self.inside.by_first c.self.invariant c.args.range.first.0 c.args.range.count
    (c.args.range.first.0 + (c.args.range.count - 1))
    c.args.range.some (omega arith) c.range.ensures.ordered)

some_is : (o p : Option ℕ) (P : ℕ → Type 0) → o ≡ p → ((k : ℕ) → p ≡ Some k → P k) → IfSome o P
some_is None p P is each = search rules
some_is (Some k) p P is each = each k (sym is)

pub returns-clause-lowest : goal.returns-clause-lowest
returns-clause-lowest c =
    let walk = c.lowest_holder.ensures ∙ ap (lowest_of c.args.range.first.0) (c.range.ensures.between (search rules)) in
    rw (← c.self.view_is) (some_is _ _ _ walk (is-lowest c.self.inside.by_number c.self.inside.by_first c.self.invariant c.args.range.first.0 c.args.range.count
    (c.args.range.first.0 + (c.args.range.count - 1))
    c.args.range.some (omega arith) c.range.ensures.ordered))

pub returns-clause-none : goal.returns-clause-none
returns-clause-none c =
    let walk = c.lowest_holder.ensures ∙ ap (lowest_of c.args.range.first.0) (c.range.ensures.between (search rules)) in
    rw (← c.self.view_is, walk) (is-none c.self.inside.by_number c.self.inside.by_first c.self.invariant c.args.range.first.0 c.args.range.count
    (c.args.range.first.0 + (c.args.range.count - 1))
    c.args.range.some (omega arith) c.range.ensures.ordered)
