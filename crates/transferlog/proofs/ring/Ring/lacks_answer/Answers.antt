use Rattle.std.proofs.Common.{◌≡◌, ◌+◌, ℕ, sym, ◌∙◌, subst, arith}
use Rattle.transferlog.specs.Ring.{Each}
use Rattle.transferlog.proofs.InSlots.{rises_of}
use Rattle.transferlog.proofs.Answered.{IsAnsweredBelow, answered_next, lacks_one, lacks_none}
use Rattle.transferlog.proofs.ring.Ring.lacks_answer.Goals as goal

pub returns-then-is_unanswered : goal.returns-then-is_unanswered
returns-then-is_unanswered c =
    sym (lacks_one c.args.first c.args.count c.loop-number.number c.args.self.now.writes (omega arith) (omega arith) (sym c.is_unanswered.ensures
    ∙ c.if-is_unanswered.true))

pub loop-number-preserved : goal.loop-number-preserved
loop-number-preserved c =
    let rises = rises_of c.self.inside c.args.self.now c.self.view_is c.self.invariant in
    answered_next c.args.first c.loop-number.number 0 c.args.self.now.writes rises (sym c.is_unanswered.ensures
    ∙ c.if-is_unanswered.false) c.loop-number.invariant

pub returns : goal.returns
returns c =
    let end : c.loop-number.number ≡ c.args.first + c.args.count = omega arith in
    let P : ℕ → Type 0 = λ k. Each (IsAnsweredBelow c.args.first k) c.args.self.now.writes in
    sym (lacks_none c.args.first c.args.count c.args.self.now.writes (subst P end c.loop-number.invariant))
