use Rattle.std.proofs.Common.{◌≡◌, ◌/◌, ◌%◌, length, ap, arith}
use Rattle.primary_core.proofs.Submission.{is-whole, is-refused}
use Rattle.primary_core.proofs.state.PrimaryCore.whole_range.Goals as goal

pub returns-clause-whole : goal.returns-clause-whole
returns-clause-whole c =
    let whole : length c.args.bytes.now % 4096 ≡ 0 = omega (arith, c.if-len-ne0.false, c.len.ensures.value) in
    rw (← c.self.view_is) (is-whole c.self.inside.settings c.args.first (c.len-2.result / 4096) c.args.bytes.now c.new.result whole
    (ap (λ n. n / 4096) c.len-2.ensures.value) c.new.ensures.accepted c.new.ensures.range)

pub returns-clause-refused : goal.returns-clause-refused
returns-clause-refused c =
    let whole : length c.args.bytes.now % 4096 ≡ 0 = omega (arith, c.if-len-ne0.false, c.len.ensures.value) in
    rw (← c.self.view_is) (is-refused c.self.inside.settings c.args.first (c.len-2.result / 4096) c.args.bytes.now c.new.result whole
    (ap (λ n. n / 4096) c.len-2.ensures.value) c.new.ensures.accepted c.new.ensures.refused)
