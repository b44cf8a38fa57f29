use Rattle.std.proofs.Common.{arith, sym}
use Rattle.primary_core.specs.Kept.{IsInside}
use Rattle.primary_core.proofs.Found.{found-is}
use Rattle.primary_core.proofs.state.PrimaryCore.start.Goals as goal

pub returns-in-Some-clause-inside : goal.returns-in-Some-clause-inside
returns-in-Some-clause-inside c =
    let s = c.self.inside in
    rw (← c.self.view_is) (found-is (IsInside s.settings.blocks) c.args.number s.log.state.writes c.in-Some.write.now c.self.invariant.sound.log.writes
    (sym c.in-Some.ensures)).0.inside

pub returns-in-Some-clause-whole : goal.returns-in-Some-clause-whole
returns-in-Some-clause-whole c =
    let s = c.self.inside in
    (found-is (IsInside s.settings.blocks) c.args.number s.log.state.writes c.in-Some.write.now c.self.invariant.sound.log.writes
    (sym c.in-Some.ensures)).0.whole

pub returns-in-Some-clause-numbered : goal.returns-in-Some-clause-numbered
returns-in-Some-clause-numbered c =
    let s = c.self.inside in
    let found = found-is (IsInside s.settings.blocks) c.args.number s.log.state.writes c.in-Some.write.now c.self.invariant.sound.log.writes
    (sym c.in-Some.ensures) in
    omega (arith, found.0.numbered, found.1)
