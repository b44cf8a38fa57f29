-- A write that fails puts its first blocks alone.
use Rattle.std.proofs.Common.{◌≡◌, ℕ, ◌+◌, ◌≤◌, List, length, take, ap, sym, subst, ◌∙◌, arith}
use Rattle.std.specs.Option.{option_map}
use Rattle.blocks.specs.Contents.{blocks_of, overwritten, IsTorn}
use Rattle.blocks.specs.Faults.{FaultState, written}
use Rattle.blocks.specs.contracts.faulty.FaultStore.{the_view}
use Rattle.blocks.proofs.Cutting.{length-blocks_of}
use Rattle.blocks.proofs.Tearing.{torn_after, kept_put, fault_after}
use Rattle.blocks.proofs.faulty.FaultStoreStore.write.Goals as goal

-- the disk after the fault
torn : (c : goal.After-overwrite)
    → c.overwrite.new.self ≡ overwritten c.self.inside.disk c.args.range.first.0 (take c.in-Some.arming.kept (blocks_of 4096 c.args.bytes.now))
torn c = kept_put c.in-Some.arming.kept c.min-kept.result c.args.range.count c.args.range.first.0 c.args.bytes.now c.self.inside.disk c.overwrite.new.self
    c.requires.whole c.min-kept.ensures c.overwrite.ensures

pub returns-clause-after : goal.returns-clause-after
returns-clause-after c =
    let armed = ap (option_map (λ a. record { passes = a.passes; kept = a.kept })) c.in-Some.is in
    fault_after (the_view c.self.inside) (record { passes = c.in-Some.arming.passes; kept = c.in-Some.arming.kept }) c.args.range.first.0
    c.more-self-inside.result.count (blocks_of 4096 c.args.bytes.now) c.overwrite.new.self
    armed (omega (arith, c.if-arming-gt0.false)) (torn c) c.more-self-inside.ensures
    ∙ ap (written c.args.range.first.0 (blocks_of 4096 c.args.bytes.now)) c.self.view_is

pub returns-clause-torn : goal.returns-clause-torn
returns-clause-torn c =
    let device : c.self.inside.disk ≡ c.args.self.now.disk = ap (λ (s : FaultState). s.disk) c.self.view_is in
    let inside : c.args.range.first.0 + length (blocks_of 4096 c.args.bytes.now) ≤ length c.args.self.now.disk =
    omega (arith, length-blocks_of c.args.bytes.now) in
    subst (IsTorn c.args.self.now.disk c.args.range.first.0 (blocks_of 4096 c.args.bytes.now))
    (sym (torn c ∙ ap (λ (d : List (List ℕ)). overwritten d c.args.range.first.0 (take c.in-Some.arming.kept (blocks_of 4096 c.args.bytes.now))) device))
    (torn_after c.in-Some.arming.kept c.args.range.first.0 (blocks_of 4096 c.args.bytes.now) c.args.self.now.disk inside)

pub returns-clause-size : goal.returns-clause-size
returns-clause-size c = (returns-clause-torn c).size
