use Rattle.std.proofs.Common.{rules, ◌≡◌, false, Ok}
use Rattle.primary_core.specs.Resyncing.{resync_choice}
use Rattle.primary_core.proofs.state.PrimaryCore.resync_block.Goals as goal

pub returns-in_err-make_room-clause-block : goal.returns-in_err-make_room-clause-block
returns-in_err-make_room-clause-block c =
    let chosen : resync_choice false c.args.self.now.state ≡ Ok c.in_ok-block.block.0 = rw (← c.self.view_is, ← c.skip_unmarked.ensures) c.in_ok-block.ensures in
    search rules
