-- How much of a hello has gone.
use Rattle.std.specs.Prelude.{ℕ, suc, ◌==◌, nat_lt, Option, None, Some, if◌then◌else◌}
use Rattle.blocks.specs.declared.command.Command.{Command}
use Rattle.blocks.specs.declared.command.Command.TheVariants as command

-- the frame of a hello that goes after this number of others: PROTOCOL, SIZES, UUIDS, and none after them
abbrev pub hello_after : ℕ → Option Command
hello_after frames =
    if frames == 0 then Some command.Protocol else
    if frames == 1 then Some command.Sizes else
    if frames == 2 then Some command.Uuids else None

-- counts another frame of the hello, up to 3
abbrev pub advanced : ℕ → ℕ
advanced frames = if nat_lt frames 3 then suc frames else frames
