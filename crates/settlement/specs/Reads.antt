-- What a read of a block says of the disk.
use Rattle.std.specs.Prelude.{Bool, true, false, Result, Ok, Err}
use Rattle.blocks.specs.declared.refusal.Refusal.{Refusal}
use Rattle.blocks.specs.declared.refusal.Refusal.TheVariants.{BadRange}

-- the disk has the block, or not; or it failed
abbrev pub is_there : Result (Unit {0}) Refusal → Result Bool Refusal
is_there (Ok done) = Ok true
is_there (Err BadRange) = Ok false
is_there (Err refusal) = Err refusal
