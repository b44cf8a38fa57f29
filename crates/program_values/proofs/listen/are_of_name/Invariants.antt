use Rattle.std.proofs.Common.{◌≡◌, drop}
use Rattle.program_values.specs.Names.{are_of_name}
use Rattle.program_values.proofs.listen.are_of_name.Given as goal

-- whether the bytes that are left may stand in a name is whether all may
abbrev pub invariant-loop-byte : goal.invariant-loop-byte
invariant-loop-byte l = are_of_name (drop l.byte-index l.bytes) ≡ are_of_name l.bytes
