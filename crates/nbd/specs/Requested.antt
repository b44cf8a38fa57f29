-- A request as contracts see it.
use Rattle.std.specs.Prelude.{Bool, ℕ, ◌≡◌, ◌%◌, ◌==◌, List, bit_and}
use Rattle.nbd.specs.declared.command.NbdCommand.{NbdCommand}
use Rattle.nbd.specs.declared.terms.Terms.{Terms}

-- the number of the connection that gave it out, on which terms, what its client asked, and whether its pieces were taken
pub record Requested : Type 0 where
  pub of : ℕ
  pub terms : Terms
  pub command : NbdCommand
  pub flags : ℕ
  pub cookie : ℕ
  pub offset : ℕ
  pub length : ℕ
  pub payload : List ℕ
  pub is_divided : Bool

-- a request of the connection of this number
abbrev pub IsOf : ℕ → Requested → Type 0
IsOf of request = request.of ≡ of

-- whether it has FUA (1)
abbrev pub has_fua : Requested → Bool
has_fua r = r.flags % 2 == 1

-- whether it has NO_HOLE (2)
abbrev pub is_no_hole : Requested → Bool
is_no_hole r = bit_and r.flags 2 == 2

-- whether it has DF (4)
abbrev pub is_unfragmented : Requested → Bool
is_unfragmented r = bit_and r.flags 4 == 4

-- whether it has REQ_ONE (8)
abbrev pub wants_one : Requested → Bool
wants_one r = bit_and r.flags 8 == 8
