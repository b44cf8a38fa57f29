-- How the queries of LIST and SET_META_CONTEXT are read, one after another.
use Rattle.std.specs.Prelude.{ℕ, zero, suc, ◌≡◌, ◌+◌, ◌==◌, Bool, ◌||◌, ◌&&◌, nat_le, if◌then◌else◌, List, length, slice_range, drop, Option, Some, None}
use Rattle.std.specs.Borrow.{Bor}
use Rattle.packets.specs.Numbers.{number_in}
use Rattle.nbd.specs.Options.{names, names_allocation}

-- whether one of so many queries names the context, or whether it was named before; none if the bytes are not just these queries
unfoldable pub named_in : ℕ → ℕ → List ℕ → Bool → Option Bool
named_in option zero bytes named = if length bytes == 0 then Some named else None
named_in option (suc n) bytes named =
    if nat_le 4 (length bytes) && nat_le (4 + number_in 4 0 bytes) (length bytes)
    then named_in option n (drop (4 + number_in 4 0 bytes) bytes) (named || names option (slice_range bytes 4 (4 + number_in 4 0 bytes))) else None

-- the name that queries are for, and whether they name the context
abbrev pub named_of : ℕ → Option (List ℕ × List (List ℕ)) → Option (List ℕ × Bool)
named_of option None = None
named_of option (Some asked) = Some (asked.0, names_allocation option asked.1)

-- what was read is this
abbrev pub IsAsked : Option (Bor (List ℕ) × Bool) → Option (List ℕ × Bool) → Type 0
IsAsked None asked = asked ≡ None
IsAsked (Some found) asked = asked ≡ Some (found.0.now, found.1)
