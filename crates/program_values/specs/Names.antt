-- What the name of a server is spelled of.
use Rattle.std.specs.Prelude.{ℕ, List, [], ◌∷◌, Bool, true, false, ◌&&◌, ◌||◌, ◌==◌, ◌≡◌, ◌≤◌, IsTrue, length, codes}
use Rattle.std.specs.Char.{is_ascii_alphanumeric}

-- a letter, a digit, `-`, `_` or `.`
abbrev pub is_of_name : ℕ → Bool
is_of_name byte = is_ascii_alphanumeric byte || (byte == 45) || (byte == 95) || (byte == 46)

-- so is each byte
abbrev pub are_of_name : List ℕ → Bool
are_of_name [] = true
are_of_name (byte ∷ bytes) = is_of_name byte && are_of_name bytes

-- the first byte is a letter or a digit
abbrev pub begins_name : List ℕ → Bool
begins_name [] = false
begins_name (byte ∷ bytes) = is_ascii_alphanumeric byte

-- the name of a server: no path, nothing that a text has to quote, and no word for all servers
abbrev pub IsName : List ℕ → Type 0
IsName word = IsTrue (begins_name word) × (length word ≤ 64) × (word ≡ codes "all" → ⊥) × IsTrue (are_of_name word)
