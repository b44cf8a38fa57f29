-- Words of 64 bits in a file, big-endian, and the sum over them.
use Rattle.std.specs.Prelude.{ℕ, ◌*◌, List, [], ◌∷◌, ◌++◌, take, drop}
use Rattle.std.specs.Int.{w64, from_be_bytes, to_be_bytes}
use Rattle.sha2.specs.Sha256.{sha256}

-- word i of these bytes
unfoldable pub word : List ℕ → ℕ → ℕ
word bytes i = from_be_bytes w64 (take 8 (drop (8 * i) bytes))

-- the bytes of these words
abbrev pub bytes_of : List ℕ → List ℕ
bytes_of [] = []
bytes_of (w ∷ words) = to_be_bytes w64 w ++ bytes_of words

-- The sum guards against a damaged file: the first word of the SHA-256 digest.
unfoldable pub sum_of : List ℕ → ℕ
sum_of bytes = word (sha256 bytes) 0

-- the bytes of these words, and then their sum
abbrev pub sealed : List ℕ → List ℕ
sealed words = bytes_of words ++ to_be_bytes w64 (sum_of (bytes_of words))
