-- What a write alone, or one that fails, marks: what is unmarked then, and what is marked.
use Rattle.std.proofs.Common.{ℕ, ◌≡◌, true, false}
use Rattle.std.proofs.lemmas.Bool.{or_parts, or_left, or_right}
use Rattle.model.specs.Contents.{Write, covers}
use Rattle.model.specs.Marks.{Marks, marking}

-- a block that is unmarked then was unmarked, and the write does not have it
pub unmarked-by : (write : Write) (marks : Marks) (block : ℕ) → marking write marks block ≡ false → (marks block ≡ false) × (covers write block ≡ false)
unmarked-by write marks block unmarked = or_parts (marks block) (covers write block) unmarked

-- what was marked is so still
pub marked-still : (write : Write) (marks : Marks) (block : ℕ) → marks block ≡ true → marking write marks block ≡ true
marked-still write marks block marked = or_left (marks block) (covers write block) marked

-- and each block of the write is
pub marked-covered : (write : Write) (marks : Marks) (block : ℕ) → covers write block ≡ true → marking write marks block ≡ true
marked-covered write marks block covered = or_right (marks block) (covers write block) covered
