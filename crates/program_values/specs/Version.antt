-- What the program says of its version.
use Rattle.std.specs.Prelude.{ℕ, List, ◌++◌, codes}

-- the version, the commit that it was built from, and the logic of its proofs
abbrev pub version_text : List ℕ → List ℕ
version_text commit =
    codes "drbdpair 0.1.0\ncommit: " ++ (commit ++ codes "\nlogic: dac8208d650f15bf\n")
