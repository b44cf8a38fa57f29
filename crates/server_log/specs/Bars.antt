-- The progress of a copy as a bar on a terminal, which each further one is written over.
use Rattle.std.specs.Prelude.{ℕ, ◌/◌, ◌==◌, if◌then◌else◌, List, ◌++◌, codes}
use Rattle.std.specs.Fmt.{decimal}
use Rattle.server_log.specs.declared.event.Copied.{Copied}

-- the cells of a bar, of which so many are filled
abbrev pub cells_text : ℕ → List ℕ
cells_text n =
    if n == 0 then codes ".........." else (
    if n == 1 then codes "#........." else (
    if n == 2 then codes "##........" else (
    if n == 3 then codes "###......." else (
    if n == 4 then codes "####......" else (
    if n == 5 then codes "#####....." else (
    if n == 6 then codes "######...." else (
    if n == 7 then codes "#######..." else (
    if n == 8 then codes "########.." else (
    if n == 9 then codes "#########." else (
    codes "##########"))))))))))

-- a bar from the start of the line on, with room for what a longer one left behind it
abbrev pub bar_text : Copied → List ℕ
bar_text copied =
    codes "\r[" ++ (cells_text (copied.percent / 10) ++ (codes "] " ++ (decimal copied.percent ++ (codes "% done, " ++ (decimal copied.left_kib
    ++ (codes " KiB left, " ++ (decimal copied.kib_per_second ++ (codes " KiB/s, " ++ (decimal copied.seconds_left ++ codes " s to go        ")))))))))
