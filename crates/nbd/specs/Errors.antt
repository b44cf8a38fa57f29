-- The error numbers of a reply (NBD protocol, "Error values").
use Rattle.std.specs.Prelude.{ℕ, ◌==◌, if◌then◌else◌, Option, Some, None}
use Rattle.nbd.specs.declared.errno.Errno.{Errno}
use Rattle.nbd.specs.declared.errno.Errno.TheVariants as errno

-- the number of each error
abbrev pub number_of : Errno → ℕ
number_of errno.NotPermitted = 1
number_of errno.InputOutput = 5
number_of errno.NoMemory = 12
number_of errno.Invalid = 22
number_of errno.NoSpace = 28
number_of errno.Overflow = 75
number_of errno.NotSupported = 95
number_of errno.Shutdown = 108

-- the error with a number
abbrev pub errno_at : ℕ → Option Errno
errno_at number =
    if number == 1 then Some errno.NotPermitted else
    if number == 5 then Some errno.InputOutput else
    if number == 12 then Some errno.NoMemory else
    if number == 22 then Some errno.Invalid else
    if number == 28 then Some errno.NoSpace else
    if number == 75 then Some errno.Overflow else
    if number == 95 then Some errno.NotSupported else
    if number == 108 then Some errno.Shutdown else None
