-- When an image is refused for its length.
use Rattle.std.specs.Prelude.{ℕ, ◌≡◌, ◌≢◌, ◌*◌, ⊤}
use Rattle.image_store.specs.declared.open_fault.OpenFault.{OpenFault}
use Rattle.image_store.specs.declared.open_fault.OpenFault.TheVariants.{WrongLength, Unread, LockRefused, NotAFile, InUse}

-- a length that is told as wrong is not that of a device of so many blocks, which is told beside it
abbrev pub IsWrongFor : ℕ → OpenFault → Type 0
IsWrongFor blocks (WrongLength found wanted) = (found ≢ wanted) × (wanted ≡ blocks * 4096)
IsWrongFor blocks (Unread _) = ⊤
IsWrongFor blocks (LockRefused _) = ⊤
IsWrongFor blocks NotAFile = ⊤
IsWrongFor blocks InUse = ⊤
