-- What the reply to a BLOCK_STATUS tells.
use Rattle.std.specs.Prelude.{true, ℕ, ◌≡◌, ◌⊎◌, ◌+◌, ◌<◌, ◌≤◌, List, [], ◌∷◌, All, length}
use Rattle.nbd.specs.declared.chunk.Extent.{Extent}
use Rattle.nbd.specs.Requested.{Requested, wants_one}

-- how many bytes extents have together
unfoldable pub bytes_told : List Extent → ℕ
bytes_told [] = 0
bytes_told (e ∷ es) = e.length + bytes_told es

-- an extent of some bytes, which are data (0) or zeros (2)
pub record IsExtent (e : Extent) : Type 0 where
  pub some : 0 < e.length
  pub flags : (e.flags ≡ 0) ⊎ (e.flags ≡ 2)

-- extents from the first byte of a request's range on, at least one, inside it; only one if the client asked for one
pub record AreExtents (request : Requested) (es : List Extent) : Type 0 where
  pub some : 0 < length es
  pub each : All IsExtent es
  pub inside : bytes_told es ≤ request.length
  pub one : wants_one request ≡ true → length es ≡ 1
