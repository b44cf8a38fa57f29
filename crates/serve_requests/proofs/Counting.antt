-- How many bytes extents have.
use Rattle.std.proofs.Common.{◌≡◌, ◌+◌, ◌<◌, List, [], ◌∷◌, ◌++◌, length, ◌∙◌, ap, arith}
use Rattle.nbd.specs.declared.chunk.Extent.{Extent}
use Rattle.serve_requests.specs.Extents.{bytes_told}

pub told-none : (es : List Extent) → es ≡ [] → bytes_told es ≡ 0
unfolding bytes_told
told-none es none = ap bytes_told none

told-one : (es : List Extent) (e : Extent) → bytes_told (es ++ e ∷ []) ≡ bytes_told es + e.length
unfolding bytes_told
told-one [] e = omega arith
told-one (first ∷ es) e = omega (arith, told-one es e)

pub told-push : (es : List Extent) (e : Extent) (new : List Extent) → new ≡ es ++ e ∷ [] → bytes_told new ≡ bytes_told es + e.length
told-push es e new grown = ap bytes_told grown ∙ told-one es e

-- where some byte is told, some extent is
pub told-some : (es : List Extent) → 0 < bytes_told es → 0 < length es
unfolding bytes_told
told-some [] some = omega (arith, some)
told-some (e ∷ es) some = omega arith
