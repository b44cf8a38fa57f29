-- The lengths of what follows a chunk's header.
use Rattle.std.proofs.Common.{◌≡◌, ℕ, ◌+◌, ◌*◌, List, [], ◌∷◌, ◌++◌, length, refl, sym, ap, ◌∙◌, append_assoc, arith}
use Rattle.std.specs.Prelude.{flat_map, Vec}
use Rattle.std.specs.Global.{Global}
use Rattle.std.proofs.lemmas.List.{length-append}
use Rattle.packets.specs.Numbers.{number_bytes}
use Rattle.packets.proofs.Widths.{number_bytes_length}
use Rattle.nbd.specs.declared.chunk.Extent.{Extent}
use Rattle.nbd.specs.declared.chunk.Body.{Body}
use Rattle.nbd.specs.declared.chunk.Body.TheVariants as body
use Rattle.nbd.specs.declared.chunk.Chunk.{Chunk}
use Rattle.nbd.specs.Chunks.{body_bytes, chunk_spelling, extent_bytes, header_spelling, kind_of_body, rest_bytes}

extent_length : (e : Extent) → length (extent_bytes e) ≡ 8
extent_length e =
    length-append (number_bytes 4 e.length) (number_bytes 4 e.flags) ∙ omega (arith, number_bytes_length 4 e.length, number_bytes_length 4 e.flags)

pub extents_length : (es : List Extent) → length (flat_map extent_bytes es) ≡ 8 * length es
extents_length [] = refl
extents_length (e ∷ es) =
    length-append (extent_bytes e) (flat_map extent_bytes es) ∙ omega (arith, extent_length e, extents_length es)

-- a number, and bytes after it
pub after_number : (n number : ℕ) (bytes : List ℕ) → length (number_bytes n number ++ bytes) ≡ n + length bytes
after_number n number bytes = length-append (number_bytes n number) bytes ∙ omega (arith, number_bytes_length n number)

-- a chunk of extents
pub status_spelled : (c : Chunk) (extents : Vec Extent Global) (long : ℕ) (head out : List ℕ) → c.body ≡ body.Extents extents
    → head ≡ header_spelling c.cookie c.is_last 5 long → out ≡ head ++ number_bytes 4 1 → long ≡ 4 + 8 * length extents.items
    → out ++ rest_bytes c.body ≡ chunk_spelling c
unfolding chunk_spelling body_bytes rest_bytes
status_spelled c extents long head out is spelled made counted =
    let rest : List ℕ = flat_map extent_bytes extents.items in
    let whole : long ≡ length (number_bytes 4 1 ++ rest) = counted ∙ sym (after_number 4 1 rest ∙ ap (λ (n : ℕ). 4 + n) (extents_length extents.items)) in
    ap (λ (b : Body). out ++ rest_bytes b) is
    ∙ ap (λ (xs : List ℕ). xs ++ rest) (made ∙ ap (λ (xs : List ℕ). xs ++ number_bytes 4 1) (spelled ∙ ap (header_spelling c.cookie c.is_last 5) whole))
    ∙ append_assoc (header_spelling c.cookie c.is_last 5 (length (number_bytes 4 1 ++ rest))) (number_bytes 4 1) rest
    ∙ sym (ap (λ (b : Body). header_spelling c.cookie c.is_last (kind_of_body b) (length (body_bytes b)) ++ body_bytes b) is)
