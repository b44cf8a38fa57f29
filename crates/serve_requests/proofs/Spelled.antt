-- Replies that are spelled in one chunk.
use Rattle.std.proofs.Common.{ℕ, ◌≡◌, Bool, true, false, not, List, length, replicate, Result, Ok, Err, inl, inr, refl, sym, ◌∙◌, ap, subst}
use Rattle.std.specs.Prelude.{Vec, IfOk, is_ok}
use Rattle.std.specs.Global.{Global}
use Rattle.nbd.specs.Chunks.{chunk_spelling}
use Rattle.nbd.specs.declared.chunk.Body.TheVariants as body
use Rattle.nbd.specs.declared.chunk.Extent.{Extent}
use Rattle.nbd.specs.declared.errno.Errno.{Errno}
use Rattle.nbd.specs.declared.terms.Terms.{Terms}
use Rattle.nbd.specs.Requested.{Requested}
use Rattle.serve_requests.specs.Ended.{spelled_in}
use Rattle.serve_requests.specs.Extents.{AreExtents}
use Rattle.serve_requests.specs.Told.{IsDataTold, IsStatusTold}

-- extents
pub status-told : (request : Requested) (cookie : ℕ) (extents : Vec Extent Global) (result : Result (List ℕ) Errno) → cookie ≡ request.cookie
    → AreExtents request extents.items
    → IfOk result (λ reply. reply ≡ chunk_spelling (record { cookie = cookie; is_last = true; body = body.Extents extents }))
    → IfOk result (IsStatusTold request)
status-told request cookie extents (Err e) same are spelled = tt
status-told request cookie extents (Ok reply) same are spelled = record {
  extents = extents;
  are = are;
  chunk = spelled ∙ ap (λ n. chunk_spelling (record { cookie = n; is_last = true; body = body.Extents extents })) same;
}

-- data
pub data-told : (request : Requested) (cookie offset : ℕ) (found : Vec ℕ Global) (result : Result (List ℕ) Errno)
    → IfOk result (λ reply. reply ≡ chunk_spelling (record { cookie = cookie; is_last = true; body = body.Data offset found }))
    → request.terms.structured ≡ true → cookie ≡ request.cookie → offset ≡ request.offset
    → IfOk result (λ reply. IsDataTold request.terms.structured request found.items reply)
data-told request cookie offset found (Err e) spelled structured same at = tt
data-told request cookie offset found (Ok reply) spelled structured same at =
    subst (λ b. IsDataTold b request found.items reply) (sym structured) (inl (record {
      bytes_in = found;
      same = refl;
      chunk = spelled ∙ ap (λ n. chunk_spelling (record { cookie = n; is_last = true; body = body.Data offset found })) same
          ∙ ap (λ n. chunk_spelling (record { cookie = request.cookie; is_last = true; body = body.Data n found })) at;
    }))

-- zeros
pub zeros-told : (request : Requested) (cookie offset count : ℕ) (found : List ℕ) (result : Result (List ℕ) Errno)
    → IfOk result (λ reply. reply ≡ chunk_spelling (record { cookie = cookie; is_last = true; body = body.Hole offset count }))
    → request.terms.structured ≡ true → cookie ≡ request.cookie → offset ≡ request.offset → count ≡ request.length
    → found ≡ replicate (length found) 0 → length found ≡ request.length
    → IfOk result (λ reply. IsDataTold request.terms.structured request found reply)
zeros-told request cookie offset count found (Err e) spelled structured same at long zeros whole = tt
zeros-told request cookie offset count found (Ok reply) spelled structured same at long zeros whole =
    subst (λ b. IsDataTold b request found reply) (sym structured) (inr (record {
      zeros = zeros ∙ ap (λ n. replicate n 0) whole;
      chunk = spelled ∙ ap (λ n. chunk_spelling (record { cookie = n; is_last = true; body = body.Hole offset count })) same
          ∙ ap (λ n. chunk_spelling (record { cookie = request.cookie; is_last = true; body = body.Hole n count })) at
          ∙ ap (λ n. chunk_spelling (record { cookie = request.cookie; is_last = true; body = body.Hole request.offset n })) long;
    }))

-- what holds of a reply, where there is one
pub spelled-is : (P : List ℕ → Type 0) (result : Result (List ℕ) Errno) → IfOk result P → is_ok result ≡ true → P (spelled_in result)
spelled-is P (Ok spelled) is done = is
spelled-is P (Err e) is done = absurd (let wrong : false ≡ true = done in cc (wrong))

-- replies are structured where a test says that they are not without structure
pub known-structured : (request : Requested) (terms : Terms) → terms ≡ request.terms → not terms.structured ≡ false → request.terms.structured ≡ true
known-structured request terms same denied = sym (ap (λ (t : Terms). t.structured) same) ∙ so terms.structured denied
  where
    so : (structured : Bool) → not structured ≡ false → structured ≡ true
    so true is = refl
    so false is = absurd (cc)
