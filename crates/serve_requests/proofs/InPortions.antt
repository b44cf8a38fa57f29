-- Replies to READs that are told in portions.
use Rattle.std.proofs.Common.{ℕ, ◌≡◌, ◌+◌, Bool, true, List, Result, Ok, Err, inl, refl, sym, ◌∙◌, ap, subst}
use Rattle.std.specs.Prelude.{Vec, IfOk}
use Rattle.std.specs.Global.{Global}
use Rattle.nbd.specs.Chunks.{chunk_spelling}
use Rattle.nbd.specs.declared.chunk.Body.TheVariants as body
use Rattle.nbd.specs.declared.errno.Errno.{Errno}
use Rattle.serve_requests.specs.Reading.{IsPortionSpelled, ReadingState, is_last}

-- a chunk of data
pub part-told : (r : ReadingState) (cookie at : ℕ) (last : Bool) (found : Vec ℕ Global) (result : Result (List ℕ) Errno)
    → IfOk result (λ reply. reply ≡ chunk_spelling (record { cookie = cookie; is_last = last; body = body.Data at found }))
    → r.request.terms.structured ≡ true → cookie ≡ r.request.cookie → last ≡ is_last r → at ≡ r.request.offset + r.told
    → IfOk result (λ reply. IsPortionSpelled r.request.terms.structured r found.items reply)
part-told r cookie at last found (Err e) spelled structured same ends from = tt
part-told r cookie at last found (Ok reply) spelled structured same ends from =
    subst (λ b. IsPortionSpelled b r found.items reply) (sym structured) (inl (record {
      bytes_in = found;
      same = refl;
      chunk = spelled ∙ ap (λ n. chunk_spelling (record { cookie = n; is_last = last; body = body.Data at found })) same
          ∙ ap (λ b. chunk_spelling (record { cookie = r.request.cookie; is_last = b; body = body.Data at found })) ends
          ∙ ap (λ n. chunk_spelling (record { cookie = r.request.cookie; is_last = is_last r; body = body.Data n found })) from;
    }))
