-- The pieces are those of the command.
use Rattle.std.proofs.Common.{◌≡◌, ◌⊎◌, ℕ, List, Result, Ok, Err, true, false, replicate, sym, ap, subst, ◌∙◌}
use Rattle.std.specs.Result.{MatchResult, is_ok}
use Rattle.std.proofs.lemmas.Result.{IfOk-weaker}
use Rattle.device_parts.specs.Places.{Place}
use Rattle.nbd.specs.declared.command.NbdCommand.{NbdCommand}
use Rattle.nbd.specs.declared.command.NbdCommand.TheVariants as command
use Rattle.nbd.specs.declared.errno.Errno.{Errno}
use Rattle.nbd.specs.Requested.{Requested}
use Rattle.nbd.specs.Spans.{bytes_in, places, places_of, spans, trimmed}
use Rattle.nbd.proofs.Dividing.{places_nothing, places_trimmed, places_written, places_zeroed}
use Rattle.nbd.proofs.request.Request.pieces.Goals.{in-Write+in_ok-payload-in-Write, in-WriteZeroes, in-Trim, in-Read}
use Rattle.nbd.proofs.request.Request.pieces.Goals as goal

-- what was shared is what there was
shared : {E : Type 0} (r : Result (List ℕ) E) (s : Result (List ℕ) Errno) (old got : List ℕ) (Q R : E → Type 0) → MatchResult r (λ b. b ≡ old) Q
    → MatchResult r (λ b. s ≡ Ok b) R → is_ok s ≡ is_ok r → s ≡ Ok got → got ≡ old
shared (Ok b) s old got Q R has made same is = cc
shared (Err e) s old got Q R has made same is = let yes : is_ok s ≡ true = ap is_ok is in absurd cc

pub returns-clause-pieces : goal.returns-clause-pieces
returns-clause-pieces c =
    let now : Requested = c.args.self.now in
    elim c.match-self.branch [
      | in-Write+in_ok-payload-in-Write w ↦ rw w.result-is (w.of_payload.ensures
          ∙ ap (places_of (spans c.self.inside.offset c.self.inside.count)) (shared w.clone.result w.map_err.result c.self.inside.payload
          w.in_ok-payload-in-Write.payload _ _ w.clone.ensures.cases w.map_err.ensures.cases w.map_err.ensures.variant w.in_ok-payload-in-Write.was)
          ∙ ap (λ (r : Requested). places_of (spans r.offset r.length) r.payload) c.self.view_is
          ∙ sym (places_written now (ap (λ (r : Requested). r.command) (sym c.self.view_is) ∙ w.in-Write.is)))
      | in-WriteZeroes w ↦ rw w.result-is (IfOk-weaker w.of_zeros.result _ (λ (p : List Place). p ≡ places now)
          (λ p has. has ∙ ap (λ (n : ℕ). places_of (spans c.self.inside.offset n) (replicate n 0)) w.from.ensures
          ∙ ap (λ (r : Requested). places_of (spans r.offset r.length) (replicate r.length 0)) c.self.view_is
          ∙ sym (places_zeroed now (ap (λ (r : Requested). r.command) (sym c.self.view_is) ∙ w.in-WriteZeroes.is))) w.of_zeros.ensures.pieces)
      | in-Trim w ↦ rw w.result-is (IfOk-weaker w.of_blocks_inside.result _ (λ (p : List Place). p ≡ places now)
          (λ p has. has ∙ ap (λ (r : Requested). places_of (trimmed r.offset r.length) (replicate (bytes_in (trimmed r.offset r.length)) 0)) c.self.view_is
          ∙ sym (places_trimmed now (ap (λ (r : Requested). r.command) (sym c.self.view_is) ∙ w.in-Trim.is))) w.of_blocks_inside.ensures.pieces)
      | in-Read w ↦ rw w.result-is (w.none.ensures
          ∙ sym (places_nothing now (subst (λ (k : NbdCommand). (k ≡ command.Read) ⊎ ((k ≡ command.Disconnect) ⊎ ((k ≡ command.Flush) ⊎ (k ≡ command.BlockStatus))))
          (ap (λ (r : Requested). r.command) c.self.view_is) w.in-Read.is)))
    ]
