-- A header is judged by its 8 bytes, whatever follows them.
use Rattle.std.proofs.Common.{ℕ, ◌-◌, ◌≤◌, ◌<◌, List, ◌++◌, length, sym, ◌∙◌, subst, arith, Some}
use Rattle.std.proofs.lemmas.List.{length-append}
use Rattle.std.proofs.lemmas.Result.{err_from_is_err_and}
use Rattle.packets.specs.Stream.{IsPart}
use Rattle.packets.proofs.Rows.{header_first, header_front}
use Rattle.packets.proofs.decoder.header_of.Goals as goal

eight : (front piece : List ℕ) → length front < 8 → 8 - length front ≤ length piece → 8 ≤ length (front ++ piece)
eight front piece short long = omega (arith, length-append front piece)

pub returns-in_err-judge-in-None-2 : goal.returns-in_err-judge-in-None-2
returns-in_err-judge-in-None-2 c =
    let bytes = c.args.front.now ++ c.args.piece.now in
    let short : length c.args.front.now < 8 = subst (λ h. IsPart h c.args.front.now) c.in-None-2.is c.requires in
    let long : 8 ≤ length bytes = eight _ _ short c.if-piece-front.false in
    let p = err_from_is_err_and c.from_residual.result c.from_residual.ensures.1 in
    rw (p.1, p.2) (long, header_first bytes c.first_bytes.result _ long c.first_bytes.ensures (sym c.judge.ensures.judged ∙ c.in_err-judge-in-None-2.was))

pub returns-in-Some : goal.returns-in-Some
returns-in-Some c =
    let part : IsPart (Some c.in-Some.header) c.args.front.now = subst (λ h. IsPart h c.args.front.now) c.in-Some.is c.requires in
    (omega (arith, length-append c.args.front.now c.args.piece.now, part.0), header_front _ _ part.0 ∙ part.1)

pub returns-in_ok-judge-in-None-2 : goal.returns-in_ok-judge-in-None-2
returns-in_ok-judge-in-None-2 c =
    let bytes = c.args.front.now ++ c.args.piece.now in
    let short : length c.args.front.now < 8 = subst (λ h. IsPart h c.args.front.now) c.in-None-2.is c.requires in
    let long : 8 ≤ length bytes = eight _ _ short c.if-piece-front.false in
    (long, header_first bytes c.first_bytes.result _ long c.first_bytes.ensures (sym c.judge.ensures.judged ∙ c.in_ok-judge-in-None-2.was))
