use Rattle.std.proofs.Common.{◌≡◌, string_bytes}
use Rattle.std.proofs.lemmas.Result.{IfOk-weaker}
use Rattle.server_log.specs.Lines.{dated_text, IsLine}
use Rattle.server_log.specs.declared.style.Style.TheVariants as style
use Rattle.server_log.proofs.lines.line.Goals as goal

-- the moment is the one that the date is made of
pub returns-in-Dated : goal.returns-in-Dated
returns-in-Dated c =
    let moment = c.after.result in
    let told = IfOk-weaker c.dated_line.result (λ text. string_bytes text ≡ dated_text moment c.args.event)
    (λ text. IsLine style.Dated c.args.seconds c.args.event (string_bytes text)) (λ text wrote. (moment, c.after.ensures, wrote)) c.dated_line.ensures in
    rw c.in-Dated.is told

-- on a terminal likewise
pub returns-in-Barred : goal.returns-in-Barred
returns-in-Barred c =
    let moment = c.after-in-Barred.result in
    let told = IfOk-weaker c.dated_line-in-Barred.result (λ text. string_bytes text ≡ dated_text moment c.args.event)
    (λ text. IsLine style.Barred c.args.seconds c.args.event (string_bytes text)) (λ text wrote. (moment, c.after-in-Barred.ensures, wrote)) c.dated_line-in-Barred.ensures in
    rw c.in-Barred.is told
