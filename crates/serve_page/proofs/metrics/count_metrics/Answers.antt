use Rattle.std.proofs.Common.{◌≡◌, ◌++◌, ◌∙◌, string_bytes, refl}
use Rattle.std.proofs.lemmas.Result.{IfOk-weaker}
use Rattle.serve_page.specs.Metrics as metrics
use Rattle.serve_page.proofs.metrics.count_metrics.Goals as goal

-- each part is what its metric is of the report's number
pub returns : goal.returns
returns c =
    let parts = string_bytes c.in_ok-remote.remote ++ (string_bytes c.in_ok-application.application ++ string_bytes c.in_ok-epochs.epochs) in
    let text : parts ≡ metrics.count_metrics c.args.line.now = rw (c.in_ok-remote.ensures, c.in_ok-application.ensures, c.in_ok-epochs.ensures) refl in
    IfOk-weaker c.format.result (λ s. string_bytes s ≡ parts) (λ s. string_bytes s ≡ metrics.count_metrics c.args.line.now) (λ s wrote. wrote ∙ text) c.format.ensures.ok
