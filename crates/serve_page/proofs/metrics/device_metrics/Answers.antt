use Rattle.std.proofs.Common.{◌≡◌, ◌++◌, ◌∙◌, string_bytes, refl}
use Rattle.std.proofs.lemmas.Result.{IfOk-weaker}
use Rattle.serve_page.specs.Metrics as metrics
use Rattle.serve_page.proofs.metrics.device_metrics.Goals as goal

-- each part is what its metric is of the report's number
pub returns : goal.returns
returns c =
    let parts = string_bytes c.in_ok-size.size ++ (string_bytes c.in_ok-out_of_sync.out_of_sync ++ (string_bytes c.in_ok-accepted.accepted ++ string_bytes c.in_ok-released.released)) in
    let text : parts ≡ metrics.device_metrics c.args.report.now = rw (c.in_ok-size.ensures, c.bytes_of.ensures, c.in_ok-out_of_sync.ensures, c.bytes_of-2.ensures, c.in_ok-accepted.ensures, c.in_ok-released.ensures) refl in
    IfOk-weaker c.format.result (λ s. string_bytes s ≡ parts) (λ s. string_bytes s ≡ metrics.device_metrics c.args.report.now) (λ s wrote. wrote ∙ text) c.format.ensures.ok
