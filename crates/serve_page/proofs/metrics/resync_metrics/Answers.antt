use Rattle.std.proofs.Common.{◌≡◌, ◌++◌, ◌∙◌, string_bytes, refl}
use Rattle.std.proofs.lemmas.Result.{IfOk-weaker}
use Rattle.serve_page.specs.Metrics as metrics
use Rattle.serve_page.proofs.metrics.resync_metrics.Goals as goal

-- each part is what its metric is of the report's number
pub returns : goal.returns
returns c =
    let parts = string_bytes c.in_ok-running.running ++ (string_bytes c.in_ok-left.left ++ (string_bytes c.in_ok-rate.rate ++ string_bytes c.in_ok-seconds.seconds)) in
    let text : parts ≡ metrics.resync_metrics c.args.resync = rw (c.in-Some.is, c.in_ok-running.ensures, c.in_ok-left.ensures, c.bytes_of.ensures, c.in_ok-rate.ensures, c.bytes_per_second.ensures, c.in_ok-seconds.ensures, c.seconds_left.ensures.value) refl in
    IfOk-weaker c.format.result (λ s. string_bytes s ≡ parts) (λ s. string_bytes s ≡ metrics.resync_metrics c.args.resync) (λ s wrote. wrote ∙ text) c.format.ensures.ok
