use Rattle.std.proofs.Common.{◌≡◌, ◌++◌, ◌∙◌, string_bytes, refl}
use Rattle.std.proofs.lemmas.Result.{IfOk-weaker}
use Rattle.serve_page.specs.Metrics as metrics
use Rattle.serve_page.proofs.metrics.latency_metrics.Goals as goal

-- the head, and the samples of each command
pub returns : goal.returns
returns c =
    let parts = string_bytes c.in_ok-head.head ++ (string_bytes c.in_ok-read.read ++ (string_bytes c.in_ok-write.write ++ (string_bytes c.in_ok-flush.flush ++ string_bytes c.in_ok-zeroes.zeroes))) in
    let text : parts ≡ metrics.latency_metrics c.args.latencies.now = rw (c.in_ok-head.ensures, c.in_ok-read.ensures, c.in_ok-write.ensures, c.in_ok-flush.ensures, c.in_ok-zeroes.ensures) refl in
    IfOk-weaker c.format.result (λ s. string_bytes s ≡ parts) (λ s. string_bytes s ≡ metrics.latency_metrics c.args.latencies.now) (λ s wrote. wrote ∙ text) c.format.ensures.ok
