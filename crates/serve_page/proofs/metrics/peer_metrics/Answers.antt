use Rattle.std.proofs.Common.{◌≡◌, ◌++◌, ◌∙◌, string_bytes, refl}
use Rattle.std.proofs.lemmas.Result.{IfOk-weaker}
use Rattle.serve_page.specs.Metrics as metrics
use Rattle.serve_page.proofs.metrics.peer_metrics.Goals as goal

-- each part is what its metric is of the report's number
pub returns : goal.returns
returns c =
    let parts = string_bytes c.in_ok-pending.pending ++ (string_bytes c.in_ok-consistent.consistent ++ (string_bytes c.in_ok-failed.failed ++ string_bytes c.in_ok-metadata.metadata)) in
    let text : parts ≡ metrics.peer_metrics c.args.report.now = rw (c.in_ok-pending.ensures, c.in_ok-consistent.ensures, c.truth.ensures, c.in_ok-failed.ensures, c.truth-2.ensures, c.in_ok-metadata.ensures, c.truth-3.ensures, c.truth-4.ensures) refl in
    IfOk-weaker c.format.result (λ s. string_bytes s ≡ parts) (λ s. string_bytes s ≡ metrics.peer_metrics c.args.report.now) (λ s wrote. wrote ∙ text) c.format.ensures.ok
