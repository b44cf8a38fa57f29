use Rattle.std.proofs.Common.{◌≡◌, ◌++◌, ◌∙◌, string_bytes, refl}
use Rattle.std.proofs.lemmas.Result.{IfOk-weaker}
use Rattle.serve_page.specs.Metrics as metrics
use Rattle.serve_page.proofs.metrics.metadata_metrics.Goals as goal

-- each part is what its metric is of the report's numbers
pub returns : goal.returns
returns c =
    let parts = string_bytes c.in_ok-entries.entries ++ string_bytes c.in_ok-marks.marks in
    let text : parts ≡ metrics.metadata_metrics c.args.report.now = rw (c.in_ok-entries.ensures, c.in_ok-marks.ensures) refl in
    IfOk-weaker c.format.result (λ s. string_bytes s ≡ parts) (λ s. string_bytes s ≡ metrics.metadata_metrics c.args.report.now) (λ s wrote. wrote ∙ text) c.format.ensures.ok
