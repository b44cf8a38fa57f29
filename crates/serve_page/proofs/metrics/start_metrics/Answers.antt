use Rattle.std.proofs.Common.{◌≡◌, ◌++◌, ◌∙◌, string_bytes, refl}
use Rattle.std.proofs.lemmas.Result.{IfOk-weaker}
use Rattle.serve_page.specs.Metrics as metrics
use Rattle.serve_page.proofs.metrics.start_metrics.Goals as goal

-- each part is what its metric is of the report's number
pub returns : goal.returns
returns c =
    let parts = string_bytes c.in_ok-after.after ++ string_bytes c.in_ok-to_copy.to_copy in
    let text : parts ≡ metrics.start_metrics c.args.start = rw (c.in_ok-after.ensures, c.name.ensures, c.in_ok-to_copy.ensures, c.bytes_of.ensures) refl in
    IfOk-weaker c.format.result (λ s. string_bytes s ≡ parts) (λ s. string_bytes s ≡ metrics.start_metrics c.args.start) (λ s wrote. wrote ∙ text) c.format.ensures.ok
