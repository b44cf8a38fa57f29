use Rattle.std.proofs.Common.{◌≡◌, ◌++◌, ◌∙◌, string_bytes, refl}
use Rattle.std.proofs.lemmas.Result.{IfOk-weaker}
use Rattle.serve_page.specs.Metrics as metrics
use Rattle.serve_page.proofs.metrics.client_metrics.Goals as goal

-- each part is what its metric is of the report's number
pub returns : goal.returns
returns c =
    let parts = string_bytes c.in_ok-clients.clients ++ (string_bytes c.in_ok-linked.linked ++ string_bytes c.in_ok-alone.alone) in
    let text : parts ≡ metrics.client_metrics c.args.report.now = rw (c.in_ok-clients.ensures, c.from.ensures, c.in_ok-linked.ensures, c.in_ok-alone.ensures) refl in
    IfOk-weaker c.format.result (λ s. string_bytes s ≡ parts) (λ s. string_bytes s ≡ metrics.client_metrics c.args.report.now) (λ s wrote. wrote ∙ text) c.format.ensures.ok
