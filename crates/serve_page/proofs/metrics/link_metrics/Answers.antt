use Rattle.std.proofs.Common.{◌≡◌, ◌++◌, ◌∙◌, string_bytes, refl}
use Rattle.std.proofs.lemmas.Result.{IfOk-weaker}
use Rattle.serve_page.specs.Metrics as metrics
use Rattle.serve_page.proofs.metrics.link_metrics.Goals as goal

-- each part is what its metric is of the report's number
pub returns : goal.returns
returns c =
    let parts = string_bytes c.in_ok-link.link ++ (string_bytes c.in_ok-roles.roles ++ string_bytes c.in_ok-disks.disks) in
    let text : parts ≡ metrics.link_metrics c.args.line.now = rw (c.in_ok-link.ensures, c.is_connected.ensures, c.in_ok-roles.ensures, c.is_primary.ensures, c.is_primary-2.ensures, c.in_ok-disks.ensures, c.is_up_to_date.ensures, c.is_up_to_date-2.ensures) refl in
    IfOk-weaker c.format.result (λ s. string_bytes s ≡ parts) (λ s. string_bytes s ≡ metrics.link_metrics c.args.line.now) (λ s wrote. wrote ∙ text) c.format.ensures.ok
