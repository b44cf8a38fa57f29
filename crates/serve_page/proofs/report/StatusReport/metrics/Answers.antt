use Rattle.std.proofs.Common.{◌≡◌, ◌++◌, ◌∙◌, string_bytes, refl}
use Rattle.std.proofs.lemmas.Result.{IfOk-weaker}
use Rattle.serve_page.specs.Metrics as metrics
use Rattle.serve_page.proofs.report.StatusReport.metrics.Goals as goal

-- each part is what its metric is of the report's number
pub returns : goal.returns
returns c =
    let parts = string_bytes c.in_ok-link.link ++ (string_bytes c.in_ok-counts.counts ++ (string_bytes c.in_ok-device.device ++ (string_bytes c.in_ok-peer.peer ++ (string_bytes c.in_ok-metadata.metadata ++ (string_bytes c.in_ok-clients.clients ++ (string_bytes c.in_ok-latencies.latencies ++ (string_bytes c.in_ok-start.start ++ string_bytes c.in_ok-resync.resync))))))) in
    let text : parts ≡ metrics.metrics_text c.args.self.now = rw (c.in_ok-link.ensures, c.in_ok-counts.ensures, c.in_ok-device.ensures, c.in_ok-peer.ensures, c.in_ok-metadata.ensures, c.in_ok-clients.ensures, c.in_ok-latencies.ensures, c.in_ok-start.ensures, c.in_ok-resync.ensures) refl in
    IfOk-weaker c.format.result (λ s. string_bytes s ≡ parts) (λ s. string_bytes s ≡ metrics.metrics_text c.args.self.now) (λ s wrote. wrote ∙ text) c.format.ensures.ok
