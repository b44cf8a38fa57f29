use Rattle.std.proofs.lemmas.Result.{on_ok_weaker}
use Rattle.serving.proofs.Succeeding.{both}
use Rattle.serving.proofs.server.serve_sized.Goals as goal

pub returns : goal.returns
returns g c =
    let ended = c.in_ok-served.ensures in
    let printed = c.print.ensures in
    on_ok_weaker c.print.result (λ all. record {
      end = c.in_ok-served.field-0;
      ended = ended;
      unchanged = all.1.0;
      synced = all.1.1.0;
      kept = all.1.1.1;
      clean = all.0.0.1;
      read = all.0.1.0;
      none = all.0.0.0;
      whole = all.0.1.1.0;
      printed = all.0.1.1.1;
    }) (both _ _ c.print.result (both _ _ c.print.result printed.alike (both _ _ c.print.result printed.read
    (both _ _ c.print.result printed.whole printed.printed)))
    (both _ _ c.print.result printed.unchanged (both _ _ c.print.result printed.synced printed.kept)))
