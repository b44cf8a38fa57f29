use Rattle.std.proofs.Common.{subst}
use Rattle.std.specs.Prelude.{IfOk}
use Rattle.served_images.specs.Sessions.{IsSession, Rest, opening}
use Rattle.serving.proofs.session.run_session.Goals as goal

pub returns-in-Ok : goal.returns-in-Ok
returns-in-Ok g c = record {
  session = subst (λ (start : Rest). IfOk c.run_named.result (λ next. IsSession (opening start) start.totals next)) c.start.view_is c.run_named.ensures.session;
}
