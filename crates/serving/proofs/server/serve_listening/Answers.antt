use Rattle.std.proofs.Common.{rules}
use Rattle.std.proofs.lemmas.Result.{IfOk-weaker}
use Rattle.serving.proofs.Succeeding.{both-of}
use Rattle.serving.proofs.server.serve_listening.Goals as goal

pub returns-in-Ok-start_service : goal.returns-in-Ok-start_service
returns-in-Ok-start_service g c =
    IfOk-weaker c.serve_sessions.result _ _ (λ end came. record {
      blocks = c.args.blocks;
      asked = c.requires.asked;
      disks = c.in-Ok.disks;
      opened = search rules;
      all = search rules;
      compares = search rules;
    }) (both-of _ _ c.serve_sessions.result c.serve_sessions.ensures.came c.serve_sessions.ensures.compares)
