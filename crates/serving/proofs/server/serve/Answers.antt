use Rattle.std.proofs.Common.{◌≡◌}
use Rattle.blocks.specs.declared.refusal.Refusal.TheVariants.{BadSetting}
use Rattle.served_images.specs.declared.fault.ServeFault.TheVariants.{Refused}
use Rattle.serving.proofs.server.serve.Goals as goal

pub returns-in-Ok-clause-refused : goal.returns-in-Ok-clause-refused
returns-in-Ok-clause-refused g c = λ out. absurd (let failed = c.serve_images.ensures.refused out in let is = c.in-Ok.is in cc)

pub returns-in-Err-clause-refused : goal.returns-in-Err-clause-refused
returns-in-Err-clause-refused g c = λ out.
    let failed = c.serve_images.ensures.refused out in
    let is = c.in-Err.is in
    let same : c.in-Err.fault ≡ Refused BadSetting = cc in
    c.status.ensures.refused BadSetting same
