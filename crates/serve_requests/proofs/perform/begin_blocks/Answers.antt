use Rattle.session_api.specs.Begun.{BegunState}
use Rattle.told.specs.declared.entry.Told.TheVariants.{Accepted}
use Rattle.told.proofs.Seeing.{told-last, told-prefix}
use Rattle.serve_requests.proofs.Telling.{goes-on}
use Rattle.serve_requests.proofs.perform.begin_blocks.Goals as goal

pub returns-in-Ok-clause-told : goal.returns-in-Ok-clause-told
returns-in-Ok-clause-told g c =
    told-last c.args.me.now.log (Accepted c.in-Ok.begun.number c.args.first c.args.bytes) c.begin.new.me.log c.in-Ok.ensures.told

pub returns-in-Ok-clause-goes_on : goal.returns-in-Ok-clause-goes_on
returns-in-Ok-clause-goes_on g c =
    told-prefix c.args.me.now.log (Accepted c.in-Ok.begun.number c.args.first c.args.bytes) c.begin.new.me.log c.in-Ok.ensures.told

pub returns-in-Err-clause-goes_on : goal.returns-in-Err-clause-goes_on
returns-in-Err-clause-goes_on g c = goes-on (λ (b : BegunState). Accepted b.number c.args.first c.args.bytes) c.args.me.now c.begin.new.me c.begin.result
    c.begin.ensures.told c.begin.ensures.untold
