use Rattle.session_api.specs.Begun.{BegunState}
use Rattle.told.specs.declared.entry.Told.TheVariants.{Patched}
use Rattle.told.proofs.Seeing.{told-last, told-prefix}
use Rattle.serve_requests.proofs.Telling.{goes-on}
use Rattle.serve_requests.proofs.perform.begin_within.Goals as goal

pub returns-in-Ok-clause-told : goal.returns-in-Ok-clause-told
returns-in-Ok-clause-told g c =
    told-last c.args.me.now.log (Patched c.in-Ok.begun.number c.args.block c.args.from c.args.bytes.now) c.begin_within.new.me.log c.in-Ok.ensures.told

pub returns-in-Ok-clause-goes_on : goal.returns-in-Ok-clause-goes_on
returns-in-Ok-clause-goes_on g c =
    told-prefix c.args.me.now.log (Patched c.in-Ok.begun.number c.args.block c.args.from c.args.bytes.now) c.begin_within.new.me.log c.in-Ok.ensures.told

pub returns-in-Err-clause-goes_on : goal.returns-in-Err-clause-goes_on
returns-in-Err-clause-goes_on g c = goes-on (λ (b : BegunState). Patched b.number c.args.block c.args.from c.args.bytes.now) c.args.me.now
    c.begin_within.new.me c.begin_within.result c.begin_within.ensures.told c.begin_within.ensures.untold
