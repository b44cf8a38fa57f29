use Rattle.std.proofs.Common.{Vec, Global, ℕ}
use Rattle.told.specs.declared.entry.Told.TheVariants.{Held}
use Rattle.told.proofs.Seeing.{held-since, told-prefix}
use Rattle.serve_requests.proofs.Telling.{goes-on}
use Rattle.serve_requests.proofs.perform.read_range.Goals as goal

pub returns-in-Ok-clause-held : goal.returns-in-Ok-clause-held
returns-in-Ok-clause-held g c =
    held-since c.args.me.now.log c.args.range.first.0 c.args.range.count c.in-Ok.bytes.items c.read.new.me.log c.in-Ok.ensures.told

pub returns-in-Ok-clause-goes_on : goal.returns-in-Ok-clause-goes_on
returns-in-Ok-clause-goes_on g c =
    told-prefix c.args.me.now.log (Held c.args.range.first.0 c.args.range.count c.in-Ok.bytes.items) c.read.new.me.log c.in-Ok.ensures.told

pub returns-in-Err-clause-goes_on : goal.returns-in-Err-clause-goes_on
returns-in-Err-clause-goes_on g c = goes-on (λ (bytes : Vec ℕ Global). Held c.args.range.first.0 c.args.range.count bytes.items) c.args.me.now c.read.new.me
    c.read.result c.read.ensures.told c.read.ensures.untold
