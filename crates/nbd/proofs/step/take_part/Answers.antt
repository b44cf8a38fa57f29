use Rattle.std.proofs.Common.{[], subst, sym}
use Rattle.nbd.specs.declared.command.NbdCommand.TheVariants.{Write}
use Rattle.nbd.specs.declared.phase.Part.{Part}
use Rattle.nbd.specs.Exports.{export_now}
use Rattle.nbd.specs.Machine.{IsDue, Waits}
use Rattle.nbd.specs.Steps.{Stepped}
use Rattle.nbd.proofs.Waiting.{given_ends, header_waits}
use Rattle.nbd.proofs.step.take_part.Goals as goal

pub returns-in-Request-clause-waits : goal.returns-in-Request-clause-waits
returns-in-Request-clause-waits c =
    subst (λ (s : Stepped). Waits (export_now c.args.export.now s.terms) s.phase []) (sym c.after_header.ensures)
    (header_waits c.args.of c.args.export.now c.decode.result)

pub give-requires-clause-inside : goal.give-requires-clause-inside
give-requires-clause-inside c =
    given_ends c.args.export.now c.in-Payload.header Write (subst (λ (p : Part). IsDue c.args.export.now p) c.in-Payload.is c.requires.due) (λ same. cc)
    c.is_bounded.ensures
