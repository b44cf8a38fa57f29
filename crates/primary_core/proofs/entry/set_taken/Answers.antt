use Rattle.std.proofs.Common.{◌-◌, true, ◌∙◌, ap, arith, slice_set}
use Rattle.primary_protocol.specs.Core.{JournalEntry}
use Rattle.primary_core.proofs.Entries.{no-entry, past-entries, entry-set}
use Rattle.primary_core.proofs.entry.set_taken.Goals as goal

pub returns-then-number-eq0 : goal.returns-then-number-eq0
returns-then-number-eq0 c = rw c.if-number-eq0.true (no-entry (λ (entry : JournalEntry). record entry { taken = true }) c.args.entries.now)

pub returns-then-index-entries : goal.returns-then-index-entries
returns-then-index-entries c =
    let f = (λ (entry : JournalEntry). record entry { taken = true }) in
    ap (λ (entry : JournalEntry). slice_set c.args.entries.now (c.args.number - 1) (f entry)) c.entry.view_is
    ∙ entry-set c.args.number (c.args.number - 1) f c.index-entries-index.result c.args.entries.now (omega arith)

pub returns-else-index-entries : goal.returns-else-index-entries
returns-else-index-entries c = past-entries c.args.number (λ (entry : JournalEntry). record entry { taken = true }) c.args.entries.now (omega arith)
