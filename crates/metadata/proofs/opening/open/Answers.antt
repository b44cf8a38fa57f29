use Rattle.std.proofs.Common.{ℕ, List, sym, ◌∙◌, ap, subst}
use Rattle.metadata.specs.State.{Says}
use Rattle.metadata.specs.Says.{entered_in}
use Rattle.metadata.proofs.Opened.{opened-any}
use Rattle.metadata.proofs.opening.open.Goals as goal

pub invariant_of-result : goal.invariant_of-result
invariant_of-result g c =
    let k = c.in-Ok.field-0 in
    let e = c.in-Ok.ensures in
    let same = e.quiet.same in
    record {
      sized = e.extents;
      few = e.few_blocks;
      slot = e.few;
      kept = λ whole faithful.
          let found = opened-any c.args.asked (g.F.StableFile.seen c.args.file) k.header (e.header faithful) in
          let says : Says k.header k.identifiers k.selected k.entries.items (g.F.StableFile.seen c.args.file) = record {
            opens = record { size = found.1; header = found.0; identifiers = e.identifiers faithful };
            selected = e.selected faithful;
            entered = λ x low is. sym (e.entries faithful x low) ∙ is;
          } in
          let now = subst (λ (l : List ℕ). Says k.header k.identifiers k.selected k.entries.items l) (sym same) says in
          record {
            says = now;
            exactly = λ x low. ap (λ (l : List ℕ). entered_in l x) same ∙ sym (e.entries faithful x low);
            left = λ f may. subst (λ (l : List ℕ). Says k.header k.identifiers k.selected k.entries.items l) (sym (e.durable f may)) now;
          };
    }
