use Rattle.std.proofs.Common.{◌≡◌, ◌∙◌, Bool, List, length, refl, ap, arith}
use Rattle.std.proofs.lemmas.List.{length-replicate}
use Rattle.primary_core.proofs.state.PrimaryCore.new.Goals as goal

pub invariant_of-result-2 : goal.invariant_of-result-2
invariant_of-result-2 c =
    let log = c.in_ok-new.ensures.empty in
    let size : length c.args.marks ≡ c.args.settings.blocks = omega (arith, c.if-len-from.false) in
    record {
      sound = record {
        in_range = c.in_ok-check.ensures.accepted.0 refl;
        log = rw log (record { backlog = refl; last_writes = length-replicate c.args.settings.blocks 0; writes = tt; completed = tt; released = tt });
        marks = ap (λ (l : List Bool). length l) c.marks.view_is ∙ size;
        counted = rw c.in_ok-new-2.ensures.fresh tt;
        standing = λ e is resync. absurd (cc);
        places = rw log (omega arith);
      };
      flagged = omega (arith, c.new-2.ensures.len, c.new-3.ensures.len);
      writers = rw c.new-4.ensures tt;
      room = omega arith;
    }

pub returns-clause-fresh : goal.returns-clause-fresh
returns-clause-fresh c = (
  record {
    in_range = c.in_ok-check.ensures.accepted.0 refl;
    size = omega (arith, c.if-len-from.false);
    generation = omega (arith, c.if-tuple-eq0.false);
  },
  rw (c.marks.view_is, c.in_ok-new.ensures.empty, c.new-2.ensures.items, c.new-4.ensures, c.in_ok-new-2.ensures.fresh) refl,
)
