use Rattle.std.proofs.Common.{◌≡◌, refl, sym, ◌∙◌, ap, arith}
use Rattle.blocks.specs.declared.tuple.Tuple.{Tuple}
use Rattle.settlement.proofs.Openings.{first-honest}
use Rattle.served_images.proofs.starts.start_unkept.Goals.{then-is_known, else-is_known}
use Rattle.served_images.proofs.starts.start_unkept.Goals as goal

pub returns-in-Ok : goal.returns-in-Ok
returns-in-Ok g c =
    let first = c.new-first.ensures in
    let none = c.new-unknown.ensures in
    let known = c.in_ok-is_known.ensures in
    let own : c.in-Ok.parts.own.current ≡ 1 = ap (λ (t : Tuple). t.current) c.in-Ok.ensures.identifiers.0 ∙ first.current in
    record {
      settings = c.in-Ok.ensures.settings;
      own = c.in-Ok.ensures.identifiers.0 ∙ (λ i. record {
        current = first.current i;
        bitmap = first.bitmap i;
        first_historical = first.first i;
        second_historical = first.second i;
      });
      same = λ how faithful alike. elim c.if-is_known.branch [
        | then-is_known w ↦ c.in-Ok.ensures.identifiers.1 ∙ (w.peer-is ∙ sym c.in-Ok.ensures.identifiers.0)
        | else-is_known w ↦ absurd (let is = known.same how faithful alike in let not = w.if-is_known.false in cc)
      ];
      other = λ how faithful differ. c.in-Ok.ensures.identifiers.1 ∙ (elim c.if-is_known.branch [
        | then-is_known w ↦ absurd (differ (known.known w.if-is_known.true faithful (λ assumed. absurd (cc))))
        | else-is_known w ↦ w.peer-is ∙ (λ i. record {
          current = none.current i;
          bitmap = none.bitmap i;
          first_historical = none.first i;
          second_historical = none.second i;
        })
      ]);
      copied = λ how. c.in-Ok.ensures.identifiers.1 ∙ (elim c.if-is_known.branch [
        | then-is_known w ↦ absurd (let is = known.copied how in let yes = w.if-is_known.true in cc)
        | else-is_known w ↦ w.peer-is ∙ (λ i. record {
          current = none.current i;
          bitmap = none.bitmap i;
          first_historical = none.first i;
          second_historical = none.second i;
        })
      ]);
      assumed = λ how. elim c.if-is_known.branch [
        | then-is_known w ↦ c.in-Ok.ensures.identifiers.1 ∙ (w.peer-is ∙ sym c.in-Ok.ensures.identifiers.0)
        | else-is_known w ↦ absurd (let is = known.assumed how in let not = w.if-is_known.false in cc)
      ];
      marks = c.in-Ok.ensures.marks;
      totals = refl;
      local = known.read.local;
      peer = known.read.peer;
      honest = λ trusted. first-honest c.in-Ok.parts.own c.in-Ok.parts.peer _ _ _ (omega (arith, own))
          (ap (λ (t : Tuple). t.bitmap) c.in-Ok.ensures.identifiers.0 ∙ first.bitmap) (λ is. elim c.if-is_known.branch [
            | then-is_known w ↦
                let was = known.known w.if-is_known.true trusted.faithful (λ how. sym known.read.local ∙ (trusted.equal how ∙ known.read.peer)) in
                known.read.local ∙ (was ∙ sym known.read.peer)
            | else-is_known w ↦
                let zero : c.in-Ok.parts.peer.current ≡ 0 = ap (λ (t : Tuple). t.current) (c.in-Ok.ensures.identifiers.1 ∙ w.peer-is) ∙ none.current in
                absurd (omega (arith, zero, own, is))
          ]);
    }
