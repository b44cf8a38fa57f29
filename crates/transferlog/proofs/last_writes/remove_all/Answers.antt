use Rattle.std.proofs.Common.{◌≡◌, true, false, refl, sym, ◌∙◌, ap, arith, nat_eq}
use Rattle.std.specs.HashMap as hash
use Rattle.transferlog.specs.Log.{is_number}
use Rattle.transferlog.proofs.Entries.{taken_next}
use Rattle.transferlog.proofs.Moves.{number_is}
use Rattle.transferlog.proofs.last_writes.remove_all.Goals.{then-has_number, else-has_number}
use Rattle.transferlog.proofs.last_writes.remove_all.Goals as goal

pub loop-block-preserved : goal.loop-block-preserved
loop-block-preserved c =
    let upto = c.loop-block.block-counter in
    let mid = c.loop-block.recent in
    elim c.if-has_number.branch [
      | then-has_number w ↦ rw w.recent-is (record {
        known = λ block. taken_next c.args.first upto c.args.number block (hash.get nat_eq c.args.recent.now block) (hash.get nat_eq mid upto)
            (hash.get nat_eq mid block) (hash.get nat_eq w.remove.new.self block) c.loop-block.auto.block-counter (c.loop-block.invariant.known block)
            (λ same. ap (λ n. hash.get nat_eq mid n) (number_is upto block same))
            (let has : is_number c.args.number (hash.get nat_eq mid upto) ≡ true = sym c.has_number.ensures ∙ w.if-has_number.true in
            rw has (w.remove.ensures.updates.0 block));
        room = omega (arith, w.remove.ensures.spare, c.loop-block.invariant.room);
      })
      | else-has_number w ↦ rw w.recent-is (record {
        known = λ block. taken_next c.args.first upto c.args.number block (hash.get nat_eq c.args.recent.now block) (hash.get nat_eq mid upto)
            (hash.get nat_eq mid block) (hash.get nat_eq mid block) c.loop-block.auto.block-counter (c.loop-block.invariant.known block)
            (λ same. ap (λ n. hash.get nat_eq mid n) (number_is upto block same))
            (let has : is_number c.args.number (hash.get nat_eq mid upto) ≡ false = sym c.has_number.ensures ∙ w.if-has_number.false in rw has refl);
        room = c.loop-block.invariant.room;
      })
    ]
