use Rattle.std.proofs.Common.{◌≡◌, ◌<◌, ◌≤◌, ◌∷◌, ◌++◌, [], length, rules, arith, ap, subst, sym, ◌∙◌}
use Rattle.std.specs.List.{All}
use Rattle.std.proofs.lemmas.Bool.{both_ways}
use Rattle.std.proofs.lemmas.List.Elements.{All-push}
use Rattle.serve_requests.specs.Extents.{IsExtent}
use Rattle.serve_requests.proofs.Counting.{told-none, told-push, told-some}
use Rattle.serve_requests.proofs.status.extents_of.Goals as goal
use Rattle.serve_requests.proofs.status.extents_of.Goals.{then-wants_one, else-wants_one, then-loop-left-test+else-len-most, else-loop-left-test}

pub loop-left-init : goal.loop-left-init
loop-left-init c =
    let empty : length c.new-extents.result.items ≡ 0 = ap length c.new-extents.ensures.items in record {
      place = omega (arith, c.offset-at.ensures, c.length-left.ensures);
      told = omega (arith, told-none c.new-extents.result.items c.new-extents.ensures.items, c.length-left.ensures);
      each = λ k d less. absurd (omega (arith, empty, less));
      few = omega (arith, empty);
    }

pub loop-left-preserved : goal.loop-left-preserved
loop-left-preserved c =
    let grown : c.push.new.self.items ≡ c.loop-left.extents.items ++ c.next_extent-extent.result ∷ [] = search rules in record {
      place = omega (arith, c.loop-left.invariant.place, c.from-at.ensures, c.next_extent-extent.ensures.most);
      told = omega (
        arith,
        told-push c.loop-left.extents.items c.next_extent-extent.result c.push.new.self.items grown,
        c.loop-left.invariant.told,
        c.next_extent-extent.ensures.most,
      );
      each = subst (All IsExtent) (sym grown) (All-push IsExtent c.loop-left.extents.items c.next_extent-extent.result c.loop-left.invariant.each
          c.next_extent-extent.ensures.extent);
      few = omega (arith, c.push.ensures.upper_bound, c.len.ensures, c.if-len-most.true);
    }

pub returns-clause-are : goal.returns-clause-are
returns-clause-are c =
    let most_some : 1 ≤ c.if-wants_one.most = elim c.if-wants_one.branch [
      | then-wants_one w ↦ omega (arith, w.most-is)
      | else-wants_one w ↦ omega (arith, w.most-is)
    ] in
    let some : 0 < length c.loop-left.extents.items = elim c.loop-left-test.branch [
      | then-loop-left-test+else-len-most w ↦ omega (arith, w.if-len-most.false, w.len.ensures, most_some)
      | else-loop-left-test w ↦ told-some c.loop-left.extents.items
          (omega (arith, c.loop-left.invariant.told, w.loop-left-test.false, c.if-length-eq0.false, c.length.ensures))
    ] in record {
      some = some;
      each = c.loop-left.invariant.each;
      inside = omega (arith, c.loop-left.invariant.told);
      one = λ wants. elim c.if-wants_one.branch [
        | then-wants_one w ↦ omega (arith, w.most-is, c.loop-left.invariant.few, some)
        | else-wants_one w ↦ absurd (both_ways c.wants_one.result w.if-wants_one.false (c.wants_one.ensures ∙ wants))
      ];
    }
