use Rattle.std.proofs.Common.{◌≡◌, ◌∙◌, ◌+◌, ℕ, true, false, not, max, refl, sym, ap, subst, arith, rules}
use Rattle.model.specs.Headline.{is_marked}
use Rattle.model.specs.Pair.{same_block}
use Rattle.model.specs.Primary.{local_map}
use Rattle.model.specs.Secondary.{secondary_map}
use Rattle.primary.specs.State.{node as primary_node}
use Rattle.primary_protocol.specs.Node.{NodeHas as PrimaryHas}
use Rattle.secondary.specs.State.{node as secondary_node}
use Rattle.secondary_protocol.specs.Node.{NodeHas as SecondaryHas}
use Rattle.settlement.proofs.Comparing.{many, many-none, many-next, many-all}
use Rattle.settlement.proofs.Reading.{has-read}
use Rattle.settlement.proofs.compare.unmarked.Goals as goal
use Rattle.settlement.proofs.compare.unmarked.Goals.{then-branch+then-not-is_marked, else-branch, else-branch-via-then-branch+else-not-is_marked}
use Rattle.settlement.proofs.compare.unmarked.Goals.{else-branch-via-else-branch}

add-none : (n : ℕ) → n + 0 ≡ n
add-none n = omega arith

pub loop-number-init : goal.loop-number-init
loop-number-init g c = record {
  primary = refl;
  secondary = refl;
  uncounted = (refl, refl);
  works = λ one two. (one, two);
  local = search rules;
  peer = search rules;
  few = omega arith;
  falls = ((λ is. is), (λ is. is));
  sure = λ one two. (refl, refl);
  count = λ fine fine_too p s hp hs. sym (many-none p s);
}

pub loop-number-preserved : goal.loop-number-preserved
loop-number-preserved g c = record {
  primary = c.in_ok-differs.ensures.primary
      ∙ λ i. record (c.loop-number.invariant.primary i) { faults = c.differs.new.primary.faults; steady = c.differs.new.primary.steady; faithful = c.differs.new.primary.faithful };
  secondary = c.in_ok-differs.ensures.secondary
      ∙ λ i. record (c.loop-number.invariant.secondary i) { faults = c.differs.new.secondary.faults; steady = c.differs.new.secondary.steady; faithful = c.differs.new.secondary.faithful };
  uncounted = (
    c.in_ok-differs.ensures.uncounted.0 ∙ c.loop-number.invariant.uncounted.0,
    c.in_ok-differs.ensures.uncounted.1
        ∙ c.loop-number.invariant.uncounted.1,
  );
  works = λ one two. let was = c.loop-number.invariant.works one two in let works = c.in_ok-differs.ensures.works was.0 was.1 in (works.0, works.1);
  local = c.differs.auto.local ∙ c.loop-number.invariant.local;
  peer = c.differs.auto.peer ∙ c.loop-number.invariant.peer;
  few = elim c.if-branch.branch [
    | then-branch+then-not-is_marked w ↦ let more = w.count-is in omega (arith, more, c.loop-number.invariant.few)
    | else-branch w ↦ let same = w.count-is in omega (arith, same, c.loop-number.invariant.few)
  ];
  falls = (
    (λ is. c.loop-number.invariant.falls.0 (c.in_ok-differs.ensures.falls.0 is)),
    (λ is. c.loop-number.invariant.falls.1 (c.in_ok-differs.ensures.falls.1 is)),
  );
  sure = λ one two.
      let was = c.loop-number.invariant.works one two in
      let before = c.loop-number.invariant.sure one two in
      let same = c.in_ok-differs.ensures.sure was.0 was.1 in
      (same.0 ∙ before.0, same.1 ∙ before.1);
  count = λ fine fine_too p s hp hs.
      let fine_before = c.in_ok-differs.ensures.falls.0 fine in
      let fine_before_too = c.in_ok-differs.ensures.falls.1 fine_too in
      let here : PrimaryHas (primary_node c.loop-number.primary) p =
      has-read c.args.primary.now c.loop-number.primary _ _ _ c.loop-number.invariant.primary c.loop-number.invariant.falls.0 p hp in
      let there : SecondaryHas (secondary_node c.loop-number.secondary) s =
      subst (λ v. SecondaryHas v s) (sym (ap secondary_node c.loop-number.invariant.secondary)) hs in
      let number : c.from.result ≡ c.loop-number.number = c.from.ensures in
      let differs : c.in_ok-differs.field-0 ≡ not (same_block (local_map p c.loop-number.number) (secondary_map s c.loop-number.number)) =
      c.in_ok-differs.ensures.differs fine fine_too p s here there ∙ λ i. not (same_block (local_map p (number i)) (secondary_map s (number i))) in
      let after : PrimaryHas (primary_node c.differs.new.primary) p =
      has-read c.loop-number.primary c.differs.new.primary _ _ _ c.in_ok-differs.ensures.primary c.in_ok-differs.ensures.falls.0 p here in
      let was = c.loop-number.invariant.count fine_before fine_before_too p s hp hs in
      elim c.if-branch.branch [
        | then-branch+then-not-is_marked w ↦
            let marked : false ≡ is_marked p c.loop-number.number = sym w.if-not-is_marked.true ∙ (w.is_marked.ensures p after ∙ ap (is_marked p) number) in
            w.count-is ∙ many-next p s c.loop-number.number c.loop-number.count true false was (sym w.if-branch.true ∙ differs) marked
        | else-branch w ↦ w.count-is ∙ elim w.else-branch.branch [
          | else-branch-via-then-branch+else-not-is_marked v ↦
              let marked : true ≡ is_marked p c.loop-number.number = sym v.if-not-is_marked.false ∙ (v.is_marked.ensures p after ∙ ap (is_marked p) number) in
              sym (add-none c.loop-number.count) ∙ many-next p s c.loop-number.number c.loop-number.count true true was (sym v.if-branch.true ∙ differs) marked
          | else-branch-via-else-branch v ↦
              sym (add-none c.loop-number.count)
              ∙ many-next p s c.loop-number.number c.loop-number.count false (is_marked p c.loop-number.number) was (sym v.if-branch.false ∙ differs) refl
        ]
      ];
}

pub returns-clause-count : goal.returns-clause-count
returns-clause-count g c = λ fine fine_too p s hp hs.
    let blocks : c.max-blocks.result ≡ max p.settings.blocks s.settings.blocks = c.max-blocks.ensures
    ∙ λ i. max (c.settings.ensures p hp i).blocks (c.settings-2.ensures s hs i).blocks in
    let ended : c.loop-number.number ≡ c.max-blocks.result = omega (arith, c.loop-number-test.false, c.loop-number.auto.number-end) in
    c.loop-number.invariant.count fine fine_too p s hp hs ∙ (ap (many p s) (ended ∙ blocks) ∙ many-all p s)
