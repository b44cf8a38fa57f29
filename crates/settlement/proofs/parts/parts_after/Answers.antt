use Rattle.std.proofs.Common.{◌≡◌, Bool, List, true, not, length, sym, ◌∙◌, ap, subst, rules}
use Rattle.std.proofs.lemmas.Bool.{both_ways, not-false}
use Rattle.bitmap.specs.Marks.{marked}
use Rattle.blocks.specs.declared.settings.Settings.{Settings}
use Rattle.blocks.specs.declared.tuple.Tuple.{Tuple}
use Rattle.settlement.specs.Left.{left_by}
use Rattle.settlement.specs.Next.{identifiers_of}
use Rattle.settlement.proofs.Alike.{are_alike, alike-same, same-alike}
use Rattle.settlement.proofs.Handing.{reached-leave, reached-parts, parts-sound}
use Rattle.model.specs.Settlement.{is_at_rest}
use Rattle.model.specs.Theorems.{IsSoundOpening}
use Rattle.settlement.proofs.parts.parts_after.Goals as goal

-- what is alike is not told to differ
not-both : (alike other : Bool) → alike ≡ true → other ≡ not alike → other ≡ true → ⊥
not-both alike other is returned differs = both_ways other (returned ∙ ap not is) differs

pub returns-then-ne-clause-settings : goal.returns-then-ne-clause-settings
returns-then-ne-clause-settings g c = λ p s hp hs is same.
    let alike : are_alike c.settings.result c.settings-settings.result ≡ true = same-alike _ _ (c.settings.ensures s hs ∙ sym same
    ∙ sym (c.settings-settings.ensures p hp)) in
    not-both (are_alike c.settings.result c.settings-settings.result) c.ne.result alike c.ne.ensures c.if-ne.true

pub returns-clause-left : goal.returns-clause-left
returns-clause-left g c = λ p s hp hs. record {
  settings = c.settings-settings.ensures p hp;
  own = c.tuple-own.ensures p hp;
  peer = c.identifiers_of-peer.ensures
      ∙ (λ i. identifiers_of (c.is_consistent.ensures s hs i) (c.tuple.ensures s hs i) (c.tuple-own.ensures p hp i));
  marks = λ block. ap (λ (l : List Bool). marked l block) c.in_ok-marks.ensures.made ∙ c.bitmap.ensures.marks p hp block;
  length = ap (λ (l : List Bool). length l) c.in_ok-marks.ensures.made
      ∙ (c.bitmap.ensures.size p hp ∙ sym (ap (λ (x : Settings). x.blocks) (c.settings-settings.ensures p hp)));
}

pub returns-clause-same : goal.returns-clause-same
returns-clause-same g c = λ p s hp hs.
    let alike : are_alike c.settings.result c.settings-settings.result ≡ true = not-false _ (sym c.ne.ensures ∙ c.if-ne.false) in
    sym (c.settings-settings.ensures p hp) ∙ sym (alike-same _ _ alike) ∙ c.settings.ensures s hs

pub returns-clause-sound : goal.returns-clause-sound
returns-clause-sound g c = λ p s hp hs joined honest faithful.
    let passed : c.is_at_rest.result ≡ true = search rules in
    let rest : is_at_rest p s ≡ true = sym (c.is_at_rest.ensures p s hp hs) ∙ passed in
    let left = returns-clause-left g c p s hp hs in
    parts-sound _ p s left (returns-clause-same g c p s hp hs)
    (subst (λ (t : Tuple). IsSoundOpening (left_by p s t)) (sym left.peer) (reached-leave p s hp.reached hs.reached honest joined faithful rest))

pub returns-clause-unparted : goal.returns-clause-unparted
returns-clause-unparted g c = λ p s hp hs joined honest unparted same.
    let passed : c.is_at_rest.result ≡ true = search rules in
    let rest : is_at_rest p s ≡ true = sym (c.is_at_rest.ensures p s hp hs) ∙ passed in
    let left = returns-clause-left g c p s hp hs in
    ap (λ (t : Tuple). t.bitmap) left.own ∙ reached-parts p s hp.reached hs.reached honest joined unparted rest
    (sym (ap (λ (t : Tuple). t.current) left.own) ∙ same ∙ ap (λ (t : Tuple). t.current) left.peer)
