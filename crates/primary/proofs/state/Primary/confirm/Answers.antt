use Rattle.std.proofs.Common.{◌≡◌, ◌∙◌, ◌+◌, ◌-◌, List, Bool, true, false, cond, length, replicate, slice_set, refl, sym, ap, subst}
use Rattle.std.proofs.lemmas.List.{length-replicate}
use Rattle.primary_core.specs.Entries.{is_unconfirmed}
use Rattle.primary_core.specs.State.{CoreState}
use Rattle.primary_protocol.specs.Core.{PrimaryState}
use Rattle.primary_protocol.specs.Leaves.{Leaves}
use Rattle.primary.specs.Receipts.{is_found}
use Rattle.primary.specs.State.{PrimaryView}
use Rattle.primary.proofs.Confirming.{IsConfirming, confirming-first, confirming-next, confirming-all, strange-given, strange-missing}
use Rattle.primary.proofs.state.Primary.confirm.Goals as goal
use Rattle.primary.proofs.state.Primary.confirm.Goals.{then-not-is_found-via-then-not-is_found, then-not-is_found-via-else-not-is_found+then-not-confirm_entry}

pub loop-receipt-init : goal.loop-receipt-init
loop-receipt-init g c =
    let core : CoreState = c.clear_confirmed.new.self in
    let many : length c.self.inside.core.confirmed ≡ length core.state.entries =
    c.clear_confirmed.ensures.each ∙ sym (ap (λ (k : CoreState). length k.state.entries) c.clear_confirmed.ensures.cleared) in
    let clear : core.confirmed ≡ replicate (length core.state.entries) false =
    ap (λ (k : CoreState). k.confirmed) c.clear_confirmed.ensures.cleared ∙ ap (λ n. replicate n false) many in
    record {
      rest = refl;
      state = refl;
      confirming = confirming-first core.state c.args.receipts.now core.confirmed clear (ap length clear ∙ length-replicate (length core.state.entries) false);
    }

pub returns-then-not-is_found-clause-found : goal.returns-then-not-is_found-clause-found
returns-then-not-is_found-clause-found g c = λ h has.
    let r = c.receipt-item.result in
    let there : is_found r c.loop-receipt.self-inside.core.state ≡ is_found r c.clear_confirmed.new.self.state =
    ap (λ (k : CoreState). is_found r k.state) c.loop-receipt.invariant.state in
    let left : Leaves c.clear_confirmed.new.self.state h = subst (λ (s : PrimaryState). Leaves s h)
    (sym (ap (λ (k : CoreState). k.state) c.clear_confirmed.ensures.cleared ∙ ap (λ (v : PrimaryView). v.core) c.self.view_is)) has.leaves.core in
    elim c.then-not-is_found.branch [
      | then-not-is_found-via-then-not-is_found w ↦
          strange-missing _ _ _ _ c.loop-receipt.invariant.confirming r c.loop-receipt-test.true c.receipt-item.is h has.reached left
          (sym there ∙ (sym c.is_found.ensures ∙ w.if-not-is_found.true))
      | then-not-is_found-via-else-not-is_found+then-not-confirm_entry w ↦
          strange-given _ _ _ _ c.loop-receipt.invariant.confirming r c.loop-receipt-test.true c.receipt-item.is h has.reached left
          (sym there ∙ (sym c.is_found.ensures ∙ w.if-not-is_found.false))
          (sym (w.confirm_entry.ensures.found ∙ ap (λ n. is_unconfirmed n c.loop-receipt.self-inside.core.confirmed) w.number.ensures)
          ∙ w.if-not-confirm_entry.true)
    ]

pub loop-receipt-preserved : goal.loop-receipt-preserved
loop-receipt-preserved g c =
    let core : CoreState = c.clear_confirmed.new.self in
    let r = c.receipt-item.result in
    let flags = c.loop-receipt.self-inside.core.confirmed in
    let found : is_found r core.state ≡ true = sym (ap (λ (k : CoreState). is_found r k.state) c.loop-receipt.invariant.state)
    ∙ (sym c.is_found.ensures ∙ c.if-not-is_found.false) in
    let fresh : is_unconfirmed r.number flags ≡ true =
    sym (c.confirm_entry.ensures.found ∙ ap (λ n. is_unconfirmed n flags) c.number.ensures) ∙ c.if-not-confirm_entry.false in
    let set : c.confirm_entry.new.self ≡ record c.loop-receipt.self-inside.core { confirmed = slice_set flags (r.number - 1) true } =
    c.confirm_entry.ensures.set
    ∙ λ i. record c.loop-receipt.self-inside.core { confirmed = cond (c.if-not-confirm_entry.false i) (slice_set flags (c.number.ensures i - 1) true) flags } in
    record {
      rest = λ i. record (c.loop-receipt.invariant.rest i) { core = c.confirm_entry.new.self };
      state = set ∙ (ap (λ (k : CoreState). record k { confirmed = slice_set flags (r.number - 1) true }) c.loop-receipt.invariant.state
          ∙ ap (λ (f : List Bool). record core { confirmed = f }) (sym (ap (λ (k : CoreState). k.confirmed) set)));
      confirming = subst (IsConfirming core.state c.args.receipts.now (c.loop-receipt.receipt-index + 1)) (sym (ap (λ (k : CoreState). k.confirmed) set))
          (confirming-next _ _ _ _ c.loop-receipt.invariant.confirming r c.loop-receipt-test.true c.receipt-item.is found fresh);
    }

pub returns-clause-found : goal.returns-clause-found
returns-clause-found g c = λ h has.
    confirming-all _ _ _ _ c.loop-receipt.invariant.confirming c.loop-receipt-test.false h has.reached
    (subst (λ (s : PrimaryState). Leaves s h) (sym (ap (λ (k : CoreState). k.state) c.clear_confirmed.ensures.cleared
    ∙ ap (λ (v : PrimaryView). v.core) c.self.view_is)) has.leaves.core)
