use Rattle.std.proofs.Common.{◌≡◌, ◌∙◌, ◌⊎◌, false, length, sym, ap, subst}
use Rattle.std.specs.Prelude.{slice_get, unwrap_or}
use Rattle.blocks.specs.Faults.{FaultState, is_steady}
use Rattle.blocks.specs.SettingsRange.{IsInRange}
use Rattle.blocks.specs.declared.refusal.Refusal.TheVariants.{BadSetting, NoMemory}
use Rattle.model.specs.Pair.{pair_opening}
use Rattle.pair_protocol.specs.State.{PairHas}
use Rattle.pair.specs.Openings.{CanPair}
use Rattle.pair.specs.State.{state}
use Rattle.pair.proofs.Parts.{handed-on, parts-are, parts-have, refused-there}
use Rattle.pair.proofs.pair.Pair.from_parts.Goals as goal

pub returns-in_err-new-2-clause-refused : goal.returns-in_err-new-2-clause-refused
returns-in_err-new-2-clause-refused c =
    let size : length c.args.local ≡ c.args.settings.blocks = ap (λ (s : FaultState). length s.disk) (sym c.new.ensures) ∙ c.in_ok-new.ensures.begun.1 in
    handed-on c.from_residual-in_err-new-2.result c.in_err-new-2.field-0.0
    (λ e. ((e ≡ BadSetting) × (CanPair c.args.settings c.args.local c.args.peer c.args.own c.args.marks.items → ⊥))
    ⊎ ((e ≡ NoMemory) × CanPair c.args.settings c.args.local c.args.peer c.args.own c.args.marks.items))
    c.from_residual-in_err-new-2.ensures
    (refused-there c.args.settings c.args.local c.args.peer c.args.own c.args.marks.items c.in_err-new-2.field-0.0 c.in_ok-new.ensures.begun.0 size
    (subst (λ (s : FaultState). ((c.in_err-new-2.field-0.0 ≡ BadSetting) × (IsInRange c.args.settings → length s.disk ≡ c.args.settings.blocks → ⊥))
    ⊎ ((c.in_err-new-2.field-0.0 ≡ NoMemory) × IsInRange c.args.settings × (length s.disk ≡ c.args.settings.blocks))) c.new-3.ensures
    c.in_err-new-2.ensures.refused))

pub invariant_of-result : goal.invariant_of-result
invariant_of-result c =
    parts-are (record { primary = c.in_ok-new.field-0; secondary = c.in_ok-new-2.field-0 }) c.args.settings c.new.result.disk c.new-3.result.disk c.args.own
    c.args.peer_tuple (λ block. unwrap_or (slice_get c.args.marks.items block) false)
    c.in_ok-new.ensures.begun.0.in_range c.in_ok-new.ensures.begun.1 (ap (λ (s : FaultState). length s.disk) c.new-3.ensures
    ∙ (sym c.blocks-2.ensures ∙ c.if-blocks-settings.false)) c.in_ok-new.ensures.history c.in_ok-new-2.ensures.history
    c.in_ok-new.ensures.link.0 c.in_ok-new.ensures.link.1 c.in_ok-new-2.ensures.link.0 c.in_ok-new-2.ensures.link.1 (
      c.in_ok-new.ensures.disk.1
          ∙ ap is_steady c.new.ensures,
      c.in_ok-new.ensures.disk.2,
    ) (c.in_ok-new-2.ensures.disk.1 ∙ ap is_steady c.new-3.ensures, c.in_ok-new-2.ensures.disk.2)

pub returns-clause-history : goal.returns-clause-history
returns-clause-history c =
    subst (λ (s : FaultState). PairHas (state (record { primary = c.in_ok-new.field-0; secondary = c.in_ok-new-2.field-0 }))
    (pair_opening c.args.settings (slice_get s.disk) (slice_get c.args.peer) c.args.own c.args.peer_tuple
    (λ block. unwrap_or (slice_get c.args.marks.items block) false))) c.new.ensures
    (subst (λ (s : FaultState). PairHas (state (record { primary = c.in_ok-new.field-0; secondary = c.in_ok-new-2.field-0 }))
    (pair_opening c.args.settings (slice_get c.new.result.disk) (slice_get s.disk) c.args.own c.args.peer_tuple
    (λ block. unwrap_or (slice_get c.args.marks.items block) false))) c.new-3.ensures
    (parts-have (record { primary = c.in_ok-new.field-0; secondary = c.in_ok-new-2.field-0 }) c.args.settings c.new.result.disk c.new-3.result.disk c.args.own
    c.args.peer_tuple (λ block. unwrap_or (slice_get c.args.marks.items block) false)
    c.in_ok-new.ensures.begun.0.in_range c.in_ok-new.ensures.begun.1 (ap (λ (s : FaultState). length s.disk) c.new-3.ensures
    ∙ (sym c.blocks-2.ensures ∙ c.if-blocks-settings.false)) c.in_ok-new.ensures.history c.in_ok-new-2.ensures.history))
