use Rattle.std.proofs.Common.{◌≡◌, ◌⊎◌, inl, inr, Bool, true, ap, refl, sym}
use Rattle.blocks.specs.declared.refusal.Refusal.{Refusal}
use Rattle.blocks.specs.declared.refusal.Refusal.TheVariants.{BadSetting, LocalFault, NoMemory}
use Rattle.model.specs.CallRefusals.{peer_open_refuses, start_refuses}
use Rattle.model.specs.Theorems.{primary_at, secondary_at}
use Rattle.volume.proofs.kept_session.open_nodes.Goals as goal

-- what opening the secondary may refuse, the start may refuse
of-peer : (e : Refusal) → peer_open_refuses e ≡ true → start_refuses e ≡ true
of-peer NoMemory is = refl
of-peer BadSetting is = refl
of-peer e is = absurd (cc)

of-peer-file : (e : Refusal) (first second : Bool) → (peer_open_refuses e ≡ true) ⊎ ((e ≡ LocalFault) × (second ≡ true))
    → (start_refuses e ≡ true) ⊎ ((e ≡ LocalFault) × ((first ≡ true) ⊎ (second ≡ true)))
of-peer-file e first second (inl is) = inl (of-peer e is)
of-peer-file e first second (inr is) = inr (is.0, inr is.1)

pub open-requires-clause-began : goal.open-requires-clause-began
open-requires-clause-began g c = sym (ap primary_at c.requires.opening)

pub open-requires-2-clause-began : goal.open-requires-2-clause-began
open-requires-2-clause-began g c = sym (ap secondary_at c.requires.opening)

pub returns-in-Err-clause-refused : goal.returns-in-Err-clause-refused
returns-in-Err-clause-refused g c = of-peer-file c.in-Err.refusal _ _ c.in-Err.ensures.refused
