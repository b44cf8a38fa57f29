-- Refusals, as the core and the node tell them.
use Rattle.std.proofs.Common.{◌≡◌, Bool, Result, Ok, Err, refl, sym, subst}
use Rattle.std.specs.Prelude.{OnErr}
use Rattle.blocks.specs.declared.refusal.Refusal.{Refusal}
use Rattle.blocks.specs.declared.refusal.Refusal.TheVariants.{NoMemory}
use Rattle.blocks.specs.declared.outcome.Reply.{Reply}
use Rattle.endpoint.specs.Calls.{is_out_of_memory}
use Rattle.primary_core.specs.OutOfMemory as inner

-- The core and the node run out of memory by the same refusal.
pub same-out-of-memory : (R S : Type 0) (e : Refusal) → inner.is_out_of_memory {R = R} (Err e) ≡ is_out_of_memory {R = S} (Err e)
same-out-of-memory R S NoMemory = refl
same-out-of-memory R S e = refl

-- What a refused call ensures of a refusal holds.
pub on-refused : {R : Type 0} (said : Result R Refusal) (e : Refusal) (P : Type 0) → said ≡ Err e → P → OnErr said P
on-refused said e P is p = subst (λ (r : Result _ Refusal). OnErr r P) (sym is) p
