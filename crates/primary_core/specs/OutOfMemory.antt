-- Results that say that memory was refused.
use Rattle.std.specs.Prelude.{Bool, true, false, Result, Err}
use Rattle.blocks.specs.declared.refusal.Refusal.{Refusal}
use Rattle.blocks.specs.declared.refusal.Refusal.TheVariants.{NoMemory}

-- whether memory was refused
abbrev pub is_out_of_memory : {R : Type 0} → Result R Refusal → Bool
is_out_of_memory (Err NoMemory) = true
is_out_of_memory _ = false
