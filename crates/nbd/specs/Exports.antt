-- An export as contracts see it.
use Rattle.std.specs.Prelude.{ℕ, List, Option}
use Rattle.nbd.specs.declared.terms.Terms.{Terms}
use Rattle.nbd.specs.Terms.{terms_now}

-- its name, the blocks of 4096 bytes of its device, and the terms on which the client has it
pub record Exported : Type 0 where
  pub name : List ℕ
  pub blocks : ℕ
  pub terms : Terms

-- an export after an option, which may set the terms
abbrev pub export_now : Exported → Option Terms → Exported
export_now e terms = record { name = e.name; blocks = e.blocks; terms = terms_now e.terms terms }
