-- What a step of a node asks of its metadata, and what the marks of a file are while it is read. Nothing is proved here.
use Rattle.std.specs.Prelude.{ℕ, Bool, true, false, List, Result, Ok, Err}
use Rattle.blocks.specs.declared.outcome.Decision.TheVariants.{FullSync}
use Rattle.blocks.specs.declared.outcome.Done.{Done}
use Rattle.blocks.specs.declared.outcome.What.{What}
use Rattle.blocks.specs.declared.outcome.What.TheVariants.{Decided}
use Rattle.blocks.specs.declared.refusal.Refusal.{Refusal}
use Rattle.kept_nodes.specs.Left.{Outcomes}
use Rattle.metadata.specs.State.{MetadataState}
use Rattle.metadata.specs.Steps.{SameMarks}

-- a full copy was decided
abbrev pub is_full_copy : What → Bool
is_full_copy (Decided FullSync) = true
is_full_copy _ = false

-- a frame was taken, and a full copy begins by it
abbrev pub begins_full_copy : Result Done Refusal → Bool
begins_full_copy (Ok done) = is_full_copy done.what
begins_full_copy (Err refusal) = false

-- whatever a stop leaves has the marks that the file has
abbrev pub MarksStand : {F : Type 0} → (F → List ℕ) → (F → List ℕ → Type 0) → MetadataState F → Type 0
MarksStand seen may_leave m = (c : List ℕ) → Outcomes seen may_leave m c → SameMarks (seen m.file) c
