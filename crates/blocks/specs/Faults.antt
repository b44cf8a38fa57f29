-- A disk that fails in the calls for which it is armed.
use Rattle.std.specs.Prelude.{ℕ, ◌+◌, ◌-◌, ◌==◌, Bool, false, ◌&&◌, List, take, if◌then◌else◌, Option, Some, None, is_none}
use Rattle.blocks.specs.Contents.{overwritten}

-- after `passes` writes that succeed, the next one writes only its first `kept` blocks and fails
pub record WriteArming : Type 0 where
  pub passes : ℕ
  pub kept : ℕ

-- the disk, how many of its calls have failed, and what is armed: a write's fault, and a read's, with how many reads
-- pass before it
pub record FaultState : Type 0 where
  pub disk : List (List ℕ)
  pub faults : ℕ
  pub write_arming : Option WriteArming
  pub read_arming : Option ℕ

-- nothing is armed
abbrev pub is_steady : FaultState → Bool
is_steady s = is_none s.write_arming && is_none s.read_arming

-- whether the next write fails
abbrev pub write_fails : Option WriteArming → Bool
write_fails None = false
write_fails (Some arming) = arming.passes == 0

-- the disk after a write of these blocks from `first` on: all of them if the write passes; else only the first of them,
-- the fault is counted, and no fault of a write is armed any more
abbrev pub written_by : Option WriteArming → ℕ → List (List ℕ) → FaultState → FaultState
written_by None first blocks s = record s { disk = overwritten s.disk first blocks }
written_by (Some arming) first blocks s =
    if arming.passes == 0 then record s { disk = overwritten s.disk first (take arming.kept blocks); faults = s.faults + 1; write_arming = None }
    else record s { disk = overwritten s.disk first blocks; write_arming = Some (record arming { passes = arming.passes - 1 }) }

-- the disk after a write of these blocks
abbrev pub written : ℕ → List (List ℕ) → FaultState → FaultState
written first blocks s = written_by s.write_arming first blocks s

-- whether the next read fails
abbrev pub read_fails : Option ℕ → Bool
read_fails None = false
read_fails (Some passes) = passes == 0

-- the disk after a read: a fault is counted, and then no fault of a read is armed any more
abbrev pub read_by : Option ℕ → FaultState → FaultState
read_by None s = s
read_by (Some passes) s =
    if passes == 0 then record s { faults = s.faults + 1; read_arming = None } else record s { read_arming = Some (passes - 1) }

-- the disk after a read
abbrev pub after_read : FaultState → FaultState
after_read s = read_by s.read_arming s
