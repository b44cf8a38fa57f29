-- What an extent that leaves the metadata changes for a primary. Nothing is proved here.
use Rattle.std.specs.Prelude.{ℕ, ◌≡◌, Bool, true, List}
use Rattle.kept_nodes.specs.Kept.{CoversPrimary}
use Rattle.kept_nodes.specs.Left.{Outcomes}
use Rattle.metadata.specs.Says.{marked_in}
use Rattle.metadata.specs.State.{MetadataState}
use Rattle.model.specs.Contents.{extent_of}
use Rattle.model.specs.Headline.{is_covered}
use Rattle.model.specs.Primary.{PrimaryHistory}
use Rattle.primary.specs.State.{PrimaryView, node}
use Rattle.primary_protocol.specs.Node.{NodeHas}

-- the node's device has this many blocks
pub record HasDevice (v : PrimaryView) (blocks : ℕ) : Type 0 where
  pub history : PrimaryHistory
  pub has : NodeHas (node v) history
  pub sized : blocks ≡ history.settings.blocks

-- metadata that covered the node covers it still
abbrev pub StillCovers : {F : Type 0} → (F → List ℕ) → (F → List ℕ → Type 0) → (F → Bool) → PrimaryView → MetadataState F → MetadataState F → Type 0
StillCovers seen may_leave faithful v old new =
    (owes : Bool) (h : PrimaryHistory) → NodeHas (node v) h → CoversPrimary (faithful old.file) (Outcomes seen may_leave old) old owes h
    → CoversPrimary (faithful new.file) (Outcomes seen may_leave new) new owes h

-- the file has the mark of each block of the extent that the node covers
abbrev pub HasCovered : PrimaryView → ℕ → List ℕ → Type 0
HasCovered v extent file =
    (h : PrimaryHistory) → NodeHas (node v) h → (block : ℕ) → extent_of block ≡ extent → is_covered h block ≡ true → marked_in file block ≡ true
