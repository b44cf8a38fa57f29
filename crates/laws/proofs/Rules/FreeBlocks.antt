-- Which block a resync copies: what holds of it, and the block that whatever asks the same finds.
use Rattle.std.proofs.Common.{ℕ, ◌≡◌, ◌<◌, Bool, true, false, not, Some, slice_get}
use Rattle.std.specs.Prelude.{find}
use Rattle.std.specs.List.{list_any}
use Rattle.std.proofs.lemmas.Bool.{not-true}
use Rattle.model.specs.Contents.{covers}
use Rattle.model.specs.Stream.{below}
use Rattle.model.specs.Primary.{Accepted, PrimaryHistory, is_open, open_writes, marked_blocks, free_block}
use Rattle.laws.proofs.Lists.Picks.{pick-found, pick-filtered, pick-none, filtered-pick, pick-below}

-- a marked block of the device that no open write has
pub record IsFree (h : PrimaryHistory) (block : ℕ) : Type 0 where
  pub marked : h.marks block ≡ true
  pub within : block < h.settings.blocks
  pub apart : (m : ℕ) (accepted : Accepted) → slice_get (open_writes h) m ≡ Some accepted → covers accepted.write block ≡ false
  pub free : (i : ℕ) (accepted : Accepted) → slice_get h.writes i ≡ Some accepted → is_open h accepted ≡ true → covers accepted.write block ≡ false

-- an open write has the block
abbrev is_held : PrimaryHistory → ℕ → Bool
is_held h block = list_any (λ (accepted : Accepted). covers accepted.write block) (open_writes h)

-- the block that comes next is so
pub free-found : (h : PrimaryHistory) (block : ℕ) → free_block h ≡ Some block → IsFree h block
free-found h block is =
    let found = pick-found (λ b. not (is_held h b)) (marked_blocks h) block is in
    let among = pick-filtered h.marks (below h.settings.blocks) found.0 block found.1 in
    let apart : (m : ℕ) (accepted : Accepted) → slice_get (open_writes h) m ≡ Some accepted → covers accepted.write block ≡ false =
    λ m accepted at. pick-none (λ (a : Accepted). covers a.write block) (open_writes h) m accepted (not-true (is_held h block) found.2) at in
    record {
      marked = among.2;
      within = pick-below h.settings.blocks among.0 block among.1;
      apart = apart;
      free = λ i accepted at opens. let there = filtered-pick (is_open h) h.writes i accepted at opens in apart there.0 accepted there.1;
    }

-- it is the lowest marked one, whatever says which blocks the open writes have
pub free-by : (h : PrimaryHistory) (held : ℕ → Bool)
    → ((block : ℕ) → held block ≡ list_any (λ (accepted : Accepted). covers accepted.write block) (open_writes h))
    → find (λ block. not (held block)) (marked_blocks h) ≡ free_block h
free-by h held says = λ i. find (λ block. not (says block i)) (marked_blocks h)
