-- What the next session starts from.
use Rattle.std.specs.Prelude.{ℕ, ◌≡◌, Bool, false, ◌&&◌, if◌then◌else◌, is_ok, length, slice_get, unwrap_or}
use Rattle.blocks.specs.Identifiers.{decision}
use Rattle.blocks.specs.declared.tuple.Tuple.{Tuple}
use Rattle.model.specs.Headline.{is_marked}
use Rattle.model.specs.Primary.{PrimaryHistory}
use Rattle.model.specs.Secondary.{SecondaryHistory}
use Rattle.session_api.specs.declared.session_start.SessionStart.{SessionStart}

-- the identifiers of an unknown disk
abbrev pub unknown : Tuple
unknown = record { current = 0; bitmap = 0; first_historical = 0; second_historical = 0 }

-- the peer's own identifiers, if its disk is consistent and the primary takes it by them
abbrev pub identifiers_of : Bool → Tuple → Tuple → Tuple
identifiers_of consistent peer own = if consistent && is_ok (decision own peer) then peer else unknown

-- The parts that two nodes leave: the primary's settings, identifiers and marks, one for each block; and what the peer's
-- disk is known by.
pub record IsLeft (parts : SessionStart) (p : PrimaryHistory) (s : SecondaryHistory) : Type 0 where
  pub settings : parts.settings ≡ p.settings
  pub own : parts.own ≡ p.tuple
  pub peer : parts.peer ≡ identifiers_of s.consistent s.tuple p.tuple
  pub marks : (block : ℕ) → unwrap_or (slice_get parts.marks block) false ≡ is_marked p block
  pub length : length parts.marks ≡ parts.settings.blocks
