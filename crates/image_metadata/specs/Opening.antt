-- The identifiers that a session begins with (this project's rule). Nothing is proved here.
use Rattle.std.specs.Prelude.{ℕ, Bool, true, false, ◌==◌, ◌&&◌, is_ok, if◌then◌else◌}
use Rattle.blocks.specs.Identifiers.{decision, lost}
use Rattle.blocks.specs.declared.tuple.Tuple.{Tuple}
use Rattle.image_metadata.specs.declared.judging.Start.TheVariants.{Marked}
use Rattle.image_metadata.specs.declared.judging.Start.{Start}
use Rattle.image_metadata.specs.declared.opening.OpeningIdentifiers.{OpeningIdentifiers}

-- the identifiers of a disk about which nothing is known
abbrev pub unknown : Tuple
unknown = record { current = 0; bitmap = 0; first_historical = 0; second_historical = 0 }

-- a primary with blocks that are marked, whose peer has the same current identifier, has lost it under this word
abbrev pub turned : Tuple → Tuple → Bool → ℕ → Tuple
turned own peer has_marks word = if has_marks && (own.current == peer.current) then lost word own else own

abbrev pub opening_of_start : Start → Tuple → Tuple → Bool → ℕ → OpeningIdentifiers
opening_of_start (Marked last is_doubted) own peer has_marks word =
    if is_ok (decision own peer) then record { own = turned own peer has_marks word; peer = peer; is_peer_doubted = is_doubted }
    else record { own = own; peer = unknown; is_peer_doubted = true }
opening_of_start _ own peer has_marks word = record { own = own; peer = unknown; is_peer_doubted = true }
