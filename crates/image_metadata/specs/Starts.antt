-- How a server begins over two images: the first case that holds decides (this project's rule). Nothing is proved here.
use Rattle.std.specs.Prelude.{Bool, ◌==◌, not, ◌&&◌, ◌||◌, is_some, if◌then◌else◌}
use Rattle.image_metadata.specs.declared.search.Found.{Found}
use Rattle.image_metadata.specs.declared.search.Found.TheVariants as found
use Rattle.image_metadata.specs.declared.search.Saved.{Saved}
use Rattle.image_metadata.specs.declared.judging.LastEnd.{LastEnd}
use Rattle.image_metadata.specs.declared.judging.LastEnd.TheVariants as last
use Rattle.image_metadata.specs.declared.judging.Start.{Start}
use Rattle.image_metadata.specs.declared.judging.Start.TheVariants as start
use Rattle.image_metadata.specs.declared.judging.WholeCopy.TheVariants as whole
use Rattle.metadata.specs.declared.identifiers.BootId.{BootId}
use Rattle.metadata.specs.declared.identifiers.Identifiers.{Identifiers}

-- the same id of a system
abbrev pub same_boot : BootId → BootId → Bool
same_boot a b = (a.high == b.high) && (a.low == b.low)

-- how the server ended that used an image last
abbrev pub last_end : Identifiers → BootId → LastEnd
last_end v boot = if is_some v.clean_end then last.Clean else if same_boot v.boot boot then last.Killed else last.PowerLost

-- whether a peer's image is doubted: it was not consistent, or its system may have lost writes
abbrev pub is_doubted : Identifiers → BootId → Bool
is_doubted v boot = not v.is_consistent || (not (is_some v.clean_end) && not (same_boot v.boot boot))

-- where the metadata of both images says something
abbrev pub start_of_both : Saved → Saved → BootId → Start
start_of_both local peer boot =
    if not (local.header.pair == peer.header.pair) then start.Whole whole.OtherPair
    else if not local.identifiers.is_primary && peer.identifiers.is_primary then start.WrongWayRound
    else if not local.is_image_unchanged then start.Whole whole.LocalChanged
    else if not peer.is_image_unchanged then start.Whole whole.PeerChanged
    else if not (peer.identifiers.secondary_of == local.header.node) then start.Whole whole.OtherPrimary
    else start.Marked (last_end local.identifiers boot) (is_doubted peer.identifiers boot)

abbrev pub start_of : Found → Found → BootId → Start
start_of found.Missing found.Missing boot = start.First
start_of found.Missing _ boot = start.Whole whole.LocalMissing
start_of (found.Unusable fault) _ boot = start.Whole (whole.LocalUnusable fault)
start_of (found.Says local) found.Missing boot = start.Whole whole.PeerMissing
start_of (found.Says local) (found.Unusable fault) boot = start.Whole (whole.PeerUnusable fault)
start_of (found.Says local) (found.Says peer) boot = start_of_both local peer boot
