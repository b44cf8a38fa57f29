use Rattle.kept_nodes.proofs.Again.{broken_files_cover, files_leave_a_sound_opening, primaries_say_so, secondaries_say_so}
use Rattle.kept_nodes.proofs.next_opening.next_opening_of_files.Goals as goal

pub returns : goal.returns
returns g c = record {
  opening = files_leave_a_sound_opening g.F.StableFile.seen g.F.StableFile.may_leave g.F.StableFile.faithful g.G.StableFile.seen g.G.StableFile.may_leave;
  broken = broken_files_cover g.F.StableFile.seen g.F.StableFile.may_leave g.F.StableFile.faithful;
  primary = primaries_say_so g.F.StableFile.seen g.F.StableFile.may_leave g.F.StableFile.faithful;
  secondary = secondaries_say_so g.G.StableFile.seen g.G.StableFile.may_leave;
}
