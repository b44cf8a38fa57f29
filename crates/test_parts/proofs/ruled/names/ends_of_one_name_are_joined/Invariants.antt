use Rattle.thread_link.specs.Names.{There}
use Rattle.test_parts.proofs.ruled.names.ends_of_one_name_are_joined.Given as goal

abbrev pub ghosts-goes_through : goal.ghosts-goes_through
ghosts-goes_through g a = record { link = record { there = a.outward.row; back = a.outward.row }; direction = There }
