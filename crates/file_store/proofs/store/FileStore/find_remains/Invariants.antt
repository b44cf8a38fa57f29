-- The blocks so far are old or new, and no read was noted.
use Rattle.std.proofs.Common.{◌≡◌}
use Rattle.blocks.specs.Contents.{blocks_of, IsTorn}
use Rattle.file_store.specs.Stores.{disk_of, faithful_of, IsSameBut}
use Rattle.file_store.proofs.store.FileStore.find_remains.Given as goal

abbrev pub invariant-loop-offset : goal.invariant-loop-offset
invariant-loop-offset g l = record {
  torn : IsTorn (disk_of g.X.OpeningContents.held l.fn.self) l.range.first.0 (blocks_of 4096 l.bytes)
      (disk_of g.X.OpeningContents.held l.self);
  faithful : faithful_of g.X.OpeningContents.held l.self ≡ faithful_of g.X.OpeningContents.held l.fn.self;
  same : IsSameBut l.fn.self l.self;
}
