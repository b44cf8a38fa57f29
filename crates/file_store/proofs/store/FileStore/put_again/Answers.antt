use Rattle.file_store.proofs.Replays.{sized-again}
use Rattle.file_store.proofs.store.FileStore.put_again.Goals as goal

pub invariant_of-self : goal.invariant_of-self
invariant_of-self g c = record {
  sized = rw c.remains_of.ensures.path (sized-again c.remains_of.result c.args.self.now.blocks (g.X.OpeningContents.held c.args.self.now.file.path) c.args.self.now.file.events
      c.remains_of.new.file.events c.args.block.0 c.args.bytes.now c.args.self.now.sized c.requires.inside c.remains_of.ensures.new c.remains_of.ensures.old c.remains_of.ensures.mixed);
}
