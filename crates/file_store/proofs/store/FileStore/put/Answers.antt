use Rattle.file_store.proofs.Replays.{sized-put}
use Rattle.file_store.proofs.store.FileStore.put.Goals as goal

pub invariant_of-self : goal.invariant_of-self
invariant_of-self g c = record {
  sized = rw c.write.ensures.path (sized-put c.write.result c.args.self.now.blocks (g.X.OpeningContents.held c.args.self.now.file.path) c.args.self.now.file.events
      c.write.new.self.events c.args.first.0 c.args.bytes.now c.args.self.now.sized c.requires.inside c.write.ensures.taken c.write.ensures.same);
}
