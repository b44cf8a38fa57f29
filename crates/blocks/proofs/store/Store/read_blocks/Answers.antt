use Rattle.std.proofs.Common.{◌≡◌, ◌∙◌, ◌+◌, ◌<◌, ◌/◌, ◌*◌, length, slice_get, refl, ap, sym, arith}
use Rattle.blocks.proofs.Buffers.{none-read, read-more}
use Rattle.blocks.proofs.store.Store.read_blocks.Goals as goal

pub loop-offset-init : goal.loop-offset-init
loop-offset-init g c = record {
  same = refl;
  read = λ _. none-read _ _ _;
  falls = λ faithful. faithful;
  sure = λ _. refl;
  uncounted = refl;
  works = λ steady. steady;
}

pub read-requires-clause-inside : goal.read-requires-clause-inside
read-requires-clause-inside g c =
    let same : length (g.Self.Store.contents c.loop-offset.self) ≡ length (g.Self.Store.contents c.args.self.now) = ap length c.loop-offset.invariant.same in
    omega (arith, same, c.loop-offset-test.true, c.requires.inside)

pub loop-offset-preserved : goal.loop-offset-preserved
loop-offset-preserved g c =
    let size : length c.loop-offset.buffer ≡ length c.args.buffer.now = c.loop-offset.auto.buffer in
    let less : c.loop-offset.offset < length c.loop-offset.buffer / 4096 = rw size c.loop-offset-test.true in
    let whole : 4096 * (length c.loop-offset.buffer / 4096) ≡ length c.loop-offset.buffer = rw size c.requires.whole in
    record {
      same = c.in_ok-read.ensures.same ∙ c.loop-offset.invariant.same;
      read = λ faithful. read-more _ _ _ _ _ (c.loop-offset.invariant.read (c.in_ok-read.ensures.falls faithful)) (sym (ap (λ d. slice_get d (c.args.first.0 + c.loop-offset.offset)) c.loop-offset.invariant.same)
          ∙ c.in_ok-read.ensures.read faithful) (omega (arith, c.read.auto.buffer)) less whole;
      uncounted = c.in_ok-read.ensures.uncounted ∙ c.loop-offset.invariant.uncounted;
      works = λ steady. c.in_ok-read.ensures.still_steady (c.loop-offset.invariant.works steady);
      falls = λ faithful. c.loop-offset.invariant.falls (c.in_ok-read.ensures.falls faithful);
      sure = λ steady. c.in_ok-read.ensures.sure (c.loop-offset.invariant.works steady) ∙ c.loop-offset.invariant.sure steady;
    }
