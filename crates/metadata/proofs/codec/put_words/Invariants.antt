use Rattle.std.proofs.Common.{◌≡◌, ◌*◌, take}
use Rattle.metadata.specs.Words.{bytes_of}
use Rattle.metadata.proofs.codec.put_words.Given as goal

abbrev pub invariant-loop-index : goal.invariant-loop-index
invariant-loop-index l = take (8 * l.index) l.buffer ≡ bytes_of (take l.index l.words)
