-- The front, and the blocks where there are some, are the spelling.
use Rattle.std.proofs.Common.{List, ℕ, ◌++◌, length, ap, ◌∙◌}
use Rattle.packets.specs.Written.{front}
use Rattle.packets.proofs.Fronts.{front_length}
use Rattle.packets.proofs.Written.{front_whole, front_blocks}
use Rattle.packets.proofs.writing.encode.Goals as goal

pub fronted-requires-clause-front : goal.fronted-requires-clause-front
fronted-requires-clause-front c = ap (λ (x : List ℕ). length x) c.front_of-front.ensures.front ∙ front_length c.args.packet.now c.in-Some.ensures.0

pub returns-in_ok-clone-in-Some-clause-spelled : goal.returns-in_ok-clone-in-Some-clause-spelled
returns-in_ok-clone-in-Some-clause-spelled c =
    let p = c.args.packet.now in
    record {
      fields = c.front_of-front.ensures.fields;
      bytes_are =
          c.fronted.ensures
          ∙ ap (λ (x : List ℕ). x ++ c.in_ok-clone-in-Some.field-0) c.front_of-front.ensures.front
          ∙ ap (λ (x : List ℕ). front p ++ x) (c.in_ok-clone-in-Some.ensures.cases ∙ c.in-Some.ensures.1)
          ∙ front_blocks p c.in-Some.ensures.0;
    }

pub returns-in-None-clause-spelled : goal.returns-in-None-clause-spelled
returns-in-None-clause-spelled c = record {
  fields = c.front_of-front.ensures.fields;
  bytes_are = c.of.ensures ∙ c.front_of-front.ensures.front ∙ front_whole c.args.packet.now c.in-None.ensures;
}
