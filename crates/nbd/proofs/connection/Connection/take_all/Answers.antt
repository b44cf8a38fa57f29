-- A portion and what comes after it are what was left.
use Rattle.std.proofs.Common.{◌≡◌, List, ℕ, ◌++◌, take, drop, ap, sym, ◌∙◌}
use Rattle.std.proofs.lemmas.Bool.{eqb-true}
use Rattle.std.proofs.lemmas.List.{take-append-drop}
use Rattle.nbd.specs.Machine.{fed}
use Rattle.nbd.proofs.Feeding.{continues_on, continues_end, begins_more}
use Rattle.nbd.proofs.connection.Connection.take_all.Goals as goal

-- the two parts of a list
parts : (n : ℕ) (rest now later : List ℕ) → now ≡ take n rest → later ≡ drop n rest → rest ≡ now ++ later
parts n rest now later front back =
    sym (ap (λ (x : List ℕ). x ++ later) front ∙ ap (λ (x : List ℕ). take n rest ++ x) back ∙ take-append-drop n rest)

pub loop-rest-preserved : goal.loop-rest-preserved
loop-rest-preserved c =
    let adds = c.in_ok-take.ensures.adds in
    record {
      number = c.take.ensures.number ∙ c.loop-rest.invariant.number;
      own = c.take.ensures.own ∙ c.loop-rest.invariant.own;
      continues = continues_on (fed c.args.self.now c.args.piece.now) c.loop-rest.self c.take.new.self c.split_at.result.0.now c.split_at.result.1.now
          c.loop-rest.rest.now
          c.args.out.now.bytes c.loop-rest.out.bytes c.take.new.out.bytes c.args.out.now.requests c.loop-rest.out.requests
          c.take.new.out.requests
          (parts c.portion.result c.loop-rest.rest.now c.split_at.result.0.now c.split_at.result.1.now c.split_at.ensures.front c.split_at.ensures.back)
          c.loop-rest.invariant.continues adds;
      begins = begins_more _ _ _ _ c.loop-rest.invariant.begins adds.sent;
      begins_given = begins_more _ _ _ _ c.loop-rest.invariant.begins_given adds.given;
    }

pub returns-clause-adds : goal.returns-clause-adds
returns-clause-adds c =
    continues_end (fed c.args.self.now c.args.piece.now) c.loop-rest.self c.loop-rest.rest.now c.args.out.now.bytes c.loop-rest.out.bytes
    c.args.out.now.requests c.loop-rest.out.requests (eqb-true _ _ (sym c.is_empty.ensures ∙ c.loop-rest-test.false))
    c.loop-rest.invariant.continues
