use Rattle.std.proofs.Common.{◌≡◌, ◌||◌, Bool, true, false, refl, rules, sym, ap}
use Rattle.std.proofs.lemmas.Option.{IfSome_then}
use Rattle.model.specs.Theorems.{primary_at, secondary_at}
use Rattle.blocks.specs.declared.refusal.Refusal.{Refusal}
use Rattle.model.specs.CallRefusals.{local_open_refuses, start_over_refuses, streams_hello_refuses}
use Rattle.stream_session.proofs.session.StreamSession.start_over.Goals as goal

pub open_primary-requires-clause-began : goal.open_primary-requires-clause-began
open_primary-requires-clause-began g c = IfSome_then g.B.Beginning.opening c.requires.opening (λ opening is. sym (ap primary_at is))

pub open_secondary-requires-clause-began : goal.open_secondary-requires-clause-began
open_secondary-requires-clause-began g c = IfSome_then g.B.Beginning.opening c.requires.opening (λ opening is. sym (ap secondary_at is))

-- what the hello may refuse, the start may refuse
of-hello : (e : Refusal) → streams_hello_refuses e ≡ true → start_over_refuses e ≡ true
of-hello e = go (local_open_refuses e) (streams_hello_refuses e)
  where
    go : (a b : Bool) → b ≡ true → (a || b) ≡ true
    go true b is = refl
    go false b is = is

pub returns-in-Err-run_over : goal.returns-in-Err-run_over
returns-in-Err-run_over g c = record { refused = of-hello c.in-Err-run_over.refusal c.in-Err-run_over.ensures.refused }

pub run_over-requires-send-F : goal.run_over-requires-send-F
run_over-requires-send-F g c κs within = search rules

pub run_over-requires-send-G : goal.run_over-requires-send-G
run_over-requires-send-G g c κs within = search rules
