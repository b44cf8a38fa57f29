use Rattle.std.proofs.Common.{◌≡◌, ◌||◌, inl, Bool, true, false, refl}
use Rattle.blocks.specs.declared.refusal.Refusal.{Refusal}
use Rattle.model.specs.CallRefusals.{hello_refuses, local_open_refuses, start_refuses}
use Rattle.volume.proofs.kept_session.KeptSession.start.Goals as goal

-- what the hello may refuse, the start may refuse
of-hello : (e : Refusal) → hello_refuses e ≡ true → start_refuses e ≡ true
of-hello e = go (local_open_refuses e) (hello_refuses e)
  where
    go : (a b : Bool) → b ≡ true → (a || b) ≡ true
    go true b is = refl
    go false b is = is

pub returns-in-Err : goal.returns-in-Err
returns-in-Err g c = record { refused = inl (of-hello c.in-Err.refusal c.in-Err.ensures.refused) }
