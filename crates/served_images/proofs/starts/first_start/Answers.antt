use Rattle.std.proofs.Common.{inl, inr}
use Rattle.std.proofs.lemmas.Result.{IfOk-weaker}
use Rattle.served_images.proofs.starts.first_start.Goals as goal

pub returns-in-Unkept : goal.returns-in-Unkept
returns-in-Unkept g c = IfOk-weaker c.start_unkept.result _ _ (λ first is. inl is) c.start_unkept.ensures

pub returns-in-First : goal.returns-in-First
returns-in-First g c = IfOk-weaker c.start_kept.result _ _ (λ first is. inr (inl is)) c.start_kept.ensures

pub returns-in-Known : goal.returns-in-Known
returns-in-Known g c = IfOk-weaker c.start_known.result _ _ (λ first is. inr (inr is)) c.start_known.ensures
