-- What a call refuses is what its step of the model refuses.
use Rattle.std.proofs.Common.{◌≡◌, Result, Ok, Err, sym}
use Rattle.std.specs.Prelude.{IfErr}
use Rattle.blocks.specs.declared.refusal.Refusal.{Refusal}
use Rattle.blocks.specs.declared.outcome.Reply.{Reply}
use Rattle.blocks.specs.declared.outcome.Done.{Done}
use Rattle.blocks.specs.declared.outcome.Reply.TheVariants as reply
use Rattle.secondary_protocol.specs.Steps.{replied}

pub if-refused : {R : Type 0} (P : Refusal → Type 0) (as_done : R → Done) (result : Result R Refusal) (one : Reply) → replied as_done result ≡ one
    → ((e : Refusal) → one ≡ reply.Refused e → P e) → IfErr result P
if-refused P as_done (Ok done) one is all = tt
if-refused P as_done (Err e) one is all = all e (sym is)
