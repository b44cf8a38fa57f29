-- A connection keeps its number until the next one opens.
use Rattle.std.proofs.Common.{ℕ, ◌≡◌, Bool, true, false, [], ◌∷◌, Option, Some, None, Result, Ok, Err, refl, ◌∙◌, ap, subst, nat_lt}
use Rattle.std.specs.Prelude.{is_none, if◌then◌else◌}
use Rattle.blocks.specs.declared.refusal.Refusal.{Refusal}
use Rattle.blocks.specs.declared.refusal.Refusal.TheVariants.{NotConnected}
use Rattle.blocks.specs.declared.outcome.Done.{Done}
use Rattle.blocks.specs.declared.outcome.What.{What}
use Rattle.blocks.specs.declared.outcome.What.TheVariants as what
use Rattle.blocks.specs.declared.command.Command.TheVariants as command
use Rattle.model.specs.Frames.{Packet, DataFrame, RsDataReplyFrame, BarrierFrame, UuidsFrame, SyncUuidFrame, Received}
use Rattle.laws.proofs.Rules.Hellos.{hello-has}
use Rattle.secondary_protocol.specs.Core.{EndState, SecondaryState, Judged, judged_if, judging_hello, judging_item, judging, hearing, taking, take_at}
use Rattle.secondary_protocol.specs.Core.{close_end}
use Rattle.secondary_protocol.specs.Core.{tested}
use Rattle.secondary_protocol.proofs.Judged.{judging-is}

-- what is judged keeps the number
abbrev Keeps : ℕ → Judged → Type 0
Keeps n (Ok done) = done.1.number ≡ n
Keeps n (Err refusal) = Unit {0}

keeps-if : (n : ℕ) (good : Bool) (name : What) (s : SecondaryState) → s.number ≡ n → Keeps n (judged_if good name s)
keeps-if n true name s is = is
keeps-if n false name s is = tt

keeps-hello : (heard : ℕ) (packet : Packet) (s : SecondaryState) → Keeps s.number (judging_hello heard packet s)
keeps-hello heard packet s = subst (Keeps s.number) (judging-is heard packet s)
    (hello-has (Keeps s.number) (λ name. Ok (name, s)) (λ refusal. Err refusal) (λ peer. Ok (what.Frame command.Uuids None, s)) s.settings heard packet
    (λ asked none of same. refl) (λ one of. refl) (λ m peer late of. refl) tt tt tt)

keeps-item : (packet : Packet) (e : EndState) (s : SecondaryState) → Keeps s.number (judging_item packet e s)
keeps-item (DataFrame write at) e s = keeps-if s.number _ _ _ refl
keeps-item (RsDataReplyFrame block contents at) e s = keeps-if s.number _ _ _ refl
keeps-item (BarrierFrame number) e s = keeps-if s.number _ _ _ refl
keeps-item (SyncUuidFrame word) e s = keeps-if s.number _ _ _ refl
keeps-item (UuidsFrame tuple) e s = keeps-if s.number _ _ _ refl
keeps-item packet e s = tt

keeps : (frame : Received) (e : EndState) (s : SecondaryState) → Keeps s.number (judging frame e s)
keeps (Err fault) e s = tt
keeps (Ok packet) e s = go (nat_lt e.hello_received 3)
  where
    go : (early : Bool) → Keeps s.number (if early then judging_hello e.hello_received packet (record s { end = Some (hearing e) })
        else judging_item packet (hearing e) (record s { end = Some (hearing e) }))
    go true = keeps-hello e.hello_received packet (record s { end = Some (hearing e) })
    go false = keeps-item packet (hearing e) (record s { end = Some (hearing e) })

-- A frame that is taken leaves it.
pub takes-number : (frame : Received) (v : Option EndState) (s : SecondaryState) (result : Result Done Refusal) (t : SecondaryState)
    → (result, t) ≡ take_at frame v s → t.number ≡ s.number
takes-number frame v s result t is = ap (λ (p : Result Done Refusal × SecondaryState). p.1.number) is ∙ go v
  where
    judged : (j : Judged) → Keeps s.number j → (taking j s).1.number ≡ s.number
    judged (Ok done) same = same
    judged (Err refusal) same = refl

    go : (v : Option EndState) → (take_at frame v s).1.number ≡ s.number
    go None = refl
    go (Some e) = judged (judging frame e s) (keeps frame e s)

-- So does a close.
pub closes-number : (s : SecondaryState) (result : Result (Unit {0}) Refusal) (t : SecondaryState) → (result, t) ≡ close_end s → t.number ≡ s.number
closes-number s result t is = ap (λ (p : Result (Unit {0}) Refusal × SecondaryState). p.1.number) is ∙ go s.end
  where
    go : (v : Option EndState) → (tested {R = Unit {0}} s ((is_none v, NotConnected) ∷ []) (λ _. (Ok tt, record s { end = None }))).1.number ≡ s.number
    go None = refl
    go (Some e) = refl
