-- The packet that is due stays so while frames are taken and items applied.
use Rattle.std.proofs.Common.{ℕ, zero, suc, ◌≡◌, true, false, List, [], ◌∷◌, ◌++◌, Option, Some, None, Result, Ok, Err, slice_get, refl, sym, ◌∙◌, ap}
use Rattle.std.specs.Prelude.{is_some, is_none, ok_or}
use Rattle.std.proofs.lemmas.List.{append_assoc}
use Rattle.blocks.specs.declared.settings.Settings.{Settings}
use Rattle.blocks.specs.declared.tuple.Tuple.{Tuple}
use Rattle.blocks.specs.declared.refusal.Refusal.{Refusal}
use Rattle.blocks.specs.declared.refusal.Refusal.TheVariants.{NotConnected, NothingThere}
use Rattle.model.specs.Frames.{Packet, hello_of}
use Rattle.model.specs.Secondary.{SecondaryHistory, secondary_connection, answers_due}
use Rattle.secondary_protocol.specs.Core.{EndState, SecondaryState, owed, due, tested, close_end}
use Rattle.secondary_protocol.specs.Leaves.{Leaves, EndLeft}
use Rattle.secondary_protocol.proofs.Node.Grows.{Grows}
use Rattle.secondary_protocol.proofs.Steps.Pushes.{due-same, owed-same}

get-front : {X : Type 0} (xs ys : List X) (n : ℕ) (x : X) → slice_get xs n ≡ Some x → slice_get (xs ++ ys) n ≡ Some x
get-front [] ys n x at = absurd (cc)
get-front (y ∷ xs) ys zero x at = at
get-front (y ∷ xs) ys (suc n) x at = get-front xs ys n x at

-- what was due is due, where what the end owes only grew
pub still-due : (s t : SecondaryState) (h later : SecondaryHistory) (packet : Packet) → Leaves s h → Leaves t later → later.settings ≡ h.settings
    → Grows (secondary_connection h) (secondary_connection later)
    → due s ≡ Ok packet → is_some t.end ≡ true → due t ≡ Ok packet
still-due s t h later packet left after same g is is_established = go t.end after.last.end is_established
  where
    grown : answers_due later.settings (secondary_connection later) ≡ answers_due h.settings (secondary_connection h) ++ g.more
    grown = ap (λ (x : Settings). hello_of x (secondary_connection later).hello ++ (secondary_connection later).due) same
        ∙ (ap (λ (x : Tuple). hello_of h.settings x ++ (secondary_connection later).due) g.hello
        ∙ (ap (λ (l : List Packet). hello_of h.settings (secondary_connection h).hello ++ l) g.due
        ∙ sym (append_assoc (hello_of h.settings (secondary_connection h).hello) (secondary_connection h).due g.more)))

    front : slice_get (answers_due later.settings (secondary_connection later)) (secondary_connection later).pushed ≡ Some packet
    front = ap (λ n. slice_get (answers_due later.settings (secondary_connection later)) n) g.pushed
        ∙ (ap (λ (l : List Packet). slice_get l (secondary_connection h).pushed) grown
        ∙ get-front (answers_due h.settings (secondary_connection h)) g.more (secondary_connection h).pushed packet (due-same s h packet left is))

    go : (v : Option EndState) → EndLeft v (secondary_connection later) → is_some v ≡ true
        → elim v as (λ _. Result Packet Refusal) [ None ↦ Err NotConnected | Some e ↦ ok_or (owed t.settings e) NothingThere ] ≡ Ok packet
    go None there none = absurd (cc)
    go (Some e) there some = ap (λ (v : Option Packet). ok_or v NothingThere) (ap (λ (x : Settings). owed x e) after.settings
        ∙ (owed-same later.settings e (secondary_connection later) there ∙ front))

-- a closed end after a close
pub closes-end : (s : SecondaryState) (result : Result (Unit {0}) Refusal) (t : SecondaryState) → (result, t) ≡ close_end s → is_some t.end ≡ false
closes-end s result t is = ap (λ (p : Result (Unit {0}) Refusal × SecondaryState). is_some p.1.end) is ∙ go s.end refl
  where
    go : (v : Option EndState) → s.end ≡ v
        → is_some (tested {R = Unit {0}} s ((is_none v, NotConnected) ∷ []) (λ _. (Ok tt, record s { end = None }))).1.end ≡ false
    go None at = ap is_some at
    go (Some e) at = refl
