-- Pushing the frames that are due.
use Rattle.std.proofs.Common.{ℕ, zero, suc, ◌≡◌, ◌+◌, ◌-◌, ◌<◌, inl, inr, true, false, List, [], ◌∷◌, ◌++◌, length, drop, Option, Some, None, Result, Ok}
use Rattle.std.proofs.Common.{Err, slice_get, refl, sym, ◌∙◌, ap, subst, arith, nat_lt, nat_le}
use Rattle.std.specs.Prelude.{is_none, ok_or, option_map, if◌then◌else◌}
use Rattle.std.proofs.lemmas.Bool.{lt-ltb, le-ltb, le-leb, lt-leb, cases_lt}
use Rattle.std.proofs.lemmas.List.{length-append}
use Rattle.std.proofs.lemmas.Option.{slice_get_within}
use Rattle.blocks.specs.declared.settings.Settings.{Settings}
use Rattle.blocks.specs.declared.refusal.Refusal.{Refusal}
use Rattle.blocks.specs.declared.refusal.Refusal.TheVariants.{NotConnected, NothingThere}
use Rattle.blocks.specs.declared.outcome.Reply.TheVariants as reply
use Rattle.blocks.specs.declared.outcome.What.{What}
use Rattle.blocks.specs.declared.outcome.What.TheVariants as what
use Rattle.blocks.specs.declared.outcome.Done.{Done}
use Rattle.model.specs.Frames.{Packet, command_of, hello_of}
use Rattle.model.specs.Refusals.{Test, done_with}
use Rattle.model.specs.Secondary.{SecondaryConnection, SecondaryHistory, secondary_connection, answers_due, with_secondary_connection}
use Rattle.model.specs.SecondarySteps as step
use Rattle.laws.proofs.Secondary.Moves.{pushed_one}
use Rattle.secondary_protocol.specs.Core.{EndState, SecondaryState, owed, due, sent, sent_tests, pushing, tested}
use Rattle.secondary_protocol.specs.Leaves.{Leaves, LeavesLast, LeavesEnd, EndLeft, FailedLeft}
use Rattle.secondary_protocol.specs.Steps.{PushesAgree, Agrees}
use Rattle.secondary_protocol.proofs.Ends.{pushing-goes-on, end-pushes}
use Rattle.secondary_protocol.proofs.Tested.{tested-agrees, secondary-connection-with, open-some}

-- What is owed.

get-drop : {X : Type 0} (n i : ℕ) (xs : List X) → slice_get (drop n xs) i ≡ slice_get xs (n + i)
get-drop zero i xs = let same : 0 + i ≡ i = omega arith in ap (slice_get xs) (sym same)
get-drop (suc n) i [] = refl
get-drop (suc n) i (x ∷ xs) = let on : suc (n + i) ≡ suc n + i = omega arith in get-drop n i xs ∙ ap (slice_get (x ∷ xs)) on

get-past : {X : Type 0} (xs ys : List X) (i : ℕ) → slice_get (xs ++ ys) (length xs + i) ≡ slice_get ys i
get-past [] ys i = let same : 0 + i ≡ i = omega arith in ap (slice_get ys) same
get-past (x ∷ xs) ys i = let on : suc (length xs) + i ≡ suc (length xs + i) = omega arith in ap (slice_get (x ∷ (xs ++ ys))) on ∙ get-past xs ys i

get-before : {X : Type 0} (xs ys : List X) (i : ℕ) → i < length xs → slice_get (xs ++ ys) i ≡ slice_get xs i
get-before [] ys i less = absurd (omega arith)
get-before (x ∷ xs) ys zero less = refl
get-before (x ∷ xs) ys (suc i) less = get-before xs ys i (omega arith)

-- the frame that an end owes is the next one of the history
pub owed-same : (settings : Settings) (e : EndState) (d : SecondaryConnection) → LeavesEnd e d → owed settings e ≡ slice_get (answers_due settings d) d.pushed
owed-same settings e d left = elim (cases_lt d.pushed 3) [
  | inl early ↦
      let goes_on : nat_lt e.hello_sent 3 ≡ true = pushing-goes-on e d left.hello_sent ∙ lt-ltb d.pushed 3 early in
      let said : e.hello_sent ≡ d.pushed = omega (arith, left.hello_sent) in
      ap (λ b. if b then slice_get (hello_of settings e.hello) e.hello_sent else slice_get e.due 0) goes_on
      ∙ (ap (slice_get (hello_of settings e.hello)) said
      ∙ (ap (λ t. slice_get (hello_of settings t) d.pushed) left.hello ∙ sym (get-before (hello_of settings d.hello) d.due d.pushed early)))
  | inr late ↦
      let over : nat_lt e.hello_sent 3 ≡ false = pushing-goes-on e d left.hello_sent ∙ le-ltb d.pushed 3 late in
      let index : (d.pushed - 3) + 0 ≡ d.pushed - 3 = omega arith in
      let all : 3 + (d.pushed - 3) ≡ d.pushed = omega arith in
      ap (λ b. if b then slice_get (hello_of settings e.hello) e.hello_sent else slice_get e.due 0) over
      ∙ (ap (λ (l : List Packet). slice_get l 0) left.due
      ∙ (get-drop (d.pushed - 3) 0 d.due
      ∙ (ap (slice_get d.due) index ∙ (sym (get-past (hello_of settings d.hello) d.due (d.pushed - 3)) ∙ ap (slice_get (answers_due settings d)) all))))
]

-- there is a frame exactly where not all were pushed
none-owed : {X : Type 0} (xs : List X) (n : ℕ) → is_none (slice_get xs n) ≡ nat_le (length xs) n
none-owed [] n = sym (le-leb 0 n (omega arith))
none-owed (x ∷ xs) zero = sym (lt-leb (length (x ∷ xs)) 0 (omega arith))
none-owed (x ∷ xs) (suc n) = none-owed xs n ∙ shift (length xs) n
  where
    shift : (a b : ℕ) → nat_le a b ≡ nat_le (suc a) (suc b)
    shift a b = elim (cases_lt b a) [
      | inl less ↦ lt-leb a b less ∙ sym (lt-leb (suc a) (suc b) (omega arith))
      | inr more ↦ le-leb a b more ∙ sym (le-leb (suc a) (suc b) (omega arith))
    ]

-- the frame that is due is the history's
pub due-same : (s : SecondaryState) (h : SecondaryHistory) (packet : Packet) → Leaves s h → due s ≡ Ok packet
    → slice_get (answers_due h.settings (secondary_connection h)) (secondary_connection h).pushed ≡ Some packet
due-same s h packet left is = go s.end left.last.end is
  where
    go : (v : Option EndState) → EndLeft v (secondary_connection h)
        → elim v as (λ _. Result Packet Refusal) [ None ↦ Err NotConnected | Some e ↦ ok_or (owed s.settings e) NothingThere ] ≡ Ok packet
        → slice_get (answers_due h.settings (secondary_connection h)) (secondary_connection h).pushed ≡ Some packet
    go None shut is = absurd (cc)
    go (Some e) there is = sym (owed-same h.settings e (secondary_connection h) there)
        ∙ (ap (λ (x : Settings). owed x e) (sym left.settings) ∙ some (owed s.settings e) is)
      where
        some : (v : Option Packet) → ok_or v NothingThere ≡ Ok packet → v ≡ Some packet
        some None is = absurd (cc)
        some (Some p) is = cc

-- what failed stays so as a frame is pushed
pushed-failed : (v : Option ℕ) (c : SecondaryConnection) → FailedLeft v c → FailedLeft v (pushed_one c)
pushed-failed None c left = left
pushed-failed (Some epoch) c left = record {
  place = left.place;
  item = left.item;
  at = left.at;
  has_blocks = left.has_blocks;
  gone = left.gone;
  epoch_is = left.epoch_is;
  later = left.later;
  waiting = left.waiting;
  closed = left.closed;
}

-- it pushes a frame
pub pushes-agree : PushesAgree
pushes-agree room out_of_memory s h left = go s.end refl left.last.end
  where
    d : SecondaryConnection
    d = secondary_connection h

    -- the step where the frame that is due is this
    with : (e : EndState) → s.end ≡ Some e → LeavesEnd e (secondary_connection h) → (v : Option Packet)
        → slice_get (answers_due h.settings (secondary_connection h)) (secondary_connection h).pushed ≡ v
        → Agrees (λ done. done) (elim (ok_or v NothingThere) as (λ _. Result Done Refusal × SecondaryState) [
          | Err refusal ↦ (Err refusal, s)
          | Ok packet ↦ tested s (sent_tests room out_of_memory) (λ _. (Ok (done_with (what.Frame (command_of packet) None)), sent s))
        ]) (step.ack_out room out_of_memory h)
    with e is there None none =
        let all : nat_le (length (answers_due h.settings (secondary_connection h))) (secondary_connection h).pushed ≡ true =
        sym (none-owed (answers_due h.settings (secondary_connection h)) (secondary_connection h).pushed) ∙ ap is_none none in
        rw (there.is_open, all) (record { reply = refl; leaves = left })
    with e is there (Some packet) some =
        let more : nat_le (length (answers_due h.settings (secondary_connection h))) (secondary_connection h).pushed ≡ false =
        sym (none-owed (answers_due h.settings (secondary_connection h)) (secondary_connection h).pushed) ∙ ap is_none some in
        let within = slice_get_within (answers_due h.settings (secondary_connection h)) (secondary_connection h).pushed packet some in
        let size = length-append (hello_of h.settings (secondary_connection h).hello) (secondary_connection h).due in
        let name : step.answering_with h ≡ what.Frame (command_of packet) None =
        ap (λ (v : Option Packet). elim v as (λ _. What) [ None ↦ what.Nothing | Some p ↦ what.Frame (command_of p) None ]) some in
        let same : step.ack_out_tests h room out_of_memory ≡ (false, NotConnected) ∷ (false, NothingThere) ∷ sent_tests room out_of_memory =
        λ i. (there.is_open i, NotConnected) ∷ (more i, NothingThere) ∷ sent_tests room out_of_memory in
        subst (λ (ts : List Test). Agrees (λ done. done)
        (tested s (sent_tests room out_of_memory) (λ _. (Ok (done_with (what.Frame (command_of packet) None)), sent s)))
        (step.tested_secondary h ts (λ _. (reply.Ok (done_with (step.answering_with h)), with_secondary_connection pushed_one h)))) (sym same)
        (tested-agrees (λ done. done) s h (sent_tests room out_of_memory) (sent_tests room out_of_memory)
        (λ _. (Ok (done_with (what.Frame (command_of packet) None)), sent s))
        (λ _. (reply.Ok (done_with (step.answering_with h)), with_secondary_connection pushed_one h))
        refl left (λ pass. record {
          reply = ap (λ n. reply.Ok (done_with n)) (sym name);
          leaves = record {
            settings = left.settings;
            tuple = left.tuple;
            consistent = left.consistent;
            last = subst (LeavesLast h.settings.blocks (sent s)) (sym (secondary-connection-with pushed_one h (open-some h there.is_open))) (record {
              number = left.last.number;
              intake = left.last.intake;
              named = left.last.named;
              pending = left.last.pending;
              applied = left.last.applied;
              failed = pushed-failed s.failed (secondary_connection h) left.last.failed;
              end = subst (λ (v : Option EndState). EndLeft (option_map pushing v) (pushed_one (secondary_connection h))) (sym is)
                  (end-pushes e (secondary_connection h) there (omega arith));
            });
          };
        }))

    go : (v : Option EndState) → s.end ≡ v → EndLeft v (secondary_connection h)
        → Agrees (λ done. done) (elim (elim v as (λ _. Result Packet Refusal) [ None ↦ Err NotConnected | Some e ↦ ok_or (owed s.settings e) NothingThere ]) as
        (λ _. Result Done Refusal × SecondaryState) [
          | Err refusal ↦ (Err refusal, s)
          | Ok packet ↦ tested s (sent_tests room out_of_memory) (λ _. (Ok (done_with (what.Frame (command_of packet) None)), sent s))
        ]) (step.ack_out room out_of_memory h)
    go None is shut = rw shut (record { reply = refl; leaves = left })
    go (Some e) is there =
        let same : owed s.settings e ≡ slice_get (answers_due h.settings (secondary_connection h)) (secondary_connection h).pushed =
        ap (λ (x : Settings). owed x e) left.settings
        ∙ owed-same h.settings e (secondary_connection h) there in
        subst (λ (v : Option Packet). Agrees (λ done. done) (elim (ok_or v NothingThere) as (λ _. Result Done Refusal × SecondaryState) [
          | Err refusal ↦ (Err refusal, s)
          | Ok packet ↦ tested s (sent_tests room out_of_memory) (λ _. (Ok (done_with (what.Frame (command_of packet) None)), sent s))
        ]) (step.ack_out room out_of_memory h)) (sym same)
        (with e is there (slice_get (answers_due h.settings (secondary_connection h)) (secondary_connection h).pushed) refl)
