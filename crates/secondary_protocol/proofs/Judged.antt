-- A frame is judged alike in the state and in the history.
use Rattle.std.proofs.Common.{ℕ, zero, suc, ◌≡◌, ◌-◌, ◌<◌, ◌≤◌, Bool, false, not, ◌&&◌, List, [], ◌∷◌, ◌++◌, length, map, drop, take, filter, Option}
use Rattle.std.proofs.Common.{Some, None, Ok, Err, refl, sym, ◌∙◌, ap, subst, arith, ◌==◌}
use Rattle.std.specs.Prelude.{filter_map, if◌then◌else◌}
use Rattle.std.specs.List.{list_any}
use Rattle.std.proofs.lemmas.List.{length-append}
use Rattle.blocks.specs.declared.settings.Settings.{Settings}
use Rattle.blocks.specs.declared.outcome.What.TheVariants as what
use Rattle.blocks.specs.declared.command.Command.TheVariants as command
use Rattle.model.specs.Stream.{StreamItem, has_blocks, is_in, is_whole, placed}
use Rattle.model.specs.Frames.{Packet, ProtocolFrame, UuidsFrame, SizesFrame}
use Rattle.model.specs.Frames.{Received}
use Rattle.model.specs.Secondary.{SecondaryConnection, SecondaryHistory, items_taken, is_pending, received_item}
use Rattle.model.specs.SecondarySteps.{Checked}
use Rattle.model.specs.SecondarySteps as step
use Rattle.laws.proofs.Rules.Hellos.{hello_by, checking-is, hello-alike}
use Rattle.laws.proofs.Secondary.Moves.{framed}
use Rattle.secondary_protocol.specs.Core.{EndState, SecondaryState, Judged, judging_hello}
use Rattle.secondary_protocol.specs.Leaves.{Leaves, LeavesLast, LeavesEnd, EndLeft, FailedLeft, intake_of, pending_in}
use Rattle.secondary_protocol.proofs.Counted.{same-count}

-- Both accept, under one name, and what they leave belongs together; or both refuse, for the same.
abbrev pub SameJudged : Judged → Checked → Type 0
SameJudged (Ok a) (Ok b) = (a.0 ≡ b.0) × Leaves a.1 b.1
SameJudged (Err r) (Err q) = r ≡ q
SameJudged (Ok a) (Err q) = ⊥
SameJudged (Err r) (Ok b) = ⊥

-- The hello.

-- a secondary's state takes it as whatever takes a hello
pub judging-is : (n : ℕ) (packet : Packet) (t : SecondaryState)
    → hello_by {R = Judged} (λ name. Ok (name, t)) (λ refusal. Err refusal) (λ peer. Ok (what.Frame command.Uuids None, t)) t.settings n packet
    ≡ judging_hello n packet t
judging-is zero (ProtocolFrame asked) t = refl
judging-is (suc zero) (SizesFrame blocks) t = refl
judging-is (suc (suc n)) (UuidsFrame peer) t = refl
judging-is n packet t = refl

-- a frame of the hello
pub hello-same : (n : ℕ) (packet : Packet) (t : SecondaryState) (h : SecondaryHistory) → Leaves t h
    → SameJudged (judging_hello n packet t) (step.checking_hello n packet h)
hello-same n packet t h left =
    subst (λ (x : Judged). SameJudged x (step.checking_hello n packet h)) (judging-is n packet t)
    (subst (SameJudged (judged t.settings)) (checking-is n packet h)
    (subst (λ (x : Settings). SameJudged (judged x) (checked h.settings)) (sym left.settings) (hello-alike SameJudged (λ name. Ok (name, t))
    (λ refusal. Err refusal) (λ peer. Ok (what.Frame command.Uuids None, t)) (λ name. Ok (name, h)) (λ refusal. Err refusal)
    (λ peer. Ok (what.Frame command.Uuids None, h)) h.settings n packet (λ of name. (refl, left)) (λ refusal. refl) (λ m peer late of. (refl, left)))))
  where
    judged : Settings → Judged
    judged settings = hello_by (λ name. Ok (name, t)) (λ refusal. Err refusal) (λ peer. Ok (what.Frame command.Uuids None, t)) settings n packet

    checked : Settings → Checked
    checked settings = hello_by (λ name. Ok (name, h)) (λ refusal. Err refusal) (λ peer. Ok (what.Frame command.Uuids None, h)) settings n packet

-- Before the hello is over no item was taken.
pub early-items : (frame : Received) (d : SecondaryConnection) → d.refused ≡ false → length d.taken < 3 → items_taken (framed frame d) ≡ items_taken d
early-items frame d plain early =
    let old : items_taken d ≡ [] = ap (λ b. filter_map received_item (drop 3 (if b then take (length d.taken - 1) d.taken else d.taken))) plain
    ∙ ap (filter_map received_item) (drop-past 3 d.taken (omega arith)) in
    let longer = length-append d.taken (frame ∷ []) in
    let new : items_taken (framed frame d) ≡ [] =
    ap (λ b. filter_map received_item (drop 3 (if b then take (length (d.taken ++ frame ∷ []) - 1) (d.taken ++ frame ∷ []) else (d.taken ++ frame ∷ []))))
    plain ∙ ap (filter_map received_item) (drop-past 3 (d.taken ++ frame ∷ []) (omega arith)) in
    new ∙ sym old
  where
    drop-past : {X : Type 0} (n : ℕ) (xs : List X) → length xs ≤ n → drop n xs ≡ []
    drop-past zero [] less = refl
    drop-past zero (x ∷ xs) less = absurd (omega arith)
    drop-past (suc n) [] less = refl
    drop-past (suc n) (x ∷ xs) less = drop-past n xs (omega arith)

-- what is left where the items stay
pub last-same : (size : ℕ) (s t : SecondaryState) (e : EndState) (d c : SecondaryConnection) → LeavesLast size s d → items_taken c ≡ items_taken d
    → c.applied ≡ d.applied
    → c.gone ≡ [] → d.gone ≡ [] → c.number ≡ d.number → LeavesEnd e c
    → t.number ≡ s.number → t.intake ≡ s.intake → t.pending ≡ s.pending → t.items_applied ≡ s.items_applied → t.failed ≡ None → t.end ≡ Some e
    → LeavesLast size t c
last-same size s t e d c left items applied none was_none number there is_number is_intake is_pending_same is_count is_failed is_end = record {
  number = is_number ∙ (left.number ∙ sym number);
  intake = is_intake ∙ (left.intake ∙ ap (intake_of size) (sym items));
  named = λ place offset inside. subst (λ (l : List StreamItem). place < length l) (sym items)
      (left.named place offset (ap (λ part. is_in part place offset) (sym applied) ∙ inside));
  pending =
      is_pending_same
      ∙ (left.pending
      ∙ (ap (λ (l : List StreamItem). map (pending_in l) (filter (is_pending d) (placed l))) (sym items)
      ∙ ap (λ (p : ℕ × StreamItem → Bool). map (pending_in (items_taken c)) (filter p (placed (items_taken c)))) (λ i entry. alike entry i)));
  applied = is_count ∙ (left.applied ∙ sym (same-count c d items applied (none ∙ sym was_none)));
  failed = subst (λ (v : Option ℕ). FailedLeft v c) (sym is_failed) none;
  end = subst (λ (v : Option EndState). EndLeft v c) (sym is_end) there;
}
  where
    alike : (entry : ℕ × StreamItem) → is_pending d entry ≡ is_pending c entry
    alike entry = λ i. (has_blocks entry.1 && not (is_whole (sym applied i) entry.0 entry.1))
        && not (list_any (λ place. place == entry.0) ((was_none ∙ sym none) i))
