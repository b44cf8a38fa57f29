-- An open end as it takes, owes and pushes frames.
use Rattle.std.proofs.Common.{ℕ, zero, suc, ◌≡◌, ◌+◌, ◌-◌, ◌<◌, ◌≤◌, inl, inr, true, false, List, [], ◌∷◌, ◌++◌, length, map, drop, refl, sym, ◌∙◌}
use Rattle.std.proofs.Common.{ap, subst, arith, nat_lt, min}
use Rattle.std.specs.Prelude.{if◌then◌else◌}
use Rattle.std.proofs.lemmas.Bool.{lt-ltb, le-ltb, cases_lt}
use Rattle.std.proofs.lemmas.List.{map-append, length-append, drop-append-le}
use Rattle.model.specs.Stream.{StreamItem, Part, BarrierItem, barriers_in, epoch_size, last_epoch}
use Rattle.model.specs.Frames.{Packet, Received}
use Rattle.model.specs.Secondary.{SecondaryConnection, items_taken}
use Rattle.laws.proofs.Rules.BarrierAnswers.{AnswerNone, answered-still}
use Rattle.laws.proofs.Secondary.Fits.{size-stays}
use Rattle.laws.proofs.Secondary.Moves.{framed, pushed_one}
use Rattle.laws.proofs.Streams.Places.{barriers-append}
use Rattle.laws.proofs.Streams.Lawful.{size-grow}
use Rattle.secondary_protocol.specs.Core.{EndState, hearing, pushing, owing}
use Rattle.secondary_protocol.specs.Leaves.{LeavesEnd, numbers_after}
use Rattle.secondary_protocol.proofs.Answering.{numbers-end}

-- Frames of the hello are counted up to the third.

counted : (n : ℕ) → (if nat_lt (min n 3) 3 then suc (min n 3) else min n 3) ≡ min (n + 1) 3
counted n = elim (cases_lt n 3) [
  | inl early ↦ let is : min n 3 ≡ n = omega arith in rw (is, lt-ltb n 3 early) (omega arith)
  | inr late ↦ let is : min n 3 ≡ 3 = omega arith in ap (λ m. if nat_lt m 3 then suc m else m) is ∙ omega arith
]

-- one frame more was taken
pub heard-more : (e : EndState) (d : SecondaryConnection) (frame : Received) → e.hello_received ≡ min (length d.taken) 3
    → (hearing e).hello_received ≡ min (length (d.taken ++ frame ∷ [])) 3
heard-more e d frame is = ap (λ m. if nat_lt m 3 then suc m else m) is
    ∙ (counted (length d.taken) ∙ ap (λ m. min m 3) (sym (length-append d.taken (frame ∷ []))))

-- the hello goes on, or is over
pub hello-goes-on : (e : EndState) (d : SecondaryConnection) → e.hello_received ≡ min (length d.taken) 3 → nat_lt e.hello_received 3 ≡ nat_lt (length d.taken) 3
hello-goes-on e d is = ap (λ m. nat_lt m 3) is ∙ elim (cases_lt (length d.taken) 3) [
  | inl early ↦ ap (λ m. nat_lt m 3) (omega arith)
  | inr late ↦ let is_three : min (length d.taken) 3 ≡ 3 = omega arith in ap (λ m. nat_lt m 3) is_three ∙ sym (le-ltb (length d.taken) 3 late)
]

-- A frame is taken.

-- sizes of epochs that are over stay
sizes-stay : (items more : List StreamItem) (n k : ℕ) → n + k ≤ barriers_in items
    → map (epoch_size (items ++ more)) (numbers_after n k) ≡ map (epoch_size items) (numbers_after n k)
sizes-stay items more n zero upto = refl
sizes-stay items more n (suc k) upto = λ i. size-stays items more (suc n) (omega arith) i ∷ sizes-stay items more (suc n) k (omega arith) i

-- A frame that brings no barrier is taken, and these acknowledgements become due, of which none is an epoch's.
pub end-takes : (e : EndState) (d : SecondaryConnection) (frame : Received) (more : List StreamItem) (packets due_e due_d : List Packet) → LeavesEnd e d
    → items_taken (framed frame d) ≡ items_taken d ++ more → barriers_in more ≡ 0
    → due_e ≡ e.due ++ packets → due_d ≡ d.due ++ packets → AnswerNone packets
    → LeavesEnd (record (hearing e) { due = due_e }) (record (framed frame d) { due = due_d })
end-takes e d frame more packets due_e due_d left items none is_e is_d other =
    let all : barriers_in (items_taken (framed frame d)) ≡ barriers_in (items_taken d) = ap barriers_in items
    ∙ (barriers-append (items_taken d) more ∙ omega arith) in
    let longer : length due_d ≡ length d.due + length packets = ap length is_d ∙ length-append d.due packets in
    let owed = left.owed in
    let within = left.within in
    record {
      is_open = left.is_open;
      plain = left.plain;
      hello = left.hello;
      hello_received = heard-more e d frame left.hello_received;
      hello_sent = left.hello_sent;
      owed = omega arith;
      due = is_e ∙ (ap (λ (l : List Packet). l ++ packets) left.due
          ∙ (sym (drop-append-le (d.pushed - 3) d.due packets left.owed) ∙ ap (drop (d.pushed - 3)) (sym is_d)));
      answered = λ epoch from. answered-still d.due packets due_d is_d other epoch ∙ left.answered epoch from;
      within = omega arith;
      sizes =
          left.sizes
          ∙ (sym (sizes-stay (items_taken d) more e.answered (barriers_in (items_taken d) - e.answered) (omega arith))
          ∙ (ap (λ (l : List StreamItem). map (epoch_size l) (numbers_after e.answered (barriers_in (items_taken d) - e.answered))) (sym items)
          ∙ ap (λ n. map (epoch_size (items_taken (framed frame d))) (numbers_after e.answered (n - e.answered))) (sym all)));
    }

-- a barrier leaves the size of the epoch that it ends
last-size : (items : List StreamItem) (number : ℕ) → epoch_size (items ++ BarrierItem number ∷ []) (last_epoch items) ≡ epoch_size items (last_epoch items)
last-size items number = elim (size-grow items (BarrierItem number) (last_epoch items))
    [ inl same ↦ same | inr grew ↦ absurd (let no_write : false ≡ true = grew.0 in cc) ]

-- A barrier is taken: the epoch that it ends waits to be acknowledged.
pub end-barrier : (e : EndState) (d : SecondaryConnection) (frame : Received) (number : ℕ) → LeavesEnd e d
    → items_taken (framed frame d) ≡ items_taken d ++ BarrierItem number ∷ []
    → LeavesEnd (record (hearing e) { sizes = e.sizes ++ epoch_size (items_taken d) (last_epoch (items_taken d)) ∷ [] }) (framed frame d)
end-barrier e d frame number left items =
    let old : List StreamItem = items_taken d in
    let k : ℕ = barriers_in (items_taken d) - e.answered in
    let within = left.within in
    let all : barriers_in (items_taken (framed frame d)) ≡ suc (barriers_in (items_taken d)) = ap barriers_in items
    ∙ (barriers-append (items_taken d) (BarrierItem number ∷ []) ∙ omega arith) in
    let count : barriers_in (items_taken (framed frame d)) - e.answered ≡ suc k = omega arith in
    let last : suc (e.answered + k) ≡ last_epoch old = omega arith in
    record {
      is_open = left.is_open;
      plain = left.plain;
      hello = left.hello;
      hello_received = heard-more e d frame left.hello_received;
      hello_sent = left.hello_sent;
      owed = left.owed;
      due = left.due;
      answered = left.answered;
      within = omega arith;
      sizes =
          ap (λ (l : List ℕ). l ++ epoch_size old (last_epoch old) ∷ []) (left.sizes
          ∙ sym (sizes-stay old (BarrierItem number ∷ []) e.answered k (omega arith)))
          ∙ (ap (λ (n : ℕ). map (epoch_size (old ++ BarrierItem number ∷ [])) (numbers_after e.answered k) ++ n ∷ []) (sym (last-size old number)
          ∙ ap (epoch_size (old ++ BarrierItem number ∷ [])) (sym last))
          ∙ (sym (map-append (epoch_size (old ++ BarrierItem number ∷ [])) (numbers_after e.answered k) (suc (e.answered + k) ∷ []))
          ∙ (ap (map (epoch_size (old ++ BarrierItem number ∷ []))) (sym (numbers-end e.answered k))
          ∙ (ap (λ (l : List StreamItem). map (epoch_size l) (numbers_after e.answered (suc k))) (sym items)
          ∙ ap (λ n. map (epoch_size (items_taken (framed frame d))) (numbers_after e.answered n)) (sym count)))));
    }

-- A frame is pushed.

drop-drop : {X : Type 0} (n : ℕ) (xs : List X) → drop 1 (drop n xs) ≡ drop (suc n) xs
drop-drop zero xs = refl
drop-drop (suc n) [] = refl
drop-drop (suc n) (x ∷ xs) = drop-drop n xs

-- the hello is pushed, or goes on to be
pub pushing-goes-on : (e : EndState) (d : SecondaryConnection) → e.hello_sent ≡ min d.pushed 3 → nat_lt e.hello_sent 3 ≡ nat_lt d.pushed 3
pushing-goes-on e d is = ap (λ m. nat_lt m 3) is ∙ elim (cases_lt d.pushed 3) [
  | inl early ↦ ap (λ m. nat_lt m 3) (omega arith)
  | inr late ↦ let is_three : min d.pushed 3 ≡ 3 = omega arith in ap (λ m. nat_lt m 3) is_three ∙ sym (le-ltb d.pushed 3 late)
]

-- one frame more was pushed of those that were due
pub end-pushes : (e : EndState) (d : SecondaryConnection) → LeavesEnd e d → d.pushed < 3 + length d.due → LeavesEnd (pushing e) (pushed_one d)
end-pushes e d left more = elim (cases_lt d.pushed 3) [
  | inl early ↦
      let goes_on : nat_lt e.hello_sent 3 ≡ true = pushing-goes-on e d left.hello_sent ∙ lt-ltb d.pushed 3 early in
      let said = left.hello_sent in
      let none : d.pushed - 3 ≡ suc d.pushed - 3 = omega arith in
      subst (λ (x : EndState). LeavesEnd x (pushed_one d))
      (sym (ap (λ b. if b then record e { hello_sent = suc e.hello_sent } else record e { due = drop 1 e.due }) goes_on)) (record {
        is_open = left.is_open;
        plain = left.plain;
        hello = left.hello;
        hello_received = left.hello_received;
        hello_sent = omega arith;
        owed = omega arith;
        due = left.due ∙ ap (λ n. drop n d.due) none;
        answered = left.answered;
        within = left.within;
        sizes = left.sizes;
      })
  | inr late ↦
      let over : nat_lt e.hello_sent 3 ≡ false = pushing-goes-on e d left.hello_sent ∙ le-ltb d.pushed 3 late in
      let said = left.hello_sent in
      let next : suc (d.pushed - 3) ≡ suc d.pushed - 3 = omega arith in
      subst (λ (x : EndState). LeavesEnd x (pushed_one d)) (sym (ap (λ b. if b then record e { hello_sent = suc e.hello_sent } else record e { due = drop 1 e.due }) over))
      (record {
        is_open = left.is_open;
        plain = left.plain;
        hello = left.hello;
        hello_received = left.hello_received;
        hello_sent = omega arith;
        owed = omega arith;
        due = ap (drop 1) left.due ∙ (drop-drop (d.pushed - 3) d.due ∙ ap (λ n. drop n d.due) next);
        answered = left.answered;
        within = left.within;
        sizes = left.sizes;
      })
]

-- These acknowledgements become due, of which none is an epoch's; what is applied does not matter to the end.
pub end-owes : (e : EndState) (d : SecondaryConnection) (packets : List Packet) (part : Part) → LeavesEnd e d
    → AnswerNone packets → LeavesEnd (owing packets e) (record d { applied = part; due = d.due ++ packets })
end-owes e d packets part left other =
    let longer = length-append d.due packets in
    let owed = left.owed in
    record {
      is_open = left.is_open;
      plain = left.plain;
      hello = left.hello;
      hello_received = left.hello_received;
      hello_sent = left.hello_sent;
      owed = omega arith;
      due = ap (λ (l : List Packet). l ++ packets) left.due ∙ sym (drop-append-le (d.pushed - 3) d.due packets left.owed);
      answered = λ epoch from. answered-still d.due packets (d.due ++ packets) refl other epoch ∙ left.answered epoch from;
      within = left.within;
      sizes = left.sizes;
    }
