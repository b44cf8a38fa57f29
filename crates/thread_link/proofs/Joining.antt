-- On each connection the frames taken begin the frames sent.
use Rattle.std.proofs.Common.{◌≡◌, ◌≢◌, ℕ, Bool, cond, List, [], ◌++◌, sym, ap, ◌∙◌, subst, append_assoc, inl, inr}
use Rattle.std.proofs.lemmas.Bool.{cases_eq}
use Rattle.link.specs.Past.{Past}
use Rattle.thread_link.specs.Pieces.{PieceState, bytes_on}
use Rattle.thread_link.specs.Carried.{joined, IsCarried, frames_on, past_on}
use Rattle.thread_link.specs.Outward.{OutwardState, Sends}
use Rattle.thread_link.specs.Inward.{InwardState, Takes, in_hand}
use Rattle.thread_link.specs.Joined.{IsJoined, at_present, sent_on, taken_on}
use Rattle.thread_link.proofs.Carrying.{bytes_append, frames_begin, nothing_begun, same_number, other_number}

present_is : (n number : ℕ) (frames : List (List ℕ)) (past : List Past) → n ≡ number → frames_on n (at_present number frames) past ≡ frames
present_is n number frames past e = ap (λ (b : Bool). cond b frames (past_on n past)) (same_number number n (sym e))

past_is : (n number : ℕ) (frames : List (List ℕ)) (past : List Past) → n ≢ number → frames_on n (at_present number frames) past ≡ past_on n past
past_is n number frames past e = ap (λ (b : Bool). cond b frames (past_on n past)) (other_number number n (λ same. e (sym same)))

-- what was sent on any connection
all_sent : (s : OutwardState) (n : ℕ) → Sends s → IsCarried (bytes_on n s.pieces) (sent_on n s) []
all_sent s n h = elim (cases_eq n s.number) [
  | inl same ↦ subst (λ (x : List (List ℕ)). IsCarried (bytes_on n s.pieces) x []) (sym (present_is n s.number s.sent s.past same))
      (subst (λ (m : ℕ). IsCarried (bytes_on m s.pieces) s.sent []) (sym same) h.present)
  | inr other ↦ subst (λ (x : List (List ℕ)). IsCarried (bytes_on n s.pieces) x []) (sym (past_is n s.number s.sent s.past other)) (h.before n other)
]

-- what was taken on any connection
all_taken : (s : InwardState) (n : ℕ) → Takes s → (rest : List ℕ) × IsCarried (bytes_on n s.pieces) (taken_on n s) rest
all_taken s n h = elim (cases_eq n s.number) [
  | inl same ↦ (
    in_hand s,
    subst (λ (x : List (List ℕ)). IsCarried (bytes_on n s.pieces) x (in_hand s)) (sym (present_is n s.number s.taken s.past same))
        (subst (λ (m : ℕ). IsCarried (bytes_on m s.pieces) s.taken (in_hand s)) (sym same) h.present),
  )
  | inr other ↦ (
      let b = h.before n other in
      (b.0, subst (λ (x : List (List ℕ)). IsCarried (bytes_on n s.pieces) x b.0) (sym (past_is n s.number s.taken s.past other)) b.1)
      )
]

pub is_joined : (outward : OutwardState) (inward : InwardState) (more : List PieceState) → Sends outward → Takes inward
    → inward.pieces ++ more ≡ outward.pieces → IsJoined outward inward
is_joined outward inward more s t whole n =
    let out = all_sent outward n s in
    let in' = all_taken inward n t in
    let bytes : (bytes_on n inward.pieces) ++ bytes_on n more ≡ bytes_on n outward.pieces = sym (bytes_append n inward.pieces more) ∙ ap (bytes_on n) whole in
    let row : joined (taken_on n inward) ++ (in'.0 ++ bytes_on n more) ≡ joined (sent_on n outward) ++ [] =
    sym (append_assoc (joined (taken_on n inward)) in'.0 (bytes_on n more)) ∙ ap (λ (x : List ℕ). x ++ bytes_on n more) (sym in'.1.bytes_are) ∙ bytes
    ∙ out.bytes_are in
    frames_begin (taken_on n inward) (sent_on n outward) (in'.0 ++ bytes_on n more) [] in'.1.cuts out.cuts nothing_begun row
