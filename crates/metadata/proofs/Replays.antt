-- What a record of calls says of a file.
use Rattle.std.proofs.Common.{ℕ, zero, suc, ◌≡◌, ◌+◌, ◌-◌, ◌<◌, ◌≤◌, inl, inr, Bool, List, [], ◌∷◌, ◌++◌, length, take, drop, replicate, slice_index, refl, sym}
use Rattle.std.proofs.Common.{◌∙◌, ap, arith, length-append, length-drop, length-take, get_or-take, get_or-drop}
use Rattle.std.specs.Prelude.{IsTrue, ◌&&◌}
use Rattle.std.proofs.lemmas.Bool.{cases_lt, and_parts, leb-true}
use Rattle.std.proofs.lemmas.List.{get_or_append_left, get_or-append_right, get_or_past, get_or-replicate, length-replicate}
use Rattle.std.proofs.lemmas.Slice.Eq.{bytes_eq-Decides}
use Rattle.metadata.specs.Calls.{Holds, Torn, Written, Resized, Cut}
use Rattle.metadata.specs.Events.{Event, padded, overlaid, agrees, after_call, replay, may_leave_of}
use Rattle.metadata.proofs.Moments.{Torn-refl}

pub length-padded : (file : List ℕ) (len : ℕ) → length (padded file len) ≡ len
unfolding padded
length-padded file len =
    omega (arith, length-take len (file ++ replicate (len - length file) 0), length-append file (replicate (len - length file) 0), length-replicate {A = ℕ} (len - length file) 0)

pub zeros : (n i : ℕ) → slice_index (replicate n 0) i ≡ 0
zeros n i = elim (cases_lt i n) [ inl low ↦ get_or-replicate n i 0 0 low | inr high ↦ get_or_past (replicate n 0) i 0 (omega (arith, length-replicate {A = ℕ} n 0)) ]

pub padded-same : (file : List ℕ) (len i : ℕ) → i < len → slice_index (padded file len) i ≡ slice_index file i
unfolding padded
padded-same file len i low =
    get_or-take len (file ++ replicate (len - length file) 0) i 0 low ∙ elim (cases_lt i (length file)) [
      | inl within ↦ get_or_append_left file (replicate (len - length file) 0) 0 i within
      | inr past ↦ get_or-append_right file (replicate (len - length file) 0) (length file) i 0 refl past ∙ zeros (len - length file) (i - length file)
          ∙ sym (get_or_past file i 0 past)
    ]

pub Resized-padded : (file : List ℕ) (len : ℕ) → Resized len file (padded file len)
Resized-padded file len = record { size = length-padded file len; same = padded-same file len }

pub Cut-padded : (file : List ℕ) (len : ℕ) → Cut len file (padded file len)
Cut-padded file len =
    let is = length-padded file len in
    record { no_shorter = omega arith; no_longer = omega arith; same = λ i low. padded-same file len i (omega arith) }

pub Cut-refl : (len : ℕ) (file : List ℕ) → Cut len file file
Cut-refl len file = record { no_shorter = omega arith; no_longer = omega arith; same = λ _ _. refl }

module _ (file : List ℕ) (at : ℕ) (bytes : List ℕ) where
  front : length (padded file at ++ bytes) ≡ at + length bytes
  front = omega (arith, length-append (padded file at) bytes, length-padded file at)

  pub Holds-overlaid : Holds (overlaid file at bytes) at bytes
  unfolding overlaid
  Holds-overlaid =
      record {
        within = omega (arith, front, length-append (padded file at ++ bytes) (drop (at + length bytes) file));
        each = λ i low.
            let back : at + i - at ≡ i = omega arith in
            get_or_append_left (padded file at ++ bytes) (drop (at + length bytes) file) 0 (at + i) (omega (arith, front))
            ∙ get_or-append_right (padded file at) bytes at (at + i) 0 (length-padded file at) (omega arith) ∙ ap (slice_index bytes) back;
      }

  pub Torn-overlaid : Torn at (length bytes) file (overlaid file at bytes)
  unfolding overlaid
  Torn-overlaid =
      let end : ℕ = at + length bytes in
      let len = length-append (padded file at ++ bytes) (drop end file) in
      let rest = length-drop end file in
      record {
        no_shorter = omega (arith, front);
        no_longer = omega (arith, front);
        below = λ i within low.
            get_or_append_left (padded file at ++ bytes) (drop end file) 0 i (omega (arith, front))
            ∙ get_or_append_left (padded file at) bytes 0 i (omega (arith, length-padded file at)) ∙ padded-same file at i low;
        above = λ i within high.
            let back : end + (i - end) ≡ i = omega arith in
            get_or-append_right (padded file at ++ bytes) (drop end file) end i 0 front high ∙ get_or-drop end file (i - end) 0 ∙ ap (slice_index file) back;
      }

  pub Written-overlaid : Written at bytes file (overlaid file at bytes)
  Written-overlaid = record { here = Holds-overlaid; elsewhere = Torn-overlaid }

-- a read that agrees
pub read-agrees : (before : Bool) (file : List ℕ) (at : ℕ) (bytes : List ℕ) → IsTrue (before && agrees file at bytes)
    → (at + length bytes ≤ length file) × (take (length bytes) (drop at file) ≡ bytes)
unfolding agrees
read-agrees before file at bytes h =
    let both = and_parts _ _ (and_parts before (agrees file at bytes) h).1 in
    (leb-true _ _ both.0, (bytes_eq-Decides (take (length bytes) (drop at file)) bytes).0 both.1)

after-one : (kind at : ℕ) (bytes : List ℕ) (opening : List ℕ) (earlier : List Event) → may_leave_of (replay opening earlier) (replay opening earlier).seen
    → may_leave_of (after_call kind at bytes (replay opening earlier)) (after_call kind at bytes (replay opening earlier)).seen
after-one zero at bytes opening earlier was = ((replay opening earlier).seen, was, Torn-overlaid (replay opening earlier).seen at bytes)
after-one (suc zero) at bytes opening earlier was = ((replay opening earlier).seen, was, Torn-refl at (length bytes) (replay opening earlier).seen)
after-one (suc (suc zero)) at bytes opening earlier was = was
after-one (suc (suc (suc zero))) len bytes opening earlier was = ((replay opening earlier).seen, was, Cut-padded (replay opening earlier).seen len)
after-one (suc (suc (suc (suc zero)))) len bytes opening earlier was = ((replay opening earlier).seen, was, Cut-refl len (replay opening earlier).seen)
after-one (suc (suc (suc (suc (suc zero))))) at bytes opening earlier was = refl
after-one (suc (suc (suc (suc (suc (suc more)))))) at bytes opening earlier was = was

-- a process that dies leaves what it had written
pub seen-may-stay : (opening : List ℕ) (events : List Event) → may_leave_of (replay opening events) (replay opening events).seen
seen-may-stay opening [] = tt
seen-may-stay opening (e ∷ earlier) = after-one e.0 e.1 e.2 opening earlier (seen-may-stay opening earlier)
