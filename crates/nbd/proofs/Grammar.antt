-- A header that is read is spelled so, and a header that is spelled is read so.
use Rattle.std.proofs.Common.{◌≡◌, ℕ, ◌+◌, ◌^◌, ◌<◌, ◌≤◌, Bool, true, false, cond, eqb, List, ◌++◌, length, Option, Some, None, Result, Ok, Err, refl, sym, ap}
use Rattle.std.proofs.Common.{◌∙◌, subst, arith, inl, inr}
use Rattle.std.specs.Prelude.{◌⊎◌, ◌≢◌}
use Rattle.std.proofs.lemmas.Bool.{eqb-true, eqb-false}
use Rattle.std.proofs.lemmas.List.{length-append, take_all}
use Rattle.blocks.specs.declared.refusal.Refusal.{Refusal}
use Rattle.blocks.specs.declared.refusal.Refusal.TheVariants.{BadMagic, BadField}
use Rattle.packets.specs.Numbers.{number_in, number_bytes}
use Rattle.packets.proofs.Digits.{IsBytes, number_fits, number_taken, number_first, number_again, number_last, number_only}
use Rattle.packets.proofs.Rows.{passed, passed_on}
use Rattle.packets.proofs.Widths.{number_bytes_length, number_in_front}
use Rattle.nbd.specs.declared.errno.Errno.{Errno}
use Rattle.nbd.specs.declared.errno.Errno.TheVariants as errno
use Rattle.nbd.specs.declared.header.RequestHeader.{RequestHeader}
use Rattle.nbd.specs.declared.reply.Reply.{Reply}
use Rattle.nbd.specs.Errors.{number_of, errno_at}
use Rattle.nbd.specs.Replies.{reply_magic, error_number, reply_spelling, SpellsReply, IsReplyFault, failed_at, reply_with, reply_at}
use Rattle.nbd.specs.Requests.{request_magic, spelling, FitsFields, Spells, fields_at, header_at}

-- ---- requests

-- the front of a header, field by field
abbrev to_flags : RequestHeader → List ℕ
to_flags h = number_bytes 4 request_magic ++ number_bytes 2 h.flags

abbrev to_kind : RequestHeader → List ℕ
to_kind h = to_flags h ++ number_bytes 2 h.kind

abbrev to_cookie : RequestHeader → List ℕ
to_cookie h = to_kind h ++ number_bytes 8 h.cookie

abbrev to_offset : RequestHeader → List ℕ
to_offset h = to_cookie h ++ number_bytes 8 h.offset

to_flags_length : (h : RequestHeader) → length (to_flags h) ≡ 6
to_flags_length h = length-append (number_bytes 4 request_magic) (number_bytes 2 h.flags)
    ∙ omega (arith, number_bytes_length 4 request_magic, number_bytes_length 2 h.flags)

to_kind_length : (h : RequestHeader) → length (to_kind h) ≡ 8
to_kind_length h = length-append (to_flags h) (number_bytes 2 h.kind) ∙ omega (arith, to_flags_length h, number_bytes_length 2 h.kind)

to_cookie_length : (h : RequestHeader) → length (to_cookie h) ≡ 16
to_cookie_length h = length-append (to_kind h) (number_bytes 8 h.cookie) ∙ omega (arith, to_kind_length h, number_bytes_length 8 h.cookie)

to_offset_length : (h : RequestHeader) → length (to_offset h) ≡ 24
to_offset_length h = length-append (to_cookie h) (number_bytes 8 h.offset) ∙ omega (arith, to_cookie_length h, number_bytes_length 8 h.offset)

pub spelling_length : (h : RequestHeader) → length (spelling h) ≡ 28
unfolding spelling
spelling_length h = length-append (to_offset h) (number_bytes 4 h.length) ∙ omega (arith, to_offset_length h, number_bytes_length 4 h.length)

-- a number that ends with the command's or before stands there in the whole header too
within_kind : (width place : ℕ) (h : RequestHeader) → place + width ≤ 8 → number_in width place (spelling h) ≡ number_in width place (to_kind h)
unfolding spelling
within_kind width place h le =
    number_in_front width place (to_offset h) (number_bytes 4 h.length) (omega (arith, to_offset_length h))
    ∙ number_in_front width place (to_cookie h) (number_bytes 8 h.offset) (omega (arith, to_cookie_length h))
    ∙ number_in_front width place (to_kind h) (number_bytes 8 h.cookie) (omega (arith, to_kind_length h))

magic_again : (h : RequestHeader) → number_in 4 0 (spelling h) ≡ request_magic
magic_again h =
    let len = number_bytes_length 4 request_magic in
    within_kind 4 0 h (omega arith)
    ∙ number_in_front 4 0 (to_flags h) (number_bytes 2 h.kind) (omega (arith, to_flags_length h))
    ∙ number_in_front 4 0 (number_bytes 4 request_magic) (number_bytes 2 h.flags) (omega (arith, len))
    ∙ number_only 4 request_magic (omega arith)

flags_again : (h : RequestHeader) → FitsFields h → number_in 2 4 (spelling h) ≡ h.flags
flags_again h fits =
    within_kind 2 4 h (omega arith)
    ∙ number_again 2 4 h.flags (number_bytes 4 request_magic) (number_bytes 2 h.kind) (number_bytes_length 4 request_magic) fits.flags

kind_again : (h : RequestHeader) → FitsFields h → number_in 2 6 (spelling h) ≡ h.kind
kind_again h fits = within_kind 2 6 h (omega arith) ∙ number_last 2 6 h.kind (to_flags h) (to_flags_length h) fits.kind

cookie_again : (h : RequestHeader) → FitsFields h → number_in 8 8 (spelling h) ≡ h.cookie
unfolding spelling
cookie_again h fits =
    number_in_front 8 8 (to_offset h) (number_bytes 4 h.length) (omega (arith, to_offset_length h))
    ∙ number_again 8 8 h.cookie (to_kind h) (number_bytes 8 h.offset) (to_kind_length h) fits.cookie

offset_again : (h : RequestHeader) → FitsFields h → number_in 8 16 (spelling h) ≡ h.offset
unfolding spelling
offset_again h fits = number_again 8 16 h.offset (to_cookie h) (number_bytes 4 h.length) (to_cookie_length h) fits.offset

length_again : (h : RequestHeader) → FitsFields h → number_in 4 24 (spelling h) ≡ h.length
unfolding spelling
length_again h fits = number_last 4 24 h.length (to_offset h) (to_offset_length h) fits.length

-- a header that is spelled is read so
pub header_again : (h : RequestHeader) → FitsFields h → header_at (spelling h) ≡ Ok h
unfolding header_at fields_at
header_again h fits = rw (magic_again h, flags_again h fits, kind_again h fits, cookie_again h fits, offset_again h fits, length_again h fits) refl

-- the fields of 28 bytes that begin with the magic number spell the bytes
fields_spelled : (bytes : List ℕ) → IsBytes bytes → length bytes ≡ 28 → number_in 4 0 bytes ≡ request_magic → spelling (fields_at bytes) ≡ bytes
unfolding spelling fields_at
fields_spelled bytes fits len magic =
    let first = number_first 4 bytes fits (omega (arith, len)) in
    let flags = number_taken 2 4 bytes fits (omega (arith, len)) in
    let kind = number_taken 2 6 bytes fits (omega (arith, len)) in
    let cookie = number_taken 8 8 bytes fits (omega (arith, len)) in
    let offset = number_taken 8 16 bytes fits (omega (arith, len)) in
    let last = number_taken 4 24 bytes fits (omega (arith, len)) in
    rw (← magic, first, flags, kind, cookie, offset, last) (take_all 28 bytes (omega (arith, len)))

fields_fit : (bytes : List ℕ) → IsBytes bytes → FitsFields (fields_at bytes)
unfolding fields_at
fields_fit bytes fits = record {
  flags = number_fits 2 4 bytes fits;
  kind = number_fits 2 6 bytes fits;
  cookie = number_fits 8 8 bytes fits;
  offset = number_fits 8 16 bytes fits;
  length = number_fits 4 24 bytes fits;
}

-- a header that is read is spelled so
pub header_takes : (bytes : List ℕ) (h : RequestHeader) → IsBytes bytes → length bytes ≡ 28 → header_at bytes ≡ Ok h → Spells h bytes
unfolding header_at
header_takes bytes h fits len e =
    let p = passed (eqb (number_in 4 0 bytes) request_magic) (fields_at bytes) h BadMagic e in
    subst (λ (x : RequestHeader). Spells x bytes) p.1 (record {
      fields = fields_fit bytes fits;
      bytes_are = sym (fields_spelled bytes fits len (eqb-true _ _ p.0));
    })

refused_only : (b : Bool) (h : RequestHeader) (e : Refusal) → cond b (Ok h) (Err BadMagic) ≡ Err e → (e ≡ BadMagic) × (b ≡ false)
refused_only true h e is = absurd cc
refused_only false h e is = let same : e ≡ BadMagic = cc in (same, refl)

-- the one refusal of a header
pub header_refused : (bytes : List ℕ) (e : Refusal) → header_at bytes ≡ Err e → (e ≡ BadMagic) × (number_in 4 0 bytes ≢ request_magic)
unfolding header_at
header_refused bytes e is =
    let p = refused_only (eqb (number_in 4 0 bytes) request_magic) (fields_at bytes) e is in (p.0, eqb-false _ _ p.1)

-- ---- replies

abbrev to_error : Reply → List ℕ
to_error r = number_bytes 4 reply_magic ++ number_bytes 4 (error_number r.error)

to_error_length : (r : Reply) → length (to_error r) ≡ 8
to_error_length r =
    length-append (number_bytes 4 reply_magic) (number_bytes 4 (error_number r.error))
    ∙ omega (arith, number_bytes_length 4 reply_magic, number_bytes_length 4 (error_number r.error))

pub reply_length : (r : Reply) → length (reply_spelling r) ≡ 16
unfolding reply_spelling
reply_length r = length-append (to_error r) (number_bytes 8 r.cookie) ∙ omega (arith, to_error_length r, number_bytes_length 8 r.cookie)

error_below : (o : Option Errno) → error_number o < 2 ^ 32
error_below None = omega arith
error_below (Some errno.NotPermitted) = omega arith
error_below (Some errno.InputOutput) = omega arith
error_below (Some errno.NoMemory) = omega arith
error_below (Some errno.Invalid) = omega arith
error_below (Some errno.NoSpace) = omega arith
error_below (Some errno.Overflow) = omega arith
error_below (Some errno.NotSupported) = omega arith
error_below (Some errno.Shutdown) = omega arith

-- the reply whose error field has the number of its error
with_again : (o : Option Errno) (cookie : ℕ) → reply_with (error_number o) cookie ≡ Ok (record { cookie = cookie; error = o })
with_again None cookie = refl
with_again (Some errno.NotPermitted) cookie = refl
with_again (Some errno.InputOutput) cookie = refl
with_again (Some errno.NoMemory) cookie = refl
with_again (Some errno.Invalid) cookie = refl
with_again (Some errno.NoSpace) cookie = refl
with_again (Some errno.Overflow) cookie = refl
with_again (Some errno.NotSupported) cookie = refl
with_again (Some errno.Shutdown) cookie = refl

-- a reply that is spelled is read so
pub reply_again : (r : Reply) → r.cookie < 2 ^ 64 → reply_at (reply_spelling r) ≡ Ok r
unfolding reply_at reply_spelling
reply_again r fits =
    let m = number_bytes 4 reply_magic in
    let e = number_bytes 4 (error_number r.error) in
    let c = number_bytes 8 r.cookie in
    let len = number_bytes_length 4 reply_magic in
    let magic : number_in 4 0 (m ++ e ++ c) ≡ reply_magic =
    number_in_front 4 0 (m ++ e) c (omega (arith, to_error_length r)) ∙ number_in_front 4 0 m e (omega (arith, len))
    ∙ number_only 4 reply_magic (omega arith) in
    let error : number_in 4 4 (m ++ e ++ c) ≡ error_number r.error = number_again 4 4 (error_number r.error) m c len (error_below r.error) in
    let cookie : number_in 8 8 (m ++ e ++ c) ≡ r.cookie = number_last 8 8 r.cookie (m ++ e) (to_error_length r) fits in
    rw (magic, error, cookie) (with_again r.error r.cookie)

chosen : {A : Type 0} (b : Bool) (x y z : A) → cond b x y ≡ z → ((b ≡ true) × (x ≡ z)) ⊎ ((b ≡ false) × (y ≡ z))
chosen true x y z e = inl (refl, e)
chosen false x y z e = inr (refl, e)

one_number : (e : Errno) (number : ℕ) → eqb number (number_of e) ≡ true → (f : Errno) → Some e ≡ Some f → number_of f ≡ number
one_number e number is f same = let s : e ≡ f = cc in ap number_of (sym s) ∙ sym (eqb-true _ _ is)

none_is : (f : Errno) → None ≡ Some f → ⊥
none_is f e = cc

-- the number of the error that has a number
errno_number : (number : ℕ) (f : Errno) → errno_at number ≡ Some f → number_of f ≡ number
errno_number number f e =
    let r7 : Option Errno = cond (eqb number 108) (Some errno.Shutdown) None in
    let r6 : Option Errno = cond (eqb number 95) (Some errno.NotSupported) r7 in
    let r5 : Option Errno = cond (eqb number 75) (Some errno.Overflow) r6 in
    let r4 : Option Errno = cond (eqb number 28) (Some errno.NoSpace) r5 in
    let r3 : Option Errno = cond (eqb number 22) (Some errno.Invalid) r4 in
    let r2 : Option Errno = cond (eqb number 12) (Some errno.NoMemory) r3 in
    let r1 : Option Errno = cond (eqb number 5) (Some errno.InputOutput) r2 in
    elim (chosen (eqb number 1) (Some errno.NotPermitted) r1 (Some f) e) [
      | inl x0 ↦ one_number errno.NotPermitted number x0.0 f x0.1
      | inr x0 ↦ elim (chosen (eqb number 5) (Some errno.InputOutput) r2 (Some f) x0.1) [
        | inl x1 ↦ one_number errno.InputOutput number x1.0 f x1.1
        | inr x1 ↦ elim (chosen (eqb number 12) (Some errno.NoMemory) r3 (Some f) x1.1) [
          | inl x2 ↦ one_number errno.NoMemory number x2.0 f x2.1
          | inr x2 ↦ elim (chosen (eqb number 22) (Some errno.Invalid) r4 (Some f) x2.1) [
            | inl x3 ↦ one_number errno.Invalid number x3.0 f x3.1
            | inr x3 ↦ elim (chosen (eqb number 28) (Some errno.NoSpace) r5 (Some f) x3.1) [
              | inl x4 ↦ one_number errno.NoSpace number x4.0 f x4.1
              | inr x4 ↦ elim (chosen (eqb number 75) (Some errno.Overflow) r6 (Some f) x4.1) [
                | inl x5 ↦ one_number errno.Overflow number x5.0 f x5.1
                | inr x5 ↦ elim (chosen (eqb number 95) (Some errno.NotSupported) r7 (Some f) x5.1) [
                  | inl x6 ↦ one_number errno.NotSupported number x6.0 f x6.1
                  | inr x6 ↦ elim (chosen (eqb number 108) (Some errno.Shutdown) None (Some f) x6.1) [
                    | inl x7 ↦ one_number errno.Shutdown number x7.0 f x7.1
                    | inr x7 ↦ absurd (none_is f x7.1)
                  ]
                ]
              ]
            ]
          ]
        ]
      ]
    ]

-- the fields of a reply that is read
pub record HasFields (number name : ℕ) (r : Reply) : Type 0 where
  pub error : error_number r.error ≡ number
  pub cookie : r.cookie ≡ name

failed_has : (number cookie : ℕ) (o : Option Errno) (r : Reply) → errno_at number ≡ o → failed_at o cookie ≡ Ok r → HasFields number cookie r
failed_has number cookie None r known e = absurd cc
failed_has number cookie (Some f) r known e =
    let made : Reply = record { cookie = cookie; error = Some f } in
    let is : made ≡ r = cc in
    subst (λ (x : Reply). HasFields number cookie x) is (record { error = errno_number number f known; cookie = refl })

with_has : (b : Bool) (number cookie : ℕ) (r : Reply) → eqb number 0 ≡ b
    → cond b (Ok (record { cookie = cookie; error = None })) (failed_at (errno_at number) cookie) ≡ Ok r → HasFields number cookie r
with_has true number cookie r zero e =
    let made : Reply = record { cookie = cookie; error = None } in
    let is : made ≡ r = cc in
    subst (λ (x : Reply). HasFields number cookie x) is (record { error = sym (eqb-true _ _ zero); cookie = refl })
with_has false number cookie r zero e = failed_has number cookie (errno_at number) r refl e

-- a reply that is read is spelled so
pub reply_takes : (bytes : List ℕ) (r : Reply) → IsBytes bytes → length bytes ≡ 16 → reply_at bytes ≡ Ok r → SpellsReply r bytes
unfolding reply_at reply_spelling
reply_takes bytes r fits len e =
    let p = passed_on (eqb (number_in 4 0 bytes) reply_magic) (reply_with (number_in 4 4 bytes) (number_in 8 8 bytes)) r BadMagic e in
    let magic : number_in 4 0 bytes ≡ reply_magic = eqb-true _ _ p.0 in
    let has = with_has (eqb (number_in 4 4 bytes) 0) (number_in 4 4 bytes) (number_in 8 8 bytes) r refl p.1 in
    let first = number_first 4 bytes fits (omega (arith, len)) in
    let error = number_taken 4 4 bytes fits (omega (arith, len)) in
    let last = number_taken 8 8 bytes fits (omega (arith, len)) in
    record {
      cookie = subst (λ (n : ℕ). n < 2 ^ 64) (sym has.cookie) (number_fits 8 8 bytes fits);
      bytes_are = sym (rw (has.error, has.cookie, ← magic, first, error, last) (take_all 16 bytes (omega (arith, len))));
    }

error_fault : (o : Option Errno) (cookie : ℕ) (e : Refusal) → failed_at o cookie ≡ Err e → (o ≡ None) × (e ≡ BadField)
error_fault None cookie e is = let same : e ≡ BadField = cc in (refl, same)
error_fault (Some f) cookie e is = absurd cc

number_fault : (b : Bool) (r : Reply) (o : Option Errno) (cookie : ℕ) (e : Refusal) → cond b (Ok r) (failed_at o cookie) ≡ Err e
    → (b ≡ false) × (o ≡ None) × (e ≡ BadField)
number_fault true r o cookie e is = absurd cc
number_fault false r o cookie e is = let p = error_fault o cookie e is in (refl, p.0, p.1)

magic_fault : (b : Bool) (r : Result Reply Refusal) (e : Refusal) → cond b r (Err BadMagic) ≡ Err e
    → ((b ≡ false) × (e ≡ BadMagic)) ⊎ ((b ≡ true) × (r ≡ Err e))
magic_fault true r e is = inr (refl, is)
magic_fault false r e is = let same : e ≡ BadMagic = cc in inl (refl, same)

-- the first fault of a reply
pub reply_fault : (bytes : List ℕ) (e : Refusal) → reply_at bytes ≡ Err e → IsReplyFault bytes e
unfolding reply_at
reply_fault bytes e is =
    elim (magic_fault (eqb (number_in 4 0 bytes) reply_magic) (reply_with (number_in 4 4 bytes) (number_in 8 8 bytes)) e is) [
      | inl p ↦ inl (eqb-false _ _ p.0, p.1)
      | inr p ↦
          let q = number_fault (eqb (number_in 4 4 bytes) 0) (record { cookie = number_in 8 8 bytes; error = None }) (errno_at (number_in 4 4 bytes))
          (number_in 8 8 bytes) e p.1 in
          inr (eqb-true _ _ p.0, eqb-false _ _ q.0, q.1, q.2)
    ]
