-- What comes of whole options.
use Rattle.std.proofs.Common.{◌≡◌, ℕ, ◌<◌, Bool, true, false, cond, eqb, List, [], ◌++◌, length, refl, sym, ap, ◌∙◌, arith}
use Rattle.std.specs.Prelude.{nat_lt}
use Rattle.std.proofs.lemmas.Bool.{eqb-true, eqb-false}
use Rattle.std.proofs.lemmas.Bool.Decides.{nat_tests}
use Rattle.std.proofs.lemmas.List.{length-append}
use Rattle.packets.specs.Numbers.{number_in, number_bytes}
use Rattle.packets.proofs.Digits.{number_again, number_last, number_only}
use Rattle.packets.proofs.Widths.{number_bytes_length, number_in_front}
use Rattle.nbd.specs.declared.phase.Part.TheVariants as part
use Rattle.nbd.specs.declared.phase.Phase.TheVariants as phase
use Rattle.nbd.specs.declared.phase.Refused.TheVariants as refused
use Rattle.nbd.specs.Exports.{Exported, export_now}
use Rattle.nbd.specs.Machine.{Fed, silent, after_step, then_fed, fed}
use Rattle.nbd.specs.Messages.{ClientOption, FitsOption, option_bytes, at_option, closed, option_answer}
use Rattle.nbd.specs.Options.{context_set, option_magic, option_replied, option_reply, rep_err_too_big}
use Rattle.nbd.specs.Steps.{Stepped, after_reply, after_option, option_begins, goes_on, step, skipped}
use Rattle.nbd.proofs.Answering.{none_of}
use Rattle.nbd.proofs.Feeding.{then_fed_nothing, fed_whole, fed_skipped, fed_closed, fed_append}

-- the header of an option
abbrev head : ClientOption → List ℕ
head o = number_bytes 8 option_magic ++ number_bytes 4 o.number ++ number_bytes 4 (length o.bytes)

head_front : (o : ClientOption) → length (number_bytes 8 option_magic ++ number_bytes 4 o.number) ≡ 12
head_front o =
    length-append (number_bytes 8 option_magic) (number_bytes 4 o.number) ∙ omega (arith, number_bytes_length 8 option_magic, number_bytes_length 4 o.number)

head_length : (o : ClientOption) → length (head o) ≡ 16
head_length o =
    length-append (number_bytes 8 option_magic ++ number_bytes 4 o.number) (number_bytes 4 (length o.bytes))
    ∙ omega (arith, head_front o, number_bytes_length 4 (length o.bytes))

-- the header of an option says its number and how many data follow
head_read : (e : Exported) (no_zeroes : Bool) (o : ClientOption) → FitsOption o
    → after_option e no_zeroes (head o) ≡ option_begins e no_zeroes o.number (length o.bytes)
head_read e no_zeroes o fits =
    let m = number_bytes 8 option_magic in
    let n = number_bytes 4 o.number in
    let l = number_bytes 4 (length o.bytes) in
    let m_len = number_bytes_length 8 option_magic in
    let magic : number_in 8 0 (m ++ n ++ l) ≡ option_magic =
    number_in_front 8 0 (m ++ n) l (omega (arith, head_front o)) ∙ number_in_front 8 0 m n (omega (arith, m_len)) ∙ number_only 8 option_magic (omega arith) in
    let number : number_in 4 8 (m ++ n ++ l) ≡ o.number = number_again 4 8 o.number m l m_len fits.number in
    let long : number_in 4 12 (m ++ n ++ l) ≡ length o.bytes = number_last 4 12 (length o.bytes) (m ++ n) (head_front o) fits.length in
    rw (magic, number, long) refl

no_bytes_are_few : (n : ℕ) → eqb n 0 ≡ true → nat_lt 8192 n ≡ true → n < n
no_bytes_are_few n none many = grind (arith, nat_tests)

-- the data of an option that is too long are skipped
abbrev skips_option : Exported → Bool → ℕ → ℕ → Stepped
skips_option e z n long = record { phase = phase.Skip long (refused.LongOption z n); terms = context_set e n false; sent = []; requests = [] }

-- the data, after the header
ends : (of : ℕ) (e : Exported) (z : Bool) (n : ℕ) (bytes : List ℕ) (none many named : Bool) → eqb (length bytes) 0 ≡ none → nat_lt 8192 (length bytes) ≡ many
    → (let first = after_step of e (cond none (after_reply z (option_replied e z n []))
    (cond many (cond named (goes_on phase.Closed) (skips_option e z n (length bytes)))
    (goes_on (phase.Gather (part.OptionData z n (length bytes)))))) in then_fed first (fed first.machine bytes))
    ≡ cond many (cond named (silent (closed of e)) (record { machine = at_option of (export_now e (context_set e n false)) z; sent = option_reply n rep_err_too_big []; requests = [] }))
    (after_step of e (after_reply z (option_replied e z n bytes)))
unfolding fed step skipped
ends of e z n bytes true true named is_none is_many = absurd (omega (arith, no_bytes_are_few (length bytes) is_none is_many))
ends of e z n bytes true false named is_none is_many =
    let first = after_step of e (after_reply z (option_replied e z n [])) in
    let empty : bytes ≡ [] = none_of bytes (eqb-true _ _ is_none) in
    ap (λ (x : List ℕ). then_fed first (fed first.machine x)) empty ∙ then_fed_nothing first
    ∙ ap (λ (x : List ℕ). after_step of e (after_reply z (option_replied e z n x))) (sym empty)
ends of e z n bytes false true true is_none is_many = ap (λ (f : Fed). then_fed (silent (closed of e)) f) (fed_closed of e [] bytes)
ends of e z n bytes false true false is_none is_many =
    let other = eqb-false _ _ is_none in
    let now = export_now e (context_set e n false) in
    let first = after_step of e (skips_option e z n (length bytes)) in
    ap (λ (f : Fed). then_fed first f) (fed_skipped of now (length bytes) (refused.LongOption z n) bytes (omega (arith, other)) refl)
ends of e z n bytes false false named is_none is_many =
    let other = eqb-false _ _ is_none in
    let first = after_step of e (goes_on (phase.Gather (part.OptionData z n (length bytes)))) in
    ap (λ (f : Fed). then_fed first f) (fed_whole of e (part.OptionData z n (length bytes)) [] bytes (omega (arith, other)) (omega arith))

pub option_is_answered : (of : ℕ) (e : Exported) (no_zeroes : Bool) (o : ClientOption) → FitsOption o
    → fed (at_option of e no_zeroes) (option_bytes o) ≡ option_answer of e no_zeroes o
unfolding option_bytes step
option_is_answered of e no_zeroes o fits =
    fed_append (at_option of e no_zeroes) (head o) o.bytes
    ∙ ap (λ (f : Fed). then_fed f (fed f.machine o.bytes))
    (fed_whole of e (part.Option no_zeroes) [] (head o) (omega (arith, head_length o)) (omega (arith, head_length o))
    ∙ ap (λ (s : Stepped). after_step of e s) (head_read e no_zeroes o fits))
    ∙ ends of e no_zeroes o.number o.bytes (eqb (length o.bytes) 0) (nat_lt 8192 (length o.bytes)) (eqb o.number 1) refl refl
