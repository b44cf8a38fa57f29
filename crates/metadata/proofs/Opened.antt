-- What an open finds.
use Rattle.std.proofs.Common.{ℕ, ◌≡◌, ◌⊎◌, ◌+◌, ◌<◌, ◌≤◌, ◌==◌, inl, inr, Bool, true, false, not, List, length, take, drop, slice_index, refl, sym, ◌∙◌, ap}
use Rattle.std.proofs.Common.{arith, ◌/◌, ◌^◌, Option, None, Result, Ok, Err, get_or-take, get_or-drop}
use Rattle.std.specs.Prelude.{IfOk, IfErr, if◌then◌else◌, nat_lt}
use Rattle.std.proofs.lemmas.Bool.Decides.{nat_tests}
use Rattle.std.proofs.lemmas.Bool.{cases_Bool, eqb-true}
use Rattle.metadata.specs.declared.header.Header.{Header}
use Rattle.metadata.specs.declared.fault.MetadataFault.{MetadataFault}
use Rattle.metadata.specs.declared.fault.MetadataFault.TheVariants.{NotMetadata, OtherVersion, HeaderDamaged, OtherLength, OtherBlocks}
use Rattle.metadata.specs.Judged.{header_judged, header_of, has_magic, is_whole_header, is_asked}
use Rattle.metadata.specs.Words.{word}
use Rattle.metadata.specs.Says.{opened_header, entered_in}
use Rattle.metadata.specs.State.{is_entered}

-- what was found, or why not
pub found_ok : {T E : Type 0} (r X : Result T E) (P : Type 0) → (P → X ≡ r) → IfOk r (λ v. P → X ≡ Ok v)
found_ok (Ok v) X P is = is
found_ok (Err e) X P is = tt

pub found_err : {T E : Type 0} (r X : Result T E) (P : Type 0) (Q : E → Type 0) → (P → X ≡ r) → IfErr r (λ e. P → (X ≡ Err e) ⊎ Q e)
found_err (Ok v) X P Q is = tt
found_err (Err e) X P Q is = λ p. inl (is p)

-- a file that is long enough for a header
pub header-found : (asked : Option ℕ) (len : ℕ) (bytes file : List ℕ) → len ≡ length file → 48 ≤ len → bytes ≡ take 48 file
    → opened_header asked file ≡ header_judged asked len bytes
header-found asked len bytes file size long is =
    let test : nat_lt (length file) 48 ≡ false = grind (arith, nat_tests) in
    ap (λ (b : Bool). if b then Err NotMetadata else header_judged asked (length file) (take 48 file)) test
    ∙ (λ i. header_judged asked (sym size i) (sym is i))

-- a file that is too short
pub header-short : (asked : Option ℕ) (len : ℕ) (file : List ℕ) → len ≡ length file → len < 48 → opened_header asked file ≡ Err NotMetadata
header-short asked len file size short =
    let test : nat_lt (length file) 48 ≡ true = grind (arith, nat_tests) in
    ap (λ (b : Bool). if b then Err NotMetadata else header_judged asked (length file) (take 48 file)) test

-- an entry that was read
pub entry-read : (file entries : List ℕ) (n : ℕ) → entries ≡ take n (drop 4096 file) → n ≡ length entries → (x : ℕ) → x < length entries → is_entered entries x ≡ entered_in file x
entry-read file entries n is size x low =
    ap (λ v. not (v == 0)) (ap (λ (l : List ℕ). slice_index l x) is ∙ get_or-take n (drop 4096 file) x 0 (omega arith) ∙ get_or-drop 4096 file x 0)

-- the selector that was read
pub selector-read : (file bytes : List ℕ) (v : ℕ) → bytes ≡ take 1 (drop 512 file) → v ≡ slice_index bytes 0 → slice_index file 512 ≡ v
selector-read file bytes v is first =
    sym (first ∙ ap (λ (l : List ℕ). slice_index l 0) is ∙ get_or-take 1 (drop 512 file) 0 0 (omega arith) ∙ get_or-drop 512 file 0 0)

-- the tests of a header, one after another
abbrev pub judged_by : Bool → Bool → Bool → Bool → Bool → Header → Result Header MetadataFault
judged_by a b c d e h =
    if not a then Err NotMetadata else if not b then Err OtherVersion else if not c then Err HeaderDamaged else if not d then Err OtherLength else if not e then Err OtherBlocks else Ok h

-- a header that is not refused passes them all
record Passes (a b c d : Bool) (h k : Header) : Type 0 where
  pub magic : a ≡ true
  pub version : b ≡ true
  pub whole : c ≡ true
  pub size : d ≡ true
  pub same : h ≡ k

passes : (a b c d e : Bool) (h k : Header) → judged_by a b c d e h ≡ Ok k → Passes a b c d h k
passes false b c d e h k is = absurd (cc)
passes true false c d e h k is = absurd (cc)
passes true true false d e h k is = absurd (cc)
passes true true true false e h k is = absurd (cc)
passes true true true true false h k is = absurd (cc)
passes true true true true true h k is = record { magic = refl; version = refl; whole = refl; size = refl; same = cc }

-- a header that is found in a device of the size that was asked is found
pub opened-any : (asked : Option ℕ) (file : List ℕ) (h : Header) → opened_header asked file ≡ Ok h → (opened_header None file ≡ Ok h) × (length file ≡ 2101248 + h.blocks)
opened-any asked file h is = let bytes : List ℕ = take 48 file in elim (cases_Bool (nat_lt (length file) 48)) [
  | inl short ↦ absurd (differ NotMetadata h (sym (ap (λ (b : Bool). if b then Err NotMetadata else header_judged asked (length file) bytes) short) ∙ is))
  | inr long ↦
      let judged : header_judged asked (length file) bytes ≡ Ok h = sym (ap (λ (b : Bool). if b then Err NotMetadata else header_judged asked (length file) bytes) long) ∙ is in
      let p = passes (has_magic bytes) (word bytes 1 / 2 ^ 32 == 1) (is_whole_header bytes) (length file == 2101248 + word bytes 2) (is_asked asked (word bytes 2)) (header_of bytes) h judged in (
        ap (λ (b : Bool). if b then Err NotMetadata else header_judged None (length file) bytes) long
            ∙ (λ i. judged_by (p.magic i) (p.version i) (p.whole i) (p.size i) true (p.same i)),
        eqb-true (length file) (2101248 + word bytes 2) p.size ∙ ap (λ (k : Header). 2101248 + k.blocks) p.same,
      )
]
  where
    differ : (e : MetadataFault) (k : Header) → Err e ≡ Ok k → ⊥
    differ e k same = cc
