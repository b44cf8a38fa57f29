-- What a sealed slot and a sealed header say.
use Rattle.std.proofs.Common.{ℕ, ◌≡◌, ◌+◌, ◌^◌, ◌<◌, ◌==◌, Bool, true, false, not, List, length, take, slice_index, refl, sym, ◌∙◌, ap, arith, Option, Some}
use Rattle.std.proofs.Common.{None, Ok, Err, get_or-drop}
use Rattle.std.specs.Prelude.{if◌then◌else◌}
use Rattle.std.proofs.lemmas.Bool.{eq-eqb}
use Rattle.metadata.specs.declared.identifiers.Identifiers.{Identifiers}
use Rattle.metadata.specs.declared.identifiers.CleanEnd.{CleanEnd}
use Rattle.metadata.specs.declared.fault.MetadataFault.TheVariants.{IdentifiersDamaged}
use Rattle.metadata.specs.Words.{word, bytes_of, sealed, sum_of}
use Rattle.metadata.specs.Judged.{flag, end_words, end_of, slot_words, identifiers_of, slot_judged}
use Rattle.metadata.proofs.WordLemmas.{word-sealed, sum-sealed, body-sealed}

-- a flag that was put is the one that is read
flag-back : (b : Bool) (w : ℕ) → w ≡ flag b → not (w == 0) ≡ b
flag-back true w is = ap (λ n. not (n == 0)) is
flag-back false w is = ap (λ n. not (n == 0)) is

-- an end that was put is the one that is read
end-back : (e : Option CleanEnd) (bytes : List ℕ) → ((k : ℕ) → k < 6 → word bytes (9 + k) ≡ slice_index (end_words e) k) → end_of bytes ≡ e
end-back None bytes at = rw (at 0 (omega arith)) refl
end-back (Some e) bytes at =
    rw (at 0 (omega arith))
    (λ j. Some (record { device = at 1 (omega arith) j; inode = at 2 (omega arith) j; size = at 3 (omega arith) j; seconds = at 4 (omega arith) j; nanoseconds = at 5 (omega arith) j }))

end-length : (e : Option CleanEnd) → length (end_words e) ≡ 6
end-length None = refl
end-length (Some e) = refl

pub slot-length : (v : Identifiers) → length (slot_words v) ≡ 15
slot-length v = let rest = end-length v.clean_end in omega (arith, rest)

-- a sealed slot says what was put
pub slot-back : (v : Identifiers) → ((k : ℕ) → slice_index (slot_words v) k < 2 ^ 64) → identifiers_of (sealed (slot_words v)) ≡ v
slot-back v fit = λ j. record {
  tuple = record { current = at 0 (omega arith) j; bitmap = at 1 (omega arith) j; first_historical = at 2 (omega arith) j; second_historical = at 3 (omega arith) j };
  is_primary = flag-back v.is_primary _ (at 4 (omega arith)) j;
  is_consistent = flag-back v.is_consistent _ (at 5 (omega arith)) j;
  boot = record { high = at 6 (omega arith) j; low = at 7 (omega arith) j };
  secondary_of = at 8 (omega arith) j;
  clean_end = end-back v.clean_end (sealed (slot_words v)) (λ k low. at (9 + k) (omega arith) ∙ behind k) j;
}
  where
    at : (i : ℕ) → i < 15 → word (sealed (slot_words v)) i ≡ slice_index (slot_words v) i
    at i low = word-sealed (slot_words v) i (omega (arith, slot-length v)) fit

    behind : (k : ℕ) → slice_index (slot_words v) (9 + k) ≡ slice_index (end_words v.clean_end) k
    behind k = sym (get_or-drop 9 (slot_words v) k 0)

-- and an open finds it
pub slot-found : (v : Identifiers) → ((k : ℕ) → slice_index (slot_words v) k < 2 ^ 64) → sum_of (bytes_of (slot_words v)) < 2 ^ 64
    → slot_judged (sealed (slot_words v)) ≡ Ok v
slot-found v fit fits =
    let bytes : List ℕ = sealed (slot_words v) in
    let sum = sum-sealed (slot_words v) 15 (slot-length v) fits in
    let body = body-sealed (slot_words v) 120 (omega (arith, slot-length v)) in
    let same : word bytes 15 ≡ sum_of (take 120 bytes) = sum ∙ ap sum_of (sym body) in
    let test : (word bytes 15 == sum_of (take 120 bytes)) ≡ true = eq-eqb (word bytes 15) (sum_of (take 120 bytes)) same in
    ap (λ (b : Bool). if b then Ok (identifiers_of bytes) else Err IdentifiersDamaged) test ∙ ap Ok (slot-back v fit)
