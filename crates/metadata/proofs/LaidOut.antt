-- A file that is laid out is one that was created.
use Rattle.std.proofs.Common.{ℕ, ◌≡◌, ◌⊎◌, ◌+◌, ◌/◌, ◌^◌, ◌<◌, ◌≤◌, ◌==◌, inl, inr, true, false, not, ◌&&◌, List, length, take, replicate, slice_index, refl}
use Rattle.std.proofs.Common.{sym, ◌∙◌, ap, subst, arith, None, Ok, Err}
use Rattle.std.specs.Prelude.{if◌then◌else◌}
use Rattle.std.specs.Int.{w64, to_be_bytes}
use Rattle.std.proofs.lemmas.Bool.{cases_lt, cases_Bool, eq-eqb, and_from, both_ways}
use Rattle.std.proofs.lemmas.List.{take-take}
use Rattle.std.proofs.lemmas.Slice.Eq.{bytes_eq-Decides}
use Rattle.metadata.specs.declared.layout.TheConstants.{MAGIC, FORMAT}
use Rattle.metadata.specs.declared.header.Header.{Header}
use Rattle.metadata.specs.declared.identifiers.Identifiers.{Identifiers}
use Rattle.metadata.specs.declared.fault.MetadataFault.TheVariants.{NotMetadata}
use Rattle.metadata.specs.Words.{word, bytes_of, sealed, sum_of}
use Rattle.metadata.specs.Judged.{header_words, header_of, has_magic, is_whole_header, are_blocks, header_judged, slot_judged}
use Rattle.metadata.specs.Says.{opened_header, selected_in, slot_bytes}
use Rattle.metadata.specs.Calls.{Only}
use Rattle.metadata.specs.State.{Says, IsKept, is_entered, IsLaidOut, IsCreated, MagicLast, Creates}
use Rattle.metadata.proofs.WordLemmas.{word-sealed, sum-sealed, body-sealed}
use Rattle.metadata.proofs.Replays.{zeros}
use Rattle.metadata.proofs.Opened.{judged_by, header-found, header-short}

-- a sealed header says what was put
pub header-back : (h : Header) → ((k : ℕ) → slice_index (header_words h) k < 2 ^ 64) → sum_of (bytes_of (header_words h)) < 2 ^ 64 → are_blocks h.blocks ≡ true
    → header_judged None (2101248 + h.blocks) (sealed (header_words h)) ≡ Ok h
header-back h fit fits can =
    let bytes : List ℕ = sealed (header_words h) in
    let at = λ (i : ℕ) (low : i < 5). word-sealed (header_words h) i low fit in
    let version : (word bytes 1 / 2 ^ 32 == 1) ≡ true = ap (λ w. w / 2 ^ 32 == 1) (at 1 (omega arith)) in
    let format : (word bytes 1 == FORMAT) ≡ true = eq-eqb (word bytes 1) FORMAT (at 1 (omega arith)) in
    let blocks : are_blocks (word bytes 2) ≡ true = ap are_blocks (at 2 (omega arith)) ∙ can in
    let sum = sum-sealed (header_words h) 5 refl fits ∙ ap sum_of (sym (body-sealed (header_words h) 40 refl)) in
    let whole : is_whole_header bytes ≡ true
    = and_from (word bytes 1 == FORMAT) (are_blocks (word bytes 2) && (word bytes 5 == sum_of (take 40 bytes))) format
    (and_from (are_blocks (word bytes 2)) (word bytes 5 == sum_of (take 40 bytes)) blocks (eq-eqb (word bytes 5) (sum_of (take 40 bytes)) sum)) in
    let size : (2101248 + h.blocks == 2101248 + word bytes 2) ≡ true = eq-eqb (2101248 + h.blocks) (2101248 + word bytes 2) (ap (λ n. 2101248 + n) (sym (at 2 (omega arith)))) in
    let magic : has_magic bytes ≡ true = (bytes_eq-Decides (take 8 bytes) (to_be_bytes w64 MAGIC)).1 refl in
    let same : header_of bytes ≡ h = λ i. record { blocks = at 2 (omega arith) i; pair = at 3 (omega arith) i; node = at 4 (omega arith) i } in
    (λ i. judged_by (magic i) (version i) (whole i) (size i) true (same i))

-- what a file that is laid out says
pub created : (h : Header) (v : Identifiers) (top slot file : List ℕ) → top ≡ sealed (header_words h) → slot_judged slot ≡ Ok v
    → header_judged None (2101248 + h.blocks) (sealed (header_words h)) ≡ Ok h → IsLaidOut (2101248 + h.blocks) top slot file → IsCreated h v file
created h v top slot file top-is slot-is judged laid =
    let selected : selected_in file ≡ 0 = ap (λ n. if n == 0 then 0 else 1) laid.selector in
    record {
      opens = record {
        size = laid.size;
        header = header-found None (2101248 + h.blocks) (sealed (header_words h)) file (sym laid.size) (omega arith) (sym (laid.top_is ∙ top-is)) ∙ judged;
        identifiers = ap (λ n. slot_judged (slot_bytes n file)) selected ∙ ap slot_judged laid.slot_is ∙ slot-is;
      };
      entries = λ x few. ap (λ n. not (n == 0)) (laid.zeros (4096 + x) (omega arith));
      marks = λ b. ap (λ n. not (n == 0)) (laid.zeros (2101248 + b) (omega arith));
    }

-- a file without the magic is not taken for metadata
pub magic-or-not : (file : List ℕ) → (take 8 file ≡ to_be_bytes w64 MAGIC) ⊎ (opened_header None file ≡ Err NotMetadata)
magic-or-not file = elim (cases_lt (length file) 48) [
  | inl short ↦ inr (header-short None (length file) file refl short)
  | inr long ↦ elim (cases_Bool (has_magic (take 48 file))) [
    | inl is ↦ inl (sym (take-take 8 48 file (omega arith)) ∙ (bytes_eq-Decides (take 8 (take 48 file)) (to_be_bytes w64 MAGIC)).0 is)
    | inr not-is ↦ inr (header-found None (length file) (take 48 file) file refl long refl ∙ without file not-is)
  ]
]
  where
    without : (file : List ℕ) → has_magic (take 48 file) ≡ false → header_judged None (length file) (take 48 file) ≡ Err NotMetadata
    without file none = λ i. judged_by (none i) (word (take 48 file) 1 / 2 ^ 32 == 1) (is_whole_header (take 48 file)) (length file == 2101248 + word (take 48 file) 2) true (header_of (take 48 file))

-- a step of the creation
pub creates : (h : Header) (v : Identifiers) (top slot d c : List ℕ) → top ≡ sealed (header_words h) → slot_judged slot ≡ Ok v
    → header_judged None (2101248 + h.blocks) (sealed (header_words h)) ≡ Ok h → MagicLast (2101248 + h.blocks) top slot d c → Creates h v d c
creates h v top slot d c top-is slot-is judged last = elim (magic-or-not c) [
  | inl magic ↦ inr (inr (created h v top slot c top-is slot-is judged (last (magic ∙ sym (ap (take 8) top-is)))))
  | inr none ↦ inr (inl none)
]

-- no entry of zeros is entered
pub zero-entries : (n x : ℕ) (entries : List ℕ) → entries ≡ replicate n 0 → is_entered entries x ≡ false
zero-entries n x entries is = ap (λ v. not (v == 0)) (ap (λ (l : List ℕ). slice_index l x) is ∙ zeros n x)

-- new metadata is kept
pub created-kept : (h : Header) (v : Identifiers) (n : ℕ) (entries file : List ℕ) (may : List ℕ → Type 0) → entries ≡ replicate n 0 → length entries ≤ 2097152
    → IsCreated h v file → selected_in file ≡ 0 → Only file may → IsKept file may h v 0 entries
created-kept h v n entries file may is few made selected only =
    let says : Says h v 0 entries file = record {
      opens = made.opens;
      selected = selected;
      entered = λ x low in_memory. absurd (both_ways (is_entered entries x) (zero-entries n x entries is) in_memory);
    } in
    record {
      says = says;
      exactly = λ x low. made.entries x (omega arith) ∙ sym (zero-entries n x entries is);
      left = λ c left. subst (λ (l : List ℕ). Says h v 0 entries l) (sym (only c left)) says;
    }
