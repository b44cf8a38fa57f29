-- What is kept of a file that an open takes.
use Rattle.std.proofs.Common.{ℕ, ◌≡◌, ◌≢◌, ◌+◌, ◌<◌, ◌≤◌, ◌==◌, inl, inr, true, false, not, List, [], ◌∷◌, length, sym, ◌∙◌, ap, subst, arith, set, Option}
use Rattle.std.proofs.Common.{None, length-set}
use Rattle.std.proofs.lemmas.Bool.{cases_lt, both_ways}
use Rattle.std.proofs.lemmas.List.{get_or-set_same, get_or-set_other}
use Rattle.metadata.specs.declared.header.Header.{Header}
use Rattle.metadata.specs.declared.identifiers.Identifiers.{Identifiers}
use Rattle.metadata.specs.Calls.{Torn, Written, Only, Follows}
use Rattle.metadata.specs.Judged.{slot_judged}
use Rattle.metadata.specs.Says.{header_bytes, opened_header, entered_in, extents_of}
use Rattle.metadata.specs.Steps.{SameFront, OnlyEntry, OnlyMarks}
use Rattle.metadata.specs.State.{Opens, Says, IsKept, is_entered}
use Rattle.metadata.proofs.Places.{within-torn, only-entry, only-marks, byte-here}

-- an open finds the same header
pub header-same : (asked : Option ℕ) (old new : List ℕ) → length new ≡ length old → header_bytes new ≡ header_bytes old → opened_header asked new ≡ opened_header asked old
header-same asked old new size header = cc

-- files with the same front open with the same header and identifiers
pub opens-same : (h : Header) (v : Identifiers) (old new : List ℕ) → SameFront old new → Opens h v old → Opens h v new
opens-same h v old new same opens = record {
  size = same.size ∙ opens.size;
  header = header-same None old new same.size same.header ∙ opens.header;
  identifiers = ap slot_judged same.saved ∙ opens.identifiers;
}

-- an extent of the device is one that the file has room for
pub extent-low : (h : Header) (x n : ℕ) → n ≡ extents_of h.blocks → h.blocks ≤ 2147483648 → x < n → x < 2097152
extent-low h x n sized few inside = omega (arith, sized, few, inside)

-- the write of an entry, torn, to a file that an open takes
pub torn-entry : (h : Header) (v : Identifiers) (extent : ℕ) (d c : List ℕ) → extent < 2097152 → Opens h v d → Torn (4096 + extent) 1 d c → OnlyEntry extent d c
torn-entry h v extent d c inside opens torn =
    only-entry extent d c inside (within-torn (4096 + extent) 1 d c (omega (arith, opens.size, inside)) torn)

-- the write of marks, torn, to a file that an open takes
pub torn-marks : (h : Header) (v : Identifiers) (first count : ℕ) (d c : List ℕ) → first + count ≤ h.blocks → Opens h v d
    → Torn (2101248 + first) count d c → OnlyMarks first count d c
torn-marks h v first count d c inside opens torn =
    only-marks first count d c (within-torn (2101248 + first) count d c (omega (arith, opens.size, inside)) torn)

-- an entry differs, and those that are in memory are in the file
pub says-entry : (h : Header) (v : Identifiers) (slot extent : ℕ) (entries entries' : List ℕ) (old new : List ℕ) → length entries ≤ 2097152
    → length entries' ≡ length entries → ((x : ℕ) → x ≢ extent → is_entered entries' x ≡ is_entered entries x)
    → (is_entered entries' extent ≡ true → entered_in new extent ≡ true)
    → OnlyEntry extent old new → Says h v slot entries old → Says h v slot entries' new
says-entry h v slot extent entries entries' old new few size others here only says = record {
  opens = opens-same h v old new only.front says.opens;
  selected = only.front.selected ∙ says.selected;
  entered = λ x inside is. elim (cases_lt x extent) [
    | inl low ↦ other x (omega (arith, inside, size)) (λ same. omega arith) is
    | inr high ↦ elim (cases_lt extent x) [
      | inl more ↦ other x (omega (arith, inside, size)) (λ same. omega arith) is
      | inr no_more ↦
          let same : extent ≡ x = omega arith in
          subst (λ n. entered_in new n ≡ true) same (here (subst (λ n. is_entered entries' n ≡ true) (sym same) is))
    ]
  ];
}
  where
    other : (x : ℕ) → x < length entries → x ≢ extent → is_entered entries' x ≡ true → entered_in new x ≡ true
    other x inside apart is = only.others x (omega arith) apart ∙ says.entered x inside (sym (others x apart) ∙ is)

-- marks differ
pub says-marks : (h : Header) (v : Identifiers) (slot first count : ℕ) (entries : List ℕ) (old new : List ℕ) → length entries ≤ 2097152
    → OnlyMarks first count old new → Says h v slot entries old → Says h v slot entries new
says-marks h v slot first count entries old new few only says = record {
  opens = opens-same h v old new only.front says.opens;
  selected = only.front.selected ∙ says.selected;
  entered = λ x inside is. only.entries x (omega arith) ∙ says.entered x inside is;
}

-- at one number or at the others
pub here-or-other : (extent x : ℕ) (P : ℕ → Type 0) → P extent → (x ≢ extent → P x) → P x
here-or-other extent x P here other = elim (cases_lt x extent) [
  | inl low ↦ other (λ same. omega arith)
  | inr high ↦ elim (cases_lt extent x) [
    | inl more ↦ other (λ same. omega arith)
    | inr no_more ↦ let same : extent ≡ x = omega arith in subst P same here
  ]
]

-- a file in which one entry was written is kept
pub entry-kept : (seen' : List ℕ) (seen : List ℕ) (may may' : List ℕ → Type 0) (h : Header) (v : Identifiers) (slot extent b : ℕ) (entries : List ℕ)
    → extent < length entries → length entries ≤ 2097152 → IsKept seen may h v slot entries → Written (4096 + extent) (b ∷ []) seen seen'
    → ((c : List ℕ) → may' c → Says h v slot (set entries extent b) c) → IsKept seen' may' h v slot (set entries extent b)
entry-kept seen' seen may may' h v slot extent b entries inside few kept written left =
    let torn = torn-entry h v extent seen seen' (omega arith) kept.says.opens written.elsewhere in
    let byte = byte-here (4096 + extent) b seen' written.here in
    let same : is_entered (set entries extent b) extent ≡ not (b == 0) = ap (λ n. not (n == 0)) (get_or-set_same entries extent b 0 inside) in
    let here : entered_in seen' extent ≡ not (b == 0) = ap (λ n. not (n == 0)) byte in
    let others = λ (x : ℕ) (apart : x ≢ extent). ap (λ n. not (n == 0)) (get_or-set_other entries extent x b 0 apart) in
    record {
      says = says-entry h v slot extent entries (set entries extent b) seen seen' few (length-set entries extent b) others (λ is. here ∙ sym same ∙ is) torn kept.says;
      exactly = λ x low. here-or-other extent x (λ n. entered_in seen' n ≡ is_entered (set entries extent b) n) (here ∙ sym same)
          (λ apart. let low' : x < length entries = omega (arith, low, length-set entries extent b) in
          torn.others x (omega arith) apart ∙ kept.exactly x low' ∙ sym (others x apart));
      left = left;
    }

-- what a crash may leave of the write of a 0
pub zero-left : (h : Header) (v : Identifiers) (slot extent : ℕ) (entries d c : List ℕ) → extent < length entries → length entries ≤ 2097152
    → Says h v slot entries d → Torn (4096 + extent) 1 d c → Says h v slot (set entries extent 0) c
zero-left h v slot extent entries d c inside few says torn =
    let only = torn-entry h v extent d c (omega arith) says.opens torn in
    let same : is_entered (set entries extent 0) extent ≡ false = ap (λ n. not (n == 0)) (get_or-set_same entries extent 0 0 inside) in
    says-entry h v slot extent entries (set entries extent 0) d c few (length-set entries extent 0)
    (λ x apart. ap (λ n. not (n == 0)) (get_or-set_other entries extent x 0 0 apart)) (λ is. absurd (both_ways (is_entered (set entries extent 0) extent) same is)) only says

-- how many extents there are
pub extents-few : (h : Header) (entries : List ℕ) → length entries ≡ extents_of h.blocks → h.blocks ≤ 2147483648 → length entries ≤ 2097152
extents-few h entries sized few = omega (arith, sized, few)

-- a file in which one entry was written is kept, once it is all on the disk
pub entered-kept : (seen' : List ℕ) (seen : List ℕ) (may may' : List ℕ → Type 0) (h : Header) (v : Identifiers) (slot extent b : ℕ) (entries : List ℕ)
    → extent < length entries → length entries ≤ 2097152 → IsKept seen may h v slot entries → Written (4096 + extent) (b ∷ []) seen seen'
    → Only seen' may' → IsKept seen' may' h v slot (set entries extent b)
entered-kept seen' seen may may' h v slot extent b entries inside few kept written only =
    let none : (c : List ℕ) → ⊥ → Says h v slot (set entries extent b) c = λ c none. absurd none in
    let says = (entry-kept seen' seen may (λ _. ⊥) h v slot extent b entries inside few kept written none).says in
    entry-kept seen' seen may may' h v slot extent b entries inside few kept written
    (λ c left. subst (λ (l : List ℕ). Says h v slot (set entries extent b) l) (sym (only c left)) says)

-- a file in which marks were written is kept
pub marks-kept : (seen seen' : List ℕ) (may may' : List ℕ → Type 0) (h : Header) (v : Identifiers) (slot first : ℕ) (bytes entries : List ℕ)
    → first + length bytes ≤ h.blocks → length entries ≤ 2097152 → IsKept seen may h v slot entries → Torn (2101248 + first) (length bytes) seen seen'
    → Follows (Torn (2101248 + first) (length bytes)) may may' → IsKept seen' may' h v slot entries
marks-kept seen seen' may may' h v slot first bytes entries inside few kept torn follows =
    let only = torn-marks h v first (length bytes) seen seen' inside kept.says.opens torn in
    record {
      says = says-marks h v slot first (length bytes) entries seen seen' few only kept.says;
      exactly = λ x low. only.entries x (omega arith) ∙ kept.exactly x low;
      left = λ c left.
          let from = follows c left in
          let says = kept.left from.0 from.1 in
          says-marks h v slot first (length bytes) entries from.0 c few (torn-marks h v first (length bytes) from.0 c inside says.opens from.2) says;
    }

-- a file that was read or synced is kept
pub same-kept : (seen seen' : List ℕ) (may may' : List ℕ → Type 0) (h : Header) (v : Identifiers) (slot : ℕ) (entries : List ℕ)
    → IsKept seen may h v slot entries → seen' ≡ seen → ((c : List ℕ) → may' c → may c) → IsKept seen' may' h v slot entries
same-kept seen seen' may may' h v slot entries kept same crash = record {
  says = subst (λ (l : List ℕ). Says h v slot entries l) (sym same) kept.says;
  exactly = λ x low. ap (λ (l : List ℕ). entered_in l x) same ∙ kept.exactly x low;
  left = λ c left. kept.left c (crash c left);
}
