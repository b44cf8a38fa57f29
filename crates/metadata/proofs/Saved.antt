-- What a save leaves.
use Rattle.std.proofs.Common.{ℕ, ◌≡◌, ◌≤◌, ◌-◌, inl, inr, List, length, sym, ◌∙◌, ap, subst, arith, Ok, ⊎_elim, None}
use Rattle.metadata.specs.declared.header.Header.{Header}
use Rattle.metadata.specs.declared.identifiers.Identifiers.{Identifiers}
use Rattle.metadata.specs.Calls.{Only}
use Rattle.metadata.specs.Judged.{slot_judged}
use Rattle.metadata.specs.Steps.{OnlySlot, OnlyIdentifiers, HasOther, IsReplaced}
use Rattle.metadata.specs.State.{Says, IsKept}
use Rattle.metadata.proofs.Kept.{header-same}

-- a slot with these identifiers
pub only-identifiers : (v : Identifiers) (slot d c : List ℕ) → slot_judged slot ≡ Ok v → OnlySlot slot d c → OnlyIdentifiers v d c
only-identifiers v slot d c found only = record {
  size = only.behind.size;
  header = only.behind.header;
  either = ⊎_elim (λ old. inl (ap slot_judged old)) (λ new. inr (ap slot_judged new ∙ found)) only.either;
  entries = only.behind.entries;
  marks = only.behind.marks;
}

pub replaced-identifiers : (v : Identifiers) (other : ℕ) (slot d c : List ℕ) → slot_judged slot ≡ Ok v → IsReplaced other slot d c → OnlyIdentifiers v d c
replaced-identifiers v other slot d c found is = record {
  size = is.behind.size;
  header = is.behind.header;
  either = inr (ap slot_judged is.saved ∙ found);
  entries = is.behind.entries;
  marks = is.behind.marks;
}

-- the other slot of a file that says this
pub has-other : (h : Header) (v : Identifiers) (slot : ℕ) (entries d : List ℕ) → slot ≤ 1 → Says h v slot entries d → HasOther (1 - slot) d
has-other h v slot entries d few says = record { selected = omega (arith, says.selected, few); size = omega (arith, says.opens.size) }

-- a file with another slot is kept
pub replaced-kept : (seen seen' : List ℕ) (may may' : List ℕ → Type 0) (h : Header) (v v' : Identifiers) (slot other : ℕ) (bytes entries : List ℕ) → length entries ≤ 2097152
    → slot_judged bytes ≡ Ok v' → IsKept seen may h v slot entries → IsReplaced other bytes seen seen' → Only seen' may' → IsKept seen' may' h v' other entries
replaced-kept seen seen' may may' h v v' slot other bytes entries few found kept is only =
    let says : Says h v' other entries seen' = record {
      opens = record {
        size = is.behind.size ∙ kept.says.opens.size;
        header = header-same None seen seen' is.behind.size is.behind.header ∙ kept.says.opens.header;
        identifiers = ap slot_judged is.saved ∙ found;
      };
      selected = is.selected;
      entered = λ x low in_memory. is.behind.entries x (omega arith) ∙ kept.says.entered x low in_memory;
    } in
    record {
      says = says;
      exactly = λ x low. is.behind.entries x (omega arith) ∙ kept.exactly x low;
      left = λ c left. subst (λ (l : List ℕ). Says h v' other entries l) (sym (only c left)) says;
    }
