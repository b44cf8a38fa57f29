-- How the two maps of the intervals belong together.
use Rattle.std.specs.Prelude.{ℕ, ◌≡◌, ◌+◌, ◌-◌, ◌<◌, ◌≤◌, nat_le, nat_lt, Bool, ◌||◌, List, [], ◌∷◌, fold, map, Option, None, Some, if◌then◌else◌}
use Rattle.std.specs.List.{AllByRecursion}
use Rattle.std.specs.Ordering.{nat_cmp}
use Rattle.std.specs.BTreeMap.{BTreeMap, IsOrdered, get}
use Rattle.overlap.specs.Holdings.{Holding, holding, lower_of}
use Rattle.overlap.specs.declared.held.Span.{Span}
use Rattle.overlap.specs.declared.held.Holder.{Holder}

-- the intervals in the entries by number
abbrev pub holdings : List (ℕ × Span) → List Holding
holdings entries = map (λ e. holding e.0 e.1.first e.1.count) entries

-- one interval ends where the other begins, or before
abbrev pub EndsBefore : ℕ × Holder → ℕ × Holder → Type 0
EndsBefore e later = (e.0 < later.0) × (e.0 + e.1.count ≤ later.0)

-- each of the intervals ends before those that follow it
abbrev pub AreApart : List (ℕ × Holder) → Type 0
AreApart [] = Unit {0}
AreApart (e ∷ es) = AllByRecursion (EndsBefore e) es × AreApart es

-- whether the interval has a block from `first` on
abbrev pub reaches : ℕ → ℕ × Holder → Bool
reaches first e = nat_le first e.0 || nat_lt (first - e.0) e.1.count

-- the lowest number so far, with another interval
abbrev pub lowest_with : ℕ → Option ℕ → ℕ × Holder → Option ℕ
lowest_with first lowest e = if reaches first e then Some (lower_of lowest e.1.number) else lowest

-- the lowest number of the intervals that have a block from `first` on
abbrev pub lowest_of : ℕ → List (ℕ × Holder) → Option ℕ
lowest_of first es = fold (lowest_with first) None es

-- Each map has what the other has, by its own key, no interval is empty, and no two have a block in common.
pub record AreTied (by_number : BTreeMap ℕ Span) (by_first : BTreeMap ℕ Holder) : Type 0 where
  pub forth : (n : ℕ) (s : Span) → get nat_cmp by_number n ≡ Some s → get nat_cmp by_first s.first ≡ Some (record { number = n; count = s.count })
  pub back : (f : ℕ) (h : Holder) → get nat_cmp by_first f ≡ Some h → get nat_cmp by_number h.number ≡ Some (record { first = f; count = h.count })
  pub some : (n : ℕ) (s : Span) → get nat_cmp by_number n ≡ Some s → 0 < s.count
  pub apart : (a b : ℕ) (g h : Holder) → get nat_cmp by_first a ≡ Some g → get nat_cmp by_first b ≡ Some h → a < b → a + g.count ≤ b
  pub ordered : IsOrdered nat_cmp by_number
