-- All portions of a READ, one after another.
use Rattle.std.specs.Prelude.{ℕ, ◌≡◌, ◌+◌, ◌<◌, List, [], ◌∷◌}
use Rattle.serve_requests.specs.Reading.{ReadingState, after, portion}

-- the byte of the device with which the next portion begins, and how many bytes it has
abbrev pub place_of : ReadingState → ℕ × ℕ
place_of r = (r.request.offset + r.told, portion r)

-- these are the portions that are left, until all bytes are told
abbrev pub ArePortions : ReadingState → List (ℕ × ℕ) → Type 0
ArePortions r [] = r.told ≡ r.request.length
ArePortions r (p ∷ ps) = (r.told < r.request.length) × ((p ≡ place_of r) × ArePortions (after r) ps)
