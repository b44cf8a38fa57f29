-- What is in memory of the last writes, where writes are accepted, released and forgotten.
use Rattle.std.proofs.Common.{◌≡◌, ℕ, zero, suc, ◌+◌, ◌-◌, ◌<◌, ◌≤◌, ◌==◌, ◌⊎◌, inl, inr, Bool, true, false, ◌&&◌, not, List, [], ◌∷◌, ◌++◌, length, take, drop}
use Rattle.std.proofs.Common.{refl, sym, ◌∙◌, ap, subst, arith, Option}
use Rattle.std.proofs.Common.{Some, None, length-append, get_or}
use Rattle.std.specs.Prelude.{Contains, IfSome, filter, map, replicate, if◌then◌else◌}
use Rattle.std.specs.List.{slice_get, AllByRecursion}
use Rattle.std.proofs.lemmas.Bool.{cases_lt}
use Rattle.std.proofs.lemmas.Bool.Decides.{nat_tests}
use Rattle.std.proofs.lemmas.List.{get_or-replicate, length-drop, length-replicate, length-take, length-take-le}
use Rattle.std.proofs.lemmas.Option.{slice_get-get_or}
use Rattle.blocks.specs.Ranges.{is_between}
use Rattle.transferlog.specs.Writes.{LogWrite, released_of, unlinking}
use Rattle.transferlog.specs.Ring.{Each, Rises}
use Rattle.transferlog.specs.Log.{clears, is_number, with_last_write}
use Rattle.transferlog.specs.LastWrites.{LastWritesState, HasOther, IsApart, IsNoted, IsNotedRelease, IsNotedWrite, IsSmall, forgotten, forgotten_all, known_at}
use Rattle.transferlog.specs.LastWrites.{noted}
use Rattle.transferlog.specs.declared.report.Released.{Released}
use Rattle.transferlog.proofs.Moves.{each_filter, number_is}

-- The numbers of a list that a range was written over.

get-left : (xs ys : List ℕ) (b : ℕ) → b < length xs → slice_get (xs ++ ys) b ≡ slice_get xs b
get-left [] ys b less = absurd (omega arith)
get-left (x ∷ xs) ys zero less = refl
get-left (x ∷ xs) ys (suc b) less = get-left xs ys b (omega arith)

get-right : (xs ys : List ℕ) (b c : ℕ) → b ≡ length xs + c → slice_get (xs ++ ys) b ≡ slice_get ys c
get-right [] ys b c is = let same : b ≡ c = omega (arith, is) in rw same refl
get-right (x ∷ xs) ys zero c is = absurd (omega (arith, is))
get-right (x ∷ xs) ys (suc b) c is = get-right xs ys b c (omega (arith, is))

get-take : (n : ℕ) (xs : List ℕ) (b : ℕ) → b < n → slice_get (take n xs) b ≡ slice_get xs b
get-take zero xs b less = absurd (omega arith)
get-take (suc n) [] b less = refl
get-take (suc n) (x ∷ xs) zero less = refl
get-take (suc n) (x ∷ xs) (suc b) less = get-take n xs b (omega arith)

get-drop : (n : ℕ) (xs : List ℕ) (b c : ℕ) → b ≡ n + c → slice_get (drop n xs) c ≡ slice_get xs b
get-drop zero xs b c is = let same : b ≡ c = omega (arith, is) in rw same refl
get-drop (suc n) [] b c is = refl
get-drop (suc n) (x ∷ xs) zero c is = absurd (omega (arith, is))
get-drop (suc n) (x ∷ xs) (suc b) c is = get-drop n xs b c (omega (arith, is))

get-replicate : (n number b : ℕ) → b < n → slice_get (replicate n number) b ≡ Some number
get-replicate n number b less =
    let long = length-replicate n number in
    slice_get-get_or (replicate n number) b 0 (omega (arith, long)) ∙ ap Some (get_or-replicate n b number 0 less)

between_before : (first count b : ℕ) → b < first → is_between first count b ≡ false
between_before first count b less = grind (arith, nat_tests)

between_past : (first count b : ℕ) → first + count ≤ b → is_between first count b ≡ false
between_past first count b past = grind (arith, nat_tests)

between_in : (first count b : ℕ) → first ≤ b → b < first + count → is_between first count b ≡ true
between_in first count b least less = grind (arith, nat_tests)

-- the last write of a block, after one more write
pub last_write_of : (number first count : ℕ) (xs : List ℕ) (b : ℕ) → first + count ≤ length xs
    → slice_get (with_last_write number first count xs) b ≡ (if is_between first count b then Some number else slice_get xs b)
last_write_of number first count xs b inside = go (cases_lt b first) (cases_lt b (first + count))
  where
    t-long : length (take first xs) ≡ first
    t-long = length-take-le first xs (omega (arith, inside))

    tr-long : length (take first xs ++ replicate count number) ≡ first + count
    tr-long = omega (arith, length-append (take first xs) (replicate count number), length-replicate count number, t-long)

    go : (b < first) ⊎ (first ≤ b) → (b < first + count) ⊎ (first + count ≤ b)
        → slice_get ((take first xs ++ replicate count number) ++ drop (first + count) xs) b ≡ (if is_between first count b then Some number else slice_get xs b)
    go (inl before) end =
        rw (between_before first count b before) (get-left (take first xs ++ replicate count number) (drop (first + count) xs) b (omega (arith, tr-long))
        ∙ (get-left (take first xs) (replicate count number) b (omega (arith, t-long)) ∙ get-take first xs b before))
    go (inr from) (inl below) =
        rw (between_in first count b from below) (get-left (take first xs ++ replicate count number) (drop (first + count) xs) b (omega (arith, tr-long))
        ∙ (get-right (take first xs) (replicate count number) b (b - first) (omega (arith, t-long)) ∙ get-replicate count number (b - first) (omega arith)))
    go (inr from) (inr past) =
        rw (between_past first count b past) (get-right (take first xs ++ replicate count number) (drop (first + count) xs) b (b - (first + count)) (omega (arith, tr-long))
        ∙ get-drop (first + count) xs b (b - (first + count)) (omega arith))

pub length-with_last_write : (number first count : ℕ) (xs : List ℕ) → first + count ≤ length xs → length (with_last_write number first count xs) ≡ length xs
length-with_last_write number first count xs inside = simp (length-append, length-replicate, length-take, length-drop) (omega (arith, inside))

-- What is in memory.

-- of a number that was put in, or of another
pub picked : (b : Bool) (number new : ℕ) (seen known : Option ℕ) → (if b then Some new else seen) ≡ Some number → (seen ≡ Some number → known ≡ Some number)
    → (if b then Some new else known) ≡ Some number
picked true number new seen known is so = is
picked false number new seen known is so = so is

differs : (a b : ℕ) → (b ≡ a → ⊥) → (a == b) ≡ false
differs a b other = go (a == b) refl
  where
    go : (v : Bool) → (a == b) ≡ v → (a == b) ≡ false
    go true is = absurd (other (sym (number_is a b is)))
    go false is = is

unless : (a b : Bool) (number : ℕ) → b ≡ false → (if a && b then None else Some number) ≡ Some number
unless true b number is = rw is refl
unless false b number is = refl

one_kept : (r : Released) (number block : ℕ) (known : Option ℕ) → HasOther number r → known ≡ Some number → forgotten r block known ≡ Some number
one_kept r number block known other is = rw is (unless (is_between r.first r.count block) (number == r.number) number (differs number r.number other))

kept_known : (rs : List Released) (number block : ℕ) (known : Option ℕ) → AllByRecursion (HasOther number) rs → known ≡ Some number
    → forgotten_all rs block known ≡ Some number
kept_known [] number block known others is = is
kept_known (r ∷ rs) number block known others is = kept_known rs number block (forgotten r block known) others.1 (one_kept r number block known others.0 is)

pub not_forgotten : (b : Bool) (number : ℕ) (known : Option ℕ) → (if b then None else known) ≡ Some number → known ≡ Some number
not_forgotten true number known is = cc
not_forgotten false number known is = is

noted_still : (s t : LastWritesState) (rs : List Released) (number first count : ℕ) → t.numbers ≡ s.numbers
    → ((block : ℕ) → known_at block t ≡ forgotten_all rs block (known_at block s)) → AllByRecursion (HasOther number) rs
    → IsNoted s number first count → IsNoted t number first count
noted_still s t rs number first count numbers known others it = record {
  small = it.small;
  known = λ block inside last. known block
      ∙ kept_known rs number block (known_at block s) others (it.known block inside (sym (ap (λ (xs : List ℕ). slice_get xs block) numbers) ∙ last));
}

-- writes are noted still, after others were forgotten
pub each_noted_still : (s t : LastWritesState) (rs : List Released) (ws : List LogWrite) → t.numbers ≡ s.numbers
    → ((block : ℕ) → known_at block t ≡ forgotten_all rs block (known_at block s)) → Each (IsApart rs) ws → Each (IsNotedWrite s) ws → Each (IsNotedWrite t) ws
each_noted_still s t rs [] numbers known apart each = tt
each_noted_still s t rs (w ∷ ws) numbers known apart each =
    (noted_still s t rs w.number w.first w.count numbers known apart.0 each.0, each_noted_still s t rs ws numbers known apart.1 each.1)

noted_same : (s t : LastWritesState) (number first count : ℕ) → t.numbers ≡ s.numbers → ((block : ℕ) → known_at block t ≡ known_at block s)
    → IsNoted s number first count → IsNoted t number first count
noted_same s t number first count numbers known it = noted_still s t [] number first count numbers known tt it

-- the same where nothing was forgotten
pub each_noted_same : (s t : LastWritesState) (ws : List LogWrite) → t.numbers ≡ s.numbers → ((block : ℕ) → known_at block t ≡ known_at block s)
    → Each (IsNotedWrite s) ws → Each (IsNotedWrite t) ws
each_noted_same s t [] numbers known each = tt
each_noted_same s t (w ∷ ws) numbers known each = (noted_same s t w.number w.first w.count numbers known each.0, each_noted_same s t ws numbers known each.1)

pub all_noted_same : (s t : LastWritesState) (rs : List Released) → t.numbers ≡ s.numbers → ((block : ℕ) → known_at block t ≡ known_at block s)
    → AllByRecursion (IsNotedRelease s) rs → AllByRecursion (IsNotedRelease t) rs
all_noted_same s t [] numbers known all = tt
all_noted_same s t (r ∷ rs) numbers known all = (noted_same s t r.number r.first r.count numbers known all.0, all_noted_same s t rs numbers known all.1)

-- One more write is noted.

noted_more : (s t : LastWritesState) (new at many number first count : ℕ) → at + many ≤ length s.numbers → t.numbers ≡ with_last_write new at many s.numbers
    → ((block : ℕ) → known_at block t ≡ noted new at many block (known_at block s)) → IsNoted s number first count → IsNoted t number first count
noted_more s t new at many number first count inside numbers known it = record {
  small = it.small;
  known = λ block covered last. known block ∙ picked (is_between at many block) number new (slice_get s.numbers block) (known_at block s)
      (sym (last_write_of new at many s.numbers block inside) ∙ (sym (ap (λ (xs : List ℕ). slice_get xs block) numbers) ∙ last)) (it.known block covered);
}

pub each_noted_more : (s t : LastWritesState) (new at many : ℕ) (ws : List LogWrite) → at + many ≤ length s.numbers → t.numbers ≡ with_last_write new at many s.numbers
    → ((block : ℕ) → known_at block t ≡ noted new at many block (known_at block s)) → Each (IsNotedWrite s) ws → Each (IsNotedWrite t) ws
each_noted_more s t new at many [] inside numbers known each = tt
each_noted_more s t new at many (w ∷ ws) inside numbers known each =
    (noted_more s t new at many w.number w.first w.count inside numbers known each.0, each_noted_more s t new at many ws inside numbers known each.1)

pub noted_new : (s t : LastWritesState) (new at many : ℕ) → IsSmall at many
    → ((block : ℕ) → known_at block t ≡ noted new at many block (known_at block s)) → IsNoted t new at many
noted_new s t new at many small known = record { small = small; known = λ block covered last. known block ∙ rw covered refl }

pub each_push : (P : LogWrite → Type 0) (ws : List LogWrite) (w : LogWrite) → Each P ws → P w → Each P (ws ++ w ∷ [])
each_push P [] w each here = (here, tt)
each_push P (v ∷ ws) w each here = (each.0, each_push P ws w each.1 here)

pub each_apart : (ws : List LogWrite) → Each (IsApart []) ws
each_apart [] = tt
each_apart (w ∷ ws) = (tt, each_apart ws)

-- Writes are released.

each_from : (k low : ℕ) (ws : List LogWrite) → k ≤ low → Rises low ws → Each (λ w. k ≤ w.number) ws
each_from k low [] from rises = tt
each_from k low (w ∷ ws) from rises = (omega (arith, rises.0), each_from k (suc w.number) ws (omega (arith, rises.0)) rises.1)

more_apart : (w : LogWrite) (rs : List Released) (ws : List LogWrite) → Each (λ v. suc w.number ≤ v.number) ws → Each (IsApart rs) ws
    → Each (IsApart (released_of w ∷ rs)) ws
more_apart w rs [] above each = tt
more_apart w rs (v ∷ ws) above each = (((λ same. absurd (omega (arith, above.0))), each.0), more_apart w rs ws above.1 each.1)

others_above : (w : LogWrite) (ws : List LogWrite) → Each (λ v. suc w.number ≤ v.number) ws → AllByRecursion (HasOther w.number) (map released_of ws)
others_above w [] above = tt
others_above w (v ∷ ws) above = ((λ same. absurd (omega (arith, above.0))), others_above w ws above.1)

apart_by : (b : Bool) (w : LogWrite) (gone left : List LogWrite) → Each (λ v. suc w.number ≤ v.number) gone → Each (λ v. suc w.number ≤ v.number) left
    → Each (IsApart (map released_of gone)) left → Each (IsApart (map released_of (if b then w ∷ gone else gone))) (if not b then w ∷ left else left)
apart_by true w gone left above_gone above_left each = more_apart w (map released_of gone) left above_left each
apart_by false w gone left above_gone above_left each = (others_above w gone above_gone, each)

apart_released : (p : LogWrite → Bool) (low : ℕ) (ws : List LogWrite) → Rises low ws
    → Each (IsApart (map released_of (filter p ws))) (filter (λ w. not (p w)) ws)
apart_released p low [] rises = tt
apart_released p low (w ∷ ws) rises =
    let above = each_from (suc w.number) (suc w.number) ws (omega arith) rises.1 in
    apart_by (p w) w (filter p ws) (filter (λ v. not (p v)) ws) (each_filter (λ v. suc w.number ≤ v.number) p ws above)
    (each_filter (λ v. suc w.number ≤ v.number) (λ v. not (p v)) ws above) (apart_released p (suc w.number) ws rises.1)

all_released : (s : LastWritesState) (ws : List LogWrite) → Each (IsNotedWrite s) ws → AllByRecursion (IsNotedRelease s) (map released_of ws)
all_released s [] each = tt
all_released s (w ∷ ws) each = (each.0, all_released s ws each.1)

-- what is kept of the writes that are left and of those that are released
pub record AreNoted (s : LastWritesState) (ws : List LogWrite) (rs : List Released) : Type 0 where
  pub writes : Each (IsNotedWrite s) ws
  pub releases : AllByRecursion (IsNotedRelease s) rs
  pub apart : Each (IsApart rs) ws

pub noted_released : (s : LastWritesState) (p : LogWrite → Bool) (ws : List LogWrite) → Rises 0 ws → Each (IsNotedWrite s) ws
    → AreNoted s (filter (λ w. not (p w)) ws) (map released_of (filter p ws))
noted_released s p ws rises each = record {
  writes = each_filter (IsNotedWrite s) (λ w. not (p w)) ws each;
  releases = all_released s (filter p ws) (each_filter (IsNotedWrite s) p ws each);
  apart = apart_released p 0 ws rises;
}

-- nothing was released
pub noted_quiet : (s t : LastWritesState) (before now : List Released) (ws : List LogWrite) → t.numbers ≡ s.numbers
    → ((block : ℕ) → known_at block t ≡ forgotten_all before block (known_at block s)) → Each (IsApart before) ws → Each (IsNotedWrite s) ws → now ≡ []
    → AreNoted t ws now
noted_quiet s t before now ws numbers known apart each none = record {
  writes = each_noted_still s t before ws numbers known apart each;
  releases = rw none tt;
  apart = rw none (each_apart ws);
}

-- the writes lose their connection
pub each_noted_unlinked : (s : LastWritesState) (ws : List LogWrite) → Each (IsNotedWrite s) ws → Each (IsNotedWrite s) (map unlinking ws)
each_noted_unlinked s [] each = tt
each_noted_unlinked s (w ∷ ws) each = (each.0, each_noted_unlinked s ws each.1)

-- what holds of each holds of one of them
pub contained : (P : Released → Type 0) (rs : List Released) (r : Released) (k : ℕ) → AllByRecursion P rs → k < length rs → get_or rs k r ≡ r → P r
contained P [] r k all inside is = absurd (omega arith)
contained P (x ∷ rs) r zero all inside is = subst P is all.0
contained P (x ∷ rs) r (suc k) all inside is = contained P rs r k all.1 (omega arith) is

found_number : (n : ℕ) (found seen : Option ℕ) → IfSome found (λ k. seen ≡ Some k) → (seen ≡ Some n → found ≡ Some n) → is_number n found ≡ is_number n seen
found_number n (Some k) seen is so = rw is refl
found_number n None None is so = refl
found_number n None (Some k) is so = go (k == n) refl
  where
    apart : None ≡ Some n → ⊥
    apart same = cc

    go : (b : Bool) → (k == n) ≡ b → false ≡ (k == n)
    go true same = absurd (apart (so (ap Some (number_is k n same))))
    go false other = sym other

-- whether a release clears a mark, by the number that was found for the block
pub clears_is : (r : Released) (block : ℕ) (last_writes : List ℕ) (rs : List Released) (found : Option ℕ) → r.clears ≡ true → is_between r.first r.count block ≡ true
    → IfSome found (λ n. slice_get last_writes block ≡ Some n)
    → AllByRecursion (λ s. is_between s.first s.count block ≡ true → slice_get last_writes block ≡ Some s.number → found ≡ Some s.number) rs
    → Contains rs r → is_number r.number found ≡ clears r block last_writes
clears_is r block last_writes rs found clears inside last known reported =
    rw (clears, inside) (found_number r.number found (slice_get last_writes block) last
    (contained (λ s. is_between s.first s.count block ≡ true → slice_get last_writes block ≡ Some s.number → found ≡ Some s.number) rs r reported.0 known
    reported.1 reported.2 inside))
