-- The marks that released writes clear.
use Rattle.std.proofs.Common.{ℕ, zero, suc, ◌≡◌, ◌+◌, ◌<◌, ◌≤◌, inl, inr, Bool, true, false, not, ◌&&◌, ◌||◌, List, [], ◌∷◌, ◌++◌, length, map, Option, Some}
use Rattle.std.proofs.Common.{slice_get, refl, sym, ◌∙◌, ap, arith, ◌==◌}
use Rattle.std.specs.Prelude.{unwrap_or, option_map, if◌then◌else◌}
use Rattle.std.specs.List.{list_any}
use Rattle.std.proofs.lemmas.Bool.{cases_lt, both_ways, and_parts, and_from, eqb-true, eq-eqb, false_from_ne_true, not-true}
use Rattle.std.proofs.lemmas.List.{length-append, length-map}
use Rattle.std.proofs.lemmas.Option.{slice_get_within, slice_get-map}
use Rattle.std.proofs.Math.Bool.{and-true}
use Rattle.blocks.specs.declared.settings.Settings.{Settings}
use Rattle.blocks.specs.Ranges.{below, is_between}
use Rattle.model.specs.Contents.{covers}
use Rattle.model.specs.Marks.{is_cleared}
use Rattle.model.specs.Primary.{Accepted, PrimaryHistory, primary_connection, is_alone, is_released, unreleased}
use Rattle.bitmap.specs.Marks.{marked, marking_from, marking}
use Rattle.transferlog.specs.Log.{clears, is_number}
use Rattle.transferlog.specs.Writes.{released_of}
use Rattle.transferlog.specs.declared.report.Released.{Released}
use Rattle.laws.proofs.Rules.ReleaseClears.{clears-it}
use Rattle.laws.proofs.Lists.Elements.{get-left, get-end}
use Rattle.laws.proofs.Lists.Picks.{pick-any, any-pick, pick-filtered, pick-below}
use Rattle.laws.proofs.Primary.Ends.{established-parts}
use Rattle.laws.proofs.Primary.Homes.{HasHomes, alone-at}
use Rattle.laws.proofs.Releases.InOrderMoves.{Ordered}
use Rattle.laws.proofs.Primary.LastOpen.{IsLastOpen}
use Rattle.laws.proofs.Releases.Cleared.{IsNew, IsRelease, release-clearing}
use Rattle.primary_protocol.specs.Core.{unmarking}
use Rattle.primary_protocol.specs.Leaves.{logged_of, latest_in, marks_in}
use Rattle.primary_protocol.proofs.Common.Filters.{map-at, any-at}
use Rattle.primary_protocol.proofs.Common.Numbers.{AreNumberedFrom, numbered-rest, numbered-first}
use Rattle.primary_protocol.proofs.Common.WriteStates.{disk-seen}

-- The blocks of a device.

pub length-below : (n : ℕ) → length (below n) ≡ n
length-below zero = refl
length-below (suc n) = let rest = length-below n in let more = length-append (below n) (n ∷ []) in omega arith

pub get-below : (n k : ℕ) → k < n → slice_get (below n) k ≡ Some k
get-below zero k less = absurd (omega arith)
get-below (suc n) k less = elim (cases_lt k n) [
  | inl front ↦ get-left (below n) (n ∷ []) k k (get-below n k front)
  | inr last ↦
      let size = length-below n in
      let index : length (below n) ≡ k = omega arith in
      let same : n ≡ k = omega arith in
      ap (slice_get (below n ++ n ∷ [])) (sym index) ∙ (get-end (below n) n ∙ ap (λ (m : ℕ). Some m) same)
]

pub length-marks : (blocks : ℕ) (marks : ℕ → Bool) → length (marks_in blocks marks) ≡ blocks
length-marks blocks marks = length-map (below blocks) marks ∙ length-below blocks

pub marked-in : (blocks : ℕ) (marks : ℕ → Bool) (block : ℕ) → block < blocks → marked (marks_in blocks marks) block ≡ marks block
marked-in blocks marks block inside =
    ap (λ (v : Option Bool). unwrap_or v false) (slice_get-map marks (below blocks) block ∙ ap (option_map marks) (get-below blocks block inside))

-- marks that agree on the device are the same there
pub marks-same : (blocks : ℕ) (marks other : ℕ → Bool) → ((block : ℕ) → block < blocks → marks block ≡ other block)
    → marks_in blocks marks ≡ marks_in blocks other
marks-same blocks marks other same = map-at marks other (below blocks) (λ i block at. same block (pick-below blocks i block at))

-- more marks
pub marking-in : (blocks : ℕ) (such marks : ℕ → Bool) → marking such (marks_in blocks marks) ≡ marks_in blocks (λ block. marks block || such block)
marking-in blocks such marks = go 0 (below blocks)
    (λ i block at. let is = sym (get-below blocks i (let within = slice_get_within (below blocks) i block at in let size = length-below blocks in omega arith))
    ∙ at in let same : i ≡ block = cc in omega arith)
  where
    go : (from : ℕ) (xs : List ℕ) → ((i block : ℕ) → slice_get xs i ≡ Some block → block ≡ from + i)
        → marking_from from such (map marks xs) ≡ map (λ block. marks block || such block) xs
    go from [] rising = refl
    go from (x ∷ xs) rising =
        let first : x ≡ from = let at = rising 0 x refl in omega arith in
        (λ i. (marks x || such (sym first i)) ∷ go (suc from) xs (λ j block at. let is = rising (suc j) block at in omega arith) i)

-- The last write of a block.

latest-grows : (m : ℕ) (ws : List Accepted) (block number : ℕ) → AreNumberedFrom m ws → number < m → number ≤ latest_in ws block number
latest-grows m [] block number numbered less = omega arith
latest-grows m (a ∷ ws) block number numbered less = go (covers a.write block) (latest-grows (suc m) ws block a.write.number (numbered-rest m a ws numbered))
    (latest-grows (suc m) ws block number (numbered-rest m a ws numbered))
  where
    first : a.write.number ≡ m
    first = numbered-first m a ws numbered

    go : (b : Bool) → (a.write.number < suc m → a.write.number ≤ latest_in ws block a.write.number) → (number < suc m → number ≤ latest_in ws block number)
        → number ≤ latest_in ws block (if b then a.write.number else number)
    go true here on = let is = first in let rest = here (omega arith) in omega arith
    go false here on = on (omega arith)

latest-above : (m : ℕ) (ws : List Accepted) (block number j : ℕ) (b : Accepted) → AreNumberedFrom m ws → slice_get ws j ≡ Some b → covers b.write block ≡ true
    → number < m → b.write.number ≤ latest_in ws block number
latest-above m [] block number j b numbered at covered less = absurd (cc)
latest-above m (a ∷ ws) block number zero b numbered at covered less =
    let same : a ≡ b = cc in
    let first = numbered-first m a ws numbered in
    let here : covers a.write block ≡ true = rw same covered in
    let grows = latest-grows (suc m) ws block a.write.number (numbered-rest m a ws numbered) (omega arith) in
    let number_is : a.write.number ≡ b.write.number = ap (λ (x : Accepted). x.write.number) same in
    let so : latest_in (a ∷ ws) block number ≡ latest_in ws block a.write.number = ap (λ t. latest_in ws block (if t then a.write.number else number)) here in
    omega arith
latest-above m (a ∷ ws) block number (suc j) b numbered at covered less = latest-above (suc m) ws block (if covers a.write block then a.write.number
    else number) j b (numbered-rest m a ws numbered) at covered (below_next (covers a.write block))
  where
    below_next : (t : Bool) → (if t then a.write.number else number) < suc m
    below_next true = let first = numbered-first m a ws numbered in omega arith
    below_next false = omega arith

latest-none : (ws : List Accepted) (block number : ℕ) → ((j : ℕ) (b : Accepted) → slice_get ws j ≡ Some b → covers b.write block ≡ false)
    → latest_in ws block number ≡ number
latest-none [] block number none = refl
latest-none (a ∷ ws) block number none = ap (λ t. latest_in ws block (if t then a.write.number else number)) (none 0 a refl)
    ∙ latest-none ws block number (λ j b at. none (suc j) b at)

latest-is : (ws : List Accepted) (block number i : ℕ) (a : Accepted) → slice_get ws i ≡ Some a → covers a.write block ≡ true
    → ((j : ℕ) (b : Accepted) → i < j → slice_get ws j ≡ Some b → covers b.write block ≡ false) → latest_in ws block number ≡ a.write.number
latest-is [] block number i a at covered last = absurd (cc)
latest-is (x ∷ ws) block number zero a at covered last =
    let same : x ≡ a = cc in
    let here : covers x.write block ≡ true = rw same covered in
    ap (λ t. latest_in ws block (if t then x.write.number else number)) here
    ∙ (latest-none ws block x.write.number (λ j b at. last (suc j) b (omega arith) at) ∙ ap (λ (y : Accepted). y.write.number) same)
latest-is (x ∷ ws) block number (suc i) a at covered last = latest-is ws block (if covers x.write block then x.write.number
    else number) i a at covered (λ j b after there. last (suc j) b (omega arith) there)

-- What a step's report has: the writes that the step releases, and no other.
pub record Reports (h later : PrimaryHistory) (released : List Released) : Type 0 where
  pub only : (n : ℕ) (r : Released) → slice_get released n ≡ Some r
      → (i : ℕ) × (b : Accepted) × IsNew h later i b × (list_any (λ (was : Accepted). was.write.number == b.write.number) (unreleased h) ≡ true)
      × (r ≡ released_of (logged_of later b))
  pub all : (i : ℕ) (b : Accepted) → IsNew h later i b → (n : ℕ) × (slice_get released n ≡ Some (released_of (logged_of later b)))

module _ (settings : Settings) (h later : PrimaryHistory) (released : List Released) (last_writes : List ℕ) (ordered : Ordered settings h) (homes : HasHomes later)
    (shut : IsLastOpen later) (release : IsRelease h later) (reports : Reports h later released) where
  from-one : AreNumberedFrom 1 later.writes
  from-one i a at = homes.numbered i a at ∙ omega arith

  -- a block that the report clears is cleared
  forth : (block : ℕ) → slice_get last_writes block ≡ Some (latest_in later.writes block 0) → list_any (λ r. clears r block last_writes) released ≡ true
      → is_cleared h later block ≡ true
  forth block latest_is some =
      let r = pick-any (λ r. clears r block last_writes) released some in
      let of = reports.only r.0 r.1 r.2 in
      let b : Accepted = of.1 in
      let passed : clears (released_of (logged_of later of.1)) block last_writes ≡ true = ap (λ x. clears x block last_writes) (sym of.4) ∙ r.3 in
      let outer = and_parts ((not (is_alone later of.1) && _) && is_between of.1.write.first (length of.1.write.contents) block)
      (is_number of.1.write.number (slice_get last_writes block)) passed in
      let inner = and_parts (not (is_alone later of.1) && _) (is_between of.1.write.first (length of.1.write.contents) block) outer.0 in
      let linked = and_parts (not (is_alone later of.1)) _ inner.0 in
      let newest : latest_in later.writes block 0 ≡ of.1.write.number = eqb-true (latest_in later.writes block 0) of.1.write.number
      (ap (is_number of.1.write.number) (sym latest_is) ∙ outer.1) in
      clears-it h later block (record {
        index = of.0;
        accepted = of.1;
        at = of.2.at;
        covered = inner.1;
        was = of.3;
        released = of.2.now;
        done = sym (disk-seen of.1.outcome) ∙ linked.1;
        linked = not-true (is_alone later of.1) linked.0;
        last = λ j later_one there more. false_from_ne_true (covers later_one.write block) (λ its.
            let stood = pick-filtered (λ (x : Accepted). not (is_released later x)) later.writes j later_one there in
            let bound = latest-above 1 later.writes block 0 stood.0 later_one from-one stood.1 its (omega arith) in
            omega arith);
      })

  -- and the other way
  back : (block : ℕ) → slice_get last_writes block ≡ Some (latest_in later.writes block 0) → is_cleared h later block ≡ true
      → list_any (λ r. clears r block last_writes) released ≡ true
  back block latest_is cleared =
      let w = release-clearing settings h later block ordered homes shut release cleared in
      let a : Accepted = w.cleared.accepted in
      let there = reports.all w.cleared.index w.cleared.accepted w.new in
      let unshut : is_alone later w.cleared.accepted ≡ false = alone-at later w.cleared.accepted _ (primary_connection later) w.cleared.home w.cleared.connected
      ∙ (established-parts (primary_connection later) w.cleared.standing).0 in
      let newest : latest_in later.writes block 0 ≡ w.cleared.accepted.write.number =
      latest-is later.writes block 0 w.cleared.index w.cleared.accepted w.cleared.at w.cleared.covered w.cleared.last in
      any-pick (λ r. clears r block last_writes) released there.0 (released_of (logged_of later w.cleared.accepted)) there.1
      (and_from _ _ (and_from _ _ (and_from _ _ (ap not unshut) (disk-seen w.cleared.accepted.outcome ∙ w.cleared.done)) w.cleared.covered)
      (ap (is_number w.cleared.accepted.write.number) latest_is ∙ eq-eqb (latest_in later.writes block 0) w.cleared.accepted.write.number newest))

  -- The marks that the report leaves are those that the history leaves.
  pub unmarking-is : (blocks : ℕ) (marks : ℕ → Bool) → last_writes ≡ map (λ block. latest_in later.writes block 0) (below blocks)
      → unmarking released last_writes (marks_in blocks marks) ≡ marks_in blocks (λ block. marks block && not (is_cleared h later block))
  unmarking-is blocks marks latest_is =
      ap (λ n. map (λ block. marked (marks_in blocks marks) block && not (list_any (λ r. clears r block last_writes) released)) (below n))
      (length-marks blocks marks)
      ∙ marks-same blocks (λ block. marked (marks_in blocks marks) block && not (list_any (λ r. clears r block last_writes) released))
      (λ block. marks block && not (is_cleared h later block))
      (λ block inside. λ i. marked-in blocks marks block inside i && not (same block inside i))
    where
      same : (block : ℕ) → block < blocks → list_any (λ r. clears r block last_writes) released ≡ is_cleared h later block
      same block inside =
          let known : slice_get last_writes block ≡ Some (latest_in later.writes block 0) = ap (λ (l : List ℕ). slice_get l block) latest_is
          ∙ (slice_get-map (λ block. latest_in later.writes block 0) (below blocks) block
          ∙ ap (option_map (λ block. latest_in later.writes block 0)) (get-below blocks block inside)) in
          both-ways known (list_any (λ r. clears r block last_writes) released) (is_cleared h later block) refl refl
        where
          both-ways : slice_get last_writes block ≡ Some (latest_in later.writes block 0) → (b d : Bool) → list_any (λ r. clears r block last_writes) released ≡ b
              → is_cleared h later block ≡ d → b ≡ d
          both-ways known true d some is = sym (forth block known some) ∙ is
          both-ways known false true none is = absurd (both_ways (list_any (λ r. clears r block last_writes) released) none (back block known is))
          both-ways known false false none is = refl

-- Reports that clear nothing leave the marks.
pub unmarking-none : (released : List Released) (last_writes : List ℕ) (blocks : ℕ) (marks : ℕ → Bool)
    → ((n : ℕ) (r : Released) → slice_get released n ≡ Some r → r.clears ≡ false)
    → unmarking released last_writes (marks_in blocks marks) ≡ marks_in blocks marks
unmarking-none released last_writes blocks marks none =
    ap (λ n. map (λ block. marked (marks_in blocks marks) block && not (list_any (λ r. clears r block last_writes) released)) (below n)) (length-marks blocks marks)
    ∙ marks-same blocks (λ block. marked (marks_in blocks marks) block && not (list_any (λ r. clears r block last_writes) released)) marks
    (λ block inside. ap (λ b. marked (marks_in blocks marks) block && not b)
    (any-at (λ r. clears r block last_writes) (λ r. false) released
    (λ n r at. ap (λ b. (b && is_between r.first r.count block) && is_number r.number (slice_get last_writes block)) (none n r at)) ∙ nothing released)
    ∙ (and-true (marked (marks_in blocks marks) block) ∙ marked-in blocks marks block inside))
  where
    nothing : (rs : List Released) → list_any (λ (r : Released). false) rs ≡ false
    nothing [] = refl
    nothing (r ∷ rs) = nothing rs
