-- A write is accepted: what it is in the log, in the lists, and in its epoch.
use Rattle.std.proofs.Common.{ℕ, zero, suc, ◌≡◌, ◌+◌, ◌*◌, ◌/◌, ◌<◌, ◌≤◌, Bool, true, false, ◌&&◌, List, [], ◌∷◌, ◌++◌, length, map, filter, take, drop, Some}
use Rattle.std.proofs.Common.{slice_get, refl, sym, ◌∙◌, ap, arith, nat_lt, nat_le, ◌==◌}
use Rattle.std.specs.Prelude.{replicate, if◌then◌else◌}
use Rattle.std.specs.List.{concat}
use Rattle.std.proofs.lemmas.Bool.{and_parts, eqb-true, le-leb, lt-leb, lt-ltb, le-ltb, false_from_ne_true, leb-true, ltb-true}
use Rattle.std.proofs.lemmas.List.{take-append-drop, length-drop}
use Rattle.std.proofs.lemmas.List.Elements.{filter-append}
use Rattle.std.proofs.lemmas.Option.{slice_get_within}
use Rattle.blocks.specs.Contents.{cut, blocks_of}
use Rattle.blocks.specs.Ranges.{below, is_between}
use Rattle.model.specs.Contents.{covers}
use Rattle.model.specs.Primary.{Accepted}
use Rattle.overlap.specs.Holdings.{Holding, holding_too}
use Rattle.transferlog.specs.Log.{with_last_write}
use Rattle.primary_protocol.specs.Transitions.{whole_blocks}
use Rattle.primary_protocol.specs.Leaves.{latest_in}
use Rattle.primary_protocol.proofs.Common.Filters.{map-at}
use Rattle.primary_protocol.proofs.Common.Marks.{length-below, get-below}

-- The contents.

concat-cut : (count : ℕ) (bytes : List ℕ) → 4096 * count ≡ length bytes → concat (cut 4096 count bytes) ≡ bytes
concat-cut zero [] whole = refl
concat-cut zero (b ∷ bytes) whole = absurd (omega arith)
concat-cut (suc count) bytes whole =
    let rest : 4096 * count ≡ length (drop 4096 bytes) = let less = length-drop 4096 bytes in omega arith in
    ap (λ l. take 4096 bytes ++ l) (concat-cut count (drop 4096 bytes) rest) ∙ take-append-drop 4096 bytes

-- bytes that are blocks are those of the blocks
pub concat-whole : (bytes : List ℕ) → 0 < length (whole_blocks bytes) → concat (whole_blocks bytes) ≡ bytes
concat-whole bytes some = go (4096 * (length bytes / 4096) == length bytes) refl
  where
    go : (b : Bool) → (4096 * (length bytes / 4096) == length bytes) ≡ b → concat (whole_blocks bytes) ≡ bytes
    go true is = ap (λ b. concat (if b then blocks_of 4096 bytes else [])) is
        ∙ concat-cut (length bytes / 4096) bytes (eqb-true (4096 * (length bytes / 4096)) (length bytes) is)
    go false is = absurd (let none : length (whole_blocks bytes) ≡ 0 = ap (λ b. length (if b then blocks_of 4096 bytes else [])) is in omega arith)

-- and they are these blocks
pub blocks-whole : (bytes : List ℕ) → 0 < length (whole_blocks bytes) → whole_blocks bytes ≡ blocks_of 4096 bytes
blocks-whole bytes some = go (4096 * (length bytes / 4096) == length bytes) refl
  where
    go : (b : Bool) → (4096 * (length bytes / 4096) == length bytes) ≡ b → whole_blocks bytes ≡ blocks_of 4096 bytes
    go true is = ap (λ b. if b then blocks_of 4096 bytes else []) is
    go false is = absurd (let none : length (whole_blocks bytes) ≡ 0 = ap (λ b. length (if b then blocks_of 4096 bytes else [])) is in omega arith)

-- The last write of each block.

latest-front : (g : ℕ → ℕ) (x start count : ℕ) (xs : List ℕ) → count ≤ length xs → ((i b : ℕ) → slice_get xs i ≡ Some b → b ≡ start + i)
    → replicate count x ++ drop count (map g xs) ≡ map (λ b. if is_between start count b then x else g b) xs
latest-front g x start zero xs few rising = map-at g (λ b. if is_between start 0 b then x else g b) xs (λ i b at. sym (ap (λ t. if t then x else g b) (none b)))
  where
    none : (b : ℕ) → is_between start 0 b ≡ false
    none b = false_from_ne_true (is_between start 0 b) (λ is. let parts = and_parts (nat_le start b) (nat_lt b (start + 0)) is in let low =
        leb-true start b parts.0 in let high = ltb-true b (start + 0) parts.1 in omega arith)
latest-front g x start (suc count) [] few rising = absurd (omega arith)
latest-front g x start (suc count) (y ∷ ys) few rising =
    let first : y ≡ start = let is = rising 0 y refl in omega arith in
    let here : is_between start (suc count) y ≡ true = λ i. le-leb start y (omega arith) i && lt-ltb y (start + suc count) (omega arith) i in
    let rest = latest-front g x (suc start) count ys (omega arith) (λ i b at. let is = rising (suc i) b at in omega arith) in
    (λ i. (if sym here i then x else g y) ∷ rest i)
    ∙ ap (λ (l : List ℕ). (if is_between start (suc count) y then x else g y) ∷ l) (map-at (λ b. if is_between (suc start) count b then x
    else g b) (λ b. if is_between start (suc count) b then x else g b) ys (λ i b at.
    let behind = rising (suc i) b at in
    ap (λ t. if t then x else g b) (both b (omega arith))))
  where
    both : (b : ℕ) → start < b → is_between (suc start) count b ≡ is_between start (suc count) b
    both b behind = (λ i. le-leb (suc start) b (omega arith) i && nat_lt b (suc start + count))
        ∙ (ap (λ n. nat_lt b n) (omega arith) ∙ sym (λ i. le-leb start b (omega arith) i && nat_lt b (start + suc count)))

latest-map : (g : ℕ → ℕ) (x start first count : ℕ) (xs : List ℕ) → first + count ≤ length xs → ((i b : ℕ) → slice_get xs i ≡ Some b → b ≡ start + i)
    → take first (map g xs) ++ replicate count x ++ drop (first + count) (map g xs) ≡ map (λ b. if is_between (start + first) count b then x else g b) xs
latest-map g x start zero count xs few rising =
    let same : start + 0 ≡ start = omega arith in
    let none : 0 + count ≡ count = omega arith in
    ap (λ n. replicate count x ++ drop n (map g xs)) none
    ∙ (latest-front g x start count xs (omega arith) rising ∙ ap (λ n. map (λ b. if is_between n count b then x else g b) xs) (sym same))
latest-map g x start (suc first) count [] few rising = absurd (omega arith)
latest-map g x start (suc first) count (y ∷ ys) few rising =
    let here : y ≡ start = let is = rising 0 y refl in omega arith in
    let early : is_between (start + suc first) count y ≡ false = λ i. lt-leb (start + suc first) y (omega arith) i && nat_lt y (start + suc first + count) in
    let count_is : suc first + count ≡ suc (first + count) = omega arith in
    let next : suc start + first ≡ start + suc first = omega arith in
    ap (λ n. g y ∷ (take first (map g ys) ++ replicate count x ++ drop n (g y ∷ map g ys))) count_is
    ∙ (λ i. (if sym early i then x else g y) ∷ (latest-map g x (suc start) first count ys (omega arith) (λ j b at. let is = rising (suc j) b at in omega arith)
    ∙ ap (λ n. map (λ b. if is_between n count b then x else g b) ys) next) i)

latest-end : (ws : List Accepted) (new : Accepted) (block number : ℕ)
    → latest_in (ws ++ new ∷ []) block number ≡ (if covers new.write block then new.write.number else latest_in ws block number)
latest-end [] new block number = refl
latest-end (a ∷ ws) new block number = latest-end ws new block (if covers a.write block then a.write.number else number)

-- the log's record of the last writes, with one more
pub latest-more : (blocks : ℕ) (ws : List Accepted) (new : Accepted) (number first count : ℕ) → number ≡ new.write.number → first ≡ new.write.first
    → count ≡ length new.write.contents → first + count ≤ blocks
    → with_last_write number first count (map (λ block. latest_in ws block 0) (below blocks)) ≡ map (λ block. latest_in (ws ++ new ∷ []) block 0) (below blocks)
latest-more blocks ws new number first count number_is first_is count_is inside =
    let size = length-below blocks in
    latest-map (λ block. latest_in ws block 0) number 0 first count (below blocks) (omega arith) (λ i b at.
    let within = slice_get_within (below blocks) i b at in
    let there = sym (get-below blocks i (omega arith)) ∙ at in
    let same : i ≡ b = cc in
    omega arith)
    ∙ map-at (λ b. if is_between (0 + first) count b then number else latest_in ws b 0) (λ block. latest_in (ws ++ new ∷ []) block 0) (below blocks) (λ i b at.
    (λ j. if is_between (start_is j) (count_is j) b then number_is j else latest_in ws b 0) ∙ sym (latest-end ws new b 0))
  where
    start_is : 0 + first ≡ new.write.first
    start_is = let is = first_is in omega arith

-- What is held.

pub holding-end : (new : Holding) (held : List Holding) → ((i : ℕ) (x : Holding) → slice_get held i ≡ Some x → x.number < new.number)
    → holding_too new held ≡ held ++ new ∷ []
holding-end new [] below_it = refl
holding-end new (x ∷ held) below_it =
    let less = below_it 0 x refl in
    ap (λ b. if b then new ∷ x ∷ held else x ∷ holding_too new held) (le-ltb new.number x.number (omega arith))
    ∙ ap (λ (l : List Holding). x ∷ l) (holding-end new held (λ i y at. below_it (suc i) y at))

-- one more that passes, or does not
pub filter-one : {X : Type 0} (p : X → Bool) (xs : List X) (x : X) (b : Bool) → p x ≡ b → filter p (xs ++ x ∷ []) ≡ filter p xs ++ (if b then x ∷ [] else [])
filter-one p xs x b is = filter-append p xs (x ∷ []) ∙ ap (λ t. filter p xs ++ (if t then x ∷ [] else [])) is
