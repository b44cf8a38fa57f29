-- What cutting bytes into blocks does to their joining, their parts and their places.
use Rattle.std.proofs.Common.{ℕ, zero, suc, ◌≡◌, ◌+◌, ◌-◌, ◌*◌, ◌/◌, ◌<◌, ◌≤◌, List, ◌++◌, length, take, drop, replicate, slice_get, Some, refl, sym, ◌∙◌, ap}
use Rattle.std.proofs.Common.{arith, add_assoc, append_assoc, length-append, length-take, length-drop}
use Rattle.std.proofs.Math.Nat.{mul-suc}
use Rattle.std.proofs.lemmas.List.{drop-drop, take-append-drop, take-append-le, drop-append-le, length-take-le, take_at, drop_at, take-replicate}
use Rattle.std.proofs.lemmas.List.{drop-replicate}
use Rattle.blocks.specs.Contents.{cut, blocks_of, overwritten}

-- there are as many blocks as were asked for
pub length-cut : (size count : ℕ) (bytes : List ℕ) → length (cut size count bytes) ≡ count
length-cut size zero bytes = refl
length-cut size (suc count) bytes = let rest = length-cut size count (drop size bytes) in omega (arith, rest)

-- so many blocks and so many more
pub cut-add : (size a b : ℕ) (bytes : List ℕ) → cut size (a + b) bytes ≡ cut size a bytes ++ cut size b (drop (size * a) bytes)
cut-add size zero b bytes =
    let none : 0 + b ≡ b = omega arith in
    let start : size * 0 ≡ 0 = omega arith in
    rw (none, start) refl
cut-add size (suc a) b bytes =
    let more : suc a + b ≡ suc (a + b) = omega arith in
    let place : size * suc a ≡ size + size * a = rw mul-suc (omega arith) in
    rw (more, place, ← drop-drop (size * a) size bytes, cut-add size a b (drop size bytes)) refl

-- bytes behind those that are cut do not matter
pub cut-append : (size count : ℕ) (front back : List ℕ) → length front ≡ size * count → cut size count (front ++ back) ≡ cut size count front
cut-append size zero front back long = refl
cut-append size (suc count) front back long =
    let whole : length front ≡ size * count + size = rw (← mul-suc size count) long in
    let within : size ≤ length front = omega arith in
    let rest : length (drop size front) ≡ size * count = omega (arith, length-drop size front) in
    rw (take-append-le size front back within, drop-append-le size front back within, cut-append size count (drop size front) back rest) refl

-- the block at a place
pub slice_get-cut : (size count place : ℕ) (bytes : List ℕ) → place < count
    → slice_get (cut size count bytes) place ≡ Some (take size (drop (size * place) bytes))
slice_get-cut size zero place bytes below = absurd (omega arith)
slice_get-cut size (suc count) zero bytes below = let start : size * 0 ≡ 0 = omega arith in rw start refl
slice_get-cut size (suc count) (suc place) bytes below =
    let less : place < count = omega arith in
    let at : size * suc place ≡ size + size * place = rw mul-suc (omega arith) in
    slice_get-cut size count place (drop size bytes) less ∙ rw (at, ← drop-drop (size * place) size bytes) refl

-- zeros are blocks of zeros
pub cut-zeros : (size count : ℕ) → cut size count (replicate (size * count) 0) ≡ replicate count (replicate size 0)
cut-zeros size zero = refl
cut-zeros size (suc count) =
    let long : size ≤ size * suc count = rw mul-suc (omega arith) in
    let less : size * suc count - size ≡ size * count = rw mul-suc (omega arith) in
    rw (take-replicate {X = ℕ} size (size * suc count) 0 long, drop-replicate {X = ℕ} size (size * suc count) 0, less, cut-zeros size count) refl

-- the first and the last blocks of a row are those of its first and last bytes
take-cut : (size a b : ℕ) (bytes : List ℕ) → take a (cut size (a + b) bytes) ≡ cut size a bytes
take-cut size a b bytes = rw (cut-add size a b bytes) (take_at (cut size a bytes) (cut size b (drop (size * a) bytes)) a (length-cut size a bytes))

drop-cut : (size a b : ℕ) (bytes : List ℕ) → drop a (cut size (a + b) bytes) ≡ cut size b (drop (size * a) bytes)
drop-cut size a b bytes = rw (cut-add size a b bytes) (drop_at (cut size a bytes) (cut size b (drop (size * a) bytes)) a (length-cut size a bytes))

-- bytes written over others at whole blocks are blocks written over others
cut-written : (size first count more : ℕ) (old new : List ℕ) → length old ≡ size * (first + (count + more)) → length new ≡ size * count
    → cut size (first + (count + more)) (take (size * first) old ++ new ++ drop (size * first + length new) old)
    ≡ overwritten (cut size (first + (count + more)) old) first (cut size count new)
cut-written size first count more old new long whole =
    let front = take (size * first) old in
    let back = drop (size * first + length new) old in
    let spread : size * (first + (count + more)) ≡ size * first + size * count + size * more = omega arith in
    let front_len : length front ≡ size * first = length-take-le (size * first) old (omega arith) in
    let left : cut size first ((front ++ new) ++ back) ≡ cut size first old =
    rw append_assoc (cut-append size first front (new ++ back) front_len) ∙ (sym (cut-append size first front (drop (size * first) old) front_len)
    ∙ ap (cut size first) (take-append-drop (size * first) old)) in
    let rest : drop (size * first) ((front ++ new) ++ back) ≡ new ++ back = rw append_assoc (drop_at front (new ++ back) (size * first) front_len) in
    let last : drop (size * count) (new ++ back) ≡ back = drop_at new back (size * count) whole in
    let behind : drop (first + length (cut size count new)) (cut size (first + (count + more)) old) ≡ cut size more back =
    rw (length-cut size count new, ← add_assoc first count more) (drop-cut size (first + count) more old
    ∙ ap (λ n. cut size more (drop n old)) (omega (arith, whole))) in
    let before : take first (cut size (first + (count + more)) old) ≡ cut size first old = take-cut size first (count + more) old in
    cut-add size first (count + more) ((front ++ new) ++ back)
    ∙ rw (left, rest, cut-add size count more (new ++ back), last, cut-append size count new back whole, before, behind)
    (sym (append_assoc (cut size first old) (cut size count new) (cut size more back)))

-- a write over whole blocks of an image is one over the blocks of the device
pub blocks_of-written : (first count : ℕ) (old new : List ℕ) → 4096 * (length old / 4096) ≡ length old → first + count ≤ length old / 4096
    → length new ≡ 4096 * count
    → blocks_of 4096 (take (first * 4096) old ++ new ++ drop (first * 4096 + length new) old) ≡ overwritten (blocks_of 4096 old) first (blocks_of 4096 new)
blocks_of-written first count old new image inside whole =
    let more : ℕ = length old / 4096 - (first + count) in
    let written : List ℕ = take (first * 4096) old ++ new ++ drop (first * 4096 + length new) old in
    let all : length old / 4096 ≡ first + (count + more) = omega arith in
    let long : length old ≡ 4096 * (first + (count + more)) = omega arith in
    let same : length written ≡ length old = simp (length-append, length-take, length-drop) (omega arith) in
    let size : length written / 4096 ≡ first + (count + more) = rw same all in
    let new_size : length new / 4096 ≡ count = omega arith in
    let place : first * 4096 ≡ 4096 * first = omega arith in
    let put : List ℕ = take (4096 * first) old ++ new ++ drop (4096 * first + length new) old in
    let moved : written ≡ put = ap (λ n. take n old ++ new ++ drop (n + length new) old) place in
    ap (λ n. cut 4096 n written) size ∙ (ap (cut 4096 (first + (count + more))) moved ∙ (cut-written 4096 first count more old new long whole
    ∙ (ap (λ n. overwritten (cut 4096 n old) first (cut 4096 count new)) (sym all)
    ∙ ap (λ n. overwritten (blocks_of 4096 old) first (cut 4096 n new)) (sym new_size))))

-- a device has as many blocks as its image has whole ones
pub length-blocks_of : (bytes : List ℕ) → length (blocks_of 4096 bytes) ≡ length bytes / 4096
length-blocks_of bytes = length-cut 4096 (length bytes / 4096) bytes

-- a write leaves a device of the same size
pub length-overwritten : (device written : List (List ℕ)) (first : ℕ) → first + length written ≤ length device
    → length (overwritten device first written) ≡ length device
length-overwritten device written first inside = simp (length-append, length-take, length-drop) (omega arith)
