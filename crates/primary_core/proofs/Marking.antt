-- The blocks of unreleased writes are marked, write by write.
use Rattle.std.proofs.Common.{ℕ, suc, ◌≡◌, ◌+◌, ◌<◌, ◌≤◌, nat_le, Bool, true, false, ◌||◌, List, [], ◌∷◌, length, refl, sym, ◌∙◌, ap, subst, arith, Some, None}
use Rattle.std.specs.Prelude.{filter, find, replicate}
use Rattle.std.proofs.lemmas.Bool.{le-leb, leb-true, leb-false, lt-leb}
use Rattle.std.proofs.Math.Bool.{or-false, or-true}
use Rattle.blocks.specs.Ranges.{is_between}
use Rattle.bitmap.specs.Marks.{marking, marking_from}
use Rattle.laws.proofs.Lists.Picks.{found-passes}
use Rattle.transferlog.specs.Writes.{LogWrite}
use Rattle.transferlog.specs.Ring.{Each, Rises}
use Rattle.primary_protocol.specs.Transitions.{unreleased_blocks}

or-assoc : (a b c : Bool) → ((a || b) || c) ≡ (a || (b || c))
or-assoc true b c = refl
or-assoc false b c = refl

twice : (from : ℕ) (f g : ℕ → Bool) (marks : List Bool)
    → marking_from from g (marking_from from f marks) ≡ marking_from from (λ block. f block || g block) marks
twice from f g [] = refl
twice from f g (mark ∷ marks) =
    ap (λ (m : Bool). m ∷ marking_from (suc from) g (marking_from (suc from) f marks)) (or-assoc mark (f from) (g from))
    ∙ ap (λ more. (mark || (f from || g from)) ∷ more) (twice (suc from) f g marks)

pub none-more : (from : ℕ) (marks : List Bool) → marking_from from (λ block. false) marks ≡ marks
none-more from [] = refl
none-more from (mark ∷ marks) = ap (λ (m : Bool). m ∷ marking_from (suc from) (λ block. false) marks) (or-false mark)
    ∙ ap (λ more. mark ∷ more) (none-more (suc from) marks)

-- whether the write has at least this number
abbrev pub is_from : ℕ → LogWrite → Bool
is_from n w = nat_le n w.number

-- where numbers rise from this one on, or one above it, it lets all writes through
all-from : (n low : ℕ) (ws : List LogWrite) → n ≤ low → Rises low ws → filter (is_from n) ws ≡ ws
all-from n low [] least rises = refl
all-from n low (w ∷ ws) least rises =
    rw (le-leb n w.number (omega (arith, rises.0))) (ap (λ more. w ∷ more) (all-from n (suc w.number) ws (omega (arith, rises.0)) rises.1))

pub all-from_zero : (ws : List LogWrite) → filter (is_from 0) ws ≡ ws
all-from_zero [] = refl
all-from_zero (w ∷ ws) = rw (le-leb 0 w.number (omega arith)) (ap (λ more. w ∷ more) (all-from_zero ws))

left-by : (passes : Bool) (n low : ℕ) (v w : LogWrite) (ws : List LogWrite) → is_from n v ≡ passes → Rises low (v ∷ ws) → find (is_from n) (v ∷ ws) ≡ Some w
    → (find (is_from n) ws ≡ Some w → filter (is_from n) ws ≡ w ∷ filter (is_from (w.number + 1)) ws)
    → filter (is_from n) (v ∷ ws) ≡ w ∷ filter (is_from (w.number + 1)) (v ∷ ws)
left-by true n low v w ws passes rises some rest =
    let first : Some v ≡ Some w = rw passes at some in
    let same : v ≡ w = cc in
    let least : n ≤ v.number = leb-true n v.number passes in
    subst (λ (x : LogWrite). filter (is_from n) (v ∷ ws) ≡ x ∷ filter (is_from (x.number + 1)) (v ∷ ws)) same
    (rw (passes, lt-leb (v.number + 1) v.number (omega arith))
    (ap (λ more. v ∷ more) (all-from n (suc v.number) ws (omega arith) rises.1 ∙ sym (all-from (v.number + 1) (suc v.number) ws (omega arith) rises.1))))
left-by false n low v w ws passes rises some rest =
    let later : find (is_from n) ws ≡ Some w = rw passes at some in
    let least : n ≤ w.number = leb-true n w.number (found-passes (is_from n) ws w later) in
    let below : v.number < n = leb-false n v.number passes in
    rw (passes, lt-leb (w.number + 1) v.number (omega arith)) (rest later)

-- the writes from a number on are the first of them, and those behind that
next-left : (n low : ℕ) (w : LogWrite) (ws : List LogWrite) → Rises low ws → find (is_from n) ws ≡ Some w
    → filter (is_from n) ws ≡ w ∷ filter (is_from (w.number + 1)) ws
next-left n low w [] rises some = absurd (cc)
next-left n low w (v ∷ ws) rises some = left-by (is_from n v) n low v w ws refl rises some (next-left n (suc v.number) w ws rises.1)

none-by : (passes : Bool) (p : LogWrite → Bool) (w : LogWrite) (ws : List LogWrite) → p w ≡ passes → find p (w ∷ ws) ≡ None
    → (find p ws ≡ None → filter p ws ≡ []) → filter p (w ∷ ws) ≡ []
none-by true p w ws passes none rest = let some : Some w ≡ None = rw passes at none in absurd (cc)
none-by false p w ws passes none rest = rw passes (rest (rw passes at none))

none-left : (p : LogWrite → Bool) (ws : List LogWrite) → find p ws ≡ None → filter p ws ≡ []
none-left p [] none = refl
none-left p (w ∷ ws) none = none-by (p w) p w ws refl none (none-left p ws)

found-by : (passes : Bool) (P : LogWrite → Type 0) (p : LogWrite → Bool) (v w : LogWrite) (ws : List LogWrite) → p v ≡ passes → Each P (v ∷ ws)
    → find p (v ∷ ws) ≡ Some w → (find p ws ≡ Some w → P w) → P w
found-by true P p v w ws passes each some rest = let first : Some v ≡ Some w = rw passes at some in let same : v ≡ w = cc in subst P same each.0
found-by false P p v w ws passes each some rest = rest (rw passes at some)

-- what holds of each write holds of one that is found
pub each-found : (P : LogWrite → Type 0) (p : LogWrite → Bool) (w : LogWrite) (ws : List LogWrite) → Each P ws → find p ws ≡ Some w → P w
each-found P p w [] each some = absurd (cc)
each-found P p w (v ∷ ws) each some = found-by (p v) P p v w ws refl each some (each-found P p w ws each.1)

pub found-from : (n : ℕ) (w : LogWrite) (ws : List LogWrite) → find (is_from n) ws ≡ Some w → n ≤ w.number
found-from n w ws some = leb-true n w.number (found-passes (is_from n) ws w some)

-- what the writes from a number on mark
abbrev pub marked_from : ℕ → List LogWrite → List Bool → List Bool
marked_from n ws marks = marking (unreleased_blocks (filter (is_from n) ws)) marks

-- one write more of a list, as a loop goes over it
pub mark-step : (ws : List LogWrite) (n : ℕ) (w : LogWrite) (first marks : List Bool) → Rises 0 ws → find (is_from n) ws ≡ Some w
    → marked_from n ws marks ≡ marking (unreleased_blocks ws) first
    → marked_from (w.number + 1) ws (marking (is_between w.first w.count) marks) ≡ marking (unreleased_blocks ws) first
mark-step ws n w first marks rises some rest =
    twice 0 (is_between w.first w.count) (unreleased_blocks (filter (is_from (w.number + 1)) ws)) marks
    ∙ (sym (ap (λ (more : List LogWrite). marking (unreleased_blocks more) marks) (next-left n 0 w ws rises some)) ∙ rest)

-- all writes of a list
pub mark-all : (ws : List LogWrite) (n : ℕ) (first marks : List Bool) → find (is_from n) ws ≡ None
    → marked_from n ws marks ≡ marking (unreleased_blocks ws) first → marks ≡ marking (unreleased_blocks ws) first
mark-all ws n first marks none rest = sym (ap (λ (more : List LogWrite). marking (unreleased_blocks more) marks) (none-left (is_from n) ws none)
    ∙ none-more 0 marks) ∙ rest

-- every block is marked
pub all-marked : (from : ℕ) (marks : List Bool) → marking_from from (λ block. true) marks ≡ replicate (length marks) true
all-marked from [] = refl
all-marked from (mark ∷ marks) = ap (λ (m : Bool). m ∷ marking_from (suc from) (λ block. true) marks) (or-true mark)
    ∙ ap (λ more. true ∷ more) (all-marked (suc from) marks)
