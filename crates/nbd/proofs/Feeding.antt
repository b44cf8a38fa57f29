-- What comes of bytes, taken several at once.
use Rattle.std.proofs.Common.{◌≡◌, ℕ, ◌+◌, ◌-◌, ◌<◌, ◌≤◌, true, false, eqb, List, [], ◌∷◌, ◌++◌, length, take, refl, sym, ap, ◌∙◌, subst, append_assoc, arith}
use Rattle.std.proofs.Common.{eq-eqb}
use Rattle.std.proofs.lemmas.Bool.{ne_eqb}
use Rattle.std.proofs.lemmas.List.{append-nil, length-append, length-take, take-append-le}
use Rattle.std.proofs.Math.Seq.{take-length}
use Rattle.nbd.specs.declared.phase.Part.{Part}
use Rattle.nbd.specs.declared.phase.Phase.{Phase}
use Rattle.nbd.specs.declared.phase.Phase.TheVariants as phase
use Rattle.nbd.specs.declared.phase.Refused.{Refused}
use Rattle.nbd.specs.Requested.{Requested}
use Rattle.nbd.specs.Exports.{Exported}
use Rattle.nbd.specs.Machine.{Machine, Fed, Adds, Begins, Continues, IsPortion, Waits, silent, after_step, with_byte, then_fed, fed}
use Rattle.nbd.specs.Steps.{wanted, Stepped, step, skipped}

-- a connection of this number in this phase
abbrev pub machine : ℕ → Exported → Phase → List ℕ → Machine
machine of e p held = record { of = of; export = e; phase = p; held = held }

pub then_fed_nothing : (a : Fed) → then_fed a (silent a.machine) ≡ a
then_fed_nothing a =
    let made : List ℕ → List Requested → Fed = λ (s : List ℕ) (r : List Requested). record { machine = a.machine; sent = s; requests = r } in
    ap (λ (s : List ℕ). made s (a.requests ++ [])) (append-nil a.sent) ∙ ap (λ (r : List Requested). made a.sent r) (append-nil a.requests)

-- one byte
pub fed_one : (m : Machine) (b : ℕ) → fed m (b ∷ []) ≡ with_byte m.of m.export m.phase m.held b
unfolding fed
fed_one m b = then_fed_nothing (with_byte m.of m.export m.phase m.held b)

fed_cons : (m : Machine) (b : ℕ) (bs : List ℕ) (first : Fed) → with_byte m.of m.export m.phase m.held b ≡ first
    → fed m (b ∷ bs) ≡ then_fed first (fed first.machine bs)
unfolding fed
fed_cons m b bs first e = ap (λ (f : Fed). then_fed f (fed f.machine bs)) e

-- a byte that comes before the last one of its part
held_byte : (of : ℕ) (e : Exported) (p : Part) (held : List ℕ) (b : ℕ) → length held + 1 < wanted p
    → with_byte of e (phase.Gather p) held b ≡ silent (machine of e (phase.Gather p) (held ++ b ∷ []))
held_byte of e p held b short =
    let no : eqb (length held + 1) (wanted p) ≡ false = ne_eqb _ _ (λ same. omega (arith, same, short)) in
    rw no refl

-- the last byte of its part
last_byte : (of : ℕ) (e : Exported) (p : Part) (held : List ℕ) (b : ℕ) → length held + 1 ≡ wanted p
    → with_byte of e (phase.Gather p) held b ≡ after_step of e (step of e p (held ++ b ∷ []))
last_byte of e p held b whole =
    let yes : eqb (length held + 1) (wanted p) ≡ true = eq-eqb _ _ whole in
    rw yes refl

one_more : (held bs : List ℕ) (b : ℕ) → (held ++ b ∷ []) ++ bs ≡ held ++ b ∷ bs
one_more held bs b = append_assoc held (b ∷ []) bs

one_longer : (held : List ℕ) (b : ℕ) → length (held ++ b ∷ []) ≡ length held + 1
one_longer held b = length-append held (b ∷ [])

-- less than the rest of a part is held
pub fed_held : (of : ℕ) (e : Exported) (p : Part) (held bs : List ℕ) → length held + length bs < wanted p
    → fed (machine of e (phase.Gather p) held) bs ≡ silent (machine of e (phase.Gather p) (held ++ bs))
unfolding fed
fed_held of e p held [] short = ap (λ (x : List ℕ). silent (machine of e (phase.Gather p) x)) (sym (append-nil held))
fed_held of e p held (b ∷ bs) short =
    let m = machine of e (phase.Gather p) held in
    let next = machine of e (phase.Gather p) (held ++ b ∷ []) in
    fed_cons m b bs (silent next) (held_byte of e p held b (omega (arith, short)))
    ∙ ap (λ (f : Fed). then_fed (silent next) f) (fed_held of e p (held ++ b ∷ []) bs (omega (arith, short, one_longer held b)))
    ∙ ap (λ (x : List ℕ). silent (machine of e (phase.Gather p) x)) (one_more held bs b)

-- the rest of a part makes its step
pub fed_whole : (of : ℕ) (e : Exported) (p : Part) (held bs : List ℕ) → 0 < length bs → length held + length bs ≡ wanted p
    → fed (machine of e (phase.Gather p) held) bs ≡ after_step of e (step of e p (held ++ bs))
fed_whole of e p held [] some whole = absurd (omega (arith, some))
fed_whole of e p held (b ∷ []) some whole = fed_one (machine of e (phase.Gather p) held) b ∙ last_byte of e p held b (omega (arith, whole))
fed_whole of e p held (b ∷ c ∷ bs) some whole =
    let m = machine of e (phase.Gather p) held in
    let next = machine of e (phase.Gather p) (held ++ b ∷ []) in
    fed_cons m b (c ∷ bs) (silent next) (held_byte of e p held b (omega (arith, whole)))
    ∙ ap (λ (f : Fed). then_fed (silent next) f) (fed_whole of e p (held ++ b ∷ []) (c ∷ bs) (omega arith) (omega (arith, whole, one_longer held b)))
    ∙ ap (λ (x : List ℕ). after_step of e (step of e p x)) (one_more held (c ∷ bs) b)

-- a skipped byte before the last
skip_byte : (of : ℕ) (e : Exported) (left : ℕ) (r : Refused) (b : ℕ) → 1 < left
    → with_byte of e (phase.Skip left r) [] b ≡ silent (machine of e (phase.Skip (left - 1) r) [])
skip_byte of e left r b more =
    let no : eqb left 1 ≡ false = ne_eqb _ _ (λ same. omega (arith, same, more)) in
    rw no refl

-- less than what is left to skip
pub fed_skips : (of : ℕ) (e : Exported) (left : ℕ) (r : Refused) (bs : List ℕ) → length bs < left
    → fed (machine of e (phase.Skip left r) []) bs ≡ silent (machine of e (phase.Skip (left - length bs) r) [])
unfolding fed
fed_skips of e left r [] more =
    let same : left ≡ left - 0 = omega arith in
    ap (λ (n : ℕ). silent (machine of e (phase.Skip n r) [])) same
fed_skips of e left r (b ∷ bs) more =
    let m = machine of e (phase.Skip left r) [] in
    let next = machine of e (phase.Skip (left - 1) r) [] in
    let same : left - 1 - length bs ≡ left - length (b ∷ bs) = omega arith in
    fed_cons m b bs (silent next) (skip_byte of e left r b (omega (arith, more)))
    ∙ ap (λ (f : Fed). then_fed (silent next) f) (fed_skips of e (left - 1) r bs (omega (arith, more)))
    ∙ ap (λ (n : ℕ). silent (machine of e (phase.Skip n r) [])) same

-- all that is left to skip
pub fed_skipped : (of : ℕ) (e : Exported) (left : ℕ) (r : Refused) (bs : List ℕ) → 0 < length bs → length bs ≡ left
    → fed (machine of e (phase.Skip left r) []) bs ≡ after_step of e (skipped r)
fed_skipped of e left r [] some all = absurd (omega (arith, some))
fed_skipped of e left r (b ∷ []) some all =
    let yes : eqb left 1 ≡ true = eq-eqb _ _ (omega (arith, all)) in
    fed_one (machine of e (phase.Skip left r) []) b ∙ rw yes refl
fed_skipped of e left r (b ∷ c ∷ bs) some all =
    let m = machine of e (phase.Skip left r) [] in
    let next = machine of e (phase.Skip (left - 1) r) [] in
    fed_cons m b (c ∷ bs) (silent next) (skip_byte of e left r b (omega (arith, all)))
    ∙ ap (λ (f : Fed). then_fed (silent next) f) (fed_skipped of e (left - 1) r (c ∷ bs) (omega arith) (omega (arith, all)))

-- a closed connection drops what comes
pub fed_closed : (of : ℕ) (e : Exported) (held bs : List ℕ) → fed (machine of e phase.Closed held) bs ≡ silent (machine of e phase.Closed held)
unfolding fed
fed_closed of e held [] = refl
fed_closed of e held (b ∷ bs) =
    fed_cons (machine of e phase.Closed held) b bs (silent (machine of e phase.Closed held)) refl
    ∙ ap (λ (f : Fed). then_fed (silent (machine of e phase.Closed held)) f) (fed_closed of e held bs)

then_fed_assoc : (a b c : Fed) → then_fed (then_fed a b) c ≡ then_fed a (then_fed b c)
then_fed_assoc a b c =
    let made : List ℕ → List Requested → Fed = λ (s : List ℕ) (r : List Requested). record { machine = c.machine; sent = s; requests = r } in
    ap (λ (s : List ℕ). made s ((a.requests ++ b.requests) ++ c.requests)) (append_assoc a.sent b.sent c.sent)
    ∙ ap (λ (r : List Requested). made (a.sent ++ (b.sent ++ c.sent)) r) (append_assoc a.requests b.requests c.requests)

-- one piece after another gives what both give together
pub fed_append : (m : Machine) (xs ys : List ℕ) → fed m (xs ++ ys) ≡ then_fed (fed m xs) (fed (fed m xs).machine ys)
unfolding fed
fed_append m [] ys = refl
fed_append m (x ∷ xs) ys =
    let first = with_byte m.of m.export m.phase m.held x in
    ap (λ (f : Fed). then_fed first f) (fed_append first.machine xs ys)
    ∙ sym (then_fed_assoc first (fed first.machine xs) (fed (fed first.machine xs).machine ys))

-- ---- what one portion adds

pub adds_nothing : (m : Machine) (bytes : List ℕ) (requests : List Requested) → Adds (silent m) m bytes bytes requests requests
adds_nothing m bytes requests = record { machine = refl; sent = sym (append-nil bytes); given = sym (append-nil requests) }

-- less than the rest of a part
pub held_adds : (of : ℕ) (e : Exported) (q : Phase) (p : Part) (held bs new : List ℕ) (m : Machine) (bytes : List ℕ) (requests : List Requested)
    → machine of e q held ≡ m
    → q ≡ phase.Gather p
    → length held + length bs < wanted p → new ≡ held ++ bs → Adds (fed m bs) (machine of e q new) bytes bytes requests requests
held_adds of e q p held bs new m bytes requests view_is is short added =
    let start : machine of e (phase.Gather p) held ≡ m = ap (λ (x : Phase). machine of e x held) (sym is) ∙ view_is in
    let end : machine of e (phase.Gather p) (held ++ bs) ≡ machine of e q new =
    ap (λ (x : Phase). machine of e x (held ++ bs)) (sym is) ∙ ap (λ (x : List ℕ). machine of e q x) (sym added) in
    let made : silent (machine of e (phase.Gather p) (held ++ bs)) ≡ fed m bs = sym (fed_held of e p held bs short) ∙ ap (λ (x : Machine). fed x bs) start in
    subst (λ (f : Fed). Adds f (machine of e q new) bytes bytes requests requests) made
    (subst (λ (x : Machine). Adds (silent (machine of e (phase.Gather p) (held ++ bs))) x bytes bytes requests requests) end
    (adds_nothing (machine of e (phase.Gather p) (held ++ bs)) bytes requests))

-- the rest of a part
pub whole_is : (of : ℕ) (e : Exported) (q : Phase) (p : Part) (held bs : List ℕ) (m : Machine) (s : Stepped) → machine of e q held ≡ m → q ≡ phase.Gather p
    → 0 < length bs
    → IsPortion m.phase m.held (length bs) → wanted p ≤ length held + length bs → s ≡ step of e p (held ++ bs) → after_step of e s ≡ fed m bs
whole_is of e q p held bs m s view_is is some portion long made =
    let start : machine of e (phase.Gather p) held ≡ m = ap (λ (x : Phase). machine of e x held) (sym is) ∙ view_is in
    let most : length held + length bs ≤ wanted p = subst (λ (x : Machine). IsPortion x.phase x.held (length bs)) (sym start) portion in
    ap (λ (x : Stepped). after_step of e x) made ∙ sym (fed_whole of e p held bs some (omega arith)) ∙ ap (λ (x : Machine). fed x bs) start

-- less than what is left to skip
pub skip_adds : (of : ℕ) (e : Exported) (q : Phase) (left : ℕ) (r : Refused) (held bs : List ℕ) (m : Machine) (bytes : List ℕ) (requests : List Requested)
    → machine of e q held ≡ m → q ≡ phase.Skip left r
    → Waits e q held → length bs < left → Adds (fed m bs) (machine of e (phase.Skip (left - length bs) r) held) bytes bytes requests requests
skip_adds of e q left r held bs m bytes requests view_is is waits more =
    let none : held ≡ [] = (subst (λ (x : Phase). Waits e x held) is waits).1 in
    let start : machine of e (phase.Skip left r) [] ≡ m =
    ap (λ (x : List ℕ). machine of e (phase.Skip left r) x) (sym none) ∙ ap (λ (x : Phase). machine of e x held) (sym is) ∙ view_is in
    let end : machine of e (phase.Skip (left - length bs) r) [] ≡ machine of e (phase.Skip (left - length bs) r) held =
    ap (λ (x : List ℕ). machine of e (phase.Skip (left - length bs) r) x) (sym none) in
    let made : silent (machine of e (phase.Skip (left - length bs) r) []) ≡ fed m bs = sym (fed_skips of e left r bs more)
    ∙ ap (λ (x : Machine). fed x bs) start in
    subst (λ (f : Fed). Adds f (machine of e (phase.Skip (left - length bs) r) held) bytes bytes requests requests) made
    (subst (λ (x : Machine). Adds (silent (machine of e (phase.Skip (left - length bs) r) [])) x bytes bytes requests requests) end
    (adds_nothing (machine of e (phase.Skip (left - length bs) r) []) bytes requests))

-- all that is left to skip
pub skipped_is : (of : ℕ) (e : Exported) (q : Phase) (left : ℕ) (r : Refused) (held bs : List ℕ) (m : Machine) (s : Stepped) → machine of e q held ≡ m
    → q ≡ phase.Skip left r → Waits e q held → 0 < length bs
    → IsPortion m.phase m.held (length bs) → left ≤ length bs → s ≡ skipped r → after_step of e s ≡ fed m bs
skipped_is of e q left r held bs m s view_is is waits some portion long made =
    let none : held ≡ [] = (subst (λ (x : Phase). Waits e x held) is waits).1 in
    let start : machine of e (phase.Skip left r) [] ≡ m =
    ap (λ (x : List ℕ). machine of e (phase.Skip left r) x) (sym none) ∙ ap (λ (x : Phase). machine of e x held) (sym is) ∙ view_is in
    let most : length bs ≤ left = subst (λ (x : Machine). IsPortion x.phase x.held (length bs)) (sym start) portion in
    ap (λ (x : Stepped). after_step of e x) made ∙ sym (fed_skipped of e left r bs some (omega arith)) ∙ ap (λ (x : Machine). fed x bs) start

-- a closed connection
pub closed_adds : (of : ℕ) (e : Exported) (q : Phase) (held bs : List ℕ) (m : Machine) (bytes : List ℕ) (requests : List Requested) → machine of e q held ≡ m
    → q ≡ phase.Closed → Adds (fed m bs) m bytes bytes requests requests
closed_adds of e q held bs m bytes requests view_is is =
    let start : machine of e phase.Closed held ≡ m = ap (λ (x : Phase). machine of e x held) (sym is) ∙ view_is in
    let made : silent m ≡ fed m bs = ap silent (sym start) ∙ sym (fed_closed of e held bs) ∙ ap (λ (x : Machine). fed x bs) start in
    subst (λ (f : Fed). Adds f m bytes bytes requests requests) made (adds_nothing m bytes requests)

-- ---- portion after portion

pub continues_all : (all : Fed) (bytes : List ℕ) (requests : List Requested) → Continues all all bytes bytes requests requests
continues_all all bytes requests = record { machine = refl; sent = refl; given = refl }

-- a portion was taken off the front of the rest
pub continues_on : (all : Fed) (m n : Machine) (now later rest : List ℕ) (b0 b1 b2 : List ℕ) (r0 r1 r2 : List Requested) → rest ≡ now ++ later
    → Continues all (fed m rest) b0 b1 r0 r1
    → Adds (fed m now) n b1 b2 r1 r2 → Continues all (fed n later) b0 b2 r0 r2
continues_on all m n now later rest b0 b1 b2 r0 r1 r2 split before adds =
    let both : fed m rest ≡ then_fed (fed m now) (fed n later) =
    ap (λ (x : List ℕ). fed m x) split ∙ fed_append m now later ∙ ap (λ (x : Machine). then_fed (fed m now) (fed x later)) (sym adds.machine) in
    record {
      machine = before.machine ∙ ap (λ (f : Fed). f.machine) both;
      sent = before.sent ∙ ap (λ (f : Fed). b1 ++ f.sent) both ∙ sym (append_assoc b1 (fed m now).sent (fed n later).sent)
          ∙ ap (λ (x : List ℕ). x ++ (fed n later).sent) (sym adds.sent);
      given = before.given ∙ ap (λ (f : Fed). r1 ++ f.requests) both ∙ sym (append_assoc r1 (fed m now).requests (fed n later).requests)
          ∙ ap (λ (x : List Requested). x ++ (fed n later).requests) (sym adds.given);
    }

-- nothing is left
pub continues_end : (all : Fed) (m : Machine) (rest : List ℕ) (b0 b1 : List ℕ) (r0 r1 : List Requested) → length rest ≡ 0
    → Continues all (fed m rest) b0 b1 r0 r1
    → Adds all m b0 b1 r0 r1
unfolding fed
continues_end all m [] b0 b1 r0 r1 none c = record {
  machine = sym c.machine;
  sent = sym (append-nil b1) ∙ sym c.sent;
  given = sym (append-nil r1) ∙ sym c.given;
}
continues_end all m (b ∷ bs) b0 b1 r0 r1 none c = absurd (omega (arith, none))

-- a list that was added to begins as it did
pub begins_more : {A : Type 0} (a b c d : List A) → Begins a b → c ≡ b ++ d → Begins a c
begins_more a b c d begins e =
    let within : length a ≤ length b = omega (arith, ap length begins, length-take (length a) b) in
    ap (take (length a)) e ∙ take-append-le (length a) b d within ∙ begins

pub begins_same : {A : Type 0} (a b c : List A) → Begins a b → c ≡ b → Begins a c
begins_same a b c begins e = ap (take (length a)) e ∙ begins

pub begins_all : {A : Type 0} (a : List A) → Begins a a
begins_all a = take-length a
