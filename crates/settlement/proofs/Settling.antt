-- What two nodes at rest have come to is what the model's settlement says.
use Rattle.std.proofs.Common.{ℕ, ◌≡◌, ◌-◌, ◌<◌, ◌≤◌, inl, inr, nat_lt, Bool, true, false, not, ◌&&◌, List, [], ◌∷◌, length, Some, None, slice_get, Result, Ok}
use Rattle.std.proofs.Common.{Err, refl, sym, ◌∙◌, ap, subst, arith, cond}
use Rattle.std.specs.Prelude.{unwrap_or}
use Rattle.std.proofs.lemmas.Bool.{cases_lt, eq-eqb, ne_eqb}
use Rattle.std.proofs.lemmas.Option.{slice_get_within}
use Rattle.blocks.specs.declared.tuple.Tuple.{Tuple}
use Rattle.blocks.specs.declared.refusal.Refusal.{Refusal}
use Rattle.blocks.specs.declared.refusal.Refusal.TheVariants.{ReadFault, StrangeReceipt, NotDrained}
use Rattle.model.specs.Headline.{IsJoined, Cover, opening_marked}
use Rattle.model.specs.LocalRuns.{primary_run, secondary_run}
use Rattle.model.specs.Pair.{same_block}
use Rattle.model.specs.Primary.{Completion, PrimaryHistory, items_sent, primary_connection}
use Rattle.model.specs.Refusals.{first_refusal}
use Rattle.model.specs.Secondary.{SecondaryConnection, SecondaryHistory, no_secondary_connection, secondary_connection, secondary_connection_at, items_taken}
use Rattle.model.specs.Settlement.{Receipt, Settlement, applied_items, has_strange, is_at_rest, receipt_of, same_receipt, settlement, settle}
use Rattle.model.specs.Settlement.{unmarked_differences}
use Rattle.model.specs.Theorems.{Opening, primary_at, secondary_at, marks_at, IsSoundOpening, Settles, SettlesAnyhow}
use Rattle.model.specs.WriteOrder.{KeepsWriteOrder, IsUnharmed}
use Rattle.laws.proofs.Theorems.Joined.{joined_settles, joined_settles_anyhow}
use Rattle.laws.proofs.Theorems.WriteOrder.{joined_write_order}
use Rattle.laws.proofs.Joining.Settlement.{given-once, known, receipts-same}
use Rattle.laws.proofs.Lists.Picks.{pick-any}
use Rattle.laws.proofs.Joining.Openings.{kept-opening-primary, kept-opening-secondary}
use Rattle.laws.proofs.Lists.Elements.{same-at}
use Rattle.laws.proofs.Lists.Last.{last-at}
use Rattle.laws.proofs.Secondary.Numbers.{NumbersRise, numbers-rise, secondary-connection-there, secondary-connection-cases}
use Rattle.primary_protocol.specs.Steps as primary
use Rattle.secondary_protocol.specs.Node as secondary
use Rattle.settlement.specs.Settled.{AreEntries, WereHonest, kept}

-- The connection of a number.

rises : (s : SecondaryHistory) → secondary.IsReached s → NumbersRise s.connections
rises s r = subst (λ (x : SecondaryHistory). NumbersRise x.connections) (sym r.reached) (numbers-rise r.events _ refl)

-- the last connection is found by its number
pub at-last : (s : SecondaryHistory) (n : ℕ) → secondary.IsReached s → (secondary_connection s).number ≡ n
    → secondary_connection_at s n ≡ secondary_connection s
at-last s n r is = elim (last-at (no_secondary_connection s) s.connections) [
  | inl none ↦ none-at s n none
  | inr at ↦ ap (secondary_connection_at s) (sym is) ∙ secondary-connection-there s (rises s r) (length s.connections - 1) (secondary_connection s) at
]
  where
    none-at : (s : SecondaryHistory) (n : ℕ) → s.connections ≡ [] → secondary_connection_at s n ≡ secondary_connection s
    none-at s n none = subst (λ (l : List SecondaryConnection). secondary_connection_at (record s { connections = l }) n ≡ secondary_connection
        (record s { connections = l })) (sym none) refl

-- no connection has a number above the last one's
pub at-none : (s : SecondaryHistory) (n : ℕ) → secondary.IsReached s → (secondary_connection s).number < n
    → secondary_connection_at s n ≡ no_secondary_connection s
at-none s n r above = elim (secondary-connection-cases s n) [
  | inr none ↦ none
  | inl (j, d, at, number, is) ↦ elim (last-at (no_secondary_connection s) s.connections) [
    | inl none ↦ absurd (let wrong : slice_get [] j ≡ Some d = subst (λ (l : List SecondaryConnection). slice_get l j ≡ Some d) none at in cc (wrong))
    | inr last ↦
        let within = slice_get_within s.connections j d at in
        elim (cases_lt j (length s.connections - 1)) [
          | inl less ↦ let more = (rises s r).rise j (length s.connections - 1) d (secondary_connection s) less at last in absurd
              (omega (arith, more, number, above))
          | inr end ↦
              let index : length s.connections - 1 ≡ j = omega (arith, within, end) in
              let same : secondary_connection s ≡ d = same-at s.connections j (secondary_connection s) d
              (subst (λ (k : ℕ). slice_get s.connections k ≡ Some (secondary_connection s)) index last) at in
              let equal = ap (λ (x : SecondaryConnection). x.number) same in
              absurd (omega (arith, equal, number, above))
        ]
  ]
]

-- What is kept of it: the last connection, under its own number alone.

pub kept-last : (s : SecondaryHistory) (n : ℕ) → (secondary_connection s).number ≡ n → secondary_connection_at (kept s) n ≡ secondary_connection s
kept-last s n is = ap (λ (b : Bool). unwrap_or (cond b (Some (secondary_connection s)) None) (no_secondary_connection s))
    (eq-eqb (secondary_connection s).number n is)

pub kept-none : (s : SecondaryHistory) (n : ℕ) → ((secondary_connection s).number ≡ n → ⊥) → secondary_connection_at (kept s) n ≡ no_secondary_connection s
kept-none s n other = ap (λ (b : Bool). unwrap_or (cond b (Some (secondary_connection s)) None) (no_secondary_connection s))
    (ne_eqb (secondary_connection s).number n other)

-- that is all of it where no connection is numbered above
pub kept-at : (s : SecondaryHistory) (n : ℕ) → secondary.IsReached s → (secondary_connection s).number ≤ n
    → secondary_connection_at (kept s) n ≡ secondary_connection_at s n
kept-at s n r most = elim (cases_lt (secondary_connection s).number n) [
  | inl less ↦ kept-none s n (λ is. absurd (omega (arith, less, is))) ∙ sym (at-none s n r less)
  | inr least ↦ let is : (secondary_connection s).number ≡ n = omega (arith, most, least) in kept-last s n is ∙ sym (at-last s n r is)
]

-- How many items were taken at a number, and how many are applied: those of the last connection, or none.
pub items-last : (s : SecondaryHistory) (n taken applied : ℕ) → (secondary_connection s).number ≡ n → taken ≡ length (items_taken (secondary_connection s))
    → applied ≡ applied_items (secondary_connection s)
    → (taken ≡ length (items_taken (secondary_connection_at (kept s) n))) × (applied ≡ applied_items (secondary_connection_at (kept s) n))
items-last s n taken applied is one two = (
  one ∙ ap (λ (d : SecondaryConnection). length (items_taken d)) (sym (kept-last s n is)),
  two
      ∙ ap applied_items (sym (kept-last s n is)),
)

pub items-none : (s : SecondaryHistory) (n : ℕ) → ((secondary_connection s).number ≡ n → ⊥)
    → (0 ≡ length (items_taken (secondary_connection_at (kept s) n))) × (0 ≡ applied_items (secondary_connection_at (kept s) n))
items-none s n other = (ap (λ (d : SecondaryConnection). length (items_taken d)) (sym (kept-none s n other)), ap applied_items (sym (kept-none s n other)))

-- The answer, by its tests.

by : PrimaryHistory → SecondaryHistory → List Receipt → Bool → Bool → Bool → Result Settlement Refusal
by p s receipts rest strange faulty = elim (first_refusal ((not rest, NotDrained) ∷ (strange, StrangeReceipt) ∷ (faulty, ReadFault) ∷ [])) as
    (λ _. Result Settlement Refusal) [ Some refusal ↦ Err refusal | None ↦ Ok (settlement p s receipts) ]

pub not-at-rest : (p : PrimaryHistory) (s : SecondaryHistory) (receipts : List Receipt) (faulty : Bool) → is_at_rest p s ≡ false
    → settle p s receipts faulty ≡ Err NotDrained
unfolding by
not-at-rest p s receipts faulty rest = ap (λ (b : Bool). by p s receipts b (has_strange p.journal [] receipts) faulty) rest

pub strange-given : (p : PrimaryHistory) (s : SecondaryHistory) (receipts : List Receipt) (faulty : Bool) → is_at_rest p s ≡ true
    → has_strange p.journal [] receipts ≡ true → settle p s receipts faulty ≡ Err StrangeReceipt
unfolding by
strange-given p s receipts faulty rest strange = λ i. by p s receipts (rest i) (strange i) faulty

pub read-failed : (p : PrimaryHistory) (s : SecondaryHistory) (receipts : List Receipt) → is_at_rest p s ≡ true → has_strange p.journal [] receipts ≡ false
    → settle p s receipts true ≡ Err ReadFault
unfolding by
read-failed p s receipts rest strange = λ i. by p s receipts (rest i) (strange i) true

pub is-settled : (p : PrimaryHistory) (s : SecondaryHistory) (receipts : List Receipt) → is_at_rest p s ≡ true → has_strange p.journal [] receipts ≡ false
    → settle p s receipts false ≡ Ok (settlement p s receipts)
unfolding by
is-settled p s receipts rest strange = λ i. by p s receipts (rest i) (strange i) false

-- Where no connection is numbered above the primary's last one, what is kept settles as the whole does.
pub kept-settles : (p : PrimaryHistory) (s : SecondaryHistory) (receipts : List Receipt) (faulty : Bool) → secondary.IsReached s
    → (secondary_connection s).number ≤ length p.connections
    → settle p (kept s) receipts faulty ≡ settle p s receipts faulty
kept-settles p s receipts faulty r most =
    ap (λ (d : SecondaryConnection). elim (first_refusal ((not (is_at_rest p s), NotDrained) ∷ (has_strange p.journal [] receipts, StrangeReceipt) ∷ (
      faulty,
      ReadFault,
    ) ∷ [])) as (λ _. Result Settlement Refusal) [
      | Some refusal ↦ Err refusal
      | None ↦ Ok (record {
        sent = items_sent (primary_connection p);
        taken = length (items_taken d);
        applied = applied_items d;
        confirmed = length receipts;
        unmarked = unmarked_differences p s;
      })
    ]) (kept-at s (length p.connections) r most)

-- the opening from which two histories were reached
abbrev pub reached_from : (p : PrimaryHistory) (s : SecondaryHistory) → primary.IsReached p → secondary.IsReached s → Opening
reached_from p s rp rs =
    record { settings = rp.settings; peer_settings = rs.settings; local = rp.disk; peer = rs.disk; own = rp.tuple; peer_tuple = rs.tuple; marks = rp.marks }

-- what holds of the runs from it holds of the two
pub of-runs : (Q : PrimaryHistory → SecondaryHistory → Type 0) (p : PrimaryHistory) (s : SecondaryHistory) (rp : primary.IsReached p)
    (rs : secondary.IsReached s)
    → Q (primary_run rp.events (primary_at (reached_from p s rp rs))) (secondary_run rs.events (secondary_at (reached_from p s rp rs))) → Q p s
of-runs Q p s rp rs holds = subst (λ (q : PrimaryHistory). Q q s) rp.is
    (subst (Q (primary_run rp.events (primary_at (reached_from p s rp rs)))) (sym rs.reached) holds)

-- it is sound where the identifiers of both openings were honest
pub sound-opening : (p : PrimaryHistory) (s : SecondaryHistory) (rp : primary.IsReached p) (rs : secondary.IsReached s) → WereHonest p s
    → IsSoundOpening (reached_from p s rp rs)
sound-opening p s rp rs honest =
    let here = subst (λ (q : PrimaryHistory). (q.settings ≡ o.settings) × (q.opening_map ≡ o.local) × (q.opening_marks ≡ o.marks)
    × (q.opening_tuple ≡ o.own)) rp.is
    (let k = kept-opening-primary o rp.events in (k.settings, k.disk, k.marks, k.tuple)) in
    let there = subst (λ (t : SecondaryHistory). (t.opening_map ≡ o.peer) × (t.opening_tuple ≡ o.peer_tuple)) (sym rs.reached)
    (let k = kept-opening-secondary o rs.events in (k.disk, k.tuple)) in
    let marked : (block : ℕ) → opening_marked p block ≡ marks_at o block
    = λ block. (λ i. nat_lt block (here.0 i).blocks && (here.2 i) block) in
    let covers : Cover (opening_marked p) p.opening_map s.opening_map → Cover (marks_at o) o.local o.peer
    = λ cover block differs. sym (marked block) ∙ cover block ((λ i. same_block (here.1 i block) (there.0 i block)) ∙ differs) in
    record {
      ranges = record { here = rp.ranges; there = rs.in_range };
      local = rp.sized;
      peer = rs.sized;
      identifiers = record {
        own_data = subst (λ (t : Tuple). 0 < t.current) here.3 honest.own_data;
        same_current = λ same. covers (honest.same_current (ap (λ (t : Tuple). t.current) there.1 ∙ same ∙ sym (ap (λ (t : Tuple). t.current) here.3)));
        from_bitmap = λ some same. covers (honest.from_bitmap (subst (λ (t : Tuple). 0 < t.bitmap) (sym here.3) some) (ap (λ (t : Tuple). t.current) there.1
            ∙ same ∙ sym (ap (λ (t : Tuple). t.bitmap) here.3)));
      };
    }
  where
    o : Opening
    o = reached_from p s rp rs

-- What a settlement says of nodes that are joined, where the identifiers of both openings were honest.
pub settled-says : (p : PrimaryHistory) (s : SecondaryHistory) → primary.IsReached p → secondary.IsReached s → WereHonest p s → IsJoined p s
    → (receipts : List Receipt) (numbers : Settlement) → settle p s receipts false ≡ Ok numbers → Settles p s receipts numbers
settled-says p s rp rs honest joined receipts numbers is =
    of-runs (λ q t. IsJoined q t → settle q t receipts false ≡ Ok numbers → Settles q t receipts numbers) p s rp rs
    (λ both settled. joined_settles (reached_from p s rp rs) rp.events rs.events (sound-opening p s rp rs honest) both receipts false numbers settled) joined is

-- The same whatever the identifiers say.
pub settled-says-anyhow : (p : PrimaryHistory) (s : SecondaryHistory) → primary.IsReached p → secondary.IsReached s → IsJoined p s
    → (receipts : List Receipt) (numbers : Settlement) → settle p s receipts false ≡ Ok numbers → SettlesAnyhow p s receipts numbers
settled-says-anyhow p s rp rs joined receipts numbers is =
    of-runs (λ q t. IsJoined q t → settle q t receipts false ≡ Ok numbers → SettlesAnyhow q t receipts numbers) p s rp rs
    (λ both settled. joined_settles_anyhow (reached_from p s rp rs) rp.events rs.events (record { here = rp.ranges; there = rs.in_range }) both receipts false
    numbers settled) joined is

-- While the secondary calls itself consistent, its disk keeps the order of writes.
pub keeps-order : (p : PrimaryHistory) (s : SecondaryHistory) → primary.IsReached p → secondary.IsReached s → WereHonest p s → IsJoined p s → IsUnharmed p s
    → KeepsWriteOrder p s
keeps-order p s rp rs honest = of-runs (λ q t. IsJoined q t → IsUnharmed q t → KeepsWriteOrder q t) p s rp rs
    (joined_write_order (reached_from p s rp rs) rp.events rs.events (sound-opening p s rp rs honest))

-- receipts of which none is strange
pub entries-by : (p : PrimaryHistory) (receipts : List Receipt) (found : Bool) → found ≡ true → found ≡ not (has_strange p.journal [] receipts)
    → AreEntries p receipts
entries-by p receipts found given is = record {
  each = λ i receipt at.
      let any = pick-any (λ (entry : Completion). same_receipt (receipt_of entry) receipt) p.journal (known p.journal [] receipts none i receipt at).0 in
      (any.0, any.1, any.2, sym (receipts-same (receipt_of any.1) receipt any.3));
  once = given-once p.journal [] receipts none;
}
  where
    turned : (b : Bool) → true ≡ not b → b ≡ false
    turned true is = absurd (cc)
    turned false is = refl

    none : has_strange p.journal [] receipts ≡ false
    none = turned (has_strange p.journal [] receipts) (sym given ∙ is)
