-- Which events accept a write, and which begin a stream.
use Rattle.std.proofs.Common.{ℕ, suc, ◌≡◌, ◌+◌, ◌-◌, ◌≤◌, ◌<◌, ◌⊎◌, ◌==◌, inl, inr, Bool, true, false, not, nat_lt, ◌&&◌, List, [], ◌∷◌, ◌++◌, length, Option}
use Rattle.std.proofs.Common.{Some, None, slice_get}
use Rattle.std.proofs.Common.{refl, sym, ◌∙◌, ap, subst, arith}
use Rattle.std.specs.Prelude.{nat_le}
use Rattle.std.proofs.lemmas.Bool.{and_parts, ltb-true, leb-true, eqb-true}
use Rattle.std.proofs.lemmas.List.{length-map}
use Rattle.std.proofs.lemmas.Option.{slice_get_within}
use Rattle.blocks.specs.declared.outcome.Reply.{Reply}
use Rattle.blocks.specs.declared.outcome.Reply.TheVariants as reply
use Rattle.blocks.specs.declared.outcome.What.TheVariants as what
use Rattle.blocks.specs.declared.refusal.Refusal.TheVariants.{NotConnected, NothingToDo, ReadFault, UnknownJob}
use Rattle.model.specs.Contents.{Write, covers, extent_of, is_range}
use Rattle.model.specs.LocalRuns.{PrimaryEvent, Opens, Submits, WritesLocally, FailsLocally, Sends, Takes, Resyncs, FailsResync, Closes, Receipts}
use Rattle.model.specs.LocalRuns.{primary_after, primary_run}
use Rattle.model.specs.Primary.{OnDisk, Failed, Accepted, PrimaryConnection, PrimaryHistory, change_last, free_block, new_primary_connection, is_established}
use Rattle.model.specs.Primary.{primary_connection, with_primary_connection}
use Rattle.model.specs.PrimarySteps.{accepted_at, closing, copying, given, faulted, faulted_by, follows, is_unfinished, open_tests, opened, resync_tests}
use Rattle.model.specs.PrimarySteps.{send_tests}
use Rattle.model.specs.PrimarySteps.{sending, set_outcome, submission, submit_tests, submitted, submitted_with, succeeding, with_outcome}
use Rattle.model.specs.Marks.{releasing}
use Rattle.model.specs.Stream.{StreamItem, WriteItem, ResyncItem, within}
use Rattle.model.specs.Theorems.{primary_at}
use Rattle.laws.proofs.Lists.Elements.{get-more}
use Rattle.laws.proofs.Primary.Moves.{following-from, tested-keeps, pushing}
use Rattle.laws.proofs.Rules.Receipts.{receipt-has}
use Rattle.laws.proofs.Rules.Submissions.{accepted-by-tests}
use Rattle.stops.proofs.Growing.{cover_grows}
use Rattle.stops.specs.Hooks.{EventsCover, HasGrown, MayCover, begun_count, begun_by}

count-same : (f : PrimaryConnection → PrimaryConnection) → ((c : PrimaryConnection) → (f c).begun ≡ c.begun) → (cs : List PrimaryConnection)
    → begun_count (change_last f cs) ≡ begun_count cs
count-same f same [] = refl
count-same f same (c ∷ []) = ap (λ b. begun_by b 0) (same c)
count-same f same (c ∷ d ∷ cs) = ap (begun_by c.begun) (count-same f same (d ∷ cs))

count-new : (c : PrimaryConnection) → c.begun ≡ false → (cs : List PrimaryConnection) → begun_count (cs ++ c ∷ []) ≡ begun_count cs
count-new c new [] = ap (λ b. begun_by b 0) new
count-new c new (d ∷ cs) = ap (begun_by d.begun) (count-new c new cs)

-- No more writes, and no more streams that began.
pub record IsQuiet (n m : ℕ) (g : PrimaryHistory) : Type 0 where
  pub writes : length g.writes ≤ n
  pub streams : begun_count g.connections ≤ m

pub quiet-change : (n m : ℕ) (h later : PrimaryHistory) (f : PrimaryConnection → PrimaryConnection) → later.connections ≡ change_last f h.connections
    → length later.writes ≡ length h.writes → ((c : PrimaryConnection) → (f c).begun ≡ c.begun) → IsQuiet n m h → IsQuiet n m later
quiet-change n m h later f connections writes same q = record {
  writes = omega (arith, q.writes, writes);
  streams = omega (arith, q.streams, ap begun_count connections, count-same f same h.connections);
}

pub quiet-follows : (n m : ℕ) (h : PrimaryHistory) → IsQuiet n m h → IsQuiet n m (follows h).history
quiet-follows n m = following-from (IsQuiet n m) (IsQuiet n m) (IsQuiet n m) (λ h q. record { writes = q.writes; streams = q.streams })
    (λ g over q. quiet-change n m g _ _ refl refl (λ c. refl) q) (λ g on q. q) (λ g over q. quiet-change n m g _ _ refl refl (λ c. refl) q) (λ g q. q)

quiet-faults : (n m : ℕ) (h : PrimaryHistory) (number : ℕ) (offsets : List ℕ) → IsQuiet n m h → IsQuiet n m (faulted number offsets h)
quiet-faults n m h number offsets q = go (accepted_at h number)
  where
    go : (v : Option Accepted) → IsQuiet n m (faulted_by v number offsets h)
    go None = q
    go (Some accepted) = record {
      writes = omega (arith, q.writes, length-map h.writes (set_outcome number (Failed (within (length accepted.write.contents) offsets))));
      streams = q.streams;
    }

-- an event of another kind than a submission or a frame
quiet-after : (n m : ℕ) (h : PrimaryHistory) (event : PrimaryEvent) (block : ℕ) → IsQuiet n m h → IsQuiet n m (primary_after event h) ⊎ MayCover event h block
    ⊎ ((first : ℕ) × (contents : List (List ℕ)) × (out_of_memory : Bool) × (event ≡ Submits first contents out_of_memory))
    ⊎ ((frame : _) × (out_of_memory : Bool) × (event ≡ Takes frame out_of_memory))
quiet-after n m h (Opens sync loss out_of_memory) block q = inl (tested-keeps (IsQuiet n m) h (open_tests h sync loss out_of_memory)
    (λ _. succeeding what.Nothing (opened h sync loss)) q (λ none. quiet-follows n m (opened h sync loss) (record {
      writes = q.writes;
      streams = omega (arith, q.streams, count-new (new_primary_connection sync loss h.tuple) refl h.connections);
    })))
quiet-after n m h (Submits first contents out_of_memory) block q = inr (inr (inl (first, contents, out_of_memory, refl)))
quiet-after n m h (WritesLocally number) block q = inl (tested-keeps (IsQuiet n m) h ((not (is_unfinished h number), UnknownJob) ∷ [])
    (λ _. succeeding what.Nothing (releasing h (with_outcome number OnDisk h))) q (λ none. quiet-follows n m (releasing h (with_outcome number OnDisk h)) (record {
      writes = omega (arith, q.writes, length-map h.writes (set_outcome number OnDisk));
      streams = q.streams;
    })))
quiet-after n m h (FailsLocally number offsets) block q = inl (tested-keeps (IsQuiet n m) h ((not (is_unfinished h number), UnknownJob) ∷ [])
    (λ _. succeeding what.Nothing (faulted number offsets h)) q (λ none. quiet-follows n m (faulted number offsets h) (quiet-faults n m h number offsets q)))
quiet-after n m h (Sends room out_of_memory) block q = inl (tested-keeps (IsQuiet n m) h (send_tests h room out_of_memory)
    (λ _. succeeding (sending h) (with_primary_connection pushing h)) q
    (λ none. quiet-follows n m (with_primary_connection pushing h) (quiet-change n m h (with_primary_connection pushing h) pushing refl refl (λ c. refl) q)))
quiet-after n m h (Takes frame out_of_memory) block q = inr (inr (inr (frame, out_of_memory, refl)))
quiet-after n m h (Resyncs read out_of_memory) block q = inl (tested-keeps (IsQuiet n m) h (resync_tests h out_of_memory) (λ _. elim (free_block h) as (λ _. Reply × PrimaryHistory) [
  | None ↦ (reply.Refused NothingToDo, h)
  | Some block ↦ succeeding (what.Block (record { 0 = block }) (length (primary_connection h).stream))
      (copying read block h)
]) q (λ none. go (free_block h)))
  where
    go : (v : Option ℕ) → IsQuiet n m (elim v as (λ _. Reply × PrimaryHistory) [
      | None ↦ (reply.Refused NothingToDo, h)
      | Some block ↦ succeeding (what.Block (record { 0 = block }) (length (primary_connection h).stream))
          (copying read block h)
    ]).1
    go None = q
    go (Some at) =
        let item : StreamItem = ResyncItem at (given read h at) in
        quiet-follows n m (copying read at h) (quiet-change n m h (copying read at h) (λ c. record c { stream = c.stream ++ item ∷ [] }) refl refl (λ c. refl) q)
quiet-after n m h (FailsResync out_of_memory) block q = inl (tested-keeps (IsQuiet n m) h (resync_tests h out_of_memory) (λ _. (reply.Refused ReadFault, h)) q (λ none. q))
quiet-after n m h Closes block q = inl (tested-keeps (IsQuiet n m) h (((primary_connection h).closed, NotConnected) ∷ [])
    (λ _. let after = follows (closing h) in (reply.Closed (length after.completed), after.history)) q
    (λ none. quiet-follows n m (closing h) (quiet-change n m h (closing h) (λ c. record c { closed = true }) refl refl (λ c. refl) q)))
quiet-after n m h (Receipts number) block q = inl (receipt-has (λ r. IsQuiet n m r.1) number h (λ refusal. q)
    (record { writes = q.writes; streams = q.streams }) (λ entry. record { writes = q.writes; streams = q.streams }))

-- Of a submission: the one write more is the one that was asked for.
record IsAsked (h : PrimaryHistory) (first : ℕ) (contents : List (List ℕ)) (g : PrimaryHistory) : Type 0 where
  streams : begun_count g.connections ≤ begun_count h.connections
  asked : (i : ℕ) (a : Accepted) → length h.writes ≤ i → slice_get g.writes i ≡ Some a
      → (a.write ≡ submission h first contents) × (is_range h.settings first (length contents) ≡ true)

asked-change : (h : PrimaryHistory) (first : ℕ) (contents : List (List ℕ)) (g later : PrimaryHistory) (f : PrimaryConnection → PrimaryConnection)
    → later.connections ≡ change_last f g.connections → later.writes ≡ g.writes → ((c : PrimaryConnection) → (f c).begun ≡ c.begun)
    → IsAsked h first contents g → IsAsked h first contents later
asked-change h first contents g later f connections writes same q = record {
  streams = omega (arith, q.streams, ap begun_count connections, count-same f same g.connections);
  asked = λ i a low at. q.asked i a low (subst (λ (l : List Accepted). slice_get l i ≡ Some a) writes at);
}

asked-follows : (h : PrimaryHistory) (first : ℕ) (contents : List (List ℕ)) (g : PrimaryHistory) → IsAsked h first contents g
    → IsAsked h first contents (follows g).history
asked-follows h first contents = following-from (IsAsked h first contents) (IsAsked h first contents) (IsAsked h first contents)
    (λ g q. record { streams = q.streams; asked = q.asked })
    (λ g over q. asked-change h first contents g _ _ refl refl (λ c. refl) q) (λ g on q. q)
    (λ g over q. asked-change h first contents g _ _ refl refl (λ c. refl) q) (λ g q. q)

asked-submits : (h : PrimaryHistory) (first : ℕ) (contents : List (List ℕ)) → is_range h.settings first (length contents) ≡ true
    → IsAsked h first contents (submitted h first contents)
asked-submits h first contents range = go (is_established (primary_connection h))
  where
    new-one : (added : Accepted) → added.write ≡ submission h first contents → (i : ℕ) (a : Accepted) → length h.writes ≤ i
        → slice_get (h.writes ++ added ∷ []) i ≡ Some a → (a.write ≡ submission h first contents) × (is_range h.settings first (length contents) ≡ true)
    new-one added is i a low at = elim (get-more h.writes added i a at) [
      | inl old ↦ absurd (let inside = slice_get_within h.writes i a old in omega arith)
      | inr new ↦ (ap (λ (x : Accepted). x.write) new.1 ∙ is, range)
    ]

    go : (b : Bool) → IsAsked h first contents (submitted_with b h first contents)
    go true = record {
      streams = omega (arith, count-same (λ c. record c { stream = c.stream ++ WriteItem (submission h first contents) ∷ [] }) (λ c. refl) h.connections);
      asked = new-one _ refl;
    }
    go false = record { streams = omega arith; asked = new-one _ refl }

asked-after : (h : PrimaryHistory) (first : ℕ) (contents : List (List ℕ)) (out_of_memory : Bool)
    → IsAsked h first contents (primary_after (Submits first contents out_of_memory) h)
asked-after h first contents out_of_memory = tested-keeps (IsAsked h first contents) h (submit_tests h first contents out_of_memory)
    (λ _. succeeding (what.Write (suc (length h.writes))) (submitted h first contents))
    (record { streams = omega arith; asked = λ i a low at. absurd (let inside = slice_get_within h.writes i a at in omega arith) })
    (λ none. asked-follows h first contents (submitted h first contents) (asked-submits h first contents (accepted-by-tests h first contents out_of_memory none).range))

-- a block of a range lies in its extent
one-extent : (settings : _) (first count block : ℕ) → is_range settings first count ≡ true → first ≤ block → block < first + count → extent_of block ≡ extent_of first
one-extent settings first count block range low high =
    let parts = and_parts ((nat_lt 0 count && nat_le count 32) && nat_le (first + count) settings.blocks) (extent_of first == extent_of (first + count - 1)) range in
    let same : extent_of first ≡ extent_of (first + count - 1) = eqb-true (extent_of first) (extent_of (first + count - 1)) parts.1 in
    omega arith

pub events_cover : EventsCover
events_cover o events event block covered = elim (cover_grows o events event block covered) [
  | inl was ↦ inl was
  | inr grown ↦ elim (quiet-after (length (primary_run events (primary_at o)).writes) (begun_count (primary_run events (primary_at o)).connections)
      (primary_run events (primary_at o)) event block (record { writes = omega arith; streams = omega arith })) [
        | inl quiet ↦ absurd (none (primary_after event (primary_run events (primary_at o))) quiet grown)
        | inr rest ↦ inr (elim rest [
          | inl may ↦ may
          | inr kind ↦ elim kind [
            | inl is ↦ subst (λ (e : PrimaryEvent). MayCover e (primary_run events (primary_at o)) block) (sym is.3)
                (asked-covers (primary_run events (primary_at o)) is.0 is.1 is.2 block
                (subst (λ (e : PrimaryEvent). HasGrown (length (primary_run events (primary_at o)).writes) (begun_count (primary_run events (primary_at o)).connections)
                block (primary_after e (primary_run events (primary_at o)))) is.3 grown))
            | inr is ↦ subst (λ (e : PrimaryEvent). MayCover e (primary_run events (primary_at o)) block) (sym is.2)
                (subst (λ (e : PrimaryEvent). HasGrown (length (primary_run events (primary_at o)).writes) (begun_count (primary_run events (primary_at o)).connections)
                block (primary_after e (primary_run events (primary_at o)))) is.2 grown)
          ]
        ])
      ]
]
  where
    none : {n m : ℕ} (g : PrimaryHistory) → IsQuiet n m g → HasGrown n m block g → ⊥
    none g quiet (inl new) = let inside = slice_get_within g.writes new.0 new.1 new.3 in omega (arith, inside, quiet.writes, new.2)
    none g quiet (inr began) = omega (arith, quiet.streams, began.0)

    asked-covers : (h : PrimaryHistory) (first : ℕ) (contents : List (List ℕ)) (out_of_memory : Bool) (block : ℕ)
        → HasGrown (length h.writes) (begun_count h.connections) block (primary_after (Submits first contents out_of_memory) h)
        → extent_of block ≡ extent_of first
    asked-covers h first contents out_of_memory block (inl new) =
        let asked = (asked-after h first contents out_of_memory).asked new.0 new.1 new.2 new.3 in
        let has : covers (submission h first contents) block ≡ true = subst (λ (w : Write). covers w block ≡ true) asked.0 new.4 in
        let parts = and_parts (nat_le first block) (nat_lt block (first + length contents)) has in
        one-extent h.settings first (length contents) block asked.1 (leb-true first block parts.0) (ltb-true block (first + length contents) parts.1)
    asked-covers h first contents out_of_memory block (inr began) = absurd (omega (arith, (asked-after h first contents out_of_memory).streams, began.0))
