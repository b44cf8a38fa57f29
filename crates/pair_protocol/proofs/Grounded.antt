-- A history that is grounded stays so: a stream that began is there, and nothing changes how the history began.
use Rattle.std.proofs.Common.{ℕ, inl, inr, nat_lt, Bool, ◌&&◌, List, [], ◌∷◌, sym, ◌∙◌, ap, subst}
use Rattle.blocks.specs.declared.settings.Settings.{Settings}
use Rattle.std.specs.Prelude.{IsTrue}
use Rattle.std.proofs.Common.{refl}
use Rattle.model.specs.Contents.{BlockMap}
use Rattle.model.specs.Primary.{PrimaryHistory}
use Rattle.laws.proofs.Primary.Faithful.{faithful-run}
use Rattle.model.specs.Headline.{Cover, IsGrounded, opening_marked}
use Rattle.model.specs.Pair.{Event, PairHistory, same_block, step, run}
use Rattle.model.specs.Theorems.{Opening, pair_at}
use Rattle.laws.proofs.Joining.Openings.{HasOpening, HasOpeningToo}
use Rattle.laws.proofs.Primary.HomesMoves.{homes-opening}
use Rattle.laws.proofs.Pair.Runs.{IsLinkedPair, leads-run}
use Rattle.pair_protocol.specs.State.{IsRun}
use Rattle.pair_protocol.proofs.Begun.{HasBegun, begun-run}
use Rattle.pair_protocol.proofs.Honest.{opens-here, opens-there}
use Rattle.pair_protocol.proofs.Stepping.{is-run-more, same-opening}

-- both ends of every connection of the history are linked
linked : (h : PairHistory) → IsRun h → IsLinkedPair h
linked h is =
    let o = is.opening in
    subst IsLinkedPair is.is (leads-run is.events (pair_at o)
    (record { homes = homes-opening o.settings o.local o.own o.marks; pairs = tt; counted = λ j d at. absurd (cc) })).1

-- what began stays begun
begun-after : (event : Event) (out_of_memory : Bool) (h : PairHistory) → IsRun h → HasBegun h.primary → HasBegun (step event out_of_memory h).1.primary
begun-after event out_of_memory h is has =
    let runs = (leads-run ((event, out_of_memory) ∷ []) h (linked h is)).0 in
    subst HasBegun (sym runs.primary) (begun-run runs.here h.primary has)

-- the opening marks cover the opening disks of two histories that begin alike
same-cover : (o : Opening) (h k : PairHistory) → HasOpening o h.primary → HasOpeningToo o h.secondary → HasOpening o k.primary → HasOpeningToo o k.secondary
    → Cover (opening_marked h.primary) h.primary.opening_map h.secondary.opening_map
    → Cover (opening_marked k.primary) k.primary.opening_map k.secondary.opening_map
same-cover o h k here there later later-too cover block differs =
    ap (λ (s : Settings). nat_lt block s.blocks && k.primary.opening_marks block) (later.settings ∙ sym here.settings)
    ∙ ap (λ (m : ℕ → Bool). nat_lt block h.primary.settings.blocks && m block) (later.marks ∙ sym here.marks)
    ∙ cover block (
    ap (λ (m : BlockMap). same_block (m block) (h.secondary.opening_map block)) (here.disk ∙ sym later.disk)
    ∙ ap (λ (m : BlockMap). same_block (k.primary.opening_map block) (m block)) (there.disk ∙ sym later-too.disk)
    ∙ differs
    )

-- the resyncs of a pair copy what the local disk has
faithful-still : (event : Event) (out_of_memory : Bool) (h : PairHistory) → IsRun h → IsTrue h.primary.faithful
    → IsTrue (step event out_of_memory h).1.primary.faithful
faithful-still event out_of_memory h is faithful =
    let runs = (leads-run ((event, out_of_memory) ∷ []) h (linked h is)).0 in
    subst (λ (p : PrimaryHistory). IsTrue p.faithful) (sym runs.primary) (faithful-run runs.here runs.own h.primary faithful)

-- so every history of a pair is faithful
pub runs-faithfully : (h : PairHistory) → IsRun h → IsTrue h.primary.faithful
runs-faithfully h is =
    let o = is.opening in
    let runs = (leads-run is.events (pair_at o)
    (record { homes = homes-opening o.settings o.local o.own o.marks; pairs = tt; counted = λ j d at. absurd (cc) })).0 in
    subst (λ (k : PairHistory). IsTrue k.primary.faithful) is.is
    (subst (λ (p : PrimaryHistory). IsTrue p.faithful) (sym runs.primary) (faithful-run runs.here runs.own (pair_at o).primary refl))

-- a step keeps it
grounded-after : (event : Event) (out_of_memory : Bool) (h : PairHistory) → IsRun h → IsGrounded h.primary h.secondary
    → IsGrounded (step event out_of_memory h).1.primary (step event out_of_memory h).1.secondary
grounded-after event out_of_memory h is (faithful, inl begun) =
    (faithful-still event out_of_memory h is faithful, inl (begun-after event out_of_memory h is begun))
grounded-after event out_of_memory h is (faithful, inr cover) =
    let later = is-run-more event out_of_memory h is in
    let same = same-opening event out_of_memory h is in (
      faithful-still event out_of_memory h is faithful,
      inr (same-cover is.opening h (step event out_of_memory h).1 (opens-here h is) (opens-there h is)
          (subst (λ (o : Opening). HasOpening o (step event out_of_memory h).1.primary) same (opens-here (step event out_of_memory h).1 later))
          (subst (λ (o : Opening). HasOpeningToo o (step event out_of_memory h).1.secondary) same (opens-there (step event out_of_memory h).1 later)) cover),
    )

-- and so does every run
pub grounded-kept : (events : List (Event × Bool)) (h : PairHistory) → IsRun h → IsGrounded h.primary h.secondary
    → IsGrounded (run events h).1.primary (run events h).1.secondary
grounded-kept [] h is grounded = grounded
grounded-kept (first ∷ events) h is grounded =
    grounded-kept events (step first.0 first.1 h).1 (is-run-more first.0 first.1 h is) (grounded-after first.0 first.1 h is grounded)
