-- No end of a primary pushes more frames than it owes, whether it is open or closed: so what was pushed tells how many items
-- were sent.
use Rattle.std.proofs.Common.{ℕ, ◌≡◌, ◌+◌, ◌-◌, ◌≤◌, ◌<◌, inl, inr, min, Bool, true, false, not, List, [], ◌∷◌, ◌++◌, length, Option, Some, None, Ok, refl, sym}
use Rattle.std.proofs.Common.{◌∙◌, ap, subst, arith}
use Rattle.std.proofs.lemmas.Bool.{both_ways, and_parts}
use Rattle.std.proofs.lemmas.List.{length-append, length-take}
use Rattle.blocks.specs.declared.tuple.Tuple.{Tuple}
use Rattle.blocks.specs.declared.outcome.Decision.{Decision}
use Rattle.blocks.specs.declared.outcome.Decision.TheVariants.{NoSync, BitmapSync, FullSync}
use Rattle.model.specs.Stream.{WriteItem, SyncUuidItem, within}
use Rattle.model.specs.Frames.{UuidsFrame}
use Rattle.model.specs.Primary.{Accepted, PrimaryConnection, PrimaryHistory, primary_opening, no_primary_connection, primary_connection, change_last, last_of}
use Rattle.model.specs.Primary.{with_primary_connection, is_established, in_resync, items_sent, frames_due}
use Rattle.model.specs.PrimarySteps.{submission, submitted, faulted, accepted_at, submitted_with, faulted_by}
use Rattle.model.specs.Acknowledgements.{begun_with}
use Rattle.laws.proofs.Rules.FramesDue.{length-due}
use Rattle.laws.proofs.Rules.EpochEnds.{over-standing, takes-writes}
use Rattle.laws.proofs.Lists.Each.{Each, each-append, each-change, each-get}
use Rattle.laws.proofs.Lists.Last.{change-twice, last-at}
use Rattle.laws.proofs.Primary.Moves.{following-from, IsKeptByMoves, IsKeptByReleases, kept-by-releases, keeps-run, with_frame, pushing}
use Rattle.laws.proofs.Primary.Sendable.{HasFitEnds, IsFitEnd, primary_fit}
use Rattle.laws.proofs.Rules.ResyncEnds.{over-established}
use Rattle.primary_protocol.specs.Node.{NodeState, NodeHas}
use Rattle.primary_protocol.specs.Steps.{IsReached}
use Rattle.laws.proofs.Rules.RefusedFrames.{refused_out, refused-last}

-- A connection that has pushed no more than its hello and its stream, and whose stream is empty until it has begun.
record IsPushed (c : PrimaryConnection) : Type 0 where
  within : c.pushed ≤ 3 + length c.stream
  empty : c.begun ≡ false → c.stream ≡ []

-- every connection is so
abbrev ArePushed : PrimaryHistory → Type 0
ArePushed h = Each IsPushed h.connections

-- Changes of the last connection.

changes : (h : PrimaryHistory) (cs : List PrimaryConnection) (f : PrimaryConnection → PrimaryConnection) → cs ≡ change_last f h.connections
    → (IsPushed (primary_connection h) → IsPushed (f (primary_connection h))) → ArePushed h → Each IsPushed cs
changes h cs f connections keeps all = subst (Each IsPushed) (sym connections) (each-change IsPushed f (no_primary_connection h.tuple) h.connections all keeps)

-- a frame was taken
takes : (h : PrimaryHistory) (cs : List PrimaryConnection) (f : PrimaryConnection → PrimaryConnection) → cs ≡ change_last f h.connections
    → (f (primary_connection h)).pushed ≡ (primary_connection h).pushed
    → (f (primary_connection h)).stream ≡ (primary_connection h).stream → (f (primary_connection h)).begun ≡ (primary_connection h).begun → ArePushed h
    → Each IsPushed cs
takes h cs f connections pushed stream begun all = changes h cs f connections (λ e. record {
  within = let old = e.within in let size = ap length stream in omega arith;
  empty = λ unbegun. stream ∙ e.empty (sym begun ∙ unbegun);
}) all

-- an item goes to the end of a stream that has begun
appends : (h : PrimaryHistory) (cs : List PrimaryConnection) (f : PrimaryConnection → PrimaryConnection) → cs ≡ change_last f h.connections
    → is_established (primary_connection h) ≡ true
    → (f (primary_connection h)).pushed ≡ (primary_connection h).pushed → (f (primary_connection h)).begun ≡ (primary_connection h).begun
    → length (primary_connection h).stream ≤ length (f (primary_connection h)).stream → ArePushed h → Each IsPushed cs
appends h cs f connections standing pushed begun longer all = changes h cs f connections (λ e. record {
  within = let old = e.within in omega arith;
  empty = λ unbegun. absurd (both_ways (primary_connection h).begun (sym begun
      ∙ unbegun) (and_parts (not (primary_connection h).closed) (primary_connection h).begun standing).1);
}) all

-- a list with one more is longer
longer-by : {X : Type 0} (xs : List X) (x : X) → length xs ≤ length (xs ++ x ∷ [])
longer-by xs x = let size = length-append xs (x ∷ []) in omega arith

pushed-submits : (h : PrimaryHistory) (first : ℕ) (contents : List (List ℕ)) → ArePushed h → ArePushed (submitted h first contents)
pushed-submits h first contents all = go (is_established (primary_connection h)) refl
  where
    go : (b : Bool) → is_established (primary_connection h) ≡ b → ArePushed (submitted_with b h first contents)
    go true is = appends h _ (λ c. record c { stream = c.stream ++ WriteItem (submission h first contents) ∷ [] }) refl is refl refl
        (longer-by (primary_connection h).stream _) all
    go false is = all

pushed-faults : (h : PrimaryHistory) (number : ℕ) (offsets : List ℕ) → ArePushed h → ArePushed (faulted number offsets h)
pushed-faults h number offsets all = go (accepted_at h number)
  where
    go : (v : Option Accepted) → ArePushed
        (faulted_by v number offsets h)
    go None = all
    go (Some accepted) = all

pushed-begins : (h : PrimaryHistory) (peer : Tuple) (decided : Decision) → (primary_connection h).begun ≡ false → ArePushed h
    → ArePushed (begun_with decided (record (with_primary_connection (with_frame (Ok (UuidsFrame peer))) h) { peer = Some peer }))
pushed-begins h peer decided unbegun all = go decided
  where
    taken : PrimaryHistory
    taken = record (with_primary_connection (with_frame (Ok (UuidsFrame peer))) h) { peer = Some peer }

    twice : (cs : List PrimaryConnection) (g : PrimaryConnection → PrimaryConnection)
        → cs ≡ change_last g (change_last (with_frame (Ok (UuidsFrame peer))) h.connections)
        → (IsPushed (primary_connection h) → IsPushed (g (with_frame (Ok (UuidsFrame peer)) (primary_connection h)))) → Each IsPushed cs
    twice cs g connections keeps = changes h cs (λ c. g (with_frame (Ok (UuidsFrame peer)) c)) (connections
        ∙ change-twice (with_frame (Ok (UuidsFrame peer))) g h.connections) keeps all

    few : IsPushed (primary_connection h) → (primary_connection h).pushed ≤ 3
    few e = let none = ap length (e.empty unbegun) in let old = e.within in omega arith

    go : (v : Decision) → ArePushed (begun_with v (record (with_primary_connection (with_frame (Ok (UuidsFrame peer))) h) { peer = Some peer }))
    go NoSync = twice _ (λ c. record c { begun = true }) refl (λ e. record { within = e.within; empty = λ begun. absurd (cc) })
    go BitmapSync = twice _ (λ c. record c { begun = true; stream = SyncUuidItem (primary_connection taken).sync ∷ [] }) refl
        (λ e. record { within = let old = few e in omega arith; empty = λ begun. absurd (cc) })
    go FullSync = twice _ (λ c. record c { begun = true; stream = SyncUuidItem (primary_connection taken).sync ∷ [] }) refl
        (λ e. record { within = let old = few e in omega arith; empty = λ begun. absurd (cc) })

pushed-kept : IsKeptByMoves ArePushed ArePushed
pushed-kept = record {
  following = following-from ArePushed ArePushed ArePushed (λ h all. all)
      (λ g over all. appends g _ _ refl (over-standing g over) refl refl (longer-by (primary_connection g).stream _) all) (λ g on all. all)
      (λ g over all. appends g _ _ refl (over-established g over) refl refl (longer-by (primary_connection g).stream _) all) (λ g all. all);
  opens = λ h sync loss closed fresh all. each-append IsPushed h.connections _ all (record { within = omega arith; empty = λ unbegun. refl });
  submits = λ h first contents may all. pushed-submits h first contents all;
  writes = λ h number waiting all. all;
  faults = λ h number offsets waiting all. pushed-faults h number offsets all;
  sends = λ h standing due all. changes h _ pushing refl
      (λ e. record { within = let size = length-due h.settings (primary_connection h) in omega arith; empty = e.empty })
      all;
  greets = λ h frame standing new met all. takes h _ (with_frame frame) refl refl refl refl all;
  begins = λ h peer decided standing new late is fresh all. pushed-begins h peer decided new all;
  receives = λ h ack standing begun may all. takes h _ (with_frame _) refl refl refl refl all;
  applies = λ h ack standing begun may all. takes h _ (with_frame _) refl refl refl refl all;
  clears = λ h ack standing begun may all. takes h _ (with_frame _) refl refl refl refl all;
  confirms = λ h number size standing begun turn all. takes h _ (with_frame _) refl refl refl refl all;
  refuses = λ h frame peer standing all. takes h _ (refused_out frame)
      (refused-last frame peer h) refl refl refl all;
  resyncs = λ h block read may runs alone is all. appends h _ _ refl (and_parts (is_established (primary_connection h)) (in_resync (primary_connection h).stream) runs).0
      refl refl
      (longer-by (primary_connection h).stream _) all;
  closes = λ h standing all. takes h _ (λ c. record c { closed = true }) refl refl refl refl all;
  receipts = λ h number all. all;
}

pushed-released : IsKeptByReleases ArePushed ArePushed
pushed-released = kept-by-releases ArePushed ArePushed (λ h marks all. all)

reached-pushed : (h : PrimaryHistory) → IsReached h → ArePushed h
reached-pushed h reached = subst ArePushed reached.is
    (keeps-run ArePushed ArePushed pushed-kept pushed-released reached.events (primary_opening reached.settings reached.disk reached.tuple reached.marks) tt)

-- what holds of each connection holds of the last, and of none
of-last : (P : PrimaryConnection → Type 0) (h : PrimaryHistory) → Each P h.connections → P (no_primary_connection h.tuple) → P (primary_connection h)
of-last P h all none = elim (last-at (no_primary_connection h.tuple) h.connections) [
  | inl empty ↦ subst P (sym (ap (last_of (no_primary_connection h.tuple)) empty)) none
  | inr at ↦ each-get P h.connections (length h.connections - 1) (primary_connection h) all at
]

-- How many packets were pushed: at most three of the hello, and then the items that were sent; and that is no more than 32 bits
-- count.
pub pushed-many : (n : NodeState) (h : PrimaryHistory) → NodeHas n h → (length n.pushed ≡ (primary_connection h).pushed) × (length n.pushed < 4294967296)
pushed-many n h has = (all, omega (arith, all, within, short))
  where
    within : (primary_connection h).pushed ≤ 3 + length (primary_connection h).stream
    within = of-last (λ c. c.pushed ≤ 3 + length c.stream) h (each-within h.connections (reached-pushed h has.reached)) (omega arith)
      where
        each-within : (cs : List PrimaryConnection) → Each IsPushed cs → Each (λ c. c.pushed ≤ 3 + length c.stream) cs
        each-within [] all = tt
        each-within (c ∷ cs) all = (all.0.within, each-within cs all.1)

    short : length (primary_connection h).stream ≤ 4294967290
    short =
        let reached = has.reached in
        let fit = subst (HasFitEnds reached.settings) reached.is
        (primary_fit reached.settings reached.disk reached.tuple reached.marks reached.events (takes-writes reached.settings reached.ranges)) in
        of-last (λ c. length c.stream ≤ 4294967290) h (each-short h.connections fit.ends) (omega arith)
      where
        each-short : (cs : List PrimaryConnection) → Each (IsFitEnd has.reached.settings) cs → Each (λ c. length c.stream ≤ 4294967290) cs
        each-short [] all = tt
        each-short (c ∷ cs) all = (let fits = all.0.stream.short in omega arith, each-short cs all.1)

    all : length n.pushed ≡ (primary_connection h).pushed
    all =
        let taken : length n.pushed ≡ min (primary_connection h).pushed (length (frames_due h.settings (primary_connection h))) = ap length has.leaves.pushed
        ∙ length-take (primary_connection h).pushed (frames_due h.settings (primary_connection h)) in
        let size = length-due h.settings (primary_connection h) in
        omega (arith, taken, size, within)

-- How many items were sent.
pub says-sent : (n : NodeState) (h : PrimaryHistory) → NodeHas n h → length n.pushed - 3 ≡ items_sent (primary_connection h)
says-sent n h has = ap (λ (m : ℕ). m - 3) (pushed-many n h has).0
