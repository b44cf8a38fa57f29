-- The primary's data keep an identifier: in every run its current one stays above 0.
use Rattle.std.proofs.Common.{ℕ, ◌≡◌, ◌-◌, ◌<◌, inl, inr, Bool, true, false, List, [], ◌∷◌, ◌++◌, length, Option, Some, None, Ok, refl, sym, ap, subst}
use Rattle.std.specs.Prelude.{if◌then◌else◌}
use Rattle.std.proofs.lemmas.Bool.{both_ways}
use Rattle.blocks.specs.declared.tuple.Tuple.{Tuple}
use Rattle.blocks.specs.declared.outcome.Decision.{Decision}
use Rattle.blocks.specs.declared.outcome.Decision.TheVariants.{NoSync, BitmapSync, FullSync}
use Rattle.model.specs.Stream.{WriteItem, SyncUuidItem}
use Rattle.model.specs.Frames.{UuidsFrame}
use Rattle.model.specs.Identifiers.{are_fresh, lost}
use Rattle.model.specs.Primary.{Accepted, PrimaryConnection, PrimaryHistory, no_primary_connection, last_of, change_last, primary_connection}
use Rattle.model.specs.Primary.{with_primary_connection, is_established}
use Rattle.model.specs.PrimarySteps.{submission, submitted, faulted, accepted_at, closing, known_tuples, opened, faulted_by}
use Rattle.model.specs.PrimarySteps.{submitted_with}
use Rattle.model.specs.Acknowledgements.{begun_with}
use Rattle.model.specs.LocalRuns.{PrimaryEvent, primary_run}
use Rattle.model.specs.Theorems.{Opening, primary_at}
use Rattle.laws.proofs.Rules.FreshWords.{loss-some}
use Rattle.laws.proofs.Lists.Each.{Each, each-get, each-append, each-change}
use Rattle.laws.proofs.Lists.Last.{last-at}
use Rattle.laws.proofs.Primary.Moves.{following-from, IsKeptByMoves, IsKeptByReleases, kept-by-releases, keeps-run, with_frame, pushing}
use Rattle.laws.proofs.WriteOrder.Generations.{end-current, start-current, lost-current}
use Rattle.laws.proofs.Rules.RefusedFrames.{refusing}

-- a connection's word for a loss is above 0
abbrev HasWord : PrimaryConnection → Type 0
HasWord c = 0 < c.loss

-- The current identifier is above 0, and so is each word that may follow it.
record IsNamed (h : PrimaryHistory) : Type 0 where
  pub current : 0 < h.tuple.current
  pub words : Each HasWord h.connections

-- the last connection changes and keeps its word, and the current identifier stays
named-change : (h later : PrimaryHistory) (f : PrimaryConnection → PrimaryConnection) → later.connections ≡ change_last f h.connections
    → later.tuple.current ≡ h.tuple.current
    → ((c : PrimaryConnection) → (f c).loss ≡ c.loss) → IsNamed h → IsNamed later
named-change h later f connections current word n = record {
  current = subst (λ (x : ℕ). 0 < x) (sym current) n.current;
  words = subst (Each HasWord) (sym connections)
      (each-change HasWord f (no_primary_connection h.tuple) h.connections n.words (λ had. subst (λ (x : ℕ). 0 < x) (sym (word (primary_connection h))) had));
}

-- neither changes
named-same : (h later : PrimaryHistory) → later.connections ≡ h.connections → later.tuple.current ≡ h.tuple.current → IsNamed h → IsNamed later
named-same h later connections current n = record {
  current = subst (λ (x : ℕ). 0 < x) (sym current) n.current;
  words = subst (Each HasWord) (sym connections) n.words;
}

-- a stream that has begun is on a connection
begun-word : (h : PrimaryHistory) → IsNamed h → (primary_connection h).begun ≡ true → HasWord (primary_connection h)
begun-word h n begun = elim (last-at (no_primary_connection h.tuple) h.connections) [
  | inl none ↦ absurd (both_ways (primary_connection h).begun (ap (λ (l : List PrimaryConnection). (last_of (no_primary_connection h.tuple) l).begun) none)
      begun)
  | inr at ↦ each-get HasWord h.connections (length h.connections - 1) (primary_connection h) n.words at
]

-- the word for a loss becomes current, or what was
lost-above : (word : ℕ) (t : Tuple) → 0 < word → 0 < t.current → 0 < (lost word t).current
lost-above word t some was = elim (lost-current word t) [
  | inl new ↦ subst (λ (x : ℕ). 0 < x) (sym new.1) some
  | inr same ↦ subst (λ (x : ℕ). 0 < x) (sym same) was
]

named-closes : (h : PrimaryHistory) → IsNamed h → IsNamed (closing h)
named-closes h n = record {
  current = go (primary_connection h).begun refl;
  words = each-change HasWord (λ c. record c { closed = true }) (no_primary_connection h.tuple) h.connections n.words (λ had. had);
}
  where
    go : (b : Bool) → (primary_connection h).begun ≡ b → 0 < (if b then lost (primary_connection h).loss h.tuple else h.tuple).current
    go true begun = lost-above (primary_connection h).loss h.tuple (begun-word h n begun) n.current
    go false begun = n.current

named-opens : (h : PrimaryHistory) (sync loss : ℕ) → are_fresh sync loss (known_tuples h) ≡ true → IsNamed h → IsNamed (opened h sync loss)
named-opens h sync loss fresh n =
    record { current = n.current; words = each-append HasWord h.connections _ n.words (loss-some sync loss (known_tuples h) fresh) }

named-submits : (h : PrimaryHistory) (first : ℕ) (contents : List (List ℕ)) → IsNamed h → IsNamed (submitted h first contents)
named-submits h first contents n = go (is_established (primary_connection h))
  where
    go : (b : Bool) → IsNamed (submitted_with b h first contents)
    go true = named-change h _ (λ c. record c { stream = c.stream ++ WriteItem (submission h first contents) ∷ [] }) refl refl (λ c. refl) n
    go false = named-same h _ refl refl n

named-faults : (h : PrimaryHistory) (number : ℕ) (offsets : List ℕ) → IsNamed h → IsNamed (faulted number offsets h)
named-faults h number offsets n = go (accepted_at h number)
  where
    go : (v : Option Accepted) → IsNamed
        (faulted_by v number offsets h)
    go None = n
    go (Some accepted) = named-same h _ refl refl n

named-begins : (h : PrimaryHistory) (peer : Tuple) (decided : Decision) → IsNamed h
    → IsNamed (begun_with decided (record (with_primary_connection (with_frame (Ok (UuidsFrame peer))) h) { peer = Some peer }))
named-begins h peer decided n = go decided
  where
    taken : PrimaryHistory
    taken = record (with_primary_connection (with_frame (Ok (UuidsFrame peer))) h) { peer = Some peer }

    named-taken : IsNamed (record (with_primary_connection (with_frame (Ok (UuidsFrame peer))) h) { peer = Some peer })
    named-taken = named-change h _ (with_frame (Ok (UuidsFrame peer))) refl refl (λ c. refl) n

    go : (v : Decision) → IsNamed (begun_with v (record (with_primary_connection (with_frame (Ok (UuidsFrame peer))) h) { peer = Some peer }))
    go NoSync = named-change taken _ (λ c. record c { begun = true }) refl refl (λ c. refl) named-taken
    go BitmapSync = named-change taken _ (λ c. record c { begun = true; stream = SyncUuidItem (primary_connection taken).sync ∷ [] }) refl
        (start-current (primary_connection taken).sync h.tuple) (λ c. refl) named-taken
    go FullSync = named-change taken _ (λ c. record c { begun = true; stream = SyncUuidItem (primary_connection taken).sync ∷ [] }) refl
        (start-current (primary_connection taken).sync h.tuple) (λ c. refl) named-taken

named-kept : IsKeptByMoves IsNamed IsNamed
named-kept = record {
  following = following-from IsNamed IsNamed IsNamed (λ h n. named-same h _ refl refl n) (λ g over n. named-change g _ _ refl refl (λ c. refl) n) (λ g on n. n)
      (λ g over n. named-change g _ _ refl (end-current g.tuple) (λ c. refl) n) (λ g n. n);
  opens = λ h sync loss closed fresh n. named-opens h sync loss fresh n;
  submits = λ h first contents may n. named-submits h first contents n;
  writes = λ h number waiting n. named-same h _ refl refl n;
  faults = λ h number offsets waiting n. named-faults h number offsets n;
  sends = λ h standing due n. named-change h _ pushing refl refl (λ c. refl) n;
  greets = λ h frame standing new met n. named-change h _ (with_frame frame) refl refl (λ c. refl) n;
  begins = λ h peer decided standing new late is fresh n. named-begins h peer decided n;
  receives = λ h ack standing begun may n. named-change h _ _ refl refl (λ c. refl) n;
  applies = λ h ack standing begun may n. named-change h _ _ refl refl (λ c. refl) n;
  clears = λ h ack standing begun may n. named-change h _ _ refl refl (λ c. refl) n;
  confirms = λ h number size standing begun turn n. named-change h _ _ refl refl (λ c. refl) n;
  refuses = λ h frame peer standing n. named-closes _
      (named-change (record (with_primary_connection (with_frame frame) h) { peer = peer }) _ refusing refl refl (λ c. refl)
      (named-change h _ (with_frame frame) refl refl (λ c. refl) n));
  resyncs = λ h block read may runs alone is n. named-change h _ _ refl refl (λ c. refl) n;
  closes = λ h standing n. named-closes h n;
  receipts = λ h number n. named-same h _ refl refl n;
}

named-released : IsKeptByReleases IsNamed IsNamed
named-released = kept-by-releases IsNamed IsNamed (λ h marks n. named-same h _ refl refl n)

-- Where the opening's is above 0.
pub current-above : (o : Opening) (events : List PrimaryEvent) → 0 < o.own.current → 0 < (primary_run events (primary_at o)).tuple.current
current-above o events some = (keeps-run IsNamed IsNamed named-kept named-released events (primary_at o) (record { current = some; words = tt })).current
