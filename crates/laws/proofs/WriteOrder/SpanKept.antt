-- Every move of a primary keeps the spans of its connections.
use Rattle.std.proofs.Common.{ℕ, ◌≡◌, ◌<◌, ◌≤◌, ◌⊎◌, inl, inr, false, List, [], ◌∷◌, ◌++◌, length, refl}
use Rattle.std.proofs.Common.{sym, ◌∙◌, ap, subst, arith}
use Rattle.blocks.specs.declared.tuple.Tuple.{Tuple}
use Rattle.model.specs.Stream.{StreamItem, ResyncItem, BarrierItem, UuidsItem, IsBeginning, last_epoch}
use Rattle.model.specs.Frames.{Received}
use Rattle.model.specs.Identifiers.{sync_end}
use Rattle.model.specs.Primary.{PrimaryConnection, PrimaryHistory, primary_connection, change_last, accepted_frames}
use Rattle.model.specs.PrimarySteps.{with_completions, ending_resync, follows}
use Rattle.laws.proofs.Lists.Beginnings.{begins-self}
use Rattle.laws.proofs.Lists.Elements.{get-more}
use Rattle.laws.proofs.Lists.Last.{change-none}
use Rattle.laws.proofs.Primary.Homes.{HasHomes, Grows, grows-self}
use Rattle.laws.proofs.Primary.Moves.{following-from, with_frame}
use Rattle.laws.proofs.Primary.Ends.{not-refused, frames-taking}
use Rattle.laws.proofs.Primary.LastOpen.{IsLastOpen, changes}
use Rattle.laws.proofs.Primary.StaysClosed.{open-established}
use Rattle.laws.proofs.Rules.ResyncEnds.{over-established, over-unmarked}
use Rattle.laws.proofs.Accounted.Moves.{first-carries}
use Rattle.laws.proofs.Accounted.Steps.{begun-change}
use Rattle.laws.proofs.WriteOrder.Spans.{IsAcknowledged}
use Rattle.laws.proofs.WriteOrder.SpanMoves.{HasSpans, SameOpening, passes-change, KeepsSpan, keeps-quiet, spans-change}

-- The moves that change the last connection alone, and its stream not.

-- a connection that keeps its stream, and has more frames
pub grows-with : (c d : PrimaryConnection) → d.stream ≡ c.stream → c.pushed ≤ d.pushed → IsBeginning (accepted_frames c) (accepted_frames d) → Grows c d
grows-with c d stream pushed frames = record {
  stream = subst (λ (l : List StreamItem). IsBeginning c.stream l) (sym stream) (begins-self c.stream);
  pushed = pushed;
  frames = frames;
}

-- one whose stream goes on
pub grows-item : (c : PrimaryConnection) (item : StreamItem) → Grows c (record c { stream = c.stream ++ item ∷ [] })
grows-item c item = record { stream = (item ∷ [], refl); pushed = omega arith; frames = begins-self (accepted_frames c) }

-- no connection and no write changes, and no mark goes away
pub spans-still : (h later : PrimaryHistory) → IsLastOpen h → later.connections ≡ h.connections → later.writes ≡ h.writes → SameOpening h later
    → ((block : ℕ) → later.marks block ≡ false → h.marks block ≡ false) → HasSpans h → HasSpans later
spans-still h later last connections writes opening marks t =
    let same : later.connections ≡ change_last (λ (c : PrimaryConnection). c) h.connections = connections ∙ sym (change-none h.connections) in
    spans-change h later (λ c. c) last
    (passes-change h later (λ c. c) same writes opening
    (λ decided. first-carries h later decided (begun-change h later (λ c. c) same refl (begins-self (primary_connection h).taken)) opening.1.0)) same
    (ap length writes)
    (keeps-quiet h later (primary_connection h) refl (λ k at. grows-self (primary_connection h)) (λ is. is) refl
    (λ unshut block unmarked. marks block unmarked)) t

-- the last connection changes, and neither its stream nor whether it began
pub spans-end : (h later : PrimaryHistory) (f : PrimaryConnection → PrimaryConnection) → IsLastOpen h → later.connections ≡ change_last f h.connections
    → later.writes ≡ h.writes
    → SameOpening h later → (f (primary_connection h)).begun ≡ (primary_connection h).begun
    → IsBeginning (primary_connection h).taken (f (primary_connection h)).taken → KeepsSpan h later (f (primary_connection h)) → HasSpans h → HasSpans later
spans-end h later f last connections writes opening begun taken keeps t =
    spans-change h later f last (passes-change h later f connections writes opening
    (λ decided. first-carries h later decided (begun-change h later f connections begun taken) opening.1.0)) connections (ap length writes) keeps t

-- A frame is taken, and no mark goes away but with a word of the peer.
pub spans-takes : (h later : PrimaryHistory) (frame : Received) → HasHomes h → IsLastOpen h → (primary_connection h).closed ≡ false
    → later.connections ≡ change_last (with_frame frame) h.connections → later.writes ≡ h.writes → SameOpening h later
    → ((block : ℕ) → later.marks block ≡ false → (h.marks block ≡ false) ⊎ IsAcknowledged (with_frame frame (primary_connection h)) block) → HasSpans h
    → HasSpans later
spans-takes h later frame homes last standing connections writes opening marks t =
    spans-end h later (with_frame frame) last connections writes opening refl (frame ∷ [], refl) (record {
      grows = λ k at. grows-with (primary_connection h) (with_frame frame (primary_connection h)) refl (omega arith)
          (frames-taking (primary_connection h) frame (not-refused h homes standing k at));
      unshut = λ is. is;
      begun = refl;
      marks = λ fine unshut block inside unmarked. marks block unmarked;
      reads = λ k older newer at s fine place block contents there. inl there;
      ends = λ n tuple there. inl there;
    }) t

-- an item that is no block of a resync goes to the end of the stream, and no end of one but where nothing is marked
pub spans-appends : (h later : PrimaryHistory) (item : StreamItem) → IsLastOpen h
    → later.connections ≡ change_last (λ c. record c { stream = c.stream ++ item ∷ [] }) h.connections → later.writes ≡ h.writes → SameOpening h later
    → ((block : ℕ) → later.marks block ≡ false → h.marks block ≡ false)
    → ((block : ℕ) (contents : List ℕ) → item ≡ ResyncItem block contents → ⊥)
    → ((tuple : Tuple) → item ≡ UuidsItem tuple → ((primary_connection h).closed ≡ false) × ((block : ℕ) → block < h.settings.blocks → h.marks block ≡ false))
    → HasSpans h → HasSpans later
spans-appends h later item last connections writes opening marks other over t =
    let f : PrimaryConnection → PrimaryConnection = λ c. record c { stream = c.stream ++ item ∷ [] } in
    spans-end h later f last connections writes opening refl (begins-self (primary_connection h).taken) (record {
      grows = λ k at. grows-item (primary_connection h) item;
      unshut = λ is. is;
      begun = refl;
      marks = λ fine unshut block inside unmarked. inl (marks block unmarked);
      reads = λ k older newer at s fine place block contents there. elim (get-more (primary_connection h).stream item place (ResyncItem block contents) there)
          [ inl old ↦ inl old | inr new ↦ absurd (other block contents (sym new.1)) ];
      ends = λ n tuple there. elim (get-more (primary_connection h).stream item n (UuidsItem tuple) there)
          [ inl old ↦ inl old | inr new ↦ inr (over tuple (sym new.1)) ];
    }) t

-- Spans and that the last end alone may be open: kept by what follows an effect.
abbrev pub Follows : PrimaryHistory → Type 0
Follows h = IsLastOpen h × HasSpans h

-- what follows an effect keeps both
pub spans-following : (h : PrimaryHistory) → Follows h → Follows (follows h).history
spans-following = following-from Follows Follows Follows
    (λ h t. (t.0, spans-still h (with_completions h) t.0 refl refl (refl, (refl, (refl, (refl, λ faithful. faithful)))) (λ block is. is) t.1))
    (λ g over t. (
      changes g.connections _ t.0,
      spans-appends g _ (BarrierItem (last_epoch (primary_connection g).stream)) t.0 refl refl (
        refl,
        (refl, (refl, (refl, λ faithful. faithful))),
      ) (λ block is. is) (λ block contents is. cc) (λ tuple is. absurd (cc)) t.1,
    )) (λ g on t. t)
    (λ g over t. (
      changes g.connections _ t.0,
      spans-appends g (ending_resync g) (UuidsItem (sync_end g.tuple)) t.0 refl refl (
        refl,
        (refl, (refl, (refl, λ faithful. faithful))),
      ) (λ block is. is) (λ block contents is. cc) (λ tuple is. (open-established (primary_connection g) (over-established g over), over-unmarked g over))
          t.1,
    )) (λ g t. t)
