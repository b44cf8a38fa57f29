-- Why a secondary calls itself consistent: it never took a SYNC_UUID, or it adopted the tuple that ended a resync and took no
-- SYNC_UUID on a later connection. Kept by every step, whatever frames it takes.
use Rattle.std.proofs.Common.{ℕ, suc, ◌≡◌, ◌-◌, ◌<◌, ◌⊎◌, inl, inr, Bool, true, false, not, ◌==◌, nat_lt, List, [], ◌∷◌, ◌++◌, length, take, drop, map, Option}
use Rattle.std.proofs.Common.{Some, None, slice_get, Ok, refl, sym, ◌∙◌, ap, subst, arith}
use Rattle.std.specs.Prelude.{filter_map, if◌then◌else◌}
use Rattle.std.specs.List.{list_any, cons_option}
use Rattle.std.proofs.lemmas.Bool.{cases_Bool, both_ways, and_parts, not-true, eq-eqb, ltb-true, ltb-false, false_from_ne_true}
use Rattle.std.proofs.lemmas.List.{drop-append-le, append-nil}
use Rattle.std.proofs.lemmas.List.Elements.{filter_map-append}
use Rattle.std.proofs.lemmas.Option.{slice_get_within}
use Rattle.blocks.specs.declared.settings.Settings.{Settings}
use Rattle.blocks.specs.declared.settings.Protocol.{Protocol}
use Rattle.blocks.specs.declared.tuple.Tuple.{Tuple}
use Rattle.model.specs.Contents.{BlockMap}
use Rattle.model.specs.Stream.{StreamItem, WriteItem, UuidsItem, IsBeginning}
use Rattle.model.specs.Frames.{Received, UuidsFrame}
use Rattle.model.specs.Primary.{change_last, is_sync_start, is_sync_end, is_resync}
use Rattle.model.specs.Secondary.{SecondaryConnection, SecondaryHistory, secondary_opening, no_secondary_connection, secondary_connection}
use Rattle.model.specs.Secondary.{with_secondary_connection, accepted_of, received_item, items_taken}
use Rattle.model.specs.Secondary.{is_in_resync, secondary_map, new_secondary_connection}
use Rattle.model.specs.SecondarySteps.{answering, barrier_answer, barriers_to_answer, opened_secondary, next_number, applying}
use Rattle.model.specs.SecondarySteps.{failing, adopting, applied_with}
use Rattle.model.specs.LocalRuns.{SecondaryEvent, secondary_after, secondary_run}
use Rattle.laws.proofs.Lists.Beginnings.{begins-self, get-beginning}
use Rattle.laws.proofs.Lists.Elements.{get-left, get-more, get-end}
use Rattle.laws.proofs.Lists.Last.{get-change, get-change-back, get-last-changed, length-change}
use Rattle.laws.proofs.Lists.Picks.{pick-any}
use Rattle.laws.proofs.Secondary.Good.{taking-more, items-refusing}
use Rattle.laws.proofs.Secondary.Moves.{framed, receipting, pushed_one, closed_end, IsPlain, after-kinds}
use Rattle.laws.proofs.Secondary.Tuples.{open-there, taken-item}
use Rattle.laws.proofs.Rules.RefusedFrames.{refused_in, refused_by_too, refused-last-too}

-- An end whose hello has this tuple, and whose items neither begin nor end a resync, nor are blocks of one.
pub record IsPlainEnd (tuple : Tuple) (d : SecondaryConnection) : Type 0 where
  pub hello : d.hello ≡ tuple
  pub items : (n : ℕ) (i : StreamItem) → slice_get (items_taken d) n ≡ Some i → (is_sync_start i ≡ false) × ((is_sync_end i ≡ false) × (is_resync i ≡ false))

-- it never took a SYNC_UUID
pub record IsNever (h : SecondaryHistory) : Type 0 where
  pub tuple : h.tuple ≡ h.opening_tuple
  pub known : h.opening_tuple.current ≡ 0 → ⊥
  pub ends : (j : ℕ) (d : SecondaryConnection) → slice_get h.connections j ≡ Some d → IsPlainEnd h.opening_tuple d

-- it adopted its tuple on this connection, and took no SYNC_UUID on a later one
pub record IsAdopted (h : SecondaryHistory) : Type 0 where
  pub index : ℕ
  pub place : ℕ
  pub end : SecondaryConnection
  pub at : slice_get h.connections index ≡ Some end
  pub there : slice_get (items_taken end) place ≡ Some (UuidsItem h.tuple)
  pub later : (j : ℕ) (d : SecondaryConnection) → index < j → slice_get h.connections j ≡ Some d → IsPlainEnd h.tuple d

-- One of the two, where it is consistent; and an end that refused a frame is closed.
pub record HasSynced (h : SecondaryHistory) : Type 0 where
  pub refused : (j : ℕ) (d : SecondaryConnection) → slice_get h.connections j ≡ Some d → d.refused ≡ true → d.closed ≡ true
  pub synced : h.consistent ≡ true → IsNever h ⊎ IsAdopted h

-- A change of an end that keeps its hello, and adds items of the plain kinds alone.
record KeepsPlain (d e : SecondaryConnection) : Type 0 where
  hello : e.hello ≡ d.hello
  grows : IsBeginning (items_taken d) (items_taken e)
  items : (n : ℕ) (i : StreamItem) → slice_get (items_taken e) n ≡ Some i
      → (slice_get (items_taken d) n ≡ Some i) ⊎ ((is_sync_start i ≡ false) × ((is_sync_end i ≡ false) × (is_resync i ≡ true → is_in_resync d ≡ true)))
  refused : (d.refused ≡ true → d.closed ≡ true) → e.refused ≡ true → e.closed ≡ true

-- one that keeps the items
same-items : (d e : SecondaryConnection) → e.hello ≡ d.hello → items_taken e ≡ items_taken d
    → ((d.refused ≡ true → d.closed ≡ true) → e.refused ≡ true → e.closed ≡ true)
    → KeepsPlain d e
same-items d e hello items refused = record {
  hello = hello;
  grows = subst (λ (l : List StreamItem). IsBeginning (items_taken d) l) (sym items) (begins-self (items_taken d));
  items = λ n i at. inl (subst (λ (l : List StreamItem). slice_get l n ≡ Some i) items at);
  refused = refused;
}

-- a plain end stays plain
plain-keeps : (tuple : Tuple) (d e : SecondaryConnection) → KeepsPlain d e → IsPlainEnd tuple d → IsPlainEnd tuple e
plain-keeps tuple d e k p = record {
  hello = k.hello ∙ p.hello;
  items = λ n i at. elim (k.items n i at) [
    | inl old ↦ p.items n i old
    | inr new ↦ (
      new.0,
      (
        new.1.0,
        false_from_ne_true (is_resync i) (λ block.
            let started = (and_parts (list_any is_sync_start (items_taken d)) (not (list_any is_sync_end (items_taken d))) (new.1.1 block)).0 in
            let found = pick-any is_sync_start (items_taken d) started in
            both_ways (is_sync_start found.1) (p.items found.0 found.1 found.2).0 found.3),
      ),
    )
  ];
}

-- The last connection changes so, and no tuple is adopted.
synced-change : (h later : SecondaryHistory) (f : SecondaryConnection → SecondaryConnection) → later.connections ≡ change_last f h.connections
    → later.tuple ≡ h.tuple
    → later.opening_tuple ≡ h.opening_tuple → later.consistent ≡ h.consistent → KeepsPlain (secondary_connection h) (f (secondary_connection h))
    → HasSynced h → HasSynced later
synced-change h later f connections tuple opening consistent k t = record {
  refused = λ j d at was. elim (back j d at) [
    | inl same ↦ t.refused j d same was
    | inr changed ↦ subst (λ (x : SecondaryConnection). x.closed ≡ true) (sym changed.0)
        (k.refused (t.refused j (secondary_connection h) changed.1) (subst (λ (x : SecondaryConnection). x.refused ≡ true) changed.0 was))
  ];
  synced = λ is. elim (t.synced (sym consistent ∙ is)) [
    | inl never ↦ inl (record {
      tuple = tuple ∙ (never.tuple ∙ sym opening);
      known = λ none. never.known (ap (λ (x : Tuple). x.current) (sym opening) ∙ none);
      ends = λ j d at. subst (λ (x : Tuple). IsPlainEnd x d) (sym opening) (plain j d at h.opening_tuple (λ e there. never.ends j e there));
    })
    | inr adopted ↦ inr (
        let new = forward adopted.index adopted.end adopted.at in
        record {
          index = adopted.index;
          place = adopted.place;
          end = new.0;
          at = new.1;
          there = get-beginning (items_taken adopted.end) (items_taken new.0) adopted.place (UuidsItem later.tuple) new.2
              (subst (λ (x : Tuple). slice_get (items_taken adopted.end) adopted.place ≡ Some (UuidsItem x)) (sym tuple) adopted.there);
          later = λ j d less at. subst (λ (x : Tuple). IsPlainEnd x d) (sym tuple) (plain j d at h.tuple (λ e there. adopted.later j e less there));
        })
  ];
}
  where
    back : (j : ℕ) (d : SecondaryConnection) → slice_get later.connections j ≡ Some d
        → (slice_get h.connections j ≡ Some d)
        ⊎ ((d ≡ f (secondary_connection h)) × (slice_get h.connections j ≡ Some (secondary_connection h)) × (suc j ≡ length h.connections))
    back j d at = get-change-back f (no_secondary_connection h) h.connections j d
        (subst (λ (l : List SecondaryConnection). slice_get l j ≡ Some d) connections at)

    plain : (j : ℕ) (d : SecondaryConnection) → slice_get later.connections j ≡ Some d → (tuple : Tuple)
        → ((e : SecondaryConnection) → slice_get h.connections j ≡ Some e → IsPlainEnd tuple e) → IsPlainEnd tuple d
    plain j d at tuple was = elim (back j d at) [
      | inl same ↦ was d same
      | inr changed ↦ subst (IsPlainEnd tuple) (sym changed.0)
          (plain-keeps tuple (secondary_connection h) (f (secondary_connection h)) k (was (secondary_connection h) changed.1))
    ]

    forward : (j : ℕ) (d : SecondaryConnection) → slice_get h.connections j ≡ Some d
        → (e : SecondaryConnection) × (slice_get later.connections j ≡ Some e) × IsBeginning (items_taken d) (items_taken e)
    forward j d at = elim (get-change f (no_secondary_connection h) h.connections j d at) [
      | inl same ↦ (d, subst (λ (l : List SecondaryConnection). slice_get l j ≡ Some d) (sym connections) same, begins-self (items_taken d))
      | inr changed ↦ (
        f d,
        subst (λ (l : List SecondaryConnection). slice_get l j ≡ Some (f d)) (sym connections) changed.0,
        subst (λ (x : SecondaryConnection). IsBeginning (items_taken x) (items_taken (f x))) (sym changed.1) k.grows,
      )
    ]

-- Changes of an end.

plain-answering : (d : SecondaryConnection) → KeepsPlain d (answering d)
plain-answering d = go d.closed
  where
    go : (b : Bool) → KeepsPlain d (elim b as
        (λ _. SecondaryConnection) [ true ↦ d | false ↦ record d { due = d.due ++ map (barrier_answer d) (barriers_to_answer d) } ])
    go true = same-items d d refl refl (λ was. was)
    go false = same-items d _ refl refl (λ was. was)

plain-applying : (asked : Protocol) (place : ℕ) (d : SecondaryConnection) → KeepsPlain d (applying asked place d)
plain-applying asked place d = go (slice_get (items_taken d) place)
  where
    go : (v : Option StreamItem) → KeepsPlain d (applied_with v asked place d)
    go None = same-items d d refl refl (λ was. was)
    go (Some item) = same-items d _ refl refl (λ was. was)

-- the items of an end that is still in its hello
items-early : (frame : Received) (d : SecondaryConnection) → d.refused ≡ false → nat_lt (length d.taken) 3 ≡ true → items_taken (framed frame d) ≡ []
items-early frame d plain early =
    ap (λ b. filter_map received_item (drop 3 (if b then take (length (d.taken ++ frame ∷ []) - 1) (d.taken ++ frame ∷ []) else (d.taken ++ frame ∷ [])))) plain
    ∙ ap (filter_map received_item) (short d.taken (ltb-true (length d.taken) 3 early))
  where
    short : (l : List Received) → length l < 3 → drop 3 (l ++ frame ∷ []) ≡ []
    short [] less = refl
    short (a ∷ []) less = refl
    short (a ∷ b ∷ []) less = refl
    short (a ∷ b ∷ c ∷ l) less = absurd (omega arith)

-- a frame behind the hello that brings no item adds none
items-none : (frame : Received) (d : SecondaryConnection) → d.refused ≡ false → nat_lt (length d.taken) 3 ≡ false → received_item frame ≡ None
    → items_taken (framed frame d) ≡ items_taken d
items-none frame d plain late is =
    let old : accepted_of d ≡ drop 3 d.taken = ap (λ b. drop 3 (if b then take (length d.taken - 1) d.taken else d.taken)) plain in
    let new : accepted_of (framed frame d) ≡ drop 3 d.taken ++ frame ∷ [] =
    ap (λ b. drop 3 (if b then take (length (d.taken ++ frame ∷ []) - 1) (d.taken ++ frame ∷ []) else (d.taken ++ frame ∷ []))) plain
    ∙ drop-append-le 3 d.taken (frame ∷ []) (ltb-false (length d.taken) 3 late) in
    ap (filter_map received_item) new
    ∙ (filter_map-append received_item (drop 3 d.taken) (frame ∷ [])
    ∙ (ap (λ v. filter_map received_item (drop 3 d.taken) ++ cons_option v []) is
    ∙ (append-nil (filter_map received_item (drop 3 d.taken)) ∙ ap (filter_map received_item) (sym old))))

-- a plain frame
plain-taking : (h : SecondaryHistory) (frame : Received) → (secondary_connection h).refused ≡ false → IsPlain h frame
    → KeepsPlain (secondary_connection h) (framed frame (secondary_connection h))
plain-taking h frame plain (inl early) =
    let none = items-early frame (secondary_connection h) plain early in
    let more = taking-more frame (secondary_connection h) plain in
    record {
      hello = refl;
      grows = (more.0, sym more.1);
      items = λ n i at. absurd (let there : slice_get [] n ≡ Some i = subst (λ (l : List StreamItem). slice_get l n ≡ Some i) none at in cc (there));
      refused = λ was. was;
    }
plain-taking h frame plain (inr late) = go (received_item frame) refl
  where
    go : (v : Option StreamItem) → received_item frame ≡ v → KeepsPlain (secondary_connection h) (framed frame (secondary_connection h))
    go None is = same-items (secondary_connection h) (framed frame (secondary_connection h)) refl (items-none frame (secondary_connection h) plain late.0 is)
        (λ was. was)
    go (Some item) is =
        let same = taken-item frame item (secondary_connection h) plain late.0 is in
        record {
          hello = refl;
          grows = (item ∷ [], sym same);
          items = λ n i at. elim (get-more (items_taken (secondary_connection h)) item n i (subst (λ (l : List StreamItem). slice_get l n ≡ Some i) same at)) [
            | inl old ↦ inl old
            | inr new ↦ inr (subst (λ (x : StreamItem). (is_sync_start x ≡ false)
                × ((is_sync_end x ≡ false) × (is_resync x ≡ true → is_in_resync (secondary_connection h) ≡ true)))
                (sym new.1) (late.1 item is))
          ];
          refused = λ was. was;
        }

-- Steps.

not-refused-yet : (h : SecondaryHistory) → HasSynced h → (secondary_connection h).closed ≡ false → (secondary_connection h).refused ≡ false
not-refused-yet h t standing = elim (cases_Bool (secondary_connection h).refused) [
  | inl was ↦ absurd (both_ways (secondary_connection h).closed standing
      (t.refused (length h.connections - 1) (secondary_connection h) (open-there h standing) was))
  | inr not_so ↦ not_so
]

then-answering : (h : SecondaryHistory) → HasSynced h → HasSynced (with_secondary_connection answering h)
then-answering h t = synced-change h (with_secondary_connection answering h) answering refl refl refl refl (plain-answering (secondary_connection h)) t

synced-opens : (unseen : ℕ) (h : SecondaryHistory) → HasSynced h → HasSynced (opened_secondary unseen h)
synced-opens unseen h t = record {
  refused = λ j d at was. elim (get-more h.connections new j d at)
      [ inl old ↦ t.refused j d old was | inr added ↦ absurd (both_ways d.refused (ap (λ (x : SecondaryConnection). x.refused) added.1) was) ];
  synced = λ is. elim (t.synced is) [
    | inl never ↦ inl (record {
      tuple = never.tuple;
      known = never.known;
      ends = λ j d at. elim (get-more h.connections new j d at) [
        | inl old ↦ never.ends j d old
        | inr added ↦ subst (IsPlainEnd h.opening_tuple) (sym added.1)
            (record { hello = never.tuple; items = λ n i there. absurd (cc) })
      ];
    })
    | inr adopted ↦ inr (record {
      index = adopted.index;
      place = adopted.place;
      end = adopted.end;
      at = get-left h.connections (new ∷ []) adopted.index adopted.end adopted.at;
      there = adopted.there;
      later = λ j d less at. elim (get-more h.connections new j d at) [
        | inl old ↦ adopted.later j d less old
        | inr added ↦ subst (IsPlainEnd h.tuple)
            (sym added.1) (record { hello = refl; items = λ n i there. absurd (cc) })
      ];
    })
  ];
}
  where
    new : SecondaryConnection
    new = new_secondary_connection (next_number unseen h) (secondary_map h) h.tuple

-- a resync starts
synced-starts : (h : SecondaryHistory) (frame : Received) (tuple : Tuple) → HasSynced h
    → HasSynced (adopting tuple false (with_secondary_connection (framed frame) h))
synced-starts h frame tuple t = record {
  refused = λ j d at was. elim (get-change-back (framed frame) (no_secondary_connection h) h.connections j d at) [
    | inl same ↦ t.refused j d same was
    | inr changed ↦ subst (λ (x : SecondaryConnection). x.closed ≡ true) (sym changed.0)
        (t.refused j (secondary_connection h) changed.1 (subst (λ (x : SecondaryConnection). x.refused ≡ true) changed.0 was))
  ];
  synced = λ is. absurd (cc);
}

-- it ends, and its tuple is adopted
synced-ends : (h : SecondaryHistory) (tuple : Tuple) → (secondary_connection h).closed ≡ false → nat_lt (length (secondary_connection h).taken) 3 ≡ false
    → HasSynced h
    → HasSynced (adopting tuple true (with_secondary_connection (framed (Ok (UuidsFrame tuple))) h))
synced-ends h tuple standing late t = record {
  refused = λ j d at was. elim (get-change-back (framed frame) (no_secondary_connection h) h.connections j d at) [
    | inl same ↦ t.refused j d same was
    | inr changed ↦ subst (λ (x : SecondaryConnection). x.closed ≡ true) (sym changed.0)
        (t.refused j (secondary_connection h) changed.1 (subst (λ (x : SecondaryConnection). x.refused ≡ true) changed.0 was))
  ];
  synced = λ is. inr (
      let there = open-there h standing in
      let items = taken-item frame (UuidsItem tuple) (secondary_connection h) (not-refused-yet h t standing) late refl in
      record {
        index = length h.connections - 1;
        place = length (items_taken (secondary_connection h));
        end = framed frame (secondary_connection h);
        at = get-last-changed (framed frame) (no_secondary_connection h) h.connections (secondary_connection h) there refl;
        there = subst (λ (l : List StreamItem). slice_get l (length (items_taken (secondary_connection h))) ≡ Some (UuidsItem tuple)) (sym items)
            (get-end (items_taken (secondary_connection h)) (UuidsItem tuple));
        later = λ j d less at. absurd (let within = slice_get_within (change_last (framed frame) h.connections) j d at in let size =
            length-change (framed frame) h.connections in omega arith);
      });
}
  where
    frame : Received
    frame = Ok (UuidsFrame tuple)

synced-after : (event : SecondaryEvent) (h : SecondaryHistory) → HasSynced h → HasSynced (secondary_after event h)
synced-after event h t = after-kinds HasSynced h event (record {
  same = t;
  opens = λ unseen was. then-answering (opened_secondary unseen h) (synced-opens unseen h t);
  takes = λ frame standing.
      let plain = not-refused-yet h t standing in
      record {
        accepts = λ kind. then-answering (with_secondary_connection (framed frame) h)
            (synced-change h (with_secondary_connection (framed frame) h) (framed frame) refl refl refl refl (plain-taking h frame plain kind) t);
        receipts = λ write at is late.
            let kind : IsPlain h frame = inr (
              late,
              λ item brings.
                  let same : WriteItem write ≡ item = let e : Some (WriteItem write) ≡ Some item = ap received_item (sym is) ∙ brings in cc in
                  (ap is_sync_start (sym same), (ap is_sync_end (sym same), λ block. absurd (both_ways (is_resync item) (ap is_resync (sym same)) block))),
            ) in
            let taken = synced-change h (with_secondary_connection (framed frame) h) (framed frame) refl refl refl refl (plain-taking h frame plain kind) t in
            let answer : SecondaryConnection → SecondaryConnection = receipting (length (items_taken (secondary_connection h))) write in
            then-answering (with_secondary_connection answer (with_secondary_connection (framed frame) h))
            (synced-change (with_secondary_connection (framed frame) h) (with_secondary_connection answer (with_secondary_connection (framed frame) h)) answer
            refl refl refl refl
            (same-items _ _ refl refl (λ was. was)) taken);
        starts = λ word is late. then-answering (adopting (record h.tuple { current = word }) false (with_secondary_connection (framed frame) h))
            (synced-starts h frame (record h.tuple { current = word }) t);
        ends = λ tuple is late. subst (λ (x : Received). HasSynced
            (with_secondary_connection answering (adopting tuple true (with_secondary_connection (framed x) h)))) (sym is)
            (then-answering (adopting tuple true (with_secondary_connection (framed (Ok (UuidsFrame tuple))) h)) (synced-ends h tuple standing late t));
        refuses = synced-change h (refused_by_too frame h) (refused_in frame)
            (refused-last-too frame h) refl refl refl
            (same-items (secondary_connection h) (refused_in frame (secondary_connection h)) refl (items-refusing frame (secondary_connection h) plain)
            (λ was r. refl)) t;
      };
  applies = λ place. then-answering (with_secondary_connection (applying h.settings.protocol place) h)
      (synced-change h (with_secondary_connection (applying h.settings.protocol place) h) (applying h.settings.protocol place) refl refl refl refl
      (plain-applying h.settings.protocol place (secondary_connection h)) t);
  fails = λ place offsets. synced-change h (with_secondary_connection (failing place offsets) h) (failing place offsets) refl refl refl refl
      (same-items (secondary_connection h) (failing place offsets (secondary_connection h)) refl refl (λ was r. refl)) t;
  pushes = λ standing. synced-change h (with_secondary_connection pushed_one h) pushed_one refl refl refl refl
      (same-items (secondary_connection h) (pushed_one (secondary_connection h)) refl refl (λ was. was)) t;
  closes = λ standing. synced-change h (with_secondary_connection closed_end h) closed_end refl refl refl refl
      (same-items (secondary_connection h) (closed_end (secondary_connection h)) refl refl (λ was r. refl)) t;
})

synced-from : (events : List SecondaryEvent) (h : SecondaryHistory) → HasSynced h → HasSynced (secondary_run events h)
synced-from [] h t = t
synced-from (event ∷ events) h t = synced-from events (secondary_after event h) (synced-after event h t)

-- In every run of a secondary.
pub synced-run : (settings : Settings) (disk : BlockMap) (tuple : Tuple) (events : List SecondaryEvent)
    → HasSynced (secondary_run events (secondary_opening settings disk tuple))
synced-run settings disk tuple events = synced-from events (secondary_opening settings disk tuple) (record {
  refused = λ j d at. absurd (cc);
  synced = λ is. inl (record {
    tuple = refl;
    known = λ none. both_ways (tuple.current == 0) (not-true (tuple.current == 0) is) (eq-eqb tuple.current 0 none);
    ends = λ j d at. absurd (cc);
  });
})
