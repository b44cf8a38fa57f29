-- A write that is accepted goes to the span of the connection that stands.
use Rattle.std.proofs.Common.{ℕ, suc, ◌≡◌, ◌-◌, ◌+◌, inl, inr, Bool, true, false, not, ◌&&◌, ◌==◌, List, [], ◌∷◌, ◌++◌, length, map, Option, Some, None}
use Rattle.std.proofs.Common.{slice_get, refl, sym, ◌∙◌, ap, subst, arith, length-append}
use Rattle.std.proofs.lemmas.Bool.{cases_Bool, both_ways, and_from, eq-eqb}
use Rattle.std.proofs.lemmas.Option.{slice_get_within}
use Rattle.blocks.specs.Positions.{StreamPosition}
use Rattle.blocks.specs.declared.tuple.Tuple.{Tuple}
use Rattle.model.specs.Contents.{Write, overlay}
use Rattle.model.specs.Stream.{WriteItem, ResyncItem, UuidsItem}
use Rattle.model.specs.Marks.{marking}
use Rattle.model.specs.Primary.{Waiting, Accepted, PrimaryConnection, PrimaryHistory, no_primary_connection, primary_connection, last_index, is_established}
use Rattle.model.specs.PrimarySteps.{appending, submission, submitted, submitted_with}
use Rattle.laws.proofs.Lists.Beginnings.{begins-self, take-begins}
use Rattle.laws.proofs.Lists.Elements.{get-left, get-more}
use Rattle.laws.proofs.Lists.Last.{get-last-changed}
use Rattle.laws.proofs.Primary.Homes.{HasHomes, open-at}
use Rattle.laws.proofs.Primary.Moves.{MaySubmit}
use Rattle.laws.proofs.Primary.Ends.{established-parts}
use Rattle.laws.proofs.Primary.LastOpen.{IsLastOpen, open-is-last}
use Rattle.laws.proofs.Accounted.{IsAccounted}
use Rattle.laws.proofs.Accounted.Moves.{first-carries}
use Rattle.laws.proofs.Accounted.Steps.{begun-change}
use Rattle.laws.proofs.WriteOrder.Layers.{full_layer}
use Rattle.laws.proofs.WriteOrder.Spans.{IsSpan, Passes, span-passes}
use Rattle.laws.proofs.WriteOrder.SpanMoves.{HasSpans, passes-change, span-shut, last-end, spans-with}
use Rattle.laws.proofs.WriteOrder.SpanKept.{grows-item}

-- over a stream that stands it gets the next place
submits-connected : (h : PrimaryHistory) (write : Write) → HasHomes h → IsLastOpen h → is_established (primary_connection h) ≡ true → HasSpans h
    → HasSpans (appending (WriteItem write)
    (record h {
      writes = h.writes ++ record {
        write = write;
        journal_length = length h.journal;
        home = Some (record { index = last_index h.connections; place = length (primary_connection h).stream });
        outcome = Waiting;
      } ∷ [];
    }))
submits-connected h write homes last stood t = record {
  spans = spans-with h later last passes (λ n k other b from there early home. elim (get-more h.writes new n b there) [
    | inl old ↦ let within = slice_get_within h.writes n b old in omega arith
    | inr added ↦ let index = (home-is k other b.home (ap (λ (x : Accepted). x.home) added.1) home).0 in omega arith
  ]) (λ k d at begun late.
      let end = last-end h later f refl k d at late in
      let s = t.spans k (primary_connection h) end.0 (established-parts (primary_connection h) stood).1 in
      (s.0, suc s.1, subst (λ (x : PrimaryConnection). IsSpan later k x s.0 (suc s.1)) (sym end.1) (one k s.0 s.1 end.0 s.2))) t;
  quiet = λ none bitmap. absurd (
      let there = open-at h standing in
      let changed = get-last-changed f (no_primary_connection h.tuple) h.connections (primary_connection h) there refl in
      both_ways (primary_connection h).begun (none (length h.connections - 1) (f (primary_connection h)) changed)
      (established-parts (primary_connection h) stood).1);
}
  where
    new : Accepted
    new = record {
      write = write;
      journal_length = length h.journal;
      home =
          Some (record { index = last_index h.connections; place = length (primary_connection h).stream });
      outcome = Waiting;
    }

    f : PrimaryConnection → PrimaryConnection
    f c = record c { stream = c.stream ++ WriteItem write ∷ [] }

    later : PrimaryHistory
    later = appending (WriteItem write) (record h { writes = h.writes ++ new ∷ [] })

    standing : (primary_connection h).closed ≡ false
    standing = (established-parts (primary_connection h) stood).0

    home-is : (k other : ℕ) (v : Option StreamPosition) → v ≡ Some (record { index = last_index h.connections; place = length (primary_connection h).stream })
        → v ≡ Some (record { index = k; place = other })
        → (last_index h.connections ≡ k) × (length (primary_connection h).stream ≡ other)
    home-is k other v is also =
        let here : StreamPosition = record { index = last_index h.connections; place = length (primary_connection h).stream } in
        let there : StreamPosition = record { index = k; place = other } in
        let same : here ≡ there = let e : Some here ≡ Some there = sym is ∙ also in cc in
        (ap (λ (x : StreamPosition). x.index) same, ap (λ (x : StreamPosition). x.place) same)

    front : Passes h (appending (WriteItem write) h)
    front = passes-change h (appending (WriteItem write) h) f refl refl (
      refl,
      (refl, (refl, (refl, λ faithful. faithful))),
    ) (λ decided. first-carries h (appending (WriteItem write) h) decided
        (begun-change h (appending (WriteItem write) h) f refl refl (begins-self (primary_connection h).taken)) refl)

    passes : Passes h later
    passes = record {
      map = refl;
      tuple = refl;
      marks = refl;
      settings = refl;
      over = λ count block within. ap (λ (l : List Accepted). overlay h.opening_map (map full_layer l) block)
          (sym (take-begins count h.writes (h.writes ++ new ∷ []) within (new ∷ [], refl)));
      writes = λ i b less at. elim (get-more h.writes new i b at) [ inl old ↦ (b, old, refl, refl) | inr added ↦ absurd (let end = added.0 in omega arith) ];
      count = let size = length-append h.writes (new ∷ []) in omega arith;
      fine = λ fine. (λ n a at. fine.0 n a (get-left h.writes (new ∷ []) n a at), fine.1);
      front = front.front;
      back = front.back;
      first = λ decided. first-carries h later decided (begun-change h later f refl refl (begins-self (primary_connection h).taken)) refl;
    }

    one : (k older newer : ℕ) → slice_get h.connections k ≡ Some (primary_connection h) → IsSpan h k (primary_connection h) older newer
        → IsSpan later k (f (primary_connection h)) older (suc newer)
    one k older newer at s =
        let size : length (h.writes ++ new ∷ []) ≡ length h.writes + 1 = length-append h.writes (new ∷ []) in
        let still = s.still standing in
        let within = slice_get_within h.connections k (primary_connection h) at in
        span-passes h later k (primary_connection h) (f (primary_connection h)) older newer (suc newer) passes at (record {
          grows = grows-item (primary_connection h) (WriteItem write);
          unshut = λ is. is;
          earlier = λ j e less there. passes.front j e (omega arith) there;
          rising = omega arith;
          bound = omega arith;
          still = λ unshut. omega arith;
          own = λ n b from less there. elim (get-more h.writes new n b there) [
            | inl old ↦ absurd (let inside = slice_get_within h.writes n b old in omega arith)
            | inr added ↦
                let places = last-place k (primary_connection h) at in (
                  length (primary_connection h).stream,
                  ap (λ (x : Accepted). x.home) added.1
                      ∙ ap (λ (m : ℕ). let pair : StreamPosition = record { index = m; place = length (primary_connection h).stream } in Some pair) places,
                )
          ];
          past = λ n place b from there home. let inside = slice_get_within (h.writes ++ new ∷ []) n b there in omega arith;
          behind = λ n other b from there home. elim (get-more h.writes new n b there) [
            | inl old ↦ absurd (let inside = slice_get_within h.writes n b old in omega arith)
            | inr added ↦ let place = (home-is k other b.home (ap (λ (x : Accepted). x.home) added.1) home).1 in omega arith
          ];
        }) (λ fine unshut block inside unmarked. inl unmarked)
        (λ fine place block contents there. elim (get-more (primary_connection h).stream (WriteItem write) place (ResyncItem block contents) there)
        [ inl old ↦ inl old | inr added ↦ absurd (let e = added.1 in cc) ])
        (λ n tuple there. elim (get-more (primary_connection h).stream (WriteItem write) n (UuidsItem tuple) there)
        [ inl old ↦ inl old | inr added ↦ absurd (let e = added.1 in cc) ]) s
      where
        last-place : (k : ℕ) (c : PrimaryConnection) → slice_get h.connections k ≡ Some (primary_connection h) → last_index h.connections ≡ k
        last-place k c at = sym (open-is-last h k (primary_connection h) last at standing).0

-- without one it has no place
submits-alone : (h : PrimaryHistory) (write : Write) → IsLastOpen h → IsAccounted h → is_established (primary_connection h) ≡ false
    → (not (is_established (primary_connection h)) && (h.tuple.bitmap == 0)) ≡ false → HasSpans h
    → HasSpans (record h {
      writes = h.writes ++ record { write = write; journal_length = length h.journal; home = None; outcome = Waiting } ∷ [];
      marks = marking write h.marks;
    })
submits-alone h write last accounted rests connected t = record {
  spans = λ k c at begun.
      let s = t.spans k c at begun in (
        s.0,
        s.1,
        span-shut h later k c s.0 s.1 passes at (shut k c at begun) (λ j e less there. there)
            (λ n other b from there home. elim (get-more h.writes new n b there) [
              | inl old ↦ let within = slice_get_within h.writes n b old in omega arith
              | inr added ↦ let e : None ≡ Some (record { index = k; place = other }) = ap (λ (x : Accepted). x.home) (sym added.1) ∙ home in cc
            ]) s.2,
      );
  quiet = λ none bitmap. absurd (elim accounted.began [
    | inr first ↦ both_ways first.1.end.begun (none first.1.connection first.1.end first.1.at) first.1.begun
    | inl nothing ↦
        let zero_bitmap : h.tuple.bitmap ≡ 0 = ap (λ (x : Tuple). x.bitmap) nothing.tuple ∙ bitmap in
        both_ways (not (is_established (primary_connection h)) && (h.tuple.bitmap == 0)) connected
        (and_from (not (is_established (primary_connection h))) (h.tuple.bitmap == 0) (ap not rests) (eq-eqb h.tuple.bitmap 0 zero_bitmap))
  ]);
}
  where
    new : Accepted
    new = record { write = write; journal_length = length h.journal; home = None; outcome = Waiting }

    later : PrimaryHistory
    later = record h { writes = h.writes ++ new ∷ []; marks = marking write h.marks }

    passes : Passes h later
    passes = record {
      map = refl;
      tuple = refl;
      marks = refl;
      settings = refl;
      over = λ count block within. ap (λ (l : List Accepted). overlay h.opening_map (map full_layer l) block)
          (sym (take-begins count h.writes (h.writes ++ new ∷ []) within (new ∷ [], refl)));
      writes = λ i b less at. elim (get-more h.writes new i b at) [ inl old ↦ (b, old, refl, refl) | inr added ↦ absurd (let end = added.0 in omega arith) ];
      count = let size = length-append h.writes (new ∷ []) in omega arith;
      fine = λ fine. (λ n a at. fine.0 n a (get-left h.writes (new ∷ []) n a at), fine.1);
      front = λ j c less at. at;
      back = λ j c less at. at;
      first = λ decided. first-carries h later decided
          (record { forward = λ k c at begun. (c, at, begun, begins-self c.taken); back = λ k d at. inl (d, at, refl) }) refl;
    }

    shut : (k : ℕ) (c : PrimaryConnection) → slice_get h.connections k ≡ Some c → c.begun ≡ true → c.closed ≡ true
    shut k c at begun = elim (cases_Bool c.closed) [
      | inl is ↦ is
      | inr unshut ↦ absurd (
          let end : c ≡ primary_connection h = (open-is-last h k c last at unshut).1 in
          both_ways (is_established (primary_connection h)) rests
          (subst (λ (x : PrimaryConnection). is_established x ≡ true) end (and_from (not c.closed) c.begun (ap not unshut) begun)))
    ]

-- either way the spans are kept
pub spans-submits : (h : PrimaryHistory) (first : ℕ) (contents : List (List ℕ)) → MaySubmit h first contents → HasHomes h → IsLastOpen h → IsAccounted h
    → HasSpans h → HasSpans (submitted h first contents)
spans-submits h first contents may homes last accounted t = go (is_established (primary_connection h)) refl
  where
    go : (b : Bool) → is_established (primary_connection h) ≡ b → HasSpans (submitted_with b h first contents)
    go true is = submits-connected h (submission h first contents) homes last is t
    go false is = submits-alone h (submission h first contents) last accounted is may.connected t
