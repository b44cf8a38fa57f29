-- What becomes of a generation that was left where a stream begins.
use Rattle.std.proofs.Common.{ℕ, suc, ◌≡◌, ◌-◌, ◌<◌, ◌⊎◌, inl, inr, true, false, List, [], ◌∷◌, ◌++◌, length, Some, slice_get, Ok, refl, sym, ◌∙◌, ap, subst}
use Rattle.std.proofs.Common.{arith}
use Rattle.std.proofs.lemmas.Bool.{both_ways}
use Rattle.std.proofs.lemmas.Option.{slice_get_within}
use Rattle.blocks.specs.declared.tuple.Tuple.{Tuple}
use Rattle.blocks.specs.declared.outcome.Decision.{Decision}
use Rattle.blocks.specs.declared.outcome.Decision.TheVariants.{NoSync}
use Rattle.model.specs.Stream.{SyncUuidItem, UuidsItem, IsBeginning}
use Rattle.model.specs.Frames.{Received, UuidsFrame}
use Rattle.model.specs.Identifiers.{stands_in, decision}
use Rattle.model.specs.Primary.{PrimaryConnection, PrimaryHistory, no_primary_connection, primary_connection, last_of, change_last}
use Rattle.laws.proofs.Lists.Elements.{get-end}
use Rattle.laws.proofs.Lists.Last.{get-change-back, get-last-changed, length-change}
use Rattle.laws.proofs.Primary.Homes.{open-at}
use Rattle.laws.proofs.Accounted.{IsAccounted}
use Rattle.laws.proofs.WriteOrder.Generations.{TakesOnly, IsResync, IsLeft, primary-connection-change, takes-back, not-current, decided-same, decided-none}
use Rattle.laws.proofs.WriteOrder.GenerationMoves.{NoneBegun, IsFirst, HasLeft}

-- What the begin of a stream does to its connection and the tuple.
pub record BeginsHere (h later : PrimaryHistory) (peer : Tuple) (decided : Decision) (f : PrimaryConnection → PrimaryConnection) : Type 0 where
  pub connections : later.connections ≡ change_last f h.connections
  pub opening : later.opening_tuple ≡ h.opening_tuple
  pub current : later.tuple.current ≡ h.tuple.current
  pub closed : (f (primary_connection h)).closed ≡ (primary_connection h).closed
  pub begun : (f (primary_connection h)).begun ≡ true
  pub loss : (f (primary_connection h)).loss ≡ (primary_connection h).loss
  pub hello : (f (primary_connection h)).hello ≡ (primary_connection h).hello
  pub taken : (f (primary_connection h)).taken ≡ (primary_connection h).taken ++ Ok (UuidsFrame peer) ∷ []
  pub no_end : (n : ℕ) (tuple : Tuple) → slice_get (f (primary_connection h)).stream n ≡ Some (UuidsItem tuple) → ⊥
  -- without a resync the tuple stays, or the stream is one
  pub how : ((decided ≡ NoSync) × (later.tuple ≡ h.tuple))
      ⊎ ((decided ≡ NoSync → ⊥) × ((word : ℕ) × (slice_get (f (primary_connection h)).stream 0 ≡ Some (SyncUuidItem word))))

module _ (h later : PrimaryHistory) (peer : Tuple) (decided : Decision) (f : PrimaryConnection
    → PrimaryConnection) (accounted : IsAccounted h) (standing : (primary_connection h).closed ≡ false) (fresh : (primary_connection h).begun ≡ false)
    (is : decision h.tuple peer ≡ Ok decided) (unused : stands_in (primary_connection h).loss peer ≡ false) (b : BeginsHere h later peer decided f) where
  begin-back : (j : ℕ) (c : PrimaryConnection) → slice_get later.connections j ≡ Some c
      → (slice_get h.connections j ≡ Some c)
      ⊎ ((c ≡ f (primary_connection h)) × (slice_get h.connections j ≡ Some (primary_connection h)) × (suc j ≡ length h.connections))
  begin-back j c at = get-change-back f (no_primary_connection h.tuple) h.connections j c
      (subst (λ (l : List PrimaryConnection). slice_get l j ≡ Some c) b.connections at)

  begin-size : length later.connections ≡ length h.connections
  begin-size = ap length b.connections ∙ length-change f h.connections

  begin-there : slice_get h.connections (length h.connections - 1) ≡ Some (primary_connection h)
  begin-there = open-at h standing

  begin-within : length h.connections - 1 < length h.connections
  begin-within = slice_get_within h.connections (length h.connections - 1) (primary_connection h) begin-there

  begin-last : slice_get later.connections (length h.connections - 1) ≡ Some (f (primary_connection h))
  begin-last = subst (λ (l : List PrimaryConnection). slice_get l (length h.connections - 1) ≡ Some (f (primary_connection h))) (sym b.connections)
      (get-last-changed f (no_primary_connection h.tuple) h.connections (primary_connection h) begin-there refl)

  begin-end : primary_connection later ≡ f (primary_connection h)
  begin-end = elim (primary-connection-change h later f b.connections) [
    | inl none ↦ absurd (both_ways (primary_connection h).closed standing
        (ap (λ (l : List PrimaryConnection). (last_of (no_primary_connection h.tuple) l).closed) none))
    | inr end ↦ end
  ]

  begin-taken : IsBeginning (primary_connection h).taken (f (primary_connection h)).taken
  begin-taken = (Ok (UuidsFrame peer) ∷ [], sym b.taken)

  begin-frame : slice_get (f (primary_connection h)).taken (length (primary_connection h).taken) ≡ Some (Ok (UuidsFrame peer))
  begin-frame = subst (λ (l : List Received). slice_get l (length (primary_connection h).taken) ≡ Some (Ok (UuidsFrame peer))) (sym b.taken)
      (get-end (primary_connection h).taken (Ok (UuidsFrame peer)))

  -- the peer of this stream has the word
  begin-peer : (word from : ℕ) → from < length h.connections → TakesOnly word from later → peer.current ≡ word
  begin-peer word from less only = only (length h.connections - 1) (length (primary_connection h).taken) (f (primary_connection h)) peer
      (omega arith) begin-last begin-frame

  begin-gone : (word from : ℕ) → TakesOnly word from later → IsLeft word from h → IsLeft word from later
  begin-gone word from only (inl s) = absurd (both_ways (primary_connection h).begun fresh s.begun)
  begin-gone word from only (inr g) = inr (record {
    few = let few = g.few in let e = begin-size in omega arith;
    past = λ unshut. let past = g.past standing in let e = begin-size in omega arith;
    current = λ same. g.current (sym b.current ∙ same);
    resyncs = λ j c more at. elim (begin-back j c at) [
      | inl same ↦ g.resyncs j c more same
      | inr changed ↦ subst IsResync (sym changed.0) (elim b.how [
        | inr resync ↦ inr resync.1
        | inl none ↦ absurd (g.current (decided-none h.tuple peer (subst (λ (v : Decision). decision h.tuple peer ≡ Ok v) none.0 is)
            ∙ begin-peer word from (g.past standing) only))
      ])
    ];
  })

  -- the first stream begins: without a resync at the word, or with one at another
  begin-first : (word : ℕ) → (word ≡ 0 → ⊥) → (h.opening_tuple.current ≡ word → h.opening_tuple.bitmap ≡ 0) → TakesOnly word 0 later → NoneBegun h
      → IsFirst word later
  begin-first word some premise only none =
      let its : peer.current ≡ word = begin-peer word 0 (let w = begin-within in omega arith) only in
      let opening : h.tuple ≡ h.opening_tuple =
      elim accounted.began [
        | inl nothing ↦ nothing.tuple
        | inr first ↦ absurd
            (both_ways first.1.end.begun (none first.1.connection first.1.end first.1.at) first.1.begun)
      ] in
      elim b.how [
        | inl same ↦
            let current : h.tuple.current ≡ word = decided-none h.tuple peer (subst (λ (v : Decision). decision h.tuple peer ≡ Ok v) same.0 is) ∙ its in
            let bitmap : h.opening_tuple.bitmap ≡ 0 = premise (ap (λ (x : Tuple). x.current) (sym opening) ∙ current) in
            record {
              from = length h.connections;
              left = inl (record {
                last = begin-size;
                unshut = ap (λ (c : PrimaryConnection). c.closed) begin-end ∙ (b.closed ∙ standing);
                begun = ap (λ (c : PrimaryConnection). c.begun) begin-end ∙ b.begun;
                current = b.current ∙ current;
                bitmap = ap (λ (x : Tuple). x.bitmap) (same.1 ∙ opening) ∙ bitmap;
                loss = λ equal. not-current (primary_connection h).loss peer unused (sym b.loss
                    ∙ (ap (λ (c : PrimaryConnection). c.loss) (sym begin-end) ∙ (equal ∙ sym its)));
              });
              earlier = λ j c less at. elim (begin-back j c at) [ inl old ↦ none j c old | inr changed ↦ absurd (let end = changed.2 in omega arith) ];
              there = λ j c index at. inr (ap (λ (x : Tuple). x.bitmap) b.opening ∙ bitmap);
            }
        | inr resync ↦ record {
          from = length h.connections - 1;
          left = inr (record {
            few = let e = begin-size in omega arith;
            past = λ unshut. let e = begin-size in let w = begin-within in omega arith;
            current = λ equal. resync.0 (let both : Ok decided ≡ Ok NoSync = sym is
                ∙ decided-same h.tuple peer (λ zero_peer. some (sym its ∙ zero_peer)) (sym b.current ∙ (equal ∙ sym its)) in cc);
            resyncs = λ j c more at. elim (begin-back j c at) [ inl old ↦ inl (none j c old) | inr changed ↦ subst IsResync (sym changed.0) (inr resync.1) ];
          });
          earlier = λ j c less at. elim (begin-back j c at) [ inl old ↦ none j c old | inr changed ↦ absurd (let end = changed.2 in omega arith) ];
          there = λ j c index at. elim (begin-back j c at) [ inl old ↦ inl (none j c old) | inr changed ↦ absurd (let end = changed.2 in omega arith) ];
        }
      ]

  pub left-beginning : HasLeft h → HasLeft later
  left-beginning t = record {
    own = λ unshut. b.current ∙ (t.own standing ∙ ap (λ (x : Tuple). x.current) (sym b.hello ∙ ap (λ (c : PrimaryConnection). c.hello) (sym begin-end)));
    fresh = λ j c at equal. elim (begin-back j c at) [
      | inl same ↦ t.fresh j c same equal
      | inr changed ↦ t.fresh j (primary_connection h) changed.1 (sym b.loss
          ∙ (ap (λ (x : PrimaryConnection). x.loss) (sym changed.0)
          ∙ (equal ∙ ap (λ (x : Tuple). x.current) (ap (λ (x : PrimaryConnection). x.hello) changed.0 ∙ b.hello))))
    ];
    met = λ j c at began. elim (begin-back j c at) [
      | inl same ↦ t.met j c same began
      | inr changed ↦ (
        length (primary_connection h).taken,
        peer,
        subst (λ (x : PrimaryConnection). slice_get x.taken (length (primary_connection h).taken) ≡ Some (Ok (UuidsFrame peer))) (sym changed.0) begin-frame,
        ap (λ (n : ℕ). stands_in n peer) (ap (λ (x : PrimaryConnection). x.loss) changed.0 ∙ b.loss) ∙ unused,
      )
    ];
    ended = λ i n c tuple at there only. elim (begin-back i c at) [
      | inl same ↦ begin-gone tuple.current (suc i) only
          (t.ended i n c tuple same there (takes-back h later f tuple.current (suc i) b.connections begin-taken only))
      | inr changed ↦ absurd (b.no_end n tuple (subst (λ (x : PrimaryConnection). slice_get x.stream n ≡ Some (UuidsItem tuple)) changed.0 there))
    ];
    first = λ word some premise only.
        let before : h.opening_tuple.current ≡ word → h.opening_tuple.bitmap ≡ 0 = λ equal. sym (ap (λ (x : Tuple). x.bitmap) b.opening)
        ∙ premise (ap (λ (x : Tuple). x.current) b.opening ∙ equal) in
        elim (t.first word some before (takes-back h later f word 0 b.connections begin-taken only)) [
          | inl none ↦ inr (begin-first word some before only none)
          | inr one ↦
              let past : one.from < length h.connections =
              elim one.left [ inl s ↦ absurd (both_ways (primary_connection h).begun fresh s.begun) | inr g ↦ g.past standing ] in
              inr (record {
                from = one.from;
                left = begin-gone word one.from (λ j n c from more. only j n c from (omega arith)) one.left;
                earlier = λ j c less at. elim (begin-back j c at)
                    [ inl old ↦ one.earlier j c less old | inr changed ↦ absurd (let end = changed.2 in omega arith) ];
                there = λ j c index at. elim (begin-back j c at) [
                  | inr changed ↦ absurd (let end = changed.2 in omega arith)
                  | inl old ↦ elim (one.there j c index old) [ inl new ↦ inl new | inr bitmap ↦ inr (ap (λ (x : Tuple). x.bitmap) b.opening ∙ bitmap) ]
                ];
              })
        ];
  }
