-- Every run of a primary keeps that a generation that was left does not come back.
use Rattle.std.proofs.Common.{ℕ, suc, ◌≡◌, ◌-◌, ◌+◌, ◌<◌, ◌⊎◌, inl, inr, true, false, List, [], ◌∷◌, ◌++◌, length, Some, slice_get, Ok, refl, sym, ◌∙◌, ap}
use Rattle.std.proofs.Common.{subst, arith, length-append}
use Rattle.std.proofs.lemmas.Bool.{both_ways}
use Rattle.std.proofs.lemmas.Option.{slice_get_within}
use Rattle.blocks.specs.declared.tuple.Tuple.{Tuple}
use Rattle.model.specs.Stream.{StreamItem, BarrierItem, UuidsItem, IsBeginning, last_epoch}
use Rattle.model.specs.Frames.{UuidsFrame}
use Rattle.model.specs.Identifiers.{are_fresh, stands_in, lost, sync_end}
use Rattle.model.specs.Primary.{PrimaryConnection, PrimaryHistory, no_primary_connection, primary_connection, last_of, change_last, new_primary_connection}
use Rattle.model.specs.PrimarySteps.{known_tuples, with_completions, resync_is_over, ending_resync, follows, opened}
use Rattle.laws.proofs.Lists.Beginnings.{begins-self, get-beginning}
use Rattle.laws.proofs.Lists.Elements.{get-left, get-more}
use Rattle.laws.proofs.Lists.Last.{get-change-back, change-none, last-more, length-change}
use Rattle.laws.proofs.Primary.Homes.{open-at}
use Rattle.laws.proofs.Primary.Moves.{following-from}
use Rattle.laws.proofs.Rules.ResyncEnds.{over-established}
use Rattle.laws.proofs.Primary.Ends.{established-parts}
use Rattle.laws.proofs.WriteOrder.Generations.{TakesOnly, IsResync, IsGone, IsLeft, primary-connection-change, primary-connection-none, KeepsLeft, resync-grows}
use Rattle.laws.proofs.WriteOrder.Generations.{left-change}
use Rattle.laws.proofs.WriteOrder.Generations.{takes-back, end-current, end-bitmap, lost-current, lost-fresh, not-current, fresh-loss}

-- no stream began
abbrev pub NoneBegun : PrimaryHistory → Type 0
NoneBegun h = (k : ℕ) (c : PrimaryConnection) → slice_get h.connections k ≡ Some c → c.begun ≡ false

-- The first stream that began is that before this number, without a resync, or the one of this number: from there on the word was
-- left.
pub record IsFirst (word : ℕ) (h : PrimaryHistory) : Type 0 where
  pub from : ℕ
  pub left : IsLeft word from h
  pub earlier : (j : ℕ) (c : PrimaryConnection) → suc j < from → slice_get h.connections j ≡ Some c → c.begun ≡ false
  pub there : (j : ℕ) (c : PrimaryConnection) → suc j ≡ from → slice_get h.connections j ≡ Some c → (c.begun ≡ false) ⊎ (h.opening_tuple.bitmap ≡ 0)

-- Where every later peer still has what a resync ended with, or what the first peer had, that generation was left.
pub record HasLeft (h : PrimaryHistory) : Type 0 where
  pub own : (primary_connection h).closed ≡ false → h.tuple.current ≡ (primary_connection h).hello.current
  pub fresh : (k : ℕ) (c : PrimaryConnection) → slice_get h.connections k ≡ Some c → c.loss ≡ c.hello.current → ⊥
  pub met : (k : ℕ) (c : PrimaryConnection) → slice_get h.connections k ≡ Some c → c.begun ≡ true
      → (n : ℕ) × (peer : Tuple) × (slice_get c.taken n ≡ Some (Ok (UuidsFrame peer))) × (stands_in c.loss peer ≡ false)
  pub ended : (i n : ℕ) (c : PrimaryConnection) (tuple : Tuple) → slice_get h.connections i ≡ Some c → slice_get c.stream n ≡ Some (UuidsItem tuple)
      → TakesOnly tuple.current (suc i) h → IsLeft tuple.current (suc i) h
  pub first : (word : ℕ) → (word ≡ 0 → ⊥) → (h.opening_tuple.current ≡ word → h.opening_tuple.bitmap ≡ 0) → TakesOnly word 0 h → NoneBegun h ⊎ IsFirst word h

-- The last connection changes and goes on.
pub left-goes-on : (h later : PrimaryHistory) (f : PrimaryConnection → PrimaryConnection) → KeepsLeft h later f → later.opening_tuple ≡ h.opening_tuple
    → ((n : ℕ) (tuple : Tuple) → slice_get (f (primary_connection h)).stream n ≡ Some (UuidsItem tuple)
    → (slice_get (primary_connection h).stream n ≡ Some (UuidsItem tuple))
    ⊎ ((tuple.current ≡ h.tuple.current) × ((later.tuple.bitmap ≡ 0) × (((primary_connection h).closed ≡ false) × ((primary_connection h).begun ≡ true)))))
    → HasLeft h → HasLeft later
left-goes-on h later f k opening ends t = record {
  own = λ unshut. elim (primary-connection-change h later f k.connections) [
    | inl none ↦ absurd (both_ways (primary_connection later).closed unshut (primary-connection-none h later f k.connections none))
    | inr end ↦ k.current ∙ (t.own (sym k.closed ∙ (ap (λ (c : PrimaryConnection). c.closed) (sym end) ∙ unshut))
        ∙ ap (λ (x : Tuple). x.current) (sym k.hello ∙ ap (λ (c : PrimaryConnection). c.hello) (sym end)))
  ];
  fresh = λ j c at is. elim (back j c at) [
    | inl same ↦ t.fresh j c same is
    | inr changed ↦ t.fresh j (primary_connection h) changed.1 (sym k.loss
        ∙ (ap (λ (x : PrimaryConnection). x.loss) (sym changed.0)
        ∙ (is ∙ ap (λ (x : Tuple). x.current) (ap (λ (x : PrimaryConnection). x.hello) changed.0 ∙ k.hello))))
  ];
  met = λ j c at begun. elim (back j c at) [
    | inl same ↦ t.met j c same begun
    | inr changed ↦
        let was = t.met j (primary_connection h) changed.1 (sym k.begun ∙ (ap (λ (x : PrimaryConnection). x.begun) (sym changed.0) ∙ begun)) in (
          was.0,
          was.1,
          subst (λ (x : PrimaryConnection). slice_get x.taken was.0 ≡ Some (Ok (UuidsFrame was.1))) (sym changed.0)
              (get-beginning (primary_connection h).taken (f (primary_connection h)).taken was.0 (Ok (UuidsFrame was.1)) k.taken was.2),
          ap (λ (n : ℕ). stands_in n was.1) (ap (λ (x : PrimaryConnection). x.loss) changed.0 ∙ k.loss) ∙ was.3,
        )
  ];
  ended = λ i n c tuple at there only.
      let before = takes-back h later f tuple.current (suc i) k.connections k.taken only in
      elim (back i c at) [
        | inl same ↦ left-change h later f tuple.current (suc i) k (t.ended i n c tuple same there before)
        | inr changed ↦ elim (ends n tuple (subst (λ (x : PrimaryConnection). slice_get x.stream n ≡ Some (UuidsItem tuple)) changed.0 there)) [
          | inl old ↦ left-change h later f tuple.current (suc i) k (t.ended i n (primary_connection h) tuple changed.1 old before)
          | inr new ↦ elim (primary-connection-change h later f k.connections) [
            | inl none ↦ absurd (both_ways (primary_connection h).closed new.1.1.0
                (ap (λ (l : List PrimaryConnection). (last_of (no_primary_connection h.tuple) l).closed) none))
            | inr end ↦ inl (record {
              last = ap length k.connections ∙ (length-change f h.connections ∙ sym changed.2);
              unshut = ap (λ (x : PrimaryConnection). x.closed) end ∙ (k.closed ∙ new.1.1.0);
              begun = ap (λ (x : PrimaryConnection). x.begun) end ∙ (k.begun ∙ new.1.1.1);
              current = k.current ∙ sym new.0;
              bitmap = new.1.0;
              loss = λ is. t.fresh i (primary_connection h) changed.1 (sym k.loss
                  ∙ (ap (λ (x : PrimaryConnection). x.loss) (sym end) ∙ (is ∙ (new.0 ∙ t.own new.1.1.0))));
            })
          ]
        ]
      ];
  first = λ word some premise only. elim (t.first word some (λ is. sym (ap (λ (x : Tuple). x.bitmap) opening)
      ∙ premise (ap (λ (x : Tuple). x.current) opening ∙ is)) (takes-back h later f word 0 k.connections k.taken only)) [
        | inl none ↦ inl (λ j c at. begun-back j c at (λ x there. none j x there))
        | inr one ↦ inr (record {
          from = one.from;
          left = left-change h later f word one.from k one.left;
          earlier = λ j c less at. begun-back j c at (λ x there. one.earlier j x less there);
          there = λ j c is at. elim (back j c at) [
            | inl same ↦ elim (one.there j c is same) [ inl new ↦ inl new | inr bitmap ↦ inr (ap (λ (x : Tuple). x.bitmap) opening ∙ bitmap) ]
            | inr changed ↦ elim (one.there j (primary_connection h) is changed.1) [
              | inl new ↦ inl (ap (λ (x : PrimaryConnection). x.begun) changed.0
                  ∙ (k.begun ∙ new))
              | inr bitmap ↦ inr (ap (λ (x : Tuple). x.bitmap) opening ∙ bitmap)
            ]
          ];
        })
      ];
}
  where
    back : (j : ℕ) (c : PrimaryConnection) → slice_get later.connections j ≡ Some c
        → (slice_get h.connections j ≡ Some c)
        ⊎ ((c ≡ f (primary_connection h)) × (slice_get h.connections j ≡ Some (primary_connection h)) × (suc j ≡ length h.connections))
    back j c at = get-change-back f (no_primary_connection h.tuple) h.connections j c
        (subst (λ (l : List PrimaryConnection). slice_get l j ≡ Some c) k.connections at)

    begun-back : (j : ℕ) (c : PrimaryConnection) → slice_get later.connections j ≡ Some c
        → ((x : PrimaryConnection) → slice_get h.connections j ≡ Some x → x.begun ≡ false)
        → c.begun ≡ false
    begun-back j c at none = elim (back j c at) [
      | inl same ↦ none c same
      | inr changed ↦ ap (λ (x : PrimaryConnection). x.begun) changed.0
          ∙ (k.begun ∙ none (primary_connection h) changed.1)
    ]

-- nothing changes that is spoken of
pub left-still : (h later : PrimaryHistory) → later.connections ≡ h.connections → later.tuple ≡ h.tuple → later.opening_tuple ≡ h.opening_tuple → HasLeft h
    → HasLeft later
left-still h later connections tuple opening t = left-goes-on h later (λ c. c) (record {
  connections = connections ∙ sym (change-none h.connections);
  current = ap (λ (x : Tuple). x.current) tuple;
  bitmap = λ none. ap (λ (x : Tuple). x.bitmap) tuple ∙ none;
  closed = refl;
  begun = refl;
  loss = refl;
  hello = refl;
  stream = begins-self (primary_connection h).stream;
  taken = begins-self (primary_connection h).taken;
}) opening (λ n tuple there. inl there) t

-- the last connection changes, and no end of a resync is appended
pub left-with : (h later : PrimaryHistory) (f : PrimaryConnection → PrimaryConnection) → later.connections ≡ change_last f h.connections → later.tuple ≡ h.tuple
    → later.opening_tuple ≡ h.opening_tuple → (f (primary_connection h)).closed ≡ (primary_connection h).closed
    → (f (primary_connection h)).begun ≡ (primary_connection h).begun
    → (f (primary_connection h)).loss ≡ (primary_connection h).loss → (f (primary_connection h)).hello ≡ (primary_connection h).hello
    → IsBeginning (primary_connection h).stream (f (primary_connection h)).stream
    → IsBeginning (primary_connection h).taken (f (primary_connection h)).taken
    → ((n : ℕ) (tuple : Tuple) → slice_get (f (primary_connection h)).stream n ≡ Some (UuidsItem tuple)
    → slice_get (primary_connection h).stream n ≡ Some (UuidsItem tuple))
    → HasLeft h → HasLeft later
left-with h later f connections tuple opening closed begun loss hello stream taken ends t = left-goes-on h later f (record {
  connections = connections;
  current = ap (λ (x : Tuple). x.current) tuple;
  bitmap = λ none. ap (λ (x : Tuple). x.bitmap) tuple ∙ none;
  closed = closed;
  begun = begun;
  loss = loss;
  hello = hello;
  stream = stream;
  taken = taken;
}) opening (λ n tuple there. inl (ends n tuple there)) t

-- an item is appended that ends no resync
pub left-appends : (h later : PrimaryHistory) (item : StreamItem)
    → later.connections ≡ change_last (λ c. record c { stream = c.stream ++ item ∷ [] }) h.connections
    → later.tuple ≡ h.tuple → later.opening_tuple ≡ h.opening_tuple → ((tuple : Tuple) → item ≡ UuidsItem tuple → ⊥)
    → HasLeft h → HasLeft later
left-appends h later item connections tuple opening other t = left-with h later (λ c. record c { stream = c.stream ++ item ∷ [] }) connections tuple opening
    refl refl refl refl (item ∷ [], refl) (begins-self (primary_connection h).taken)
    (λ n t there. elim (get-more (primary_connection h).stream item n (UuidsItem t) there) [ inl old ↦ old | inr new ↦ absurd (other t (sym new.1)) ]) t

-- a resync ends
pub left-ending : (g : PrimaryHistory) → resync_is_over g ≡ true → HasLeft g → HasLeft (ending_resync g)
left-ending g over t =
    let parts = established-parts (primary_connection g) (over-established g over) in
    let item : StreamItem = UuidsItem (sync_end g.tuple) in
    left-goes-on g (ending_resync g) (λ c. record c { stream = c.stream ++ item ∷ [] }) (record {
      connections = refl;
      current = end-current g.tuple;
      bitmap = λ none. end-bitmap g.tuple;
      closed = refl;
      begun = refl;
      loss = refl;
      hello = refl;
      stream = (item ∷ [], refl);
      taken = begins-self (primary_connection g).taken;
    }) refl (λ n tuple there. elim (get-more (primary_connection g).stream item n (UuidsItem tuple) there) [
      | inl old ↦ inl old
      | inr new ↦
          let same : UuidsItem tuple ≡ UuidsItem (sync_end g.tuple) = new.1 in
          let is : tuple ≡ sync_end g.tuple = cc in
          inr (ap (λ (x : Tuple). x.current) is ∙ end-current g.tuple, (end-bitmap g.tuple, (parts.0, parts.1)))
    ]) t

-- what follows an effect keeps it
pub left-following : (h : PrimaryHistory) → HasLeft h → HasLeft (follows h).history
left-following = following-from HasLeft HasLeft HasLeft (λ h t. left-still h (with_completions h) refl refl refl t)
    (λ g over t. left-appends g _ (BarrierItem (last_epoch (primary_connection g).stream)) refl refl refl (λ tuple is. cc) t) (λ g on t. t) left-ending
    (λ g t. t)

-- A stream ends: if it had begun, another generation begins with it, or had begun before.
pub left-closes : (h later : PrimaryHistory) (f : PrimaryConnection → PrimaryConnection) → (primary_connection h).closed ≡ false
    → later.connections ≡ change_last f h.connections
    → later.opening_tuple ≡ h.opening_tuple
    → (((primary_connection h).begun ≡ true) × (later.tuple ≡ lost (primary_connection h).loss h.tuple))
    ⊎ (((primary_connection h).begun ≡ false) × (later.tuple ≡ h.tuple))
    → (f (primary_connection h)).closed ≡ true → (f (primary_connection h)).begun ≡ (primary_connection h).begun
    → (f (primary_connection h)).loss ≡ (primary_connection h).loss
    → (f (primary_connection h)).hello ≡ (primary_connection h).hello → (f (primary_connection h)).stream ≡ (primary_connection h).stream
    → IsBeginning (primary_connection h).taken (f (primary_connection h)).taken
    → HasLeft h → HasLeft later
left-closes h later f standing connections opening tuple closed begun loss hello stream taken t = record {
  own = λ unshut. absurd (elim (primary-connection-change h later f connections) [
    | inl none ↦ both_ways (primary_connection later).closed unshut (primary-connection-none h later f connections none)
    | inr end ↦ both_ways (primary_connection later).closed unshut (ap (λ (c : PrimaryConnection). c.closed) end ∙ closed)
  ]);
  fresh = λ j c at is. elim (back j c at) [
    | inl same ↦ t.fresh j c same is
    | inr changed ↦ t.fresh j (primary_connection h) changed.1 (sym loss
        ∙ (ap (λ (x : PrimaryConnection). x.loss) (sym changed.0)
        ∙ (is ∙ ap (λ (x : Tuple). x.current) (ap (λ (x : PrimaryConnection). x.hello) changed.0 ∙ hello))))
  ];
  met = λ j c at began. elim (back j c at) [
    | inl same ↦ t.met j c same began
    | inr changed ↦
        let was = t.met j (primary_connection h) changed.1 (sym begun ∙ (ap (λ (x : PrimaryConnection). x.begun) (sym changed.0) ∙ began)) in (
          was.0,
          was.1,
          subst (λ (x : PrimaryConnection). slice_get x.taken was.0 ≡ Some (Ok (UuidsFrame was.1))) (sym changed.0)
              (get-beginning (primary_connection h).taken (f (primary_connection h)).taken was.0 (Ok (UuidsFrame was.1)) taken was.2),
          ap (λ (n : ℕ). stands_in n was.1) (ap (λ (x : PrimaryConnection). x.loss) changed.0 ∙ loss) ∙ was.3,
        )
  ];
  ended = λ i n c ending at there only.
      let before = takes-back h later f ending.current (suc i) connections taken only in
      elim (back i c at) [
        | inl same ↦ leaves ending.current (suc i) before (t.ended i n c ending same there before)
        | inr changed ↦ leaves ending.current (suc i) before
            (t.ended i n (primary_connection h) ending changed.1
            (subst (λ (l : List StreamItem). slice_get l n ≡ Some (UuidsItem ending)) stream
            (subst (λ (x : PrimaryConnection). slice_get x.stream n ≡ Some (UuidsItem ending)) changed.0 there)) before)
      ];
  first = λ word some premise only.
      let before = takes-back h later f word 0 connections taken only in
      elim (t.first word some (λ is. sym (ap (λ (x : Tuple). x.bitmap) opening) ∙ premise (ap (λ (x : Tuple). x.current) opening ∙ is)) before) [
        | inl none ↦ inl (λ j c at. begun-back j c at (λ x there. none j x there))
        | inr one ↦ inr (record {
          from = one.from;
          left = leaves word one.from (λ j n c peer more. before j n c peer (omega arith)) one.left;
          earlier = λ j c less at. begun-back j c at (λ x there. one.earlier j x less there);
          there = λ j c is at. elim (back j c at) [
            | inl same ↦ elim (one.there j c is same) [ inl new ↦ inl new | inr bitmap ↦ inr (ap (λ (x : Tuple). x.bitmap) opening ∙ bitmap) ]
            | inr changed ↦ elim (one.there j (primary_connection h) is changed.1) [
              | inl new ↦ inl (ap (λ (x : PrimaryConnection). x.begun) changed.0
                  ∙ (begun ∙ new))
              | inr bitmap ↦ inr (ap (λ (x : Tuple). x.bitmap) opening ∙ bitmap)
            ]
          ];
        })
      ];
}
  where
    back : (j : ℕ) (c : PrimaryConnection) → slice_get later.connections j ≡ Some c
        → (slice_get h.connections j ≡ Some c)
        ⊎ ((c ≡ f (primary_connection h)) × (slice_get h.connections j ≡ Some (primary_connection h)) × (suc j ≡ length h.connections))
    back j c at = get-change-back f (no_primary_connection h.tuple) h.connections j c
        (subst (λ (l : List PrimaryConnection). slice_get l j ≡ Some c) connections at)

    begun-back : (j : ℕ) (c : PrimaryConnection) → slice_get later.connections j ≡ Some c
        → ((x : PrimaryConnection) → slice_get h.connections j ≡ Some x → x.begun ≡ false)
        → c.begun ≡ false
    begun-back j c at none = elim (back j c at) [
      | inl same ↦ none c same
      | inr changed ↦ ap (λ (x : PrimaryConnection). x.begun) changed.0
          ∙ (begun ∙ none (primary_connection h) changed.1)
    ]

    size : length later.connections ≡ length h.connections
    size = ap length connections ∙ length-change f h.connections

    shut : (primary_connection later).closed ≡ false → ⊥
    shut unshut = elim (primary-connection-change h later f connections) [
      | inl none ↦ both_ways (primary_connection later).closed unshut (primary-connection-none h later f connections none)
      | inr end ↦ both_ways (primary_connection later).closed unshut (ap (λ (c : PrimaryConnection). c.closed) end ∙ closed)
    ]

    -- a word that was current no more is not taken up again
    other-word : (word from : ℕ) → TakesOnly word from h → IsGone word from h → later.tuple.current ≡ word → ⊥
    other-word word from only g is = elim tuple [
      | inr same ↦ g.current (ap (λ (x : Tuple). x.current) (sym same.1) ∙ is)
      | inl lost_it ↦ elim (lost-current (primary_connection h).loss h.tuple) [
        | inr still ↦ g.current (sym still ∙ (ap (λ (x : Tuple). x.current) (sym lost_it.1) ∙ is))
        | inl new ↦
            let there = open-at h standing in
            let was = t.met (length h.connections - 1) (primary_connection h) there lost_it.0 in
            let past = g.past standing in
            let peer = only (length h.connections - 1) was.0 (primary_connection h) was.1 (omega arith) there was.2 in
            not-current (primary_connection h).loss was.1 was.3 (sym new.1 ∙ (ap (λ (x : Tuple). x.current) (sym lost_it.1) ∙ (is ∙ sym peer)))
      ]
    ]

    leaves : (word from : ℕ) → TakesOnly word from h → IsLeft word from h → IsLeft word from later
    leaves word from only (inl s) = inr (record {
      few = let last = s.last in let e = size in omega arith;
      past = λ unshut. absurd (shut unshut);
      current = λ is. elim tuple [
        | inr same ↦ both_ways (primary_connection h).begun same.0 s.begun
        | inl lost_it ↦ s.loss (sym (lost-fresh (primary_connection h).loss h.tuple s.bitmap) ∙ (ap (λ (x : Tuple). x.current) (sym lost_it.1) ∙ is))
      ];
      resyncs = λ j c more at. absurd (let within = slice_get_within later.connections j c at in let last = s.last in let e = size in omega arith);
    })
    leaves word from only (inr g) = inr (record {
      few = let few = g.few in let e = size in omega arith;
      past = λ unshut. absurd (shut unshut);
      current = other-word word from only g;
      resyncs = λ j c more at. elim (back j c at) [
        | inl same ↦ g.resyncs j c more same
        | inr changed ↦ subst IsResync (sym changed.0)
            (resync-grows (primary_connection h) (f (primary_connection h)) begun
            (subst (λ (l : List StreamItem). IsBeginning (primary_connection h).stream l) (sym stream) (begins-self (primary_connection h).stream))
            (g.resyncs j (primary_connection h) more changed.1))
      ];
    })

-- A connection opens.
pub left-opens : (h : PrimaryHistory) (sync loss : ℕ) → (primary_connection h).closed ≡ true → are_fresh sync loss (known_tuples h) ≡ true → HasLeft h
    → HasLeft (opened h sync loss)
left-opens h sync loss shut fresh t = record {
  own = λ unshut. ap (λ (c : PrimaryConnection). c.hello.current) (sym (last-more (no_primary_connection h.tuple) new h.connections));
  fresh = λ j c at is. elim (get-more h.connections new j c at) [
    | inl old ↦ t.fresh j c old is
    | inr added ↦ fresh-loss h sync loss fresh (ap (λ (x : PrimaryConnection). x.loss) (sym added.1)
        ∙ (is ∙ ap (λ (x : PrimaryConnection). x.hello.current) added.1))
  ];
  met = λ j c at begun. elim (get-more h.connections new j c at)
      [ inl old ↦ t.met j c old begun | inr added ↦ absurd (both_ways c.begun (ap (λ (x : PrimaryConnection). x.begun) added.1) begun) ];
  ended = λ i n c tuple at there only. elim (get-more h.connections new i c at) [
    | inl old ↦ goes-on tuple.current (suc i) (t.ended i n c tuple old there (back tuple.current (suc i) only))
    | inr added ↦ absurd (let item : slice_get [] n ≡ Some (UuidsItem tuple) = subst (λ (x : PrimaryConnection). slice_get x.stream n ≡ Some (UuidsItem tuple))
        added.1
        there in cc (item))
  ];
  first = λ word some premise only. elim (t.first word some premise (back word 0 only)) [
    | inl none ↦ inl (λ j c at. elim
        (get-more h.connections new j c at) [ inl old ↦ none j c old | inr added ↦ ap (λ (x : PrimaryConnection). x.begun) added.1 ])
    | inr one ↦ inr (record {
      from = one.from;
      left = goes-on word one.from one.left;
      earlier = λ j c less at. elim (get-more h.connections new j c at)
          [ inl old ↦ one.earlier j c less old | inr added ↦ ap (λ (x : PrimaryConnection). x.begun) added.1 ];
      there = λ j c is at. elim (get-more h.connections new j c at)
          [ inl old ↦ one.there j c is old | inr added ↦ inl (ap (λ (x : PrimaryConnection). x.begun) added.1) ];
    })
  ];
}
  where
    new : PrimaryConnection
    new = new_primary_connection sync loss h.tuple

    size : length (h.connections ++ new ∷ []) ≡ length h.connections + 1
    size = length-append h.connections (new ∷ [])

    back : (word from : ℕ) → TakesOnly word from (opened h sync loss) → TakesOnly word from h
    back word from only j n c peer more at there = only j n c peer more (get-left h.connections (new ∷ []) j c at) there

    goes-on : (word from : ℕ) → IsLeft word from h → IsLeft word from (opened h sync loss)
    goes-on word from (inl s) = absurd (both_ways (primary_connection h).closed s.unshut shut)
    goes-on word from (inr g) = inr (record {
      few = let few = g.few in let e = size in omega arith;
      past = λ unshut. let few = g.few in let e = size in omega arith;
      current = g.current;
      resyncs = λ j c more at. elim (get-more h.connections new j c at)
          [ inl old ↦ g.resyncs j c more old | inr added ↦ inl (ap (λ (x : PrimaryConnection). x.begun) added.1) ];
    })
