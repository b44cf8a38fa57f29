-- The order in which the writes of a primary stand: by their homes, by what the local disk has done, and by what the peer has
-- acknowledged. Kept by every step, for any frames.
use Rattle.std.proofs.Common.{ℕ, ◌≡◌, ◌<◌, ◌≤◌, ◌⊎◌, inl, inr, Bool, true, false, ◌||◌, List, [], ◌∷◌, ◌++◌, length, Some, None, slice_get, Ok, refl, sym, ◌∙◌}
use Rattle.std.proofs.Common.{ap, subst, arith, ◌==◌, nat_lt}
use Rattle.std.specs.List.{list_any}
use Rattle.std.proofs.lemmas.Bool.{cases_Bool, both_ways, eqb-true, eq-eqb, ltb-true, lt-ltb}
use Rattle.std.proofs.lemmas.List.Folds.{list_any-append}
use Rattle.std.proofs.lemmas.Option.{slice_get_within}
use Rattle.blocks.specs.Positions.{StreamPosition}
use Rattle.model.specs.Contents.{Write, covers}
use Rattle.model.specs.Frames.{BarrierAckFrame, Received}
use Rattle.model.specs.Primary.{Accepted, PrimaryConnection, PrimaryHistory, primary_connection, no_primary_connection, change_last, accepted_frames}
use Rattle.model.specs.Primary.{is_barrier_ack, barrier_acknowledged}
use Rattle.model.specs.Primary.{is_waiting}
use Rattle.laws.specs.Reflections.{IsLater}
use Rattle.laws.proofs.Lists.Elements.{get-more}
use Rattle.laws.proofs.Lists.Last.{get-change-back}
use Rattle.laws.proofs.Primary.Moves.{with_frame}
use Rattle.laws.proofs.Primary.Ends.{accepted-all}
use Rattle.laws.proofs.Primary.Writes.{KeepsWrites}

-- The peer acknowledges epochs in their order.
abbrev pub AreInTurn : PrimaryConnection → Type 0
AreInTurn c = (e f : ℕ) → 0 < e → e ≤ f → barrier_acknowledged c f ≡ true → barrier_acknowledged c e ≡ true

-- Of two writes that share a block the local disk has done or failed the earlier one; homes rise; where a later write has no
-- home, the connection of an earlier one's home is closed; and epochs are acknowledged in turn.
pub record IsInOrder (h : PrimaryHistory) : Type 0 where
  pub settled_first : (i j block : ℕ) (a b : Accepted) → i < j → slice_get h.writes i ≡ Some a → slice_get h.writes j ≡ Some b → covers a.write block ≡ true
      → covers b.write block ≡ true → is_waiting a.outcome ≡ false
  pub rise : (i j : ℕ) (a b : Accepted) (home other : StreamPosition) → i < j → slice_get h.writes i ≡ Some a → slice_get h.writes j ≡ Some b
      → a.home ≡ Some home
      → b.home ≡ Some other → IsLater home.index home.place other.index other.place
  pub alone_later : (i j : ℕ) (a b : Accepted) (home : StreamPosition) (c : PrimaryConnection) → i < j → slice_get h.writes i ≡ Some a
      → slice_get h.writes j ≡ Some b
      → a.home ≡ Some home → b.home ≡ None
      → slice_get h.connections home.index ≡ Some c → c.closed ≡ true
  pub acknowledged : (k : ℕ) (c : PrimaryConnection) → slice_get h.connections k ≡ Some c → AreInTurn c

-- What a change of the last connection has to keep.
pub record KeepsTurn (c d : PrimaryConnection) : Type 0 where
  pub closed : c.closed ≡ true → d.closed ≡ true
  pub turn : AreInTurn c → AreInTurn d

-- an end of a changed list: the same, or the changed last
changed-end : (h later : PrimaryHistory) (f : PrimaryConnection → PrimaryConnection) → later.connections ≡ change_last f h.connections
    → (k : ℕ) (d : PrimaryConnection)
    → slice_get later.connections k ≡ Some d
    → (slice_get h.connections k ≡ Some d) ⊎ ((d ≡ f (primary_connection h)) × (slice_get h.connections k ≡ Some (primary_connection h)))
changed-end h later f connections k d at =
    elim (get-change-back f (no_primary_connection h.tuple) h.connections k d (subst (λ (l : List PrimaryConnection). slice_get l k ≡ Some d) connections at)) [
      | inl same ↦ inl same
      | inr changed ↦ inr (changed.0, changed.1)
    ]

-- epochs stay acknowledged in turn
turn-change : (h later : PrimaryHistory) (f : PrimaryConnection → PrimaryConnection) → IsInOrder h → later.connections ≡ change_last f h.connections
    → KeepsTurn (primary_connection h) (f (primary_connection h)) → (k : ℕ) (d : PrimaryConnection) → slice_get later.connections k ≡ Some d → AreInTurn d
turn-change h later f order connections keeps k d at = elim (changed-end h later f connections k d at) [
  | inl same ↦ order.acknowledged k d same
  | inr changed ↦ subst AreInTurn (sym changed.0) (keeps.turn (order.acknowledged k (primary_connection h) changed.1))
]

-- the last connection changes, and the writes stay
pub order-change : (h later : PrimaryHistory) (f : PrimaryConnection → PrimaryConnection) → IsInOrder h → later.connections ≡ change_last f h.connections
    → KeepsWrites h.writes later.writes → KeepsTurn (primary_connection h) (f (primary_connection h)) → IsInOrder later
order-change h later f order connections writes keeps = record {
  settled_first = λ i j block a b less ata atb cova covb.
      let x = writes.back i a ata in
      let y = writes.back j b atb in
      let was = order.settled_first i j block x.0 y.0 less x.1 y.1 (subst (λ (w : Write). covers w block ≡ true) x.2 cova)
      (subst (λ (w : Write). covers w block ≡ true) y.2 covb) in
      elim (cases_Bool (is_waiting a.outcome)) [ inl waits ↦ absurd (both_ways (is_waiting x.0.outcome) was (x.4 waits)) | inr done ↦ done ];
  rise = λ i j a b home other less ata atb ha hb.
      let x = writes.back i a ata in
      let y = writes.back j b atb in
      order.rise i j x.0 y.0 home other less x.1 y.1 (sym x.3 ∙ ha) (sym y.3 ∙ hb);
  alone_later = λ i j a b home d less ata atb ha hb at.
      let x = writes.back i a ata in
      let y = writes.back j b atb in
      elim (changed-end h later f connections home.index d at) [
        | inl same ↦ order.alone_later i j x.0 y.0 home d less x.1 y.1 (sym x.3 ∙ ha) (sym y.3 ∙ hb) same
        | inr changed ↦ subst (λ (e : PrimaryConnection). e.closed ≡ true) (sym changed.0)
            (keeps.closed (order.alone_later i j x.0 y.0 home (primary_connection h) less x.1 y.1 (sym x.3 ∙ ha) (sym y.3 ∙ hb) changed.1))
      ];
  acknowledged = turn-change h later f order connections keeps;
}

-- no connection changes
pub order-same : (h later : PrimaryHistory) → IsInOrder h → later.connections ≡ h.connections → KeepsWrites h.writes later.writes → IsInOrder later
order-same h later order connections writes = record {
  settled_first = λ i j block a b less ata atb cova covb.
      let x = writes.back i a ata in
      let y = writes.back j b atb in
      let was = order.settled_first i j block x.0 y.0 less x.1 y.1 (subst (λ (w : Write). covers w block ≡ true) x.2 cova)
      (subst (λ (w : Write). covers w block ≡ true) y.2 covb) in
      elim (cases_Bool (is_waiting a.outcome)) [ inl waits ↦ absurd (both_ways (is_waiting x.0.outcome) was (x.4 waits)) | inr done ↦ done ];
  rise = λ i j a b home other less ata atb ha hb.
      let x = writes.back i a ata in
      let y = writes.back j b atb in
      order.rise i j x.0 y.0 home other less x.1 y.1 (sym x.3 ∙ ha) (sym y.3 ∙ hb);
  alone_later = λ i j a b home d less ata atb ha hb at.
      let x = writes.back i a ata in
      let y = writes.back j b atb in
      order.alone_later i j x.0 y.0 home d less x.1 y.1 (sym x.3 ∙ ha) (sym y.3
      ∙ hb) (subst (λ (l : List PrimaryConnection). slice_get l home.index ≡ Some d) connections at);
  acknowledged = λ k d at. order.acknowledged k d (subst (λ (l : List PrimaryConnection). slice_get l k ≡ Some d) connections at);
}

-- What a new write has to be beside those before it.
pub record MayCome (h later : PrimaryHistory) (new : Accepted) : Type 0 where
  pub settled : (i block : ℕ) (a : Accepted) → slice_get h.writes i ≡ Some a → covers a.write block ≡ true → covers new.write block ≡ true
      → is_waiting a.outcome ≡ false
  pub later_home : (i : ℕ) (a : Accepted) (home other : StreamPosition) → slice_get h.writes i ≡ Some a → a.home ≡ Some home → new.home ≡ Some other
      → IsLater home.index home.place other.index other.place
  pub closed : (i : ℕ) (a : Accepted) (home : StreamPosition) (c : PrimaryConnection) → slice_get h.writes i ≡ Some a → a.home ≡ Some home → new.home ≡ None
      → slice_get later.connections home.index ≡ Some c → c.closed ≡ true

-- a write is accepted
pub order-added : (h later : PrimaryHistory) (f : PrimaryConnection → PrimaryConnection) (new : Accepted) → IsInOrder h
    → later.connections ≡ change_last f h.connections
    → later.writes ≡ h.writes ++ new ∷ [] → KeepsTurn (primary_connection h) (f (primary_connection h)) → MayCome h later new
    → IsInOrder later
order-added h later f new order connections writes keeps may = record {
  settled_first = λ i j block a b less ata atb cova covb. elim (there j b atb) [
    | inl oldb ↦ elim (there i a ata) [
      | inl olda ↦ order.settled_first i j block a b less olda oldb cova covb
      | inr newa ↦ absurd (let within = slice_get_within h.writes j b oldb in let here = newa.0 in omega arith)
    ]
    | inr newb ↦ elim (there i a ata) [
      | inl olda ↦ may.settled i block a olda cova (subst (λ (x : Accepted). covers x.write block ≡ true) newb.1 covb)
      | inr newa ↦ absurd (let one = newa.0 in let two = newb.0 in omega arith)
    ]
  ];
  rise = λ i j a b home other less ata atb ha hb. elim (there j b atb) [
    | inl oldb ↦ elim (there i a ata) [
      | inl olda ↦ order.rise i j a b home other less olda oldb ha hb
      | inr newa ↦ absurd (let within = slice_get_within h.writes j b oldb in let here = newa.0 in omega arith)
    ]
    | inr newb ↦ elim (there i a ata) [
      | inl olda ↦ may.later_home i a home other olda ha (ap (λ (x : Accepted). x.home) (sym newb.1) ∙ hb)
      | inr newa ↦ absurd (let one = newa.0 in let two = newb.0 in omega arith)
    ]
  ];
  alone_later = λ i j a b home d less ata atb ha hb at. elim (there j b atb) [
    | inl oldb ↦ elim (there i a ata) [
      | inl olda ↦ elim (changed-end h later f connections home.index d at) [
        | inl same ↦ order.alone_later i j a b home d less olda oldb ha hb same
        | inr changed ↦ subst (λ (e : PrimaryConnection). e.closed ≡ true) (sym changed.0)
            (keeps.closed (order.alone_later i j a b home (primary_connection h) less olda oldb ha hb changed.1))
      ]
      | inr newa ↦ absurd (let within = slice_get_within h.writes j b oldb in let here = newa.0 in omega arith)
    ]
    | inr newb ↦ elim (there i a ata) [
      | inl olda ↦ may.closed i a home d olda ha (ap (λ (x : Accepted). x.home) (sym newb.1) ∙ hb) at
      | inr newa ↦ absurd (let one = newa.0 in let two = newb.0 in omega arith)
    ]
  ];
  acknowledged = turn-change h later f order connections keeps;
}
  where
    there : (i : ℕ) (a : Accepted) → slice_get later.writes i ≡ Some a → (slice_get h.writes i ≡ Some a) ⊎ ((i ≡ length h.writes) × (a ≡ new))
    there i a at = get-more h.writes new i a (subst (λ (l : List Accepted). slice_get l i ≡ Some a) writes at)

-- Frames.

-- an end whose accepted frames stay
pub turn-frames : (c d : PrimaryConnection) → accepted_frames d ≡ accepted_frames c → AreInTurn c → AreInTurn d
turn-frames c d same turn e f low less said =
    let said_before : barrier_acknowledged c f ≡ true = ap (list_any (is_barrier_ack f)) (sym same) ∙ said in
    ap (list_any (is_barrier_ack e)) same ∙ turn e f low less said_before

or-none : (b : Bool) → (b || false) ≡ b
or-none true = refl
or-none false = refl

-- what is acknowledged once a frame is taken
pub said-taking : (c : PrimaryConnection) (frame : Received) (n : ℕ) → c.refused ≡ false
    → barrier_acknowledged (with_frame frame c) n ≡ (barrier_acknowledged c n || is_barrier_ack n frame)
said-taking c frame n plain =
    ap (list_any (is_barrier_ack n)) (accepted-all (with_frame frame c) plain)
    ∙ (list_any-append (is_barrier_ack n) c.taken (frame ∷ [])
    ∙ (ap (λ b. list_any (is_barrier_ack n) c.taken || b) (or-none (is_barrier_ack n frame))
    ∙ ap (λ (l : List Received). list_any (is_barrier_ack n) l || is_barrier_ack n frame) (sym (accepted-all c plain))))

-- a frame that acknowledges no epoch
pub turn-other : (c : PrimaryConnection) (frame : Received) → c.refused ≡ false → ((n : ℕ) → is_barrier_ack n frame ≡ false) → AreInTurn c
    → AreInTurn (with_frame frame c)
turn-other c frame plain other turn e f low less said =
    let no_more : (n : ℕ) → barrier_acknowledged (with_frame frame c) n ≡ barrier_acknowledged c n = λ n. said-taking c frame n plain
    ∙ (ap (λ b. barrier_acknowledged c n || b) (other n) ∙ or-none (barrier_acknowledged c n)) in
    no_more e ∙ turn e f low less (sym (no_more f) ∙ said)

-- the acknowledgement of the first epoch that was not acknowledged
pub turn-next : (c : PrimaryConnection) (number size : ℕ) → c.refused ≡ false → ((e : ℕ) → 0 < e → e < number → barrier_acknowledged c e ≡ true) → AreInTurn c
    → AreInTurn (with_frame (Ok (BarrierAckFrame number size)) c)
turn-next c number size plain before turn e f low less said =
    let all : (barrier_acknowledged c f || (number == f)) ≡ true = sym (said-taking c (Ok (BarrierAckFrame number size)) f plain) ∙ said in
    said-taking c (Ok (BarrierAckFrame number size)) e plain ∙ elim (cases_Bool (barrier_acknowledged c f)) [
      | inl old ↦ ap (λ b. b || (number == e)) (turn e f low less old)
      | inr new ↦
          let is : number ≡ f = eqb-true number f (ap (λ b. b || (number == f)) (sym new) ∙ all) in
          elim (cases_Bool (nat_lt e number)) [
            | inl early ↦ ap (λ b. b || (number == e)) (before e low (ltb-true e number early))
            | inr late ↦
                let same : number ≡ e = (let high : e < number → ⊥ = λ small. both_ways (nat_lt e number) late (lt-ltb e number small) in omega arith) in
                ap (λ b. barrier_acknowledged c e || b) (eq-eqb number e same)
                ∙ elim (barrier_acknowledged c e) as (λ b. (b || true) ≡ true) [ true ↦ refl | false ↦ refl ]
          ]
    ]
