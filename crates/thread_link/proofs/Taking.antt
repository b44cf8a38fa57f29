-- What was popped is the frames taken, and what is in hand.
use Rattle.std.proofs.Common.{◌≡◌, ◌≢◌, ℕ, ◌<◌, ◌≤◌, Bool, true, false, cond, List, [], ◌∷◌, ◌++◌, length, Option, None, Some, refl, sym, ap, ◌∙◌, subst}
use Rattle.std.proofs.Common.{append_assoc, inl, inr, true≢false, arith}
use Rattle.std.specs.Prelude.{nat_lt}
use Rattle.std.specs.List.{AllByRecursion}
use Rattle.std.proofs.lemmas.Bool.{cases_eq, cases_lt}
use Rattle.std.proofs.lemmas.List.{append-nil}
use Rattle.packets.specs.Cutting.{IsCut}
use Rattle.link.specs.Past.{Past, Went, and_then, ended, over}
use Rattle.thread_link.specs.Pieces.{EndState, PieceState, bytes_if, bytes_on}
use Rattle.thread_link.specs.Carried.{joined, BeginsNoCut, IsCarried, past_on}
use Rattle.thread_link.specs.Inward.{GatheredState, Takes, IsDropped, inward_state, is_later, later_of, not_before, rest_on}
use Rattle.thread_link.proofs.Carrying.{all_append, all_map, below, not_below, bytes_append, bytes_one, bytes_none, bytes_above, no_bytes, other_bytes}
use Rattle.thread_link.proofs.Carrying.{joined_more, joined_none, nothing_begun, own_bytes, rising_more, past_same, past_other}

nothing_carried : (n : ℕ) → IsCarried (bytes_on n []) [] []
nothing_carried n = record { bytes_are = no_bytes n ∙ sym (ap (λ (x : List ℕ). x ++ []) joined_none); cuts = tt }

pub takes_new : (pieces : EndState) (went : Went) (gathered : GatheredState) → pieces.pieces ≡ [] → went ≡ record { frames = []; past = [] }
    → gathered ≡ record { bytes = []; is_ready = true }
    → Takes (inward_state pieces went 1 gathered None)
takes_new pieces went gathered p w g = rw (p, w, g) (record {
  present = nothing_carried 1;
  before = λ m apart. ([], nothing_carried m);
  part = nothing_begun;
  earlier = [];
  whole = refl;
  highest = tt;
  rising = tt;
})

-- ---- taking a frame out of what is in hand

-- bytes of the piece in hand came to the others
pub takes_gathered : (pieces : EndState) (went : Went) (number : ℕ) (old new : GatheredState) (before after : Option PieceState)
    → Takes (inward_state pieces went number old before)
    → new.bytes ++ rest_on number after ≡ old.bytes ++ rest_on number before → later_of number after ≡ later_of number before → BeginsNoCut new.bytes
    → Takes (inward_state pieces went number new after)
takes_gathered pieces went number old new before after t same later part = record {
  present = subst (IsCarried (bytes_on number pieces.pieces) went.frames) (sym same) t.present;
  before = t.before;
  part = part;
  earlier = t.earlier;
  whole = t.whole ∙ ap (λ (x : List PieceState). t.earlier ++ x) (sym later);
  highest = t.highest;
  rising = t.rising;
}

-- a frame was taken out
pub takes_frame : (pieces : EndState) (went more : Went) (number : ℕ) (old middle new : GatheredState) (before after : Option PieceState) (frame : List ℕ)
    → Takes (inward_state pieces went number old before)
    → middle.bytes ++ rest_on number after ≡ old.bytes ++ rest_on number before → later_of number after ≡ later_of number before
    → IsCut frame → frame ≡ middle.bytes → new.bytes ≡ [] → more ≡ and_then frame went → Takes (inward_state pieces more number new after)
takes_frame pieces went more number old middle new before after frame t same later cut is blank added =
    let left = rest_on number after in
    let carried : IsCarried (bytes_on number pieces.pieces) (went.frames ++ frame ∷ []) left = record {
      bytes_are =
          t.present.bytes_are
          ∙ ap (λ (x : List ℕ). joined went.frames ++ x) (sym same ∙ ap (λ (x : List ℕ). x ++ left) (sym is))
          ∙ sym (append_assoc (joined went.frames) frame left)
          ∙ ap (λ (x : List ℕ). x ++ left) (sym (joined_more went.frames frame));
      cuts = all_append IsCut went.frames (frame ∷ []) t.present.cuts (cut, tt);
    } in
    rw (added, blank) (record {
      present = carried;
      before = t.before;
      part = nothing_begun;
      earlier = t.earlier;
      whole = t.whole ∙ ap (λ (x : List PieceState). t.earlier ++ x) (sym later);
      highest = t.highest;
      rising = t.rising;
    })

-- ---- which connection a piece is of

later_is : (number : ℕ) (p : PieceState) → number < p.number → later_of number (Some p) ≡ p ∷ []
later_is number p lt = ap (λ (b : Bool). cond b (p ∷ []) []) (below number p.number lt)

pub not_later : (number : ℕ) (p : PieceState) → p.number ≤ number → later_of number (Some p) ≡ []
not_later number p le = ap (λ (b : Bool). cond b (p ∷ []) []) (not_below number p.number le)

-- where the test says so
not_over : (number n : ℕ) → nat_lt number n ≡ false → n ≤ number
not_over number n e = elim (cases_lt number n) [
  | inl over ↦ absurd (true≢false (sym (below number n over) ∙ e))
  | inr le ↦ le
]

-- where the piece in hand is not of a later connection
pub none_later : (number : ℕ) (rest : Option PieceState) → is_later number rest ≡ false → later_of number rest ≡ []
none_later number None e = refl
none_later number (Some p) e = ap (λ (b : Bool). cond b (p ∷ []) []) e

-- where there is no later piece in hand, the test says so
pub later_not : (number : ℕ) (rest : Option PieceState) (p : PieceState) → later_of number rest ≡ p ∷ [] → is_later number rest ≡ false → ⊥
later_not number rest p is not =
    let one : 1 ≡ 0 = ap length (sym is ∙ none_later number rest not) in
    absurd (omega (arith, one))

-- ---- taking the next piece

-- what was popped more, on one connection
popped : (n number : ℕ) (old new : EndState) (last : List PieceState) (d : IsDropped number old new last)
    → bytes_on n new.pieces ≡ bytes_on n old.pieces ++ bytes_on n (d.dropped ++ last)
popped n number old new last d = ap (λ (s : EndState). bytes_on n s.pieces) d.pieces ∙ bytes_append n old.pieces (d.dropped ++ last)

-- what was dropped has no byte of the present connection
popped_here : (number : ℕ) (old new : EndState) (last : List PieceState) → IsDropped number old new last
    → bytes_on number new.pieces ≡ bytes_on number old.pieces ++ bytes_on number last
popped_here number old new last d =
    let none : bytes_on number d.dropped ≡ [] =
    bytes_none number d.dropped (all_map (λ p. p.number < number) (λ p. p.number ≢ number) d.dropped (λ p less e. omega (arith, less, e)) d.earlier) in
    popped number number old new last d
    ∙ ap (λ (x : List ℕ). bytes_on number old.pieces ++ x) (bytes_append number d.dropped last ∙ ap (λ (x : List ℕ). x ++ bytes_on number last) none)

-- what was popped of another connection is dropped
before_still : (past : List Past) (number : ℕ) (old new : EndState) (last : List PieceState) → IsDropped number old new last
    → ((n : ℕ) → n ≢ number → (dropped : List ℕ) × IsCarried (bytes_on n old.pieces) (past_on n past) dropped)
    → (n : ℕ) → n ≢ number → (dropped : List ℕ) × IsCarried (bytes_on n new.pieces) (past_on n past) dropped
before_still past number old new last d before n apart =
    let b = before n apart in
    let more = bytes_on n (d.dropped ++ last) in (
      b.0 ++ more,
      record {
        bytes_are = popped n number old new last d ∙ ap (λ (x : List ℕ). x ++ more) b.1.bytes_are ∙ append_assoc (joined (past_on n past)) b.0 more;
        cuts = b.1.cuts;
      },
    )

-- the pieces up to the last one are of the present connection or of earlier ones
still_whole : (number : ℕ) (old new : EndState) (last earlier : List PieceState) (d : IsDropped number old new last) → old.pieces ≡ earlier
    → new.pieces ≡ (earlier ++ d.dropped) ++ last
still_whole number old new last earlier d whole =
    ap (λ (s : EndState). s.pieces) d.pieces ∙ ap (λ (x : List PieceState). x ++ (d.dropped ++ last)) whole ∙ sym (append_assoc earlier d.dropped last)

still_highest : (number : ℕ) (old new : EndState) (last earlier : List PieceState) (d : IsDropped number old new last)
    → AllByRecursion (λ p. p.number ≤ number) earlier
    → AllByRecursion (λ p. p.number ≤ number) (earlier ++ d.dropped)
still_highest number old new last earlier d high =
    all_append (λ p. p.number ≤ number) earlier d.dropped high
    (all_map (λ p. p.number < number) (λ p. p.number ≤ number) d.dropped (λ p less. omega (arith, less)) d.earlier)

-- there was no piece of the present connection or a later one
pub takes_none : (old new : EndState) (went : Went) (number : ℕ) (front : GatheredState) (rest : Option PieceState)
    → Takes (inward_state old went number front rest)
    → later_of number rest ≡ [] → IsDropped number old new [] → Takes (inward_state new went number front rest)
takes_none old new went number front rest t none d =
    let whole : old.pieces ≡ t.earlier = t.whole ∙ ap (λ (x : List PieceState). t.earlier ++ x) none ∙ append-nil t.earlier in
    let same : bytes_on number new.pieces ≡ bytes_on number old.pieces =
    popped_here number old new [] d ∙ ap (λ (x : List ℕ). bytes_on number old.pieces ++ x) (no_bytes number) ∙ append-nil (bytes_on number old.pieces) in
    record {
      present = subst (λ (x : List ℕ). IsCarried x went.frames (front.bytes ++ rest_on number rest)) (sym same) t.present;
      before = before_still went.past number old new [] d t.before;
      part = t.part;
      earlier = t.earlier ++ d.dropped;
      whole = still_whole number old new [] t.earlier d whole ∙ ap (λ (x : List PieceState). (t.earlier ++ d.dropped) ++ x) (sym none);
      highest = still_highest number old new [] t.earlier d t.highest;
      rising = t.rising;
    }

-- there was one, which is in hand now
pub takes_piece : (old new : EndState) (went : Went) (number : ℕ) (front : GatheredState) (rest : Option PieceState) (p : PieceState)
    → Takes (inward_state old went number front rest)
    → later_of number rest ≡ [] → rest_on number rest ≡ [] → IsDropped number old new (p ∷ []) → Takes (inward_state new went number front (Some p))
takes_piece old new went number front rest p t none spent d =
    let whole : old.pieces ≡ t.earlier = t.whole ∙ ap (λ (x : List PieceState). t.earlier ++ x) none ∙ append-nil t.earlier in
    let all : new.pieces ≡ (t.earlier ++ d.dropped) ++ p ∷ [] = still_whole number old new (p ∷ []) t.earlier d whole in
    let high : AllByRecursion (λ q. q.number ≤ number) (t.earlier ++ d.dropped) = still_highest number old new (p ∷ []) t.earlier d t.highest in
    let here : bytes_on number new.pieces ≡ bytes_on number old.pieces ++ bytes_if number p =
    popped_here number old new (p ∷ []) d ∙ ap (λ (x : List ℕ). bytes_on number old.pieces ++ x) (bytes_one number p) in
    let held : front.bytes ++ rest_on number rest ≡ front.bytes = ap (λ (x : List ℕ). front.bytes ++ x) spent ∙ append-nil front.bytes in
    let split : (earlier : List PieceState) × (new.pieces ≡ earlier ++ later_of number (Some p)) × AllByRecursion (λ q. q.number ≤ number) earlier =
    elim (cases_lt number p.number) [
      | inl later ↦ (t.earlier ++ d.dropped, all ∙ ap (λ (x : List PieceState). (t.earlier ++ d.dropped) ++ x) (sym (later_is number p later)), high)
      | inr now ↦ (
        (t.earlier ++ d.dropped) ++ p ∷ [],
        all ∙ sym (append-nil ((t.earlier ++ d.dropped) ++ p ∷ []))
            ∙ ap (λ (x : List PieceState). ((t.earlier ++ d.dropped) ++ p ∷ []) ++ x) (sym (not_later number p now)),
        all_append (λ q. q.number ≤ number) (t.earlier ++ d.dropped) (p ∷ []) high (now, tt),
      )
    ] in
    record {
      present = record {
        bytes_are =
            here ∙ ap (λ (x : List ℕ). x ++ bytes_if number p) (t.present.bytes_are ∙ ap (λ (x : List ℕ). joined went.frames ++ x) held)
            ∙ append_assoc (joined went.frames) front.bytes (bytes_if number p);
        cuts = t.present.cuts;
      };
      before = before_still went.past number old new (p ∷ []) d t.before;
      part = t.part;
      earlier = split.0;
      whole = split.1;
      highest = split.2;
      rising = t.rising;
    }

-- there was one, which is the next frame
pub takes_lone : (old new : EndState) (went more : Went) (number : ℕ) (front : GatheredState) (rest : Option PieceState) (p : PieceState) (frame : List ℕ)
    → Takes (inward_state old went number front rest)
    → later_of number rest ≡ [] → rest_on number rest ≡ [] → IsDropped number old new (p ∷ []) → number ≤ p.number
    → nat_lt number p.number ≡ false → front.bytes ≡ [] → IsCut frame → frame ≡ p.bytes → more ≡ and_then frame went → Takes (inward_state new more number front rest)
takes_lone old new went more number front rest p frame t none spent d from not blank cut is added =
    let now : p.number ≤ number = not_over number p.number not in
    let held = takes_piece old new went number front rest p t none spent d in
    let own : bytes_if number p ≡ p.bytes = own_bytes number p (omega (arith, from, now)) in
    let all : GatheredState = record { bytes = p.bytes; is_ready = true } in
    let same : p.bytes ++ rest_on number rest ≡ front.bytes ++ rest_on number (Some p) =
    ap (λ (x : List ℕ). p.bytes ++ x) spent ∙ append-nil p.bytes ∙ sym own ∙ ap (λ (x : List ℕ). x ++ bytes_if number p) (sym blank) in
    takes_frame new went more number front all front (Some p) rest frame held same (none ∙ sym (not_later number p now)) cut is blank added

-- ---- beginning a connection

early : (next : ℕ) (p : PieceState) → p.number < next → not_before next (Some p) ≡ None
early next p lt = ap (λ (b : Bool). cond b None (Some p)) (below p.number next lt)

not_early : (next : ℕ) (p : PieceState) → next ≤ p.number → not_before next (Some p) ≡ Some p
not_early next p le = ap (λ (b : Bool). cond b None (Some p)) (not_below p.number next le)

-- what the pieces are to the connection of this number, with this piece in hand
record Ahead (next : ℕ) (pieces : List PieceState) (rest : Option PieceState) : Type 0 where
  here : bytes_on next pieces ≡ rest_on next rest
  earlier : List PieceState
  whole : pieces ≡ earlier ++ later_of next rest
  highest : AllByRecursion (λ p. p.number ≤ next) earlier

up_to : (number next : ℕ) (earlier : List PieceState) → number < next → AllByRecursion (λ p. p.number ≤ number) earlier
    → AllByRecursion (λ p. p.number ≤ next) earlier
up_to number next earlier lt high = all_map (λ p. p.number ≤ number) (λ p. p.number ≤ next) earlier (λ p le. omega (arith, le, lt)) high

-- no piece in hand is of the connection that begins
ahead_none : (number next : ℕ) (pieces earlier : List PieceState) → number < next → AllByRecursion (λ p. p.number ≤ number) earlier → pieces ≡ earlier
    → Ahead next pieces None
ahead_none number next pieces earlier lt high e = record {
  here = ap (bytes_on next) e ∙ bytes_above number next earlier lt high;
  earlier = earlier;
  whole = e ∙ sym (append-nil earlier);
  highest = up_to number next earlier lt high;
}

-- the bytes of the last piece alone can be of the connection that begins
last_alone : (number next : ℕ) (earlier : List PieceState) (p : PieceState) → number < next → AllByRecursion (λ q. q.number ≤ number) earlier
    → bytes_on next (earlier ++ p ∷ []) ≡ bytes_if next p
last_alone number next earlier p lt high =
    bytes_append next earlier (p ∷ []) ∙ ap (λ (x : List ℕ). x ++ bytes_on next (p ∷ [])) (bytes_above number next earlier lt high) ∙ bytes_one next p

-- the piece in hand is of a later connection than the one that ends
ahead_later : (number next : ℕ) (pieces earlier : List PieceState) (p : PieceState) → number < next → AllByRecursion (λ q. q.number ≤ number) earlier
    → pieces ≡ earlier ++ p ∷ []
    → Ahead next pieces (not_before next (Some p))
ahead_later number next pieces earlier p lt high e =
    let here : bytes_on next pieces ≡ bytes_if next p = ap (bytes_on next) e ∙ last_alone number next earlier p lt high in
    let high' = up_to number next earlier lt high in
    let full : (p.number ≤ next) → AllByRecursion (λ q. q.number ≤ next) (earlier ++ p ∷ []) = λ le. all_append (λ q. q.number ≤ next) earlier (p ∷ []) high'
    (le, tt) in
    elim (cases_lt p.number next) [
      | inl old ↦ rw (early next p old) (record {
        here = here ∙ other_bytes next p (λ same. omega (arith, same, old));
        earlier = earlier ++ p ∷ [];
        whole = e ∙ sym (append-nil (earlier ++ p ∷ []));
        highest = full (omega (arith, old));
      })
      | inr kept ↦ rw (not_early next p kept) (elim (cases_lt next p.number) [
        | inl later ↦ record {
          here = here;
          earlier = earlier;
          whole = e ∙ ap (λ (x : List PieceState). earlier ++ x) (sym (later_is next p later));
          highest = high';
        }
        | inr now ↦ record {
          here = here;
          earlier = earlier ++ p ∷ [];
          whole = e ∙ sym (append-nil (earlier ++ p ∷ [])) ∙ ap (λ (x : List PieceState). (earlier ++ p ∷ []) ++ x) (sym (not_later next p now));
          highest = full now;
        }
      ])
    ]

ahead : (number next : ℕ) (pieces earlier : List PieceState) (rest : Option PieceState) → number < next → AllByRecursion (λ q. q.number ≤ number) earlier
    → pieces ≡ earlier ++ later_of number rest
    → Ahead next pieces (not_before next rest)
ahead number next pieces earlier None lt high e = ahead_none number next pieces earlier lt high (e ∙ append-nil earlier)
ahead number next pieces earlier (Some p) lt high e = elim (cases_lt number p.number) [
  | inl later ↦ ahead_later number next pieces earlier p lt high (e ∙ ap (λ (x : List PieceState). earlier ++ x) (later_is number p later))
  | inr old ↦ rw (early next p (omega (arith, old, lt)))
      (ahead_none number next pieces earlier lt high (e ∙ ap (λ (x : List PieceState). earlier ++ x) (not_later number p old) ∙ append-nil earlier))
]

-- the connection is over
pub takes_over : (pieces : EndState) (went after : Went) (number next : ℕ) (old new : GatheredState) (rest left : Option PieceState)
    → Takes (inward_state pieces went number old rest) → number < next
    → after ≡ over number went → new.bytes ≡ [] → left ≡ not_before next rest → Takes (inward_state pieces after next new left)
takes_over pieces went after number next old new rest left t later is blank kept =
    let ps = pieces.pieces in
    let hand = old.bytes ++ rest_on number rest in
    let a = ahead number next ps t.earlier rest later t.highest t.whole in
    rw (is, blank, kept) (record {
      present = record { bytes_are = a.here ∙ sym (ap (λ (x : List ℕ). x ++ rest_on next (not_before next rest)) joined_none); cuts = tt };
      before = λ n apart. elim (cases_eq n number) [
        | inl same ↦ (
          hand,
          subst (λ (m : ℕ). IsCarried (bytes_on m ps) (past_on m (ended number went.frames went.past)) hand) (sym same)
              (subst (λ (x : List (List ℕ)). IsCarried (bytes_on number ps) x hand) (sym (past_same went.past number went.frames t.rising)) t.present),
        )
        | inr other ↦ (
            let b = t.before n other in
            (b.0, subst (λ (x : List (List ℕ)). IsCarried (bytes_on n ps) x b.0) (sym (past_other went.past number n went.frames other)) b.1)
            )
      ];
      part = nothing_begun;
      earlier = a.earlier;
      whole = a.whole;
      highest = a.highest;
      rising = rising_more went.past number next went.frames t.rising later;
    })
