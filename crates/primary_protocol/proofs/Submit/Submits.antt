-- The primary accepts a write.
use Rattle.std.proofs.Common.{ℕ, suc, ◌≡◌, ◌+◌, ◌-◌, inl, inr, Bool, true, false, not, ◌&&◌, List, [], ◌∷◌, ◌++◌, length, map, Option, Some, None}
use Rattle.std.proofs.Common.{Ok, refl, sym, ◌∙◌, ap, subst, arith, nat_lt, nat_le, ◌==◌}
use Rattle.std.specs.Prelude.{find, is_some, option_map, if◌then◌else◌}
use Rattle.std.specs.List.{list_any}
use Rattle.std.proofs.lemmas.Bool.{cases_Bool, both_ways, and_parts, not-false, ltb-true, leb-true, lt-ltb, le-leb, false_from_ne_true}
use Rattle.std.proofs.lemmas.List.{length-map}
use Rattle.blocks.specs.declared.outcome.Done.{Done}
use Rattle.blocks.specs.declared.outcome.What.TheVariants as what
use Rattle.blocks.specs.declared.outcome.Reply.TheVariants as reply
use Rattle.blocks.specs.Ranges.{is_between, ranges_meet}
use Rattle.model.specs.Contents.{Write, covers, is_range, extent_of}
use Rattle.model.specs.Stream.{StreamItem, WriteItem, ResyncItem, BarrierItem, SyncUuidItem, UuidsItem, first_of, placed}
use Rattle.model.specs.Refusals.{first_refusal}
use Rattle.model.specs.Primary.{Accepted, PrimaryHistory, primary_connection, last_index, is_established, is_resync, was_resynced, under_way, open_writes}
use Rattle.model.specs.Primary.{unreleased}
use Rattle.model.specs.PrimarySteps as step
use Rattle.model.specs.PrimarySteps.{conflict, submission, submitted}
use Rattle.overlap.specs.Holdings as held
use Rattle.overlap.specs.Holdings.{Holding, holding, meets}
use Rattle.activitylog.specs.Activity.{can_begin, begun}
use Rattle.bitmap.specs.Marks as bits
use Rattle.transferlog.specs.Log.{LogState}
use Rattle.transferlog.specs.declared.report.Accepted as report
use Rattle.laws.proofs.Rules.Conflicts.{has_block_of, ways_of, conflict-by}
use Rattle.laws.proofs.Rules.Submissions.{IsAccepted, accepted-by-tests, tests-by}
use Rattle.laws.proofs.Lists.Picks.{pick-filtered}
use Rattle.laws.proofs.Primary.Moves.{MaySubmit}
use Rattle.primary_protocol.specs.Core as core
use Rattle.primary_protocol.specs.Core.{PrimaryState}
use Rattle.primary_protocol.specs.Transitions as transition
use Rattle.primary_protocol.specs.Transitions.{whole_blocks, submit_tests}
use Rattle.primary_protocol.specs.Leaves.{holding_item, holding_write, Leaves}
use Rattle.primary_protocol.specs.Steps.{Agrees, SubmitsAgree}
use Rattle.primary_protocol.proofs.Submit.Entries.{HasRange}
use Rattle.primary_protocol.proofs.Submit.Extents.{can-begin-is}
use Rattle.primary_protocol.proofs.Common.Filters.{any-at, any-map, find-append, find-map}
use Rattle.primary_protocol.proofs.Common.Following.{follow}
use Rattle.primary_protocol.proofs.Common.Reached.{IsOrdered, reached-ordered, from-follow, tested-agrees}
use Rattle.primary_protocol.proofs.Submit.Alone as alone
use Rattle.primary_protocol.proofs.Common.Numbers.{any-some}
use Rattle.primary_protocol.proofs.Submit.Linked as linked

-- Conflicts.

-- one block meets a range where the range has it
meets-block : (first count block : ℕ) → ranges_meet block 1 first count ≡ is_between first count block
meets-block first count block = elim (cases_Bool (is_between first count block)) [
  | inl inside ↦
      let parts = and_parts (nat_le first block) (nat_lt block (first + count)) inside in
      let low = leb-true first block parts.0 in
      let high = ltb-true block (first + count) parts.1 in
      (λ i. (lt-ltb block (first + count) high i && lt-ltb first (block + 1) (omega arith) i) && (lt-ltb 0 1 (omega arith) i && lt-ltb 0 count (omega arith) i))
      ∙ sym inside
  | inr outside ↦ false_from_ne_true (ranges_meet block 1 first count) (λ meet.
      let parts = and_parts (nat_lt block (first + count) && nat_lt first (block + 1)) (nat_lt 0 1 && nat_lt 0 count) meet in
      let ends = and_parts (nat_lt block (first + count)) (nat_lt first (block + 1)) parts.0 in
      let low = ltb-true first (block + 1) ends.1 in
      both_ways (is_between first count block) outside (λ i. le-leb first block (omega arith) i && ends.0 i)) ∙ sym outside
]

module _ (s : PrimaryState) (h : PrimaryHistory) (first : ℕ) (bytes : List ℕ) (left : Leaves s h) where
  abbrev write : Write
  write = submission h first (whole_blocks bytes)

  count : ℕ
  count = length (whole_blocks bytes)

  abbrev ways : List (ℕ × StreamItem)
  ways = if is_established (primary_connection h) then under_way (primary_connection h) else []

  way-meets : list_any (meets first (length (whole_blocks bytes))) (map holding_item ways) ≡ list_any (has_block_of write) (ways_of h)
  way-meets = any-map (meets first (length (whole_blocks bytes))) holding_item ways ∙ go (is_established (primary_connection h))
    where
      at-item : (item : StreamItem) → is_resync item ≡ true
          → ranges_meet (first_of item) 1 first (length (whole_blocks bytes)) ≡ elim item as
          (λ _. Bool) [ ResyncItem block contents ↦ covers write block | _ ↦ false ]
      at-item (ResyncItem block contents) is = meets-block first (length (whole_blocks bytes)) block
      at-item (WriteItem w) is = absurd (cc)
      at-item (BarrierItem epoch) is = absurd (cc)
      at-item (SyncUuidItem word) is = absurd (cc)
      at-item (UuidsItem tuple) is = absurd (cc)

      go : (b : Bool) → list_any (λ entry. meets first (length (whole_blocks bytes)) (holding_item entry)) (if b then under_way (primary_connection h)
          else []) ≡ list_any (has_block_of write) (elim b as (λ _. List (ℕ × StreamItem)) [ true ↦ under_way (primary_connection h) | false ↦ [] ])
      go false = refl
      go true = any-at (λ entry. meets first (length (whole_blocks bytes)) (holding_item entry)) (has_block_of write) (under_way (primary_connection h))
          (λ i entry at.
          let stood = pick-filtered (λ (x : ℕ × StreamItem). is_resync x.1 && not (was_resynced (primary_connection h) x.0 x.1))
          (placed (primary_connection h).stream) i entry at in
          at-item entry.1 (and_parts (is_resync entry.1) (not (was_resynced (primary_connection h) entry.0 entry.1)) stood.2).0)

  -- the lowest conflict
  conflict-is : held.conflict first (length (whole_blocks bytes)) s.held ≡ conflict h write
  conflict-is =
      ap (held.conflict first (length (whole_blocks bytes))) left.rest.held
      ∙ (ap (option_map (λ (x : Holding). x.number))
      (find-append (meets first (length (whole_blocks bytes))) (map holding_item ways) (map holding_write (open_writes h)))
      ∙ by-way (find (meets first (length (whole_blocks bytes))) (map holding_item ways)) refl)
    where
      zeros : (xs : List (ℕ × StreamItem)) (x : Holding) → find (meets first (length (whole_blocks bytes))) (map holding_item xs) ≡ Some x → x.number ≡ 0
      zeros [] x found = absurd (cc)
      zeros (e ∷ xs) x found = go (meets first (length (whole_blocks bytes)) (holding_item e)) refl (zeros xs x)
        where
          go : (b : Bool) → meets first (length (whole_blocks bytes)) (holding_item e) ≡ b
              → (find (meets first (length (whole_blocks bytes))) (map holding_item xs) ≡ Some x → x.number ≡ 0) → x.number ≡ 0
          go true is rest = let here : Some (holding_item e) ≡ Some x = ap (λ b. if b then Some (holding_item e)
              else find (meets first (length (whole_blocks bytes))) (map holding_item xs)) (sym is)
              ∙ found in let same : holding_item e ≡ x = cc in ap (λ (y : Holding). y.number) (sym same)
          go false is rest = rest (ap (λ b. if b then Some (holding_item e) else find (meets first (length (whole_blocks bytes))) (map holding_item xs))
              (sym is) ∙ found)

      by-way : (v : Option Holding) → find (meets first (length (whole_blocks bytes))) (map holding_item ways) ≡ v
          → option_map (λ (x : Holding). x.number)
          (elim v as (λ _. Option Holding) [
            | None ↦ find (meets first (length (whole_blocks bytes))) (map holding_write (open_writes h))
            | Some x ↦ Some x
          ]) ≡ conflict h write
      by-way (Some x) found =
          ap (λ n. Some n) (zeros ways x found)
          ∙ conflict-by h write true _ (sym (sym way-meets
          ∙ (any-some (meets first (length (whole_blocks bytes))) (map holding_item ways) ∙ ap is_some found))) refl
      by-way None none =
          ap (option_map (λ (x : Holding). x.number)) (find-map (meets first (length (whole_blocks bytes))) holding_write (open_writes h))
          ∙ (images (find (λ a. meets first (length (whole_blocks bytes)) (holding_write a)) (open_writes h))
          ∙ conflict-by h write false _ (sym (sym way-meets
          ∙ (any-some (meets first (length (whole_blocks bytes))) (map holding_item ways) ∙ ap is_some none))) refl)
        where
          images : (v : Option Accepted) → option_map (λ (x : Holding). x.number) (option_map holding_write v) ≡ option_map (λ (a : Accepted). a.write.number) v
          images None = refl
          images (Some a) = refl

  -- Tests.

  established-is : core.is_established s ≡ is_established (primary_connection h)
  established-is = ap is_some left.rest.log.connection ∙ go (is_established (primary_connection h))
    where
      go : (b : Bool) → is_some (if b then Some (last_index h.connections) else None) ≡ b
      go true = refl
      go false = refl

  stream-full : (core.is_established s && nat_le 4294967288 s.log.epochs.places) ≡
      (is_established (primary_connection h) && nat_le 4294967288 (length (primary_connection h).stream))
  stream-full = (λ i. established-is i && nat_le 4294967288 s.log.epochs.places) ∙ go (is_established (primary_connection h)) refl
    where
      go : (b : Bool) → is_established (primary_connection h) ≡ b
          → (b && nat_le 4294967288 s.log.epochs.places) ≡ (b && nat_le 4294967288 (length (primary_connection h).stream))
      go true on = ap (nat_le 4294967288) (left.stream.on on).places
      go false down = refl

  many : length s.log.writes ≡ length (unreleased h)
  many = ap length left.rest.log.writes ∙ length-map (unreleased h) _

  pub tests-are : (out_of_memory : Bool)
      → submit_tests first (length (whole_blocks bytes)) out_of_memory s ≡ step.submit_tests h first (whole_blocks bytes) out_of_memory
  tests-are out_of_memory = tests-by h first (whole_blocks bytes) out_of_memory _ _ _ _ _ _ _
      (λ i. is_range (left.rest.settings i) first (length (whole_blocks bytes))) (λ i. not (established-is i) && ((left.rest.tuple i).bitmap == 0))
      left.rest.log.accepted
      (λ i. nat_le (left.rest.settings i).backlog (many i)) conflict-is
      (can-begin-is s.activity h.settings.slots (extent_of first) (unreleased h) left.rest.activity) stream-full

-- The primary accepts a write.
pub submits-agree : SubmitsAgree
submits-agree first bytes out_of_memory s h reached left =
    tested-agrees reply.Ok s h (submit_tests first (length (whole_blocks bytes)) out_of_memory s) (step.submit_tests h first (whole_blocks bytes) out_of_memory)
    (λ _. let after = transition.submitted first (length (whole_blocks bytes)) bytes s in (Ok after.0, after.1))
    (λ _. step.succeeding (what.Write (suc (length h.writes))) (submitted h first (whole_blocks bytes)))
    (tests-are s h first bytes left out_of_memory) left done
  where
    known : IsOrdered h
    known = reached-ordered h reached

    done : first_refusal (step.submit_tests h first (whole_blocks bytes) out_of_memory) ≡ None
        → Agrees reply.Ok (
          Ok (transition.submitted first (length (whole_blocks bytes)) bytes s).0,
          (transition.submitted first (length (whole_blocks bytes)) bytes s).1,
        )
        (step.succeeding (what.Write (suc (length h.writes))) (submitted h first (whole_blocks bytes)))
    done none = by-stand (is_established (primary_connection h)) refl
      where
        passed : IsAccepted h first (whole_blocks bytes)
        passed = accepted-by-tests h first (whole_blocks bytes) out_of_memory none

        may : MaySubmit h first (whole_blocks bytes)
        may = record { range = passed.range; free = passed.free; active = passed.active; connected = passed.connected }

        range : HasRange h.settings first (length (whole_blocks bytes))
        range =
            let outer = and_parts ((nat_lt 0 (length (whole_blocks bytes)) && nat_le (length (whole_blocks bytes)) 32)
            && nat_le (first + length (whole_blocks bytes)) h.settings.blocks) (extent_of first == extent_of (first + length (whole_blocks bytes) - 1))
            passed.range in
            let inner = and_parts (nat_lt 0 (length (whole_blocks bytes)) && nat_le (length (whole_blocks bytes)) 32)
            (nat_le (first + length (whole_blocks bytes)) h.settings.blocks) outer.0 in
            let sizes = and_parts (nat_lt 0 (length (whole_blocks bytes))) (nat_le (length (whole_blocks bytes)) 32) inner.0 in
            record {
              some = ltb-true 0 (length (whole_blocks bytes)) sizes.0;
              inside = leb-true (first + length (whole_blocks bytes)) h.settings.blocks inner.1;
            }

        begins : can_begin (extent_of first) s.activity ≡ true
        begins = not-false (can_begin (extent_of first) s.activity)
            (can-begin-is s.activity h.settings.slots (extent_of first) (unreleased h) left.rest.activity ∙ passed.active)

        number_is : s.log.accepted + 1 ≡ suc (length h.writes)
        number_is = let all = left.rest.log.accepted in omega arith

        -- the transition, by whether a stream stands and what the log accepted
        core-by : Bool → report.Accepted × LogState → Done × PrimaryState
        core-by b accepted = elim b [
          | true ↦ core.following (what.Write accepted.0.number) accepted.0.barrier
              (core.appending (WriteItem (record { number = accepted.0.number; first = first; contents = whole_blocks bytes }) ∷ []) (record s {
                log = accepted.1;
                entries = s.entries ++ record { first = first; count = length (whole_blocks bytes); fate = core.Open; taken = false } ∷ [];
                held = held.holding_too (holding accepted.0.number first (length (whole_blocks bytes))) s.held;
                activity = begun (extent_of first) s.activity;
              }))
          | false ↦ core.following (what.Write accepted.0.number) None (record s {
            log = accepted.1;
            entries = s.entries ++ record { first = first; count = length (whole_blocks bytes); fate = core.Open; taken = false } ∷ [];
            held = held.holding_too (holding accepted.0.number first (length (whole_blocks bytes))) s.held;
            activity = begun (extent_of first) s.activity;
            marks = bits.marking (is_between first (length (whole_blocks bytes))) s.marks;
          })
        ]

        answered : Done × PrimaryState → PrimaryHistory → Type 0
        answered got later = Agrees reply.Ok (Ok got.0, got.1) (step.succeeding (what.Write (suc (length h.writes))) later)

        by-stand : (b : Bool) → is_established (primary_connection h) ≡ b
            → Agrees reply.Ok (
              Ok (transition.submitted first (length (whole_blocks bytes)) bytes s).0,
              (transition.submitted first (length (whole_blocks bytes)) bytes s).1,
            )
            (step.succeeding (what.Write (suc (length h.writes))) (submitted h first (whole_blocks bytes)))
        by-stand true on =
            subst (answered (transition.submitted first (length (whole_blocks bytes)) bytes s))
            (sym (linked.submitted-is known.settings known.bound s h first bytes left known.ordered may range begins on))
            (subst (λ (x : Done × PrimaryState). answered x (linked.later known.settings known.bound s h first bytes left known.ordered may range begins on))
            (sym (λ i. core-by ((established-is s h first bytes left ∙ on) i)
            (linked.accepting-is known.settings known.bound s h first bytes left known.ordered may range begins on i)))
            (subst (λ n. Agrees reply.Ok (
              Ok (core-by true (accepted-there)).0,
              (core-by true (accepted-there)).1,
            )
            (step.succeeding (what.Write n) (linked.later known.settings known.bound s h first bytes left known.ordered may range begins on))) number_is
            (from-follow _ _ (follow _ _ _ (linked.stream-due known.settings known.bound s h first bytes left known.ordered may range begins on
            (s.log.accepted + 1) refl) (what.Write (s.log.accepted + 1))))))
          where
            accepted-there : report.Accepted × LogState
            accepted-there = (
              record {
                number = s.log.accepted + 1;
                place = Some (length (primary_connection h).stream);
                barrier = (linked.placed-there known.settings known.bound s h first bytes left known.ordered may range begins on).1.0;
              },
              linked.l1 known.settings known.bound s h first bytes left known.ordered may range begins on,
            )
        by-stand false down =
            subst (answered (transition.submitted first (length (whole_blocks bytes)) bytes s))
            (sym (alone.submitted-is known.settings known.bound s h first bytes left known.ordered may range begins down))
            (subst (λ (x : Done × PrimaryState). answered x (alone.later known.settings known.bound s h first bytes left known.ordered may range begins down))
            (sym (λ i. core-by ((established-is s h first bytes left ∙ down) i)
            (alone.accepting-is known.settings known.bound s h first bytes left known.ordered may range begins down i)))
            (subst (λ n. Agrees reply.Ok (
              Ok (core-by false (accepted-alone)).0,
              (core-by false (accepted-alone)).1,
            )
            (step.succeeding (what.Write n) (alone.later known.settings known.bound s h first bytes left known.ordered may range begins down))) number_is
            (from-follow _ _ (follow _ _ _ (alone.alone-due known.settings known.bound s h first bytes left known.ordered may range begins down)
            (what.Write (s.log.accepted + 1))))))
          where
            accepted-alone : report.Accepted × LogState
            accepted-alone = (
              record { number = s.log.accepted + 1; place = None; barrier = None },
              alone.l1 known.settings known.bound s h first bytes left known.ordered may range begins down,
            )
