use Rattle.std.proofs.Common.{◌≡◌, ◌+◌, ◌++◌, ◌<◌, ◌≤◌, [], length, List, ℕ, Option, refl, sym, ◌∙◌, ap, subst, arith, append_assoc, length-append}
use Rattle.std.specs.Prelude.{filter, map, is_some, IsSome, if◌then◌else◌}
use Rattle.std.specs.Option.{option_and_then, option_to_list}
use Rattle.std.proofs.lemmas.List.{length-map, append-nil}
use Rattle.transferlog.specs.Writes.{LogWrite, is_released, released_of, release_of}
use Rattle.transferlog.specs.Ring.{write_at, without, Rises}
use Rattle.transferlog.proofs.InSlots.{rises_of}
use Rattle.transferlog.specs.declared.report.Released.{Released}
use Rattle.transferlog.proofs.Sweep.{goes, remains, out_at, found_still, gone_next, left_next, all_before, all_after, room_left}
use Rattle.transferlog.proofs.ring.Ring.release_all.Goals as goal

onto_nothing : (xs : List Released) (ys : List LogWrite) → ys ≡ [] → xs ≡ xs ++ map released_of ys
onto_nothing xs ys none = rw none (sym (append-nil xs))

pub loop-number-init : goal.loop-number-init
loop-number-init c =
    let e = all_before (is_released c.args.acknowledged_through) c.args.from c.args.self.now.writes c.requires.low in
    record { released = onto_nothing c.args.released.now.items _ e.0; capacity = refl; writes = sym e.1; next = refl }

-- what is released now, by the writes at the beginning
by_first : (acknowledged_through k : ℕ) (ws left : List LogWrite) (result : Option Released) → Rises 0 ws
    → result ≡ option_and_then (release_of acknowledged_through) (write_at k left) → left ≡ filter (remains (is_released acknowledged_through) k) ws
    → result ≡ out_at (is_released acknowledged_through) released_of k ws
by_first acknowledged_through k ws left result rises is left_is =
    is ∙ (ap (λ vs. option_and_then (release_of acknowledged_through) (write_at k vs)) left_is
    ∙ ap (option_and_then (release_of acknowledged_through)) (found_still (is_released acknowledged_through) k 0 ws rises))

room : (acknowledged_through k n cap : ℕ) (ws : List LogWrite) (items old : List Released) → Rises 0 ws → IsSome (out_at (is_released acknowledged_through) released_of k ws)
    → items ≡ old ++ map released_of (filter (goes (is_released acknowledged_through) k) ws)
    → length old + length ws ≤ cap → n ≡ length items → n < cap
room acknowledged_through k n cap ws items old rises some is fits n_is =
    let lengths = simp (length-append, length-map) at (ap length is) in
    omega (arith, lengths, room_left (is_released acknowledged_through) released_of k ws rises some)

pub note-requires : goal.note-requires
note-requires c =
    λ some.
    let k = c.loop-number.number in
    let ws = c.args.self.now.writes in
    let is = by_first c.args.acknowledged_through k ws c.loop-number.self.writes c.release.result (rises_of c.self.inside c.args.self.now c.self.view_is c.self.invariant)
    c.release.ensures.release c.loop-number.invariant.writes in
    let P : Option Released → Type 0 = λ o. IsSome o in
    room c.args.acknowledged_through k _ _ ws c.loop-number.released.items c.args.released.now.items
    (rises_of c.self.inside c.args.self.now c.self.view_is c.self.invariant) (subst P is some) c.loop-number.invariant.released
    (omega (arith, c.requires.room, c.args.released.now.ok.0, c.loop-number.invariant.capacity)) (omega (arith, c.loop-number.released.ok.0))

pub loop-number-preserved : goal.loop-number-preserved
loop-number-preserved c =
    let k = c.loop-number.number in
    let ws = c.args.self.now.writes in
    let inv = c.loop-number.invariant in
    let old = c.args.released.now.items in
    let is = by_first c.args.acknowledged_through k ws c.loop-number.self.writes c.release.result (rises_of c.self.inside c.args.self.now c.self.view_is c.self.invariant)
    c.release.ensures.release inv.writes in
    record {
      released = c.note.ensures.items ∙ (ap (λ xs. xs ++ option_to_list c.release.result) inv.released
          ∙ (append_assoc old (map released_of (filter (goes (is_released c.args.acknowledged_through) k) ws)) (option_to_list c.release.result)
          ∙ ap (λ ys. old ++ ys) (ap (λ (o : Option Released). map released_of (filter (goes (is_released c.args.acknowledged_through) k) ws) ++ option_to_list o) is
          ∙ sym (gone_next (is_released c.args.acknowledged_through) released_of k 0 ws (rises_of c.self.inside c.args.self.now c.self.view_is c.self.invariant)))));
      capacity = c.note.ensures.capacity ∙ inv.capacity;
      writes = ap (λ r. r.writes) c.release.ensures.next ∙ (ap (λ (vs : List LogWrite). if is_some c.release.result then without k vs else vs) inv.writes
          ∙ (ap (λ (o : Option Released). if is_some o then without k (filter (remains (is_released c.args.acknowledged_through) k) ws)
          else filter (remains (is_released c.args.acknowledged_through) k) ws) is
          ∙ sym (left_next (is_released c.args.acknowledged_through) released_of k 0 ws (rises_of c.self.inside c.args.self.now c.self.view_is c.self.invariant))));
      next = ap (λ r. r.next) c.release.ensures.next ∙ inv.next;
    }

pub returns-clause-released : goal.returns-clause-released
returns-clause-released c =
    let ws = c.args.self.now.writes in
    let old = c.args.released.now.items in
    let end : c.loop-number.number ≡ c.args.to = omega (arith, c.requires.order) in
    let e = all_after (is_released c.args.acknowledged_through) c.args.to ws c.requires.high in
    c.loop-number.invariant.released
    ∙ (ap (λ k. old ++ map released_of (filter (goes (is_released c.args.acknowledged_through) k) ws)) end ∙ ap (λ xs. old ++ map released_of xs) e.0)

pub returns-clause-writes : goal.returns-clause-writes
returns-clause-writes c =
    let ws = c.args.self.now.writes in
    let end : c.loop-number.number ≡ c.args.to = omega (arith, c.requires.order) in
    let e = all_after (is_released c.args.acknowledged_through) c.args.to ws c.requires.high in
    c.loop-number.invariant.writes ∙ (ap (λ k. filter (remains (is_released c.args.acknowledged_through) k) ws) end ∙ e.1)

pub returns-clause-rises : goal.returns-clause-rises
returns-clause-rises c = rises_of c.self.inside c.args.self.now c.self.view_is c.self.invariant
