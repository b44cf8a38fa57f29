use Rattle.std.proofs.Common.{ℕ, ◌≡◌, List, [], ◌∷◌, length, sym, ◌∙◌, ap, subst}
use Rattle.std.proofs.lemmas.Result.{on_ok_weaker}
use Rattle.metadata.specs.Calls.{Torn, Holds, Written}
use Rattle.metadata.specs.Says.{slot_at, slot_bytes}
use Rattle.metadata.specs.Steps.{OnlySlot, IsReplaced}
use Rattle.metadata.proofs.Moments.{one_write, write_and_sync, goes_on}
use Rattle.metadata.proofs.SlotLemmas.{torn-slot, staged, selector, slot-written, replaced}
use Rattle.metadata.proofs.slots.replace_slot.Goals as goal

pub returns-in_err-write_at-clause-any_moment : goal.returns-in_err-write_at-clause-any_moment
returns-in_err-write_at-clause-any_moment g c ready =
    let slot : List ℕ = c.args.slot.now in
    one_write g.F.StableFile.moment g.F.StableFile.left_since g.F.StableFile.may_leave (OnlySlot slot) c.slot_at.result (length slot) c.args.file.now c.write_at.new.self
    (g.met.F.StableFile.only_now c.args.file.now)
    (λ d f may torn. torn-slot c.args.other slot d f (ready d may) (subst (λ n. Torn n 128 d f) c.slot_at.ensures (subst (λ n. Torn c.slot_at.result n d f) c.requires.size torn)))
    c.write_at.ensures.crash c.write_at.ensures.time

pub returns-in_err-sync-clause-any_moment : goal.returns-in_err-sync-clause-any_moment
returns-in_err-sync-clause-any_moment g c ready =
    let slot : List ℕ = c.args.slot.now in
    write_and_sync g.F.StableFile.moment g.F.StableFile.left_since g.F.StableFile.may_leave (OnlySlot slot) c.slot_at.result (length slot) c.args.file.now c.write_at.new.self c.sync.new.self
    (g.met.F.StableFile.only_now c.args.file.now)
    (λ d f may torn. torn-slot c.args.other slot d f (ready d may) (subst (λ n. Torn n 128 d f) c.slot_at.ensures (subst (λ n. Torn c.slot_at.result n d f) c.requires.size torn)))
    c.write_at.ensures.crash c.write_at.ensures.time c.sync.ensures.crash c.sync.ensures.time

pub returns-in_err-write_at-2-clause-any_moment : goal.returns-in_err-write_at-2-clause-any_moment
returns-in_err-write_at-2-clause-any_moment g c ready =
    let slot : List ℕ = c.args.slot.now in
    let torn = λ (d f : List ℕ) (t : Torn c.slot_at.result (length slot) d f). subst (λ n. Torn n 128 d f) c.slot_at.ensures (subst (λ n. Torn c.slot_at.result n d f) c.requires.size t) in
    let synced = write_and_sync g.F.StableFile.moment g.F.StableFile.left_since g.F.StableFile.may_leave (OnlySlot slot) c.slot_at.result (length slot) c.args.file.now c.write_at.new.self c.sync.new.self
    (g.met.F.StableFile.only_now c.args.file.now)
    (λ d f may t. torn-slot c.args.other slot d f (ready d may) (torn d f t))
    c.write_at.ensures.crash c.write_at.ensures.time c.sync.ensures.crash c.sync.ensures.time in
    let new : slot_bytes c.args.other (g.F.StableFile.seen c.write_at.new.self) ≡ slot
    = slot-written (slot_at c.args.other) slot (g.F.StableFile.seen c.write_at.new.self) c.requires.size
    (subst (λ n. Holds (g.F.StableFile.seen c.write_at.new.self) n slot) c.slot_at.ensures c.in_ok-write_at.ensures.written.here) in
    goes_on g.F.StableFile.moment g.F.StableFile.left_since g.F.StableFile.may_leave (OnlySlot slot) c.args.file.now c.sync.new.self c.write_at-2.new.self synced c.write_at-2.ensures.time
    (λ f may.
    let from = c.write_at-2.ensures.crash f may in
    let first = c.write_at.ensures.crash from.0 (c.sync.ensures.crash from.0 from.1) in (
      first.0,
      first.1,
      selector c.args.other slot first.0 from.0 f (ready first.0 first.1) (staged c.args.other first.0 from.0 (ready first.0 first.1) (torn first.0 from.0 first.2))
          (ap (slot_bytes c.args.other) (c.in_ok-sync.ensures.durable from.0 from.1) ∙ new) from.2,
    ))

pub returns-clause-any_moment : goal.returns-clause-any_moment
returns-clause-any_moment g c ready =
    let slot : List ℕ = c.args.slot.now in
    let torn = λ (d f : List ℕ) (t : Torn c.slot_at.result (length slot) d f). subst (λ n. Torn n 128 d f) c.slot_at.ensures (subst (λ n. Torn c.slot_at.result n d f) c.requires.size t) in
    let synced = write_and_sync g.F.StableFile.moment g.F.StableFile.left_since g.F.StableFile.may_leave (OnlySlot slot) c.slot_at.result (length slot) c.args.file.now c.write_at.new.self c.sync.new.self
    (g.met.F.StableFile.only_now c.args.file.now)
    (λ d f may t. torn-slot c.args.other slot d f (ready d may) (torn d f t))
    c.write_at.ensures.crash c.write_at.ensures.time c.sync.ensures.crash c.sync.ensures.time in
    let new : slot_bytes c.args.other (g.F.StableFile.seen c.write_at.new.self) ≡ slot
    = slot-written (slot_at c.args.other) slot (g.F.StableFile.seen c.write_at.new.self) c.requires.size
    (subst (λ n. Holds (g.F.StableFile.seen c.write_at.new.self) n slot) c.slot_at.ensures c.in_ok-write_at.ensures.written.here) in
    let here = λ (f : List ℕ) (may : g.F.StableFile.may_leave c.write_at-2.new.self f).
    let from = c.write_at-2.ensures.crash f may in
    let first = c.write_at.ensures.crash from.0 (c.sync.ensures.crash from.0 from.1) in
    let step : OnlySlot slot first.0 f = selector c.args.other slot first.0 from.0 f (ready first.0 first.1) (staged c.args.other first.0 from.0 (ready first.0 first.1) (torn first.0 from.0 first.2))
    (ap (slot_bytes c.args.other) (c.in_ok-sync.ensures.durable from.0 from.1) ∙ new) from.2 in
    let made : (d : List ℕ) × g.F.StableFile.may_leave c.args.file.now d × OnlySlot slot d f = (first.0, first.1, step) in
    made in
    let chosen = goes_on g.F.StableFile.moment g.F.StableFile.left_since g.F.StableFile.may_leave (OnlySlot slot) c.args.file.now c.sync.new.self c.write_at-2.new.self synced c.write_at-2.ensures.time here in
    goes_on g.F.StableFile.moment g.F.StableFile.left_since g.F.StableFile.may_leave (OnlySlot slot) c.args.file.now c.write_at-2.new.self c.sync-2.new.self chosen c.sync-2.ensures.time
    (λ f may. here f (c.sync-2.ensures.crash f may))

pub returns-clause-replaced : goal.returns-clause-replaced
returns-clause-replaced g c =
    let slot : List ℕ = c.args.slot.now in
    let old : List ℕ = g.F.StableFile.seen c.args.file.now in
    let first : Written (slot_at c.args.other) slot old (g.F.StableFile.seen c.write_at.new.self)
    = subst (λ n. Written n slot old (g.F.StableFile.seen c.write_at.new.self)) c.slot_at.ensures c.in_ok-write_at.ensures.written in
    let second : Written 512 (c.args.other ∷ []) (g.F.StableFile.seen c.write_at.new.self) (g.F.StableFile.seen c.write_at-2.new.self)
    = subst (λ (file : List ℕ). Written 512 (c.args.other ∷ []) file (g.F.StableFile.seen c.write_at-2.new.self)) c.sync.ensures.seen c.in_ok-write_at-2.ensures.written in
    on_ok_weaker c.sync-2.result (λ durable. λ has.
    subst (λ (file : List ℕ). IsReplaced c.args.other slot old file) (sym c.sync-2.ensures.seen)
    (replaced c.args.other slot old (g.F.StableFile.seen c.write_at.new.self) (g.F.StableFile.seen c.write_at-2.new.self) c.requires.size c.requires.few has first second))
    c.sync-2.ensures.durable
