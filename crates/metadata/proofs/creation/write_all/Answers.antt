use Rattle.std.proofs.Common.{ℕ, ◌≡◌, ◌<◌, ◌+◌, ◌^◌, List, [], length, slice_index, None, Ok, inl, sym, ◌∙◌, ap, subst}
use Rattle.std.specs.Prelude.{if◌then◌else◌, ◌==◌}
use Rattle.std.proofs.lemmas.List.{nil_from_length}
use Rattle.metadata.specs.Words.{bytes_of, sealed, sum_of}
use Rattle.metadata.specs.Judged.{header_words, header_judged, slot_judged}
use Rattle.metadata.specs.State.{MagicLast, Creates}
use Rattle.metadata.proofs.Sealed.{slot-found}
use Rattle.metadata.proofs.LaidOut.{header-back, created, creates}
use Rattle.metadata.proofs.Moments.{quiet_and, quiet_then, quiet_call}
use Rattle.metadata.proofs.creation.write_all.Goals as goal

pub returns-in_err-write_parts-clause-any_moment : goal.returns-in_err-write_parts-clause-any_moment
returns-in_err-write_parts-clause-any_moment g c faithful =
    let h = c.args.header in
    let v = c.args.identifiers.now in
    let top : List ℕ = c.seal.new.buffer in
    let slot : List ℕ = c.seal-2.new.buffer in
    let top-is : top ≡ sealed (header_words h) = c.seal.ensures.sealed ∙ ap sealed c.header_words.ensures in
    let judged : header_judged None (2101248 + h.blocks) (sealed (header_words h)) ≡ Ok h
    = header-back h (subst (λ (l : List ℕ). (k : ℕ) → slice_index l k < 2 ^ 64) c.header_words.ensures c.seal.ensures.words_fit)
    (subst (λ (l : List ℕ). sum_of (bytes_of l) < 2 ^ 64) c.header_words.ensures c.seal.ensures.sum_fits) c.requires in
    let slot-is : slot_judged slot ≡ Ok v
    = ap slot_judged (c.seal-2.ensures.sealed ∙ ap sealed c.slot_words.ensures)
    ∙ slot-found v (subst (λ (l : List ℕ). (k : ℕ) → slice_index l k < 2 ^ 64) c.slot_words.ensures c.seal-2.ensures.words_fit)
    (subst (λ (l : List ℕ). sum_of (bytes_of l) < 2 ^ 64) c.slot_words.ensures c.seal-2.ensures.sum_fits) in
    let was : length (g.F.StableFile.seen c.sync.new.self) ≡ 0 = sym (c.in_ok-len.ensures.len (sym c.write_parts.ensures.still_faithful ∙ faithful)) ∙ c.if-branch-ne0.false in
    let none : g.F.StableFile.seen c.sync.new.self ≡ [] = nil_from_length (g.F.StableFile.seen c.sync.new.self) was in
    let empty : g.F.StableFile.seen c.len.new.self ≡ [] = c.len.ensures.seen ∙ none in
    let only = λ (f : List ℕ) (may : g.F.StableFile.may_leave c.len.new.self f). c.in_ok-sync.ensures.durable f (c.len.ensures.crash f may) ∙ (sym c.sync.ensures.seen ∙ none) in
    let synced = quiet_call g.F.StableFile.moment g.F.StableFile.left_since g.F.StableFile.may_leave g.F.StableFile.seen g.F.StableFile.faithful c.args.file.now c.sync.new.self (g.met.F.StableFile.only_now c.args.file.now) c.sync.ensures.seen
    (λ is. sym c.sync.ensures.still_faithful ∙ is) c.sync.ensures.crash c.sync.ensures.time in
    let measured = quiet_call g.F.StableFile.moment g.F.StableFile.left_since g.F.StableFile.may_leave g.F.StableFile.seen g.F.StableFile.faithful c.sync.new.self c.len.new.self (g.met.F.StableFile.only_now c.sync.new.self) c.len.ensures.seen
    c.len.ensures.falls c.len.ensures.crash c.len.ensures.time in
    quiet_and g.F.StableFile.moment g.F.StableFile.left_since g.F.StableFile.may_leave g.F.StableFile.seen g.F.StableFile.faithful (MagicLast (2101248 + h.blocks) top slot) (Creates h v) c.args.file.now c.len.new.self c.write_parts.new.file
    (λ d f is. inl is) (λ d f last. creates h v top slot d f top-is slot-is judged last)
    (quiet_then g.F.StableFile.moment g.F.StableFile.left_since g.F.StableFile.may_leave g.F.StableFile.seen g.F.StableFile.faithful c.args.file.now c.sync.new.self c.len.new.self synced measured) (c.write_parts.ensures.any_moment only empty)

pub returns-clause-any_moment : goal.returns-clause-any_moment
returns-clause-any_moment g c faithful =
    let h = c.args.header in
    let v = c.args.identifiers.now in
    let top : List ℕ = c.seal.new.buffer in
    let slot : List ℕ = c.seal-2.new.buffer in
    let top-is : top ≡ sealed (header_words h) = c.seal.ensures.sealed ∙ ap sealed c.header_words.ensures in
    let judged : header_judged None (2101248 + h.blocks) (sealed (header_words h)) ≡ Ok h
    = header-back h (subst (λ (l : List ℕ). (k : ℕ) → slice_index l k < 2 ^ 64) c.header_words.ensures c.seal.ensures.words_fit)
    (subst (λ (l : List ℕ). sum_of (bytes_of l) < 2 ^ 64) c.header_words.ensures c.seal.ensures.sum_fits) c.requires in
    let slot-is : slot_judged slot ≡ Ok v
    = ap slot_judged (c.seal-2.ensures.sealed ∙ ap sealed c.slot_words.ensures)
    ∙ slot-found v (subst (λ (l : List ℕ). (k : ℕ) → slice_index l k < 2 ^ 64) c.slot_words.ensures c.seal-2.ensures.words_fit)
    (subst (λ (l : List ℕ). sum_of (bytes_of l) < 2 ^ 64) c.slot_words.ensures c.seal-2.ensures.sum_fits) in
    let was : length (g.F.StableFile.seen c.sync.new.self) ≡ 0 = sym (c.in_ok-len.ensures.len (sym c.write_parts.ensures.still_faithful ∙ faithful)) ∙ c.if-branch-ne0.false in
    let none : g.F.StableFile.seen c.sync.new.self ≡ [] = nil_from_length (g.F.StableFile.seen c.sync.new.self) was in
    let empty : g.F.StableFile.seen c.len.new.self ≡ [] = c.len.ensures.seen ∙ none in
    let only = λ (f : List ℕ) (may : g.F.StableFile.may_leave c.len.new.self f). c.in_ok-sync.ensures.durable f (c.len.ensures.crash f may) ∙ (sym c.sync.ensures.seen ∙ none) in
    let synced = quiet_call g.F.StableFile.moment g.F.StableFile.left_since g.F.StableFile.may_leave g.F.StableFile.seen g.F.StableFile.faithful c.args.file.now c.sync.new.self (g.met.F.StableFile.only_now c.args.file.now) c.sync.ensures.seen
    (λ is. sym c.sync.ensures.still_faithful ∙ is) c.sync.ensures.crash c.sync.ensures.time in
    let measured = quiet_call g.F.StableFile.moment g.F.StableFile.left_since g.F.StableFile.may_leave g.F.StableFile.seen g.F.StableFile.faithful c.sync.new.self c.len.new.self (g.met.F.StableFile.only_now c.sync.new.self) c.len.ensures.seen
    c.len.ensures.falls c.len.ensures.crash c.len.ensures.time in
    quiet_and g.F.StableFile.moment g.F.StableFile.left_since g.F.StableFile.may_leave g.F.StableFile.seen g.F.StableFile.faithful (MagicLast (2101248 + h.blocks) top slot) (Creates h v) c.args.file.now c.len.new.self c.write_parts.new.file
    (λ d f is. inl is) (λ d f last. creates h v top slot d f top-is slot-is judged last)
    (quiet_then g.F.StableFile.moment g.F.StableFile.left_since g.F.StableFile.may_leave g.F.StableFile.seen g.F.StableFile.faithful c.args.file.now c.sync.new.self c.len.new.self synced measured) (c.write_parts.ensures.any_moment only empty)

pub returns-clause-created : goal.returns-clause-created
returns-clause-created g c faithful =
    let h = c.args.header in
    let v = c.args.identifiers.now in
    let top : List ℕ = c.seal.new.buffer in
    let slot : List ℕ = c.seal-2.new.buffer in
    let top-is : top ≡ sealed (header_words h) = c.seal.ensures.sealed ∙ ap sealed c.header_words.ensures in
    let judged : header_judged None (2101248 + h.blocks) (sealed (header_words h)) ≡ Ok h
    = header-back h (subst (λ (l : List ℕ). (k : ℕ) → slice_index l k < 2 ^ 64) c.header_words.ensures c.seal.ensures.words_fit)
    (subst (λ (l : List ℕ). sum_of (bytes_of l) < 2 ^ 64) c.header_words.ensures c.seal.ensures.sum_fits) c.requires in
    let slot-is : slot_judged slot ≡ Ok v
    = ap slot_judged (c.seal-2.ensures.sealed ∙ ap sealed c.slot_words.ensures)
    ∙ slot-found v (subst (λ (l : List ℕ). (k : ℕ) → slice_index l k < 2 ^ 64) c.slot_words.ensures c.seal-2.ensures.words_fit)
    (subst (λ (l : List ℕ). sum_of (bytes_of l) < 2 ^ 64) c.slot_words.ensures c.seal-2.ensures.sum_fits) in
    let was : length (g.F.StableFile.seen c.sync.new.self) ≡ 0 = sym (c.in_ok-len.ensures.len (sym c.write_parts.ensures.still_faithful ∙ faithful)) ∙ c.if-branch-ne0.false in
    let none : g.F.StableFile.seen c.sync.new.self ≡ [] = nil_from_length (g.F.StableFile.seen c.sync.new.self) was in
    let empty : g.F.StableFile.seen c.len.new.self ≡ [] = c.len.ensures.seen ∙ none in
    created h v top slot (g.F.StableFile.seen c.write_parts.new.file) top-is slot-is judged (c.in_ok-write_parts.ensures.laid empty)

pub returns-clause-selected : goal.returns-clause-selected
returns-clause-selected g c faithful =
    let h = c.args.header in
    let v = c.args.identifiers.now in
    let top : List ℕ = c.seal.new.buffer in
    let slot : List ℕ = c.seal-2.new.buffer in
    let top-is : top ≡ sealed (header_words h) = c.seal.ensures.sealed ∙ ap sealed c.header_words.ensures in
    let judged : header_judged None (2101248 + h.blocks) (sealed (header_words h)) ≡ Ok h
    = header-back h (subst (λ (l : List ℕ). (k : ℕ) → slice_index l k < 2 ^ 64) c.header_words.ensures c.seal.ensures.words_fit)
    (subst (λ (l : List ℕ). sum_of (bytes_of l) < 2 ^ 64) c.header_words.ensures c.seal.ensures.sum_fits) c.requires in
    let slot-is : slot_judged slot ≡ Ok v
    = ap slot_judged (c.seal-2.ensures.sealed ∙ ap sealed c.slot_words.ensures)
    ∙ slot-found v (subst (λ (l : List ℕ). (k : ℕ) → slice_index l k < 2 ^ 64) c.slot_words.ensures c.seal-2.ensures.words_fit)
    (subst (λ (l : List ℕ). sum_of (bytes_of l) < 2 ^ 64) c.slot_words.ensures c.seal-2.ensures.sum_fits) in
    let was : length (g.F.StableFile.seen c.sync.new.self) ≡ 0 = sym (c.in_ok-len.ensures.len (sym c.write_parts.ensures.still_faithful ∙ faithful)) ∙ c.if-branch-ne0.false in
    let none : g.F.StableFile.seen c.sync.new.self ≡ [] = nil_from_length (g.F.StableFile.seen c.sync.new.self) was in
    let empty : g.F.StableFile.seen c.len.new.self ≡ [] = c.len.ensures.seen ∙ none in
    ap (λ n. if n == 0 then 0 else 1) (c.in_ok-write_parts.ensures.laid empty).selector
