use Rattle.std.proofs.Common.{ℕ, ◌≡◌, ◌-◌, List, length, take, drop, slice_index, sym, ◌∙◌, ap, subst, arith, length-take, length-drop}
use Rattle.std.proofs.lemmas.Result.{on_ok_weaker}
use Rattle.std.proofs.lemmas.List.{take_rest}
use Rattle.metadata.specs.Calls.{Torn, Written}
use Rattle.metadata.specs.State.{IsLaidOut, MagicLast}
use Rattle.metadata.proofs.Moments.{started, goes_on}
use Rattle.metadata.proofs.Created.{zero-first, cut-zero, IsBlank, blank, slot-zero, rest-zero, IsReady, ready, laid, magic-written}
use Rattle.metadata.proofs.creation.write_parts.Goals as goal

pub returns-in_err-set_len-clause-any_moment : goal.returns-in_err-set_len-clause-any_moment
returns-in_err-set_len-clause-any_moment g c only empty =
    let len : ℕ = c.args.len in
    let top : List ℕ = c.args.top.now in
    let slot : List ℕ = c.args.slot.now in
    let T : List ℕ → List ℕ → Type 0 = MagicLast len top slot in
    let start = c.args.file.now in
    let l0 = started g.F.StableFile.moment g.F.StableFile.left_since g.F.StableFile.may_leave T start (g.met.F.StableFile.only_now start)
    (λ f may. zero-first len top slot f f c.requires.begins (ap (λ (l : List ℕ). slice_index l 0) (only f may))) in
    let h1 = λ (f : List ℕ) (may : g.F.StableFile.may_leave c.set_len.new.self f).
    let from = c.set_len.ensures.crash f may in
    let made1 : (d : List ℕ) × g.F.StableFile.may_leave start d × T d f = (from.0, from.1, zero-first len top slot from.0 f c.requires.begins (cut-zero len from.0 f (only from.0 from.1) from.2)) in made1 in
    let l1 = goes_on g.F.StableFile.moment g.F.StableFile.left_since g.F.StableFile.may_leave T start start c.set_len.new.self l0 c.set_len.ensures.time h1 in
    l1

pub returns-in_err-sync-clause-any_moment : goal.returns-in_err-sync-clause-any_moment
returns-in_err-sync-clause-any_moment g c only empty =
    let len : ℕ = c.args.len in
    let top : List ℕ = c.args.top.now in
    let slot : List ℕ = c.args.slot.now in
    let T : List ℕ → List ℕ → Type 0 = MagicLast len top slot in
    let start = c.args.file.now in
    let l0 = started g.F.StableFile.moment g.F.StableFile.left_since g.F.StableFile.may_leave T start (g.met.F.StableFile.only_now start)
    (λ f may. zero-first len top slot f f c.requires.begins (ap (λ (l : List ℕ). slice_index l 0) (only f may))) in
    let h1 = λ (f : List ℕ) (may : g.F.StableFile.may_leave c.set_len.new.self f).
    let from = c.set_len.ensures.crash f may in
    let made1 : (d : List ℕ) × g.F.StableFile.may_leave start d × T d f = (from.0, from.1, zero-first len top slot from.0 f c.requires.begins (cut-zero len from.0 f (only from.0 from.1) from.2)) in made1 in
    let l1 = goes_on g.F.StableFile.moment g.F.StableFile.left_since g.F.StableFile.may_leave T start start c.set_len.new.self l0 c.set_len.ensures.time h1 in
    let h2 = λ (f : List ℕ) (may : g.F.StableFile.may_leave c.sync.new.self f).
    let made2 : (d : List ℕ) × g.F.StableFile.may_leave start d × T d f = h1 f (c.sync.ensures.crash f may) in made2 in
    let l2 = goes_on g.F.StableFile.moment g.F.StableFile.left_since g.F.StableFile.may_leave T start c.set_len.new.self c.sync.new.self l1 c.sync.ensures.time h2 in
    l2

pub returns-in_err-write_at-clause-any_moment : goal.returns-in_err-write_at-clause-any_moment
returns-in_err-write_at-clause-any_moment g c only empty =
    let len : ℕ = c.args.len in
    let top : List ℕ = c.args.top.now in
    let slot : List ℕ = c.args.slot.now in
    let T : List ℕ → List ℕ → Type 0 = MagicLast len top slot in
    let start = c.args.file.now in
    let l0 = started g.F.StableFile.moment g.F.StableFile.left_since g.F.StableFile.may_leave T start (g.met.F.StableFile.only_now start)
    (λ f may. zero-first len top slot f f c.requires.begins (ap (λ (l : List ℕ). slice_index l 0) (only f may))) in
    let h1 = λ (f : List ℕ) (may : g.F.StableFile.may_leave c.set_len.new.self f).
    let from = c.set_len.ensures.crash f may in
    let made1 : (d : List ℕ) × g.F.StableFile.may_leave start d × T d f = (from.0, from.1, zero-first len top slot from.0 f c.requires.begins (cut-zero len from.0 f (only from.0 from.1) from.2)) in made1 in
    let l1 = goes_on g.F.StableFile.moment g.F.StableFile.left_since g.F.StableFile.may_leave T start start c.set_len.new.self l0 c.set_len.ensures.time h1 in
    let h2 = λ (f : List ℕ) (may : g.F.StableFile.may_leave c.sync.new.self f).
    let made2 : (d : List ℕ) × g.F.StableFile.may_leave start d × T d f = h1 f (c.sync.ensures.crash f may) in made2 in
    let l2 = goes_on g.F.StableFile.moment g.F.StableFile.left_since g.F.StableFile.may_leave T start c.set_len.new.self c.sync.new.self l1 c.sync.ensures.time h2 in
    let blank-file = λ (z : List ℕ) (may : g.F.StableFile.may_leave c.sync.new.self z).
    let made : IsBlank len z = subst (λ (l : List ℕ). IsBlank len l) (sym (c.in_ok-sync.ensures.durable z may)) (blank len _ _ empty c.in_ok-set_len.ensures.resized) in made in
    let torn-slot = λ (z e : List ℕ) (t : Torn 1024 (length slot) z e). subst (λ n. Torn 1024 n z e) c.requires.slot t in
    let h3 = λ (f : List ℕ) (may : g.F.StableFile.may_leave c.write_at.new.self f).
    let from = c.write_at.ensures.crash f may in
    let past = h2 from.0 from.1 in
    let made3 : (d : List ℕ) × g.F.StableFile.may_leave start d × T d f = (past.0, past.1, zero-first len top slot past.0 f c.requires.begins (slot-zero len from.0 f c.requires.room (blank-file from.0 from.1) (torn-slot from.0 f from.2)).0) in made3 in
    let l3 = goes_on g.F.StableFile.moment g.F.StableFile.left_since g.F.StableFile.may_leave T start c.sync.new.self c.write_at.new.self l2 c.write_at.ensures.time h3 in
    l3

pub returns-in_err-write_at-2-clause-any_moment : goal.returns-in_err-write_at-2-clause-any_moment
returns-in_err-write_at-2-clause-any_moment g c only empty =
    let len : ℕ = c.args.len in
    let top : List ℕ = c.args.top.now in
    let slot : List ℕ = c.args.slot.now in
    let T : List ℕ → List ℕ → Type 0 = MagicLast len top slot in
    let start = c.args.file.now in
    let l0 = started g.F.StableFile.moment g.F.StableFile.left_since g.F.StableFile.may_leave T start (g.met.F.StableFile.only_now start)
    (λ f may. zero-first len top slot f f c.requires.begins (ap (λ (l : List ℕ). slice_index l 0) (only f may))) in
    let h1 = λ (f : List ℕ) (may : g.F.StableFile.may_leave c.set_len.new.self f).
    let from = c.set_len.ensures.crash f may in
    let made1 : (d : List ℕ) × g.F.StableFile.may_leave start d × T d f = (from.0, from.1, zero-first len top slot from.0 f c.requires.begins (cut-zero len from.0 f (only from.0 from.1) from.2)) in made1 in
    let l1 = goes_on g.F.StableFile.moment g.F.StableFile.left_since g.F.StableFile.may_leave T start start c.set_len.new.self l0 c.set_len.ensures.time h1 in
    let h2 = λ (f : List ℕ) (may : g.F.StableFile.may_leave c.sync.new.self f).
    let made2 : (d : List ℕ) × g.F.StableFile.may_leave start d × T d f = h1 f (c.sync.ensures.crash f may) in made2 in
    let l2 = goes_on g.F.StableFile.moment g.F.StableFile.left_since g.F.StableFile.may_leave T start c.set_len.new.self c.sync.new.self l1 c.sync.ensures.time h2 in
    let blank-file = λ (z : List ℕ) (may : g.F.StableFile.may_leave c.sync.new.self z).
    let made : IsBlank len z = subst (λ (l : List ℕ). IsBlank len l) (sym (c.in_ok-sync.ensures.durable z may)) (blank len _ _ empty c.in_ok-set_len.ensures.resized) in made in
    let torn-slot = λ (z e : List ℕ) (t : Torn 1024 (length slot) z e). subst (λ n. Torn 1024 n z e) c.requires.slot t in
    let h3 = λ (f : List ℕ) (may : g.F.StableFile.may_leave c.write_at.new.self f).
    let from = c.write_at.ensures.crash f may in
    let past = h2 from.0 from.1 in
    let made3 : (d : List ℕ) × g.F.StableFile.may_leave start d × T d f = (past.0, past.1, zero-first len top slot past.0 f c.requires.begins (slot-zero len from.0 f c.requires.room (blank-file from.0 from.1) (torn-slot from.0 f from.2)).0) in made3 in
    let l3 = goes_on g.F.StableFile.moment g.F.StableFile.left_since g.F.StableFile.may_leave T start c.sync.new.self c.write_at.new.self l2 c.write_at.ensures.time h3 in
    let rest-size : length (take (length top - 8) (drop 8 top)) ≡ 40 = ap length (take_rest top 8) ∙ (omega (arith, length-drop 8 top, c.requires.header)) in
    let h4 = λ (f : List ℕ) (may : g.F.StableFile.may_leave c.write_at-2.new.self f).
    let from = c.write_at-2.ensures.crash f may in
    let before = c.write_at.ensures.crash from.0 from.1 in
    let past = h2 before.0 before.1 in
    let e = slot-zero len before.0 from.0 c.requires.room (blank-file before.0 before.1) (torn-slot before.0 from.0 before.2) in
    let made4 : (d : List ℕ) × g.F.StableFile.may_leave start d × T d f = (past.0, past.1, zero-first len top slot past.0 f c.requires.begins (rest-zero len from.0 f c.requires.room e.0 e.1 (subst (λ n. Torn 8 n from.0 f) rest-size from.2))) in made4 in
    let l4 = goes_on g.F.StableFile.moment g.F.StableFile.left_since g.F.StableFile.may_leave T start c.write_at.new.self c.write_at-2.new.self l3 c.write_at-2.ensures.time h4 in
    l4

pub returns-in_err-sync-2-clause-any_moment : goal.returns-in_err-sync-2-clause-any_moment
returns-in_err-sync-2-clause-any_moment g c only empty =
    let len : ℕ = c.args.len in
    let top : List ℕ = c.args.top.now in
    let slot : List ℕ = c.args.slot.now in
    let T : List ℕ → List ℕ → Type 0 = MagicLast len top slot in
    let start = c.args.file.now in
    let l0 = started g.F.StableFile.moment g.F.StableFile.left_since g.F.StableFile.may_leave T start (g.met.F.StableFile.only_now start)
    (λ f may. zero-first len top slot f f c.requires.begins (ap (λ (l : List ℕ). slice_index l 0) (only f may))) in
    let h1 = λ (f : List ℕ) (may : g.F.StableFile.may_leave c.set_len.new.self f).
    let from = c.set_len.ensures.crash f may in
    let made1 : (d : List ℕ) × g.F.StableFile.may_leave start d × T d f = (from.0, from.1, zero-first len top slot from.0 f c.requires.begins (cut-zero len from.0 f (only from.0 from.1) from.2)) in made1 in
    let l1 = goes_on g.F.StableFile.moment g.F.StableFile.left_since g.F.StableFile.may_leave T start start c.set_len.new.self l0 c.set_len.ensures.time h1 in
    let h2 = λ (f : List ℕ) (may : g.F.StableFile.may_leave c.sync.new.self f).
    let made2 : (d : List ℕ) × g.F.StableFile.may_leave start d × T d f = h1 f (c.sync.ensures.crash f may) in made2 in
    let l2 = goes_on g.F.StableFile.moment g.F.StableFile.left_since g.F.StableFile.may_leave T start c.set_len.new.self c.sync.new.self l1 c.sync.ensures.time h2 in
    let blank-file = λ (z : List ℕ) (may : g.F.StableFile.may_leave c.sync.new.self z).
    let made : IsBlank len z = subst (λ (l : List ℕ). IsBlank len l) (sym (c.in_ok-sync.ensures.durable z may)) (blank len _ _ empty c.in_ok-set_len.ensures.resized) in made in
    let torn-slot = λ (z e : List ℕ) (t : Torn 1024 (length slot) z e). subst (λ n. Torn 1024 n z e) c.requires.slot t in
    let h3 = λ (f : List ℕ) (may : g.F.StableFile.may_leave c.write_at.new.self f).
    let from = c.write_at.ensures.crash f may in
    let past = h2 from.0 from.1 in
    let made3 : (d : List ℕ) × g.F.StableFile.may_leave start d × T d f = (past.0, past.1, zero-first len top slot past.0 f c.requires.begins (slot-zero len from.0 f c.requires.room (blank-file from.0 from.1) (torn-slot from.0 f from.2)).0) in made3 in
    let l3 = goes_on g.F.StableFile.moment g.F.StableFile.left_since g.F.StableFile.may_leave T start c.sync.new.self c.write_at.new.self l2 c.write_at.ensures.time h3 in
    let rest-size : length (take (length top - 8) (drop 8 top)) ≡ 40 = ap length (take_rest top 8) ∙ (omega (arith, length-drop 8 top, c.requires.header)) in
    let h4 = λ (f : List ℕ) (may : g.F.StableFile.may_leave c.write_at-2.new.self f).
    let from = c.write_at-2.ensures.crash f may in
    let before = c.write_at.ensures.crash from.0 from.1 in
    let past = h2 before.0 before.1 in
    let e = slot-zero len before.0 from.0 c.requires.room (blank-file before.0 before.1) (torn-slot before.0 from.0 before.2) in
    let made4 : (d : List ℕ) × g.F.StableFile.may_leave start d × T d f = (past.0, past.1, zero-first len top slot past.0 f c.requires.begins (rest-zero len from.0 f c.requires.room e.0 e.1 (subst (λ n. Torn 8 n from.0 f) rest-size from.2))) in made4 in
    let l4 = goes_on g.F.StableFile.moment g.F.StableFile.left_since g.F.StableFile.may_leave T start c.write_at.new.self c.write_at-2.new.self l3 c.write_at-2.ensures.time h4 in
    let h5 = λ (f : List ℕ) (may : g.F.StableFile.may_leave c.sync-2.new.self f).
    let made5 : (d : List ℕ) × g.F.StableFile.may_leave start d × T d f = h4 f (c.sync-2.ensures.crash f may) in made5 in
    let l5 = goes_on g.F.StableFile.moment g.F.StableFile.left_since g.F.StableFile.may_leave T start c.write_at-2.new.self c.sync-2.new.self l4 c.sync-2.ensures.time h5 in
    l5

pub returns-in_err-write_at-3-clause-any_moment : goal.returns-in_err-write_at-3-clause-any_moment
returns-in_err-write_at-3-clause-any_moment g c only empty =
    let len : ℕ = c.args.len in
    let top : List ℕ = c.args.top.now in
    let slot : List ℕ = c.args.slot.now in
    let T : List ℕ → List ℕ → Type 0 = MagicLast len top slot in
    let start = c.args.file.now in
    let l0 = started g.F.StableFile.moment g.F.StableFile.left_since g.F.StableFile.may_leave T start (g.met.F.StableFile.only_now start)
    (λ f may. zero-first len top slot f f c.requires.begins (ap (λ (l : List ℕ). slice_index l 0) (only f may))) in
    let h1 = λ (f : List ℕ) (may : g.F.StableFile.may_leave c.set_len.new.self f).
    let from = c.set_len.ensures.crash f may in
    let made1 : (d : List ℕ) × g.F.StableFile.may_leave start d × T d f = (from.0, from.1, zero-first len top slot from.0 f c.requires.begins (cut-zero len from.0 f (only from.0 from.1) from.2)) in made1 in
    let l1 = goes_on g.F.StableFile.moment g.F.StableFile.left_since g.F.StableFile.may_leave T start start c.set_len.new.self l0 c.set_len.ensures.time h1 in
    let h2 = λ (f : List ℕ) (may : g.F.StableFile.may_leave c.sync.new.self f).
    let made2 : (d : List ℕ) × g.F.StableFile.may_leave start d × T d f = h1 f (c.sync.ensures.crash f may) in made2 in
    let l2 = goes_on g.F.StableFile.moment g.F.StableFile.left_since g.F.StableFile.may_leave T start c.set_len.new.self c.sync.new.self l1 c.sync.ensures.time h2 in
    let blank-file = λ (z : List ℕ) (may : g.F.StableFile.may_leave c.sync.new.self z).
    let made : IsBlank len z = subst (λ (l : List ℕ). IsBlank len l) (sym (c.in_ok-sync.ensures.durable z may)) (blank len _ _ empty c.in_ok-set_len.ensures.resized) in made in
    let torn-slot = λ (z e : List ℕ) (t : Torn 1024 (length slot) z e). subst (λ n. Torn 1024 n z e) c.requires.slot t in
    let h3 = λ (f : List ℕ) (may : g.F.StableFile.may_leave c.write_at.new.self f).
    let from = c.write_at.ensures.crash f may in
    let past = h2 from.0 from.1 in
    let made3 : (d : List ℕ) × g.F.StableFile.may_leave start d × T d f = (past.0, past.1, zero-first len top slot past.0 f c.requires.begins (slot-zero len from.0 f c.requires.room (blank-file from.0 from.1) (torn-slot from.0 f from.2)).0) in made3 in
    let l3 = goes_on g.F.StableFile.moment g.F.StableFile.left_since g.F.StableFile.may_leave T start c.sync.new.self c.write_at.new.self l2 c.write_at.ensures.time h3 in
    let rest-size : length (take (length top - 8) (drop 8 top)) ≡ 40 = ap length (take_rest top 8) ∙ (omega (arith, length-drop 8 top, c.requires.header)) in
    let h4 = λ (f : List ℕ) (may : g.F.StableFile.may_leave c.write_at-2.new.self f).
    let from = c.write_at-2.ensures.crash f may in
    let before = c.write_at.ensures.crash from.0 from.1 in
    let past = h2 before.0 before.1 in
    let e = slot-zero len before.0 from.0 c.requires.room (blank-file before.0 before.1) (torn-slot before.0 from.0 before.2) in
    let made4 : (d : List ℕ) × g.F.StableFile.may_leave start d × T d f = (past.0, past.1, zero-first len top slot past.0 f c.requires.begins (rest-zero len from.0 f c.requires.room e.0 e.1 (subst (λ n. Torn 8 n from.0 f) rest-size from.2))) in made4 in
    let l4 = goes_on g.F.StableFile.moment g.F.StableFile.left_since g.F.StableFile.may_leave T start c.write_at.new.self c.write_at-2.new.self l3 c.write_at-2.ensures.time h4 in
    let h5 = λ (f : List ℕ) (may : g.F.StableFile.may_leave c.sync-2.new.self f).
    let made5 : (d : List ℕ) × g.F.StableFile.may_leave start d × T d f = h4 f (c.sync-2.ensures.crash f may) in made5 in
    let l5 = goes_on g.F.StableFile.moment g.F.StableFile.left_since g.F.StableFile.may_leave T start c.write_at-2.new.self c.sync-2.new.self l4 c.sync-2.ensures.time h5 in
    let all : IsReady len top slot (g.F.StableFile.seen c.write_at-2.new.self)
    = ready len top slot (g.F.StableFile.seen c.sync.new.self) (g.F.StableFile.seen c.write_at.new.self) (g.F.StableFile.seen c.write_at-2.new.self) c.requires.room c.requires.header c.requires.slot
    (subst (λ (l : List ℕ). IsBlank len l) (sym c.sync.ensures.seen) (blank len _ _ empty c.in_ok-set_len.ensures.resized))
    c.in_ok-write_at.ensures.written (subst (λ (l : List ℕ). Written 8 l (g.F.StableFile.seen c.write_at.new.self) (g.F.StableFile.seen c.write_at-2.new.self)) (take_rest top 8) c.in_ok-write_at-2.ensures.written) in
    let first-size : length (take 8 top) ≡ 8 = omega (arith, length-take 8 top, c.requires.header) in
    let h6 = λ (f : List ℕ) (may : g.F.StableFile.may_leave c.write_at-3.new.self f).
    let from = c.write_at-3.ensures.crash f may in
    let past = h5 from.0 from.1 in
    let is : IsReady len top slot from.0 = subst (λ (l : List ℕ). IsReady len top slot l) (sym (c.in_ok-sync-2.ensures.durable from.0 from.1)) all in
    let made6 : (d : List ℕ) × g.F.StableFile.may_leave start d × T d f = (past.0, past.1, laid len top slot from.0 f c.requires.room c.requires.header is (subst (λ n. Torn 0 n from.0 f) first-size from.2)) in made6 in
    let l6 = goes_on g.F.StableFile.moment g.F.StableFile.left_since g.F.StableFile.may_leave T start c.sync-2.new.self c.write_at-3.new.self l5 c.write_at-3.ensures.time h6 in
    l6

pub returns-clause-any_moment : goal.returns-clause-any_moment
returns-clause-any_moment g c only empty =
    let len : ℕ = c.args.len in
    let top : List ℕ = c.args.top.now in
    let slot : List ℕ = c.args.slot.now in
    let T : List ℕ → List ℕ → Type 0 = MagicLast len top slot in
    let start = c.args.file.now in
    let l0 = started g.F.StableFile.moment g.F.StableFile.left_since g.F.StableFile.may_leave T start (g.met.F.StableFile.only_now start)
    (λ f may. zero-first len top slot f f c.requires.begins (ap (λ (l : List ℕ). slice_index l 0) (only f may))) in
    let h1 = λ (f : List ℕ) (may : g.F.StableFile.may_leave c.set_len.new.self f).
    let from = c.set_len.ensures.crash f may in
    let made1 : (d : List ℕ) × g.F.StableFile.may_leave start d × T d f = (from.0, from.1, zero-first len top slot from.0 f c.requires.begins (cut-zero len from.0 f (only from.0 from.1) from.2)) in made1 in
    let l1 = goes_on g.F.StableFile.moment g.F.StableFile.left_since g.F.StableFile.may_leave T start start c.set_len.new.self l0 c.set_len.ensures.time h1 in
    let h2 = λ (f : List ℕ) (may : g.F.StableFile.may_leave c.sync.new.self f).
    let made2 : (d : List ℕ) × g.F.StableFile.may_leave start d × T d f = h1 f (c.sync.ensures.crash f may) in made2 in
    let l2 = goes_on g.F.StableFile.moment g.F.StableFile.left_since g.F.StableFile.may_leave T start c.set_len.new.self c.sync.new.self l1 c.sync.ensures.time h2 in
    let blank-file = λ (z : List ℕ) (may : g.F.StableFile.may_leave c.sync.new.self z).
    let made : IsBlank len z = subst (λ (l : List ℕ). IsBlank len l) (sym (c.in_ok-sync.ensures.durable z may)) (blank len _ _ empty c.in_ok-set_len.ensures.resized) in made in
    let torn-slot = λ (z e : List ℕ) (t : Torn 1024 (length slot) z e). subst (λ n. Torn 1024 n z e) c.requires.slot t in
    let h3 = λ (f : List ℕ) (may : g.F.StableFile.may_leave c.write_at.new.self f).
    let from = c.write_at.ensures.crash f may in
    let past = h2 from.0 from.1 in
    let made3 : (d : List ℕ) × g.F.StableFile.may_leave start d × T d f = (past.0, past.1, zero-first len top slot past.0 f c.requires.begins (slot-zero len from.0 f c.requires.room (blank-file from.0 from.1) (torn-slot from.0 f from.2)).0) in made3 in
    let l3 = goes_on g.F.StableFile.moment g.F.StableFile.left_since g.F.StableFile.may_leave T start c.sync.new.self c.write_at.new.self l2 c.write_at.ensures.time h3 in
    let rest-size : length (take (length top - 8) (drop 8 top)) ≡ 40 = ap length (take_rest top 8) ∙ (omega (arith, length-drop 8 top, c.requires.header)) in
    let h4 = λ (f : List ℕ) (may : g.F.StableFile.may_leave c.write_at-2.new.self f).
    let from = c.write_at-2.ensures.crash f may in
    let before = c.write_at.ensures.crash from.0 from.1 in
    let past = h2 before.0 before.1 in
    let e = slot-zero len before.0 from.0 c.requires.room (blank-file before.0 before.1) (torn-slot before.0 from.0 before.2) in
    let made4 : (d : List ℕ) × g.F.StableFile.may_leave start d × T d f = (past.0, past.1, zero-first len top slot past.0 f c.requires.begins (rest-zero len from.0 f c.requires.room e.0 e.1 (subst (λ n. Torn 8 n from.0 f) rest-size from.2))) in made4 in
    let l4 = goes_on g.F.StableFile.moment g.F.StableFile.left_since g.F.StableFile.may_leave T start c.write_at.new.self c.write_at-2.new.self l3 c.write_at-2.ensures.time h4 in
    let h5 = λ (f : List ℕ) (may : g.F.StableFile.may_leave c.sync-2.new.self f).
    let made5 : (d : List ℕ) × g.F.StableFile.may_leave start d × T d f = h4 f (c.sync-2.ensures.crash f may) in made5 in
    let l5 = goes_on g.F.StableFile.moment g.F.StableFile.left_since g.F.StableFile.may_leave T start c.write_at-2.new.self c.sync-2.new.self l4 c.sync-2.ensures.time h5 in
    let all : IsReady len top slot (g.F.StableFile.seen c.write_at-2.new.self)
    = ready len top slot (g.F.StableFile.seen c.sync.new.self) (g.F.StableFile.seen c.write_at.new.self) (g.F.StableFile.seen c.write_at-2.new.self) c.requires.room c.requires.header c.requires.slot
    (subst (λ (l : List ℕ). IsBlank len l) (sym c.sync.ensures.seen) (blank len _ _ empty c.in_ok-set_len.ensures.resized))
    c.in_ok-write_at.ensures.written (subst (λ (l : List ℕ). Written 8 l (g.F.StableFile.seen c.write_at.new.self) (g.F.StableFile.seen c.write_at-2.new.self)) (take_rest top 8) c.in_ok-write_at-2.ensures.written) in
    let first-size : length (take 8 top) ≡ 8 = omega (arith, length-take 8 top, c.requires.header) in
    let h6 = λ (f : List ℕ) (may : g.F.StableFile.may_leave c.write_at-3.new.self f).
    let from = c.write_at-3.ensures.crash f may in
    let past = h5 from.0 from.1 in
    let is : IsReady len top slot from.0 = subst (λ (l : List ℕ). IsReady len top slot l) (sym (c.in_ok-sync-2.ensures.durable from.0 from.1)) all in
    let made6 : (d : List ℕ) × g.F.StableFile.may_leave start d × T d f = (past.0, past.1, laid len top slot from.0 f c.requires.room c.requires.header is (subst (λ n. Torn 0 n from.0 f) first-size from.2)) in made6 in
    let l6 = goes_on g.F.StableFile.moment g.F.StableFile.left_since g.F.StableFile.may_leave T start c.sync-2.new.self c.write_at-3.new.self l5 c.write_at-3.ensures.time h6 in
    let h7 = λ (f : List ℕ) (may : g.F.StableFile.may_leave c.sync-3.new.self f).
    let made7 : (d : List ℕ) × g.F.StableFile.may_leave start d × T d f = h6 f (c.sync-3.ensures.crash f may) in made7 in
    let l7 = goes_on g.F.StableFile.moment g.F.StableFile.left_since g.F.StableFile.may_leave T start c.write_at-3.new.self c.sync-3.new.self l6 c.sync-3.ensures.time h7 in
    l7

pub returns-clause-laid : goal.returns-clause-laid
returns-clause-laid g c = on_ok_weaker c.sync-3.result (λ durable. λ empty.
    let len : ℕ = c.args.len in
    let top : List ℕ = c.args.top.now in
    let slot : List ℕ = c.args.slot.now in
    let all : IsReady len top slot (g.F.StableFile.seen c.write_at-2.new.self)
    = ready len top slot (g.F.StableFile.seen c.sync.new.self) (g.F.StableFile.seen c.write_at.new.self) (g.F.StableFile.seen c.write_at-2.new.self) c.requires.room c.requires.header c.requires.slot
    (subst (λ (l : List ℕ). IsBlank len l) (sym c.sync.ensures.seen) (blank len _ _ empty c.in_ok-set_len.ensures.resized))
    c.in_ok-write_at.ensures.written (subst (λ (l : List ℕ). Written 8 l (g.F.StableFile.seen c.write_at.new.self) (g.F.StableFile.seen c.write_at-2.new.self)) (take_rest top 8) c.in_ok-write_at-2.ensures.written) in
    let first-size : length (take 8 top) ≡ 8 = omega (arith, length-take 8 top, c.requires.header) in
    let last = c.in_ok-write_at-3.ensures.written in
    let old : List ℕ = g.F.StableFile.seen c.write_at-2.new.self in
    let new : List ℕ = g.F.StableFile.seen c.write_at-3.new.self in
    let written : Written 0 (take 8 top) old new = subst (λ (l : List ℕ). Written 0 (take 8 top) l new) c.sync-2.ensures.seen last in
    let made : IsLaidOut len top slot (g.F.StableFile.seen c.sync-3.new.self) = subst (λ (l : List ℕ). IsLaidOut len top slot l) (sym c.sync-3.ensures.seen)
    (laid len top slot old new c.requires.room c.requires.header all (subst (λ n. Torn 0 n old new) first-size written.elsewhere) (magic-written top old new c.requires.header written)) in
    made) c.sync-3.ensures.durable
