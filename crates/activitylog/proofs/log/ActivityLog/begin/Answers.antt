use Rattle.std.proofs.Common.{ℕ, ◌≡◌, ◌<◌, ◌+◌, ◌∙◌, ◌∷◌, Option, Some, None, Bool, true, false, unwrap_or, refl, sym, ap, arith, nat_eq}
use Rattle.std.specs.Prelude.{is_some, IfSome, MatchOption}
use Rattle.std.specs.Map.{lookup, remove_entry}
use Rattle.lru.specs.LruCache.{LruCache, lru_cache}
use Rattle.activitylog.specs.Activity.{can_begin, writes_of}
use Rattle.activitylog.specs.Entries.{active_of, oldest_idle}
use Rattle.activitylog.proofs.Entries.{active-lookup, length-removed, oldest-active, put-new, writes-lookup}
use Rattle.activitylog.proofs.Begun.{begun-free, begun-full, begun-known, can-full, can-known, other_key, when_known, when_unknown}
use Rattle.activitylog.proofs.log.ActivityLog.begin.Goals as goal

-- What the call told: with one write more the extent is at the front.
abbrev Front : ℕ → LruCache ℕ ℕ → LruCache ℕ ℕ → ℕ → Type 0
Front k old new w = new ≡ lru_cache ((k, w + 1) ∷ remove_entry (nat_eq k) old.entries) old.cap

abbrev Returned : ℕ → LruCache ℕ ℕ → LruCache ℕ ℕ → Bool → Type 0
Returned k old new r = MatchOption (lookup (nat_eq k) old.entries) ((r ≡ false) × (new ≡ old)) (λ w. (r ≡ true) × Front k old new w)

known : (k : ℕ) (old new : LruCache ℕ ℕ) (r : Bool) → Returned k old new r → r ≡ true → (w : ℕ) × (lookup (nat_eq k) old.entries ≡ Some w) × Front k old new w
known k old new r returned is = when_known (lookup (nat_eq k) old.entries) r (new ≡ old) (Front k old new) returned is

unknown : (k : ℕ) (old new : LruCache ℕ ℕ) (r : Bool) → Returned k old new r → r ≡ false → (lookup (nat_eq k) old.entries ≡ None) × (new ≡ old)
unknown k old new r returned is = when_unknown (lookup (nat_eq k) old.entries) r (new ≡ old) (Front k old new) returned is

few : (o : Option ℕ) → unwrap_or o 0 + 1 < 4294967296 → IfSome o (λ w. w + 1 < 4294967296)
few None below = tt
few (Some w) below = below

pub one_more-requires : goal.one_more-requires
one_more-requires c =
    let small : writes_of c.args.extent.0 (active_of c.self.inside.active.entries) + 1 < 4294967296 = rw (ap (λ s. s.active) c.self.view_is) c.requires in
    few (lookup (nat_eq c.args.extent.0) c.self.inside.active.entries) (omega (arith, small, writes-lookup c.args.extent.0 c.self.inside.active.entries))

pub invariant_of-self : goal.invariant_of-self
invariant_of-self c =
    let is = known c.args.extent.0 c.self.inside.active c.one_more.new.active c.one_more.result c.one_more.ensures c.if-one_more.true in
    let long = length-removed c.args.extent.0 c.self.inside.active.entries (ap is_some is.1) in
    rw is.2 (c.self.invariant.0, c.self.invariant.1, omega (arith, long, c.self.invariant.2))

pub returns-then-one_more-clause-begun : goal.returns-then-one_more-clause-begun
returns-then-one_more-clause-begun c =
    let is = known c.args.extent.0 c.self.inside.active c.one_more.new.active c.one_more.result c.one_more.ensures c.if-one_more.true in
    rw (is.2, ← c.self.view_is) (begun-known c.self.inside.slots c.args.extent.0 c.self.inside.active.entries is.0 is.1)

pub returns-then-one_more-clause-full : goal.returns-then-one_more-clause-full
returns-then-one_more-clause-full c =
    let is = known c.args.extent.0 c.self.inside.active c.one_more.new.active c.one_more.result c.one_more.ensures c.if-one_more.true in
    let can : can_begin c.args.extent.0 c.args.self.now ≡ true =
    rw (← c.self.view_is) (can-known c.self.inside.slots c.args.extent.0 c.self.inside.active.entries is.0 is.1) in
    (λ e. absurd (cc), λ e. absurd (cc))

pub invariant_of-self-then-len-self : goal.invariant_of-self-then-len-self
invariant_of-self-then-len-self c =
    let no = unknown c.args.extent.0 c.self.inside.active c.one_more.new.active c.one_more.result c.one_more.ensures c.if-one_more.false in
    let len = rw no.1 at c.len.ensures.len in
    let new = rw no.1 at c.in_ok-put.ensures.entries
    ∙ ap (λ es. lru_cache es c.self.inside.active.cap)
    (put-new c.self.inside.active c.args.extent.0 1 c.self.inside.slots c.self.invariant.1 c.self.invariant.2 no.0) in
    rw new (c.self.invariant.0, c.self.invariant.1, omega (arith, len))

pub returns-then-len-self-clause-begun : goal.returns-then-len-self-clause-begun
returns-then-len-self-clause-begun c =
    let no = unknown c.args.extent.0 c.self.inside.active c.one_more.new.active c.one_more.result c.one_more.ensures c.if-one_more.false in
    let len = rw no.1 at c.len.ensures.len in
    let new = rw no.1 at c.in_ok-put.ensures.entries
    ∙ ap (λ es. lru_cache es c.self.inside.active.cap)
    (put-new c.self.inside.active c.args.extent.0 1 c.self.inside.slots c.self.invariant.1 c.self.invariant.2 no.0) in
    rw (new, ← c.self.view_is) (begun-free c.self.inside.slots c.args.extent.0 c.self.inside.active.entries no.0 (omega (arith, len)))

pub returns-in_default-clause-full : goal.returns-in_default-clause-full
returns-in_default-clause-full c =
    let no = unknown c.args.extent.0 c.self.inside.active c.one_more.new.active c.one_more.result c.one_more.ensures c.if-one_more.false in
    let len = rw no.1 at c.len.ensures.len in
    let nothing : oldest_idle (active_of c.self.inside.active.entries) ≡ None = sym (rw no.1 at c.in_default.ensures) in (
      λ e. rw (← c.self.view_is) (can-full c.self.inside.slots c.args.extent.0 c.self.inside.active.entries no.0 (omega (arith, len)) ∙ ap is_some nothing),
      λ e. refl,
    )

pub invariant_of-self-2 : goal.invariant_of-self-2
invariant_of-self-2 c =
    let no = unknown c.args.extent.0 c.self.inside.active c.one_more.new.active c.one_more.result c.one_more.ensures c.if-one_more.false in
    let len = rw no.1 at c.len.ensures.len in
    let oldest : oldest_idle (active_of c.self.inside.active.entries) ≡ Some c.in-Some.idle = sym (rw no.1 at c.in-Some.ensures) in
    let other = other_key c.self.inside.slots c.args.extent.0 c.self.inside.active.entries no.0 (omega (arith, len)) c.in-Some.idle oldest in
    let new = rw no.1 at c.in_ok-put-2.ensures.entries
    ∙ ap (λ es. lru_cache es c.self.inside.active.cap)
    (put-new c.self.inside.active c.args.extent.0 1 c.self.inside.slots c.self.invariant.1 c.self.invariant.2 no.0) in
    let long = length-removed c.in-Some.idle c.self.inside.active.entries (active-lookup c.in-Some.idle c.self.inside.active.entries
    ∙ oldest-active c.in-Some.idle (active_of c.self.inside.active.entries) oldest) in
    rw (c.pop.ensures.entries, new, other) (c.self.invariant.0, c.self.invariant.1, omega (arith, long, c.self.invariant.2))

pub returns-clause-begun : goal.returns-clause-begun
returns-clause-begun c =
    let no = unknown c.args.extent.0 c.self.inside.active c.one_more.new.active c.one_more.result c.one_more.ensures c.if-one_more.false in
    let len = rw no.1 at c.len.ensures.len in
    let distinct = rw no.1 at c.len.ensures.valid.0 in
    let oldest : oldest_idle (active_of c.self.inside.active.entries) ≡ Some c.in-Some.idle = sym (rw no.1 at c.in-Some.ensures) in
    let new = rw no.1 at c.in_ok-put-2.ensures.entries
    ∙ ap (λ es. lru_cache es c.self.inside.active.cap)
    (put-new c.self.inside.active c.args.extent.0 1 c.self.inside.slots c.self.invariant.1 c.self.invariant.2 no.0) in
    rw (c.pop.ensures.entries, new, ← c.self.view_is)
    (begun-full c.self.inside.slots c.args.extent.0 c.self.inside.active.entries no.0 (omega (arith, len)) c.in-Some.idle oldest distinct)
