-- What is written to the entry that was brought to the front.
use Rattle.std.proofs.Common.{◌≡◌, ◌+◌, Some, refl, sym, ap, nat_eq}
use Rattle.std.specs.Map.{lookup}
use Rattle.lru.specs.LruCache.{lru_cache}
use Rattle.activitylog.proofs.Entries.{mut-known}
use Rattle.activitylog.proofs.log.one_more.Goals as goal

pub returns : goal.returns
returns c =
    let has : lookup (nat_eq c.args.extent) c.args.active.now.entries ≡ Some c.in-Some.writes.now = sym c.in-Some.ensures.value in
    let new = mut-known c.args.extent (c.in-Some.writes.now + 1) c.in-Some.writes.now c.args.active.now.entries has in
    rw has (refl, ap (λ es. lru_cache es c.args.active.now.cap) new)
