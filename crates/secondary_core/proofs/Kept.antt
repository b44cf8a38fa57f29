-- What is always true of a secondary stays so.
use Rattle.std.proofs.Common.{ℕ, suc, ◌≡◌, ◌+◌, ◌<◌, ◌≤◌, List, [], ◌∷◌, ◌++◌, length, Option, Some, None, true, refl, sym, ◌∙◌, ap, subst, arith}
use Rattle.std.specs.Prelude.{IfSome, option_map, option_to_list}
use Rattle.std.specs.List.{AllByRecursion}
use Rattle.std.proofs.lemmas.List.{length-append}
use Rattle.blocks.specs.declared.settings.Settings.{Settings}
use Rattle.model.specs.Frames.{Packet}
use Rattle.model.specs.Stream.{StreamItem, WriteItem, ResyncItem, BarrierItem, SyncUuidItem, UuidsItem, contents_of, first_of}
use Rattle.peerdisk.specs.Pending.{PeerDiskState, Pending, is_pending, without}
use Rattle.peerdisk.proofs.Pendings.{all-push, all-without}
use Rattle.peerdisk.proofs.Flags.{length-flags}
use Rattle.secondary_protocol.specs.Core.{Intake, and_item, answers}
use Rattle.secondary_core.specs.Connections.{HasRoom, IsServed, acknowledged}
use Rattle.secondary_core.specs.Outboxes.{OutboxState, acknowledging}
use Rattle.secondary_core.specs.State.{IsOf, IsPending}
use Rattle.secondary_core.specs.declared.connection.Connection.{Connection}
use Rattle.secondary_core.proofs.Barriers.{counts}
use Rattle.secondary_core.proofs.Places.{of-more, one_less}

-- at most one
pub one_most : {X : Type 0} (o : Option X) → length (option_to_list o) ≤ 1
one_most None = omega arith
one_most (Some x) = omega arith

-- What comes due is served.
pub served : (new : List Packet) (ps : List (Pending StreamItem)) (barriers : ℕ) (o p : OutboxState) → p ≡ acknowledging ps (record o { due = o.due ++ new })
    → answers ps p.answered p.sizes ≡ [] → length o.due + length new + length o.sizes + length ps ≤ o.answers
    → o.answered + length o.sizes ≡ barriers → IsServed ps barriers p
served new ps barriers o p same all room ended =
    let count = counts ps (record o { due = o.due ++ new }) in
    subst (IsServed ps barriers) (sym same) (record {
      ended = count.epochs ∙ ended;
      answered = ap (λ (p : OutboxState). answers ps p.answered p.sizes) (sym same) ∙ all;
      room = omega (arith, count.due, length-append o.due new, room);
    })

-- The room for one frame more is still there after an item that was applied.
pub room-after : (new : List Packet) (ps qs : List (Pending StreamItem)) (o : Option Connection) → length new + length qs ≤ length ps
    → IfSome o (λ c. HasRoom ps c.outbox) → IfSome (option_map (acknowledged new qs) o) (λ c. HasRoom qs c.outbox)
room-after new ps qs None less room = tt
room-after new ps qs (Some c) less room =
    let count = counts qs (record c.outbox { due = c.outbox.due ++ new }) in
    record {
      answers = omega (arith, count.due, length-append c.outbox.due new, room.answers);
      epochs = omega (arith, count.fewer, room.epochs);
    }

-- An item is applied.
pub applied : (settings : Settings) (inbox : Intake) (c d : PeerDiskState StreamItem) (n place : ℕ) → IsPending settings inbox c n
    → is_pending place c.pending ≡ true → d ≡ record c { pending = without place c.pending; reach = d.reach } → IsPending settings inbox d (n + 1)
applied settings inbox c d n place is there same =
    let left : d.pending ≡ without place c.pending = ap (λ (d : PeerDiskState StreamItem). d.pending) same in
    let less : length d.pending + 1 ≡ length c.pending = ap (λ (ps : List (Pending StreamItem)). length ps + 1) left ∙ one_less place c.pending there in
    record {
      limit = ap (λ (d : PeerDiskState StreamItem). d.limit) same ∙ is.limit;
      size = is.size;
      few = omega (arith, less, is.few);
      pending = subst (AllByRecursion (IsOf settings.blocks inbox)) (sym left) (all-without (IsOf settings.blocks inbox) place c.pending is.pending);
      counted = omega (arith, less, is.counted);
    }

-- what an item with blocks changes of what was taken
record More (t u : Intake) : Type 0 where
  places : u.places ≡ suc t.places
  barriers : u.barriers ≡ t.barriers
  blocks : length u.blocks ≡ length t.blocks

more : (item : StreamItem) (t : Intake) → 0 < length (contents_of item) → More t (and_item item t)
more (WriteItem write) t some = record { places = refl; barriers = refl; blocks = length-flags (length t.blocks) _ }
more (ResyncItem block contents) t some = record { places = refl; barriers = refl; blocks = length-flags (length t.blocks) _ }
more (BarrierItem epoch) t some = absurd (omega (arith, some))
more (SyncUuidItem word) t some = absurd (omega (arith, some))
more (UuidsItem tuple) t some = absurd (omega (arith, some))

pub same-barriers : (item : StreamItem) (t : Intake) → 0 < length (contents_of item) → (and_item item t).barriers ≡ t.barriers
same-barriers item t some = (more item t some).barriers

-- An item with blocks is taken.
pub admitted : (settings : Settings) (item : StreamItem) (t u : Intake) (c d : PeerDiskState StreamItem) (n : ℕ) → IsPending settings t c n
    → length c.pending < settings.pending → 0 < length (contents_of item) → first_of item + length (contents_of item) ≤ settings.blocks
    → u ≡ and_item item t
    → d ≡ record c { pending = c.pending ++ record { place = t.places; epoch = suc t.barriers; item = item } ∷ []; reach = d.reach }
    → IsPending settings u d n
admitted settings item t u c d n is few some inside taken same =
    let last : Pending StreamItem = record { place = t.places; epoch = suc t.barriers; item = item } in
    let m : More t u = subst (More t) (sym taken) (more item t some) in
    let left : d.pending ≡ c.pending ++ last ∷ [] = ap (λ (d : PeerDiskState StreamItem). d.pending) same in
    let longer : length d.pending ≡ length c.pending + 1 = ap length left ∙ length-append c.pending (last ∷ []) in
    let old : AllByRecursion (IsOf settings.blocks u) c.pending = of-more settings.blocks t u c.pending (omega (arith, m.places))
    (omega (arith, m.barriers)) is.pending in
    let here : IsOf settings.blocks u last = record { place = omega (arith, m.places); epoch = omega (arith, m.barriers); inside = inside } in
    record {
      limit = ap (λ (d : PeerDiskState StreamItem). d.limit) same ∙ is.limit;
      size = m.blocks ∙ is.size;
      few = omega (arith, longer, few);
      pending = subst (AllByRecursion (IsOf settings.blocks u)) (sym left) (all-push (IsOf settings.blocks u) last c.pending old here);
      counted = omega (arith, longer, m.places, is.counted);
    }

-- An item without blocks is taken.
pub taken : (settings : Settings) (t u : Intake) (c : PeerDiskState StreamItem) (n : ℕ) → IsPending settings t c n → u.places ≡ suc t.places
    → t.barriers ≤ u.barriers → length u.blocks ≡ length t.blocks → IsPending settings u c n
taken settings t u c n is places barriers blocks = record {
  limit = is.limit;
  size = blocks ∙ is.size;
  few = is.few;
  pending = of-more settings.blocks t u c.pending (omega (arith, places)) barriers is.pending;
  counted = omega (arith, places, is.counted);
}
