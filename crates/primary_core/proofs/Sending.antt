-- What is due, and what is left where it is sent.
use Rattle.std.proofs.Common.{ℕ, zero, suc, ◌≡◌, ◌<◌, ◌⊎◌, inr, nat_lt, Bool, true, false, List, [], ◌∷◌, length, drop, refl, sym, ◌∙◌, ap, arith, get_or}
use Rattle.std.proofs.Common.{Option, Some, None}
use Rattle.std.specs.Prelude.{Result, Ok, Err, IsOk, IfOk, IfErr, MatchResult, if◌then◌else◌, option_map, slice_get}
use Rattle.std.proofs.lemmas.Bool.{le-ltb}
use Rattle.blocks.specs.declared.command.Command.{Command}
use Rattle.blocks.specs.declared.outcome.What.TheVariants as what
use Rattle.blocks.specs.declared.refusal.Refusal.{Refusal}
use Rattle.blocks.specs.declared.refusal.Refusal.TheVariants.{NoMemory}
use Rattle.endpoint.specs.Meaning.{meaning}
use Rattle.packets.specs.declared.packet.Packet.{Packet}
use Rattle.packets.specs.Spelling.{IsSpellable}
use Rattle.handshakes.specs.Handshake.{hello_frame}
use Rattle.blocks.specs.declared.settings.Settings.{Settings}
use Rattle.blocks.specs.declared.tuple.Tuple.{Tuple}
use Rattle.model.specs.Frames as frames
use Rattle.model.specs.Frames.{command_of, frame_of}
use Rattle.model.specs.Stream.{StreamItem}
use Rattle.primary_protocol.specs.Core.{EndState, PrimaryState, with_end}
use Rattle.primary_protocol.specs.Transitions.{called, due, next_place, owed, pushed_item, sent_from}
use Rattle.primary_core.specs.Send.{sent_at, sent_now, sent_owed}

pub due-item : (s : PrimaryState) (e : EndState) (item : StreamItem) → s.end ≡ Some e → nat_lt e.hello_sent 3 ≡ false → slice_get e.unsent 0 ≡ Some item
    → due s ≡ Ok (frame_of (next_place e s) item)
due-item s e item is over first = rw (is, due) (rw (over, owed) (rw first refl))

pub first-item : (xs : List StreamItem) (x : StreamItem) → x ≡ get_or xs 0 x → 0 < length xs → slice_get xs 0 ≡ Some x
first-item [] x is some = absurd (omega arith)
first-item (y ∷ xs) x is some = ap (λ (z : StreamItem). Some z) (sym is)

pub due-returned : (r : Result Packet Refusal) (d : Result frames.Packet Refusal) (x : frames.Packet) → d ≡ Ok x → IfOk r (λ p. (meaning p ≡ x) × IsSpellable p)
    → IfErr r (λ e. e ≡ NoMemory)
    → MatchResult r (λ p. (d ≡ Ok (meaning p)) × IsSpellable p) (λ e. (d ≡ Err e) ⊎ ((e ≡ NoMemory) × IsOk d))
due-returned (Ok p) d x is ok err = (is ∙ ap (λ (y : frames.Packet). Ok y) (sym ok.0), ok.1)
due-returned (Err e) d x is ok err = inr (err, rw is refl)

-- the own hello is said
pub all-said : (n : ℕ) (settings : Settings) (own : Tuple) → hello_frame n settings own ≡ None → nat_lt n 3 ≡ false
all-said zero settings own none = absurd (cc)
all-said (suc zero) settings own none = absurd (cc)
all-said (suc (suc zero)) settings own none = absurd (cc)
all-said (suc (suc (suc n))) settings own none = le-ltb (suc (suc (suc n))) 3 (omega arith)

-- The first item that is due, at this place.
pub item-is-due : (s : PrimaryState) (e : EndState) (item : StreamItem) (place : ℕ) → s.end ≡ Some e → nat_lt e.hello_sent 3 ≡ false
    → item ≡ get_or e.unsent 0 item → 0 < length e.unsent → place ≡ next_place e s → due s ≡ Ok (frame_of place item)
item-is-due s e item place is over lookup some at =
    due-item s e item is over (first-item e.unsent item lookup some) ∙ ap (λ (k : ℕ). Ok (frame_of k item)) (sym at)

-- What is due and has blocks.

-- The stream.

-- the first item that is due is sent
pub sent-item : (s : PrimaryState) (e : EndState) (item : StreamItem) (command : Command) (place : ℕ) → s.end ≡ Some e → nat_lt e.hello_sent 3 ≡ false
    → slice_get e.unsent 0 ≡ Some item → ((k : ℕ) → command ≡ command_of (frame_of k item)) → place ≡ next_place e s
    → pushed_item (what.Frame command (Some place)) (Some item) (with_end (λ x. record x { unsent = drop 1 x.unsent }) s) ≡ sent_now s
sent-item s e item command place is over first names at =
    let there = next_place e s in
    let packet = frame_of there item in
    let rest : PrimaryState = record s { end = Some (record e { unsent = drop 1 e.unsent }) } in
    let due : owed e s ≡ Some packet = rw (over, owed) (ap (λ (o : Option StreamItem). option_map (frame_of there) o) first) in
    let sends : sent_from e (called e s packet) s ≡ pushed_item (what.Frame (command_of packet) (Some there)) (slice_get e.unsent 0) rest =
    rw (over, sent_from, called) refl in
    let now : sent_now s ≡ pushed_item (what.Frame (command_of packet) (Some there)) (Some item) rest =
    ap (sent_at s) is ∙ (ap (sent_owed e s) due ∙ (sends
    ∙ ap (λ (o : Option StreamItem). pushed_item (what.Frame (command_of packet) (Some there)) o rest) first)) in
    let popped : EndState → EndState = λ x. record x { unsent = drop 1 x.unsent } in
    ap (λ (o : Option EndState). pushed_item (what.Frame command (Some place)) (Some item) (record s { end = option_map popped o })) is
    ∙ (ap (λ (name : Command). pushed_item (what.Frame name (Some place)) (Some item) rest) (names there)
    ∙ (ap (λ (k : ℕ). pushed_item (what.Frame (command_of packet) (Some k)) (Some item) rest) at ∙ sym now))

pub is-write : (b : Bool) (n number : ℕ) (r : Option ℕ) → r ≡ (if b then Some n else None) → r ≡ Some number → (b ≡ true) × (number ≡ n)
is-write true n number r is some = (refl, cc)
is-write false n number r is some = absurd (cc)

pub no-write : (b : Bool) (n : ℕ) (r : Option ℕ) → r ≡ (if b then Some n else None) → r ≡ None → b ≡ false
no-write true n r is none = absurd (cc)
no-write false n r is none = refl
