-- Each request that is given out is inside the device, and of the connection that gave it.
use Rattle.std.proofs.Common.{◌≡◌, ◌≢◌, ◌⊎◌, ⊎_elim, ℕ, ◌+◌, ◌≤◌, Bool, true, false, cond, eqb, List, [], ◌∷◌, ◌++◌, length, Result, Ok, Err, refl, sym, ◌∙◌}
use Rattle.std.proofs.Common.{subst, arith}
use Rattle.std.specs.Prelude.{nat_lt}
use Rattle.std.specs.List.{AllByRecursion}
use Rattle.std.proofs.lemmas.Bool.{eqb-true, eqb-false}
use Rattle.std.proofs.lemmas.List.{length-append}
use Rattle.blocks.specs.declared.refusal.Refusal.{Refusal}
use Rattle.packets.specs.Numbers.{number_in}
use Rattle.nbd.specs.declared.command.NbdCommand.{NbdCommand}
use Rattle.nbd.specs.declared.command.NbdCommand.TheVariants as command
use Rattle.nbd.specs.declared.errno.Errno.{Errno}
use Rattle.nbd.specs.declared.header.RequestHeader.{RequestHeader}
use Rattle.nbd.specs.declared.phase.Part.{Part}
use Rattle.nbd.specs.declared.phase.Part.TheVariants as part
use Rattle.nbd.specs.declared.phase.Phase.{Phase}
use Rattle.nbd.specs.declared.phase.Phase.TheVariants as phase
use Rattle.nbd.specs.declared.phase.Refused.{Refused}
use Rattle.nbd.specs.declared.phase.Refused.TheVariants as refused
use Rattle.nbd.specs.Requested.{IsOf, Requested}
use Rattle.nbd.specs.Exports.{Exported}
use Rattle.nbd.specs.Inside.{IsInside}
use Rattle.nbd.specs.Judging.{command_at, is_long, judged_as, judged}
use Rattle.nbd.specs.Machine.{Machine, Fed, IsDue, Waits, with_byte, fed}
use Rattle.nbd.specs.Options.{option_magic}
use Rattle.nbd.specs.Requests.{header_at}
use Rattle.nbd.specs.Steps.{wanted, Stepped, option_begins, payload_length, begins, request_of, after_header, step, skipped}
use Rattle.nbd.proofs.Waiting.{IsServed, served_as, above_none, not_above, payload_bounded, step_waits, skipped_waits}

-- ---- one request

-- a request for bytes that is served
range_inside : (of : ℕ) (e : Exported) (c : NbdCommand) (h : RequestHeader) (payload : List ℕ) → c ≢ command.Disconnect
    → ((c ≡ command.Read) ⊎ (c ≡ command.Write) → h.length ≤ 33554432) → (c ≡ command.Write → length payload ≡ h.length)
    → (c ≢ command.Write → payload ≡ []) → IsServed e c h → IsInside e.blocks (request_of of e c h payload)
range_inside of e c h payload stays short whole other s = record {
  stays = stays;
  some = λ _. above_none h.length s.some;
  inside = s.inside;
  short = short;
  payload = whole;
  other = other;
}

-- a request without a payload whose length has no bound but the device's
unbounded_inside : (of : ℕ) (e : Exported) (c : NbdCommand) (h : RequestHeader) → c ≢ command.Disconnect → c ≢ command.Read → c ≢ command.Write
    → IsServed e c h → IsInside e.blocks (request_of of e c h [])
unbounded_inside of e c h stays reads writes s =
    range_inside of e c h [] stays (λ either. ⊎_elim (λ is. absurd (reads is)) (λ is. absurd (writes is)) either) (λ is. absurd (writes is)) (λ _. refl) s

-- FLUSH goes over no byte
flush_inside : (of : ℕ) (e : Exported) (h : RequestHeader) → (h.offset ≡ 0) × (h.length ≡ 0) → IsInside e.blocks (request_of of e command.Flush h [])
flush_inside of e h zeros = record {
  stays = λ same. cc;
  some = λ other. absurd (other refl);
  inside = omega (arith, zeros.0, zeros.1);
  short = λ either. ⊎_elim (λ is. absurd cc) (λ is. absurd cc) either;
  payload = λ same. absurd cc;
  other = λ _. refl;
}

cond_gives : (P : Requested → Type 0) (b : Bool) (x y : Stepped) → AllByRecursion P x.requests → AllByRecursion P y.requests
    → AllByRecursion P (cond b x y).requests
cond_gives P true x y hx hy = hx
cond_gives P false x y hx hy = hy

short_read : (h : RequestHeader) → is_long command.Read h.length ≡ false → h.length ≤ 33554432
short_read h is = not_above 33554432 h.length is

-- a request that follows its header at once
begins_inside : (of : ℕ) (e : Exported) (h : RequestHeader) (r : Result NbdCommand Errno) → judged_as e (command_at h.kind) h ≡ r
    → AllByRecursion (IsInside e.blocks) (begins of e h r).requests
begins_inside of e h (Ok command.Read) is =
    let s = (served_as e (command_at h.kind) h command.Read is).1 in
    (range_inside of e command.Read h [] (λ same. cc) (λ _. short_read h s.short) (λ same. absurd cc) (λ _. refl) s, tt)
begins_inside of e h (Ok command.Write) is = tt
begins_inside of e h (Ok command.Disconnect) is = tt
begins_inside of e h (Ok command.Flush) is = (flush_inside of e h (served_as e (command_at h.kind) h command.Flush is).1, tt)
begins_inside of e h (Ok command.Trim) is =
    (unbounded_inside of e command.Trim h (λ same. cc) (λ same. cc) (λ same. cc) (served_as e (command_at h.kind) h command.Trim is).1, tt)
begins_inside of e h (Ok command.WriteZeroes) is =
    (unbounded_inside of e command.WriteZeroes h (λ same. cc) (λ same. cc) (λ same. cc) (served_as e (command_at h.kind) h command.WriteZeroes is).1, tt)
begins_inside of e h (Ok command.BlockStatus) is =
    (unbounded_inside of e command.BlockStatus h (λ same. cc) (λ same. cc) (λ same. cc) (served_as e (command_at h.kind) h command.BlockStatus is).1, tt)
begins_inside of e h (Err errno) is = cond_gives (IsInside e.blocks) (eqb (payload_length h) 0) _ _ tt tt

header_inside : (of : ℕ) (e : Exported) (r : Result RequestHeader Refusal) → AllByRecursion (IsInside e.blocks) (after_header of e r).requests
unfolding judged
header_inside of e (Ok h) = begins_inside of e h (judged e h) refl
header_inside of e (Err refusal) = tt

-- a request that follows its payload
payload_inside : (of : ℕ) (e : Exported) (h : RequestHeader) (payload : List ℕ) → judged e h ≡ Ok command.Write → length payload ≡ h.length
    → IsInside e.blocks (request_of of e command.Write h payload)
unfolding judged
payload_inside of e h payload is whole =
    range_inside of e command.Write h payload (λ same. cc) (λ _. (payload_bounded e h is).1) (λ _. whole) (λ other. absurd (other refl))
    (served_as e (command_at h.kind) h command.Write is).1

option_gives : (P : Requested → Type 0) (e : Exported) (no_zeroes : Bool) (option bytes : ℕ)
    → AllByRecursion P (option_begins e no_zeroes option bytes).requests
option_gives P e no_zeroes option bytes =
    cond_gives P (eqb bytes 0) _ _ tt (cond_gives P (nat_lt 8192 bytes) _ _ (cond_gives P (eqb option 1) _ _ tt tt) tt)

-- what a step gives out
step_inside : (of : ℕ) (e : Exported) (p : Part) (bytes : List ℕ) → IsDue e p → length bytes ≡ wanted p
    → AllByRecursion (IsInside e.blocks) (step of e p bytes).requests
unfolding step
step_inside of e part.ClientFlags bytes due whole = cond_gives (IsInside e.blocks) (nat_lt (number_in 4 0 bytes) 4) _ _ tt tt
step_inside of e (part.Option no_zeroes) bytes due whole =
    cond_gives (IsInside e.blocks) (eqb (number_in 8 0 bytes) option_magic) _ _
    (option_gives (IsInside e.blocks) e no_zeroes (number_in 4 8 bytes) (number_in 4 12 bytes)) tt
step_inside of e (part.OptionData no_zeroes option length) bytes due whole = tt
step_inside of e part.Request bytes due whole = header_inside of e (header_at bytes)
step_inside of e (part.Payload h) bytes due whole = (payload_inside of e h bytes due whole, tt)

skipped_inside : (P : Requested → Type 0) (r : Refused) → AllByRecursion P (skipped r).requests
unfolding skipped
skipped_inside P (refused.LongOption no_zeroes option) = tt
skipped_inside P (refused.Write cookie errno) = tt

-- ---- whose a request is

begins_own : (of : ℕ) (e : Exported) (h : RequestHeader) (r : Result NbdCommand Errno) → AllByRecursion (IsOf of) (begins of e h r).requests
begins_own of e h (Ok command.Read) = (refl, tt)
begins_own of e h (Ok command.Write) = tt
begins_own of e h (Ok command.Disconnect) = tt
begins_own of e h (Ok command.Flush) = (refl, tt)
begins_own of e h (Ok command.Trim) = (refl, tt)
begins_own of e h (Ok command.WriteZeroes) = (refl, tt)
begins_own of e h (Ok command.BlockStatus) = (refl, tt)
begins_own of e h (Err errno) = cond_gives (IsOf of) (eqb (payload_length h) 0) _ _ tt tt

header_own : (of : ℕ) (e : Exported) (r : Result RequestHeader Refusal) → AllByRecursion (IsOf of) (after_header of e r).requests
header_own of e (Ok h) = begins_own of e h (judged e h)
header_own of e (Err refusal) = tt

-- each request that a step gives out is of the connection's number
step_own : (of : ℕ) (e : Exported) (p : Part) (bytes : List ℕ) → AllByRecursion (IsOf of) (step of e p bytes).requests
unfolding step
step_own of e part.ClientFlags bytes = cond_gives (IsOf of) (nat_lt (number_in 4 0 bytes) 4) _ _ tt tt
step_own of e (part.Option no_zeroes) bytes =
    cond_gives (IsOf of) (eqb (number_in 8 0 bytes) option_magic) _ _
    (option_gives (IsOf of) e no_zeroes (number_in 4 8 bytes) (number_in 4 12 bytes)) tt
step_own of e (part.OptionData no_zeroes option length) bytes = tt
step_own of e part.Request bytes = header_own of e (header_at bytes)
step_own of e (part.Payload h) bytes = (refl, tt)

-- ---- byte after byte

all_append : (P : Requested → Type 0) (xs ys : List Requested) → AllByRecursion P xs → AllByRecursion P ys → AllByRecursion P (xs ++ ys)
all_append P [] ys hx hy = hy
all_append P (x ∷ xs) ys hx hy = (hx.0, all_append P xs ys hx.1 hy)

-- the machine waits for what is due, and what it gave out is inside
pub record GoesOn (of : ℕ) (e : Exported) (f : Fed) : Type 0 where
  pub same : f.machine.of ≡ of
  pub blocks : f.machine.export.blocks ≡ e.blocks
  pub waits : Waits f.machine.export f.machine.phase f.machine.held
  pub inside : AllByRecursion (IsInside e.blocks) f.requests
  pub own : AllByRecursion (IsOf of) f.requests

cond_goes : (of : ℕ) (e : Exported) (b : Bool) (x y : Fed) → (b ≡ true → GoesOn of e x) → (b ≡ false → GoesOn of e y) → GoesOn of e (cond b x y)
cond_goes of e true x y hx hy = hx refl
cond_goes of e false x y hx hy = hy refl

byte_goes : (of : ℕ) (e : Exported) (q : Phase) (held : List ℕ) (b : ℕ) → Waits e q held → GoesOn of e (with_byte of e q held b)
byte_goes of e (phase.Gather p) held b waits =
    let longer : length (held ++ b ∷ []) ≡ length held + 1 = length-append held (b ∷ []) in
    cond_goes of e (eqb (length held + 1) (wanted p)) _ _
    (λ yes. record {
      same = refl;
      blocks = refl;
      waits = step_waits of e p (held ++ b ∷ []);
      inside = step_inside of e p (held ++ b ∷ []) waits.1 (longer ∙ eqb-true _ _ yes);
      own = step_own of e p (held ++ b ∷ []);
    })
    (λ no.
    let other = eqb-false _ _ no in
    record { same = refl; blocks = refl; waits = (omega (arith, other, longer, waits.0), waits.1); inside = tt; own = tt })
byte_goes of e (phase.Skip left r) held b waits =
    cond_goes of e (eqb left 1) _ _
    (λ yes. record {
      same = refl;
      blocks = refl;
      waits = skipped_waits e r;
      inside = skipped_inside (IsInside e.blocks) r;
      own = skipped_inside (IsOf of) r;
    })
    (λ no.
    let other = eqb-false _ _ no in
    record { same = refl; blocks = refl; waits = (omega (arith, other, waits.0), refl); inside = tt; own = tt })
byte_goes of e phase.Closed held b waits = record { same = refl; blocks = refl; waits = waits; inside = tt; own = tt }

pub fed_inside : (blocks : ℕ) (m : Machine) (bytes : List ℕ) → m.export.blocks ≡ blocks → Waits m.export m.phase m.held
    → AllByRecursion (IsInside blocks) (fed m bytes).requests
unfolding fed
fed_inside blocks m [] same waits = tt
fed_inside blocks m (b ∷ bs) same waits =
    let first = with_byte m.of m.export m.phase m.held b in
    let goes : GoesOn m.of m.export first = byte_goes m.of m.export m.phase m.held b waits in
    let inside : AllByRecursion (IsInside blocks) first.requests = subst (λ (x : ℕ). AllByRecursion (IsInside x) first.requests) same goes.inside in
    all_append (IsInside blocks) first.requests (fed first.machine bs).requests inside (fed_inside blocks first.machine bs (goes.blocks ∙ same) goes.waits)

-- what it gives out is of its own number
own_bytes : (of : ℕ) (m : Machine) (bytes : List ℕ) → m.of ≡ of → Waits m.export m.phase m.held → AllByRecursion (IsOf of) (fed m bytes).requests
unfolding fed
own_bytes of m [] same waits = tt
own_bytes of m (b ∷ bs) same waits =
    let first = with_byte m.of m.export m.phase m.held b in
    let goes : GoesOn m.of m.export first = byte_goes m.of m.export m.phase m.held b waits in
    let own : AllByRecursion (IsOf of) first.requests = subst (λ (x : ℕ). AllByRecursion (IsOf x) first.requests) same goes.own in
    all_append (IsOf of) first.requests (fed first.machine bs).requests own (own_bytes of first.machine bs (goes.same ∙ same) goes.waits)

pub fed_own : (m : Machine) (bytes : List ℕ) → Waits m.export m.phase m.held → AllByRecursion (IsOf m.of) (fed m bytes).requests
fed_own m bytes waits = own_bytes m.of m bytes refl waits
