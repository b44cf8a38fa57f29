-- What is waited for after a step: at least one byte, and of a part that is held no more than 32 MiB.
use Rattle.std.proofs.Common.{◌≡◌, ◌≢◌, ℕ, ◌+◌, ◌<◌, ◌≤◌, Bool, true, false, cond, eqb, List, [], length, Option, Some, None, Result, Ok, Err, refl, ap, subst}
use Rattle.std.proofs.Common.{arith}
use Rattle.std.specs.Prelude.{nat_lt, ◌*◌, not, ◌&&◌, ◌==◌}
use Rattle.std.proofs.lemmas.Bool.{eqb-true, eqb-false}
use Rattle.std.proofs.lemmas.Bool.Decides.{nat_tests}
use Rattle.blocks.specs.declared.refusal.Refusal.{Refusal}
use Rattle.packets.specs.Numbers.{number_in}
use Rattle.nbd.specs.declared.command.NbdCommand.{NbdCommand}
use Rattle.nbd.specs.declared.command.NbdCommand.TheVariants as command
use Rattle.nbd.specs.declared.errno.Errno.{Errno}
use Rattle.nbd.specs.declared.errno.Errno.TheVariants.{Invalid, NotSupported, Overflow}
use Rattle.nbd.specs.declared.header.RequestHeader.{RequestHeader}
use Rattle.nbd.specs.declared.options.Next.{Next}
use Rattle.nbd.specs.declared.options.Next.TheVariants.{Negotiate, Transmit, Close}
use Rattle.nbd.specs.declared.phase.Part.{Part}
use Rattle.nbd.specs.declared.phase.Part.TheVariants as part
use Rattle.nbd.specs.declared.phase.Phase.{Phase}
use Rattle.nbd.specs.declared.phase.Phase.TheVariants as phase
use Rattle.nbd.specs.declared.phase.Refused.{Refused}
use Rattle.nbd.specs.declared.phase.Refused.TheVariants as refused
use Rattle.nbd.specs.Exports.{Exported, export_now}
use Rattle.nbd.specs.Judging.{command_at, may_have, is_fast, is_long, past_end, judged_range, judged_as, judged_flush, judged}
use Rattle.nbd.specs.Machine.{IsDue, Waits}
use Rattle.nbd.specs.Options.{Replied, option_magic, option_replied}
use Rattle.nbd.specs.Requests.{header_at}
use Rattle.nbd.specs.Steps.{wanted, Stepped, phase_after, after_reply, option_begins, payload_length, refuses, begins, after_header, step, skipped}

-- what a step waits for, on the terms that it sets
abbrev pub StepWaits : Exported → Stepped → Type 0
StepWaits e s = Waits (export_now e s.terms) s.phase []

-- the two ways of a test
cond_waits : (e : Exported) (b : Bool) (x y : Stepped) → (b ≡ true → StepWaits e x) → (b ≡ false → StepWaits e y) → StepWaits e (cond b x y)
cond_waits e true x y hx hy = hx refl
cond_waits e false x y hx hy = hy refl

next_waits : (e : Exported) (no_zeroes : Bool) (n : Next) → Waits e (phase_after no_zeroes n) []
next_waits e no_zeroes Negotiate = (omega arith, tt)
next_waits e no_zeroes Transmit = (omega arith, tt)
next_waits e no_zeroes Close = refl

reply_waits : (e : Exported) (no_zeroes : Bool) (a : Replied) → StepWaits e (after_reply no_zeroes a)
reply_waits e no_zeroes a = next_waits (export_now e a.terms) no_zeroes a.next

-- a number that is not 0
some : (n : ℕ) → eqb n 0 ≡ false → 0 < n
some n h = let no = eqb-false n 0 h in omega (arith, no)

within : (n : ℕ) → nat_lt 8192 n ≡ false → n ≤ 8192
within n h = grind (arith, nat_tests)

option_waits : (e : Exported) (no_zeroes : Bool) (option length : ℕ) → StepWaits e (option_begins e no_zeroes option length)
option_waits e no_zeroes option length =
    cond_waits e (eqb length 0) _ _ (λ _. reply_waits e no_zeroes (option_replied e no_zeroes option [])) (λ long.
    cond_waits e (nat_lt 8192 length) _ _
    (λ _. cond_waits e (eqb option 1) _ _ (λ _. refl) (λ _. (some length long, refl)))
    (λ short. (some length long, within length short)))

-- ---- a request that is served

-- a test that let a request through
passed : (b : Bool) (x : Errno) (r : Result NbdCommand Errno) (c : NbdCommand) → cond b (Err x) r ≡ Ok c → (b ≡ false) × (r ≡ Ok c)
passed true x r c h = absurd cc
passed false x r c h = (refl, h)

abbrev served : NbdCommand → Result NbdCommand Errno
served c = Ok c

served_is : (c d : NbdCommand) → served c ≡ served d → c ≡ d
served_is c d h = cc

refused_is : (x : Errno) (c : NbdCommand) → Err x ≡ served c → ⊥
refused_is x c h = cc

second : (a b : Bool) → not (a && b) ≡ false → b ≡ true
second true true h = refl
second true false h = absurd cc
second false b h = absurd cc

pub not_above : (a b : ℕ) → nat_lt a b ≡ false → b ≤ a
not_above a b h = grind (arith, nat_tests)

-- what is known of a request for blocks that is served
pub record IsServed (e : Exported) (c : NbdCommand) (h : RequestHeader) : Type 0 where
  pub some : nat_lt 0 h.length ≡ true
  pub short : is_long c h.length ≡ false
  pub inside : h.offset + h.length ≤ 4096 * e.blocks

pub range_served : (e : Exported) (c d : NbdCommand) (h : RequestHeader) → judged_range e c h ≡ Ok d → IsServed e c h × (c ≡ d)
range_served e c d h is =
    let p0 = passed (not (may_have e.terms c h.flags && nat_lt 0 h.length)) Invalid _ d is in
    let p1 = passed (is_long c h.length) Overflow _ d p0.1 in
    let p2 = passed (nat_lt (4096 * e.blocks) (h.offset + h.length)) (past_end c) _ d p1.1 in
    let p3 = passed (is_fast h.flags) NotSupported (Ok c) d p2.1 in
    (record { some = second _ _ p0.0; short = p1.0; inside = not_above _ _ p2.0 }, served_is c d p3.1)

pub first_true : (a b : Bool) → a && b ≡ true → (a ≡ true) × (b ≡ true)
first_true true b h = (refl, h)
first_true false b h = absurd cc

ok_taken : (b : Bool) (c d : NbdCommand) → cond b (Ok c) (Err Invalid) ≡ Ok d → (b ≡ true) × (c ≡ d)
ok_taken true c d h = (refl, served_is c d h)
ok_taken false c d h = absurd (refused_is Invalid d h)

-- what is known of a request that is served with this command
abbrev pub ServedAs : Exported → NbdCommand → RequestHeader → Type 0
ServedAs e command.Disconnect h = Unit {0}
ServedAs e command.Flush h = (h.offset ≡ 0) × (h.length ≡ 0)
ServedAs e c h = IsServed e c h

flush_served : (e : Exported) (h : RequestHeader) (d : NbdCommand) → judged_flush e h ≡ Ok d → (command.Flush ≡ d) × ServedAs e d h
flush_served e h d is =
    let p = ok_taken (may_have e.terms command.Flush h.flags && ((h.offset == 0) && (h.length == 0))) command.Flush d is in
    let q = first_true _ _ (first_true _ _ p.0).1 in
    let zeros : ServedAs e command.Flush h = (eqb-true _ _ q.0, eqb-true _ _ q.1) in
    (p.1, subst (λ (x : NbdCommand). ServedAs e x h) p.1 zeros)

-- BLOCK_STATUS is served on terms that have its context
status_taken : (e : Exported) (h : RequestHeader) (b : Bool) (d : NbdCommand) → cond b (judged_range e command.BlockStatus h) (Err Invalid) ≡ Ok d
    → IsServed e command.BlockStatus h × (command.BlockStatus ≡ d)
status_taken e h true d is = range_served e command.BlockStatus d h is
status_taken e h false d is = absurd (refused_is Invalid d is)

-- a request that is served has the command of its number, and lies inside the device
pub served_as : (e : Exported) (o : Option NbdCommand) (h : RequestHeader) (d : NbdCommand) → judged_as e o h ≡ Ok d → (o ≡ Some d) × ServedAs e d h
served_as e None h d is = absurd (refused_is Invalid d is)
served_as e (Some command.Disconnect) h d is =
    let same = served_is command.Disconnect d is in
    let nothing : ServedAs e command.Disconnect h = tt in
    (ap (λ (x : NbdCommand). Some x) same, subst (λ (x : NbdCommand). ServedAs e x h) same nothing)
served_as e (Some command.Flush) h d is = let p = flush_served e h d is in (ap (λ (x : NbdCommand). Some x) p.0, p.1)
served_as e (Some command.BlockStatus) h d is =
    let p = status_taken e h e.terms.allocation d is in
    (ap (λ (x : NbdCommand). Some x) p.1, subst (λ (x : NbdCommand). ServedAs e x h) p.1 p.0)
served_as e (Some command.Read) h d is =
    let p = range_served e command.Read d h is in (ap (λ (x : NbdCommand). Some x) p.1, subst (λ (x : NbdCommand). ServedAs e x h) p.1 p.0)
served_as e (Some command.Write) h d is =
    let p = range_served e command.Write d h is in (ap (λ (x : NbdCommand). Some x) p.1, subst (λ (x : NbdCommand). ServedAs e x h) p.1 p.0)
served_as e (Some command.Trim) h d is =
    let p = range_served e command.Trim d h is in (ap (λ (x : NbdCommand). Some x) p.1, subst (λ (x : NbdCommand). ServedAs e x h) p.1 p.0)
served_as e (Some command.WriteZeroes) h d is =
    let p = range_served e command.WriteZeroes d h is in (ap (λ (x : NbdCommand). Some x) p.1, subst (λ (x : NbdCommand). ServedAs e x h) p.1 p.0)

pub above_none : (n : ℕ) → nat_lt 0 n ≡ true → 0 < n
above_none n h = grind (arith, nat_tests)

-- a payload that is held has at least one byte, and at most 32 MiB
pub payload_bounded : (e : Exported) (h : RequestHeader) → judged e h ≡ Ok command.Write → (0 < h.length) × (h.length ≤ 33554432)
unfolding judged
payload_bounded e h is =
    let s = (served_as e (command_at h.kind) h command.Write is).1 in
    (above_none h.length s.some, not_above 33554432 h.length s.short)

-- the range of a request that is given out ends below 2^64
range_ends : (e : Exported) (c : NbdCommand) (h : RequestHeader) → IsServed e c h → e.blocks < 4294967296 → h.offset + h.length < 18446744073709551616
range_ends e c h s few = omega (arith, s.inside, few)

ends_as : (e : Exported) (h : RequestHeader) (c : NbdCommand) → ServedAs e c h → c ≢ command.Disconnect → e.blocks < 4294967296
    → h.offset + h.length < 18446744073709551616
ends_as e h command.Read s stays few = range_ends e command.Read h s few
ends_as e h command.Write s stays few = range_ends e command.Write h s few
ends_as e h command.Disconnect s stays few = absurd (stays refl)
ends_as e h command.Flush s stays few = omega (arith, s.0, s.1)
ends_as e h command.Trim s stays few = range_ends e command.Trim h s few
ends_as e h command.WriteZeroes s stays few = range_ends e command.WriteZeroes h s few
ends_as e h command.BlockStatus s stays few = range_ends e command.BlockStatus h s few

pub given_ends : (e : Exported) (h : RequestHeader) (c : NbdCommand) → judged e h ≡ Ok c → c ≢ command.Disconnect → e.blocks < 4294967296
    → h.offset + h.length < 18446744073709551616
unfolding judged
given_ends e h c is stays few = ends_as e h c (served_as e (command_at h.kind) h c is).1 stays few

refuses_waits : (e : Exported) (h : RequestHeader) (errno : Errno) → StepWaits e (refuses e h errno)
refuses_waits e h errno =
    cond_waits e (eqb (payload_length h) 0) _ _ (λ _. (omega arith, tt)) (λ more. (some (payload_length h) more, refl))

begins_waits : (of : ℕ) (e : Exported) (h : RequestHeader) (r : Result NbdCommand Errno) → judged e h ≡ r → StepWaits e (begins of e h r)
begins_waits of e h (Ok command.Read) is = (omega arith, tt)
begins_waits of e h (Ok command.Write) is = ((payload_bounded e h is).0, is)
begins_waits of e h (Ok command.Disconnect) is = refl
begins_waits of e h (Ok command.Flush) is = (omega arith, tt)
begins_waits of e h (Ok command.Trim) is = (omega arith, tt)
begins_waits of e h (Ok command.WriteZeroes) is = (omega arith, tt)
begins_waits of e h (Ok command.BlockStatus) is = (omega arith, tt)
begins_waits of e h (Err errno) is = refuses_waits e h errno

pub header_waits : (of : ℕ) (e : Exported) (r : Result RequestHeader Refusal) → StepWaits e (after_header of e r)
header_waits of e (Ok h) = begins_waits of e h (judged e h) refl
header_waits of e (Err refusal) = refl

-- ---- all

pub step_waits : (of : ℕ) (e : Exported) (p : Part) (bytes : List ℕ) → StepWaits e (step of e p bytes)
unfolding step
step_waits of e part.ClientFlags bytes = cond_waits e (nat_lt (number_in 4 0 bytes) 4) _ _ (λ _. (omega arith, tt)) (λ _. refl)
step_waits of e (part.Option no_zeroes) bytes =
    cond_waits e (eqb (number_in 8 0 bytes) option_magic) _ _ (λ _. option_waits e no_zeroes (number_in 4 8 bytes) (number_in 4 12 bytes)) (λ _. refl)
step_waits of e (part.OptionData no_zeroes option length) bytes = reply_waits e no_zeroes (option_replied e no_zeroes option bytes)
step_waits of e part.Request bytes = header_waits of e (header_at bytes)
step_waits of e (part.Payload h) bytes = (omega arith, tt)

pub skipped_waits : (e : Exported) (r : Refused) → StepWaits e (skipped r)
unfolding skipped
skipped_waits e (refused.LongOption no_zeroes option) = (omega arith, tt)
skipped_waits e (refused.Write cookie errno) = (omega arith, tt)

-- no part is longer than 32 MiB
pub due_bounded : (e : Exported) (p : Part) → IsDue e p → wanted p ≤ 33554432
due_bounded e part.ClientFlags due = omega arith
due_bounded e (part.Option no_zeroes) due = omega arith
due_bounded e (part.OptionData no_zeroes option length) due = omega (arith, due)
due_bounded e part.Request due = omega arith
due_bounded e (part.Payload h) due = (payload_bounded e h due).1

pub held_bounded : (e : Exported) (q : Phase) (held : List ℕ) → Waits e q held → length held ≤ 28 + 33554432
held_bounded e (phase.Gather p) held waits = omega (arith, waits.0, due_bounded e p waits.1)
held_bounded e (phase.Skip left r) held waits = omega (arith, ap length waits.1)
held_bounded e phase.Closed held waits = omega (arith, ap length waits)
