-- Want of memory changes nothing: what holds where the tests of a call let it through, what a call for the next frame leaves, and
-- the tests by what they ask. (Those of a submission have a file of their own.)
use Rattle.std.proofs.Common.{ℕ, suc, ◌≡◌, ◌<◌, Bool, true, false, not, ◌&&◌, ◌||◌, List, [], ◌∷◌, ◌++◌, length, drop, Option, Some, None, is_none, refl, sym}
use Rattle.std.proofs.Common.{◌∙◌, ap, nat_lt, nat_le}
use Rattle.std.proofs.lemmas.Bool.{not-false, or_parts, leb-false}
use Rattle.blocks.specs.declared.tuple.Tuple.{Tuple}
use Rattle.blocks.specs.declared.refusal.Refusal.{Refusal}
use Rattle.blocks.specs.declared.refusal.Refusal.TheVariants.{StreamFull, NoMemory, NothingToDo, LinkFull, NotConnected, NothingThere, PendingFull}
use Rattle.blocks.specs.declared.refusal.Refusal.TheVariants.{UsedIdentifier, NotDrained}
use Rattle.blocks.specs.declared.outcome.Done.{Done}
use Rattle.blocks.specs.declared.outcome.Reply.{Reply}
use Rattle.blocks.specs.declared.outcome.Reply.TheVariants as reply
use Rattle.blocks.specs.declared.outcome.What.TheVariants as what
use Rattle.blocks.specs.declared.settings.Settings.{Settings}
use Rattle.model.specs.CallRefusals.{local_open_refuses}
use Rattle.model.specs.Contents.{BlockMap}
use Rattle.model.specs.Frames.{Received}
use Rattle.model.specs.Identifiers.{are_fresh}
use Rattle.model.specs.Refusals.{Test, first_refusal, done_with}
use Rattle.model.specs.Primary.{PrimaryHistory, primary_opening, primary_connection, with_primary_connection, frames_due, resync_runs, under_way, free_block}
use Rattle.model.specs.PrimarySteps.{succeeding, tested, known_tuples, open_primary, opened, open_tests, send_tests, sending, send, resync_tests}
use Rattle.model.specs.Acknowledgements.{take_frame, ack_in_tests, ack_in}
use Rattle.model.specs.Secondary.{SecondaryHistory, secondary_connection, with_secondary_connection, pending, answers_due}
use Rattle.model.specs.SecondarySteps.{tested_secondary, take_item, receive_tests, receive, ack_out_tests, answering_with, ack_out}
use Rattle.laws.specs.Statements.{is_refused_frame}
use Rattle.laws.proofs.Lists.Tests.{test-passed}

-- A test for memory comes after others.

-- the last test of a call that may want memory
abbrev pub memory_test : Bool → List Test
memory_test out_of_memory = (out_of_memory, NoMemory) ∷ []

-- the tests before the last
abbrev pub before_last : List Test → List Test
before_last [] = []
before_last (test ∷ []) = []
before_last (test ∷ next ∷ tests) = test ∷ before_last (next ∷ tests)

-- what one of them refuses is refused so whether or not memory is wanting
pub refused-alike : (tests more : List Test) (e : Refusal) → first_refusal (tests ++ (false, NoMemory) ∷ []) ≡ Some e → first_refusal (tests ++ more) ≡ Some e
refused-alike [] more e is = absurd (cc)
refused-alike ((true, refusal) ∷ tests) more e is = is
refused-alike ((false, refusal) ∷ tests) more e is = refused-alike tests more e is

-- nor do more tests change it
pub refused-on : (tests more : List Test) (e : Refusal) → first_refusal tests ≡ Some e → first_refusal (tests ++ more) ≡ Some e
refused-on [] more e is = absurd (cc)
refused-on ((true, refusal) ∷ tests) more e is = is
refused-on ((false, refusal) ∷ tests) more e is = refused-on tests more e is

-- and where none refuses, want of memory does
pub out-of-memory-last : (tests : List Test) → first_refusal (tests ++ (false, NoMemory) ∷ []) ≡ None
    → first_refusal (tests ++ (true, NoMemory) ∷ []) ≡ Some NoMemory
out-of-memory-last [] none = refl
out-of-memory-last ((true, refusal) ∷ tests) none = absurd (cc)
out-of-memory-last ((false, refusal) ∷ tests) none = out-of-memory-last tests none

-- An opening.

-- what its tests let through: words that are fresh, where no end is open
pub record MayOpen (h : PrimaryHistory) (sync loss : ℕ) : Type 0 where
  pub closed : (primary_connection h).closed ≡ true
  pub fresh : are_fresh sync loss (known_tuples h) ≡ true

pub may-open : (h : PrimaryHistory) (sync loss : ℕ) (out_of_memory : Bool) → first_refusal (open_tests h sync loss out_of_memory) ≡ None → MayOpen h sync loss
may-open h sync loss out_of_memory none =
    let one = test-passed (not (primary_connection h).closed) NotDrained (drop 1 (open_tests h sync loss out_of_memory)) none in
    let two = test-passed (not (are_fresh sync loss (known_tuples h))) UsedIdentifier (drop 2 (open_tests h sync loss out_of_memory)) one.1 in
    record { closed = not-false (primary_connection h).closed one.0; fresh = not-false (are_fresh sync loss (known_tuples h)) two.0 }

-- At the first opening no end is open and no connection was had: what it refuses are words that are not fresh, and want of memory.
pub first-open-refused : (sync loss : ℕ) (out_of_memory : Bool) (settings : Settings) (disk : BlockMap) (tuple : Tuple) (marks : ℕ → Bool) (e : Refusal)
    → (open_primary sync loss out_of_memory (primary_opening settings disk tuple marks)).0 ≡ reply.Refused e → local_open_refuses e ≡ true
first-open-refused sync loss out_of_memory settings disk tuple marks = go (are_fresh sync loss (tuple ∷ [])) out_of_memory
  where
    h : PrimaryHistory
    h = primary_opening settings disk tuple marks

    go : (fresh short : Bool) (e : Refusal)
        → (elim (first_refusal ((false, NotDrained) ∷ (not fresh, UsedIdentifier) ∷ (false, StreamFull) ∷ (short, NoMemory) ∷ [])) as
        (λ _. Reply × PrimaryHistory) [ Some first ↦ (reply.Refused first, h) | None ↦ succeeding what.Nothing (opened h sync loss) ]).0
        ≡ reply.Refused e → local_open_refuses e ≡ true
    go false short e is = let one : UsedIdentifier ≡ e = cc in ap local_open_refuses (sym one)
    go true true e is = let one : NoMemory ≡ e = cc in ap local_open_refuses (sym one)
    go true false e is = absurd (cc)

-- what is refused with memory is refused so without
pub open-refused : (h : PrimaryHistory) (sync loss : ℕ) (out_of_memory : Bool) (e : Refusal) → first_refusal (open_tests h sync loss false) ≡ Some e
    → first_refusal (open_tests h sync loss out_of_memory) ≡ Some e
open-refused h sync loss out_of_memory e is = refused-alike (before_last (open_tests h sync loss false)) ((out_of_memory, NoMemory) ∷ []) e is

-- and what is not wants it
pub open-out-of-memory : (h : PrimaryHistory) (sync loss : ℕ) → first_refusal (open_tests h sync loss false) ≡ None
    → first_refusal (open_tests h sync loss true) ≡ Some NoMemory
open-out-of-memory h sync loss none = out-of-memory-last (before_last (open_tests h sync loss false)) none

-- the tests, by what they ask
abbrev open_by : ℕ → ℕ → Bool → Bool → List Tuple → ℕ → List Test
open_by sync loss out_of_memory opened known connections =
    (opened, NotDrained) ∷ (not (are_fresh sync loss known), UsedIdentifier) ∷ (nat_le 4294967295 connections, StreamFull) ∷ (out_of_memory, NoMemory) ∷ []

-- whatever asks the same has the same tests
pub open-tests-by : (h : PrimaryHistory) (sync loss : ℕ) (out_of_memory opened : Bool) (known : List Tuple) (connections : ℕ)
    → opened ≡ not (primary_connection h).closed
    → known ≡ known_tuples h → connections ≡ length h.connections
    → open_by sync loss out_of_memory opened known connections ≡ open_tests h sync loss out_of_memory
open-tests-by h sync loss out_of_memory opened known connections opens knows counts = λ i. open_by sync loss out_of_memory (opens i) (knows i) (counts i)

-- Sending.

-- what the tests let through: an open end that owes a frame
pub record MaySend (h : PrimaryHistory) : Type 0 where
  pub is_open : (primary_connection h).closed ≡ false
  pub owes : (primary_connection h).pushed < length (frames_due h.settings (primary_connection h))

pub may-send : (h : PrimaryHistory) (room out_of_memory : Bool) → first_refusal (send_tests h room out_of_memory) ≡ None → MaySend h
may-send h room out_of_memory none =
    let one = test-passed (primary_connection h).closed NotConnected (drop 1 (send_tests h room out_of_memory)) none in
    let two = test-passed (nat_le (length (frames_due h.settings (primary_connection h))) (primary_connection h).pushed) NothingThere
    (drop 2 (send_tests h room out_of_memory)) one.1 in
    record { is_open = one.0; owes = leb-false (length (frames_due h.settings (primary_connection h))) (primary_connection h).pushed two.0 }

-- the same of a secondary's
pub record MayAnswer (h : SecondaryHistory) : Type 0 where
  pub is_open : (secondary_connection h).closed ≡ false
  pub owes : (secondary_connection h).pushed < length (answers_due h.settings (secondary_connection h))

pub may-answer : (h : SecondaryHistory) (room out_of_memory : Bool) → first_refusal (ack_out_tests h room out_of_memory) ≡ None → MayAnswer h
may-answer h room out_of_memory none =
    let one = test-passed (secondary_connection h).closed NotConnected (drop 1 (ack_out_tests h room out_of_memory)) none in
    let two = test-passed (nat_le (length (answers_due h.settings (secondary_connection h))) (secondary_connection h).pushed) NothingThere
    (drop 2 (ack_out_tests h room out_of_memory)) one.1 in
    record { is_open = one.0; owes = leb-false (length (answers_due h.settings (secondary_connection h))) (secondary_connection h).pushed two.0 }

-- a step by the tests of a push
abbrev pushes : {X : Type 0} → Bool → Bool → Bool → Bool → X → Reply × X → Reply × X
pushes {X} closed nothing out_of_memory room h done =
    elim (first_refusal ((closed, NotConnected) ∷ (nothing, NothingThere) ∷ (out_of_memory, NoMemory) ∷ (not room, LinkFull) ∷ [])) as
    (λ _. Reply × X) [ Some refusal ↦ (reply.Refused refusal, h) | None ↦ done ]

-- where the link's answer does not show in the reply, it does not matter
same-room : {X : Type 0} (closed nothing out_of_memory room other : Bool) (h : X) (done : Reply × X) (d : Done) (one : Reply) → done.0 ≡ reply.Ok d
    → one ≡ (pushes closed nothing out_of_memory room h done).0
    → ((x : Done) → one ≡ reply.Ok x → room ≡ other) → (one ≡ reply.Refused LinkFull → room ≡ other)
    → pushes closed nothing out_of_memory room h done ≡ pushes closed nothing out_of_memory other h done
same-room true nothing out_of_memory room other h done d one ok said accepted full = refl
same-room false true out_of_memory room other h done d one ok said accepted full = refl
same-room false false true room other h done d one ok said accepted full = refl
same-room false false false true other h done d one ok said accepted full = ap (λ b. pushes false false false b h done) (accepted d (said ∙ ok))
same-room false false false false other h done d one ok said accepted full = ap (λ b. pushes false false false b h done) (full said)

-- so for a primary
pub send-same-room : (h : PrimaryHistory) (out_of_memory room other : Bool) (one : Reply) → one ≡ (send room out_of_memory h).0
    → ((x : Done) → one ≡ reply.Ok x → room ≡ other) → (one ≡ reply.Refused LinkFull → room ≡ other) → send room out_of_memory h ≡ send other out_of_memory h
send-same-room h out_of_memory room other one said accepted full =
    same-room (primary_connection h).closed (nat_le (length (frames_due h.settings (primary_connection h))) (primary_connection h).pushed) out_of_memory room
    other h
    (succeeding (sending h) (with_primary_connection (λ c. record c { pushed = suc c.pushed }) h)) _ one refl said accepted full

-- and for a secondary
pub answer-same-room : (h : SecondaryHistory) (out_of_memory room other : Bool) (one : Reply) → one ≡ (ack_out room out_of_memory h).0
    → ((x : Done) → one ≡ reply.Ok x → room ≡ other) → (one ≡ reply.Refused LinkFull → room ≡ other)
    → ack_out room out_of_memory h ≡ ack_out other out_of_memory h
answer-same-room h out_of_memory room other one said accepted full =
    same-room (secondary_connection h).closed (nat_le (length (answers_due h.settings (secondary_connection h))) (secondary_connection h).pushed) out_of_memory
    room other h
    (reply.Ok (done_with (answering_with h)), with_secondary_connection (λ c. record c { pushed = suc c.pushed }) h) _ one refl said accepted full

-- A block of a resync.

-- what the tests let through after the first: a running resync with none under way, and a place for its block
pub record MayCopy (h : PrimaryHistory) : Type 0 where
  pub runs : resync_runs (primary_connection h) ≡ true
  pub alone : nat_lt 0 (length (under_way (primary_connection h))) ≡ false
  pub places : length (primary_connection h).stream < 4294967288

pub may-copy : (h : PrimaryHistory) (out_of_memory : Bool) → first_refusal (drop 1 (resync_tests h out_of_memory)) ≡ None → MayCopy h
may-copy h out_of_memory none =
    let one = test-passed (not (resync_runs (primary_connection h)) || (nat_lt 0 (length (under_way (primary_connection h))) || is_none (free_block h)))
    NothingToDo
    (drop 2 (resync_tests h out_of_memory)) none in
    let two = test-passed (nat_le 4294967288 (length (primary_connection h).stream)) StreamFull (drop 3 (resync_tests h out_of_memory)) one.1 in
    let parts = or_parts (not (resync_runs (primary_connection h))) (nat_lt 0 (length (under_way (primary_connection h))) || is_none (free_block h)) one.0 in
    record {
      runs = not-false (resync_runs (primary_connection h)) parts.0;
      alone = (or_parts (nat_lt 0 (length (under_way (primary_connection h)))) (is_none (free_block h)) parts.1).0;
      places = leb-false 4294967288 (length (primary_connection h).stream) two.0;
    }

-- where an end is open, too
pub may-copy-open : (h : PrimaryHistory) (out_of_memory : Bool) → first_refusal (resync_tests h out_of_memory) ≡ None
    → ((primary_connection h).closed ≡ false) × MayCopy h
may-copy-open h out_of_memory none =
    let one = test-passed (primary_connection h).closed NotConnected (drop 1 (resync_tests h out_of_memory)) none in (one.0, may-copy h out_of_memory one.1)

-- those after the first, by what they ask
abbrev copy_by : Bool → Bool → ℕ → List Test
copy_by out_of_memory busy places = (busy, NothingToDo) ∷ (nat_le 4294967288 places, StreamFull) ∷ (out_of_memory, NoMemory) ∷ []

-- whatever asks the same has the same tests
pub copy-tests-by : (h : PrimaryHistory) (out_of_memory busy : Bool) (places : ℕ)
    → busy ≡ (not (resync_runs (primary_connection h)) || (nat_lt 0 (length (under_way (primary_connection h))) || is_none (free_block h)))
    → places ≡ length (primary_connection h).stream → copy_by out_of_memory busy places ≡ drop 1 (resync_tests h out_of_memory)
copy-tests-by h out_of_memory busy places works long = λ i. copy_by out_of_memory (works i) (long i)

-- The next frame.

-- What holds of a primary that is left as it was, by a refusal of no frame, and of an open one that takes a frame, holds of the call.
pub ack-in-has : (P : Reply × PrimaryHistory → Type 0) (frame : Option Received) (out_of_memory : Bool) (h : PrimaryHistory)
    → ((refusal : Refusal) → is_refused_frame refusal ≡ false → P (reply.Refused refusal, h))
    → ((taken : Received) → frame ≡ Some taken → (primary_connection h).closed ≡ false → P (take_frame taken h)) → P (ack_in frame out_of_memory h)
ack-in-has P frame out_of_memory h refused takes = go (primary_connection h).closed (not (primary_connection h).begun && out_of_memory) refl
  where
    after : Option Received → Reply × PrimaryHistory
    after v = elim v [ None ↦ (reply.Refused NothingThere, h) | Some taken ↦ take_frame taken h ]

    by : (v : Option Received) → frame ≡ v → (primary_connection h).closed ≡ false → P (tested h ((is_none v, NothingThere) ∷ []) (λ _. after v))
    by None is standing = refused NothingThere refl
    by (Some taken) is standing = takes taken is standing

    go : (closed short : Bool) → (primary_connection h).closed ≡ closed
        → P (tested h ((closed, NotConnected) ∷ (short, NoMemory) ∷ (is_none frame, NothingThere) ∷ []) (λ _. after frame))
    go true short is = refused NotConnected refl
    go false true is = refused NoMemory refl
    go false false is = by frame refl is

-- the tests of an open end, by what they ask
abbrev take_by : Option Received → Bool → Bool → List Test
take_by frame out_of_memory begun = (not begun && out_of_memory, NoMemory) ∷ (is_none frame, NothingThere) ∷ []

-- whatever asks the same has the same tests
pub take-tests-by : (h : PrimaryHistory) (frame : Option Received) (out_of_memory begun : Bool) → begun ≡ (primary_connection h).begun
    → take_by frame out_of_memory begun ≡ drop 1 (ack_in_tests h frame out_of_memory)
take-tests-by h frame out_of_memory begun begins = λ i. take_by frame out_of_memory (begins i)

-- where memory is at hand, it takes the frame that is there
pub takes-there : (frame : Received) (begun : Bool) → first_refusal (take_by (Some frame) false begun) ≡ None
takes-there frame true = refl
takes-there frame false = refl

-- and so does the step
pub ack-in-takes : (frame : Received) (h : PrimaryHistory) → (primary_connection h).closed ≡ false → ack_in (Some frame) false h ≡ take_frame frame h
ack-in-takes frame h standing = go (primary_connection h).closed (primary_connection h).begun standing
  where
    go : (closed begun : Bool) → closed ≡ false
        → tested h ((closed, NotConnected) ∷ take_by (Some frame) false begun) (λ _. take_frame frame h) ≡ take_frame frame h
    go true begun is = absurd (cc)
    go false true is = refl
    go false false is = refl

-- one whose stream has not begun wants memory for a frame
pub out-of-memory-takes : (frame : Option Received) (begun : Bool) → begun ≡ false → first_refusal (take_by frame true begun) ≡ Some NoMemory
out-of-memory-takes frame begun new = ap (λ b. first_refusal (take_by frame true b)) new

-- the same of a secondary
pub receive-has : (P : Reply × SecondaryHistory → Type 0) (frame : Option Received) (out_of_memory : Bool) (h : SecondaryHistory)
    → ((refusal : Refusal) → is_refused_frame refusal ≡ false → P (reply.Refused refusal, h))
    → ((taken : Received) → frame ≡ Some taken → (secondary_connection h).closed ≡ false → P (take_item taken h)) → P (receive frame out_of_memory h)
receive-has P frame out_of_memory h refused takes = go (secondary_connection h).closed (nat_le h.settings.pending (length (pending (secondary_connection h))))
    out_of_memory refl
  where
    after : Option Received → Reply × SecondaryHistory
    after v = elim v [ None ↦ (reply.Refused NothingThere, h) | Some taken ↦ take_item taken h ]

    by : (v : Option Received) → frame ≡ v → (secondary_connection h).closed ≡ false → P (tested_secondary h ((is_none v, NothingThere) ∷ []) (λ _. after v))
    by None is standing = refused NothingThere refl
    by (Some taken) is standing = takes taken is standing

    go : (closed full short : Bool) → (secondary_connection h).closed ≡ closed
        → P (tested_secondary h ((closed, NotConnected) ∷ (full, PendingFull) ∷ (short, NoMemory) ∷ (is_none frame, NothingThere) ∷ []) (λ _. after frame))
    go true full short is = refused NotConnected refl
    go false true short is = refused PendingFull refl
    go false false true is = refused NoMemory refl
    go false false false is = by frame refl is

-- the tests, by what they ask
abbrev receive_by : Option Received → Bool → Bool → ℕ → ℕ → List Test
receive_by frame out_of_memory closed most waiting =
    (closed, NotConnected) ∷ (nat_le most waiting, PendingFull) ∷ (out_of_memory, NoMemory) ∷ (is_none frame, NothingThere) ∷ []

-- whatever asks the same has the same tests
pub receive-tests-by : (h : SecondaryHistory) (frame : Option Received) (out_of_memory closed : Bool) (most waiting : ℕ)
    → closed ≡ (secondary_connection h).closed
    → most ≡ h.settings.pending → waiting ≡ length (pending (secondary_connection h))
    → receive_by frame out_of_memory closed most waiting ≡ receive_tests h frame out_of_memory
receive-tests-by h frame out_of_memory closed most waiting closes limits counts = λ i. receive_by frame out_of_memory (closes i) (limits i) (counts i)

-- Where the tests before it refuse, it does not matter what the link would give; and where they do not, nothing was there.
pub ack-in-none : (h : PrimaryHistory) (out_of_memory : Bool) (next : Option Received) (one : Reply) → one ≡ (ack_in None out_of_memory h).0
    → (one ≡ reply.Refused NothingThere → next ≡ None) → ack_in None out_of_memory h ≡ ack_in next out_of_memory h
ack-in-none h out_of_memory next one said none = go (primary_connection h).closed (not (primary_connection h).begun && out_of_memory) said
  where
    by : Bool → Bool → Option Received → Reply × PrimaryHistory
    by closed short v = tested h ((closed, NotConnected) ∷ (short, NoMemory) ∷ (is_none v, NothingThere) ∷ [])
        (λ _. elim v [ None ↦ (reply.Refused NothingThere, h) | Some taken ↦ take_frame taken h ])

    go : (closed short : Bool) → one ≡ (by closed short None).0 → by closed short None ≡ by closed short next
    go true short said = refl
    go false true said = refl
    go false false said = ap (by false false) (sym (none said))

-- the same of a secondary
pub receive-none : (h : SecondaryHistory) (out_of_memory : Bool) (next : Option Received) (one : Reply) → one ≡ (receive None out_of_memory h).0
    → (one ≡ reply.Refused NothingThere → next ≡ None) → receive None out_of_memory h ≡ receive next out_of_memory h
receive-none h out_of_memory next one said none = go (secondary_connection h).closed (nat_le h.settings.pending (length (pending (secondary_connection h))))
    out_of_memory said
  where
    by : Bool → Bool → Bool → Option Received → Reply × SecondaryHistory
    by closed full short v = tested_secondary h ((closed, NotConnected) ∷ (full, PendingFull) ∷ (short, NoMemory) ∷ (is_none v, NothingThere) ∷ [])
        (λ _. elim v [ None ↦ (reply.Refused NothingThere, h) | Some taken ↦ take_item taken h ])

    go : (closed full short : Bool) → one ≡ (by closed full short None).0 → by closed full short None ≡ by closed full short next
    go true full short said = refl
    go false true short said = refl
    go false false true said = refl
    go false false false said = ap (by false false false) (sym (none said))
