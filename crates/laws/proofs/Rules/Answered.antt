-- When a write is answered: what its protocol asks of a connection, and connections by which it is answered alike.
use Rattle.std.proofs.Common.{ℕ, ◌≡◌, ◌-◌, ◌<◌, ◌≤◌, ◌⊎◌, inl, inr, Bool, true, false, ◌||◌, [], ◌∷◌, ◌++◌, Ok, refl, sym, ◌∙◌, ap, arith, nat_lt}
use Rattle.std.specs.List.{list_any}
use Rattle.std.proofs.Math.Bool.{or-false}
use Rattle.std.proofs.lemmas.Bool.{ltb-true, lt-ltb, le-ltb}
use Rattle.std.proofs.lemmas.List.Folds.{list_any-append}
use Rattle.std.proofs.Math.Bool.{or-true}
use Rattle.blocks.specs.declared.settings.Protocol.{Protocol}
use Rattle.blocks.specs.declared.settings.Protocol.TheVariants as protocol
use Rattle.model.specs.Stream.{StreamItem, IsBeginning}
use Rattle.model.specs.Frames.{RecvAckFrame, WriteAckFrame, Acknowledged, Received, naming}
use Rattle.model.specs.Primary.{PrimaryConnection, accepted_frames, is_recv_ack, is_write_ack, is_answered_by, items_sent, was_received, was_written}
use Rattle.model.specs.Primary.{same_naming}
use Rattle.laws.proofs.Lists.Beginnings.{any-grows}

-- What is asked: that it was sent, or received, or written.

-- what holds under each protocol holds of one that is answered
pub answered-has : (P : Protocol → Type 0) (c : PrimaryConnection) (place : ℕ) (item : StreamItem) → (place < items_sent c → P protocol.A)
    → (was_received c place item ≡ true → P protocol.B) → (was_written c place item ≡ true → P protocol.C)
    → (asked : Protocol) → is_answered_by asked c place item ≡ true → P asked
answered-has P c place item sent received written protocol.A answered = sent (ltb-true place (items_sent c) answered)
answered-has P c place item sent received written protocol.B answered = received answered
answered-has P c place item sent received written protocol.C answered = written answered

-- but for A, an acknowledgement answers it
pub answered-or : (asked : Protocol) (c : PrimaryConnection) (place : ℕ) (item : StreamItem) → (asked ≡ protocol.B → was_received c place item ≡ true)
    → (asked ≡ protocol.C → was_written c place item ≡ true) → (asked ≡ protocol.A) ⊎ (is_answered_by asked c place item ≡ true)
answered-or protocol.A c place item received written = inl refl
answered-or protocol.B c place item received written = inr (received refl)
answered-or protocol.C c place item received written = inr (written refl)

-- one that was not sent, and of which nothing was said, is not answered
pub unanswered : (asked : Protocol) (c : PrimaryConnection) (place : ℕ) (item : StreamItem) → items_sent c ≤ place → was_received c place item ≡ false
    → was_written c place item ≡ false → is_answered_by asked c place item ≡ false
unanswered protocol.A c place item later received written = le-ltb place (items_sent c) later
unanswered protocol.B c place item later received written = received
unanswered protocol.C c place item later received written = written

-- Connections.

-- where as much was sent, and the peer said the same of it, it is answered alike
pub answered-alike : (asked : Protocol) (c d : PrimaryConnection) (place : ℕ) (item : StreamItem) → nat_lt place (items_sent d) ≡ nat_lt place (items_sent c)
    → was_received d place item ≡ was_received c place item → was_written d place item ≡ was_written c place item
    → is_answered_by asked d place item ≡ is_answered_by asked c place item
answered-alike protocol.A c d place item sent received written = sent
answered-alike protocol.B c d place item sent received written = received
answered-alike protocol.C c d place item sent received written = written

-- so where the same was sent and accepted
pub answered-same : (asked : Protocol) (c d : PrimaryConnection) (place : ℕ) (item : StreamItem) → d.pushed ≡ c.pushed → accepted_frames d ≡ accepted_frames c
    → is_answered_by asked d place item ≡ is_answered_by asked c place item
answered-same asked c d place item pushed frames = answered-alike asked c d place item (ap (λ n. nat_lt place (n - 3)) pushed)
    (ap (list_any (is_recv_ack (naming place item))) frames) (ap (list_any (is_write_ack (naming place item))) frames)

-- one more that is accepted passes a test, or those before it do
more : (test : Received → Bool) (c d : PrimaryConnection) (frame : Received) → accepted_frames d ≡ accepted_frames c ++ frame ∷ []
    → list_any test (accepted_frames d) ≡ (list_any test (accepted_frames c) || test frame)
more test c d frame frames = ap (list_any test) frames
    ∙ (list_any-append test (accepted_frames c) (frame ∷ []) ∙ ap (λ b. list_any test (accepted_frames c) || b) (or-false (test frame)))

none-more : (test : Received → Bool) (c d : PrimaryConnection) (frame : Received) → accepted_frames d ≡ accepted_frames c ++ frame ∷ [] → test frame ≡ false
    → list_any test (accepted_frames d) ≡ list_any test (accepted_frames c)
none-more test c d frame frames none = more test c d frame frames
    ∙ (ap (λ b. list_any test (accepted_frames c) || b) none ∙ or-false (list_any test (accepted_frames c)))

-- a frame that says nothing of it
pub answered-other : (asked : Protocol) (c d : PrimaryConnection) (frame : Received) (place : ℕ) (item : StreamItem) → d.pushed ≡ c.pushed
    → accepted_frames d ≡ accepted_frames c ++ frame ∷ [] → is_recv_ack (naming place item) frame ≡ false → is_write_ack (naming place item) frame ≡ false
    → is_answered_by asked d place item ≡ is_answered_by asked c place item
answered-other asked c d frame place item pushed frames received written = answered-alike asked c d place item (ap (λ n. nat_lt place (n - 3)) pushed)
    (none-more (is_recv_ack (naming place item)) c d frame frames received) (none-more (is_write_ack (naming place item)) c d frame frames written)

-- a RECV_ACK answers the write that it names under B
pub answered-receipt : (asked : Protocol) (c d : PrimaryConnection) (ack : Acknowledged) (place : ℕ) (item : StreamItem) → asked ≡ protocol.B
    → accepted_frames d ≡ accepted_frames c ++ Ok (RecvAckFrame ack) ∷ []
    → is_answered_by asked d place item ≡ (is_answered_by asked c place item || same_naming (naming place item) ack)
answered-receipt protocol.A c d ack place item is frames = absurd (cc)
answered-receipt protocol.B c d ack place item is frames = more (is_recv_ack (naming place item)) c d (Ok (RecvAckFrame ack)) frames
answered-receipt protocol.C c d ack place item is frames = absurd (cc)

-- and a WRITE_ACK under C
pub answered-written : (asked : Protocol) (c d : PrimaryConnection) (ack : Acknowledged) (place : ℕ) (item : StreamItem) → asked ≡ protocol.C
    → accepted_frames d ≡ accepted_frames c ++ Ok (WriteAckFrame ack) ∷ []
    → is_answered_by asked d place item ≡ (is_answered_by asked c place item || same_naming (naming place item) ack)
answered-written protocol.A c d ack place item is frames = absurd (cc)
answered-written protocol.B c d ack place item is frames = absurd (cc)
answered-written protocol.C c d ack place item is frames = more (is_write_ack (naming place item)) c d (Ok (WriteAckFrame ack)) frames

-- an item that is sent answers itself under A; `by_sending` says of each protocol whether it does
pub answered-sent : (by_sending : Protocol → Bool) (asked : Protocol) (c d : PrimaryConnection) (place : ℕ) (item : StreamItem) → by_sending protocol.A ≡ true
    → by_sending protocol.B ≡ false → by_sending protocol.C ≡ false → place < items_sent d → accepted_frames d ≡ accepted_frames c
    → is_answered_by asked d place item ≡ (is_answered_by asked c place item || by_sending asked)
answered-sent by_sending protocol.A c d place item a b e sent frames =
    lt-ltb place (items_sent d) sent ∙ sym (ap (λ x. nat_lt place (items_sent c) || x) a ∙ or-true (nat_lt place (items_sent c)))
answered-sent by_sending protocol.B c d place item a b e sent frames = ap (list_any (is_recv_ack (naming place item))) frames
    ∙ sym (ap (λ x. was_received c place item || x) b ∙ or-false (was_received c place item))
answered-sent by_sending protocol.C c d place item a b e sent frames = ap (list_any (is_write_ack (naming place item))) frames
    ∙ sym (ap (λ x. was_written c place item || x) e ∙ or-false (was_written c place item))

-- where more is sent and accepted, what was answered stays so
pub answered-more : (asked : Protocol) (c d : PrimaryConnection) (place : ℕ) (item : StreamItem) → c.pushed ≤ d.pushed
    → IsBeginning (accepted_frames c) (accepted_frames d)
    → is_answered_by asked c place item ≡ true → is_answered_by asked d place item ≡ true
answered-more protocol.A c d place item pushed frames answered =
    let sent = ltb-true place (c.pushed - 3) answered in lt-ltb place (d.pushed - 3) (omega arith)
answered-more protocol.B c d place item pushed frames answered =
    any-grows (is_recv_ack (naming place item)) (accepted_frames c) (accepted_frames d) frames answered
answered-more protocol.C c d place item pushed frames answered =
    any-grows (is_write_ack (naming place item)) (accepted_frames c) (accepted_frames d) frames answered
