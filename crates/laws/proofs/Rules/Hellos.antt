-- The hello: what its frames are taken for, by whatever takes them, and that both ends take them so.
use Rattle.std.proofs.Common.{ℕ, zero, suc, ◌≡◌, ◌⊎◌, inl, inr, Bool, true, false, None, Ok, Err, refl, ap, ◌==◌}
use Rattle.std.specs.Prelude.{if◌then◌else◌}
use Rattle.std.proofs.lemmas.Bool.{eqb-true}
use Rattle.blocks.specs.declared.settings.Settings.{Settings}
use Rattle.blocks.specs.declared.settings.Protocol.{Protocol}
use Rattle.blocks.specs.declared.tuple.Tuple.{Tuple}
use Rattle.blocks.specs.declared.refusal.Refusal.{Refusal}
use Rattle.blocks.specs.declared.refusal.Refusal.TheVariants.{BadBarrierAck, BadCommand, BadField, BadLength, BadMagic, OtherProtocol, OtherSize}
use Rattle.blocks.specs.declared.refusal.Refusal.TheVariants.{PrimaryStale, SplitBrain, UnknownAck, Unrelated, UsedIdentifier}
use Rattle.blocks.specs.declared.outcome.What.{What}
use Rattle.blocks.specs.declared.outcome.What.TheVariants as what
use Rattle.blocks.specs.declared.command.Command.TheVariants as command
use Rattle.model.specs.CallRefusals.{ack_in_refuses}
use Rattle.model.specs.Frames.{Packet, ProtocolFrame, SizesFrame, UuidsFrame}
use Rattle.model.specs.Primary.{PrimaryHistory}
use Rattle.model.specs.Acknowledgements.{same_protocol, Taken, meeting, taking_hello}
use Rattle.model.specs.Secondary.{SecondaryHistory}
use Rattle.model.specs.SecondarySteps.{Checked, checking_hello}
use Rattle.laws.specs.Statements.{is_refused_frame}

-- the next frame of a hello, by how many were taken before: its protocol, its size, and at last its tuple
abbrev pub hello_by : {R : Type 0} → (What → R) → (Refusal → R) → (Tuple → R) → Settings → ℕ → Packet → R
hello_by accept refuse last settings zero (ProtocolFrame asked) =
    if same_protocol asked settings.protocol then accept (what.Frame command.Protocol None) else refuse OtherProtocol
hello_by accept refuse last settings (suc zero) (SizesFrame blocks) =
    if blocks == settings.blocks then accept (what.Frame command.Sizes None) else refuse OtherSize
hello_by accept refuse last settings (suc (suc n)) (UuidsFrame peer) = last peer
hello_by accept refuse last settings n packet = refuse BadCommand

-- a primary takes it so
pub taking-is : (n : ℕ) (packet : Packet) (h : PrimaryHistory)
    → hello_by {R = Taken} (λ name. Ok (name, h)) (λ refusal. Err (refusal, h)) (λ peer. meeting peer h) h.settings n packet ≡ taking_hello n packet h
taking-is zero (ProtocolFrame asked) h = refl
taking-is (suc zero) (SizesFrame blocks) h = refl
taking-is (suc (suc n)) (UuidsFrame peer) h = refl
taking-is n packet h = refl

-- and so does a secondary
pub checking-is : (n : ℕ) (packet : Packet) (h : SecondaryHistory)
    → hello_by {R = Checked} (λ name. Ok (name, h)) (λ refusal. Err refusal) (λ peer. Ok (what.Frame command.Uuids None, h)) h.settings n packet
    ≡ checking_hello n packet h
checking-is zero (ProtocolFrame asked) h = refl
checking-is (suc zero) (SizesFrame blocks) h = refl
checking-is (suc (suc n)) (UuidsFrame peer) h = refl
checking-is n packet h = refl

-- What holds of each frame that is accepted, and of each refusal, holds of what is taken.
pub hello-has : {R : Type 0} (P : R → Type 0) (accept : What → R) (refuse : Refusal → R) (last : Tuple → R) (settings : Settings) (n : ℕ) (packet : Packet)
    → ((asked : Protocol) → n ≡ 0 → packet ≡ ProtocolFrame asked → same_protocol asked settings.protocol ≡ true → P (accept (what.Frame command.Protocol None)))
    → (n ≡ 1 → packet ≡ SizesFrame settings.blocks → P (accept (what.Frame command.Sizes None)))
    → ((m : ℕ) (peer : Tuple) → n ≡ suc (suc m) → packet ≡ UuidsFrame peer → P (last peer))
    → P (refuse OtherProtocol) → P (refuse OtherSize) → P (refuse BadCommand) → P (hello_by accept refuse last settings n packet)
hello-has P accept refuse last settings zero (ProtocolFrame asked) first second third other larger wrong = go (same_protocol asked settings.protocol) refl
  where
    go : (b : Bool) → same_protocol asked settings.protocol ≡ b → P (if b then accept (what.Frame command.Protocol None) else refuse OtherProtocol)
    go true same = first asked refl refl same
    go false is = other
hello-has P accept refuse last settings (suc zero) (SizesFrame blocks) first second third other larger wrong = go (blocks == settings.blocks) refl
  where
    go : (b : Bool) → (blocks == settings.blocks) ≡ b → P (if b then accept (what.Frame command.Sizes None) else refuse OtherSize)
    go true same = second refl (ap SizesFrame (eqb-true blocks settings.blocks same))
    go false is = larger
hello-has P accept refuse last settings (suc (suc n)) (UuidsFrame peer) first second third other larger wrong = third n peer refl refl
hello-has P accept refuse last settings n packet first second third other larger wrong = wrong

-- Two that take a hello with the same settings take it alike, where they accept and refuse alike.
pub hello-alike : {A B : Type 0} (R : A → B → Type 0) (accept : What → A) (refuse : Refusal → A) (last : Tuple → A) (accepts : What → B) (refuses : Refusal → B)
    (lasts : Tuple → B) (settings : Settings) (n : ℕ) (packet : Packet)
    → (((asked : Protocol) × (packet ≡ ProtocolFrame asked)) ⊎ ((blocks : ℕ) × (packet ≡ SizesFrame blocks)) → (name : What) → R (accept name) (accepts name))
    → ((refusal : Refusal) → R (refuse refusal) (refuses refusal))
    → ((m : ℕ) (peer : Tuple) → n ≡ suc (suc m) → packet ≡ UuidsFrame peer → R (last peer) (lasts peer))
    → R (hello_by accept refuse last settings n packet) (hello_by accepts refuses lasts settings n packet)
hello-alike R accept refuse last accepts refuses lasts settings zero (ProtocolFrame asked) same fails ends = go (same_protocol asked settings.protocol)
  where
    go : (b : Bool) → R (if b then accept (what.Frame command.Protocol None) else refuse OtherProtocol)
        (if b then accepts (what.Frame command.Protocol None) else refuses OtherProtocol)
    go true = same (inl (asked, refl)) (what.Frame command.Protocol None)
    go false = fails OtherProtocol
hello-alike R accept refuse last accepts refuses lasts settings (suc zero) (SizesFrame blocks) same fails ends = go (blocks == settings.blocks)
  where
    go : (b : Bool) → R (if b then accept (what.Frame command.Sizes None) else refuse OtherSize)
        (if b then accepts (what.Frame command.Sizes None) else refuses OtherSize)
    go true = same (inr (blocks, refl)) (what.Frame command.Sizes None)
    go false = fails OtherSize
hello-alike R accept refuse last accepts refuses lasts settings (suc (suc n)) (UuidsFrame peer) same fails ends = ends n peer refl refl
hello-alike R accept refuse last accepts refuses lasts settings n packet same fails ends = fails BadCommand

-- A primary's call that takes a frame may answer each refusal of a frame, those of a hello too.
pub refused-frame-so : (e : Refusal) → is_refused_frame e ≡ true → ack_in_refuses e ≡ true
refused-frame-so BadMagic is = refl
refused-frame-so BadCommand is = refl
refused-frame-so BadLength is = refl
refused-frame-so BadField is = refl
refused-frame-so BadBarrierAck is = refl
refused-frame-so UnknownAck is = refl
refused-frame-so PrimaryStale is = refl
refused-frame-so SplitBrain is = refl
refused-frame-so Unrelated is = refl
refused-frame-so UsedIdentifier is = refl
refused-frame-so OtherProtocol is = refl
refused-frame-so OtherSize is = refl
refused-frame-so e is = absurd (cc)
