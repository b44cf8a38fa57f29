-- The two ends of a link with what each keeps by itself: what the one takes is the front of what the other owes.
use Rattle.std.proofs.Common.{ℕ, suc, ◌≡◌, ◌-◌, ◌<◌, inl, inr, true, false, List, ◌++◌, length, take, drop, map, Some, slice_get, refl}
use Rattle.std.proofs.Common.{◌∙◌, ap, arith}
use Rattle.std.specs.Prelude.{filter_map, if◌then◌else◌}
use Rattle.std.proofs.lemmas.Bool.{cases_Bool, both_ways}
use Rattle.blocks.specs.declared.settings.Settings.{Settings}
use Rattle.blocks.specs.declared.settings.Protocol.{Protocol}
use Rattle.blocks.specs.declared.settings.Protocol.TheVariants as protocol
use Rattle.model.specs.Contents.{Write}
use Rattle.model.specs.Stream.{WriteItem, IsLawful, IsBeginning}
use Rattle.model.specs.Frames.{Received, hello_of}
use Rattle.model.specs.Primary.{PrimaryConnection, frames_due, accepted_frames}
use Rattle.model.specs.Secondary.{SecondaryConnection, items_taken, received_item, answers_due}
use Rattle.model.specs.Acknowledgements.{same_protocol}
use Rattle.laws.proofs.Rules.FramesDue.{due-items}
use Rattle.laws.proofs.Rules.EpochEnds.{most_writes}
use Rattle.laws.proofs.Lists.Fronts.{begins-image}
use Rattle.laws.proofs.Joining.Taking.{read}
use Rattle.laws.proofs.Primary.Ends.{accepted-all}
use Rattle.laws.proofs.Primary.Sendable.{IsFitEnd}
use Rattle.laws.proofs.Secondary.Orderly.{IsOrderly, plain}

-- The two ends of a link of a pair.
pub record AreHonestEnds (settings : Settings) (c : PrimaryConnection) (d : SecondaryConnection) : Type 0 where
  pub lawful : IsLawful (most_writes settings) c.stream
  pub fit : IsFitEnd settings c
  pub orderly : IsOrderly settings.protocol d
  pub numbered : (place : ℕ) (write : Write) → slice_get c.stream place ≡ Some (WriteItem write) → 0 < write.number
  pub refused : c.refused ≡ true → c.closed ≡ true
  pub out : IsBeginning d.taken (map read (take c.pushed (frames_due settings c)))
  pub back : IsBeginning c.taken (map read (take d.pushed (answers_due settings d)))

-- a protocol is the same as itself
pub protocol-self : (asked : Protocol) → same_protocol asked asked ≡ true
protocol-self protocol.A = refl
protocol-self protocol.B = refl
protocol-self protocol.C = refl

-- behind the hello, the items that an open end has taken are as many of the stream as frames were taken behind it
pub items-front : (settings : Settings) (c : PrimaryConnection) (d : SecondaryConnection) (m : ℕ) → AreHonestEnds settings c d → d.closed ≡ false
    → length d.taken ≡ suc (suc (suc m))
    → items_taken d ≡ take m c.stream
items-front settings c d m e standing size =
    let accepted = plain d e.orderly.good standing in
    let taken : d.taken ≡ map read (take (suc (suc (suc m))) (frames_due settings c)) = begins-image read c.pushed d.taken (frames_due settings c) e.out
    ∙ ap (λ n. map read (take n (frames_due settings c))) size in
    ap (λ b. filter_map received_item (drop 3 (if b then take (length d.taken - 1) d.taken else d.taken))) accepted
    ∙ (ap (λ (l : List Received). filter_map received_item (drop 3 l)) taken
    ∙ (due-items settings c (suc (suc (suc m))) ∙ ap (λ n. take n c.stream) (omega arith)))

-- behind the hello, the frames that an open end has accepted are as many of those due
pub accepted-front : (settings : Settings) (c : PrimaryConnection) (d : SecondaryConnection) (m : ℕ) → AreHonestEnds settings c d → c.closed ≡ false
    → length c.taken ≡ suc (suc (suc m))
    → accepted_frames c ≡ map read (hello_of settings d.hello ++ take m d.due)
accepted-front settings c d m e standing size =
    let accepted : c.refused ≡ false = elim (cases_Bool c.refused) [ inl was ↦ absurd (both_ways c.closed standing (e.refused was)) | inr not_so ↦ not_so ] in
    accepted-all c accepted ∙ (begins-image read d.pushed c.taken (answers_due settings d) e.back ∙ ap (λ n. map read (take n (answers_due settings d))) size)
