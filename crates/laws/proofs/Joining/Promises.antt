-- What a completion over the link promises, of a primary and a secondary that ran by themselves and whose frames are joined.
use Rattle.std.proofs.Common.{ℕ, zero, suc, ◌≡◌, ◌-◌, ◌<◌, Bool, true, false, List, [], ◌∷◌, length, take, map, Some, slice_get, Ok, Err, refl, sym, ◌∙◌, ap}
use Rattle.std.proofs.Common.{subst}
use Rattle.std.specs.Prelude.{if◌then◌else◌}
use Rattle.std.proofs.lemmas.Option.{slice_get_within}
use Rattle.blocks.specs.Positions.{StreamPosition}
use Rattle.blocks.specs.declared.settings.Settings.{Settings}
use Rattle.blocks.specs.declared.settings.Protocol.{Protocol}
use Rattle.blocks.specs.declared.settings.Protocol.TheVariants as protocol
use Rattle.model.specs.Contents.{Write}
use Rattle.model.specs.Stream.{StreamItem, WriteItem, IsBeginning, is_whole}
use Rattle.model.specs.Frames.{Packet, DataFrame, RsDataReplyFrame, BarrierFrame, ProtocolFrame, UuidsFrame, SizesFrame, SyncUuidFrame, RecvAckFrame}
use Rattle.model.specs.Frames.{WriteAckFrame, RsWriteAckFrame, BarrierAckFrame, Acknowledged, Received, naming}
use Rattle.model.specs.Primary.{PrimaryConnection, PrimaryHistory, items_sent, accepted_frames, same_naming, is_recv_ack, is_write_ack, is_answered_by}
use Rattle.model.specs.Primary.{primary_connection_at}
use Rattle.model.specs.Secondary.{SecondaryConnection, SecondaryHistory, items_taken, answers_due, secondary_connection_at}
use Rattle.model.specs.LocalRuns.{primary_run, secondary_run}
use Rattle.model.specs.Headline.{Promise}
use Rattle.model.specs.Theorems.{primary_at, secondary_at}
use Rattle.laws.specs.Statements.{JoinedRunsKeepPromises}
use Rattle.laws.proofs.Lists.Beginnings.{begins-take, begins-self, begins-trans, get-beginning}
use Rattle.laws.proofs.Secondary.TrueAnswers.{IsTruthful, all-run, truthful-none, same-place}
use Rattle.laws.proofs.Primary.Moves.{keeps-run}
use Rattle.laws.proofs.Primary.Homes.{HasHomes, IsLinked}
use Rattle.laws.proofs.Primary.HomesMoves.{homes-kept, homes-released, homes-opening}
use Rattle.laws.proofs.Lists.Picks.{pick-any}
use Rattle.laws.proofs.Joining.Taking.{takes_a_beginning, read}
use Rattle.laws.proofs.Lists.Each.{Each, each-get}
use Rattle.laws.proofs.Joining.Ends.{primary-connection-there, each-at}
use Rattle.model.specs.Primary.{was_received, was_written}
use Rattle.laws.proofs.Rules.Answered.{answered-has}

-- the acknowledgement in a frame that passes
recv-ack : (of : Acknowledged) (frame : Received) → is_recv_ack of frame ≡ true
    → (ack : Acknowledged) × (frame ≡ Ok (RecvAckFrame ack)) × (same_naming of ack ≡ true)
recv-ack of (Err fault) h = absurd (cc)
recv-ack of (Ok (DataFrame write at)) h = absurd (cc)
recv-ack of (Ok (RsDataReplyFrame block contents at)) h = absurd (cc)
recv-ack of (Ok (BarrierFrame number)) h = absurd (cc)
recv-ack of (Ok (ProtocolFrame asked)) h = absurd (cc)
recv-ack of (Ok (UuidsFrame tuple)) h = absurd (cc)
recv-ack of (Ok (SizesFrame blocks)) h = absurd (cc)
recv-ack of (Ok (SyncUuidFrame word)) h = absurd (cc)
recv-ack of (Ok (RecvAckFrame ack)) h = (ack, refl, h)
recv-ack of (Ok (WriteAckFrame ack)) h = absurd (cc)
recv-ack of (Ok (RsWriteAckFrame ack)) h = absurd (cc)
recv-ack of (Ok (BarrierAckFrame number size)) h = absurd (cc)

write-ack : (of : Acknowledged) (frame : Received) → is_write_ack of frame ≡ true
    → (ack : Acknowledged) × (frame ≡ Ok (WriteAckFrame ack)) × (same_naming of ack ≡ true)
write-ack of (Err fault) h = absurd (cc)
write-ack of (Ok (DataFrame write at)) h = absurd (cc)
write-ack of (Ok (RsDataReplyFrame block contents at)) h = absurd (cc)
write-ack of (Ok (BarrierFrame number)) h = absurd (cc)
write-ack of (Ok (ProtocolFrame asked)) h = absurd (cc)
write-ack of (Ok (UuidsFrame tuple)) h = absurd (cc)
write-ack of (Ok (SizesFrame blocks)) h = absurd (cc)
write-ack of (Ok (SyncUuidFrame word)) h = absurd (cc)
write-ack of (Ok (RecvAckFrame ack)) h = absurd (cc)
write-ack of (Ok (WriteAckFrame ack)) h = (ack, refl, h)
write-ack of (Ok (RsWriteAckFrame ack)) h = absurd (cc)
write-ack of (Ok (BarrierAckFrame number size)) h = absurd (cc)

-- a frame that was read is the one that was pushed
pub read-back : (packets : List Packet) (n : ℕ) (packet : Packet) → slice_get (map read packets) n ≡ Some (Ok packet) → slice_get packets n ≡ Some packet
read-back [] n packet at = absurd (cc)
read-back (x ∷ packets) zero packet at = let same : x ≡ packet = cc in ap (λ (p : Packet). Some p) same
read-back (x ∷ packets) (suc n) packet at = read-back packets n packet at

-- the packets of a hello
abbrev pub is_hello : Packet → Bool
is_hello (ProtocolFrame asked) = true
is_hello (SizesFrame blocks) = true
is_hello (UuidsFrame tuple) = true
is_hello _ = false

-- a packet that is none of a hello stands behind the hello
pub behind-hello : (a b c packet : Packet) (due : List Packet) (n : ℕ) → is_hello a ≡ true → is_hello b ≡ true → is_hello c ≡ true → is_hello packet ≡ false
    → slice_get (a ∷ b ∷ c ∷ due) n ≡ Some packet → (m : ℕ) × (slice_get due m ≡ Some packet)
behind-hello a b c packet due zero ha hb hc other at = absurd (let e : a ≡ packet = cc in cc (ap is_hello e, ha, other))
behind-hello a b c packet due (suc zero) ha hb hc other at = absurd (let e : b ≡ packet = cc in cc (ap is_hello e, hb, other))
behind-hello a b c packet due (suc (suc zero)) ha hb hc other at = absurd (let e : c ≡ packet = cc in cc (ap is_hello e, hc, other))
behind-hello a b c packet due (suc (suc (suc n))) ha hb hc other at = (n, at)

-- An accepted acknowledgement was due at the secondary.
pub was-due : (settings : Settings) (c : PrimaryConnection) (d : SecondaryConnection) (n : ℕ) (packet : Packet) → is_hello packet ≡ false
    → IsBeginning c.taken (map read (take d.pushed (answers_due settings d)))
    → slice_get (accepted_frames c) n ≡ Some (Ok packet)
    → (m : ℕ) × (slice_get d.due m ≡ Some packet)
was-due settings c d n packet other joined at =
    let accepted : IsBeginning (accepted_frames c) c.taken =
    elim c.refused as (λ b. IsBeginning (if b then take (length c.taken - 1) c.taken else c.taken) c.taken)
    [ true ↦ begins-take (length c.taken - 1) c.taken | false ↦ begins-self c.taken ] in
    let pushed = get-beginning c.taken (map read (take d.pushed (answers_due settings d))) n (Ok packet) joined
    (get-beginning (accepted_frames c) c.taken n (Ok packet) accepted at) in
    let there = get-beginning (take d.pushed (answers_due settings d)) (answers_due settings d) n packet (begins-take d.pushed (answers_due settings d))
    (read-back (take d.pushed (answers_due settings d)) n packet pushed) in
    behind-hello _ _ _ packet d.due n refl refl refl other there

promise-of : (asked : Protocol) (settings : Settings) (c : PrimaryConnection) (d : SecondaryConnection) (write : Write) (place : ℕ) → IsTruthful d
    → IsBeginning c.taken (map read (take d.pushed (answers_due settings d)))
    → IsBeginning (items_taken d) (take (items_sent c) c.stream) → slice_get c.stream place ≡ Some (WriteItem write)
    → is_answered_by asked c place (WriteItem write) ≡ true → Promise asked c d write place
promise-of asked settings c d write place truthful joined items item answered =
    answered-has (λ p. Promise p c d write place) c place (WriteItem write) (λ sent. sent) received written asked answered
  where
    received : was_received c place (WriteItem write) ≡ true → Promise protocol.B c d write place
    received said =
        let found = pick-any (is_recv_ack (naming place (WriteItem write))) (accepted_frames c) said in
        let ack = recv-ack (naming place (WriteItem write)) found.1 found.3 in
        let due = was-due settings c d found.0 (RecvAckFrame ack.0) refl joined (found.2 ∙ ap (λ (f : Received). Some f) ack.1) in
        let names = truthful.answers due.0 (RecvAckFrame ack.0) due.1 in
        let same : place ≡ ack.0.place = same-place (naming place (WriteItem write)) ack.0 ack.2 in
        subst (λ n. n < length (items_taken d)) (sym same) (slice_get_within (items_taken d) ack.0.place names.item names.there)

    written : was_written c place (WriteItem write) ≡ true → Promise protocol.C c d write place
    written said =
        let found = pick-any (is_write_ack (naming place (WriteItem write))) (accepted_frames c) said in
        let ack = write-ack (naming place (WriteItem write)) found.1 found.3 in
        let due = was-due settings c d found.0 (WriteAckFrame ack.0) refl joined (found.2 ∙ ap (λ (f : Received). Some f) ack.1) in
        let names = truthful.answers due.0 (WriteAckFrame ack.0) due.1 in
        let same : place ≡ ack.0.place = same-place (naming place (WriteItem write)) ack.0 ack.2 in
        let taken : slice_get (items_taken d) place ≡ Some names.item = subst (λ n. slice_get (items_taken d) n ≡ Some names.item) (sym same) names.there in
        let sent : slice_get c.stream place ≡ Some names.item =
        get-beginning (items_taken d) c.stream place names.item
        (begins-trans (items_taken d) (take (items_sent c) c.stream) c.stream items (begins-take (items_sent c) c.stream)) taken in
        let is : names.item ≡ WriteItem write = cc in
        subst (λ (i : StreamItem). is_whole d.applied place i ≡ true) is (subst (λ n. is_whole d.applied n names.item ≡ true) (sym same) names.whole)

-- each write that completed over the link has what its protocol promises
pub keeps_promises : JoinedRunsKeepPromises
keeps_promises o here there any joined =
    let p : PrimaryHistory = primary_run here (primary_at o) in
    let s : SecondaryHistory = secondary_run there (secondary_at o) in
    let homes : HasHomes p = keeps-run HasHomes HasHomes homes-kept homes-released here (primary_at o) (homes-opening o.settings o.local o.own o.marks) in
    let truthful : Each IsTruthful s.connections = all-run there (secondary_at o) tt in
    record {
      promised = λ n k place entry at linked home.
          let l : IsLinked p.settings.protocol p.connections entry = homes.journal n entry at linked in
          let one : StreamPosition = record { index = l.connection; place = l.place } in
          let two : StreamPosition = record { index = k; place = place } in
          let pairs : Some one ≡ Some two = sym l.home ∙ home in
          let same : one ≡ two = cc in
          let kk : l.connection ≡ k = ap (λ (x : StreamPosition). x.index) same in
          let pp : l.place ≡ place = ap (λ (x : StreamPosition). x.place) same in
          let end : l.end ≡ primary_connection_at p (suc k) =
          sym (primary-connection-there p k l.end (subst (λ n. slice_get p.connections n ≡ Some l.end) kk l.there)) in
          let item : slice_get (primary_connection_at p (suc k)).stream place ≡ Some (WriteItem entry.write) =
          subst (λ (x : PrimaryConnection). slice_get x.stream place ≡ Some (WriteItem entry.write)) end
          (subst (λ n. slice_get l.end.stream n ≡ Some (WriteItem entry.write)) pp l.item) in
          let answered : is_answered_by p.settings.protocol (primary_connection_at p (suc k)) place (WriteItem entry.write) ≡ true =
          subst (λ (x : PrimaryConnection). is_answered_by p.settings.protocol x place (WriteItem entry.write) ≡ true) end
          (subst (λ n. is_answered_by p.settings.protocol l.end n (WriteItem entry.write) ≡ true) pp l.answered) in
          promise-of p.settings.protocol s.settings (primary_connection_at p (suc k)) (secondary_connection_at s (suc k)) entry.write place
          (each-at IsTruthful s (λ j d at. each-get IsTruthful s.connections j d truthful at) (truthful-none s) (suc k))
          (joined.back (suc k)) (takes_a_beginning p s joined (suc k)) item answered;
      home = λ n entry at linked. let l : IsLinked p.settings.protocol p.connections entry = homes.journal n entry at linked in (
        l.connection,
        l.place,
        l.end,
        l.home,
        l.there,
        l.item,
      );
    }
