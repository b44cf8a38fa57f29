-- What the log makes of an acknowledgement.
use Rattle.std.proofs.Common.{ℕ, ◌≡◌, Bool, true, false, ◌&&◌, ◌||◌, drop, refl, sym, ◌∙◌, ap, subst, arith, Option, None}
use Rattle.std.specs.Prelude.{Result, Ok, Err, if◌then◌else◌}
use Rattle.blocks.specs.declared.outcome.What.{What}
use Rattle.blocks.specs.declared.outcome.What.TheVariants as what
use Rattle.blocks.specs.declared.command.Command.TheVariants as command
use Rattle.blocks.specs.declared.settings.Settings.{Settings}
use Rattle.blocks.specs.declared.refusal.Refusal.{Refusal}
use Rattle.blocks.specs.declared.refusal.Refusal.TheVariants.{UnknownAck, BadBarrierAck}
use Rattle.epochs.specs.Epochs.{EpochsState, is_awaited, acknowledging}
use Rattle.model.specs.Frames.{Acknowledged}
use Rattle.transferlog.specs.Log.{LogState, acked, awaits_in, barrier_acked, changing, confirming, is_asked, may_confirm}
use Rattle.transferlog.specs.Ring.{write_at}
use Rattle.transferlog.specs.Writes.{answering}
use Rattle.transferlog.specs.declared.report.PeerAck.{PeerAck}
use Rattle.transferlog.specs.declared.report.AckedWrite.{AckedWrite}
use Rattle.primary_protocol.specs.Core.{EndState, PrimaryState}
use Rattle.primary_protocol.specs.Transitions.{logged}
use Rattle.primary_protocol.specs.Taking.{Taken, answered, confirmed, is_in_epoch, is_unsent, named}
use Rattle.primary_core.specs.Kept.{IsSoundLog}
use Rattle.primary_core.specs.Take.{taken_as}
use Rattle.primary_core.proofs.Epochs.{Appends, nothing-appended}
use Rattle.primary_core.proofs.Logged.{Steps, steps-changing}
use Rattle.primary_core.proofs.SoundLog.{keeps-answering, sound-confirming}

-- Of a write.

pub acked-steps : (s : Settings) (kind : PeerAck) (of : AckedWrite) (l m : LogState) (r : Result (Option ℕ) Refusal) (barrier : Option ℕ)
    → (let got : Result (Option ℕ) Refusal × LogState = (r, m) in got ≡ acked kind of l) → r ≡ Ok barrier → IsSoundLog s l → Steps s l m barrier
acked-steps s kind of l m r barrier is ok sound = go (is_asked l.protocol kind && awaits_in (write_at of.number l.writes) of) is
  where
    go : (b : Bool) → (let got : Result (Option ℕ) Refusal × LogState =
        (r, m) in got ≡ (if b then (Ok (changing of.number answering l).0, (changing of.number answering l).1) else (Err UnknownAck, l))) → Steps s l m barrier
    go true is =
        let result : r ≡ Ok (changing of.number answering l).0 = ap (λ (p : Result (Option ℕ) Refusal × LogState). p.0) is in
        let state : m ≡ (changing of.number answering l).1 = ap (λ (p : Result (Option ℕ) Refusal × LogState). p.1) is in
        let same : barrier ≡ (changing of.number answering l).0 = cc in
        steps-changing s of.number answering l m barrier keeps-answering (rw (same, state) refl) sound
    go false is = absurd (let result : r ≡ Err UnknownAck = ap (λ (p : Result (Option ℕ) Refusal × LogState). p.0) is in cc)

pub acked-not : (kind : PeerAck) (of : AckedWrite) (l m : LogState) (r : Result (Option ℕ) Refusal) (e : Refusal)
    → (let got : Result (Option ℕ) Refusal × LogState = (r, m) in got ≡ acked kind of l) → r ≡ Err e → m ≡ l
acked-not kind of l m r e is err = go (is_asked l.protocol kind && awaits_in (write_at of.number l.writes) of) is
  where
    go : (b : Bool) → (let got : Result (Option ℕ) Refusal × LogState =
        (r, m) in got ≡ (if b then (Ok (changing of.number answering l).0, (changing of.number answering l).1) else (Err UnknownAck, l))) → m ≡ l
    go true is = absurd (let result : r ≡ Ok (changing of.number answering l).0 = ap (λ (p : Result (Option ℕ) Refusal × LogState). p.0) is in cc)
    go false is = ap (λ (p : Result (Option ℕ) Refusal × LogState). p.1) is

unfolded-answered : (name : What) (kind : PeerAck) (ack : Acknowledged) (s : PrimaryState) (p : Result (Option ℕ) Refusal × LogState)
    → p ≡ acked kind (named ack) s.log
    → answered name kind ack s ≡ elim p.0 as (λ _. Taken) [ Err refusal ↦ Err (refusal, s) | Ok barrier ↦ Ok (logged name (barrier, p.1) s) ]
unfolded-answered name kind ack s p is =
    ap (λ (q : Result (Option ℕ) Refusal × LogState). elim q.0 as
    (λ _. Taken) [ Err refusal ↦ Err (refusal, s) | Ok barrier ↦ Ok (logged name (barrier, q.1) s) ]) (sym is)

pub answered-err : (name : What) (kind : PeerAck) (ack : Acknowledged) (s : PrimaryState) (m : LogState) (r : Result (Option ℕ) Refusal) (e : Refusal)
    → (let got : Result (Option ℕ) Refusal × LogState = (r, m) in got ≡ acked kind (named ack) s.log) → r ≡ Err e
    → taken_as (Err e) (record s { log = m }) ≡ answered name kind ack s
answered-err name kind ack s m r e is err =
    let same = acked-not kind (named ack) s.log m r e is err in
    let got = subst (λ (x : Result (Option ℕ) Refusal). (let g : Result (Option ℕ) Refusal × LogState = (x, m) in g ≡ acked kind (named ack) s.log)) err is in
    ap (λ (x : LogState). Err (e, record s { log = x })) same ∙ sym (unfolded-answered name kind ack s (Err e, m) got)

-- Of an epoch.

acknowledged : (number size : ℕ) (e : EpochsState) → Appends e (acknowledging number size e).1 None
acknowledged number size e = go (is_awaited number size e)
  where
    go : (b : Bool) → (let after : Result (Unit {0}) Refusal × EpochsState = (if b then (Ok tt, record e { sizes = drop 1 e.sizes })
        else (Err BadBarrierAck, e)) in Appends e after.1 None)
    go true = record { places = omega arith; due = omega arith }
    go false = nothing-appended e

confirming-steps : (s : Settings) (number size : ℕ) (l : LogState) → IsSoundLog s l → Steps s l (confirming number size l) None
confirming-steps s number size l sound = record {
  sound = sound-confirming s number size l sound;
  accepted = refl;
  connection = refl;
  appends = acknowledged number size l.epochs;
}

pub confirmed-steps : (s : Settings) (number size : ℕ) (l m : LogState) (r : Result (Unit {0}) Refusal) (u : Unit {0})
    → (let got : Result (Unit {0}) Refusal × LogState = (r, m) in got ≡ barrier_acked number size l) → r ≡ Ok u → IsSoundLog s l → Steps s l m None
confirmed-steps s number size l m r u is ok sound = go (may_confirm number size l) is
  where
    go : (b : Bool) → (let got : Result (Unit {0}) Refusal × LogState = (r, m) in got ≡ (if b then (Ok tt, confirming number size l)
        else (Err BadBarrierAck, l))) → Steps s l m None
    go true is = rw (ap (λ (p : Result (Unit {0}) Refusal × LogState). p.1) is) (confirming-steps s number size l sound)
    go false is = absurd (let result : r ≡ Err BadBarrierAck = ap (λ (p : Result (Unit {0}) Refusal × LogState). p.0) is in cc)

pub confirmed-not : (number size : ℕ) (l m : LogState) (r : Result (Unit {0}) Refusal) (e : Refusal)
    → (let got : Result (Unit {0}) Refusal × LogState = (r, m) in got ≡ barrier_acked number size l) → r ≡ Err e → m ≡ l
confirmed-not number size l m r e is err = go (may_confirm number size l) is
  where
    go : (b : Bool) → (let got : Result (Unit {0}) Refusal × LogState = (r, m) in got ≡ (if b then (Ok tt, confirming number size l)
        else (Err BadBarrierAck, l))) → m ≡ l
    go true is = absurd (let result : r ≡ Ok tt = ap (λ (p : Result (Unit {0}) Refusal × LogState). p.0) is in cc)
    go false is = ap (λ (p : Result (Unit {0}) Refusal × LogState). p.1) is

unfolded-confirmed : (number size : ℕ) (e : EndState) (s : PrimaryState) (p : Result (Unit {0}) Refusal × LogState)
    → (is_unsent number e.unsent || is_in_epoch number e.under_way) ≡ false → p ≡ barrier_acked number size s.log
    → confirmed number size e s ≡ elim p.0 as
    (λ _. Taken) [ Err refusal ↦ Err (refusal, s) | Ok done ↦ Ok (logged (what.Frame command.BarrierAck None) (None, p.1) s) ]
unfolded-confirmed number size e s p may is =
    rw (may, confirmed) (ap (λ (q : Result (Unit {0}) Refusal × LogState). elim q.0 as
    (λ _. Taken) [ Err refusal ↦ Err (refusal, s) | Ok done ↦ Ok (logged (what.Frame command.BarrierAck None) (None, q.1) s) ]) (sym is))

pub confirmed-err : (number size : ℕ) (e : EndState) (s : PrimaryState) (m : LogState) (r : Result (Unit {0}) Refusal) (refusal : Refusal)
    → (is_unsent number e.unsent || is_in_epoch number e.under_way) ≡ false
    → (let got : Result (Unit {0}) Refusal × LogState = (r, m) in got ≡ barrier_acked number size s.log) → r ≡ Err refusal
    → taken_as (Err refusal) (record s { log = m }) ≡ confirmed number size e s
confirmed-err number size e s m r refusal may is err =
    let same = confirmed-not number size s.log m r refusal is err in
    let got = subst (λ (x : Result (Unit {0}) Refusal). (let g : Result (Unit {0}) Refusal × LogState = (x, m) in g ≡ barrier_acked number size s.log)) err
    is in
    ap (λ (x : LogState). Err (refusal, record s { log = x })) same ∙ sym (unfolded-confirmed number size e s (Err refusal, m) may got)
