-- The secondary's steps keep its connections linked to the ends of the other node, whatever those are.
use Rattle.std.proofs.Common.{ℕ, ◌≡◌, ◌<◌, Bool, true, false, List, ◌++◌, length, take, map, Option, Some, None, slice_get, refl, sym, ◌∙◌, subst}
use Rattle.std.specs.Prelude.{option_map}
use Rattle.std.proofs.lemmas.Option.{slice_get-map}
use Rattle.blocks.specs.declared.settings.Settings.{Settings}
use Rattle.blocks.specs.declared.settings.Protocol.{Protocol}
use Rattle.model.specs.Stream.{StreamItem, IsBeginning}
use Rattle.model.specs.Frames.{Packet, Received}
use Rattle.model.specs.Primary.{PrimaryConnection, last_of, change_last, frames_due}
use Rattle.model.specs.Secondary.{SecondaryConnection, SecondaryHistory, no_secondary_connection, secondary_connection, with_secondary_connection, items_taken}
use Rattle.model.specs.Secondary.{answers_due}
use Rattle.model.specs.SecondarySteps.{answering, barrier_answer, barriers_to_answer, receive, peer, peer_fault, ack_out, close_secondary}
use Rattle.model.specs.SecondarySteps.{applied_answer, applying, failing, adopting, applied_with}
use Rattle.laws.proofs.Lists.Beginnings.{begins-self}
use Rattle.laws.proofs.Secondary.Moves.{framed, receipting, pushed_one, closed_end, after-receive, after-peer, after-fault, after-push}
use Rattle.laws.proofs.Secondary.Moves.{after-close}
use Rattle.laws.proofs.Pair.Links.{AreLinked, GoesOnToo, linked-on-too, linked-pushing-too, linked-taking-too}
use Rattle.laws.proofs.Joining.Taking.{read}
use Rattle.laws.proofs.Lists.Pairs.{Pairs, pairs-there}
use Rattle.laws.proofs.Rules.RefusedFrames.{refused_end}

-- The connections of a secondary are linked to these ends.
pub record HasEndsToo (here there : Settings) (ends : List PrimaryConnection) (h : SecondaryHistory) : Type 0 where
  pub settings : h.settings ≡ there
  pub pairs : Pairs (AreLinked here there) ends h.connections

-- Changes after which more is due, or as much.

goes-answering : (d : SecondaryConnection) → GoesOnToo d (answering d)
goes-answering d = go d.closed
  where
    go : (b : Bool) → GoesOnToo d (elim b as
        (λ _. SecondaryConnection) [ true ↦ d | false ↦ record d { due = d.due ++ map (barrier_answer d) (barriers_to_answer d) } ])
    go true = record { hello = refl; due = begins-self d.due; pushed = refl; taken = refl }
    go false = record { hello = refl; due = (map (barrier_answer d) (barriers_to_answer d), refl); pushed = refl; taken = refl }

goes-applying : (asked : Protocol) (place : ℕ) (d : SecondaryConnection) → GoesOnToo d (applying asked place d)
goes-applying asked place d = go (slice_get (items_taken d) place)
  where
    go : (v : Option StreamItem) → GoesOnToo d (applied_with v asked place d)
    go None = record { hello = refl; due = begins-self d.due; pushed = refl; taken = refl }
    go (Some item) = record {
      hello = refl;
      due = elim d.closed as (λ b. IsBeginning d.due (elim b as (λ _. List Packet) [ true ↦ d.due | false ↦ d.due ++ applied_answer asked place item ])) [
        | true ↦ begins-self d.due
        | false ↦ (applied_answer asked place item, refl)
      ];
      pushed = refl;
      taken = refl;
    }

module _ (here there : Settings) (ends : List PrimaryConnection) (none : PrimaryConnection) where
  -- the last connection changes
  ends-change : (h later : SecondaryHistory) (f : SecondaryConnection → SecondaryConnection) → HasEndsToo here there ends h → later.settings ≡ h.settings
      → later.connections ≡ change_last f h.connections
      → (AreLinked here there (last_of none ends) (secondary_connection h) → AreLinked here there (last_of none ends) (f (secondary_connection h)))
      → HasEndsToo here there ends later
  ends-change h later f e settings connections keeps = record {
    settings = settings ∙ e.settings;
    pairs = rw connections (pairs-there (AreLinked here there) f none (no_secondary_connection h) ends h.connections e.pairs keeps);
  }

  ends-on : (h later : SecondaryHistory) (f : SecondaryConnection → SecondaryConnection) → HasEndsToo here there ends h → later.settings ≡ h.settings
      → later.connections ≡ change_last f h.connections
      → GoesOnToo (secondary_connection h) (f (secondary_connection h)) → HasEndsToo here there ends later
  ends-on h later f e settings connections on = ends-change h later f e settings connections
      (linked-on-too here there (last_of none ends) (secondary_connection h) (f (secondary_connection h)) on)

  -- the answers that follow
  pub ends-answering : (h : SecondaryHistory) → HasEndsToo here there ends h → HasEndsToo here there ends (with_secondary_connection answering h)
  ends-answering h e = ends-on h (with_secondary_connection answering h) answering e refl refl (goes-answering (secondary_connection h))

  -- the next frame that the other end pushed is taken, if there is one
  pub ends-receive : (frame : Option Received) (out_of_memory : Bool) (h : SecondaryHistory) → HasEndsToo here there ends h
      → frame ≡ option_map read (slice_get (take (last_of none ends).pushed (frames_due here (last_of none ends))) (length (secondary_connection h).taken))
      → HasEndsToo here there ends (receive frame out_of_memory h).1
  ends-receive frame out_of_memory h e next = after-receive (HasEndsToo here there ends) h frame out_of_memory e (λ one is standing.
      let at = slice_get-map read (take (last_of none ends).pushed (frames_due here (last_of none ends))) (length (secondary_connection h).taken)
      ∙ (sym next ∙ is) in
      let taken : HasEndsToo here there ends (with_secondary_connection (framed one) h) = ends-change h (with_secondary_connection (framed one) h)
      (framed one) e refl refl
      (linked-taking-too here there (last_of none ends) (secondary_connection h) one at) in
      record {
        accepts = ends-answering (with_secondary_connection (framed one) h) taken;
        receipts =
            λ write place was late. ends-answering _
            (ends-on (with_secondary_connection (framed one) h) _ (receipting (length (items_taken (secondary_connection h))) write) taken refl refl
            (record { hello = refl; due = (_, refl); pushed = refl; taken = refl }));
        adopts = λ item tuple consistent was late. ends-answering (adopting tuple consistent (with_secondary_connection (framed one) h))
            (record { settings = taken.settings; pairs = taken.pairs });
        refuses = ends-on (with_secondary_connection (framed one) h) _ refused_end taken refl refl
            (record { hello = refl; due = begins-self (secondary_connection (with_secondary_connection (framed one) h)).due; pushed = refl; taken = refl });
      })

  -- an item is applied
  pub ends-peer : (place : ℕ) (h : SecondaryHistory) → HasEndsToo here there ends h → HasEndsToo here there ends (peer place h).1
  ends-peer place h e = after-peer (HasEndsToo here there ends) h place e (λ waiting first.
      ends-answering (with_secondary_connection (applying h.settings.protocol place) h)
      (ends-on h _ (applying h.settings.protocol place) e refl refl (goes-applying h.settings.protocol place (secondary_connection h))))

  -- an item fails
  pub ends-fault-too : (place : ℕ) (offsets : List ℕ) (h : SecondaryHistory) → HasEndsToo here there ends h
      → HasEndsToo here there ends (peer_fault place offsets h).1
  ends-fault-too place offsets h e = after-fault (HasEndsToo here there ends) h place offsets e (λ waiting first.
      ends-on h _ (failing place offsets) e refl refl (record { hello = refl; due = begins-self (secondary_connection h).due; pushed = refl; taken = refl }))

  -- an acknowledgement is pushed, which was due
  pub ends-push : (room out_of_memory : Bool) (h : SecondaryHistory) → HasEndsToo here there ends h
      → HasEndsToo here there ends (ack_out room out_of_memory h).1
  ends-push room out_of_memory h e = after-push (HasEndsToo here there ends) h room out_of_memory e (λ standing due.
      ends-change h (with_secondary_connection pushed_one h) pushed_one e refl refl
      (linked-pushing-too here there (last_of none ends) (secondary_connection h)
      (subst (λ (s : Settings). (secondary_connection h).pushed < length (answers_due s (secondary_connection h))) e.settings due)))

  -- the end closes
  pub ends-close-too : (h : SecondaryHistory) → HasEndsToo here there ends h → HasEndsToo here there ends (close_secondary h).1
  ends-close-too h e = after-close (HasEndsToo here there ends) h e (λ standing.
      ends-on h (with_secondary_connection closed_end h) closed_end e refl refl
      (record { hello = refl; due = begins-self (secondary_connection h).due; pushed = refl; taken = refl }))
