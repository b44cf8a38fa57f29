-- The two ends of each connection: what has to hold of them so that their frames are joined, and what changes of one end keep.
use Rattle.std.proofs.Common.{suc, ◌≡◌, ◌≤◌, ◌<◌, List, [], ◌∷◌, ◌++◌, length, take, map, Some, slice_get, sym, ◌∙◌, ap, subst, arith}
use Rattle.blocks.specs.declared.settings.Settings.{Settings}
use Rattle.blocks.specs.declared.tuple.Tuple.{Tuple}
use Rattle.model.specs.Stream.{IsBeginning}
use Rattle.model.specs.Frames.{Packet, Received, hello_of}
use Rattle.model.specs.Primary.{PrimaryConnection, frames_due}
use Rattle.model.specs.Secondary.{SecondaryConnection, answers_due}
use Rattle.laws.proofs.Rules.FramesDue.{due-begins}
use Rattle.laws.proofs.Lists.Beginnings.{begins-trans, take-begins, length-begins, begins-further, begins-map, begins-next, begins-append}
use Rattle.laws.proofs.Joining.Taking.{read}

-- The ends of a connection: what each took begins what the other pushed, and no more is pushed than is due.
pub record AreLinked (here there : Settings) (c : PrimaryConnection) (d : SecondaryConnection) : Type 0 where
  pub out : IsBeginning d.taken (map read (take c.pushed (frames_due here c)))
  pub back : IsBeginning c.taken (map read (take d.pushed (answers_due there d)))
  pub sent : c.pushed ≤ length (frames_due here c)
  pub answered : d.pushed ≤ length (answers_due there d)

-- Frames due.

-- what is due at the secondary only grows at its end
answers-begin : (settings : Settings) (d e : SecondaryConnection) → e.hello ≡ d.hello → IsBeginning d.due e.due
    → IsBeginning (answers_due settings d) (answers_due settings e)
answers-begin settings d e hello due =
    subst (λ (t : Tuple). IsBeginning (answers_due settings d) (hello_of settings t ++ e.due)) (sym hello)
    (begins-append (hello_of settings d.hello) d.due e.due due)

-- A change of the primary's end that the other end does not see yet: more is due.
pub record GoesOn (c e : PrimaryConnection) : Type 0 where
  pub hello : e.hello ≡ c.hello
  pub stream : IsBeginning c.stream e.stream
  pub pushed : e.pushed ≡ c.pushed
  pub taken : e.taken ≡ c.taken

-- the same of the secondary's end
pub record GoesOnToo (d e : SecondaryConnection) : Type 0 where
  pub hello : e.hello ≡ d.hello
  pub due : IsBeginning d.due e.due
  pub pushed : e.pushed ≡ d.pushed
  pub taken : e.taken ≡ d.taken

-- the ends stay linked as more is due
pub linked-on : (here there : Settings) (c e : PrimaryConnection) (d : SecondaryConnection) → GoesOn c e → AreLinked here there c d → AreLinked here there e d
linked-on here there c e d on l =
    let due = due-begins here c e on.hello on.stream in
    let first : take c.pushed (frames_due here c) ≡ take e.pushed (frames_due here e) = take-begins c.pushed (frames_due here c) (frames_due here e) l.sent due
    ∙ ap (λ n. take n (frames_due here e)) (sym on.pushed) in
    record {
      out = subst (λ (x : List Packet). IsBeginning d.taken (map read x)) first l.out;
      back = subst (λ (x : List Received). IsBeginning x (map read (take d.pushed (answers_due there d)))) (sym on.taken) l.back;
      sent = let more = length-begins (frames_due here c) (frames_due here e) due in let was = l.sent in let same = on.pushed in omega arith;
      answered = l.answered;
    }

-- the same where more is due at the other end
pub linked-on-too : (here there : Settings) (c : PrimaryConnection) (d e : SecondaryConnection) → GoesOnToo d e → AreLinked here there c d
    → AreLinked here there c e
linked-on-too here there c d e on l =
    let due = answers-begin there d e on.hello on.due in
    let first : take d.pushed (answers_due there d) ≡ take e.pushed (answers_due there e) = take-begins d.pushed (answers_due there d)
    (answers_due there e) l.answered due ∙ ap (λ n. take n (answers_due there e)) (sym on.pushed) in
    record {
      out = subst (λ (x : List Received). IsBeginning x (map read (take c.pushed (frames_due here c)))) (sym on.taken) l.out;
      back = subst (λ (x : List Packet). IsBeginning c.taken (map read x)) first l.back;
      sent = l.sent;
      answered = let more = length-begins (answers_due there d) (answers_due there e) due in let was = l.answered in let same = on.pushed in omega arith;
    }

-- one more frame is pushed
pub linked-pushing : (here there : Settings) (c : PrimaryConnection) (d : SecondaryConnection) → c.pushed < length (frames_due here c)
    → AreLinked here there c d
    → AreLinked here there (record c { pushed = suc c.pushed }) d
linked-pushing here there c d less l =
    let more = begins-map read (take c.pushed (frames_due here c)) (take (suc c.pushed) (frames_due here c)) (begins-further c.pushed (frames_due here c)) in
    record {
      out = begins-trans d.taken (map read (take c.pushed (frames_due here c))) (map read (take (suc c.pushed) (frames_due here c))) l.out more;
      back = l.back;
      sent = omega arith;
      answered = l.answered;
    }

-- one more answer is pushed
pub linked-pushing-too : (here there : Settings) (c : PrimaryConnection) (d : SecondaryConnection) → d.pushed < length (answers_due there d)
    → AreLinked here there c d
    → AreLinked here there c (record d { pushed = suc d.pushed })
linked-pushing-too here there c d less l =
    let more = begins-map read (take d.pushed (answers_due there d)) (take (suc d.pushed) (answers_due there d))
    (begins-further d.pushed (answers_due there d)) in
    record {
      out = l.out;
      back = begins-trans c.taken (map read (take d.pushed (answers_due there d))) (map read (take (suc d.pushed) (answers_due there d)))
          l.back more;
      sent = l.sent;
      answered = omega arith;
    }

-- the primary takes the next answer
pub linked-taking : (here there : Settings) (c : PrimaryConnection) (d : SecondaryConnection) (frame : Received)
    → slice_get (map read (take d.pushed (answers_due there d))) (length c.taken) ≡ Some frame
    → AreLinked here there c d → AreLinked here there (record c { taken = c.taken ++ frame ∷ [] }) d
linked-taking here there c d frame next l = record {
  out = l.out;
  back = begins-next c.taken (map read (take d.pushed (answers_due there d))) frame l.back next;
  sent = l.sent;
  answered = l.answered;
}

-- the other end takes the next frame
pub linked-taking-too : (here there : Settings) (c : PrimaryConnection) (d : SecondaryConnection) (frame : Received)
    → slice_get (map read (take c.pushed (frames_due here c))) (length d.taken) ≡ Some frame
    → AreLinked here there c d → AreLinked here there c (record d { taken = d.taken ++ frame ∷ [] })
linked-taking-too here there c d frame next l = record {
  out = begins-next d.taken (map read (take c.pushed (frames_due here c))) frame l.out next;
  back = l.back;
  sent = l.sent;
  answered = l.answered;
}
