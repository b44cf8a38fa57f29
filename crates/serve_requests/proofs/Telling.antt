-- What a caller was told of a request's writes and reads, which stays told.
use Rattle.std.proofs.Common.{ℕ, ◌≡◌, ◌*◌, ◌==◌, ◌&&◌, true, false, List, [], ◌∷◌, ◌++◌, length, Result, Ok, Err, sym, ◌∙◌, ap, subst, append_assoc}
use Rattle.std.specs.Prelude.{◌%◌, IfOk, OnErr, is_ok}
use Rattle.std.specs.List.{All}
use Rattle.std.proofs.lemmas.Bool.{both_ways}
use Rattle.std.proofs.lemmas.List.{append-nil}
use Rattle.std.proofs.lemmas.List.Elements.{All-append, All-nil, All-push, All-weaker}
use mathlib.Core.List.{IsPrefix}
use Rattle.model.specs.Settlement.{Receipt}
use Rattle.nbd.specs.declared.errno.Errno.{Errno}
use Rattle.nbd.specs.Requested.{Requested}
use Rattle.nbd.specs.Spans.{covering}
use Rattle.device_parts.specs.Places.{Place, is_whole, laid_over}
use Rattle.session_api.specs.Begun.{BegunState}
use Rattle.told.specs.declared.entry.Told.{Told}
use Rattle.told.specs.declared.entry.Told.TheVariants.{Accepted, Given, Patched}
use Rattle.told.specs.Callers.{CallerState}
use Rattle.told.specs.Log.{Extends, SaysGiven, SaysHeldSince, WasTold}
use Rattle.told.proofs.Seeing.{prefix-self, since-earlier, since-on, stays-told, told-last, told-prefix}
use Rattle.serve_requests.specs.Ended.{spelled_in}
use Rattle.serve_requests.specs.Places.{IsBegunFor, IsFrontTo}
use Rattle.serve_requests.specs.Reads.{AreHeld}
use Rattle.serve_requests.specs.Told.{IsReadTold}
use Rattle.serve_requests.proofs.Beginning.{front-to-weaker}

-- what a caller was told last
pub told-at : {X E : Type 0} (of : X → Told) (old new : List Told) (result : Result X E) → IfOk result (λ x. Extends old (of x) new)
    → IfOk result (λ x. WasTold new (of x))
told-at of old new (Ok x) told = told-last old (of x) new told
told-at of old new (Err e) told = tt

-- a caller that was told something, or nothing where that was refused
pub goes-on : {X E : Type 0} (of : X → Told) (old new : CallerState) (result : Result X E) → IfOk result (λ x. Extends old.log (of x) new.log)
    → OnErr result (new ≡ old) → IsPrefix old.log new.log
goes-on of old new (Ok x) told untold = told-prefix old.log (of x) new.log told
goes-on of old new (Err e) told untold = subst (λ (c : CallerState). IsPrefix old.log c.log) (sym untold) (prefix-self old.log)

-- what `says` holds of, `means` does, too
pub begun-weaker : (says means : Told → Type 0) → ((one : Told) → says one → means one) → (place : Place) (begun : BegunState)
    → IsBegunFor says place begun → IsBegunFor means place begun
begun-weaker says means weaker place begun is = record {
  of = is.of;
  accepted = λ whole. weaker (Accepted begun.number place.block place.bytes) (is.accepted whole);
  patched = λ part. weaker (Patched begun.number place.block place.from place.bytes) (is.patched part);
  laid = is.laid;
}

-- the writes that were begun for places
pub begun-on : (old new : List Told) → IsPrefix old new → (all rest : List Place) (begun : List BegunState)
    → IsFrontTo (IsBegunFor (WasTold old)) all rest begun → IsFrontTo (IsBegunFor (WasTold new)) all rest begun
begun-on old new seen all rest begun done = front-to-weaker (IsBegunFor (WasTold old)) (IsBegunFor (WasTold new)) all rest begun
    (begun-weaker (WasTold old) (WasTold new) (λ one was. stays-told old new one seen was)) done

-- a write of whole blocks
pub begun-whole : (says : Told → Type 0) (place : Place) (block from : ℕ) (bytes : List ℕ) (result : Result BegunState Errno) → block ≡ place.block
    → from ≡ place.from → bytes ≡ place.bytes → (from == 0) && (length bytes % 4096 == 0) ≡ true
    → IfOk result (λ b. (b.first ≡ block) × (b.count * 4096 ≡ length bytes)) → IfOk result (λ b. b.contents ≡ bytes)
    → IfOk result (λ b. says (Accepted b.number block bytes)) → IfOk result (IsBegunFor says place)
begun-whole says place block from bytes (Err e) at begins is multiple range contents told = tt
begun-whole says place block from bytes (Ok b) at begins is multiple range contents told =
    let whole : is_whole place ≡ true = subst (λ f. (f == 0) && (length place.bytes % 4096 == 0) ≡ true) begins
    (subst (λ (l : List ℕ). (from == 0) && (length l % 4096 == 0) ≡ true) is multiple) in record {
      of = record {
        first = range.0 ∙ at;
        whole = λ w. contents ∙ is;
        blocks = λ w. range.1 ∙ ap length is;
        one = λ part. absurd (both_ways (is_whole place) part whole);
      };
      accepted = λ w. subst (λ n. says (Accepted b.number n place.bytes)) at (subst (λ (l : List ℕ). says (Accepted b.number block l)) is told);
      patched = λ part. absurd (both_ways (is_whole place) part whole);
      laid = λ part. absurd (both_ways (is_whole place) part whole);
    }

-- a write within a block
pub begun-part : (says : Told → Type 0) (place : Place) (block from : ℕ) (bytes : List ℕ) (result : Result BegunState Errno) → block ≡ place.block
    → from ≡ place.from → bytes ≡ place.bytes → (from == 0) && (length bytes % 4096 == 0) ≡ false
    → IfOk result (λ b. (b.first ≡ block) × (b.count ≡ 1)) → IfOk result (λ b. (old : List ℕ) × (b.contents ≡ laid_over from bytes old))
    → IfOk result (λ b. says (Patched b.number block from bytes)) → IfOk result (IsBegunFor says place)
begun-part says place block from bytes (Err e) at begins is part one laid told = tt
begun-part says place block from bytes (Ok b) at begins is part one laid told =
    let not_whole : is_whole place ≡ false = subst (λ f. (f == 0) && (length place.bytes % 4096 == 0) ≡ false) begins
    (subst (λ (l : List ℕ). (from == 0) && (length l % 4096 == 0) ≡ false) is part) in record {
      of = record {
        first = one.0 ∙ at;
        whole = λ w. absurd (both_ways (is_whole place) not_whole w);
        blocks = λ w. absurd (both_ways (is_whole place) not_whole w);
        one = λ p. one.1;
      };
      accepted = λ w. absurd (both_ways (is_whole place) not_whole w);
      patched = λ p. subst (λ n. says (Patched b.number n place.from place.bytes)) at
          (subst (λ f. says (Patched b.number block f place.bytes)) begins (subst (λ (l : List ℕ). says (Patched b.number block from l)) is told));
      laid = λ p. (
        laid.0,
        subst (λ f. b.contents ≡ laid_over f place.bytes laid.0) begins (subst (λ (l : List ℕ). b.contents ≡ laid_over from l laid.0) is laid.1),
      );
    }

-- the receipts that were given
pub given-on : (old new : List Told) → IsPrefix old new → (receipts : List Receipt) → All (SaysGiven old) receipts → All (SaysGiven new) receipts
given-on old new seen receipts each = All-weaker (SaysGiven old) (SaysGiven new) (λ r was. stays-told old new (Given r) seen was) receipts each

-- the bytes that were held, by a relation that says less
held-weaker : (holds means : ℕ → ℕ → List ℕ → Type 0) → ((first count : ℕ) (bytes : List ℕ) → holds first count bytes → means first count bytes)
    → (ranges : List (ℕ × ℕ)) (bytes : List ℕ) → AreHeld holds ranges bytes → AreHeld means ranges bytes
held-weaker holds means less [] bytes held = held
held-weaker holds means less (range ∷ ranges) bytes held = (
  held.0,
  (
    held.1.0,
    (held.1.1.0, (less range.0 range.1 held.0 held.1.1.1.0, held-weaker holds means less ranges held.1.0 held.1.1.1.1)),
  ),
)

-- they stay held
pub held-on : (seen old new : List Told) → IsPrefix old new → (ranges : List (ℕ × ℕ)) (bytes : List ℕ) → AreHeld (SaysHeldSince seen old) ranges bytes
    → AreHeld (SaysHeldSince seen new) ranges bytes
held-on seen old new on = held-weaker (SaysHeldSince seen old) (SaysHeldSince seen new) (since-on seen old new on)

-- what is told of a READ since a moment is told since an earlier one
pub read-earlier : (earlier seen log : List Told) → IsPrefix earlier seen → (request : Requested) (spelled : List ℕ)
    → IsReadTold (SaysHeldSince seen log) request spelled → IsReadTold (SaysHeldSince earlier log) request spelled
read-earlier earlier seen log on request spelled is = record {
  bytes = is.bytes;
  read = record {
    all = is.read.all;
    held = held-weaker (SaysHeldSince seen log) (SaysHeldSince earlier log) (since-earlier earlier seen log on) (covering request.offset request.length)
        is.read.all is.read.held;
    cut = is.read.cut;
  };
  long = is.long;
  told = is.told;
}

pub spelled-earlier : (earlier seen log : List Told) → IsPrefix earlier seen → (request : Requested) (result : Result (List ℕ) Errno)
    → IfOk result (IsReadTold (SaysHeldSince seen log) request) → is_ok result ≡ true
    → IsReadTold (SaysHeldSince earlier log) request (spelled_in result)
spelled-earlier earlier seen log on request (Ok spelled) is done = read-earlier earlier seen log on request spelled is
spelled-earlier earlier seen log on request (Err e) is done = absurd (let wrong : false ≡ true = done in cc (wrong))

-- what was appended by two, one after the other, each receipt of which was given
pub given-more : (between new : List Told) (old first last : List Receipt) → IsPrefix between new
    → (more : List Receipt) × (first ≡ old ++ more) × All (SaysGiven between) more → (more : List Receipt) × (last ≡ first ++ more) × All (SaysGiven new) more
    → (more : List Receipt) × (last ≡ old ++ more) × All (SaysGiven new) more
given-more between new old first last seen one other = (
  one.0 ++ other.0,
  other.1 ∙ ap (λ l. l ++ other.0) one.1 ∙ append_assoc old one.0 other.0,
  All-append (SaysGiven new) one.0 other.0 (given-on between new seen one.0 one.2) other.2,
)

-- no receipt was appended
pub given-none : (log : List Told) (old new : List Receipt) → new ≡ old → (more : List Receipt) × (new ≡ old ++ more) × All (SaysGiven log) more
given-none log old new same = ([], same ∙ sym (append-nil old), All-nil (SaysGiven log))

-- one receipt was, and it was given
pub given-one : (seen now : List Told) (old new : List Receipt) (receipt : Receipt) → new ≡ old ++ receipt ∷ [] → Extends seen (Given receipt) now
    → (more : List Receipt) × (new ≡ old ++ more) × All (SaysGiven now) more
given-one seen now old new receipt grown told =
    (receipt ∷ [], grown, All-push (SaysGiven now) [] receipt (All-nil (SaysGiven now)) (told-last seen (Given receipt) now told))

-- what was appended stays given
pub given-still : (seen now : List Told) → IsPrefix seen now → (old new : List Receipt)
    → (more : List Receipt) × (new ≡ old ++ more) × All (SaysGiven seen) more → (more : List Receipt) × (new ≡ old ++ more) × All (SaysGiven now) more
given-still seen now on old new kept = (kept.0, kept.1, given-on seen now on kept.0 kept.2)
