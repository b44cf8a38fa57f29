-- What is said of requests that have ended, and of one more.
use Rattle.std.proofs.Common.{◌≡◌, Bool, true, List, [], ◌∷◌, ◌++◌, map, sym, ◌∙◌, ap, subst}
use Rattle.std.specs.List.{flat_map}
use Rattle.std.proofs.lemmas.Grind.{flat_map-append}
use Rattle.std.proofs.lemmas.List.{append-nil}
use Rattle.std.proofs.lemmas.List.Elements.{All-append, All-nil, All-push, All-weaker}
use mathlib.Core.List.{IsPrefix, append_cancel_left}
use Rattle.model.specs.Settlement.{Receipt}
use Rattle.nbd.specs.Requested.{Requested}
use Rattle.nbd.specs.Spans.{places}
use Rattle.told.specs.declared.entry.Told.{Told}
use Rattle.told.specs.declared.entry.Told.TheVariants.{Given}
use Rattle.told.specs.Log.{WasTold}
use Rattle.told.proofs.Seeing.{stays-told}
use Rattle.serve_requests.specs.Answered.{AnsweredState, AreAnswered, AreGiven, IsAnswered, IsUnderWay, answered_as}
use Rattle.serve_requests.specs.Places.{IsBegunFor, IsFrontBy}
use Rattle.serve_requests.specs.Receipts.{HasBegun, HasMore, IsSame, job_of, receipt_job}
use Rattle.serve_requests.specs.RequestUnderWay.{UnderWayState}
use Rattle.serve_requests.proofs.Beginning.{front-weaker}
use Rattle.serve_requests.proofs.Telling.{begun-weaker}

-- What `says` holds of, `means` does, too.
pub given-weaker : (says means : Told → Type 0) → ((one : Told) → says one → means one) → (receipts : List Receipt) → AreGiven says receipts
    → AreGiven means receipts
given-weaker says means weaker receipts each =
    All-weaker (λ (r : Receipt). says (Given r)) (λ (r : Receipt). means (Given r)) (λ r was. weaker (Given r) was) receipts each

answered-weaker : (says means : Told → Type 0) → ((one : Told) → says one → means one) → (answered : AnsweredState) → IsAnswered says answered
    → IsAnswered means answered
answered-weaker says means weaker answered is = record {
  front = front-weaker (IsBegunFor says) (IsBegunFor means) (places answered.request) answered.begun (begun-weaker says means weaker) is.front;
  whole = is.whole;
  each = is.each;
  given = given-weaker says means weaker answered.receipts is.given;
}

pub are-weaker : (says means : Told → Type 0) → ((one : Told) → says one → means one) → (receipts : List Receipt) → AreAnswered says receipts
    → AreAnswered means receipts
are-weaker says means weaker receipts are = record {
  requests = are.requests;
  each = All-weaker (IsAnswered says) (IsAnswered means) (answered-weaker says means weaker) are.requests are.each;
  all = are.all;
}

-- those of no request
pub none-answered : (says : Told → Type 0) (receipts : List Receipt) → receipts ≡ [] → AreAnswered says receipts
none-answered says receipts empty = record { requests = []; each = All-nil (IsAnswered says); all = empty }

-- those of some requests, and then of others
pub more-answered : (says : Told → Type 0) (old more new : List Receipt) → new ≡ old ++ more → AreAnswered says old → AreAnswered says more
    → AreAnswered says new
more-answered says old more new grown one other = record {
  requests = one.requests ++ other.requests;
  each = All-append (IsAnswered says) one.requests other.requests one.each other.each;
  all = grown ∙ ap (λ l. l ++ more) one.all ∙ ap (λ l. flat_map (λ (answered : AnsweredState). answered.receipts) one.requests ++ l) other.all
      ∙ sym (flat_map-append (λ (answered : AnsweredState). answered.receipts) one.requests other.requests);
}

-- those of one more request
pub one-answered : (says : Told → Type 0) (u : UnderWayState) (done : Bool) (old new : List Receipt) → IsUnderWay says u
    → (done ≡ true → HasBegun u.request u.begun) → (done ≡ true → HasMore receipt_job (map job_of u.begun) old new)
    → (more : List Receipt) × (new ≡ old ++ more) × AreGiven says more → AreAnswered says old → AreAnswered says new
one-answered says u done old new front whole each kept before =
    let one : AnsweredState = answered_as u.request done u.begun kept.0 in
    let is : IsAnswered says one = record {
      front = front;
      whole = whole;
      each = λ all.
          let has = each all in
          ap (map receipt_job) (append_cancel_left old kept.0 has.more (sym kept.1 ∙ has.appended)) ∙ has.each;
      given = kept.2;
    } in
    more-answered says old kept.0 new kept.1 before (record {
      requests = one ∷ [];
      each = All-push (IsAnswered says) [] one (All-nil (IsAnswered says)) is;
      all = sym (append-nil kept.0);
    })

-- a request that was just begun: its places are the same whether or not it was divided
pub begun-under_way : (log seen : List Told) (request : Requested) (u : UnderWayState) → IsSame request u.request
    → IsFrontBy (IsBegunFor (WasTold log)) (places request) u.begun → seen ≡ log → IsUnderWay (WasTold seen) u
begun-under_way log seen request u is front same =
    let there : IsFrontBy (IsBegunFor (WasTold log)) (places u.request) u.begun
    = subst (λ (r : Requested). IsFrontBy (IsBegunFor (WasTold log)) (places r) u.begun) (sym is) front in
    subst (λ (l : List Told). IsFrontBy (IsBegunFor (WasTold l)) (places u.request) u.begun) (sym same) there

-- Those of one more request, which was begun by what a thread had been told then, and ended by what it was told at last. What was known
-- before, and both of these, are known now.
pub answered-more : (before began mine said between last : List Told) → IsPrefix before between × IsPrefix began between
    → IsPrefix between last × IsPrefix said last → said ≡ mine → (u : UnderWayState) (done : Bool) (old new : List Receipt)
    → IsUnderWay (WasTold began) u → (done ≡ true → HasBegun u.request u.begun)
    → (done ≡ true → HasMore receipt_job (map job_of u.begun) old new)
    → (more : List Receipt) × (new ≡ old ++ more) × AreGiven (WasTold mine) more → AreAnswered (WasTold before) old → AreAnswered (WasTold last) new
answered-more before began mine said between last one two same u done old new under whole each kept answered =
    let mine_on : IsPrefix mine last = subst (λ (l : List Told). IsPrefix l last) same two.1 in
    one-answered (WasTold last) u done old new
    (front-weaker (IsBegunFor (WasTold began)) (IsBegunFor (WasTold last)) (places u.request) u.begun
    (begun-weaker (WasTold began) (WasTold last) (λ t was. stays-told between last t two.0 (stays-told began between t one.1 was))) under)
    whole each
    (kept.0, kept.1, given-weaker (WasTold mine) (WasTold last) (λ t was. stays-told mine last t mine_on was) kept.0 kept.2)
    (are-weaker (WasTold before) (WasTold last) (λ t was. stays-told between last t two.0 (stays-told before between t one.0 was)) old answered)

-- those that one thread kept, and then those of another
pub answered-both : (mine other both : List Told) → IsPrefix mine both × IsPrefix other both → (old more new : List Receipt) → new ≡ old ++ more
    → AreAnswered (WasTold mine) old → AreAnswered (WasTold other) more → AreAnswered (WasTold both) new
answered-both mine other both seen old more new grown one two = more-answered (WasTold both) old more new grown
    (are-weaker (WasTold mine) (WasTold both) (λ t was. stays-told mine both t seen.0 was) old one)
    (are-weaker (WasTold other) (WasTold both) (λ t was. stays-told other both t seen.1 was) more two)

-- all that was known is in the log
pub answered-on : (seen log : List Told) → IsPrefix seen log → (receipts : List Receipt) → AreAnswered (WasTold seen) receipts
    → AreAnswered (WasTold log) receipts
answered-on seen log on receipts are = are-weaker (WasTold seen) (WasTold log) (λ t was. stays-told seen log t on was) receipts are
