-- A stream begins.
use Rattle.std.proofs.Common.{◌≡◌, Bool, true, false, ◌||◌, List, length, refl, sym, ◌∙◌, ap, Option, Some, None}
use Rattle.std.specs.Prelude.{Ok, replicate}
use Rattle.blocks.specs.declared.tuple.Tuple.{Tuple}
use Rattle.blocks.specs.declared.outcome.Done.{Done}
use Rattle.blocks.specs.declared.outcome.What.TheVariants as what
use Rattle.blocks.specs.declared.outcome.Decision.{Decision}
use Rattle.blocks.specs.declared.outcome.Decision.TheVariants.{NoSync, BitmapSync, FullSync}
use Rattle.blocks.specs.Identifiers.{stands_in, decision}
use Rattle.transferlog.specs.Log.{connecting}
use Rattle.primary_protocol.specs.Core.{EndState, PrimaryState, following}
use Rattle.primary_protocol.specs.Taking.{begun_with, last_connection, meeting}
use Rattle.primary_core.specs.Take.{resyncing, taken_as}
use Rattle.primary_core.proofs.Marking.{all-marked, none-more}

-- the stream stands
abbrev pub connected : PrimaryState → PrimaryState
connected s = record s { log = connecting (last_connection s) s.log }

pub begun-bitmap : (e : EndState) (s t u : PrimaryState) → t ≡ connected s → s.end ≡ Some e → (t.end ≡ Some e → u ≡ resyncing e t)
    → u ≡ begun_with BitmapSync e s
begun-bitmap e s t u is_established is resyncs =
    resyncs (ap (λ (x : PrimaryState). x.end) is_established ∙ is)
    ∙ (ap (resyncing e) is_established ∙ ap (λ (m : List Bool). record (resyncing e (connected s)) { marks = m }) (sym (none-more 0 s.marks)))

pub begun-full : (e : EndState) (s r t u : PrimaryState) → r ≡ record s { marks = replicate (length s.marks) true } → t ≡ connected r → s.end ≡ Some e
    → (t.end ≡ Some e → u ≡ resyncing e t) → u ≡ begun_with FullSync e s
begun-full e s r t u marks is_established is resyncs =
    let before = is_established ∙ ap connected marks in
    resyncs (ap (λ (x : PrimaryState). x.end) before ∙ is)
    ∙ (ap (resyncing e) before ∙ ap (λ (m : List Bool). record (resyncing e (connected s)) { marks = m }) (sym (all-marked 0 s.marks)))

-- the peer's identifiers allow the connection
pub meets : (peer : Tuple) (e : EndState) (s : PrimaryState) (decided : Decision) (r : Done × PrimaryState)
    → (stands_in e.sync peer || stands_in e.loss peer) ≡ false → decision s.tuple peer ≡ Ok decided
    → r ≡ following (what.Decided decided) None (begun_with decided e (record s { peer = Some peer })) → taken_as (Ok r.0) r.1 ≡ meeting peer e s
meets peer e s decided r fresh is follows = rw (fresh, meeting) (rw is (ap (λ (p : Done × PrimaryState). Ok p) follows))

-- the end before the stream began does not matter
pub begun-over : (decided : Decision) (e : EndState) (s : PrimaryState) (end : Option EndState)
    → begun_with decided e (record s { end = end }) ≡ begun_with decided e s
begun-over NoSync e s end = refl
begun-over BitmapSync e s end = refl
begun-over FullSync e s end = refl
