-- `learn` puts what both have seen together.
use Rattle.std.proofs.Common.{◌≡◌, ℕ, List, [], ◌∷◌, ◌++◌, sym, refl, ap, ◌∙◌, subst}
use mathlib.Core.List.{IsPrefix}
use mir.Syntax.{a_type, dcons, dnil, named}
use mir.Val.{Val, vunit, vptr}
use mir.MapTy.{inst_fn}
use base.Logic.{SProp, ent, emp, id⊢, via}
use base.Fml.{Lft, Fml, ftrue, fsep, flft, fhide}
use types.Logic.{sem}
use types.Kit.{‵, raw, ◌⊛◌, some, given, later, mean, ◌$◌, ◌∵◌, !, qed, by, move, keep, drop, split, fsplit, fsplit3, fjoin, fjoin3, pick, learn, use0, use1, use2, await, feq_i}
use types.Run.{unit_lit, of_opd, no_more, and_then, returns, enter}
use types.ByLocal.{alloc_all, pass_all, free_all, look_at, get, sets, env}
use types.Part.{agg}
use contract.Monad.{fact, fact_i}
use contract.Running.{tables}
use denote.Exit.{yes, no}
use denote.RattleType.{RattleType, owns}
use denote.Signature.{types_at, plain}
use denote.Builtin.{RefOf, unit}
use denote.Ref.{mut_vals, mut_Tells, shr_vals, shr_Tells}
use denote.Memory.{hidden_shr}
use denote.Opens.{unhide}
use denote.Steps.{nothing, opens, closes}
use denote.Param.{param, bounded}
use denote.Struct.Tuple.{Tuple}
use denote.Struct.Lending.{lent_out}
use denote.Triple.Walked.{Stays, stay_dropped, stay_ref, walk_of, Goes-dropped, Goes-ref}
use Rattle.std.specs.contracts.marker.PhantomData as marker
use Rattle.atomic_table.proofs.Walks.{proved}
use Rattle.logbook.proofs.Fields.{token, Token, token_told, token_made, ends}
use Rattle.ghost_log.specs.Owned.{seen_owns}
use Rattle.ghost_log.specs.contracts.log.Seen as Seen
use Rattle.ghost_log.proofs.Steps as steps
use Rattle.ghost_log.specs.contracts.log.Seen.learn.{ended, clauses}
use Rattle.ghost_log.specs.contracts.log.Seen.learn.Key.{name as #self}
use Rattle.ghost_log.proofs.log.Seen.learn.Statement.{statement}
use Rattle.ghost_log.proofs.log.Seen.learn.Code as code

pub learn_spec : {M : Type 1} → statement M
learn_spec 𝓤 𝓛 𝓜 𝓡 wired E J _ _ g d _ =
    let H = 𝓛.H in let 𝓣 = tables 𝓤 H 𝓜 𝓡 𝓡.env in let E' : RattleType = param 0 E in let J' : RattleType = param 1 J in let En = ended E J g d in
    let inst = bounded (a_type ∷ a_type ∷ []) (E, (J, tt)) (dcons d dnil) in let fn = inst_fn inst code.function in let c = clauses E J g d 𝓛 𝓜.mem 𝓡.returns in
    let cv = E'.coded in let All : RattleType = Tuple (E' ∷ J' ∷ []) in
    let hs : Stays En.signature.params En.kept = (stay_ref (0 ∷ []) tt (plain (λ _. Seen.the_row E' J' g)), (stay_dropped (RefOf (1 ∷ []) tt (plain (λ _. Seen.the_row E' J' g)) (λ _. tt)) yes, tt)) in
    proved 𝓛 En hs c 𝓜 𝓡 (Goes-ref 𝓛 4 0 tt (plain (λ _. Seen.the_row E' J' g)), (Goes-dropped 𝓛 4 (RefOf (1 ∷ []) tt (plain (λ _. Seen.the_row E' J' g)) (λ _. tt)) yes (λ κs x f. refl), tt)) (#self inst) fn (code.unfolded 𝓤 H 𝓜 𝓡 wired (E, (J, tt)) d)
    (λ κs. (mut_vals, (shr_vals, tt))) (λ κs. (mut_Tells (named 0) κs.0 (Seen.the_row E' J' g), (shr_Tells (named 1) κs.1.0 (Seen.the_row E' J' g), tt))) (λ κs qs bounds a gh are.
    let me = a.0.now in let other = a.1.0.now in
    let y : (walk_of 𝓛 En hs c).Ghost = ((κs, qs, bounds, a, (vptr a.0.ref_ptr.0 a.0.ref_ptr.1 ∷ [], (vptr a.1.0.ref_ptr.0 a.1.0.ref_ptr.1 ∷ [], tt))), gh) in let Post : Val → SProp 𝓤 = (walk_of 𝓛 En hs c).post y in let toks : Fml = fsep (flft κs.0 qs.0) (fsep (flft κs.1.0 qs.1.0) (fsep (flft κs.1.1.0 qs.1.1.0) (fsep (flft κs.1.1.1.0 qs.1.1.1.0) ftrue))) in
    qed 𝓛 ((‵ toks ⊛ ‵ (owns (types_at En.signature.params κs) a y.0.4)) ∷ raw ((c κs a).requires gh) ∷ []) ∵ keep ! (0 ∷ []) $ split ! $
    fsplit ! $ move ! (1 ∷ []) $ fsplit ! $ move ! (3 ∷ []) $ fsplit ! $ fsplit3 ! $ move ! (3 ∷ []) $ fsplit ! $ fsplit ! $ keep ! (1 ∷ 4 ∷ 5 ∷ 6 ∷ 7 ∷ 8 ∷ []) $
    enter ! 𝓣.C 𝓣.Λ fn (vptr a.0.ref_ptr.0 a.0.ref_ptr.1 ∷ vptr a.1.0.ref_ptr.0 a.1.0.ref_ptr.1 ∷ []) Post $ alloc_all ! (λ l. pass_all ! refl ((tt, tt), ((tt, tt), tt)) $ let Ev = env fn.locals l in
    use1 𝓛 (‵ (hidden_shr (Token All) κs.1.0 (record {}, tt) a.1.0.ref_ptr.0 a.1.0.ref_ptr.1) ⊛ ‵ (fhide (seen_owns cv.code g.name other.log))) (lent_out 𝓛 (Seen.struct E' J' g) (Seen.the_codes E.Denot J.Denot E'.coded J'.coded (marker.the_row All).coded) (Seen.the_heap E' J' g) (Seen.the_lent E' J' g) κs.1.0 other a.1.0.ref_ptr.0 a.1.0.ref_ptr.1) $ split ! $ drop ! $ unhide ! $ move ! (1 ∷ 2 ∷ 5 ∷ []) $ opens ! tt (Seen.the_row E' J' g) a.0.ref_ptr.0 a.0.ref_ptr.1 (λ vs0. move ! (1 ∷ []) $ fsplit ! $
    move ! (1 ∷ 6 ∷ []) $ use2 𝓛 (some (λ (log : List E.Denot). given (IsPrefix me.log log × IsPrefix other.log log) (‵ (seen_owns cv.code g.name log)))) (steps.joins 𝓛 cv g.name me.log other.log) $ pick ! (λ log. learn ! (λ so. move ! (1 ∷ 0 ∷ []) $ fjoin ! $ move ! (1 ∷ 0 ∷ 2 ∷ 3 ∷ 4 ∷ []) $ closes ! tt (Seen.the_row E' J' g) (record { marker = record {}; log = log }) vs0 a.0.ref_ptr.0 a.0.ref_ptr.1 $ sets ! (of_opd ! (unit_lit !)) refl (tt, tt) $ feq_i ! (List Val) (vunit ∷ []) (vunit ∷ []) refl $
    move ! (4 ∷ 5 ∷ []) $ fjoin ! $ move ! (4 ∷ 0 ∷ []) $ fjoin ! $ nothing ! $ nothing ! $ fjoin ! $ feq_i ! (List Val) (vptr a.0.ref_ptr.0 a.0.ref_ptr.1 ∷ []) (vptr a.0.ref_ptr.0 a.0.ref_ptr.1 ∷ []) refl $ move ! (0 ∷ 4 ∷ 5 ∷ []) $ fjoin3 ! $ fjoin ! $
    returns ! (look_at ! 0 refl) $ free_all ! refl $ keep ! (1 ∷ 0 ∷ 2 ∷ []) $ by ! (ends 𝓛 En hs c y (vunit) (tt) (record { marker = record {}; log = log }, (tt, tt)) (tt, (tt, tt)) (fact_i 𝓤 _ (emp 𝓤) so)))))))
