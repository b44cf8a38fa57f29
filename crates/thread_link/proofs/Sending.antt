-- What was pushed is the frames sent.
use Rattle.std.proofs.Common.{◌≡◌, ◌≢◌, ℕ, ◌<◌, ◌≤◌, List, [], ◌∷◌, ◌++◌, refl, sym, ap, ◌∙◌, subst, inl, inr, arith}
use Rattle.std.proofs.lemmas.Bool.{cases_eq}
use Rattle.std.proofs.lemmas.List.{append-nil}
use Rattle.packets.specs.Cutting.{IsCut}
use Rattle.link.specs.Past.{Went, and_then, ended, over}
use Rattle.thread_link.specs.Pieces.{EndState, PieceState, bytes_on}
use Rattle.thread_link.specs.Carried.{joined, IsCarried, past_on}
use Rattle.thread_link.specs.Outward.{Sends, outward_state}
use Rattle.thread_link.proofs.Carrying.{all_append, all_map, bytes_append, bytes_one, bytes_above, no_bytes, other_bytes, own_bytes}
use Rattle.thread_link.proofs.Carrying.{joined_more, joined_none, rising_more, past_same, past_other}

nothing_carried : (n : ℕ) → IsCarried (bytes_on n []) [] []
nothing_carried n = record { bytes_are = no_bytes n ∙ sym (ap (λ (x : List ℕ). x ++ []) joined_none); cuts = tt }

pub sends_new : (pieces : EndState) (went none : Went) → pieces.pieces ≡ [] → went ≡ record { frames = []; past = [] }
    → Sends (outward_state pieces went 1 none.frames)
sends_new pieces went none p w = rw (p, w) (record {
  present = nothing_carried 1;
  before = λ m apart. nothing_carried m;
  highest = tt;
  rising = tt;
})

-- no frame went
pub sends_still : (pieces more : EndState) (went : Went) (number : ℕ) (part after : List (List ℕ)) → Sends (outward_state pieces went number part)
    → more ≡ pieces → Sends (outward_state more went number after)
sends_still pieces more went number part after s same = rw same (record {
  present = s.present;
  before = s.before;
  highest = s.highest;
  rising = s.rising;
})

-- a frame went
pub sends_frame : (pieces more : EndState) (went after : Went) (number : ℕ) (part none : List (List ℕ)) (frame : List ℕ)
    → Sends (outward_state pieces went number part) → IsCut frame
    → more ≡ record pieces { pieces = pieces.pieces ++ record { number = number; bytes = frame } ∷ [] } → after ≡ and_then frame went
    → Sends (outward_state more after number none)
sends_frame pieces more went after number part none frame s cut pushed is =
    let ps = pieces.pieces in
    let p : PieceState = record { number = number; bytes = frame } in
    let own : bytes_on number (p ∷ []) ≡ frame = bytes_one number p ∙ own_bytes number p refl in
    let other : (n : ℕ) → n ≢ number → bytes_on n (ps ++ p ∷ []) ≡ bytes_on n ps = λ n apart.
    bytes_append n ps (p ∷ []) ∙ ap (λ (x : List ℕ). bytes_on n ps ++ x) (bytes_one n p ∙ other_bytes n p (λ same. apart (sym same))) ∙ append-nil (bytes_on n ps) in
    rw (pushed, is) (record {
      present = record {
        bytes_are = bytes_append number ps (p ∷ [])
            ∙ ap (λ (x : List ℕ). x ++ bytes_on number (p ∷ [])) (s.present.bytes_are ∙ append-nil (joined went.frames))
            ∙ ap (λ (x : List ℕ). joined went.frames ++ x) own ∙ sym (joined_more went.frames frame) ∙ sym (append-nil (joined (went.frames ++ frame ∷ [])));
        cuts = all_append IsCut went.frames (frame ∷ []) s.present.cuts (cut, tt);
      };
      before = λ n apart. subst (λ (x : List ℕ). IsCarried x (past_on n went.past) []) (sym (other n apart)) (s.before n apart);
      highest = all_append (λ piece. piece.number ≤ number) ps (p ∷ []) s.highest (omega arith, tt);
      rising = s.rising;
    })

-- the connection is over
pub sends_over : (pieces : EndState) (went after : Went) (number next : ℕ) (part none : List (List ℕ)) → Sends (outward_state pieces went number part)
    → number < next → after ≡ over number went → Sends (outward_state pieces after next none)
sends_over pieces went after number next part none s later is =
    let ps = pieces.pieces in
    let past = ended number went.frames went.past in
    rw is (record {
      present = record {
        bytes_are = bytes_above number next ps later s.highest ∙ sym (ap (λ (x : List ℕ). x ++ []) joined_none);
        cuts = tt;
      };
      before = λ n apart. elim (cases_eq n number) [
        | inl same ↦ subst (λ (m : ℕ). IsCarried (bytes_on m ps) (past_on m past) []) (sym same)
            (subst (λ (x : List (List ℕ)). IsCarried (bytes_on number ps) x []) (sym (past_same went.past number went.frames s.rising)) s.present)
        | inr other ↦ subst (λ (x : List (List ℕ)). IsCarried (bytes_on n ps) x []) (sym (past_other went.past number n went.frames other)) (s.before n other)
      ];
      highest = all_map (λ piece. piece.number ≤ number) (λ piece. piece.number ≤ next) ps (λ p le. omega (arith, le, later)) s.highest;
      rising = rising_more went.past number next went.frames s.rising later;
    })
