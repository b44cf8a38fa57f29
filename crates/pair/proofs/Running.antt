-- One event after another.
use Rattle.std.proofs.Common.{ℕ, suc, ◌≡◌, ◌+◌, ◌≤◌, ◌<◌, false, List, [], ◌∷◌, ◌++◌, length, map, take, refl, sym, ◌∙◌, ap, subst, arith}
use Rattle.std.specs.Prelude.{slice_index_or}
use Rattle.std.proofs.Math.Seq.{take-suc, take-length}
use Rattle.std.proofs.lemmas.List.{length-append, length-take-le}
use Rattle.std.proofs.lemmas.List.Elements.{All-nil, All-push, All-same}
use Rattle.blocks.specs.declared.outcome.Reply.{Reply}
use Rattle.model.specs.Pair as model
use Rattle.pair_protocol.specs.State.{IsPairStep, Ran, is_out_of_memory}
use Rattle.pair_protocol.proofs.Running.{ran-none, ran-more}
use Rattle.pair.specs.declared.event.Event.{Event}
use Rattle.pair.specs.Events.{event_of}
use Rattle.pair.specs.Replies.{tells_protocol_error}
use Rattle.pair.specs.Running.{HasRun}
use Rattle.pair.specs.State.{PairView, state}

mapped : (xs ys : List Event) → map event_of (xs ++ ys) ≡ map event_of xs ++ map event_of ys
mapped [] ys = refl
mapped (x ∷ xs) ys = ap (λ (l : List model.Event). event_of x ∷ l) (mapped xs ys)

length-mapped : (xs : List Event) → length (map event_of xs) ≡ length xs
length-mapped [] = refl
length-mapped (x ∷ xs) = ap suc (length-mapped xs)

-- the reply tells no protocol error
abbrev IsHonest : Reply → Type 0
IsHonest one = tells_protocol_error one ≡ false

-- nothing happened yet
pub none-ran : (events : List Event) (replies : List Reply) (len capacity : ℕ) (p : PairView) → replies ≡ [] → len ≡ 0 → length events ≤ capacity
    → HasRun events 0 replies len capacity p p
none-ran events replies len capacity p none empty room = record {
  ran = subst (λ (r : List Reply). Ran [] r (state p) (state p)) (sym none) (ran-none (state p));
  honest_link = All-same IsHonest replies [] none (All-nil IsHonest);
  returned = ap length none;
  room = room;
  size = empty;
}

-- one event more
pub one-ran : (events : List Event) (count : ℕ) (replies after : List Reply) (len capacity later : ℕ) (start now next : PairView) (event : Event) (one : Reply)
    → HasRun events count replies len capacity start now → count < length events
    → event ≡ slice_index_or events count event → IsPairStep (event_of event) (is_out_of_memory one) (state now) one (state next)
    → tells_protocol_error one ≡ false → after ≡ replies ++ one ∷ [] → later ≡ len + 1 → HasRun events (count + 1) after later capacity start next
one-ran events count replies after len capacity later start now next event one was within item step honest grown more = record {
  ran = subst (λ (l : List model.Event). Ran l after (state start) (state next)) (sym listed)
      (subst (λ (r : List Reply). Ran (map event_of (take count events) ++ event_of event ∷ []) r (state start) (state next)) (sym grown)
      (ran-more (map event_of (take count events)) replies (event_of event) one (state start) (state now) (state next) same was.ran step));
  honest_link = All-same IsHonest after (replies ++ one ∷ []) grown (All-push IsHonest replies one was.honest_link honest);
  returned = (let n = ap length grown in let m = length-append replies (one ∷ []) in let k = was.returned in omega (arith, n, m, k));
  room = was.room;
  size = (let k = was.size in omega (arith, more, k));
}
  where
    same : length (map event_of (take count events)) ≡ length replies
    same = let a = length-mapped (take count events) in let b = length-take-le count events (omega (arith, within)) in let k =
        was.returned in omega (arith, a, b, k)

    counts : count + 1 ≡ suc count
    counts = omega arith

    listed : map event_of (take (count + 1) events) ≡ map event_of (take count events) ++ event_of event ∷ []
    listed =
        ap (λ n. map event_of (take n events)) counts ∙ ap (map event_of) (take-suc events count event within)
        ∙ mapped (take count events) (slice_index_or events count event ∷ [])
        ∙ ap (λ (e : Event). map event_of (take count events) ++ event_of e ∷ []) (sym item)

-- all of them
pub all-ran : (events : List Event) (count : ℕ) (replies : List Reply) (len capacity : ℕ) (start now : PairView)
    → HasRun events count replies len capacity start now → count ≡ length events → Ran (map event_of events) replies (state start) (state now)
all-ran events count replies len capacity start now was all =
    subst (λ (l : List Event). Ran (map event_of l) replies (state start) (state now)) (ap (λ n. take n events) all ∙ take-length events) was.ran
