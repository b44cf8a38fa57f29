-- Frames that begin the frames sent are received as packets that begin the packets pushed.
use Rattle.std.proofs.Common.{◌≡◌, ℕ, zero, suc, ◌==◌, Bool, true, false, List, [], ◌∷◌, ◌++◌, length, map, Some, Ok, refl, sym, ap, ◌∙◌, subst}
use Rattle.std.specs.Prelude.{if◌then◌else◌, slice_get}
use Rattle.std.specs.List.{AllByRecursion}
use Rattle.std.proofs.lemmas.Grind.{flat_map-append}
use Rattle.std.proofs.lemmas.List.Concat.{flat_map-cons}
use Rattle.packets.specs.Cutting.{IsCut}
use Rattle.packets.proofs.Cuts.{spelled_cut}
use Rattle.packets.proofs.Hellos.{read_spelled}
use Rattle.link.specs.Past.{Past}
use Rattle.model.specs.Frames.{Received}
use Rattle.model.specs.Frames as frames
use Rattle.model.specs.Stream.{IsBeginning}
use Rattle.endpoint.specs.Meaning.{meaning, received, meant, meant_in, IsSpelled}
use Rattle.link.specs.Ends.{InEnd, OutEnd}
use Rattle.endpoint.specs.PacketReceiver.{TakenBefore, incoming, hello_after, received_after, received_from, taken_before}
use Rattle.endpoint.specs.PacketSender.{PushedBefore, outgoing, pushed_before}
use Rattle.endpoint.specs.Joined.{PacketsFollow, PacketsFollowEverywhere, BeginsPushed, pushed_past, sent_past, taken_past, came_past}
use Rattle.endpoint.proofs.Meanings.{meant_spelled}

all_front : {X : Type 0} (P : X → Type 0) (xs ys : List X) → AllByRecursion P (xs ++ ys) → AllByRecursion P xs
all_front P [] ys h = tt
all_front P (x ∷ xs) ys h = (h.0, all_front P xs ys h.1)

abbrev ok : frames.Packet → Received
ok p = Ok p

-- frames that are spelled are received as their packets
received_spelled : (n : ℕ) (taken : List (List ℕ)) → AllByRecursion IsSpelled taken → received_from n taken ≡ map ok (meant_in taken)
received_spelled n [] h = refl
received_spelled n (frame ∷ taken) ((p, rules, spells), rest) =
    let one : received_after n frame ≡ ok (meaning p) = ap received (read_spelled (hello_after n) frame p rules spells) in
    let meant_is : meant_in (frame ∷ taken) ≡ meaning p ∷ meant_in taken =
    flat_map-cons meant frame taken ∙ ap (λ (x : List frames.Packet). x ++ meant_in taken) (meant_spelled frame p rules spells) in
    ap (λ (x : Received). x ∷ received_from (suc n) taken) one
    ∙ ap (λ (rest : List Received). ok (meaning p) ∷ rest) (received_spelled (suc n) taken rest)
    ∙ sym (ap (map ok) meant_is)

begins : (taken sent : List (List ℕ)) → AllByRecursion IsSpelled sent → IsBeginning taken sent → BeginsPushed (received_from 0 taken) (meant_in sent)
begins taken sent spelled (rest, whole) = record {
  front = meant_in taken;
  each = received_spelled 0 taken (all_front IsSpelled taken rest (subst (AllByRecursion IsSpelled) (sym whole) spelled));
  begins = (meant_in rest, sym (flat_map-append meant taken rest) ∙ ap meant_in whole);
}

-- each frame is one packet, or a fault
meant_count : (sent : List (List ℕ)) → AllByRecursion IsSpelled sent → length (meant_in sent) ≡ length sent
meant_count [] h = refl
meant_count (frame ∷ sent) ((p, rules, spells), rest) =
    let meant_is : meant_in (frame ∷ sent) ≡ meaning p ∷ meant_in sent =
    flat_map-cons meant frame sent ∙ ap (λ (x : List frames.Packet). x ++ meant_in sent) (meant_spelled frame p rules spells) in
    ap length meant_is ∙ ap suc (meant_count sent rest)

received_count : (n : ℕ) (taken : List (List ℕ)) → length (received_from n taken) ≡ length taken
received_count n [] = refl
received_count n (frame ∷ taken) = ap suc (received_count (suc n) taken)

pub returned : (o : OutEnd) (i : InEnd) → AllByRecursion IsSpelled o.sent → PacketsFollow (outgoing o) (incoming i)
returned o i spelled = record { begins = begins i.taken o.sent spelled; pushed = meant_count o.sent spelled; taken = received_count 0 i.taken }

-- an item of a mapped list
item_of_map : {X Y : Type 0} (f : X → Y) (xs : List X) (i : ℕ) (y : Y) → slice_get (map f xs) i ≡ Some y → (x : X) × (slice_get xs i ≡ Some x) × (y ≡ f x)
item_of_map f [] i y e = absurd cc
item_of_map f (x ∷ xs) zero y e = (x, refl, cc)
item_of_map f (x ∷ xs) (suc i) y e = item_of_map f xs i y e

item_of_all : {X : Type 0} (P : X → Type 0) (xs : List X) (i : ℕ) (x : X) → AllByRecursion P xs → slice_get xs i ≡ Some x → P x
item_of_all P [] i x h e = absurd cc
item_of_all {X = X} P (first ∷ xs) zero x h e = let same : first ≡ x = cc in subst P same h.0
item_of_all P (first ∷ xs) (suc i) x h e = item_of_all P xs i x h.1 e

pub past_begins : (came went : List Past) → AllByRecursion (λ before. AllByRecursion IsSpelled before.frames) went
    → (i j : ℕ) (taken : TakenBefore) (pushed : PushedBefore) → slice_get (map taken_before came) i ≡ Some taken
    → slice_get (map pushed_before went) j ≡ Some pushed
    → IsBeginning taken.frames pushed.frames → BeginsPushed taken.taken pushed.pushed
past_begins came went spelled i j taken pushed at_i at_j beginning =
    let t = item_of_map taken_before came i taken at_i in
    let p = item_of_map pushed_before went j pushed at_j in
    let all : AllByRecursion IsSpelled p.0.frames = item_of_all (λ (before : Past). AllByRecursion IsSpelled before.frames) went j p.0 spelled p.1 in
    let frames_begin : IsBeginning t.0.frames p.0.frames =
    subst (λ (x : TakenBefore). IsBeginning x.frames p.0.frames) t.2 (subst (λ (x : PushedBefore). IsBeginning taken.frames x.frames) p.2 beginning) in
    let b : BeginsPushed (taken_before t.0).taken (pushed_before p.0).pushed = begins t.0.frames p.0.frames all frames_begin in
    subst (λ (x : TakenBefore). BeginsPushed x.taken pushed.pushed) (sym t.2)
    (subst (λ (x : PushedBefore). BeginsPushed (taken_before t.0).taken x.pushed) (sym p.2) b)

-- frames that are spelled are cut off a row as they are
pub spelled_cuts : (sent : List (List ℕ)) → AllByRecursion IsSpelled sent → AllByRecursion IsCut sent
spelled_cuts [] h = tt
spelled_cuts (frame ∷ sent) ((p, rules, spells), rest) = (spelled_cut p frame rules spells, spelled_cuts sent rest)

pub past_cuts : (went : List Past) → AllByRecursion (λ before. AllByRecursion IsSpelled before.frames) went
    → (j : ℕ) (pushed : PushedBefore) → slice_get (map pushed_before went) j ≡ Some pushed → AllByRecursion IsCut pushed.frames
past_cuts went spelled j pushed at_j =
    let p = item_of_map pushed_before went j pushed at_j in
    let all : AllByRecursion IsSpelled p.0.frames = item_of_all (λ (before : Past). AllByRecursion IsSpelled before.frames) went j p.0 spelled p.1 in
    subst (λ (x : PushedBefore). AllByRecursion IsCut x.frames) (sym p.2) (spelled_cuts p.0.frames all)

-- The packets of an earlier connection by its number: those of the frames that went on it.

abbrev frames_past : ℕ → List Past → List (List ℕ)
frames_past number [] = []
frames_past number (before ∷ past) = if before.number == number then before.frames else frames_past number past

spelled_past : (number : ℕ) (went : List Past) → AllByRecursion (λ before. AllByRecursion IsSpelled before.frames) went
    → AllByRecursion IsSpelled (frames_past number went)
spelled_past number [] h = tt
spelled_past number (before ∷ went) h = go (before.number == number) (spelled_past number went h.1)
  where
    go : (b : Bool) → AllByRecursion IsSpelled (frames_past number went) → AllByRecursion IsSpelled (if b then before.frames else frames_past number went)
    go true rest = h.0
    go false rest = rest

pushed_meant : (number : ℕ) (went : List Past) → pushed_past number (map pushed_before went) ≡ meant_in (frames_past number went)
pushed_meant number [] = refl
pushed_meant number (before ∷ went) = go (before.number == number) (pushed_meant number went)
  where
    go : (b : Bool) → pushed_past number (map pushed_before went) ≡ meant_in (frames_past number went)
        → (if b then meant_in before.frames else pushed_past number (map pushed_before went)) ≡ meant_in (if b then before.frames else frames_past number went)
    go true rest = refl
    go false rest = rest

pub sent_frames : (number : ℕ) (went : List Past) → sent_past number (map pushed_before went) ≡ frames_past number went
sent_frames number [] = refl
sent_frames number (before ∷ went) = ap (λ (rest : List (List ℕ)). if before.number == number then before.frames else rest) (sent_frames number went)

taken_received : (number : ℕ) (came : List Past) → taken_past number (map taken_before came) ≡ received_from 0 (frames_past number came)
taken_received number [] = refl
taken_received number (before ∷ came) = go (before.number == number) (taken_received number came)
  where
    go : (b : Bool) → taken_past number (map taken_before came) ≡ received_from 0 (frames_past number came)
        → (if b then received_from 0 before.frames else taken_past number (map taken_before came)) ≡ received_from 0 (if b then before.frames
        else frames_past number came)
    go true rest = refl
    go false rest = rest

pub came_frames : (number : ℕ) (came : List Past) → came_past number (map taken_before came) ≡ frames_past number came
came_frames number [] = refl
came_frames number (before ∷ came) = ap (λ (rest : List (List ℕ)). if before.number == number then before.frames else rest) (came_frames number came)

-- On each connection, whichever of them the two ends had.
pub everywhere : (o : OutEnd) (i : InEnd) → AllByRecursion IsSpelled o.sent → AllByRecursion (λ before. AllByRecursion IsSpelled before.frames) o.past
    → PacketsFollowEverywhere (outgoing o) (incoming i)
everywhere o i spelled past number = go (o.number == number) (i.number == number)
  where
    out : (b : Bool) → (if b then meant_in o.sent else pushed_past number (map pushed_before o.past)) ≡ meant_in (if b then o.sent
        else frames_past number o.past)
    out true = refl
    out false = pushed_meant number o.past

    inn : (b : Bool) → (if b then received_from 0 i.taken else taken_past number (map taken_before i.past)) ≡ received_from 0 (if b then i.taken
        else frames_past number i.past)
    inn true = refl
    inn false = taken_received number i.past

    all : (b : Bool) → AllByRecursion IsSpelled (if b then o.sent else frames_past number o.past)
    all true = spelled
    all false = spelled_past number o.past past

    sent : (b : Bool) → (if b then o.sent else sent_past number (map pushed_before o.past)) ≡ (if b then o.sent else frames_past number o.past)
    sent true = refl
    sent false = sent_frames number o.past

    came : (b : Bool) → (if b then i.taken else came_past number (map taken_before i.past)) ≡ (if b then i.taken else frames_past number i.past)
    came true = refl
    came false = came_frames number i.past

    go : (b c : Bool) → IsBeginning (if c then i.taken else came_past number (map taken_before i.past)) (if b then o.sent
        else sent_past number (map pushed_before o.past))
        → BeginsPushed (if c then received_from 0 i.taken else taken_past number (map taken_before i.past)) (if b then meant_in o.sent
        else pushed_past number (map pushed_before o.past))
    go b c beginning =
        let came_begins : IsBeginning (if c then i.taken else frames_past number i.past) (if b then o.sent else frames_past number o.past) =
        subst (λ (x : List (List ℕ)). IsBeginning x (if b then o.sent else frames_past number o.past)) (came c)
        (subst (λ (x : List (List ℕ)). IsBeginning (if c then i.taken else came_past number (map taken_before i.past)) x) (sent b) beginning) in
        let packets = begins (if c then i.taken else frames_past number i.past) (if b then o.sent else frames_past number o.past) (all b) came_begins in
        subst (λ (x : List Received). BeginsPushed x (if b then meant_in o.sent else pushed_past number (map pushed_before o.past))) (sym (inn c))
        (subst (λ (x : List frames.Packet). BeginsPushed (received_from 0 (if c then i.taken else frames_past number i.past)) x) (sym (out b)) packets)
