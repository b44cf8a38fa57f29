-- What is sent next: which frame stands where among those that an end owes, and how many they are.
use Rattle.std.proofs.Common.{ℕ, zero, suc, ◌≡◌, ◌+◌, ◌-◌, ◌<◌, List, [], ◌∷◌, ◌++◌, length, take, drop, map, Option, Some, None, slice_get, Ok, refl, sym}
use Rattle.std.proofs.Common.{◌∙◌, ap, subst, arith}
use Rattle.std.specs.Prelude.{filter_map, option_map}
use Rattle.std.specs.List.{cons_option}
use Rattle.std.proofs.lemmas.List.{length-append}
use Rattle.blocks.specs.declared.settings.Settings.{Settings}
use Rattle.blocks.specs.declared.tuple.Tuple.{Tuple}
use Rattle.model.specs.Stream.{StreamItem, WriteItem, ResyncItem, BarrierItem, SyncUuidItem, UuidsItem, IsBeginning}
use Rattle.model.specs.Frames.{Packet, Received, hello_of, frame_of, frames_from, frames_of}
use Rattle.model.specs.Primary.{PrimaryConnection, frames_due}
use Rattle.model.specs.Secondary.{received_item}
use Rattle.laws.proofs.Lists.Beginnings.{begins-append}

-- The frames of a stream.

-- each item has its frame
frame-at : (start n : ℕ) (items : List StreamItem) → slice_get (frames_from start items) n ≡ option_map (frame_of (start + n)) (slice_get items n)
frame-at start n [] = refl
frame-at start zero (x ∷ items) = ap (λ m. Some (frame_of m x)) (omega arith)
frame-at start (suc n) (x ∷ items) = frame-at (start + 1) n items ∙ ap (λ m. option_map (frame_of m) (slice_get items n)) (omega arith)

length-frames : (start : ℕ) (items : List StreamItem) → length (frames_from start items) ≡ length items
length-frames start [] = refl
length-frames start (x ∷ items) = let rest = length-frames (start + 1) items in omega arith

-- those of a stream begin those of a longer one
frames-begin : (place : ℕ) (xs ys : List StreamItem) → IsBeginning (frames_from place xs) (frames_from place (xs ++ ys))
frames-begin place [] ys = (frames_from place ys, refl)
frames-begin place (x ∷ xs) ys = let rest = frames-begin (place + 1) xs ys in (rest.0, ap (λ (l : List Packet). frame_of place x ∷ l) rest.1)

-- What an end owes.

-- first its hello
pub due-hello : (settings : Settings) (c : PrimaryConnection) (n : ℕ) → n < 3 → slice_get (frames_due settings c) n ≡ slice_get (hello_of settings c.hello) n
due-hello settings c zero early = refl
due-hello settings c (suc zero) early = refl
due-hello settings c (suc (suc zero)) early = refl
due-hello settings c (suc (suc (suc n))) early = absurd (omega arith)

-- and then each item of its stream
pub due-at : (settings : Settings) (c : PrimaryConnection) (n : ℕ) → slice_get (frames_due settings c) (3 + n) ≡ option_map (frame_of n) (slice_get c.stream n)
due-at settings c n =
    let index : 3 + n ≡ suc (suc (suc n)) = omega arith in
    ap (slice_get (frames_due settings c)) index
    ∙ (frame-at 0 n c.stream ∙ ap (λ m. option_map (frame_of m) (slice_get c.stream n)) (omega arith))

pub due-item : (settings : Settings) (c : PrimaryConnection) (n : ℕ) (packet : Packet) → slice_get (frames_due settings c) (3 + n) ≡ Some packet
    → (item : StreamItem) × (slice_get c.stream n ≡ Some item) × (packet ≡ frame_of n item)
due-item settings c n packet at = go (slice_get c.stream n) (sym (due-at settings c n) ∙ at)
  where
    go : (v : Option StreamItem) → option_map (frame_of n) v ≡ Some packet → (item : StreamItem) × (v ≡ Some item) × (packet ≡ frame_of n item)
    go None is = absurd (cc)
    go (Some item) is = (item, refl, let e : frame_of n item ≡ packet = cc in sym e)

-- that many frames
pub length-due : (settings : Settings) (c : PrimaryConnection) → length (frames_due settings c) ≡ 3 + length c.stream
length-due settings c =
    let front : length (frames_due settings c) ≡ 3 + length (frames_of c.stream) = length-append (hello_of settings c.hello) (frames_of c.stream) in
    let rest : length (frames_of c.stream) ≡ length c.stream = length-frames 0 c.stream in
    omega arith

-- with the same hello and stream they are the same
pub due-same : (settings : Settings) (c e : PrimaryConnection) → e.hello ≡ c.hello → e.stream ≡ c.stream → frames_due settings e ≡ frames_due settings c
due-same settings c e hello stream = λ i. hello_of settings (hello i) ++ frames_of (stream i)

-- and where the stream goes on they grow at their end
pub due-begins : (settings : Settings) (c e : PrimaryConnection) → e.hello ≡ c.hello → IsBeginning c.stream e.stream
    → IsBeginning (frames_due settings c) (frames_due settings e)
due-begins settings c e hello stream =
    subst (λ (t : Tuple). IsBeginning (frames_due settings c) (hello_of settings t ++ frames_of e.stream)) (sym hello)
    (subst (λ (s : List StreamItem). IsBeginning (frames_due settings c) (hello_of settings c.hello ++ frames_of s)) stream.1
    (begins-append (hello_of settings c.hello) (frames_of c.stream) (frames_of (c.stream ++ stream.0)) (frames-begin 0 c.stream stream.0)))

-- the items that the frames of a stream bring are the stream's
item-of : (place : ℕ) (item : StreamItem) → received_item (Ok (frame_of place item)) ≡ Some item
item-of place (WriteItem write) = refl
item-of place (ResyncItem block contents) = refl
item-of place (BarrierItem epoch) = refl
item-of place (SyncUuidItem word) = refl
item-of place (UuidsItem tuple) = refl

-- a frame as it is read
abbrev read : Packet → Received
read packet = Ok packet

items-of : (n place : ℕ) (stream : List StreamItem) → filter_map received_item (map read (take n (frames_from place stream))) ≡ take n stream
items-of zero place stream = refl
items-of (suc n) place [] = refl
items-of (suc n) place (item ∷ stream) =
    ap (λ v. cons_option v (filter_map received_item (map read (take n (frames_from (place + 1) stream))))) (item-of place item)
    ∙ ap (λ (l : List StreamItem). item ∷ l) (items-of n (place + 1) stream)

-- of the first so many that an end owes, they are those behind the hello
pub due-items : (settings : Settings) (c : PrimaryConnection) (n : ℕ)
    → filter_map received_item (drop 3 (map read (take n (frames_due settings c)))) ≡ take (n - 3) c.stream
due-items settings c zero = refl
due-items settings c (suc zero) = refl
due-items settings c (suc (suc zero)) = refl
due-items settings c (suc (suc (suc n))) = items-of n 0 c.stream ∙ ap (λ m. take m c.stream) (omega arith)
