-- A stream is read in one way.
use Rattle.std.proofs.Common.{◌≡◌, ℕ, suc, ◌+◌, ◌<◌, List, [], ◌∷◌, ◌++◌, length, take, drop, get_or, drop-cons, Option, Some, None, Result, Ok, Err, refl, sym}
use Rattle.std.proofs.Common.{ap, ◌∙◌, subst, append_assoc, arith, inl, inr}
use Rattle.std.specs.List.{flat_map, AllByRecursion}
use Rattle.std.proofs.lemmas.List.{length-append, take_at, take-append-le, take-append-drop}
use Rattle.std.proofs.lemmas.Grind.{flat_map-append}
use Rattle.std.proofs.lemmas.List.Concat.{flat_map-cons}
use Rattle.blocks.specs.declared.refusal.Refusal.{Refusal}
use Rattle.packets.specs.declared.header.Header.{Header}
use Rattle.packets.specs.declared.packet.Packet.{Packet}
use Rattle.packets.specs.Spelling.{payload, spelling}
use Rattle.packets.specs.Reading.{header_at}
use Rattle.packets.specs.Frames.{IsNoSpelling, IsFaultAfter, IsFrameFault, Answers}
use Rattle.packets.specs.Stream.{IsWritten, spellings, IsFront, IsFaultWith, IsFaultAt, Ends, Reads, Decodes, Gives}
use Rattle.packets.proofs.Frames.{header_of, header_again, spelling_length, one_packet, answers_only}
use Rattle.packets.proofs.Rows.{header_front}

abbrev judged : Header → Result Header Refusal
judged h = Ok h

headers_are : (g h : Header) → judged g ≡ judged h → g ≡ h
headers_are g h e = cc

-- ---- how a stream ends

-- a stream that goes on with a packet's spelling has not ended
not_front : (bytes more : List ℕ) (p : Packet) → IsWritten p → bytes ≡ spelling p ++ more → IsFront bytes → ⊥
not_front bytes more p written e (None, part) =
    omega (arith, part, ap length e, length-append (spelling p) more, spelling_length p)
not_front bytes more p written e (Some h, part) =
    let read : header_at bytes ≡ Ok (header_of p) = ap header_at e ∙ header_again p more written.0 in
    let same = headers_are h (header_of p) (sym part.1 ∙ read) in
    omega (arith, part.2, ap (λ (x : Header). x.len) same, ap length e, length-append (spelling p) more, spelling_length p)

not_fault : (bytes more : List ℕ) (p : Packet) (refusal : Refusal) → IsWritten p → bytes ≡ spelling p ++ more → IsFaultAt bytes refusal → ⊥
not_fault bytes more p refusal written e fault =
    let read : header_at bytes ≡ Ok (header_of p) = ap header_at e ∙ header_again p more written.0 in
    let with : IsFaultWith (Ok (header_of p)) bytes refusal = subst (λ (r : Result Header Refusal). IsFaultWith r bytes refusal) read fault.1 in
    let n = 8 + length (payload p) in
    let front : take n bytes ≡ spelling p = ap (take n) e ∙ take_at (spelling p) more n (spelling_length p) in
    with.2 p written.0 (record { fields = written.1; bytes_are = front })

not_ended : (fault : Option Refusal) (bytes more : List ℕ) (p : Packet) → IsWritten p → bytes ≡ spelling p ++ more → Ends fault bytes → ⊥
not_ended None bytes more p written e end = not_front bytes more p written e end
not_ended (Some refusal) bytes more p written e end = not_fault bytes more p refusal written e end

-- less than a frame has no fault
front_or_fault : (bytes : List ℕ) (refusal : Refusal) → IsFront bytes → IsFaultAt bytes refusal → ⊥
front_or_fault bytes refusal (None, part) fault = omega (arith, part, fault.0)
front_or_fault bytes refusal (Some h, part) fault =
    let with : IsFaultWith (Ok h) bytes refusal = subst (λ (r : Result Header Refusal). IsFaultWith r bytes refusal) part.1 fault.1 in
    omega (arith, part.2, with.0)

one_fault : (r : Result Header Refusal) (bytes : List ℕ) (a b : Refusal) → IsFaultWith r bytes a → IsFaultWith r bytes b → a ≡ b
one_fault (Err fault) bytes a b is other = is ∙ sym other
one_fault (Ok h) bytes a b is other = is.1 ∙ sym other.1

one_end : (f g : Option Refusal) (bytes : List ℕ) → Ends f bytes → Ends g bytes → f ≡ g
one_end None None bytes is other = refl
one_end None (Some b) bytes is other = absurd (front_or_fault bytes b is other)
one_end (Some a) None bytes is other = absurd (front_or_fault bytes a other is)
one_end (Some a) (Some b) bytes is other = ap (λ (x : Refusal). Some x) (one_fault (header_at bytes) bytes a b is.1 other.1)

-- ---- one reading

first_spelled : (p : Packet) (ps : List Packet) (rest : List ℕ) → spellings (p ∷ ps) ++ rest ≡ spelling p ++ (spellings ps ++ rest)
first_spelled p ps rest = ap (λ (x : List ℕ). x ++ rest) (flat_map-cons spelling p ps) ∙ append_assoc (spelling p) (spellings ps) rest

same_packets : (ps qs : List Packet) (r t : List ℕ) (f g : Option Refusal) → AllByRecursion IsWritten ps → AllByRecursion IsWritten qs → Ends f r → Ends g t
    → spellings ps ++ r ≡ spellings qs ++ t → (ps ≡ qs) × (r ≡ t) × (f ≡ g)
same_packets [] [] r t f g hp hq er et e = (refl, e, one_end f g t (subst (Ends f) e er) et)
same_packets [] (q ∷ qs) r t f g hp hq er et e = absurd (not_ended f r (spellings qs ++ t) q hq.0 (e ∙ first_spelled q qs t) er)
same_packets (p ∷ ps) [] r t f g hp hq er et e = absurd (not_ended g t (spellings ps ++ r) p hp.0 (sym e ∙ first_spelled p ps r) et)
same_packets (p ∷ ps) (q ∷ qs) r t f g hp hq er et e =
    let one = one_packet p q (spellings ps ++ r) (spellings qs ++ t) hp.0.0 hp.0.1 hq.0.0 hq.0.1 (sym (first_spelled p ps r) ∙ e ∙ first_spelled q qs t) in
    let rest = same_packets ps qs r t f g hp.1 hq.1 er et one.1 in
    (ap (λ (x : Packet). x ∷ ps) one.0 ∙ ap (λ (xs : List Packet). q ∷ xs) rest.0, rest.1, rest.2)

pub one_reading : (stream : List ℕ) (ps qs : List Packet) (r t : List ℕ) (f g : Option Refusal) → Reads stream ps r f → Reads stream qs t g
    → (ps ≡ qs) × (r ≡ t) × (f ≡ g)
one_reading stream ps qs r t f g a b = same_packets ps qs r t f g a.each b.each a.end b.end (sym a.whole ∙ b.whole)

-- ---- one answer to a frame

one_frame_fault : (r : Result Header Refusal) (frame : List ℕ) (a b : Refusal) → IsFaultAfter r frame a → IsFaultAfter r frame b → a ≡ b
one_frame_fault (Err fault) frame a b is other = is ∙ sym other
one_frame_fault (Ok h) frame a b (inl x) (inl y) = x.1 ∙ sym y.1
one_frame_fault (Ok h) frame a b (inl x) (inr y) = absurd (x.0 y.0)
one_frame_fault (Ok h) frame a b (inr x) (inl y) = absurd (y.0 x.0)
one_frame_fault (Ok h) frame a b (inr x) (inr y) = x.1 ∙ sym y.1

same_fault : (frame : List ℕ) (a b : Refusal) → IsFrameFault frame a → IsFrameFault frame b → a ≡ b
same_fault frame a b (inl x) (inl y) = x.1 ∙ sym y.1
same_fault frame a b (inl x) (inr y) = absurd (omega (arith, x.0, y.0))
same_fault frame a b (inr x) (inl y) = absurd (omega (arith, x.0, y.0))
same_fault frame a b (inr x) (inr y) = one_frame_fault (header_at frame) frame a b x.1 y.1

abbrev refused : Refusal → Result Packet Refusal
refused e = Err e

pub one_answer : (frame : List ℕ) (a b : Result Packet Refusal) → Answers frame a → Answers frame b → a ≡ b
one_answer frame (Ok p) b is other = sym (answers_only frame b other p is.0 is.1)
one_answer frame (Err a) (Ok q) is other = answers_only frame (Err a) is q other.0 other.1
one_answer frame (Err a) (Err b) is other = ap refused (same_fault frame a b is other)

-- ---- one piece after the other

each_append : (ps qs : List Packet) → AllByRecursion IsWritten ps → AllByRecursion IsWritten qs → AllByRecursion IsWritten (ps ++ qs)
each_append [] qs hp hq = hq
each_append (p ∷ ps) qs hp hq = (hp.0, each_append ps qs hp.1 hq)

-- what two pieces give
pub gives_then : (stream piece left rest : List ℕ) (old mid new : List Packet) → Gives stream old mid left → Gives (left ++ piece) mid new rest
    → Gives (stream ++ piece) old new rest
gives_then stream piece left rest old mid new a b = record {
  packets = a.packets ++ b.packets;
  added = b.added ∙ ap (λ (x : List Packet). x ++ b.packets) a.added ∙ append_assoc old a.packets b.packets;
  each = each_append a.packets b.packets a.each b.each;
  whole =
      ap (λ (x : List ℕ). x ++ piece) a.whole ∙ append_assoc (spellings a.packets) left piece
      ∙ ap (λ (x : List ℕ). spellings a.packets ++ x) b.whole
      ∙ sym (append_assoc (spellings a.packets) (spellings b.packets) rest)
      ∙ ap (λ (x : List ℕ). x ++ rest) (sym (flat_map-append spelling a.packets b.packets));
}

-- a fault stays, whatever follows
with_more : (r : Result Header Refusal) (bytes more : List ℕ) (refusal : Refusal) → IsFaultWith r bytes refusal → IsFaultWith r (bytes ++ more) refusal
with_more (Err fault) bytes more refusal is = is
with_more (Ok h) bytes more refusal is =
    let front : take (8 + h.len) (bytes ++ more) ≡ take (8 + h.len) bytes = take-append-le (8 + h.len) bytes more is.0 in
    (omega (arith, is.0, length-append bytes more), is.1, subst IsNoSpelling (sym front) is.2)

pub fault_stays : (bytes more : List ℕ) (refusal : Refusal) → IsFaultAt bytes refusal → IsFaultAt (bytes ++ more) refusal
fault_stays bytes more refusal is =
    let read : header_at (bytes ++ more) ≡ header_at bytes = header_front bytes more is.0 in (
      omega (arith, is.0, length-append bytes more),
      subst (λ (r : Result Header Refusal). IsFaultWith r (bytes ++ more) refusal) (sym read) (with_more (header_at bytes) bytes more refusal is.1),
    )

-- the packets that an empty list was given are those that the stream reads as
pub gives_reads : (stream left : List ℕ) (packets : List Packet) (fault : Option Refusal) → Gives stream [] packets left → Ends fault left
    → Reads stream packets left fault
gives_reads stream left packets fault g end =
    subst (λ (ps : List Packet). Reads stream ps left fault) (sym g.added) (record { whole = g.whole; each = g.each; end = end })

-- the same where more of the stream follows a fault
pub stops_reads : (stream left more : List ℕ) (packets : List Packet) (refusal : Refusal) → Gives stream [] packets left → IsFaultAt left refusal
    → Reads (stream ++ more) packets (left ++ more) (Some refusal)
stops_reads stream left more packets refusal g fault =
    subst (λ (ps : List Packet). Reads (stream ++ more) ps (left ++ more) (Some refusal)) (sym g.added) (record {
      whole = ap (λ (x : List ℕ). x ++ more) g.whole ∙ append_assoc (spellings g.packets) left more;
      each = g.each;
      end = fault_stays left more refusal fault;
    })

-- pieces are those before one, that one, and those after it
pub pieces_split : {X : Type 0} (f : X → List ℕ) (pieces : List X) (i : ℕ) (d : X) → i < length pieces
    → flat_map f pieces ≡ flat_map f (take i pieces) ++ f (get_or pieces i d) ++ flat_map f (drop (suc i) pieces)
pieces_split {X = X} f pieces i d h =
    let one : drop i pieces ≡ get_or pieces i d ∷ drop (suc i) pieces = drop-cons pieces i d h in
    let parts : pieces ≡ take i pieces ++ (get_or pieces i d ∷ drop (suc i) pieces) =
    sym (take-append-drop i pieces) ∙ ap (λ (xs : List X). take i pieces ++ xs) one in
    ap (flat_map f) parts ∙ flat_map-append f (take i pieces) (get_or pieces i d ∷ drop (suc i) pieces)
    ∙ ap (λ (x : List ℕ). flat_map f (take i pieces) ++ x) (flat_map-cons f (get_or pieces i d) (drop (suc i) pieces))
    ∙ sym (append_assoc (flat_map f (take i pieces)) (f (get_or pieces i d)) (flat_map f (drop (suc i) pieces)))

-- a fault that one of the pieces met
pub piece_stops : {X : Type 0} (f : X → List ℕ) (pieces : List X) (i : ℕ) (d : X) (held left : List ℕ) (old new : List Packet) (refusal : Refusal)
    → i < length pieces
    → Gives (flat_map f (take i pieces)) [] old held → Gives (held ++ f (get_or pieces i d)) old new left → IsFaultAt left refusal
    → (rest : List ℕ) × Reads (flat_map f pieces) new rest (Some refusal)
piece_stops f pieces i d held left old new refusal h before given fault =
    let more = flat_map f (drop (suc i) pieces) in
    let all = gives_then (flat_map f (take i pieces)) (f (get_or pieces i d)) held left [] old new before given in
    let read = stops_reads (flat_map f (take i pieces) ++ f (get_or pieces i d)) left more new refusal all fault in
    (left ++ more, subst (λ (stream : List ℕ). Reads stream new (left ++ more) (Some refusal)) (sym (pieces_split f pieces i d h)) read)

-- pieces that make the same bytes read as the same
pub any_pieces : (pieces others : List (List ℕ)) (a b : List Packet) (f g : Option Refusal)
    → flat_map (λ piece. piece) pieces ≡ flat_map (λ piece. piece) others
    → Decodes pieces a f → Decodes others b g → (a ≡ b) × (f ≡ g)
any_pieces pieces others a b f g e x y =
    let read : Reads (flat_map (λ piece. piece) others) a x.0 f = subst (λ (stream : List ℕ). Reads stream a x.0 f) e x.1 in
    let one = one_reading (flat_map (λ piece. piece) others) a b x.0 y.0 f g read y.1 in
    (one.0, one.2)
