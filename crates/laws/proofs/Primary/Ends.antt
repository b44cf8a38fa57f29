-- Changes of a primary's last connection, and what each keeps of it.
use Rattle.std.proofs.Common.{ℕ, zero, suc, ◌≡◌, ◌≢◌, ◌-◌, inl, inr, true, false, not, List, [], ◌∷◌, ◌++◌, length, take, Some, slice_get, refl, sym, ◌∙◌, ap}
use Rattle.std.proofs.Common.{arith, length-append}
use Rattle.std.specs.Prelude.{if◌then◌else◌}
use Rattle.std.proofs.lemmas.Bool.{cases_Bool, both_ways, not-true, and_parts}
use Rattle.std.proofs.lemmas.List.{append-nil}
use Rattle.std.proofs.Math.Seq.{take-append_seam}
use Rattle.model.specs.Contents.{Write}
use Rattle.model.specs.Stream.{StreamItem, WriteItem, IsBeginning}
use Rattle.model.specs.Frames.{Received}
use Rattle.model.specs.Primary.{PrimaryConnection, PrimaryHistory, primary_connection, is_established, accepted_frames}
use Rattle.laws.proofs.Lists.Beginnings.{begins-self}
use Rattle.laws.proofs.Primary.Moves.{with_frame, pushing}
use Rattle.laws.proofs.Primary.Homes.{HasHomes, KeepsConnection}
use Rattle.laws.proofs.Rules.RefusedFrames.{refused_out}

-- no write stands in an empty list
pub no-more : (n : ℕ) (write : Write) → slice_get [] n ≡ Some (WriteItem write) → ⊥
no-more n write at = absurd (cc)

-- an end that stands has begun, and is open
pub established-parts : (c : PrimaryConnection) → is_established c ≡ true → (c.closed ≡ false) × (c.begun ≡ true)
established-parts c h = let parts = and_parts (not c.closed) c.begun h in (not-true c.closed parts.0, parts.1)

-- the frames accepted of an end that refused nothing
pub accepted-all : (c : PrimaryConnection) → c.refused ≡ false → accepted_frames c ≡ c.taken
accepted-all c h = ap (λ b. if b then take (length c.taken - 1) c.taken else c.taken) h

-- an open end has refused no frame
pub not-refused : (h : PrimaryHistory) → HasHomes h → (primary_connection h).closed ≡ false → (k : ℕ) → slice_get h.connections k ≡ Some (primary_connection h)
    → (primary_connection h).refused ≡ false
not-refused h homes standing k at =
    elim (cases_Bool (primary_connection h).refused) [
      | inl was ↦ absurd (both_ways (primary_connection h).closed standing (homes.refused k (primary_connection h) at was))
      | inr not_so ↦ not_so
    ]

-- the frames accepted before a frame is taken begin those after it
pub frames-taking : (c : PrimaryConnection) (frame : Received) → c.refused ≡ false → IsBeginning (accepted_frames c) (accepted_frames (with_frame frame c))
frames-taking c frame plain = (frame ∷ [], ap (λ (l : List Received). l ++ frame ∷ []) (accepted-all c plain) ∙ sym (accepted-all (with_frame frame c) plain))

-- a frame that is refused is accepted by nobody
pub frames-refusing : (c : PrimaryConnection) (frame : Received) → c.refused ≡ false
    → accepted_frames (refused_out frame c) ≡ accepted_frames c
frames-refusing c frame plain =
    let size : length (c.taken ++ frame ∷ []) - 1 ≡ length c.taken = let long = length-append c.taken (frame ∷ []) in omega arith in
    ap (λ n. take n (c.taken ++ frame ∷ [])) size ∙ (take-append_seam c.taken (frame ∷ []) ∙ sym (accepted-all c plain))

-- an end that stays as it is keeps its writes at home
pub keeps-self : (h : PrimaryHistory) → HasHomes h → (k : ℕ) → slice_get h.connections k ≡ Some (primary_connection h)
    → KeepsConnection (primary_connection h) (primary_connection h)
keeps-self h homes k at = record {
  more = [];
  stream = sym (append-nil (primary_connection h).stream);
  no_write = no-more;
  pushed = omega arith;
  frames = begins-self (accepted_frames (primary_connection h));
  empty = homes.empty k (primary_connection h) at;
  refused = homes.refused k (primary_connection h) at;
}

-- so does one that pushes a frame
pub keeps-pushing : (h : PrimaryHistory) → HasHomes h → (k : ℕ) → slice_get h.connections k ≡ Some (primary_connection h)
    → KeepsConnection (primary_connection h) (pushing (primary_connection h))
keeps-pushing h homes k at = record {
  more = [];
  stream = sym (append-nil (primary_connection h).stream);
  no_write = no-more;
  pushed = omega arith;
  frames = begins-self (accepted_frames (primary_connection h));
  empty = homes.empty k (primary_connection h) at;
  refused = homes.refused k (primary_connection h) at;
}

-- so does one that takes a frame
pub keeps-taking : (h : PrimaryHistory) (frame : Received) → HasHomes h → (primary_connection h).closed ≡ false → (k : ℕ)
    → slice_get h.connections k ≡ Some (primary_connection h)
    → KeepsConnection (primary_connection h) (with_frame frame (primary_connection h))
keeps-taking h frame homes standing k at = record {
  more = [];
  stream = sym (append-nil (primary_connection h).stream);
  no_write = no-more;
  pushed = omega arith;
  frames = frames-taking (primary_connection h) frame (not-refused h homes standing k at);
  empty = homes.empty k (primary_connection h) at;
  refused = homes.refused k (primary_connection h) at;
}

-- so does one that refuses a frame, and closes
pub keeps-refusing : (h : PrimaryHistory) (frame : Received) → HasHomes h → (primary_connection h).closed ≡ false → (k : ℕ)
    → slice_get h.connections k ≡ Some (primary_connection h)
    → KeepsConnection (primary_connection h) (refused_out frame (primary_connection h))
keeps-refusing h frame homes standing k at =
    let same = frames-refusing (primary_connection h) frame (not-refused h homes standing k at) in
    record {
      more = [];
      stream = sym (append-nil (primary_connection h).stream);
      no_write = no-more;
      pushed = omega arith;
      frames = ([], append-nil (accepted_frames (primary_connection h)) ∙ sym same);
      empty = homes.empty k (primary_connection h) at;
      refused = λ r. refl;
    }

-- so does one that closes
pub keeps-closing : (h : PrimaryHistory) → HasHomes h → (k : ℕ) → slice_get h.connections k ≡ Some (primary_connection h)
    → KeepsConnection (primary_connection h) (record (primary_connection h) { closed = true })
keeps-closing h homes k at = record {
  more = [];
  stream = sym (append-nil (primary_connection h).stream);
  no_write = no-more;
  pushed = omega arith;
  frames = begins-self (accepted_frames (primary_connection h));
  empty = homes.empty k (primary_connection h) at;
  refused = λ r. refl;
}

-- an item that is no write goes to the end of a stream that has begun
pub keeps-appending : (h : PrimaryHistory) (item : StreamItem) → ((write : Write) → item ≢ WriteItem write) → (primary_connection h).begun ≡ true → HasHomes h
    → (k : ℕ)
    → slice_get h.connections k ≡ Some (primary_connection h)
    → KeepsConnection (primary_connection h) (record (primary_connection h) { stream = (primary_connection h).stream ++ item ∷ [] })
keeps-appending h item other begun homes k at = record {
  more = item ∷ [];
  stream = refl;
  no_write = λ n write there. one n item write other there;
  pushed = omega arith;
  frames = begins-self (accepted_frames (primary_connection h));
  empty = λ new. absurd (both_ways (primary_connection h).begun new begun);
  refused = homes.refused k (primary_connection h) at;
}
  where
    one : (n : ℕ) (item : StreamItem) (write : Write) → ((write : Write) → item ≢ WriteItem write) → slice_get (item ∷ []) n ≡ Some (WriteItem write) → ⊥
    one zero item write other there = other write (cc)
    one (suc n) item write other there = absurd (cc)
