-- What a secondary's end owes only grows, and what lies on its disk stays as frames are taken.
use Rattle.std.proofs.Common.{ℕ, suc, ◌≡◌, ◌+◌, ◌-◌, ◌<◌, ◌≤◌, Bool, true, false, ◌&&◌, List, [], ◌∷◌, ◌++◌, length, map, take, Option, slice_get, refl, sym}
use Rattle.std.proofs.Common.{◌∙◌, ap, subst, arith}
use Rattle.std.specs.Prelude.{if◌then◌else◌}
use Rattle.std.proofs.lemmas.Bool.{both_ways, false_from_ne_true}
use Rattle.std.proofs.lemmas.List.{append_assoc, length-append, take-append-le}
use Rattle.blocks.specs.declared.settings.Settings.{Settings}
use Rattle.blocks.specs.declared.tuple.Tuple.{Tuple}
use Rattle.model.specs.Contents.{BlockMap, Layer, block_under, overlay, is_between}
use Rattle.model.specs.Stream.{StreamItem, Part, is_in, first_of, contents_of, layers_from}
use Rattle.model.specs.Frames.{Packet, Received, hello_of}
use Rattle.model.specs.Primary.{change_last}
use Rattle.model.specs.Secondary.{SecondaryConnection, SecondaryHistory, secondary_connection, with_secondary_connection, items_taken, answers_due, map_of}
use Rattle.model.specs.Secondary.{secondary_map}
use Rattle.model.specs.SecondarySteps.{answering, adopting, take_item, barrier_answer, barriers_to_answer}
use Rattle.laws.proofs.Lists.Last.{change-twice}
use Rattle.laws.proofs.Secondary.Good.{taking-more, items-refusing}
use Rattle.laws.proofs.Secondary.Moves.{framed, receipting, after-take}
use Rattle.secondary_protocol.proofs.Tested.{secondary-connection-of, open-some}
use Rattle.laws.proofs.Rules.RefusedFrames.{refused_in, refused_by_too, refused-last-too}

-- What is due stands before what becomes due, and what was pushed stays. At a closed end nothing becomes due.
pub record Grows (c d : SecondaryConnection) : Type 0 where
  pub hello : d.hello ≡ c.hello
  pub pushed : d.pushed ≡ c.pushed
  pub more : List Packet
  pub due : d.due ≡ c.due ++ more
  pub none : c.closed ≡ true → more ≡ []
  pub shut : c.closed ≡ true → d.closed ≡ true

-- what was pushed is the same
pub pushed-stays : (settings : Settings) (c d : SecondaryConnection) → Grows c d → (c.closed ≡ false → c.pushed - 3 ≤ length c.due)
    → take d.pushed (answers_due settings d) ≡ take c.pushed (answers_due settings c)
pushed-stays settings c d g bound = ap (λ n. take n (answers_due settings d)) g.pushed
    ∙ (ap (λ (t : Tuple). take c.pushed (hello_of settings t ++ d.due)) g.hello
    ∙ (ap (λ (l : List Packet). take c.pushed (hello_of settings c.hello ++ l)) g.due ∙ go c.closed refl))
  where
    go : (b : Bool) → c.closed ≡ b → take c.pushed (hello_of settings c.hello ++ (c.due ++ g.more)) ≡ take c.pushed (hello_of settings c.hello ++ c.due)
    go true is = ap (λ (l : List Packet). take c.pushed (hello_of settings c.hello ++ l)) (ap (λ (l : List Packet). c.due ++ l) (g.none is) ∙ no-more c.due)
      where
        no-more : (xs : List Packet) → xs ++ [] ≡ xs
        no-more [] = refl
        no-more (x ∷ xs) = ap (λ (l : List Packet). x ∷ l) (no-more xs)
    go false is =
        let within = bound is in
        let size : length (answers_due settings c) ≡ 3 + length c.due = length-append (hello_of settings c.hello) c.due in
        ap (take c.pushed) (sym (append_assoc (hello_of settings c.hello) c.due g.more)) ∙ take-append-le c.pushed (answers_due settings c) g.more (omega arith)

-- the acknowledgements that follow
pub grows-answering : (c d : SecondaryConnection) → Grows c d → Grows c (answering d)
grows-answering c d g = go d.closed refl
  where
    go : (b : Bool) → d.closed ≡ b → Grows c
        (elim b as (λ _. SecondaryConnection) [ true ↦ d | false ↦ record d { due = d.due ++ map (barrier_answer d) (barriers_to_answer d) } ])
    go true is = g
    go false is = record {
      hello = g.hello;
      pushed = g.pushed;
      more = g.more ++ map (barrier_answer d) (barriers_to_answer d);
      due = ap (λ (l : List Packet). l ++ map (barrier_answer d) (barriers_to_answer d)) g.due
          ∙ append_assoc c.due g.more (map (barrier_answer d) (barriers_to_answer d));
      none = λ was. absurd (both_ways d.closed is (g.shut was));
      shut = λ was. absurd (both_ways d.closed is (g.shut was));
    }

pub taken-answering : (d : SecondaryConnection) → (answering d).taken ≡ d.taken
taken-answering d = go d.closed
  where
    go : (b : Bool) → (elim b as (λ _. SecondaryConnection)
        [ true ↦ d | false ↦ record d { due = d.due ++ map (barrier_answer d) (barriers_to_answer d) } ]).taken ≡ d.taken
    go true = refl
    go false = refl

pub map-answering : (d : SecondaryConnection) (block : ℕ) → map_of (answering d) block ≡ map_of d block
map-answering d block = go d.closed
  where
    go : (b : Bool) → map_of (elim b as
        (λ _. SecondaryConnection) [ true ↦ d | false ↦ record d { due = d.due ++ map (barrier_answer d) (barriers_to_answer d) } ]) block ≡
        map_of d block
    go true = refl
    go false = refl

-- Items of which nothing is applied lay nothing over a disk.
bare : (layer : Layer) (block : ℕ) (below : Option (List ℕ)) → layer.laid (block - layer.first) ≡ false → block_under layer block below ≡ below
bare layer block below none = ap (λ b. if is_between layer.first (length layer.contents) block && b then slice_get layer.contents (block - layer.first)
    else below) none ∙ off (is_between layer.first (length layer.contents) block)
  where
    off : (a : Bool) → (if a && false then slice_get layer.contents (block - layer.first) else below) ≡ below
    off true = refl
    off false = refl

pub layers-none : (base : BlockMap) (start : ℕ) (items : List StreamItem) (part : Part) (block : ℕ)
    → ((place offset : ℕ) → is_in part place offset ≡ true → place < start) → overlay base (layers_from start items part) block ≡ base block
layers-none base start [] part block before = refl
layers-none base start (x ∷ items) part block before =
    let layer : Layer = record { first = first_of x; contents = contents_of x; laid = λ offset. is_in part start offset } in
    layers-none (λ b. block_under layer b (base b)) (suc start) items part block (λ place offset inside. let less = before place offset inside in omega arith)
    ∙ bare layer block (base block)
    (false_from_ne_true (is_in part start (block - first_of x)) (λ inside. let less = before start (block - first_of x) inside in omega arith))

pub layers-more : (base : BlockMap) (start : ℕ) (items more : List StreamItem) (part : Part) (block : ℕ)
    → ((place offset : ℕ) → is_in part place offset ≡ true → place < start + length items)
    → overlay base (layers_from start (items ++ more) part) block ≡ overlay base (layers_from start items part) block
layers-more base start [] more part block before = layers-none base start more part block
    (λ place offset inside. let less = before place offset inside in omega arith)
layers-more base start (x ∷ items) more part block before =
    layers-more (λ b. block_under (record { first = first_of x; contents = contents_of x; laid = λ offset. is_in part start offset }) b (base b))
    (suc start) items more part block
    (λ place offset inside. let less = before place offset inside in omega arith)

-- After a frame was taken: it stands last among those taken, the disk holds the same, and what is due grows.
pub record Took (h : SecondaryHistory) (frame : Received) (later : SecondaryHistory) : Type 0 where
  pub settings : later.settings ≡ h.settings
  pub grows : Grows (secondary_connection h) (secondary_connection later)
  pub taken : (secondary_connection later).taken ≡ (secondary_connection h).taken ++ frame ∷ []
  pub map : (block : ℕ) → secondary_map later block ≡ secondary_map h block

-- The same of a connection.
record TookThere (c : SecondaryConnection) (frame : Received) (d : SecondaryConnection) : Type 0 where
  pub grows : Grows c d
  pub taken : d.taken ≡ c.taken ++ frame ∷ []
  pub map : (block : ℕ) → map_of d block ≡ map_of c block

took-from : (h later : SecondaryHistory) (frame : Received) (d : SecondaryConnection) → later.settings ≡ h.settings → secondary_connection later ≡ d
    → TookThere (secondary_connection h) frame d
    → Took h frame later
took-from h later frame d same is took = record {
  settings = same;
  grows = subst (Grows (secondary_connection h)) (sym is) took.grows;
  taken = ap (λ (c : SecondaryConnection). c.taken) is ∙ took.taken;
  map = λ block. ap (λ (c : SecondaryConnection). map_of c block) is ∙ took.map block;
}

then-answering : (c d : SecondaryConnection) (frame : Received) → TookThere c frame d → TookThere c frame (answering d)
then-answering c d frame took = record {
  grows = grows-answering c d took.grows;
  taken = taken-answering d ∙ took.taken;
  map = λ block. map-answering d block ∙ took.map block;
}

-- A frame is taken at an open end of which the part applied names only places that were taken.
pub takes : (h : SecondaryHistory) (frame : Received) → (secondary_connection h).closed ≡ false → (secondary_connection h).refused ≡ false
    → ((place offset : ℕ) → is_in (secondary_connection h).applied place offset ≡ true → place < length (items_taken (secondary_connection h)))
    → Took h frame (take_item frame h).1
takes h frame is_established plain named = after-take (Took h frame) h frame (record {
  accepts = took-from h accepted frame (answering (framed frame c)) refl
      (secondary-connection-of (λ x. answering (framed frame x)) h accepted (change-twice (framed frame) answering h.connections) some)
      (then-answering c (framed frame c) frame plainly);
  receipts = λ write at is late.
      let later : SecondaryHistory = with_secondary_connection answering
      (with_secondary_connection (receipting (length (items_taken c)) write) (with_secondary_connection (framed frame) h)) in
      took-from h later frame (answering (receipting (length (items_taken c)) write (framed frame c))) refl
      (secondary-connection-of (λ x. answering (receipting (length (items_taken c)) write (framed frame x))) h later
      (ap (λ l. change_last answering l) (change-twice (framed frame) (receipting (length (items_taken c)) write) h.connections)
      ∙ change-twice (λ x. receipting (length (items_taken c)) write (framed frame x)) answering h.connections) some)
      (then-answering c (receipting (length (items_taken c)) write (framed frame c)) frame (record {
        grows = record { hello = refl; pushed = refl; more = _; due = refl; none = λ was. absurd (both_ways c.closed is_established was); shut = λ was. was };
        taken = refl;
        map = plainly.map;
      }));
  adopts = λ item tuple consistent is late.
      let later : SecondaryHistory = with_secondary_connection answering (adopting tuple consistent (with_secondary_connection (framed frame) h)) in
      took-from h later frame (answering (framed frame c)) refl
      (secondary-connection-of (λ x. answering (framed frame x)) h later (change-twice (framed frame) answering h.connections) some)
      (then-answering c (framed frame c) frame plainly);
  refuses = took-from h shut frame (refused_in frame c) refl
      (secondary-connection-of (λ x. refused_in frame x) h shut (refused-last-too frame h) some) (record {
        grows = record { hello = refl; pushed = refl; more = []; due = sym (no-more c.due); none = λ was. refl; shut = λ was. refl };
        taken = refl;
        map = λ block. ap (λ (l : List StreamItem). overlay c.base (layers_from 0 l c.applied) block) (items-refusing frame c plain);
      });
})
  where
    c : SecondaryConnection
    c = secondary_connection h

    accepted : SecondaryHistory
    accepted = with_secondary_connection answering (with_secondary_connection (framed frame) h)

    shut : SecondaryHistory
    shut = refused_by_too frame h

    some : h.connections ≡ [] → ⊥
    some = open-some h is_established

    no-more : (xs : List Packet) → xs ++ [] ≡ xs
    no-more [] = refl
    no-more (x ∷ xs) = ap (λ (l : List Packet). x ∷ l) (no-more xs)

    plainly : TookThere (secondary_connection h) frame (framed frame (secondary_connection h))
    plainly = record {
      grows = record { hello = refl; pushed = refl; more = []; due = sym (no-more c.due); none = λ was. refl; shut = λ was. was };
      taken = refl;
      map = λ block.
          let more = taking-more frame c plain in
          ap (λ (l : List StreamItem). overlay c.base (layers_from 0 l c.applied) block) more.1
          ∙ layers-more c.base 0 (items_taken c) more.0 c.applied block (λ place offset inside. let less = named place offset inside in omega arith);
    }
