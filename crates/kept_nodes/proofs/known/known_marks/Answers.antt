use Rattle.std.proofs.Common.{◌≡◌, ◌+◌, ◌/◌, ◌<◌, ◌==◌, ◌||◌, ◌&&◌, Bool, true, false, ℕ, List, length, refl, ◌∙◌, sym, ap, arith}
use Rattle.std.specs.Prelude.{nat_lt}
use Rattle.std.proofs.lemmas.Bool.Decides.{nat_tests}
use Rattle.std.proofs.lemmas.List.{length-replicate}
use Rattle.bitmap.specs.Marks.{marked}
use Rattle.bitmap.proofs.Lists.{marked-replicate}
use Rattle.metadata.specs.declared.header.Header.{Header}
use Rattle.metadata.specs.Says.{entered_in, marked_in}
use Rattle.metadata.specs.State.{MetadataState, is_entered}
use Rattle.kept_nodes.proofs.Filed.{Adds, adds-alike, entries-more, only-there, and-all, and-none, or-none, or-assoc, or-swap}
use Rattle.kept_nodes.proofs.known.known_marks.Goals.{then-is_entered, else-is_entered}
use Rattle.kept_nodes.proofs.known.known_marks.Goals as goal

pub loop-number-preserved : goal.loop-number-preserved
loop-number-preserved g c =
    let number : ℕ = c.loop-number.number in
    let entries : List ℕ = c.add_marks.new.metadata.entries in
    let old = c.add_marks.new.known in
    let so_far = λ (b : ℕ). nat_lt (b / 1024) number && is_entered entries (b / 1024) in
    let all = λ (b : ℕ). nat_lt (b / 1024) (number + 1) && is_entered entries (b / 1024) in
    let before : Adds old c.loop-number.known so_far = record { size = c.loop-number.invariant.size; marks = c.loop-number.invariant.marks } in
    let adds : Adds old c.if-is_entered.known all = elim c.if-is_entered.branch [
      | then-is_entered w ↦ rw w.known-is record {
        size = w.add_extent.ensures.size ∙ before.size;
        marks = λ b low.
            w.add_extent.ensures.marks b (omega (arith, low, before.size)) ∙ ap (λ m. m || (b / 1024 == number)) (before.marks b low) ∙ or-assoc (marked old b) (so_far b) (b / 1024 == number)
            ∙ sym (ap (λ m. marked old b || m) (entries-more (b / 1024) number (is_entered entries (b / 1024))
            ∙ ap (λ m. so_far b || m) (only-there (is_entered entries) (b / 1024) number true (sym c.is_entered.ensures ∙ w.if-is_entered.true) ∙ and-all (b / 1024 == number))));
      }
      | else-is_entered w ↦ rw w.known-is (adds-alike _ _ so_far all before
          (λ b. entries-more (b / 1024) number (is_entered entries (b / 1024))
          ∙ ap (λ m. so_far b || m) (only-there (is_entered entries) (b / 1024) number false (sym c.is_entered.ensures ∙ w.if-is_entered.false) ∙ and-none (b / 1024 == number))
          ∙ or-none (so_far b)))
    ] in
    record { size = adds.size; marks = adds.marks }

pub returns-clause-known : goal.returns-clause-known
returns-clause-known g c faithful block low =
    let blocks : ℕ = c.args.metadata.now.header.blocks in
    let seen : List ℕ = g.F.StableFile.seen c.args.metadata.now.file in
    let x : ℕ = block / 1024 in
    let number : ℕ = c.loop-number.number in
    let found : List ℕ = c.add_marks.new.metadata.entries in
    let stands = c.if-is_broken.ensures.stands refl (c.add_marks.ensures.falls faithful) in
    let same : c.header-blocks.result.blocks ≡ blocks = ap (λ (h : Header). h.blocks) c.header-blocks.ensures in
    let long : length c.in-Ok.known ≡ blocks = ap length c.in-Ok.ensures.made ∙ length-replicate {A = Bool} c.header-blocks.result.blocks false ∙ same in
    let fresh : marked c.in-Ok.known block ≡ false = ap (λ (l : List Bool). marked l block) c.in-Ok.ensures.made ∙ marked-replicate c.header-blocks.result.blocks false block (omega (arith, low, same)) in
    let filed : marked c.add_marks.new.known block ≡ marked_in seen block
    = c.in_ok-add_marks.ensures.marks faithful block (omega (arith, low, long)) ∙ ap (λ m. m || marked_in seen block) fresh in
    let passed : x < number = omega (arith, low, c.extents-extents.ensures.of_blocks) in
    let below : nat_lt x number ≡ true = grind (arith, nat_tests) in
    let entered : is_entered found x ≡ entered_in seen x
    = ap (λ (s : MetadataState g.row.F.Denot). is_entered s.entries x) c.in_ok-add_marks.ensures.memory
    ∙ sym (stands.exactly x (omega (arith, low, c.extents-extents.ensures.of_blocks, c.extents-extents.ensures.count))) in
    c.loop-number.invariant.marks block (omega (arith, low, long, c.add_marks.ensures.kept_size))
    ∙ ap (λ m. m || (nat_lt x number && is_entered found x)) filed ∙ ap (λ t. marked_in seen block || (t && is_entered found x)) below
    ∙ ap (λ e. marked_in seen block || e) entered ∙ or-swap (marked_in seen block) (entered_in seen x)
