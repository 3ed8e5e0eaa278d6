-- A bit is set, cleared or added under its counts.
use Rattle.std.proofs.Common.{◌≡◌, ℕ, ◌+◌, ◌-◌, ◌*◌, ◌/◌, ◌^◌, ◌<◌, ◌≤◌, Bool, true, false, List, [], ◌∷◌, ◌++◌, length, get_or, ltb, set, Some, refl, sym, ap, ◌∙◌, subst, arith, length-append}
use Rattle.std.specs.Prelude.{slice_get}
use Rattle.std.specs.List.{sum_by}
use Rattle.std.proofs.Math.ListN.{length-set}
use Rattle.std.proofs.lemmas.Bool.{ltb-true, ltb-false}
use Rattle.std.proofs.lemmas.List.{set-get_or}
use Rattle.std.proofs.lemmas.List.Sums.{sum_by-set, sum_by_push, count_by-le-length}
use Rattle.std.proofs.lemmas.Option.{slice_get_within, get_or_from_slice_get}
use Rattle.counted_bits.specs.Counts.{one, itself, before, AreCounted, IsGrown}
use Rattle.counted_bits.proofs.Amounts.{before_whole, set_after, set_before}
use Rattle.counted_bits.proofs.Sums.{has_count, count_least, count_most, same_whole, sums_set, sums_more, sums_grown, items_grown, sums_none}

-- an item that is put where it stands changes nothing
pub set_held : {X : Type 0} (items : List X) (place : ℕ) (x : X) → slice_get items place ≡ Some x → set items place x ≡ items
set_held items place x h = ap (set items place) (sym (get_or_from_slice_get items place x x h)) ∙ set-get_or items place x

-- equal lists are counted alike
pub counted_alike : {bits bits' : List Bool} {total : ℕ} {blocks groups tops blocks' groups' tops' : List ℕ} → AreCounted bits total blocks groups tops
    → bits' ≡ bits → blocks' ≡ blocks → groups' ≡ groups → tops' ≡ tops → AreCounted bits' total blocks' groups' tops'
counted_alike are a b g t = rw (a, b, g, t) are

-- a count for each block that holds the bit
pub record HaveCounts (place : ℕ) (blocks groups tops : List ℕ) : Type 0 where
  pub block : place / 16 < length blocks
  pub group : place / 16 / 16 < length groups
  pub top : place / 16 / 16 / 16 < length tops

module _ {bits : List Bool} {total : ℕ} {blocks groups tops : List ℕ} (are : AreCounted bits total blocks groups tops) (place : ℕ) where
  module _ (bit : Bool) (at : slice_get bits place ≡ Some bit) where
    pub have_counts : HaveCounts place blocks groups tops
    have_counts =
        let block : place / 16 < length blocks = has_count one bits blocks are.in_blocks place (slice_get_within bits place bit at) in
        let group : place / 16 / 16 < length groups = has_count itself blocks groups are.in_groups (place / 16) block in
        record { block = block; group = group; top = has_count itself groups tops are.in_tops (place / 16 / 16) group }

    changed_whole : (other : Bool) → sum_by one (set bits place other) + one bit ≡ sum_by one bits + one other
    changed_whole other =
        ap (λ b. sum_by one (set bits place other) + one b) (sym (get_or_from_slice_get bits place bit false at))
        ∙ sum_by-set one bits place other false (slice_get_within bits place bit at)

    changed_before : (other : Bool) (block : ℕ) → place / 16 < block → before one (16 * block) (set bits place other) + one bit ≡ before one (16 * block) bits + one other
    changed_before other block h =
        ap (λ b. before one (16 * block) (set bits place other) + one b) (sym (get_or_from_slice_get bits place bit false at))
        ∙ set_before one bits place (16 * block) other false (slice_get_within bits place bit at) (omega (arith, h))

    changed : (other : Bool) (new block group top : ℕ) → new + one bit ≡ total + one other
        → block + one bit ≡ get_or blocks (place / 16) 0 + one other
        → group + get_or blocks (place / 16) 0 ≡ get_or groups (place / 16 / 16) 0 + block
        → top + get_or groups (place / 16 / 16) 0 ≡ get_or tops (place / 16 / 16 / 16) 0 + group
        → AreCounted (set bits place other) new (set blocks (place / 16) block) (set groups (place / 16 / 16) group) (set tops (place / 16 / 16 / 16) top)
    changed other new block group top e f g h = record {
      short = subst (λ n. n < 2 ^ 32) (sym (length-set bits place other)) are.short;
      all = omega (arith, changed_whole other, are.all);
      in_blocks = sums_set one bits blocks are.in_blocks place other false block (slice_get_within bits place bit at) (ap (λ b. block + one b) (get_or_from_slice_get bits place bit false at) ∙ f);
      in_groups = sums_set itself blocks groups are.in_groups (place / 16) block 0 group have_counts.block g;
      in_tops = sums_set itself groups tops are.in_tops (place / 16 / 16) group 0 top have_counts.group h;
    }

  -- ---- setting

  module _ (clear : slice_get bits place ≡ Some false) where
    pub total_room : total + 1 < 2 ^ 32
    total_room = omega (arith, changed_whole false clear true, are.all, count_by-le-length (λ b. b) (set bits place true), length-set bits place true, are.short)

    pub block_room : get_or blocks (place / 16) 0 + 1 < 2 ^ 32
    block_room = omega (arith, count_most one bits blocks are.in_blocks (place / 16) (have_counts false clear).block, total_room, are.all)

    pub group_room : get_or groups (place / 16 / 16) 0 + 1 < 2 ^ 32
    group_room = omega (arith, count_most itself blocks groups are.in_groups (place / 16 / 16) (have_counts false clear).group, same_whole one bits blocks are.in_blocks, total_room, are.all)

    pub top_room : get_or tops (place / 16 / 16 / 16) 0 + 1 < 2 ^ 32
    top_room =
        omega (arith, count_most itself groups tops are.in_tops (place / 16 / 16 / 16) (have_counts false clear).top, same_whole itself blocks groups are.in_groups, same_whole one bits blocks are.in_blocks, total_room, are.all)

    pub raised : AreCounted (set bits place true) (total + 1) (set blocks (place / 16) (get_or blocks (place / 16) 0 + 1)) (set groups (place / 16 / 16) (get_or groups (place / 16 / 16) 0 + 1))
        (set tops (place / 16 / 16 / 16) (get_or tops (place / 16 / 16 / 16) 0 + 1))
    raised = changed false clear true (total + 1) (get_or blocks (place / 16) 0 + 1) (get_or groups (place / 16 / 16) 0 + 1) (get_or tops (place / 16 / 16 / 16) 0 + 1) (omega arith) (omega arith) (omega arith) (omega arith)

    -- how many set bits stand before a block
    pub raised_before : (block start : ℕ) → start ≡ before one (16 * block) bits → start + one (ltb (place / 16) block) ≡ before one (16 * block) (set bits place true)
    raised_before block start e = go (ltb (place / 16) block) refl
      where
        go : (b : Bool) → ltb (place / 16) block ≡ b → start + one b ≡ before one (16 * block) (set bits place true)
        go true h = omega (arith, e, changed_before false clear true block (ltb-true (place / 16) block h))
        go false h = omega (arith, e, set_after one bits place (16 * block) true (omega (arith, ltb-false (place / 16) block h)))

    pub start_room : (block start : ℕ) → start ≡ before one (16 * block) bits → start + one (ltb (place / 16) block) < 2 ^ 32
    start_room block start e = omega (arith, raised_before block start e, before_whole one (set bits place true) (16 * block), raised.all, total_room)

  -- ---- clearing

  module _ (held : slice_get bits place ≡ Some true) where
    pub total_some : 1 ≤ total
    total_some = omega (arith, changed_whole true held false, are.all)

    pub block_some : 0 < get_or blocks (place / 16) 0
    block_some =
        let e : one (get_or bits place false) ≡ 1 = ap one (get_or_from_slice_get bits place true false held) in
        omega (arith, e, count_least one bits blocks are.in_blocks place false (slice_get_within bits place true held))

    pub group_some : 0 < get_or groups (place / 16 / 16) 0
    group_some = omega (arith, block_some, count_least itself blocks groups are.in_groups (place / 16) 0 (have_counts true held).block)

    pub top_some : 0 < get_or tops (place / 16 / 16 / 16) 0
    top_some = omega (arith, group_some, count_least itself groups tops are.in_tops (place / 16 / 16) 0 (have_counts true held).group)

    pub lowered : AreCounted (set bits place false) (total - 1) (set blocks (place / 16) (get_or blocks (place / 16) 0 - 1)) (set groups (place / 16 / 16) (get_or groups (place / 16 / 16) 0 - 1))
        (set tops (place / 16 / 16 / 16) (get_or tops (place / 16 / 16 / 16) 0 - 1))
    lowered =
        changed true held false (total - 1) (get_or blocks (place / 16) 0 - 1) (get_or groups (place / 16 / 16) 0 - 1) (get_or tops (place / 16 / 16 / 16) 0 - 1)
        (omega (arith, total_some)) (omega (arith, block_some)) (omega (arith, group_some, block_some)) (omega (arith, top_some, group_some))

    -- how many set bits stand before a block
    pub lowered_before : (block start : ℕ) → start ≡ before one (16 * block) bits → start ≡ before one (16 * block) (set bits place false) + one (ltb (place / 16) block)
    lowered_before block start e = go (ltb (place / 16) block) refl
      where
        go : (b : Bool) → ltb (place / 16) block ≡ b → start ≡ before one (16 * block) (set bits place false) + one b
        go true h = omega (arith, e, changed_before true held false block (ltb-true (place / 16) block h))
        go false h = omega (arith, e, set_after one bits place (16 * block) false (omega (arith, ltb-false (place / 16) block h)))

-- ---- adding

-- a bit that isn't set is put last, and then set
pub set_last : (bits : List Bool) (bit : Bool) → bit ≡ true → set (bits ++ false ∷ []) (length bits) true ≡ bits ++ bit ∷ []
set_last bits bit e = set_seam bits ∙ ap (λ b. bits ++ b ∷ []) (sym e)
  where
    set_seam : (xs : List Bool) → set (xs ++ false ∷ []) (length xs) true ≡ xs ++ true ∷ []
    set_seam [] = refl
    set_seam (x ∷ xs) = ap (λ l. x ∷ l) (set_seam xs)

pub counted_none : AreCounted [] 0 [] [] []
counted_none = record { short = omega arith; all = refl; in_blocks = sums_none one; in_groups = sums_none itself; in_tops = sums_none itself }

module _ {bits : List Bool} {total : ℕ} {blocks groups tops : List ℕ} (are : AreCounted bits total blocks groups tops) where
  pub tops_grown : (new : List ℕ) → IsGrown tops new → AreCounted bits total blocks groups new
  tops_grown new h = record { short = are.short; all = are.all; in_blocks = are.in_blocks; in_groups = are.in_groups; in_tops = sums_grown itself groups tops are.in_tops new h }

  pub groups_grown : (new : List ℕ) → IsGrown groups new → length groups < 16 * length tops → AreCounted bits total blocks new tops
  groups_grown new h room = record { short = are.short; all = are.all; in_blocks = are.in_blocks; in_groups = sums_grown itself blocks groups are.in_groups new h; in_tops = items_grown groups tops new are.in_tops room h }

  pub blocks_grown : (new : List ℕ) → IsGrown blocks new → length blocks < 16 * length groups → AreCounted bits total new groups tops
  blocks_grown new h room = record { short = are.short; all = are.all; in_blocks = sums_grown one bits blocks are.in_blocks new h; in_groups = items_grown blocks groups new are.in_groups room h; in_tops = are.in_tops }

  pub clear_pushed : length bits + 1 < 2 ^ 32 → length bits < 16 * length blocks → AreCounted (bits ++ false ∷ []) total blocks groups tops
  clear_pushed short room = record {
    short = omega (arith, length-append bits (false ∷ []));
    all = are.all ∙ sym (sum_by_push one bits false ∙ omega arith);
    in_blocks = sums_more one bits blocks are.in_blocks false refl room;
    in_groups = are.in_groups;
    in_tops = are.in_tops;
  }
