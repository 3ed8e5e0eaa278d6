-- What is found through the levels of counts, from the tops down.
use Rattle.std.proofs.Common.{◌≡◌, ℕ, suc, ◌+◌, ◌*◌, ◌<◌, ◌≤◌, ◌⊎◌, inl, inr, Bool, true, false, List, length, get_or, Some, sym, ap, ◌∙◌, subst, arith}
use Rattle.std.specs.Prelude.{slice_get}
use Rattle.std.specs.List.{sum_by}
use Rattle.std.proofs.lemmas.Bool.{cases_lt}
use Rattle.counted_bits.specs.Counts.{one, itself, before, AreCounted, IsReached, IsInBlock}
use Rattle.counted_bits.specs.Places.{places}
use Rattle.counted_bits.proofs.Amounts.{before_more, before_past, before_whole}
use Rattle.counted_bits.proofs.Places.{place_reached}
use Rattle.counted_bits.proofs.Sums.{same_whole, begins_below}

one_most : (b : Bool) → one b ≤ 1
one_most true = omega arith
one_most false = omega arith

one_more : (bits : List Bool) (i : ℕ) → before one (suc i) bits ≤ before one i bits + 1
one_more bits i = go (cases_lt i (length bits))
  where
    go : (i < length bits) ⊎ (length bits ≤ i) → before one (suc i) bits ≤ before one i bits + 1
    go (inl l) = omega (arith, before_more one bits i false l, one_most (get_or bits i false))
    go (inr l) = omega (arith, before_past one bits i l, before_whole one bits (suc i))

-- the set bit that so many set bits stand before is found among the bits from its block on
pub found : (bits : List Bool) (number block rest bit none : ℕ) → before one (16 * block) bits + rest ≡ number → IsReached one bits (before one (16 * block) bits + rest) bit none
    → Some bit ≡ slice_get (places 0 bits) number
found bits number block rest bit none from_block r =
    let reached : before one bit bits ≡ number = omega (arith, r.starts, r.ends, from_block, one_more bits bit) in
    sym (place_reached 0 bits number bit reached (omega (arith, r.ends, from_block)) ∙ ap Some (omega arith))

module _ {bits : List Bool} {total : ℕ} {blocks groups tops : List ℕ} (are : AreCounted bits total blocks groups tops) (number : ℕ) where
  -- the block of bits that a count tells of
  pub in_block : (block rest : ℕ) → IsReached itself blocks number block rest → IsInBlock bits number block rest
  in_block block rest r = record { starts = begins_below one bits blocks are.in_blocks number block rest r; ends = subst (λ n. number < n) (are.in_blocks.sums (suc block)) r.ends }

  module _ (less : number < sum_by one bits) where
    block_whole : number < sum_by itself blocks
    block_whole = omega (arith, less, same_whole one bits blocks are.in_blocks)

    group_whole : number < sum_by itself groups
    group_whole = omega (arith, block_whole, same_whole itself blocks groups are.in_groups)

    pub in_tops : 0 + number < sum_by itself tops
    in_tops = omega (arith, group_whole, same_whole itself groups tops are.in_tops)

    module _ (top rest : ℕ) (in_top : IsReached itself tops (0 + number) top rest) where
      from_top : before itself (16 * top) groups + rest ≡ number
      from_top = begins_below itself groups tops are.in_tops (0 + number) top rest in_top ∙ omega arith

      pub in_groups : before itself (16 * top) groups + rest < sum_by itself groups
      in_groups = omega (arith, from_top, group_whole)

      module _ (group less_rest : ℕ) (in_group : IsReached itself groups (before itself (16 * top) groups + rest) group less_rest) where
        from_group : before itself (16 * group) blocks + less_rest ≡ number
        from_group = begins_below itself blocks groups are.in_groups _ group less_rest in_group ∙ from_top

        pub in_blocks : before itself (16 * group) blocks + less_rest < sum_by itself blocks
        in_blocks = omega (arith, from_group, block_whole)

        pub reached : (block least_rest : ℕ) → IsReached itself blocks (before itself (16 * group) blocks + less_rest) block least_rest → IsReached itself blocks number block least_rest
        reached block least_rest = subst (λ n. IsReached itself blocks n block least_rest) from_group
