-- States that are apart, in a set with two states.
use Rattle.std.proofs.Common.{ℕ, ◌≡◌, ◌<◌, ◌≤◌, ◌∙◌, List, Bool, true, false, refl, sym, ap, subst, arith, inl, inr, length}
use Rattle.std.specs.Prelude.{◌⊎◌, Vec, slice_get, MatchBool}
use Rattle.std.specs.declared.alloc.Global.{Global}
use Rattle.std.proofs.lemmas.Bool.{cases_lt}
use Rattle.std.proofs.lemmas.Option.{same_Some, slice_get_within}
use Rattle.chor_base.specs.declared.names.NameId.{NameId}
use Rattle.chor_tree.specs.declared.protocol.State.{State}
use Rattle.chor_tree.specs.declared.protocol.ProtoStep.{ProtoStep}
use Rattle.chor_tree.specs.declared.protocol.ProtoStep.TheVariants.{End, Value, Choice}
use Rattle.global_types.specs.Moves.{IsIn, is_named}
use Rattle.global_types.specs.Views.{IsAlike, IsApart}
use Rattle.state_sets.specs.declared.table.Row.{Row}
use Rattle.state_sets.specs.Sets.{Has, HasTwo}
use Rattle.state_sets.specs.Graph.{AreRowsFor}
use Rattle.state_sets.specs.Table.{ApartAt, IsTorn, HasTorn}
use Rattle.state_sets.proofs.Sets.{row_within}

-- ---- no step is apart from itself

alike_self : (r : NameId) (s : ProtoStep) → is_named r s ≡ true → IsAlike r s s
alike_self r End h = absurd (cc)
alike_self r (Value a b c next) h = (refl, refl, refl)
alike_self r (Choice a b arms) h = (refl, refl, λ e l. ((λ m. m), (λ m. m)))

self_apart : (r : NameId) (s : ProtoStep) → IsApart r s s → ⊥
self_apart r s (h, inl e) = absurd (let t : is_named r s ≡ is_named r End = ap (is_named r) e in cc)
self_apart r s (h, inr p) = p.1 (alike_self r s h)

not_itself : (ss : List State) (r : NameId) (i j : ℕ) → ApartAt ss r i j → i ≡ j → ⊥
not_itself ss r i j a e =
    let same : a.other ≡ a.one = same_Some a.other a.one (sym a.is_other ∙ ap (λ (k : ℕ). slice_get ss k) (sym e) ∙ a.is_one) in
    self_apart r a.one.step (subst (λ (s : State). IsApart r a.one.step s.step) same a.is_apart)

-- two states that are apart are two
apart_two : (ss : List State) (r : NameId) (still : List ℕ) (i j : ℕ) → Has still i → Has still j → ApartAt ss r i j → HasTwo still
apart_two ss r still i j at too a = go (cases_lt i j) (cases_lt j i) where
  go : (i < j) ⊎ (j ≤ i) → (j < i) ⊎ (i ≤ j) → HasTwo still
  go (inl l) o = (i, j, l, at, too)
  go (inr g) (inl l) = (j, i, l, too, at)
  go (inr g) (inr l) = absurd (not_itself ss r i j a (omega (arith, g, l)))

pub not_crowded : (ss : List State) (r : NameId) (rows : List Row) → ((row : Row) → IsIn row rows → HasTwo row.still.items → ⊥) → HasTorn ss r rows → ⊥
not_crowded ss r rows none (row, among, i, j, at, too, a) = none row among (apart_two ss r row.still.items i j at too a)

-- ---- by a table of those that are apart

module _ (ss : List State) (r : NameId) (rows : List Row) (apart : List (Vec ℕ Global)) (are : AreRowsFor (length ss) (ApartAt ss r) apart) where
  by_table : (row : Row) × IsIn row rows × IsTorn apart row.still.items → HasTorn ss r rows
  by_table (row, among, (i, at, (j, too, is))) =
      (row, among, i, j, at, too, (are.row i (let b = row_within apart i j is in let e = are.size in omega (arith, b, e))).sound j is)

  in_table : ((row : Row) → IsIn row rows → IsTorn apart row.still.items → ⊥) → HasTorn ss r rows → ⊥
  in_table none (row, among, i, j, at, too, a) =
      none row among (i, at, (j, too, (are.row i (slice_get_within ss i a.one a.is_one)).complete j a))

  pub judged_by : (b : Bool) → MatchBool b ((row : Row) × IsIn row rows × IsTorn apart row.still.items) ((row : Row) → IsIn row rows → IsTorn apart row.still.items → ⊥) → MatchBool b (HasTorn ss r rows) (HasTorn ss r rows → ⊥)
  judged_by true h = by_table h
  judged_by false h = in_table h
