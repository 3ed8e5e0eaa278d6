-- The conditionals of a generated file.
use Rattle.std.proofs.Common.{◌≡◌, ◌≤◌, ◌==◌, ℕ, suc, Bool, true, false, List, [], ◌∷◌, ◌++◌, map, refl, sym, subst}
use Rattle.std.specs.Prelude.{All, codes, if◌then◌else◌}
use Rattle.std.specs.List.{flat_map}
use Rattle.std.proofs.lemmas.List.Elements.{All-nil, All-append}
use Rattle.chor_base.specs.declared.names.NameId.{NameId}
use Rattle.chor_tree.specs.declared.file.File.{File}
use Rattle.chor_tree.specs.Source.{Block, Ends, Procedure, block_in, blocks_of, procedure_of}
use Rattle.chor_gen.specs.Words.{beginning}
use Rattle.chor_gen.specs.Generated.{call, told, odd_round, even_round, is_odd, procedure, procedures, body_of_round}
use Rattle.endpoint_code.specs.Trees.{CodeTree, Offers, NoArms, Arm}
use Rattle.endpoint_code.specs.Above.{IsAbove, offers, one_arm, no_arm, first, later}
use Rattle.endpoint_code.proofs.AboveOrder.{above_self}
use Rattle.projection.specs.MergeFaults.{Site, sites_in, sites_of, HasClash}
use Rattle.projection.proofs.Branches.{both}
use Rattle.projection.proofs.OneCode.{code_distinct, of_then}
use Rattle.generated_files.specs.Generated.{IsGenerated}
use Rattle.generated_files.proofs.Rounds.{at, among_rounds}
use Rattle.generated_files.proofs.Shape.{Bodies, IsKept, file_at, AreRounds, by_shape}
use Rattle.generated_files.proofs.Items.{one_item, all_parts}

module _ (count : ℕ) (few : count ≤ 4000) (w : Bodies) (kept : IsKept count w) (holds : AreRounds count w) where
  abbrev f : File
  f = file_at count w kept

  -- where p tells q a label in one branch and another in the other
  abbrev site : ℕ → Site
  site i = record { place = beginning; first = told (at count) (codes "more") count i; second = told (at count) (codes "less") count i; process = (at count (codes "q")).name }

  -- a branch with the two labels
  abbrev both_labels : CodeTree → CodeTree → CodeTree
  both_labels c d = Offers (at count (codes "k")).name (at count (codes "A")).name (Arm (at count (codes "more")).name c (Arm (at count (codes "less")).name d NoArms))

  no_clash : (i : ℕ) → HasClash f (site i) → ⊥
  no_clash i h =
      let a = of_then w.procs (at count (codes "q")).name h.first_code in
      let b = of_then w.procs (at count (codes "q")).name h.second_code in
      let top = both_labels a.0 b.0 in
      h.none top (refl, code_distinct w.procs (at count (codes "q")).name a.2, (refl, code_distinct w.procs (at count (codes "q")).name b.2, tt))
      (both (λ c. IsAbove top c) h.first h.second
      (subst (IsAbove top) (sym a.1) (offers (one_arm (first (above_self a.0)) no_arm)))
      (subst (IsAbove top) (sym b.1) (offers (one_arm (later (first (above_self b.0))) no_arm))))

  abbrev NoClash : Site → Type 0
  NoClash s = HasClash f s → ⊥

  -- a call or an end has no conditional
  none_after : (scope : List NameId) (b : Bool) (j : ℕ) → sites_in scope (if b then Ends beginning else call (at count) j) ≡ []
  none_after scope true j = refl
  none_after scope false j = refl

  abbrev scope_of : Procedure → List NameId
  scope_of h = map (λ p. p.name.name) h.params

  in_round : (i : ℕ) → All NoClash (sites_in (scope_of (procedure (at count) count i)) (body_of_round (at count) count i))
  in_round i = go (is_odd i)
    where
      go : (b : Bool) → All NoClash (sites_in ((at count (codes "p")).name ∷ (at count (codes "q")).name ∷ []) (if b then odd_round (at count) count i else even_round (at count) count i))
      go true = subst (All NoClash) (sym (none_after _ (i == count) (suc i))) (All-nil NoClash)
      go false =
          let rest = λ (l : List Site). All NoClash ((l ++ l) ++ site i ∷ []) in
          subst rest (sym (none_after _ (i == count) (suc i))) (one_item NoClash (site i) (no_clash i))

  abbrev of_procedure : Procedure → List Site
  of_procedure h = sites_in (scope_of h) h.body

  merge : All NoClash (sites_of f)
  merge =
      All-append NoClash (flat_map of_procedure (map (procedure_of w.tree.nodes) w.procs)) (sites_in (map (λ p. p.name) f.processes) (block_in (blocks_of w.tree.nodes) w.body))
      (subst (λ (ps : List Procedure). All NoClash (flat_map of_procedure ps)) (sym holds.procedures)
      (all_parts NoClash of_procedure (procedures (at count) count count) (λ h m.
      let d = among_rounds count few count h m in
      subst (λ (x : Procedure). All NoClash (of_procedure x)) (sym d.2) (in_round (suc d.0)))))
      (subst (λ (b : Block). All NoClash (sites_in (map (λ p. p.name) f.processes) b)) (sym holds.main) (All-nil NoClash))

pub all_merge : (f : File) (count : ℕ) → IsGenerated f count → All (λ s. HasClash f s → ⊥) (sites_of f)
all_merge f count g = by_shape count (λ (h : File). All (λ s. HasClash h s → ⊥) (sites_of h)) (λ w kept holds. merge count g.few w kept holds) f g
