-- The procedures of a generated file name both parameters before they pass them on.
use Rattle.std.proofs.Common.{◌≡◌, ◌≤◌, ℕ, zero, suc, Bool, true, false, List, refl, subst, arith}
use Rattle.std.specs.Prelude.{Contains, codes, if◌then◌else◌}
use Rattle.std.proofs.lemmas.Bool.{both_ways}
use Rattle.chor_base.specs.declared.fault.Fault.{Fault}
use Rattle.chor_base.specs.declared.names.NameId.{NameId}
use Rattle.chor_tree.specs.declared.file.File.{File}
use Rattle.chor_tree.specs.declared.file.ProcParam.{ProcParam}
use Rattle.chor_tree.specs.Names.{is_among}
use Rattle.chor_tree.specs.Source.{Block}
use Rattle.chor_gen.specs.Generated.{odd_round, even_round, body_of_round, is_odd, parameters}
use Rattle.typing_rules.specs.Guarded.{named_by, passed_by, IsUnguardedCall, here, further, IsGuarded}
use Rattle.generated_files.specs.Generated.{IsGenerated}
use Rattle.generated_files.proofs.Rounds.{at, declared}
use Rattle.generated_files.proofs.Shape.{Bodies, IsKept, file_at, AreRounds, by_shape}

-- a process that the head of a block names, and doesn't pass
named_first : (x : Fault) (r : NameId) (b : Block) → is_among (passed_by b) r ≡ false → is_among (named_by b) r ≡ true → IsUnguardedCall r x b → ⊥
named_first x r b free named (here h i) = both_ways (is_among (passed_by b) r) free h
named_first x r b free named (further h m u) = both_ways (is_among (named_by b) r) h named

module _ (count : ℕ) (few : count ≤ 4000) (w : Bodies) (kept : IsKept count w) (holds : AreRounds count w) where
  starts_first : (x : Fault) (q : ProcParam) (i : ℕ) → Contains (parameters (at count) i) q → IsUnguardedCall q.name.name x (body_of_round (at count) count i) → ⊥
  starts_first x q i (zero, l, e) u = subst (λ (p : ProcParam). IsUnguardedCall p.name.name x (body_of_round (at count) count i) → ⊥) e (go (is_odd i)) u
    where
      go : (b : Bool) → IsUnguardedCall (at count (codes "p")).name x (if b then odd_round (at count) count i else even_round (at count) count i) → ⊥
      go true h = named_first x (at count (codes "p")).name (odd_round (at count) count i) refl refl h
      go false h = named_first x (at count (codes "p")).name (even_round (at count) count i) refl refl h
  starts_first x q i (suc zero, l, e) u = subst (λ (p : ProcParam). IsUnguardedCall p.name.name x (body_of_round (at count) count i) → ⊥) e (go (is_odd i)) u
    where
      go : (b : Bool) → IsUnguardedCall (at count (codes "q")).name x (if b then odd_round (at count) count i else even_round (at count) count i) → ⊥
      go true h = named_first x (at count (codes "q")).name (odd_round (at count) count i) refl refl h
      go false h = named_first x (at count (codes "q")).name (even_round (at count) count i) refl refl h
  starts_first x q i (suc (suc j), l, e) u = absurd (omega (arith, l))

  guarded : IsGuarded (file_at count w kept)
  guarded x g =
      let d = declared count few w.tree.nodes w.procs holds.procedures g.procedure g.is_declared in
      let r = d.2 in
      starts_first x g.param (suc d.0) (subst (λ (ps : List ProcParam). Contains ps g.param) r.params g.is_param) (subst (IsUnguardedCall g.param.name.name x) r.body g.is_call)

pub all_guarded : (f : File) (count : ℕ) → IsGenerated f count → IsGuarded f
all_guarded f count g = by_shape count IsGuarded (λ w kept holds. guarded count g.few w kept holds) f g
