-- Each name of a generated file is in scope where it is used.
use Rattle.std.proofs.Common.{◌≡◌, ◌<◌, ◌≤◌, ◌==◌, ◌&&◌, ◌||◌, ℕ, suc, Bool, true, false, List, [], ◌∷◌, ◌++◌, map, length, Option, Some, refl, sym, ap, ◌∙◌, subst, arith}
use Rattle.std.specs.Prelude.{Contains, not, codes, if◌then◌else◌}
use Rattle.std.proofs.lemmas.Bool.{eqb-false}
use Rattle.chor_base.specs.declared.fault.Fault.{Fault}
use Rattle.chor_base.specs.declared.names.NameId.{NameId}
use Rattle.chor_base.specs.declared.rule.Rule.TheVariants.{N1, N3}
use Rattle.chor_tree.specs.declared.file.File.{File}
use Rattle.chor_tree.specs.declared.file.Named.{Named}
use Rattle.chor_tree.specs.declared.file.Proc.{Proc}
use Rattle.chor_tree.specs.declared.file.ProcParam.{ProcParam}
use Rattle.chor_tree.specs.declared.file.SessionParam.{SessionParam}
use Rattle.chor_tree.specs.Names.{Scope, first_named, is_among, fault_at, wrong_numbers, unknown_process, scope_of_main, scope_of_procedure, IsNameFault, in_a_declaration, in_main, in_a_procedure}
use Rattle.chor_tree.specs.Source.{Ends, block_in, blocks_of}
use Rattle.chor_gen.specs.Words.{beginning, procedure_word}
use Rattle.chor_gen.specs.Generated.{p_and_q, call, after_round, odd_round, even_round, body_of_round, is_odd}
use Rattle.generated_files.specs.Generated.{IsGenerated}
use Rattle.generated_files.proofs.Lists.{no_member}
use Rattle.generated_files.proofs.Rounds.{at, called, name_is, IsRound, declared, found}
use Rattle.generated_files.proofs.Shape.{Bodies, IsKept, file_at, AreRounds, by_shape}
use Rattle.generated_files.proofs.ClearNames.{IsClear, call_faults, no_fault}
use Rattle.generated_files.proofs.Declared.{no_declaration_fault}

-- what is found by its name is among the names
found_among : {A : Type 0} (name : A → Named) (x : NameId) (xs : List A) (a : A) → first_named name xs x ≡ Some a → is_among (map (λ y. (name y).name) xs) x ≡ true
found_among name x [] a h = absurd cc
found_among name x (b ∷ xs) a h = go ((name b).name.0 == x.0) h (found_among name x xs a)
  where
    go : (t : Bool) → (if t then Some b else first_named name xs x) ≡ Some a → (first_named name xs x ≡ Some a → is_among (map (λ y. (name y).name) xs) x ≡ true) → (t || is_among (map (λ y. (name y).name) xs) x) ≡ true
    go true h more = refl
    go false h more = more h

module _ (count : ℕ) (few : count ≤ 4000) (hosts : List (List ℕ)) (w : Bodies) (kept : IsKept count w) (holds : AreRounds count w) where
  abbrev f : File
  f = file_at count w kept

  -- p and q are in scope
  pub record HasBoth (s : Scope) : Type 0 where
    pub first : unknown_process s (at count (codes "p")) ≡ []
    pub second : unknown_process s (at count (codes "q")) ≡ []

  abbrev numbers : Named → List ProcParam → List SessionParam → List Fault
  numbers g ps ks = fault_at (not ((2 == length ps) && (0 == length ks))) N3 g

  call_fine : (s : Scope) (i : ℕ) → i < count → HasBoth s → call_faults f hosts s (at count (procedure_word (suc i))) (p_and_q (at count)) [] ≡ []
  call_fine s i lt both =
      let d = found count few w.tree.nodes w.procs holds.procedures i lt in
      let r = d.2 in
      let P = unknown_process s (at count (codes "p")) in
      let Q = unknown_process s (at count (codes "q")) in
      ap (λ (g : Named). call_faults f hosts s g (p_and_q (at count)) []) (name_is count few i lt)
      ∙ ap (λ (b : Bool). ((fault_at (not b) N1 (called i) ++ wrong_numbers (first_named (λ q. q.name) w.procs (called i).name) (called i) (p_and_q (at count)) []) ++ (P ++ (Q ++ []))) ++ []) (found_among (λ q. q.name) (called i).name w.procs d.0 d.1)
      ∙ ap (λ (o : Option Proc). (wrong_numbers o (called i) (p_and_q (at count)) [] ++ (P ++ (Q ++ []))) ++ []) d.1
      ∙ (λ j. (numbers (called i) (r.params j) (r.sessions j) ++ (P ++ (Q ++ []))) ++ [])
      ∙ ap (λ (l : List Fault). (l ++ (Q ++ [])) ++ []) both.first
      ∙ ap (λ (l : List Fault). (l ++ []) ++ []) both.second

  after_fine : (s : Scope) (i : ℕ) → i < count → HasBoth s → IsClear f hosts s (after_round (at count) count (suc i))
  after_fine s i lt both = go (suc i == count) refl
    where
      go : (b : Bool) → (suc i == count) ≡ b → IsClear f hosts s (if b then Ends beginning else call (at count) (suc (suc i)))
      go true e = tt
      go false e = let other = eqb-false (suc i) count e in call_fine s (suc i) (omega arith) both

  -- where a procedure begins
  abbrev start : Scope
  start = record { processes = map (λ x. x.name) (p_and_q (at count)); sessions = [] }

  odd_fine : (i : ℕ) → i < count → IsClear f hosts start (odd_round (at count) count (suc i))
  odd_fine i lt = (refl, (refl, (refl, (refl, after_fine _ i lt (record { first = refl; second = refl })))))

  even_fine : (i : ℕ) → i < count → IsClear f hosts start (even_round (at count) count (suc i))
  even_fine i lt = (refl, (refl, (refl, after_fine _ i lt (record { first = refl; second = refl })), (refl, after_fine _ i lt (record { first = refl; second = refl }))))

  round_fine : (i : ℕ) → i < count → IsClear f hosts start (body_of_round (at count) count (suc i))
  round_fine i lt = go (is_odd (suc i))
    where
      go : (b : Bool) → IsClear f hosts start (if b then odd_round (at count) count (suc i) else even_round (at count) count (suc i))
      go true = odd_fine i lt
      go false = even_fine i lt

  procedure_fine : (p : Proc) (i : ℕ) → i < count → IsRound count w.tree.nodes p i → IsClear f hosts (scope_of_procedure p) (block_in (blocks_of w.tree.nodes) p.body)
  procedure_fine p i lt r =
      subst (λ (ps : List ProcParam). IsClear f hosts (record { processes = map (λ q. q.name.name) ps; sessions = map (λ k. k.name.name) p.sessions }) (block_in (blocks_of w.tree.nodes) p.body)) (sym r.params)
      (subst (λ (ks : List SessionParam). IsClear f hosts (record { processes = start.processes; sessions = map (λ k. k.name.name) ks }) (block_in (blocks_of w.tree.nodes) p.body)) (sym r.sessions)
      (subst (IsClear f hosts start) (sym r.body) (round_fine i lt)))

  no_names : 1 ≤ count → (x : Fault) → ¬ IsNameFault f hosts x
  no_names some x (in_a_declaration m) = no_member x (subst (λ l. Contains l x) (no_declaration_fault count few w kept holds) m)
  no_names some x (in_main h) =
      no_fault f hosts x (subst (IsClear f hosts (scope_of_main f)) (sym holds.main) (call_fine (scope_of_main f) 0 (omega arith) (record { first = refl; second = refl }))) h
  no_names some x (in_a_procedure {p = p} m h) =
      let d = declared count few w.tree.nodes w.procs holds.procedures p m in
      no_fault f hosts x (procedure_fine p d.0 d.1 d.2) h

pub all_resolved : (f : File) (count : ℕ) (hosts : List (List ℕ)) → IsGenerated f count → (x : Fault) → ¬ IsNameFault f hosts x
all_resolved f count hosts g x = by_shape count (λ (h : File). ¬ IsNameFault h hosts x) (λ w kept holds. no_names count g.few hosts w kept holds g.some x) f g
