-- No declaration of a generated file has a fault of names.
use Rattle.std.proofs.Common.{◌≡◌, ◌<◌, ◌≤◌, ◌+◌, ◌==◌, ◌||◌, ℕ, zero, suc, Bool, true, false, List, [], ◌∷◌, ◌++◌, map, refl, ap, ◌∙◌, arith}
use Rattle.std.specs.Prelude.{codes, if◌then◌else◌}
use Rattle.std.specs.List.{flat_map}
use Rattle.std.proofs.lemmas.Bool.Decides.{nat_tests}
use Rattle.std.proofs.lemmas.List.{map-append}
use Rattle.chor_base.specs.declared.fault.Fault.{Fault}
use Rattle.chor_base.specs.declared.names.NameId.{NameId}
use Rattle.chor_base.specs.declared.rule.Rule.TheVariants.{N2}
use Rattle.chor_base.specs.declared.value.Sort.TheVariants.{Int as Number}
use Rattle.chor_tree.specs.declared.file.File.{File}
use Rattle.chor_tree.specs.declared.file.Named.{Named}
use Rattle.chor_tree.specs.declared.file.Proc.{Proc}
use Rattle.chor_tree.specs.declared.file.ProcParam.{ProcParam}
use Rattle.chor_tree.specs.declared.file.SessionParam.{SessionParam}
use Rattle.chor_tree.specs.declared.tree.Node.{Node}
use Rattle.chor_tree.specs.Names.{is_among, repeated, fault_at, session_faults, procedure_faults, declaration_faults}
use Rattle.chor_tree.specs.Source.{Procedure, procedure_of}
use Rattle.chor_gen.specs.Generated.{is_odd, parameters, procedure, procedures}
use Rattle.generated_files.proofs.Lists.{none_of}
use Rattle.generated_files.proofs.Rounds.{at, called, name_is, IsRound, declared}
use Rattle.generated_files.proofs.Shape.{Bodies, IsKept, file_at, AreRounds}

-- ---- names in a list, one after another

-- what is known after these
abbrev known_after : List NameId → List Named → List NameId
known_after known [] = known
known_after known (x ∷ xs) = known_after (x.name ∷ known) xs

known_more : (known : List NameId) (xs : List Named) (y : Named) → known_after known (xs ++ y ∷ []) ≡ y.name ∷ known_after known xs
known_more known [] y = refl
known_more known (x ∷ xs) y = known_more (x.name ∷ known) xs y

repeated_more : (known : List NameId) (xs : List Named) (y : Named) → repeated known xs ≡ [] → is_among (known_after known xs) y.name ≡ false → repeated known (xs ++ y ∷ []) ≡ []
repeated_more known [] y none new = ap (λ (b : Bool). fault_at b N2 y ++ []) new
repeated_more known (x ∷ xs) y none new = go (is_among known x.name) none (λ h. repeated_more (x.name ∷ known) xs y h new)
  where
    go : (b : Bool) → fault_at b N2 x ++ repeated (x.name ∷ known) xs ≡ [] → (repeated (x.name ∷ known) xs ≡ [] → repeated (x.name ∷ known) (xs ++ y ∷ []) ≡ []) → fault_at b N2 x ++ repeated (x.name ∷ known) (xs ++ y ∷ []) ≡ []
    go true h more = absurd cc
    go false h more = more h

names_kept : (nodes : List Node) (ps : List Proc) → map (λ p. p.name) ps ≡ map (λ (q : Procedure). q.name) (map (procedure_of nodes) ps)
names_kept nodes [] = refl
names_kept nodes (p ∷ ps) = ap (λ (l : List Named). p.name ∷ l) (names_kept nodes ps)

module _ (count : ℕ) (few : count ≤ 4000) where
  abbrev names : ℕ → List Named
  names m = map (λ (q : Procedure). q.name) (procedures (at count) count m)

  names_more : (m : ℕ) → m < count → names (suc m) ≡ names m ++ called m ∷ []
  names_more m lt = map-append (λ (q : Procedure). q.name) (procedures (at count) count m) (procedure (at count) count (suc m) ∷ []) ∙ ap (λ (x : Named). names m ++ x ∷ []) (name_is count few m lt)

  is_new : (m j : ℕ) → m ≤ count → m ≤ j → is_among (known_after [] (names m)) (called j).name ≡ false
  is_new zero j le l = refl
  is_new (suc m) j le l =
      let other : (20 + m == 20 + j) ≡ false = grind (arith, nat_tests) in
      ap (λ (xs : List Named). is_among (known_after [] xs) (called j).name) (names_more m (omega arith))
      ∙ ap (λ (xs : List NameId). is_among xs (called j).name) (known_more [] (names m) (called m))
      ∙ ap (λ (b : Bool). b || is_among (known_after [] (names m)) (called j).name) other
      ∙ is_new m j (omega arith) (omega arith)

  each_once : (m : ℕ) → m ≤ count → repeated [] (names m) ≡ []
  each_once zero le = refl
  each_once (suc m) le = ap (repeated []) (names_more m (omega arith)) ∙ repeated_more [] (names m) (called m) (each_once m (omega arith)) (is_new m m (omega arith) (omega arith))

  -- ---- the file

  module _ (w : Bodies) (kept : IsKept count w) (holds : AreRounds count w) where
    abbrev f : File
    f = file_at count w kept

    names_apart : repeated [] (map (λ p. p.name) w.procs) ≡ []
    names_apart =
        ap (repeated []) (names_kept w.tree.nodes w.procs ∙ ap (map (λ (q : Procedure). q.name)) holds.procedures)
        ∙ each_once count (omega arith)

    abbrev head_of : List ProcParam → List SessionParam → List Fault
    head_of ps ks =
        repeated [] (map (λ q. q.name) ps ++ map (λ k. k.name) ks)
        ++ flat_map (λ q. repeated [] (map (λ v. v.0) q.vars)) ps
        ++ flat_map (session_faults f (map (λ q. q.name.name) ps)) ks

    fine_head : (i : ℕ) → head_of (parameters (at count) i) [] ≡ []
    fine_head i = go (is_odd i)
      where
        go : (b : Bool) → head_of (record { name = at count (codes "p"); vars = if b then [] else (at count (codes "z"), Number) ∷ [] } ∷ record { name = at count (codes "q"); vars = [] } ∷ []) [] ≡ []
        go true = refl
        go false = refl

    heads_fine : flat_map (procedure_faults f) w.procs ≡ []
    heads_fine = none_of (procedure_faults f) w.procs (λ p m. let d = declared count few w.tree.nodes w.procs holds.procedures p m in one p d.0 d.2)
      where
        one : (p : Proc) (i : ℕ) → IsRound count w.tree.nodes p i → procedure_faults f p ≡ []
        one p i r = (λ j. head_of (r.params j) (r.sessions j)) ∙ fine_head (suc i)

    pub no_declaration_fault : declaration_faults f ≡ []
    no_declaration_fault = ap (λ (l : List Fault). (l ++ flat_map (procedure_faults f) w.procs) ++ []) names_apart ∙ ap (λ (l : List Fault). l ++ []) heads_fine
