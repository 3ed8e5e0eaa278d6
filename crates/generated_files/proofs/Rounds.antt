-- The procedures of a generated file, one for each round, and how one is found by its name.
use Rattle.std.proofs.Common.{◌≡◌, ◌<◌, ◌≤◌, ◌+◌, ◌==◌, ◌⊎◌, inl, inr, ℕ, zero, suc, Bool, true, false, List, [], ◌∷◌, ◌++◌, map, Option, Some, None, refl, sym, ap, ◌∙◌, subst, arith}
use Rattle.std.specs.Prelude.{Contains, option_map, if◌then◌else◌}
use Rattle.std.proofs.lemmas.Bool.{cases_lt}
use Rattle.std.proofs.lemmas.Bool.Decides.{nat_tests}
use Rattle.std.proofs.lemmas.List.Elements.{Contains-push_cases}
use Rattle.chor_tree.specs.declared.file.Named.{Named}
use Rattle.chor_tree.specs.declared.file.Proc.{Proc}
use Rattle.chor_tree.specs.declared.tree.Node.{Node}
use Rattle.chor_tree.specs.Names.{first_named}
use Rattle.chor_tree.specs.Source.{Procedure, block_in, blocks_of, procedure_of}
use Rattle.chor_gen.specs.Words.{beginning, named_in, generated_names, procedure_word}
use Rattle.chor_gen.specs.Generated.{parameters, body_of_round, procedure, procedures}
use Rattle.generated_files.proofs.Numbers.{number_of_round}
use Rattle.generated_files.proofs.Lists.{no_member, mapped_member, first_front, first_back, first_mapped}

-- the name of the procedure of a round, where the first round is that of 0
abbrev pub called : ℕ → Named
called i = record { name = record { 0 = 20 + i }; place = beginning }

module _ (count : ℕ) where
  abbrev pub at : List ℕ → Named
  at = named_in (generated_names count)

  -- the procedure is that of round i + 1
  pub record IsRound (nodes : List Node) (p : Proc) (i : ℕ) : Type 0 where
    pub name : p.name ≡ called i
    pub params : p.params ≡ parameters at (suc i)
    pub sessions : p.sessions ≡ []
    pub body : block_in (blocks_of nodes) p.body ≡ body_of_round at count (suc i)

  module _ (few : count ≤ 4000) where
    pub name_is : (i : ℕ) → i < count → at (procedure_word (suc i)) ≡ called i
    name_is i lt = number_of_round count i lt few

    -- ---- in the list of procedures

    abbrev name_of : Procedure → Named
    name_of p = p.name

    -- one procedure is found, or not
    alone : (m j : ℕ) (b : Bool) → m < count → (20 + m == 20 + j) ≡ b → first_named name_of (procedure at count (suc m) ∷ []) (called j).name ≡ (if b then Some (procedure at count (suc m)) else None)
    alone m j b lt e =
        ap (λ (x : Named). if x.name.0 == 20 + j then Some (procedure at count (suc m)) else None) (name_is m lt)
        ∙ ap (λ (t : Bool). if t then Some (procedure at count (suc m)) else None) e

    no_round : (m j : ℕ) → m ≤ j → j < count → first_named name_of (procedures at count m) (called j).name ≡ None
    no_round zero j le lt = refl
    no_round (suc m) j le lt =
        first_back name_of (called j).name (procedures at count m) (procedure at count (suc m) ∷ []) (no_round m j (omega arith) lt)
        ∙ alone m j false (omega arith) (grind (arith, nat_tests))

    the_round : (m j : ℕ) → j < m → m ≤ count → first_named name_of (procedures at count m) (called j).name ≡ Some (procedure at count (suc j))
    the_round zero j lt le = absurd (omega arith)
    the_round (suc m) j lt le = go (cases_lt j m) (λ l. the_round m j l (omega arith))
      where
        go : (j < m) ⊎ (m ≤ j) → (j < m → first_named name_of (procedures at count m) (called j).name ≡ Some (procedure at count (suc j)))
            → first_named name_of (procedures at count m ++ procedure at count (suc m) ∷ []) (called j).name ≡ Some (procedure at count (suc j))
        go (inl l) more = first_front name_of (called j).name (procedures at count m) (procedure at count (suc m) ∷ []) (procedure at count (suc j)) (more l)
        go (inr l) more =
            let same : m ≡ j = omega arith in
            first_back name_of (called j).name (procedures at count m) (procedure at count (suc m) ∷ []) (no_round m j (omega arith) (omega arith))
            ∙ alone m j true (omega arith) (grind (arith, nat_tests))
            ∙ ap (λ (k : ℕ). Some (procedure at count (suc k))) same

    pub among_rounds : (m : ℕ) (p : Procedure) → Contains (procedures at count m) p → (i : ℕ) × (i < m) × (p ≡ procedure at count (suc i))
    among_rounds zero p h = absurd (no_member p h)
    among_rounds (suc m) p h = go (Contains-push_cases (procedures at count m) (procedure at count (suc m)) p h) (among_rounds m p)
      where
        go : Contains (procedures at count m) p ⊎ (procedure at count (suc m) ≡ p) → (Contains (procedures at count m) p → (i : ℕ) × (i < m) × (p ≡ procedure at count (suc i)))
            → (i : ℕ) × (i < suc m) × (p ≡ procedure at count (suc i))
        go (inl l) more = let w = more l in let lt = w.1 in (w.0, omega (arith, lt), w.2)
        go (inr l) more = (m, omega arith, sym l)

    -- ---- in a file with these nodes and procedures

    module _ (nodes : List Node) (procs : List Proc) (bodies : map (procedure_of nodes) procs ≡ procedures at count count) where
      round_is : (p : Proc) (i : ℕ) → i < count → procedure_of nodes p ≡ procedure at count (suc i) → IsRound nodes p i
      round_is p i lt e = record {
        name = ap (λ (q : Procedure). q.name) e ∙ name_is i lt;
        params = ap (λ (q : Procedure). q.params) e;
        sessions = ap (λ (q : Procedure). q.sessions) e;
        body = ap (λ (q : Procedure). q.body) e;
      }

      -- each declared procedure is that of a round
      pub declared : (p : Proc) → Contains procs p → (i : ℕ) × (i < count) × IsRound nodes p i
      declared p h =
          let w = among_rounds count (procedure_of nodes p) (subst (λ (l : List Procedure). Contains l (procedure_of nodes p)) bodies (mapped_member (procedure_of nodes) procs p h)) in
          (w.0, w.1, round_is p w.0 w.1 w.2)

      -- the procedure of a round is found by its name
      pub found : (i : ℕ) → i < count → (p : Proc) × (first_named (λ q. q.name) procs (called i).name ≡ Some p) × IsRound nodes p i
      found i lt = go (first_named (λ q. q.name) procs (called i).name) refl
        where
          same : option_map (procedure_of nodes) (first_named (λ q. q.name) procs (called i).name) ≡ Some (procedure at count (suc i))
          same = first_mapped (procedure_of nodes) name_of (called i).name procs ∙ ap (λ l. first_named name_of l (called i).name) bodies ∙ the_round count i lt (omega arith)

          go : (r : Option Proc) → first_named (λ q. q.name) procs (called i).name ≡ r → (p : Proc) × (first_named (λ q. q.name) procs (called i).name ≡ Some p) × IsRound nodes p i
          go None e = let clash : None ≡ Some (procedure at count (suc i)) = ap (option_map (procedure_of nodes)) (sym e) ∙ same in absurd cc
          go (Some p) e =
              let is : Some (procedure_of nodes p) ≡ Some (procedure at count (suc i)) = ap (option_map (procedure_of nodes)) (sym e) ∙ same in
              (p, e, round_is p i lt (cc))
