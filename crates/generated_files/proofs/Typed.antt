-- The procedures of a generated file are typed.
use Rattle.std.proofs.Common.{◌≡◌, ◌<◌, ◌≤◌, ◌==◌, ◌∙◌, ℕ, suc, Bool, true, false, List, [], ◌∷◌, ◌++◌, Option, Some, None, refl, sym, ap, subst, arith}
use Rattle.std.specs.Prelude.{Contains, codes, map, if◌then◌else◌}
use Rattle.std.specs.List.{flat_map}
use Rattle.std.proofs.lemmas.Bool.{eqb-false}
use Rattle.chor_base.specs.declared.rule.Rule.TheVariants.{T6, T7}
use Rattle.chor_base.specs.declared.value.Sort.TheVariants.{Int as Number}
use Rattle.chor_tree.specs.declared.file.File.{File}
use Rattle.chor_tree.specs.declared.file.Named.{Named}
use Rattle.chor_tree.specs.declared.file.Proc.{Proc}
use Rattle.chor_tree.specs.declared.file.ProcParam.{ProcParam}
use Rattle.chor_tree.specs.declared.file.SessionParam.{SessionParam}
use Rattle.chor_tree.specs.Source.{Statement, Calls, Ends, block_in, blocks_of}
use Rattle.chor_gen.specs.Words.{beginning}
use Rattle.chor_gen.specs.Generated.{p_and_q, call, after_round, odd_round, even_round, body_of_round, is_odd, parameters, start_round, start_fork, p_sends, q_sends, r_sends, tells}
use Rattle.delegation.specs.Checks.{ask, first_failed}
use Rattle.delegation.specs.Owners.{listed}
use Rattle.typing_rules.specs.Environment.{Environment, stands, declared_sorts, at_main, at_procedure}
use Rattle.typing_rules.specs.Checks.{params_are_set, sessions_fit, arguments_fit, rest_ended, rule_at}
use Rattle.typing_rules.specs.After.{after_statement}
use Rattle.typing_rules.specs.TypeFaults.{holder_fault, in_main, in_a_head, in_a_procedure, IsTyped}
use Rattle.generated_files.specs.Generated.{IsGenerated}
use Rattle.generated_files.proofs.Lists.{no_member}
use Rattle.generated_files.proofs.Rounds.{at, name_is, IsRound, declared, found}
use Rattle.generated_files.proofs.Shape.{Bodies, IsKept, file_at, AreRounds, by_shape}
use Rattle.generated_files.proofs.ClearTypes.{IsClear, no_fault}

module _ (count : ℕ) (few : count ≤ 4000) (w : Bodies) (kept : IsKept count w) (holds : AreRounds count w) where
  abbrev f : File
  f = file_at count w kept

  -- ---- calls

  -- a call may stand there: the sessions have ended, and what the round needs is set
  pub record IsReady (e : Environment) (i : ℕ) : Type 0 where
    pub ended : rest_ended f e [] ≡ true
    pub set : params_are_set e (parameters (at count) i) (p_and_q (at count)) ≡ true

  call_fine : (e : Environment) (i : ℕ) → i < count → IsReady e (suc i) → rule_at f e (call (at count) (suc i)) ≡ None
  call_fine e i lt ready =
      let d = found count few w.tree.nodes w.procs holds.procedures i lt in
      let r = d.2 in
      ap (λ (g : Named). rule_at f e (Calls beginning g (p_and_q (at count)) [])) (name_is count few i lt)
      ∙ ap (λ (o : Option Proc). first_failed (None ∷ (arguments_fit e o (p_and_q (at count)) [] ++ ask (rest_ended f e []) T6 ∷ []))) d.1
      ∙ (λ j. first_failed (None ∷ ask (params_are_set e (r.params j) (p_and_q (at count))) T7 ∷ ask (sessions_fit e (r.params j) (p_and_q (at count)) (r.sessions j) []) T7 ∷ ask (rest_ended f e []) T6 ∷ []))
      ∙ (λ j. first_failed (None ∷ ask (ready.set j) T7 ∷ None ∷ ask (ready.ended j) T6 ∷ []))

  after_fine : (e : Environment) (i : ℕ) → i < count → IsReady e (suc (suc i)) → IsClear f e (after_round (at count) count (suc i))
  after_fine e i lt ready = go (suc i == count) refl
    where
      go : (b : Bool) → (suc i == count) ≡ b → IsClear f e (if b then Ends beginning else call (at count) (suc (suc i)))
      go true t = ap (λ (b : Bool). first_failed (ask b T6 ∷ [])) ready.ended
      go false t = let other = eqb-false (suc i) count t in call_fine e (suc i) (omega arith) ready

  -- p's number is set
  set_either : (e : Environment) (i : ℕ) → e.sorts (at count (codes "p")).name (at count (codes "z")).name ≡ Some Number → params_are_set e (parameters (at count) i) (p_and_q (at count)) ≡ true
  set_either e i h = go (is_odd i)
    where
      go : (b : Bool) → params_are_set e (record { name = at count (codes "p"); vars = if b then [] else (at count (codes "z"), Number) ∷ [] } ∷ record { name = at count (codes "q"); vars = [] } ∷ []) (p_and_q (at count)) ≡ true
      go true = refl
      go false = simp h

  -- ---- bodies

  -- what is known where a procedure with these parameters begins
  abbrev begin : List ProcParam → Environment
  begin ps = record { standings = []; owners = []; sorts = declared_sorts ps }

  -- the parameters of an odd and of an even round
  abbrev params_if : Bool → List ProcParam
  params_if b = record { name = at count (codes "p"); vars = if b then [] else (at count (codes "z"), Number) ∷ [] } ∷ record { name = at count (codes "q"); vars = [] } ∷ []

  -- what is known after so many statements
  abbrev after_all : Environment → List Statement → Environment
  after_all e [] = e
  after_all e (s ∷ ss) = after_all (after_statement f e s) ss

  abbrev after_odd : ℕ → Environment
  after_odd i = after_all (begin (params_if true)) (start_round (at count) ∷ p_sends (at count) i ∷ q_sends (at count) ∷ r_sends (at count) ∷ [])

  abbrev after_even : List ℕ → Environment
  after_even l = after_all (begin (params_if false)) (start_fork (at count) ∷ tells (at count) l ∷ [])

  odd_fine : (i : ℕ) → i < count → IsClear f (begin (params_if true)) (odd_round (at count) count (suc i))
  odd_fine i lt = (refl, (refl, (refl, (refl, after_fine (after_odd (suc i)) i lt (record { ended = refl; set = set_either (after_odd (suc i)) (suc (suc i)) refl })))))

  even_fine : (i : ℕ) → i < count → IsClear f (begin (params_if false)) (even_round (at count) count (suc i))
  even_fine i lt = (refl, (refl, (refl, ended (codes "more") refl refl), (refl, ended (codes "less") refl refl)))
    where
      ended : (l : List ℕ) → rest_ended f (after_even l) [] ≡ true → (after_even l).sorts (at count (codes "p")).name (at count (codes "z")).name ≡ Some Number → IsClear f (after_even l) (after_round (at count) count (suc i))
      ended l h k = after_fine (after_even l) i lt (record { ended = h; set = set_either (after_even l) (suc (suc i)) k })

  round_fine : (i : ℕ) → i < count → IsClear f (begin (parameters (at count) (suc i))) (body_of_round (at count) count (suc i))
  round_fine i lt = go (is_odd (suc i))
    where
      go : (b : Bool) → IsClear f (begin (params_if b)) (if b then odd_round (at count) count (suc i) else even_round (at count) count (suc i))
      go true = odd_fine i lt
      go false = even_fine i lt

  procedure_fine : (p : Proc) (i : ℕ) → i < count → IsRound count w.tree.nodes p i → IsClear f (at_procedure p) (block_in (blocks_of w.tree.nodes) p.body)
  procedure_fine p i lt r =
      subst (λ (ks : List SessionParam). IsClear f (record { standings = map (λ k. stands k.name.name k.protocol.name k.state.name) ks; owners = flat_map (λ k. listed k.name.name k.holders) ks; sorts = declared_sorts p.params }) (block_in (blocks_of w.tree.nodes) p.body)) (sym r.sessions)
      (subst (λ (ps : List ProcParam). IsClear f (begin ps) (block_in (blocks_of w.tree.nodes) p.body)) (sym r.params)
      (subst (IsClear f (begin (parameters (at count) (suc i)))) (sym r.body) (round_fine i lt)))

  typed : 1 ≤ count → IsTyped f
  typed some x (in_main h) =
      no_fault f x (block_in (blocks_of w.tree.nodes) w.body) at_main (subst (IsClear f at_main) (sym holds.main) (call_fine at_main 0 (omega arith) (record { ended = refl; set = refl }))) h
  typed some x (in_a_head {p = p} m h) =
      let d = declared count few w.tree.nodes w.procs holds.procedures p m in
      let r = d.2 in
      no_member x (subst (λ (ks : List SessionParam). Contains (flat_map holder_fault ks) x) r.sessions h)
  typed some x (in_a_procedure {p = p} m none h) =
      let d = declared count few w.tree.nodes w.procs holds.procedures p m in
      no_fault f x (block_in (blocks_of w.tree.nodes) p.body) (at_procedure p) (procedure_fine p d.0 d.1 d.2) h

pub all_typed : (f : File) (count : ℕ) → IsGenerated f count → IsTyped f
all_typed f count g = by_shape count IsTyped (λ w kept holds. typed count g.few w kept holds g.some) f g
