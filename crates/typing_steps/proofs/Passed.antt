-- The variables of parameters and what is passed for them, from the first on.
use Rattle.std.proofs.Common.{◌≡◌, ℕ, suc, ◌+◌, ◌<◌, ◌&&◌, Bool, true, false, List, ◌∷◌, length, drop, ap, sym, ◌∙◌, arith}
use Rattle.std.specs.Prelude.{slice_index_or}
use Rattle.std.proofs.Math.Seq.{drop-cons}
use Rattle.chor_tree.specs.declared.file.Named.{Named}
use Rattle.chor_tree.specs.declared.file.ProcParam.{ProcParam}
use Rattle.chor_tree.specs.declared.file.SessionParam.{SessionParam}
use Rattle.typing_rules.specs.Environment.{Environment}
use Rattle.typing_rules.specs.Checks.{are_set, params_are_set, session_fits, sessions_fit}

pub item_first : {A : Type 0} (xs : List A) (i : ℕ) (x : A) → i < length xs → x ≡ slice_index_or xs i x → drop i xs ≡ x ∷ drop (i + 1) xs
item_first xs i x lt is_x =
    let after : suc i ≡ i + 1 = omega arith in
    drop-cons xs i x lt ∙ ap (λ y. y ∷ drop (suc i) xs) (sym is_x) ∙ ap (λ j. x ∷ drop j xs) after

module _ (e : Environment) (qs : List ProcParam) (ps : List Named) (i : ℕ) (q : ProcParam) (p : Named) (whole : Bool) where
  abbrev rest : Bool
  rest = params_are_set e (drop (i + 1) qs) (drop (i + 1) ps)

  param_first : i < length qs → q ≡ slice_index_or qs i q → i < length ps → p ≡ slice_index_or ps i p
      → params_are_set e (drop i qs) (drop i ps) ≡ (are_set q.vars (e.sorts p.name) && rest)
  param_first lt is_q within is_p = λ j. params_are_set e (item_first qs i q lt is_q j) (item_first ps i p within is_p j)

  pub param_fails : i < length qs → q ≡ slice_index_or qs i q → i < length ps → p ≡ slice_index_or ps i p → false ≡ are_set q.vars (e.sorts p.name)
      → params_are_set e (drop i qs) (drop i ps) ≡ whole → false ≡ whole
  param_fails lt is_q within is_p fails so_far = ap (λ b. b && rest) fails ∙ sym (param_first lt is_q within is_p) ∙ so_far

  pub param_holds : i < length qs → q ≡ slice_index_or qs i q → i < length ps → p ≡ slice_index_or ps i p → true ≡ are_set q.vars (e.sorts p.name)
      → params_are_set e (drop i qs) (drop i ps) ≡ whole → params_are_set e (drop (i + 1) qs) (drop (i + 1) ps) ≡ whole
  param_holds lt is_q within is_p holds so_far = ap (λ b. b && rest) holds ∙ sym (param_first lt is_q within is_p) ∙ so_far

module _ (e : Environment) (qs : List ProcParam) (ps : List Named) (ss : List SessionParam) (ks : List Named) (i : ℕ) (s : SessionParam) (k : Named) (whole : Bool) where
  abbrev others : Bool
  others = sessions_fit e qs ps (drop (i + 1) ss) (drop (i + 1) ks)

  session_first : i < length ss → s ≡ slice_index_or ss i s → i < length ks → k ≡ slice_index_or ks i k
      → sessions_fit e qs ps (drop i ss) (drop i ks) ≡ (session_fits e qs ps s k.name && others)
  session_first lt is_s within is_k = λ j. sessions_fit e qs ps (item_first ss i s lt is_s j) (item_first ks i k within is_k j)

  pub session_fails : i < length ss → s ≡ slice_index_or ss i s → i < length ks → k ≡ slice_index_or ks i k → false ≡ session_fits e qs ps s k.name
      → sessions_fit e qs ps (drop i ss) (drop i ks) ≡ whole → false ≡ whole
  session_fails lt is_s within is_k fails so_far = ap (λ b. b && others) fails ∙ sym (session_first lt is_s within is_k) ∙ so_far

  pub session_holds : i < length ss → s ≡ slice_index_or ss i s → i < length ks → k ≡ slice_index_or ks i k → true ≡ session_fits e qs ps s k.name
      → sessions_fit e qs ps (drop i ss) (drop i ks) ≡ whole → sessions_fit e qs ps (drop (i + 1) ss) (drop (i + 1) ks) ≡ whole
  session_holds lt is_s within is_k holds so_far = ap (λ b. b && others) holds ∙ sym (session_first lt is_s within is_k) ∙ so_far
