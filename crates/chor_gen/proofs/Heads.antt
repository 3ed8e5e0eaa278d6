-- What forms say and keep that are made of known names.
use Rattle.std.proofs.Common.{◌≡◌, ◌&&◌, ◌||◌, Bool, true, false, ℕ, List, [], ◌∷◌, ap, refl, sym, subst}
use Rattle.std.specs.Prelude.{codes, if◌then◌else◌}
use Rattle.chor_base.specs.declared.value.Sort.TheVariants.{Int as Number}
use Rattle.std.specs.List.{list_all}
use Rattle.std.proofs.lemmas.Bool.{and_from}
use Rattle.chor_base.specs.declared.expr.Expr.{Expr}
use Rattle.chor_base.specs.declared.names.NameId.{NameId}
use Rattle.chor_base.specs.Expr.{Term, term_of}
use Rattle.chor_tree.specs.declared.file.Named.{Named}
use Rattle.chor_tree.specs.declared.tree.Form.TheVariants.{Value, Label, Call}
use Rattle.chor_tree.specs.declared.tree.NodeId.{NodeId}
use Rattle.chor_tree.specs.declared.tree.Part.{Part}
use Rattle.chor_tree.specs.Kept.{has_name, has_text, names_there, part_there, term_there, protocol_there, service_there, process_param_there}
use Rattle.chor_tree.specs.Protocols.{has_items}
use Rattle.chor_tree.specs.Source.{Sends, Selects, Then, block_in}
use Rattle.chor_gen.specs.Words.{beginning}
use Rattle.chor_gen.specs.Generated.{literal, round, fork, round_service, fork_service, parameters, is_odd, p_and_q}
use Rattle.chor_gen.specs.Making.{form_kept, Says}

pub two : {a b : Bool} → a ≡ true → b ≡ true → (a && b) ≡ true
two {a} {b} e f = and_from a b e f

pub three : {a b c : Bool} → a ≡ true → b ≡ true → c ≡ true → (a && b && c) ≡ true
three e f h = two (two e f) h

pub four : {a b c d : Bool} → a ≡ true → b ≡ true → c ≡ true → d ≡ true → (a && b && c && d) ≡ true
four e f h k = two (three e f h) k

pub five : {a b c d e : Bool} → a ≡ true → b ≡ true → c ≡ true → d ≡ true → e ≡ true → (a && b && c && d && e) ≡ true
five e f h k l = two (four e f h k) l

or_true : (b : Bool) → (b || true) ≡ true
or_true true = refl
or_true false = refl

-- ---- forms

-- a number has no name and no text
pub number_there : (names : List (List ℕ)) (t : Term) (i : ℕ) → t ≡ literal i → term_there (has_name names) (has_text []) t ≡ true
number_there names t i h = ap (term_there (has_name names) (has_text [])) h

-- what a value's node has, as its names are known
pub record KnownValue (names : List (List ℕ)) (a : Part) (e : Expr) (b : Part) (x : NameId) (k : Named) : Type 0 where
  pub from : part_there (has_name names) a ≡ true
  pub expr : term_there (has_name names) (has_text []) (term_of e) ≡ true
  pub to : part_there (has_name names) b ≡ true
  pub var : has_name names x ≡ true
  pub session : has_name names k.name ≡ true

pub says_value : {names : List (List ℕ)} {a d b f : Part} {e : Expr} {t : Term} {x y : NameId} {k l : Named} {next : NodeId}
    → a ≡ d → term_of e ≡ t → b ≡ f → x ≡ y → k ≡ l → KnownValue names a e b x k → Says names (Value a e b x k next) (Sends d t f y l) next
says_value {next = next} p q r s v h = record {
  block = λ bs i. Then beginning (Sends (p i) (q i) (r i) (s i) (v i)) (block_in bs next);
  follows = refl;
  kept = two (five h.from h.expr h.to h.var h.session) refl;
}

pub says_label : {names : List (List ℕ)} {a d b f : Part} {x y : NameId} {k l : Named} {next : NodeId}
    → a ≡ d → b ≡ f → k ≡ l → x ≡ y → part_there (has_name names) a ≡ true → part_there (has_name names) b ≡ true → has_name names k.name ≡ true → has_name names x ≡ true
    → Says names (Label a b k x next) (Selects d f l y) next
says_label {next = next} p q r s a b k x = record {
  block = λ bs i. Then beginning (Selects (p i) (q i) (r i) (s i)) (block_in bs next);
  follows = refl;
  kept = two (four a b k x) refl;
}

pub called : (names : List (List ℕ)) (g : Named) (ps ks : List Named) → has_name names g.name ≡ true → names_there (has_name names) ps ≡ true → ks ≡ [] → form_kept names (Call g ps ks) ≡ true
called names g ps ks h there none = subst (λ (l : List Named). form_kept names (Call g ps l) ≡ true) (sym none) (two (three h there refl) (or_true (has_items ps)))

-- ---- what is declared, and the heads of procedures

module _ (n : NameId → Bool) (at : List ℕ → Named) (known : (w : List ℕ) → n (at w).name ≡ true) where
  pub round_there : protocol_there n (round at) ≡ true
  round_there = simp known

  pub fork_there : protocol_there n (fork at) ≡ true
  fork_there = simp known

  pub round_service_there : service_there n (round_service at) ≡ true
  round_service_there = simp known

  pub fork_service_there : service_there n (fork_service at) ≡ true
  fork_service_there = simp known

  pub both_there : names_there n (p_and_q at) ≡ true
  both_there = simp known

  pub parameters_there : (i : ℕ) → list_all (process_param_there n) (parameters at i) ≡ true
  parameters_there i = go (is_odd i)
    where
      go : (b : Bool) → list_all (process_param_there n) (record { name = at (codes "p"); vars = if b then [] else (at (codes "z"), Number) ∷ [] } ∷ record { name = at (codes "q"); vars = [] } ∷ []) ≡ true
      go true = simp known
      go false = simp known
