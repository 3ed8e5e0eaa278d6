-- Nodes with other numbers.
use Rattle.std.proofs.Common.{◌≡◌, ℕ, ◌&&◌, Bool, List, [], ◌∷◌, map, refl, ap}
use Rattle.std.specs.List.{list_all}
use Rattle.chor_base.specs.declared.names.NameId.{NameId}
use Rattle.chor_base.specs.declared.value.Value.TheVariants.{Int, Bool as Truth, Text, Part}
use Rattle.chor_base.specs.Expr.{Term, Constant, Variable, Unary, Binary}
use Rattle.endpoint_code.specs.declared.code.CodeId.{CodeId}
use Rattle.endpoint_code.specs.Kept.{term_there}
use Rattle.endpoint_code.specs.Trees.{CodeTree, Arm, arms_in, tree_in}
use Rattle.endpoint_link.specs.declared.renumbering.Renumbering.{Renumbering}
use Rattle.endpoint_link.specs.Renumbered.{renumbered_name, renumbered_text, renumbered_code, renumbered_term, renumbered_arm, joined_arms}

pub arms_joined : (s : Renumbering) (ts : List CodeTree) (arms : List (NameId × CodeId)) → arms_in ts (map (renumbered_arm s) arms) ≡ joined_arms s ts arms
arms_joined s ts [] = refl
arms_joined s ts (arm ∷ arms) = ap (Arm (renumbered_name s arm.0) (tree_in ts (renumbered_code s arm.1))) (arms_joined s ts arms)

pub targets_joined : (s : Renumbering) (arms : List (NameId × CodeId)) → map (λ arm. arm.1) (map (renumbered_arm s) arms) ≡ map (renumbered_code s) (map (λ arm. arm.1) arms)
targets_joined s [] = refl
targets_joined s (arm ∷ arms) = ap (λ l. renumbered_code s arm.1 ∷ l) (targets_joined s arms)

pub names_there : (s : Renumbering) (n : NameId → Bool) (xs : List NameId) → list_all n (map (renumbered_name s) xs) ≡ list_all (λ x. n (renumbered_name s x)) xs
names_there s n [] = refl
names_there s n (x ∷ xs) = ap (λ b. n (renumbered_name s x) && b) (names_there s n xs)

pub labels_there : (s : Renumbering) (n : NameId → Bool) (arms : List (NameId × CodeId)) → list_all (λ arm. n arm.0) (map (renumbered_arm s) arms) ≡ list_all (λ arm. n (renumbered_name s arm.0)) arms
labels_there s n [] = refl
labels_there s n (arm ∷ arms) = ap (λ b. n (renumbered_name s arm.0) && b) (labels_there s n arms)

pub term_joined : (s : Renumbering) (n : NameId → Bool) (t : ℕ → Bool) (e : Term) → term_there n t (renumbered_term s e) ≡ term_there (λ x. n (renumbered_name s x)) (λ x. t (renumbered_text s x)) e
term_joined s n t (Constant (Int z)) = refl
term_joined s n t (Constant (Truth b)) = refl
term_joined s n t (Constant (Text x)) = refl
term_joined s n t (Constant (Part k r)) = refl
term_joined s n t (Variable x) = refl
term_joined s n t (Unary op e) = term_joined s n t e
term_joined s n t (Binary op e f) = λ i. term_joined s n t e i && term_joined s n t f i
