-- The tables of the service started twice are as those of a file and of endpoints must be.
use Rattle.std.proofs.Common.{◌≡◌, ℕ, zero, suc, ◌+◌, ◌<◌, ◌&&◌, Bool, true, List, [], ◌∷◌, length, refl, subst, Some, arith}
use Rattle.std.specs.Prelude.{All, slice_get}
use Rattle.std.proofs.Math.Dec.{ltb}
use Rattle.std.proofs.lemmas.Bool.{and_parts, ltb-true}
use Rattle.std.proofs.lemmas.List.Elements.{All-nil, All-cons}
use Rattle.chor_tree.specs.Children.{IsClosed as IsClosedTree}
use Rattle.chor_tree.specs.Kept.{followers_in}
use Rattle.chor_semantics.specs.Examples.Source.{nodes_of, node}
use Rattle.chor_semantics.specs.Examples.Names.{words}
use Rattle.chor_semantics.specs.Examples.ServiceTwice.{source}
use Rattle.chor_semantics.proofs.Tables.{closed_table, stand_once}
use Rattle.endpoint_code.specs.declared.code.CodeId.{CodeId}
use Rattle.endpoint_code.specs.declared.code.CodeNode.{CodeNode}
use Rattle.endpoint_code.specs.declared.endpoints.Procedure.{Procedure}
use Rattle.endpoint_code.specs.declared.endpoints.ServiceCode.{ServiceCode}
use Rattle.endpoint_code.specs.declared.endpoints.Process.{Process}
use Rattle.endpoint_code.specs.Code.{IsClosed, children_of}
use Rattle.endpoint_code.specs.Bodies.{AreInside}
use Rattle.endpoint_code.specs.Kept.{has_name, has_text, channel_there, procedure_there, service_there, node_there}
use Rattle.projection.specs.Examples.ServiceTwice.{nodes, channels, services, processes, AreKept}
use Rattle.accepted_files.specs.Example.{FileIsKept}

-- ---- the file

pub tree_there : IsClosedTree (nodes_of source)
tree_there = closed_table (nodes_of source) refl

pub kept_there : FileIsKept
kept_there = record { header = refl; numbered = refl; filled = refl; begin = refl; once = stand_once (node 6 ∷ followers_in (nodes_of source)) refl }

-- ---- the endpoints

-- each item of a list has a test
abbrev pub all_true : {A : Type 0} → (A → Bool) → List A → Bool
all_true t [] = true
all_true t (x ∷ xs) = t x && all_true t xs

each_true : {A : Type 0} (t : A → Bool) (xs : List A) → all_true t xs ≡ true → All (λ x. t x ≡ true) xs
each_true t [] h = All-nil (λ x. t x ≡ true)
each_true t (x ∷ xs) h = let w = and_parts _ _ h in All-cons (λ x. t x ≡ true) x xs w.0 (each_true t xs w.1)

each_below : {A : Type 0} (g : A → ℕ) (n : ℕ) (xs : List A) → all_true (λ x. ltb (g x) n) xs ≡ true → All (λ x. g x < n) xs
each_below g n [] h = All-nil (λ x. g x < n)
each_below g n (x ∷ xs) h = let w = and_parts _ _ h in All-cons (λ x. g x < n) x xs (ltb-true _ _ w.0) (each_below g n xs w.1)

-- the nodes, whose numbers begin at n, come after those that follow them
abbrev in_order : ℕ → List CodeNode → Bool
in_order n [] = true
in_order n (x ∷ xs) = all_true (λ (c : CodeId). ltb c.0 n) (children_of x) && in_order (suc n) xs

closed_from : (n : ℕ) (ns : List CodeNode) → in_order n ns ≡ true → (i : ℕ) (x : CodeNode) → slice_get ns i ≡ Some x → All (λ c. c.0 < n + i) (children_of x)
closed_from n [] h i x g = absurd cc
closed_from n (y ∷ ys) h zero x g =
    let same : y ≡ x = cc in
    subst (λ (z : CodeNode). All (λ c. c.0 < n + 0) (children_of z)) same (subst (λ (m : ℕ). All (λ c. c.0 < m) (children_of y)) (omega arith) (each_below (λ (c : CodeId). c.0) n (children_of y) (and_parts _ _ h).0))
closed_from n (y ∷ ys) h (suc i) x g = subst (λ (m : ℕ). All (λ c. c.0 < m) (children_of x)) (omega arith) (closed_from (suc n) ys (and_parts _ _ h).1 i x g)

pub code_there : IsClosed nodes
code_there i x g = subst (λ (m : ℕ). All (λ c. c.0 < m) (children_of x)) (omega arith) (closed_from 0 nodes refl i x g)

pub inside_there : AreInside nodes [] services processes
inside_there = record {
  in_procedures = All-nil (λ (p : Procedure). p.body.0 < length nodes);
  in_services = each_below (λ (s : ServiceCode). s.body.0) (length nodes) services refl;
  in_processes = each_below (λ (p : Process). p.body.0) (length nodes) processes refl;
}

pub numbered_there : AreKept
numbered_there = record {
  in_channels = each_true (channel_there (has_name words)) channels refl;
  in_procedures = All-nil (λ (p : Procedure). procedure_there (has_name words) p ≡ true);
  in_services = each_true (service_there (has_name words)) services refl;
  in_processes = each_true (λ (p : Process). has_name words p.name) processes refl;
  in_nodes = each_true (node_there (has_name words) (has_text [])) nodes refl;
}
