-- The host functions that a copy asks.
use Rattle.std.proofs.Common.{◌≡◌, ℕ, Bool, List, [], ap, sym, ◌∙◌}
use Rattle.std.specs.Prelude.{All, bytes_eq}
use Rattle.std.specs.List.{AllZip, AllByRecursion, list_any}
use Rattle.std.proofs.lemmas.List.Elements.{All-from_recursion, recursion_from_All}
use Rattle.std.proofs.lemmas.Option.{get_or_from_slice_get}
use Rattle.chor_base.specs.declared.names.NameId.{NameId}
use Rattle.endpoint_code.specs.Asked.{AsksTree}
use Rattle.endpoint_code.specs.declared.code.CodeId.{CodeId}
use Rattle.endpoint_code.specs.declared.endpoints.Endpoints.{Endpoints}
use Rattle.endpoint_code.specs.Faults.{AsksKnown, is_listed}
use Rattle.endpoint_code.specs.Trees.{code_at}
use Rattle.same_programs.specs.Words.{SameName}
use Rattle.same_programs.specs.Programs.{SameCodeAt, SameProcedure, SameService, SameProcess, IsCopy}
use Rattle.same_programs.proofs.Asking.{tree_asks}
use Rattle.projected_programs.proofs.Lists.{all_over}

module _ (e e' : Endpoints) (known known' : NameId → Bool) (as_known : (f g : NameId) → SameName e e' f g → known f ≡ known' g) where
  -- what is asked of all bodies
  bodies_ask : {A : Type 0} (R : A → A → Type 0) (body : A → CodeId) → ((x y : A) → R x y → SameCodeAt e e' (body x) (body y))
      → (xs ys : List A) → AllZip R xs ys → All (λ x. AsksTree known (code_at e.code.nodes (body x))) xs → All (λ y. AsksTree known' (code_at e'.code.nodes (body y))) ys
  bodies_ask R body f xs ys z h =
      all_over R (λ x. AsksTree known (code_at e.code.nodes (body x))) (λ y. AsksTree known' (code_at e'.code.nodes (body y))) (λ x y r i. tree_asks e e' known known' as_known (f x y r) i) xs ys z h

pub copy_asks : (words : List (List ℕ)) (e e' : Endpoints) → IsCopy e e' → AsksKnown (is_listed words e) e → AsksKnown (is_listed words e') e'
copy_asks words e e' c h = record {
  procedures = each (SameProcedure e e') (λ q. q.body) (λ q p s. s.body) e.procedures e'.procedures c.same.procedures h.procedures;
  services = each (SameService e e') (λ q. q.body) (λ q p s. s.body) e.services e'.services c.same.services h.services;
  processes = each (SameProcess e e') (λ q. q.body) (λ q p s. s.body) e.processes e'.processes c.same.processes h.processes;
}
  where
    as_known : (f g : NameId) → SameName e e' f g → is_listed words e f ≡ is_listed words e' g
    as_known f g i =
        ap (λ (w : List ℕ). list_any (bytes_eq w) words)
        (get_or_from_slice_get e.names f.0 i.word [] i.here ∙ sym (get_or_from_slice_get e'.names g.0 i.word [] i.there))

    each : {A : Type 0} (R : A → A → Type 0) (body : A → CodeId) → ((x y : A) → R x y → SameCodeAt e e' (body x) (body y)) → (xs ys : List A) → AllZip R xs ys
        → AllByRecursion (λ x. AsksTree (is_listed words e) (code_at e.code.nodes (body x))) xs → AllByRecursion (λ y. AsksTree (is_listed words e') (code_at e'.code.nodes (body y))) ys
    each R body f xs ys z all =
        recursion_from_All (λ y. AsksTree (is_listed words e') (code_at e'.code.nodes (body y))) ys
        (bodies_ask e e' (is_listed words e) (is_listed words e') as_known R body f xs ys z (All-from_recursion (λ x. AsksTree (is_listed words e) (code_at e.code.nodes (body x))) xs all))
