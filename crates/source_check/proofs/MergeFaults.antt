-- The first fault of merging is told in one way, and there is none where the file has none.
use Rattle.std.proofs.Common.{◌≡◌, List, [], ◌∷◌, ap, sym, ◌∙◌, Some}
use Rattle.std.specs.Prelude.{All}
use Rattle.std.proofs.lemmas.List.Elements.{All-head, All-tail}
use Rattle.chor_base.specs.declared.rule.Refusal.{Refusal}
use Rattle.chor_base.specs.declared.rule.Denied.TheVariants.{Refused}
use Rattle.chor_base.specs.Writing.{name_in}
use Rattle.chor_tree.specs.declared.file.File.{File}
use Rattle.projection.specs.MergeFaults.{HasClash, sites_of, HasServiceClash, services_of, IsFirstOf, here, later, branches, starts, IsMergeDenial}
use Rattle.projection.proofs.Clashes.{one_fault}
use Rattle.source_check.specs.Classes.{HasNoMergeFault}

-- where none has a property there is no first
none_first : {X : Type 0} (P : X → Type 0) (x : X) (xs : List X) → All (λ y. P y → ⊥) xs → IsFirstOf P x xs → ⊥
none_first P x [] a h = elim h [ ]
none_first P x (z ∷ zs) a (here h) = All-head (λ y. P y → ⊥) z zs a h
none_first P x (z ∷ zs) a (later n h) = none_first P x zs (All-tail (λ y. P y → ⊥) z zs a) h

module _ (f : File) where
  pub one_merge_denial : (r q : Refusal) → IsMergeDenial f (Refused r) → IsMergeDenial f (Refused q) → r ≡ q
  one_merge_denial r q (x, h, told) (y, i, said) =
      let one = one_fault f r.rule q.rule r.place q.place x y h i in
      let who = told ∙ ap (λ z. Some (name_in f.names z)) one.2 ∙ sym said in (λ k. record { rule = one.0 k; place = one.1 k; who = who k })

  pub none_denied : (r : Refusal) → HasNoMergeFault f → IsMergeDenial f (Refused r) → ⊥
  none_denied r none (x, branches rule h, told) = none_first (HasClash f) h.site (sites_of f) none.branches h.first
  none_denied r none (x, starts rule h, told) = none_first (HasServiceClash f) h.service (services_of f) none.starts h.first
