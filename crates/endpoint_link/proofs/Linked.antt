-- The codes of linked units are above those in whose place they are.
use Rattle.std.proofs.Common.{◌≡◌, ℕ, List, [], ◌∷◌, ◌++◌, Some, sym, ap, ◌∙◌, subst}
use Rattle.std.specs.Prelude.{Contains, All, slice_get}
use Rattle.std.specs.List.{AllZip}
use Rattle.std.proofs.lemmas.List.Elements.{All-contains}
use Rattle.chor_base.specs.declared.names.NameId.{NameId}
use Rattle.chor_base.specs.Words.{AllDistinct}
use Rattle.endpoint_code.specs.declared.code.CodeId.{CodeId}
use Rattle.endpoint_code.specs.declared.endpoints.Procedure.{Procedure}
use Rattle.endpoint_code.specs.declared.endpoints.ServiceCode.{ServiceCode}
use Rattle.endpoint_code.specs.declared.endpoints.Process.{Process}
use Rattle.endpoint_code.specs.declared.endpoints.Endpoints.{Endpoints}
use Rattle.endpoint_code.specs.Above.{IsAbove}
use Rattle.endpoint_code.specs.Trees.{CodeTree, code_at}
use Rattle.endpoint_code.proofs.AboveOrder.{above_self}
use Rattle.same_programs.specs.Words.{IsSameWord, SameName, SameText, HasDistinctWords}
use Rattle.endpoint_link.specs.Linked.{IsAboveByWords, ReplacesProcedure, ReplacesService, ReplacesProcess, SuitsProcedure, SuitsService, SuitsProcess, SuitsCounterpart, IsLinkedCode, taken, kept, IsProcedureLinked, IsServiceLinked, IsProcessLinked, IsLinked}
use Rattle.endpoint_link.proofs.Across.{above_too}
use Rattle.endpoint_link.proofs.Basics.{still_there, first_in, later_in}

-- the code at q of r is above the code at p of e, names and texts being compared by their numbers
abbrev pub IsAboveByNumbers : Endpoints → Endpoints → CodeId → CodeId → Type 0
IsAboveByNumbers e r p q = IsAbove (code_at r.code.nodes q) (code_at e.code.nodes p)

-- so is the code of each unit of r above that of the unit of e at its place
pub record AreCodesAbove (e r : Endpoints) : Type 0 where
  pub procedures : AllZip (λ p q. IsAboveByNumbers e r p.body q.body) e.procedures r.procedures
  pub services : AllZip (λ s t. IsAboveByNumbers e r s.body t.body) e.services r.services
  pub processes : AllZip (λ p q. IsAboveByNumbers e r p.body q.body) e.processes r.processes

-- a word has one number in a longer table and in its beginning
pub one_number : (vs ws us more : List (List ℕ)) → us ≡ ws ++ more → AllDistinct us → (i j k : ℕ) → IsSameWord vs us i j → IsSameWord vs ws i k → j ≡ k
one_number vs ws us more longer differ i j k a b =
    let words : Some a.word ≡ Some b.word = sym a.here ∙ b.here in
    let word : a.word ≡ b.word = cc in
    let there : slice_get us k ≡ Some b.word = ap (λ (l : List (List ℕ)). slice_get l k) longer ∙ still_there ws more k b.word b.there in
    differ j k a.word a.there (there ∙ ap Some (sym word))

module _ (e g r : Endpoints) (linked : IsLinked e g r) (differ : HasDistinctWords r) where
  pub one_name : (x y z : NameId) → SameName g r x y → SameName g e x z → y ≡ z
  one_name x y z a b = ap (λ n. record { 0 = n }) (one_number g.names e.names r.names linked.names.0 linked.names.1 differ.names x.0 y.0 z.0 a b)

  pub one_text : (x y z : ℕ) → SameText g r x y → SameText g e x z → y ≡ z
  one_text x y z a b = one_number g.texts e.texts r.texts linked.texts.0 linked.texts.1 differ.texts x y z a b

  code_over : {A : Type 0} (Names : A → A → Type 0) (body : A → CodeId) (given : List A) (u : A) (q : CodeId)
      → ((x : A) → Contains given x → Names x u → IsAboveByWords e g (body x) (body u)) → IsLinkedCode Names body e g r given u q → IsAboveByNumbers e r (body u) q
  code_over Names body given u q suits (taken x there named same) = above_too (SameName g r) (SameName g e) (SameText g r) (SameText g e) one_name one_text same (suits x there named)
  code_over Names body given u q suits (kept none same) = subst (λ (c : CodeTree). IsAbove c (code_at e.code.nodes (body u))) (sym same) (above_self (code_at e.code.nodes (body u)))

  suiting : {A : Type 0} (Names Suits : A → A → Type 0) (units given : List A) → All (SuitsCounterpart Names Suits units) given → (u : A) → Contains units u → (x : A) → Contains given x → Names x u → Suits x u
  suiting Names Suits units given fits u there x inside named = (All-contains (SuitsCounterpart Names Suits units) given x fits inside).suits u there named

  -- what a relation of two lists gives for the items of the first
  along : {A : Type 0} (R S : A → A → Type 0) (xs ys : List A) → ((x y : A) → Contains xs x → R x y → S x y) → AllZip R xs ys → AllZip S xs ys
  along R S [] [] f z = tt
  along R S [] (y ∷ ys) f z = absurd z
  along R S (x ∷ xs) [] f z = absurd z
  along R S (x ∷ xs) (y ∷ ys) f z = (f x y (first_in x xs) z.0, along R S xs ys (λ a b i w. f a b (later_in x xs a i) w) z.1)

  pub codes_above : AreCodesAbove e r
  codes_above = record {
    procedures = along (IsProcedureLinked e g r) (λ p q. IsAboveByNumbers e r p.body q.body) e.procedures r.procedures procedure linked.procedures;
    services = along (IsServiceLinked e g r) (λ s t. IsAboveByNumbers e r s.body t.body) e.services r.services service linked.services;
    processes = along (IsProcessLinked e g r) (λ p q. IsAboveByNumbers e r p.body q.body) e.processes r.processes process linked.processes;
  }
    where
      procedure : (p q : Procedure) → Contains e.procedures p → IsProcedureLinked e g r p q → IsAboveByNumbers e r p.body q.body
      procedure p q there w =
          code_over (ReplacesProcedure e g) (λ x. x.body) g.procedures p q.body
          (λ x inside named. (suiting (ReplacesProcedure e g) (SuitsProcedure e g) e.procedures g.procedures linked.suit.procedures p there x inside named).1) w.body

      service : (s t : ServiceCode) → Contains e.services s → IsServiceLinked e g r s t → IsAboveByNumbers e r s.body t.body
      service s t there w =
          code_over (ReplacesService e g) (λ x. x.body) g.services s t.body
          (λ x inside named. suiting (ReplacesService e g) (SuitsService e g) e.services g.services linked.suit.services s there x inside named) w.body

      process : (p q : Process) → Contains e.processes p → IsProcessLinked e g r p q → IsAboveByNumbers e r p.body q.body
      process p q there w =
          code_over (ReplacesProcess e g) (λ x. x.body) g.processes p q.body
          (λ x inside named. suiting (ReplacesProcess e g) (SuitsProcess e g) e.processes g.processes linked.suit.processes p there x inside named) w.body
