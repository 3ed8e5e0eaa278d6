-- What holds of each class of rules: its first fault is one, it isn't there where the file has none, and files of one
-- source have the same.
use Rattle.std.proofs.Common.{ℕ, ◌≡◌, List, refl, sym, ◌∙◌, subst}
use Rattle.std.specs.Prelude.{Contains}
use Rattle.chor_base.specs.declared.rule.Refusal.{Refusal}
use Rattle.chor_base.specs.declared.rule.Rule.{Rule}
use Rattle.chor_base.specs.declared.rule.Denied.TheVariants.{Refused}
use Rattle.chor_base.specs.declared.fault.Fault.{Fault}
use Rattle.chor_base.specs.Faults.{fault, IsDenial}
use Rattle.chor_base.proofs.Members.{nowhere}
use Rattle.chor_tree.specs.declared.file.File.{File}
use Rattle.chor_tree.specs.Names.{IsNameFault}
use Rattle.chor_tree.specs.Protocols.{Protocol}
use Rattle.chor_tree.specs.Source.{source_of}
use Rattle.global_types.specs.Moves.{IsIn}
use Rattle.global_types.specs.Faults.{faults_of}
use Rattle.local_types.specs.Reading.{HasFineRoles, IsFirstRefusal}
use Rattle.typing_rules.specs.TypeFaults.{IsTypeFault}
use Rattle.linear_check.specs.Class.{IsLinearityFault}
use Rattle.source_check.specs.declared.rules.Class.{Class}
use Rattle.source_check.specs.declared.rules.Class.TheVariants.{Names, Protocols, Views, Types, Linearity, Merging}
use Rattle.source_check.specs.Classes.{HasNone, HasFirst}
use Rattle.source_check.proofs.ClassRules.{IsOf, one_first}
use Rattle.source_check.proofs.NameRules.{name_rule, is_name_rule}
use Rattle.source_check.proofs.ProtocolRules.{protocol_rule, is_protocol_rule}
use Rattle.source_check.proofs.ViewRules.{one_refusal_of_views, no_view_fault, among_all}
use Rattle.source_check.proofs.TypeRules.{type_rule, is_type_rule}
use Rattle.source_check.proofs.SameFaults.{name_fault, types_same, declared_same}
use Rattle.source_check.proofs.SameTypes.{type_fault}
use Rattle.source_check.proofs.LinearityRules.{linear_rule, is_linear_rule}
use Rattle.source_check.proofs.SameLinearity.{linearity_fault}
use Rattle.source_check.proofs.MergeFaults.{one_merge_denial, none_denied}
use Rattle.source_check.proofs.SameMerging.{no_merge_fault, merge_denial}

-- the first fault of a class whose rules have different digits is told in one way
one_denial : (rule_of : ℕ → Rule) (P : Fault → Type 0) → ((x : Fault) → P x → IsOf rule_of x.rule) → (r q : Refusal) → IsDenial P (Refused r) → IsDenial P (Refused q) → r ≡ q
one_denial rule_of P of r q h i =
    let one = one_first rule_of P of r.rule q.rule r.place q.place h.0 i.0 in
    let who = h.1 ∙ sym i.1 in (λ k. record { rule = one.0 k; place = one.1 k; who = who k })

module _ (hosts : List (List ℕ)) (f : File) where
  view_denial : (r q : Refusal) → IsFirstRefusal f.protocols (Refused r) → IsFirstRefusal f.protocols (Refused q) → r ≡ q
  view_denial r q (i, p, at, before, (k, x, here, clear, (view, place, who))) (j, o, there, fine, (l, y, hither, clean, (sight, spot, whose))) =
      let one = one_refusal_of_views f.protocols r.rule q.rule r.place q.place (i, p, at, before, (k, x, here, clear, (view, place, refl))) (j, o, there, fine, (l, y, hither, clean, (sight, spot, refl))) in
      let none = who ∙ sym whose in (λ m. record { rule = one.0 m; place = one.1 m; who = none m })

  pub one_of : (c : Class) (r q : Refusal) → HasFirst hosts f r c → HasFirst hosts f q c → r ≡ q
  one_of Names r q h i = one_denial name_rule (IsNameFault f hosts) (is_name_rule f hosts) r q h i
  one_of Protocols r q h i = one_denial protocol_rule (Contains (faults_of f)) (is_protocol_rule f) r q h i
  one_of Views r q h i = view_denial r q h i
  one_of Types r q h i = one_denial type_rule (IsTypeFault f) (is_type_rule f) r q h i
  one_of Linearity r q h i = one_denial linear_rule (IsLinearityFault f) (is_linear_rule f) r q h i
  one_of Merging r q h i = one_merge_denial f r q h i

  pub none_first : (c : Class) (r : Refusal) → HasNone hosts f c → HasFirst hosts f r c → ⊥
  none_first Names r none h = none (fault r.rule r.place) h.0.0
  none_first Protocols r none h = nowhere (fault r.rule r.place) (subst (λ (fs : List Fault). Contains fs (fault r.rule r.place)) none h.0.0)
  none_first Views r none (i, q, at, before, (j, role, here, clear, (view, there, who))) =
      no_view_fault q.states role.name r.rule (none q (among_all f.protocols i q at) role (among_all q.roles j role here)) view
  none_first Types r none h = none (fault r.rule r.place) h.0.0
  none_first Linearity r none h = none (fault r.rule r.place) h.0.0
  none_first Merging r none h = none_denied f r none h

-- a property of faults that two files share
shared : (P Q : Fault → Type 0) (r : Refusal) → ((x : Fault) → P x → Q x) → ((x : Fault) → Q x → P x) → IsDenial P (Refused r) → IsDenial Q (Refused r)
shared P Q r there back h = ((there (fault r.rule r.place) h.0.0, λ y k. h.0.1 y (back y k)), h.1)

module _ (hosts : List (List ℕ)) (f g : File) (same_names : f.names ≡ g.names) (same : source_of f ≡ source_of g) where
  names_there : (x : Fault) → IsNameFault f hosts x → IsNameFault g hosts x
  names_there = name_fault hosts f g same_names same

  names_back : (x : Fault) → IsNameFault g hosts x → IsNameFault f hosts x
  names_back = name_fault hosts g f (sym same_names) (sym same)

  pub same_none : (c : Class) → HasNone hosts f c → HasNone hosts g c
  same_none Names none = λ x h. none x (names_back x h)
  same_none Protocols none = sym (types_same f g same) ∙ none
  same_none Views none = subst (λ (ps : List Protocol). (p : Protocol) → IsIn p ps → HasFineRoles p p.roles) (declared_same f g same) none
  same_none Types none = λ x h. none x (type_fault g f (sym same) x h)
  same_none Linearity none = λ x h. none x (linearity_fault g f (sym same) x h)
  same_none Merging none = no_merge_fault f g same none

  pub same_first : (c : Class) (r : Refusal) → HasFirst hosts f r c → HasFirst hosts g r c
  same_first Names r h = shared (IsNameFault f hosts) (IsNameFault g hosts) r names_there names_back h
  same_first Protocols r h = subst (λ (xs : List Fault). IsDenial (Contains xs) (Refused r)) (types_same f g same) h
  same_first Views r h = subst (λ (ps : List Protocol). IsFirstRefusal ps (Refused r)) (declared_same f g same) h
  same_first Types r h = shared (IsTypeFault f) (IsTypeFault g) r (type_fault f g same) (type_fault g f (sym same)) h
  same_first Linearity r h = shared (IsLinearityFault f) (IsLinearityFault g) r (linearity_fault f g same) (linearity_fault g f (sym same)) h
  same_first Merging r h = merge_denial f g same same_names r h
