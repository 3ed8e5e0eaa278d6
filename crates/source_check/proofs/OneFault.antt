-- Bytes are refused in one way, and in none where they are accepted.
use Rattle.std.proofs.Common.{◌≡◌, ◌∙◌, ℕ, List, [], ◌∷◌, sym, inl, inr}
use Rattle.chor_base.specs.declared.rule.Refusal.{Refusal}
use Rattle.chor_tree.specs.declared.file.File.{File}
use Rattle.chor_tree.specs.Source.{source_of}
use Rattle.source_check.specs.declared.rules.Class.{Class}
use Rattle.source_check.specs.declared.rules.Rules.{Rules}
use Rattle.source_check.specs.Classes.{classes_of, IsFaultless, Breaks}
use Rattle.source_check.specs.Source.{IsFileOf, IsAccepted, Violates, unread, broken}
use Rattle.source_check.proofs.OneClass.{one_of, none_first, same_none, same_first}
use Rattle.source_check.proofs.OneReading.{one_list}
use Rattle.source_check.proofs.Files.{never_violated, one_violation, one_file}

module _ (hosts : List (List ℕ)) (f : File) (r q : Refusal) where
  one_break : (cs : List Class) → Breaks hosts f r cs → Breaks hosts f q cs → r ≡ q
  one_break [] h i = absurd h
  one_break (c ∷ cs) (inl h) (inl i) = one_of hosts f c r q h i
  one_break (c ∷ cs) (inl h) (inr i) = absurd (none_first hosts f c r i.0 h)
  one_break (c ∷ cs) (inr h) (inl i) = absurd (none_first hosts f c q h.0 i)
  one_break (c ∷ cs) (inr h) (inr i) = one_break cs h.1 i.1

module _ (hosts : List (List ℕ)) (f : File) (r : Refusal) where
  never_broken : (cs : List Class) → IsFaultless hosts f cs → Breaks hosts f r cs → ⊥
  never_broken [] fine h = h
  never_broken (c ∷ cs) fine (inl h) = none_first hosts f c r fine.0 h
  never_broken (c ∷ cs) fine (inr h) = never_broken cs fine.1 h.1

module _ (hosts : List (List ℕ)) (f g : File) (same_names : f.names ≡ g.names) (same : source_of f ≡ source_of g) (r : Refusal) where
  same_breaks : (cs : List Class) → Breaks hosts f r cs → Breaks hosts g r cs
  same_breaks [] h = h
  same_breaks (c ∷ cs) (inl h) = inl (same_first hosts f g same_names same c r h)
  same_breaks (c ∷ cs) (inr h) = inr (same_none hosts f g same_names same c h.0, same_breaks cs h.1)

-- files of the same bytes violate the same rules
breaks_alike : (hosts : List (List ℕ)) (bytes : List ℕ) (f g : File) (r : Refusal) (cs : List Class) → IsFileOf bytes f → IsFileOf bytes g → Breaks hosts f r cs → Breaks hosts g r cs
breaks_alike hosts bytes f g r cs i j h =
    let read = one_list bytes f.names f.texts g.names g.texts i.tokens j.tokens i.are j.are in
    same_breaks hosts f g read.names_are (one_file bytes f g i j) r cs h

pub one_refusal : (rules : Rules) (hosts : List (List ℕ)) (bytes : List ℕ) (r q : Refusal) → Violates rules hosts bytes r → Violates rules hosts bytes q → r ≡ q
one_refusal rules hosts bytes r q (unread v none) (unread w nobody) =
    let one = one_violation bytes r.rule q.rule r.place q.place v w in
    let who = none ∙ sym nobody in (λ i. record { rule = one.0 i; place = one.1 i; who = who i })
one_refusal rules hosts bytes r q (unread v none) (broken {f = g} i c) = absurd (never_violated bytes g r.rule r.place i v)
one_refusal rules hosts bytes r q (broken {f = f} i b) (unread w nobody) = absurd (never_violated bytes f q.rule q.place i w)
one_refusal rules hosts bytes r q (broken {f = f} i b) (broken {f = g} l c) = one_break hosts f r q (classes_of rules) b (breaks_alike hosts bytes g f q (classes_of rules) l i c)

-- bytes that are accepted violate nothing
pub never_refused : (rules : Rules) (hosts : List (List ℕ)) (bytes : List ℕ) (g : File) (r : Refusal) → IsAccepted rules hosts bytes g → Violates rules hosts bytes r → ⊥
never_refused rules hosts bytes g r a (unread v none) = never_violated bytes g r.rule r.place a.file v
never_refused rules hosts bytes g r a (broken {f = f} i b) = never_broken hosts g r (classes_of rules) a.faultless (breaks_alike hosts bytes f g r (classes_of rules) i a.file b)
