-- A file that is judged class by class.
use Rattle.std.proofs.Common.{ℕ, List, [], ◌∷◌, ◌++◌, inl, inr}
use Rattle.std.specs.Prelude.{Contains}
use Rattle.chor_base.specs.declared.rule.Refusal.{Refusal}
use Rattle.chor_base.specs.declared.rule.Denied.{Denied}
use Rattle.chor_base.specs.declared.rule.Denied.TheVariants.{Refused, Memory}
use Rattle.chor_base.specs.Faults.{IsDenial}
use Rattle.chor_tree.specs.declared.file.File.{File}
use Rattle.chor_tree.specs.Names.{IsNameFault}
use Rattle.global_types.specs.Faults.{faults_of}
use Rattle.local_types.specs.Reading.{IsFirstRefusal}
use Rattle.source_check.specs.declared.rules.Class.{Class}
use Rattle.source_check.specs.declared.rules.Class.TheVariants.{Names, Protocols}
use Rattle.source_check.specs.declared.rules.Rules.{Rules}
use Rattle.source_check.specs.declared.rules.Rules.TheVariants as rules
use Rattle.source_check.specs.Classes.{classes_of, HasNone, Breaks}
use Rattle.source_check.specs.Source.{IsFileOf, IsBroken, unread, broken, IsDenialOf, IsDenialOfTokens}

-- ---- refusals

pub unread_so : (r : Rules) (hosts : List (List ℕ)) (bytes : List ℕ) (d : Denied) → IsDenialOfTokens bytes d → IsDenialOf r hosts bytes d
unread_so r hosts bytes (Refused x) h = unread h.0 h.1
unread_so r hosts bytes Memory h = tt

pub broken_so : (r : Rules) (hosts : List (List ℕ)) (bytes : List ℕ) (f : File) (d : Denied) → IsFileOf bytes f → IsBroken (classes_of r) hosts f d → IsDenialOf r hosts bytes d
broken_so r hosts bytes f (Refused x) i h = broken i h
broken_so r hosts bytes f Memory i h = tt

pub names_broken : (hosts : List (List ℕ)) (f : File) (d : Denied) → IsDenial (IsNameFault f hosts) d → IsBroken (classes_of rules.Views) hosts f d
names_broken hosts f (Refused x) h = inl h
names_broken hosts f Memory h = tt

pub protocols_broken : (hosts : List (List ℕ)) (f : File) (d : Denied) → HasNone hosts f Names → IsDenial (Contains (faults_of f)) d → IsBroken (classes_of rules.Views) hosts f d
protocols_broken hosts f (Refused x) names h = inr (names, inl h)
protocols_broken hosts f Memory names h = tt

pub views_broken : (hosts : List (List ℕ)) (f : File) (d : Denied) → HasNone hosts f Names → HasNone hosts f Protocols → IsFirstRefusal f.protocols d → IsBroken (classes_of rules.Views) hosts f d
views_broken hosts f (Refused x) names protocols h = inr (names, inr (protocols, inl h))
views_broken hosts f Memory names protocols h = tt

-- ---- more classes

-- who is refused by some classes is so where others come after them
breaks_more : (hosts : List (List ℕ)) (f : File) (r : Refusal) (cs ds : List Class) → Breaks hosts f r cs → Breaks hosts f r (cs ++ ds)
breaks_more hosts f r [] ds h = absurd h
breaks_more hosts f r (c ∷ cs) ds (inl h) = inl h
breaks_more hosts f r (c ∷ cs) ds (inr h) = inr (h.0, breaks_more hosts f r cs ds h.1)

pub broken_more : (hosts : List (List ℕ)) (f : File) (d : Denied) (cs ds : List Class) → IsBroken cs hosts f d → IsBroken (cs ++ ds) hosts f d
broken_more hosts f (Refused r) cs ds h = breaks_more hosts f r cs ds h
broken_more hosts f Memory cs ds h = tt
