-- Bytes are accepted, or violate a rule.
use Rattle.std.proofs.Common.{ℕ, List, inl, inr, refl, None}
use Rattle.source_check.specs.declared.rules.Rules.{Rules}
use Rattle.source_check.specs.Classes.{classes_of}
use Rattle.source_check.specs.Source.{unread, broken}
use Rattle.source_laws.specs.Laws.{IsReadOrRefused, IsAcceptedOrRefused}
use Rattle.source_laws.proofs.Sources.{is_read}
use Rattle.source_laws.proofs.Classes.{judged}

pub accepted_or_refused : (rules : Rules) (hosts : List (List ℕ)) (bytes : List ℕ) → IsAcceptedOrRefused rules hosts bytes
accepted_or_refused rules hosts bytes unaccepted unrefused = go (is_read bytes)
  where
    go : IsReadOrRefused bytes → ⊥
    go (inl (f, is)) = judged hosts f (classes_of rules) (λ fine. unaccepted f (record { file = is; faultless = fine })) (λ r h. unrefused r (broken is h))
    go (inr (rule, place, h)) = unrefused (record { rule = rule; place = place; who = None }) (unread h refl)
