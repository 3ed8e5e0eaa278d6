-- A source that violates no rule is checked, and its endpoint programs have no fault and can be written.
use Rattle.std.proofs.Common.{ℕ, List, inl, inr}
use Rattle.chor_host.specs.Functions.{Function, names_of}
use Rattle.chor_tree.specs.declared.file.File.{File}
use Rattle.endpoint_code.specs.declared.endpoints.Endpoints.{Endpoints}
use Rattle.endpoint_code.specs.Faults.{IsFaultless}
use Rattle.accepted_files.specs.Accepted.{IsChecked}
use Rattle.accepted_files.specs.FaultlessLaws.{ProjectionIsFaultless}
use Rattle.source_check.specs.Classes.{classes_of, IsFaultless as HasNoFault}
use Rattle.source_check.specs.Source.{IsAccepted}
use Rattle.source_check.specs.declared.rules.Rules.TheVariants.{All}
use Rattle.projected_programs.specs.Laws.{AreProjected}

pub is_checked : (words : List (List ℕ)) (bytes : List ℕ) (f : File) → IsAccepted All words bytes f → IsChecked f words
is_checked words bytes f a = go a.faultless
  where
    go : HasNoFault words f (classes_of All) → IsChecked f words
    go (names, (protocols, (views, (types, (linear, rest))))) = record {
      accepted = record { names = names; protocols = protocols; types = types };
      guarded = λ x h. linear x (inl h);
      ordered = λ x h. linear x (inr h);
    }

pub are_faultless : ProjectionIsFaultless → (functions : List Function) (bytes : List ℕ) (f : File) (e : Endpoints) → AreProjected functions bytes f e → IsFaultless e
are_faultless law functions bytes f e p =
    let checked = is_checked (names_of functions) bytes f p.accepted in
    law f (names_of functions) checked.accepted checked.guarded e p.projects
