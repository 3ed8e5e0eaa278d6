-- No role of a generated file's protocols has a fault of its view.
use Rattle.std.proofs.Common.{inl, inr, ℕ, [], ◌∷◌, subst}
use Rattle.chor_tree.specs.declared.file.File.{File}
use Rattle.chor_tree.specs.declared.file.Named.{Named}
use Rattle.chor_tree.specs.Protocols.{Protocol}
use Rattle.chor_gen.specs.Generated.{round, fork}
use Rattle.global_types.specs.Moves.{IsIn}
use Rattle.global_types.specs.Views.{HasNoViewFault}
use Rattle.local_types.specs.Reading.{HasFineRoles}
use Rattle.generated_files.specs.Generated.{IsGenerated}
use Rattle.generated_files.proofs.Rounds.{at}
use Rattle.generated_files.proofs.Shape.{by_shape}
use Rattle.generated_files.proofs.RoundViews.{round_fine}
use Rattle.generated_files.proofs.ForkViews.{fork_fine}

module _ (count : ℕ) where
  of_round : HasFineRoles (round (at count)) (round (at count)).roles
  of_round role (inl e) = subst (λ (x : Named). HasNoViewFault (round (at count)).states x.name) e (round_fine count).0
  of_round role (inr (inl e)) = subst (λ (x : Named). HasNoViewFault (round (at count)).states x.name) e (round_fine count).1
  of_round role (inr (inr (inl e))) = subst (λ (x : Named). HasNoViewFault (round (at count)).states x.name) e (round_fine count).2
  of_round role (inr (inr (inr o))) = absurd o

  of_fork : HasFineRoles (fork (at count)) (fork (at count)).roles
  of_fork role (inl e) = subst (λ (x : Named). HasNoViewFault (fork (at count)).states x.name) e (fork_fine count).0
  of_fork role (inr (inl e)) = subst (λ (x : Named). HasNoViewFault (fork (at count)).states x.name) e (fork_fine count).1
  of_fork role (inr (inr o)) = absurd o

  of_either : (p : Protocol) → IsIn p (round (at count) ∷ fork (at count) ∷ []) → HasFineRoles p p.roles
  of_either p (inl e) = subst (λ (q : Protocol). HasFineRoles q q.roles) e of_round
  of_either p (inr (inl e)) = subst (λ (q : Protocol). HasFineRoles q q.roles) e of_fork
  of_either p (inr (inr o)) = absurd o

pub all_fine : (f : File) (count : ℕ) → IsGenerated f count → (p : Protocol) → IsIn p f.protocols → HasFineRoles p p.roles
all_fine f count g = by_shape count (λ (h : File). (p : Protocol) → IsIn p h.protocols → HasFineRoles p p.roles) (λ w kept holds. of_either count) f g
