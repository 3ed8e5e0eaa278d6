use Rattle.std.proofs.Common.{refl, pos, inr, [], ◌∷◌}
use Rattle.chor_semantics.specs.Runs.{quiet, ended}
use Rattle.chor_semantics.specs.Steps.{head, test, both}
use Rattle.chor_semantics.proofs.Tables.{made}
use Rattle.chor_semantics.proofs.Walks.{stop, ◌⨟◌, at_node, past_node, at_choice, ended_run, no_run}
use Rattle.chor_semantics.specs.Examples.EventBeforeDecision.{source, start, starts, receiving, picking, sending, early, late}
use Rattle.chor_semantics.proofs.examples.event_before_a_decision.Goals as goal

pub returns-clause-early : goal.returns-clause-early
returns-clause-early c = ended_run (source 1) (made (source 1) refl refl refl refl refl) early (λ hosts.
    head (pos 0) tt refl ⨟ head (pos 0) tt refl ⨟ both refl (head (pos 0) tt refl) (head (pos 0) tt refl)
    ⨟ test refl ⨟ head (pos 0) tt refl ⨟ head (pos 0) tt refl ⨟ head (pos 0) tt refl ⨟ stop (quiet ended))

pub returns-clause-order : goal.returns-clause-order
returns-clause-order c table hosts = no_run (source 1) table (start ∷ []) receiving hosts
    (head (pos 0) tt refl ⨟ stop (past_node refl (at_choice (λ f d h. cc) (λ g. inr (at_node (λ v f d h. cc) (λ g. absurd cc))))))

pub returns-clause-decided : goal.returns-clause-decided
returns-clause-decided c table hosts = no_run (source 1) table starts picking hosts
    (head (pos 0) tt refl ⨟ head (pos 0) tt refl ⨟ stop (at_choice (λ f d h. cc) (λ g. absurd cc)))

pub returns-clause-differs : goal.returns-clause-differs
returns-clause-differs c table hosts = no_run (source 2) table starts sending hosts
    (head (pos 0) tt refl ⨟ head (pos 0) tt refl ⨟ stop (at_choice (λ f d h. cc) (λ g. inr (at_node (λ v f d h. cc) (λ g. absurd cc)))))

pub returns-clause-late : goal.returns-clause-late
returns-clause-late c = ended_run (source 2) (made (source 2) refl refl refl refl refl) late (λ hosts.
    head (pos 0) tt refl ⨟ head (pos 0) tt refl ⨟ test refl ⨟ head (pos 0) tt refl
    ⨟ head (pos 0) tt refl ⨟ head (pos 0) tt refl ⨟ head (pos 0) tt refl ⨟ stop (quiet ended))
