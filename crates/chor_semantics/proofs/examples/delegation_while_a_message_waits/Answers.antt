use Rattle.std.proofs.Common.{refl, pos}
use Rattle.chor_semantics.specs.Runs.{quiet, ended}
use Rattle.chor_semantics.specs.Steps.{head, delay}
use Rattle.chor_semantics.proofs.Tables.{made}
use Rattle.chor_semantics.proofs.Walks.{stop, ◌⨟◌, at_node, past_node, at_end, ended_run, no_run}
use Rattle.chor_semantics.specs.Examples.DelegationWhileWaiting.{source, given, receiving, events}
use Rattle.chor_semantics.proofs.examples.delegation_while_a_message_waits.Goals as goal

pub returns-clause-run : goal.returns-clause-run
returns-clause-run c = ended_run source (made source refl refl refl refl refl) events (λ hosts.
    head (pos 0) tt refl ⨟ head (pos 0) tt refl ⨟ delay refl (head (pos 0) tt refl)
    ⨟ head (pos 0) tt refl ⨟ head (pos 0) tt refl ⨟ head (pos 0) tt refl ⨟ stop (quiet ended))

pub returns-clause-waits : goal.returns-clause-waits
returns-clause-waits c n l table hosts = no_run source table given (receiving n l) hosts
    (head (pos 0) tt refl ⨟ head (pos 0) tt refl ⨟ delay refl (head (pos 0) tt refl)
    ⨟ head (pos 0) tt refl ⨟ stop (at_node (λ v f d h. cc) (λ g. past_node g at_end)))
