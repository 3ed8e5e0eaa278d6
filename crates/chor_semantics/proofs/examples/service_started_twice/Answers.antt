use Rattle.std.proofs.Common.{ℕ, refl, sym, ap, pos, [], ◌∷◌, Option, Some, None}
use Rattle.std.specs.Prelude.{slice_index_or}
use Rattle.chor_base.specs.Events.{actors_of}
use Rattle.chor_semantics.specs.Runs.{quiet, ended}
use Rattle.chor_semantics.specs.Steps.{Made, Makes, head, delay}
use Rattle.chor_semantics.proofs.Tables.{made}
use Rattle.chor_semantics.proofs.Walks.{stop, ◌⨟◌, at_node, ended_run, no_run}
use Rattle.chor_semantics.specs.Examples.ServiceTwice.{source, first_start, second_start, events}
use Rattle.chor_semantics.proofs.examples.service_started_twice.Goals as goal

pub returns-clause-run : goal.returns-clause-run
returns-clause-run c = ended_run source (made source refl refl refl refl refl) events (λ hosts.
    head (pos 0) tt refl ⨟ delay refl (delay refl (head (pos 0) tt refl))
    ⨟ head (pos 0) tt refl ⨟ head (pos 0) tt refl ⨟ delay refl (head (pos 0) tt refl) ⨟ delay refl (head (pos 0) tt refl)
    ⨟ head (pos 0) tt refl ⨟ delay refl (head (pos 0) tt refl) ⨟ head (pos 0) tt refl ⨟ head (pos 0) tt refl ⨟ stop (quiet ended))

-- the process that a start of the service makes
abbrev served : Option Made → ℕ
served None = 0
served (Some (Makes e f d)) = slice_index_or (actors_of e) 1 0

pub returns-clause-first : goal.returns-clause-first
returns-clause-first c n other table hosts = no_run source table [] (first_start n) hosts
    (stop (at_node (λ v f d h. other (sym (ap served h))) (λ g. at_node (λ v f d h. cc) (λ g. absurd cc))))

pub returns-clause-second : goal.returns-clause-second
returns-clause-second c n other table hosts = no_run source table (first_start 2 ∷ []) (second_start n) hosts
    (head (pos 0) tt refl
    ⨟ stop (at_node (λ v f d h. cc) (λ g. at_node (λ v f d h. cc) (λ g. at_node (λ v f d h. other (sym (ap served h))) (λ g. absurd cc)))))
