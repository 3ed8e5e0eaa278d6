-- A run of the network after which each process has ended is one of the choreography after which nothing is left to happen.
use Rattle.std.proofs.Common.{◌≡◌, ◌≤◌, ℕ, zero, suc, List, [], ◌∷◌, length, sym, ap, ◌∙◌, Some, Option, true, false}
use Rattle.std.specs.Prelude.{slice_get}
use Rattle.std.proofs.lemmas.Bool.{and_parts, true≢false}
use Rattle.chor_base.specs.declared.names.NameId.{NameId}
use Rattle.chor_base.specs.declared.event.Event.{Event}
use Rattle.chor_base.specs.Meaning.{Hosts}
use Rattle.chor_tree.specs.declared.file.File.{File}
use Rattle.chor_semantics.specs.Sources.{procedures_of, first_configuration}
use Rattle.chor_semantics.specs.Runs.{IsEndedRun}
use Rattle.endpoint_code.specs.declared.endpoints.Channel.{Channel}
use Rattle.endpoint_code.specs.declared.endpoints.Endpoints.{Endpoints}
use Rattle.endpoint_code.specs.Network.{Machine, NetworkState, first_state, channel_of}
use Rattle.endpoint_code.specs.NetworkRuns.{IsNetworkRun, has_ended, all_ended}
use Rattle.well_formed.specs.Linear.{ParameterSets}
use Rattle.well_formed.specs.Holders.{ListedHolders}
use Rattle.typed_sources.proofs.Checked.{some_is}
use Rattle.correspondence.specs.Premises.{Realizes}
use Rattle.correspondence.proofs.FromSources.{all_bodies, bodies_renamed}
use Rattle.correspondence.proofs.First.{first_corresponds}
use Rattle.correspondence.proofs.BothWays.{leads_back}
use Rattle.correspondence.proofs.Runs.{leads_too}
use Rattle.correspondence.proofs.Capacity.{run_within, run_has_room}
use Rattle.correspondence.proofs.Ended.{ended_terminated, terminated_ended}
use Rattle.accepted_files.proofs.Closed.{leads_one}

each_ended : (e : Endpoints) (ms : List Machine) → all_ended e ms ≡ true → (p : ℕ) (m : Machine) → slice_get ms p ≡ Some m → has_ended e m ≡ true
each_ended e [] h p m i = absurd cc
each_ended e (x ∷ xs) h zero m i = ap (has_ended e) (sym (some_is x m i)) ∙ (and_parts _ _ h).0
each_ended e (x ∷ xs) h (suc p) m i = each_ended e xs (and_parts _ _ h).1 p m i

pub ended_run : (f : File) (e : Endpoints) (sets : NameId → ParameterSets) (lists : ListedHolders) → Realizes e f sets lists → (hosts : Hosts) (cap : Option ℕ) (h : List Event) (last : NetworkState)
    → ((a : NameId) (k : Channel) → channel_of e.channels a ≡ Some k → 1 ≤ length k.active) → IsNetworkRun e hosts cap h last → all_ended e last.machines ≡ true → IsEndedRun f hosts cap h
ended_run f e sets lists realizes hosts cap h last active run over =
    let so = realizes.sound in
    let bodies = all_bodies e (procedures_of f) sets lists so in
    let r = leads_too e (procedures_of f) sets lists hosts bodies (bodies_renamed e.channels (procedures_of f) so.sources so.fit) cap h (first_configuration f) (first_state e) last (first_corresponds e f sets lists realizes.begins) run in (
      r.0,
      record { leads = r.1; within = run_within e hosts cap h last run },
      ended_terminated e (procedures_of f) sets lists bodies realizes.no_call_first r.0 last r.2 (each_ended e last.machines over) active,
    )

-- and back
pub ended_network : (f : File) (e : Endpoints) (sets : NameId → ParameterSets) (lists : ListedHolders) → Realizes e f sets lists → (hosts : Hosts) (cap : Option ℕ) (h : List Event)
    → IsEndedRun f hosts cap h → (last : NetworkState) × IsNetworkRun e hosts cap h last × (all_ended e last.machines ≡ true)
ended_network f e sets lists realizes hosts cap h (d, run, over) =
    let so = realizes.sound in
    let bodies = all_bodies e (procedures_of f) sets lists so in
    let r = leads_back e (procedures_of f) sets lists hosts bodies (bodies_renamed e.channels (procedures_of f) so.sources so.fit) realizes.no_call_first cap h (first_configuration f) d (first_state e) (first_corresponds e f sets lists realizes.begins) run.leads (run_has_room e hosts cap h run.within) in
    (r.0, r.1, terminated_ended e (procedures_of f) sets lists bodies realizes.no_call_first d r.0 r.2 over)

-- where some process hasn't ended after a run, something is left to happen
pub not_over : (f : File) (e : Endpoints) (sets : NameId → ParameterSets) (lists : ListedHolders) → Realizes e f sets lists → (hosts : Hosts) (cap : Option ℕ) (h : List Event) (last : NetworkState)
    → IsNetworkRun e hosts cap h last → all_ended e last.machines ≡ false → IsEndedRun f hosts cap h → ⊥
not_over f e sets lists realizes hosts cap h last run going over =
    let back = ended_network f e sets lists realizes hosts cap h over in
    let same : back.0 ≡ last = leads_one e hosts cap h (first_state e) back.0 last back.1 run in
    true≢false (sym back.2 ∙ ap (λ (n : NetworkState). all_ended e n.machines) same ∙ going)
