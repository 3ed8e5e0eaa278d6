use Rattle.std.proofs.Common.{◌≡◌, refl, sym, ap, ◌∙◌, subst, inl, inr}
use Rattle.chor_host.specs.Functions.{names_of}
use Rattle.chor_host.specs.Tables.{functions_of}
use Rattle.chor_tree.specs.Names.{node_faults, scope_after, message_faults, unknown_process, unknown_session, unknown_function}
use Rattle.chor_base.specs.Faults.{first_of_all}
use Rattle.chor_base.proofs.Faults.{first_of_two}
use Rattle.name_resolution.specs.Sets.{IsSameScope}
use Rattle.name_resolution.proofs.Members.{begins_itself, scope_itself}
use Rattle.name_resolution.proofs.declared.Declared.first_in_node.Goals as goal

pub returns-in-Start-clause-fault : goal.returns-in-Start-clause-fault
returns-in-Start-clause-fault g c = rw c.in-Start.is c.first_in_start.ensures.fault

pub returns-in-Start-clause-bound : goal.returns-in-Start-clause-bound
returns-in-Start-clause-bound g c = rw c.in-Start.is c.first_in_start.ensures.bound

pub returns-in-Give-clause-fault : goal.returns-in-Give-clause-fault
returns-in-Give-clause-fault g c =
    let s = c.args.bound.now in
    let given = c.in-Give.given.process in
    rw c.in-Give.is (first_of_two (message_faults s c.in-Give.from c.in-Give.to c.in-Give.session) (unknown_session s given) _ _ _ c.earlier.ensures c.first_in_message.ensures c.unknown_session.ensures)

pub returns-in-Give-clause-bound : goal.returns-in-Give-clause-bound
returns-in-Give-clause-bound g c = rw c.in-Give.is (scope_itself c.args.bound.now)

pub returns-in-Give-clause-begins : goal.returns-in-Give-clause-begins
returns-in-Give-clause-begins g c = begins_itself c.args.bound.now

pub returns-in-Host-clause-fault : goal.returns-in-Host-clause-fault
returns-in-Host-clause-fault g c =
    let hosts = names_of (functions_of c.args.hosts.now) in
    let process = c.in-Host.process in
    rw c.in-Host.is (first_of_two (unknown_process c.args.bound.now process) (unknown_function c.args.self.now.file.now hosts c.in-Host.name) _ _ _ c.earlier-in-Host.ensures c.unknown_process.ensures c.unknown_function.ensures)

pub returns-in-Host-clause-bound : goal.returns-in-Host-clause-bound
returns-in-Host-clause-bound g c = rw c.in-Host.is (scope_itself c.args.bound.now)

pub returns-in-Host-clause-begins : goal.returns-in-Host-clause-begins
returns-in-Host-clause-begins g c = begins_itself c.args.bound.now

pub returns-in-Call-clause-fault : goal.returns-in-Call-clause-fault
returns-in-Call-clause-fault g c = rw c.in-Call.is c.first_in_call.ensures

pub returns-in-Call-clause-bound : goal.returns-in-Call-clause-bound
returns-in-Call-clause-bound g c = rw c.in-Call.is (scope_itself c.args.bound.now)

pub returns-in-Call-clause-begins : goal.returns-in-Call-clause-begins
returns-in-Call-clause-begins g c = begins_itself c.args.bound.now

pub returns-in-End-clause-fault : goal.returns-in-End-clause-fault
returns-in-End-clause-fault g c = rw c.in-End.is refl

pub returns-in-End-clause-bound : goal.returns-in-End-clause-bound
returns-in-End-clause-bound g c = rw c.in-End.is (scope_itself c.args.bound.now)

pub returns-in-End-clause-begins : goal.returns-in-End-clause-begins
returns-in-End-clause-begins g c = begins_itself c.args.bound.now

pub returns-in-Set-clause-fault : goal.returns-in-Set-clause-fault
returns-in-Set-clause-fault g c =
    let f = c.args.self.now.file.now in
    let hosts = names_of (functions_of c.args.hosts.now) in
    let s = c.args.bound.now in
    let same : node_faults f hosts s c.args.form.now ≡ unknown_process s c.in-Set.process = elim c.in-Set.is [
      | inl a ↦ ap (node_faults f hosts s) a.3
      | inr b ↦ elim b [ inl a ↦ ap (node_faults f hosts s) a.2 | inr a ↦ ap (node_faults f hosts s) a.3 ]
    ] in
    c.unknown_process-in-Set.ensures ∙ ap first_of_all (sym same)

pub returns-in-Set-clause-bound : goal.returns-in-Set-clause-bound
returns-in-Set-clause-bound g c =
    let s = c.args.bound.now in
    let same : scope_after s c.args.form.now ≡ s = elim c.in-Set.is [
      | inl a ↦ ap (scope_after s) a.3
      | inr b ↦ elim b [ inl a ↦ ap (scope_after s) a.2 | inr a ↦ ap (scope_after s) a.3 ]
    ] in
    subst (IsSameScope s) (sym same) (scope_itself s)

pub returns-in-Set-clause-begins : goal.returns-in-Set-clause-begins
returns-in-Set-clause-begins g c = begins_itself c.args.bound.now

pub returns-in-Value-clause-fault : goal.returns-in-Value-clause-fault
returns-in-Value-clause-fault g c =
    let f = c.args.self.now.file.now in
    let hosts = names_of (functions_of c.args.hosts.now) in
    let s = c.args.bound.now in
    let same : node_faults f hosts s c.args.form.now ≡ message_faults s c.in-Value.from c.in-Value.to c.in-Value.session =
    elim c.in-Value.is [ inl a ↦ ap (node_faults f hosts s) a.3 | inr a ↦ ap (node_faults f hosts s) a.2 ] in
    c.first_in_message-in-Value.ensures ∙ ap first_of_all (sym same)

pub returns-in-Value-clause-bound : goal.returns-in-Value-clause-bound
returns-in-Value-clause-bound g c =
    let s = c.args.bound.now in
    let same : scope_after s c.args.form.now ≡ s = elim c.in-Value.is [ inl a ↦ ap (scope_after s) a.3 | inr a ↦ ap (scope_after s) a.2 ] in
    subst (IsSameScope s) (sym same) (scope_itself s)

pub returns-in-Value-clause-begins : goal.returns-in-Value-clause-begins
returns-in-Value-clause-begins g c = begins_itself c.args.bound.now
