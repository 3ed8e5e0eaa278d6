use Rattle.std.proofs.Common.{Some, ap, ◌∙◌, sym}
use Rattle.chor_host.specs.Functions.{hosts_in}
use Rattle.chor_host.specs.Tables.{functions_of}
use Rattle.endpoint_machine.specs.declared.head.Head.TheVariants as head
use Rattle.net_core.specs.Machines.{can_act}
use Rattle.net_core.proofs.Moves.{acts_moving}
use Rattle.std.proofs.lemmas.Bool.{true≢false}
use Rattle.net_core.proofs.acts.act.Goals as goal

pub returns-in-Out-clause-acts : goal.returns-in-Out-clause-acts
returns-in-Out-clause-acts g c =
    acts_moving c.args.endpoints.now (hosts_in c.args.endpoints.now.names (functions_of c.args.hosts.now)) c.args.queues.now c.send.new.queues c.args.machine.now c.send.new.machine c.send.result
    (head.Out c.in-Out.sid c.in-Out.from c.in-Out.to) (c.requires.head ∙ ap Some c.in-Out.is) (λ i. cc) c.send.ensures.moves

pub returns-in-Take-clause-acts : goal.returns-in-Take-clause-acts
returns-in-Take-clause-acts g c =
    acts_moving c.args.endpoints.now (hosts_in c.args.endpoints.now.names (functions_of c.args.hosts.now)) c.args.queues.now c.receive.new.queues c.args.machine.now c.receive.new.machine c.receive.result
    (head.Take c.in-Take.sid c.in-Take.from c.in-Take.to) (c.requires.head ∙ ap Some c.in-Take.is) (λ i. cc) c.receive.ensures.moves

pub send-requires-clause-faultless : goal.send-requires-clause-faultless
send-requires-clause-faultless g c = c.requires.faultless.faultless

pub send-requires-clause-bound : goal.send-requires-clause-bound
send-requires-clause-bound g c = c.requires.bound

pub send-requires-clause-head : goal.send-requires-clause-head
send-requires-clause-head g c = c.requires.head ∙ ap Some c.in-Out.is

pub send-requires-clause-room : goal.send-requires-clause-room
send-requires-clause-room g c = c.requires.room

pub receive-requires-clause-faultless : goal.receive-requires-clause-faultless
receive-requires-clause-faultless g c = c.requires.faultless.faultless

pub receive-requires-clause-bound : goal.receive-requires-clause-bound
receive-requires-clause-bound g c = c.requires.bound

pub receive-requires-clause-head : goal.receive-requires-clause-head
receive-requires-clause-head g c = c.requires.head ∙ ap Some c.in-Take.is

pub receive-requires-clause-room : goal.receive-requires-clause-room
receive-requires-clause-room g c = c.requires.room

pub local_step-requires-clause-faultless : goal.local_step-requires-clause-faultless
local_step-requires-clause-faultless g c = c.requires.faultless

pub local_step-requires-clause-bound : goal.local_step-requires-clause-bound
local_step-requires-clause-bound g c = c.requires.bound

pub local_step-requires-clause-alone : goal.local_step-requires-clause-alone
local_step-requires-clause-alone g c = c.requires.head ∙ ap Some c.in-Local.is

pub receive-requires-clause-fits : goal.receive-requires-clause-fits
receive-requires-clause-fits g c = sym (ap (can_act c.args.endpoints.now c.args.queues.now c.args.machine.now) c.in-Take.is) ∙ c.requires.goes

pub returns-in-Out-clause-number : goal.returns-in-Out-clause-number
returns-in-Out-clause-number g c = c.send.ensures.number

pub returns-in-Out-clause-bound : goal.returns-in-Out-clause-bound
returns-in-Out-clause-bound g c = c.send.ensures.bound

pub returns-in-Take-clause-number : goal.returns-in-Take-clause-number
returns-in-Take-clause-number g c = c.receive.ensures.number

pub returns-in-Take-clause-bound : goal.returns-in-Take-clause-bound
returns-in-Take-clause-bound g c = c.receive.ensures.bound

pub returns-in-Local-clause-number : goal.returns-in-Local-clause-number
returns-in-Local-clause-number g c = c.local_step.ensures.number

pub returns-in-Local-clause-bound : goal.returns-in-Local-clause-bound
returns-in-Local-clause-bound g c = c.local_step.ensures.bound

pub unreachable-requires : goal.unreachable-requires
unreachable-requires g c = absurd (true≢false (sym c.requires.goes ∙ ap (can_act c.args.endpoints.now c.args.queues.now c.args.machine.now) c.in-Join.is))

pub unreachable-requires-in-Ended : goal.unreachable-requires-in-Ended
unreachable-requires-in-Ended g c = absurd (true≢false (sym c.requires.goes ∙ ap (can_act c.args.endpoints.now c.args.queues.now c.args.machine.now) c.in-Ended.is))
