use Rattle.state_sets.proofs.Lists.{first_among}
use Rattle.local_types.proofs.States.{state_send, state_recv, state_pick, state_branch}
use Rattle.local_types.proofs.view.state_of.Goals as goal

pub returns-in-Send : goal.returns-in-Send
returns-in-Send c = state_send c.args.arms.now _ c.in-Send.role c.in-Send.payload c.requires (first_among c.args.arms.now _ c.if-is_empty.ensures) c.in-Send.is

pub returns-in-Recv : goal.returns-in-Recv
returns-in-Recv c = state_recv c.args.arms.now _ c.in-Recv.role c.in-Recv.payload c.requires (first_among c.args.arms.now _ c.if-is_empty.ensures) c.in-Recv.is

pub returns-in_ok-labels-in-Pick : goal.returns-in_ok-labels-in-Pick
returns-in_ok-labels-in-Pick c = state_pick c.args.arms.now _ c.in-Pick.role _ c.in_ok-labels-in-Pick.field-0 c.requires (first_among c.args.arms.now _ c.if-is_empty.ensures) c.in-Pick.is c.in_ok-labels-in-Pick.ensures

pub returns-in_ok-labels-in-Branch : goal.returns-in_ok-labels-in-Branch
returns-in_ok-labels-in-Branch c = state_branch c.args.arms.now _ c.in-Branch.role _ c.in_ok-labels-in-Branch.field-0 c.requires (first_among c.args.arms.now _ c.if-is_empty.ensures) c.in-Branch.is c.in_ok-labels-in-Branch.ensures
