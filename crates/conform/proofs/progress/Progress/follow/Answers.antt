use Rattle.std.proofs.Common.{List, ℕ, subst, sym, Ok}
use Rattle.chor_base.specs.declared.event.Event.{Event}
use Rattle.chor_base.specs.declared.names.NameId.{NameId}
use Rattle.conform.specs.Steps.{Opens, Follows}
use Rattle.conform.proofs.Alone.{alone_follows}
use Rattle.conform.proofs.Starts.{start_follows}
use Rattle.conform.proofs.Messages.{send_follows, receive_follows}
use Rattle.conform.proofs.progress.Progress.follow.Goals as goal

pub returns-in-Start : goal.returns-in-Start
returns-in-Start c = λ h a.
    subst (λ (x : Event). Follows c.args.file.now h x c.start.result c.start.new.self) (sym c.in-Start.is)
    (start_follows c.args.file.now c.requires h c.args.self.now c.start.new.self a c.in-Start.channel c.in-Start.sid c.in-Start.parts c.start.result (subst (λ (ps : List (NameId × ℕ)). Opens c.args.file.now c.args.self.now c.in-Start.channel c.in-Start.sid ps c.start.result c.start.new.self) c.as_slice.ensures c.start.ensures))

pub returns-in-Send : goal.returns-in-Send
returns-in-Send c = λ h a.
    subst (λ (x : Event). Follows c.args.file.now h x c.send.result c.send.new.self) (sym c.in-Send.is)
    (send_follows c.args.file.now c.requires h c.args.self.now c.send.new.self a c.in-Send.pid c.in-Send.sid c.in-Send.from c.in-Send.to c.in-Send.load c.send.result c.send.ensures)

pub returns-in-Recv : goal.returns-in-Recv
returns-in-Recv c = λ h a.
    subst (λ (x : Event). Follows c.args.file.now h x (Ok c.receive.result) c.receive.new.self) (sym c.in-Recv.is)
    (receive_follows c.args.file.now c.requires h c.args.self.now c.receive.new.self a c.in-Recv.pid c.in-Recv.sid c.in-Recv.from c.in-Recv.to c.in-Recv.load c.receive.result c.receive.ensures)

pub returns-in-Test : goal.returns-in-Test
returns-in-Test c = λ h a. alone_follows c.args.file.now h c.args.self.now a c.args.event.now c.in-Test.is
