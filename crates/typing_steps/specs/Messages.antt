-- The statements by which messages are sent, and what is known once an endpoint is handed over.
use Rattle.chor_base.specs.declared.names.NameId.{NameId}
use Rattle.chor_base.specs.Expr.{Term}
use Rattle.chor_tree.specs.declared.tree.Part.{Part}
use Rattle.chor_tree.specs.Source.{Statement, Sends, Selects, Gives}
use Rattle.delegation.specs.Checks.{Check}
use Rattle.delegation.specs.Owners.{passed, pass_check}
use Rattle.typing_steps.specs.declared.known.Known.{Known}
use Rattle.typing_steps.specs.declared.messages.Message.{Message}

abbrev pub sends : Message → Term → NameId → Statement
sends m x y = Sends m.from x m.to y m.session

abbrev pub selects : Message → NameId → Statement
selects m l = Selects m.from m.to m.session l

abbrev pub gives : Message → Part → Statement
gives m h = Gives m.from m.to m.session h

-- the rule on a role that passes from the sender to the receiver
abbrev pub handing_rule : Known → Message → Part → Check
handing_rule k m h = pass_check k.owners h.process.name h.role.name m.from.process.name m.to.process.name

-- the receiver holds it
abbrev pub handing : Known → Message → Part → Known
handing k m h = record k { owners = passed k.owners h.process.name h.role.name m.to.process.name }
