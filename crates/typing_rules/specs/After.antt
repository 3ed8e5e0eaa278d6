-- What is known after a statement or a condition that violates no rule.
use Rattle.std.specs.Prelude.{List, ◌++◌, map, Option, Some, None, Result, Ok, Err}
use Rattle.chor_base.specs.declared.names.NameId.{NameId}
use Rattle.chor_base.specs.declared.rule.Rule.{Rule}
use Rattle.chor_base.specs.declared.value.Sort.{Sort}
use Rattle.chor_base.specs.declared.value.Sort.TheVariants as sort
use Rattle.chor_tree.specs.declared.file.File.{File}
use Rattle.chor_tree.specs.declared.tree.Part.{Part}
use Rattle.chor_tree.specs.Source.{Statement, Starts, Sends, Selects, Gives, Sets, Asks, Shows, Block, Then}
use Rattle.delegation.specs.Owners.{started, passed}
use Rattle.typing_rules.specs.declared.allowed.EndpointType.{EndpointType}
use Rattle.typing_rules.specs.Environment.{Environment, step_at, moved, set_at, unset, opened}
use Rattle.typing_rules.specs.Allowed.{value_sent, labels_sent, arm_in, endpoint_sent}
use Rattle.typing_rules.specs.Checks.{sort_at}

-- a session and the processes of its roles, of which the new ones have no variable set
abbrev pub with_session : File → Environment → NameId → NameId → List Part → List Part → Environment
with_session f e c k active serve = record {
  standings = e.standings ++ opened f c k;
  owners = e.owners ++ started k (active ++ serve);
  sorts = unset e.sorts (map (λ q. q.process.name) serve);
}

-- a value of that sort in a variable of the receiver, and the state after it
abbrev pub with_value : Environment → NameId → NameId → NameId → Option (Sort × NameId) → Environment
with_value e k q y None = e
with_value e k q y (Some s) = record e { standings = moved e.standings k s.1; sorts = set_at e.sorts q y s.0 }

-- the state after a label
abbrev pub with_state : Environment → NameId → Option NameId → Environment
with_state e k None = e
with_state e k (Some s) = record e { standings = moved e.standings k s }

-- the receiver as holder of the given role, and the state after it
abbrev pub with_endpoint : Environment → NameId → NameId → Part → Option (EndpointType × NameId) → Environment
with_endpoint e k q given None = e
with_endpoint e k q given (Some t) =
    record e { standings = moved e.standings k t.1; owners = passed e.owners given.process.name given.role.name q }

-- the sort of a variable
abbrev pub with_sort : Environment → NameId → NameId → Result Sort Rule → Environment
with_sort e p y (Err r) = e
with_sort e p y (Ok s) = record e { sorts = set_at e.sorts p y s }

-- what is known after a statement
abbrev pub after_statement : File → Environment → Statement → Environment
after_statement f e (Starts c k active serve) = with_session f e c.name k.name active serve
after_statement f e (Sends a x b y k) = with_value e k.name b.process.name y (value_sent a.role.name b.role.name (step_at f e k.name))
after_statement f e (Selects a b k l) = with_state e k.name (arm_in (labels_sent a.role.name b.role.name (step_at f e k.name)) l)
after_statement f e (Gives a b k given) = with_endpoint e k.name b.process.name given (endpoint_sent a.role.name b.role.name (step_at f e k.name))
after_statement f e (Sets p y x) = with_sort e p.name y (sort_at e p x)
after_statement f e (Asks p y h x z) = with_sort e p.name y (Ok sort.Int)
after_statement f e (Shows p x) = e

-- What is known where what follows a block's first statement, or its condition, begins
abbrev pub after : File → Environment → Block → Environment
after f e (Then place s next) = after_statement f e s
after f e _ = e
