-- What is known at a statement, of its parts.
use Rattle.std.specs.Prelude.{◌&&◌, [], ◌∷◌, Result}
use Rattle.chor_base.specs.declared.names.NameId.{NameId}
use Rattle.chor_base.specs.declared.rule.Rule.{Rule}
use Rattle.chor_base.specs.declared.rule.Rule.TheVariants.{T3}
use Rattle.chor_base.specs.declared.value.Sort.{Sort}
use Rattle.chor_base.specs.declared.value.Sort.TheVariants as sort
use Rattle.chor_base.specs.Expr.{Term}
use Rattle.chor_tree.specs.declared.file.Named.{Named}
use Rattle.chor_tree.specs.declared.tree.Form.{Form}
use Rattle.chor_tree.specs.declared.tree.Form.TheVariants.{Start}
use Rattle.chor_tree.specs.declared.file.File.{File}
use Rattle.chor_tree.specs.Source.{Statement}
use Rattle.delegation.specs.Checks.{Check, ask, first_failed}
use Rattle.delegation.specs.Owners.{Lacks}
use Rattle.typing_rules.specs.After.{with_sort}
use Rattle.typing_rules.specs.Checks.{has_sort, is_sort, sort_at, statement_checks}
use Rattle.typing_rules.specs.Environment.{Environment}
use Rattle.typing_steps.specs.declared.known.Known.{Known}
use Rattle.typing_steps.specs.Sorts.{sorts_in}

-- the sessions in scope, the holders of their roles and the sorts of variables that a value tells
abbrev pub environment_of : Known → Environment
environment_of k = record { standings = k.standings.items; owners = k.owners; sorts = sorts_in k.sorts }

-- nobody holds a role of the session that a start binds
abbrev pub IsFresh : Environment → Form → Type 0
IsFresh e (Start c k active serve next) = Lacks k.name e.owners
IsFresh e _ = Unit {0}

-- the rule that a statement violates, if any
abbrev pub statement_rule : File → Environment → Statement → Check
statement_rule f e s = first_failed (statement_checks f e s)

-- the rule on the operands of a host function, by their sorts
abbrev pub operands_rule : Result Sort Rule → Result Sort Rule → Check
operands_rule s t = first_failed (has_sort s ∷ has_sort t ∷ ask (is_sort sort.Int s && is_sort sort.Int t) T3 ∷ [])

abbrev pub question_rule : Environment → Named → Term → Term → Check
question_rule e p x z = operands_rule (sort_at e p x) (sort_at e p z)

-- the rule on a condition
abbrev pub condition_rule : Environment → Named → Term → Check
condition_rule e p x = first_failed (has_sort (sort_at e p x) ∷ ask (is_sort sort.Bool (sort_at e p x)) T3 ∷ [])

-- what is known after a variable is set to an expression
abbrev pub setting : Environment → Named → NameId → Term → Environment
setting e p y x = with_sort e p.name y (sort_at e p x)
