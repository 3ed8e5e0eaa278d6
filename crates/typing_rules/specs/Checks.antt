-- What is checked at each kind of statement and tail, in order.
use Rattle.std.specs.Prelude.{◌==◌, ◌&&◌, ◌||◌, Bool, true, false, List, [], ◌∷◌, ◌++◌, Option, Some, None, Result, Ok, Err, is_some, if◌then◌else◌}
use Rattle.std.specs.List.{list_all}
use Rattle.chor_base.specs.declared.names.NameId.{NameId}
use Rattle.chor_base.specs.declared.rule.Rule.{Rule}
use Rattle.chor_base.specs.declared.rule.Rule.TheVariants.{T1, T2, T3, T4, T5, T6, T7, T8}
use Rattle.chor_base.specs.declared.value.Sort.{Sort}
use Rattle.chor_base.specs.declared.value.Sort.TheVariants as sort
use Rattle.chor_base.specs.Expr.{Term}
use Rattle.chor_base.specs.Sorts.{Sorts, sort_of, same_sort, or_rule}
use Rattle.chor_tree.specs.declared.file.Named.{Named}
use Rattle.chor_tree.specs.declared.file.File.{File}
use Rattle.chor_tree.specs.declared.file.Proc.{Proc}
use Rattle.chor_tree.specs.declared.file.ProcParam.{ProcParam}
use Rattle.chor_tree.specs.declared.file.SessionParam.{SessionParam}
use Rattle.chor_tree.specs.declared.protocol.ProtoArm.{ProtoArm}
use Rattle.chor_tree.specs.declared.tree.Part.{Part}
use Rattle.chor_tree.specs.Names.{procedure_of, is_among, names_in}
use Rattle.chor_tree.specs.Source.{Statement, Starts, Sends, Selects, Gives, Sets, Asks, Shows, Block, Then, Either, Calls, Ends}
use Rattle.delegation.specs.Checks.{Check, ask, first_failed, all_differ}
use Rattle.delegation.specs.Owners.{holds, start_check, pass_check}
use Rattle.typing_rules.specs.declared.standings.Standing.{Standing}
use Rattle.typing_rules.specs.declared.allowed.EndpointType.{EndpointType}
use Rattle.typing_rules.specs.Environment.{Environment, standing_of, step_in, step_at}
use Rattle.typing_rules.specs.Allowed.{value_sent, labels_sent, arm_of, endpoint_sent, is_last}

-- T8 and T3 of an expression
abbrev pub has_sort : Result Sort Rule → Check
has_sort (Ok s) = None
has_sort (Err r) = Some r

-- an expression has this sort
abbrev pub is_sort : Sort → Result Sort Rule → Bool
is_sort s (Ok t) = same_sort s t
is_sort s (Err r) = false

-- the sort of an expression of a process
abbrev pub sort_at : Environment → Named → Term → Result Sort Rule
sort_at e p x = sort_of x (e.sorts p.name)

-- ---- communications

-- T1, of the sender and then of the receiver
abbrev pub parties : Environment → Named → Part → Part → List Check
parties e k a b = ask (holds e.owners k.name a.role.name a.process.name) T1 ∷ ask (holds e.owners k.name b.role.name b.process.name) T1 ∷ []

-- T2, T8 and T3 of a value that is sent
abbrev pub value_checks : Option (Sort × NameId) → Result Sort Rule → List Check
value_checks None t = Some T2 ∷ []
value_checks (Some s) t = has_sort t ∷ ask (is_sort s.0 t) T3 ∷ []

-- T2 and T4 of a label
abbrev pub label_checks : Option (List ProtoArm) → NameId → List Check
label_checks None l = Some T2 ∷ []
label_checks (Some arms) l = ask (is_some (arm_of arms l)) T4 ∷ []

-- the payload is that session's protocol, its present state and this role
abbrev pub is_endpoint : Option Standing → NameId → EndpointType → Bool
is_endpoint None r t = false
is_endpoint (Some s) r t = (s.protocol.0 == t.protocol.0) && ((s.state.0 == t.state.0) && (r.0 == t.role.0))

-- T2, T1, T9 and T5 of an endpoint that is handed over
abbrev pub endpoint_checks : Environment → Part → Part → Part → Option (EndpointType × NameId) → List Check
endpoint_checks e a b given None = Some T2 ∷ []
endpoint_checks e a b given (Some t) =
    pass_check e.owners given.process.name given.role.name a.process.name b.process.name
    ∷ ask (is_endpoint (standing_of e.standings given.process.name) given.role.name t.0) T5
    ∷ []

-- ---- calls and ends

-- the session is passed, or at a state whose step is `end`
abbrev pub has_ended : File → List NameId → Standing → Bool
has_ended f passed s = is_among passed s.session || is_last (step_in f (Some s))

-- T6: each session in scope, but for those that are passed, is at a state whose step is `end`
abbrev pub rest_ended : File → Environment → List NameId → Bool
rest_ended f e passed = list_all (has_ended f passed) e.standings

-- the variables are set with those sorts
abbrev pub are_set : List (Named × Sort) → Sorts → Bool
are_set vs m = list_all (λ v. is_sort v.1 (or_rule (m v.0.name) T8)) vs

-- the processes that are passed have set the variables that their parameters ask for
abbrev pub params_are_set : Environment → List ProcParam → List Named → Bool
params_are_set e [] ps = true
params_are_set e (q ∷ qs) [] = true
params_are_set e (q ∷ qs) (p ∷ ps) = are_set q.vars (e.sorts p.name) && params_are_set e qs ps

-- the process that is passed for a parameter holds the role
abbrev pub holds_as : Environment → NameId → NameId → NameId → List ProcParam → List Named → Bool
holds_as e k r x [] ps = false
holds_as e k r x (q ∷ qs) [] = false
holds_as e k r x (q ∷ qs) (p ∷ ps) = if q.name.name.0 == x.0 then holds e.owners k r p.name else holds_as e k r x qs ps

-- a session is of the protocol and in the state that a parameter declares
abbrev pub is_standing : Option Standing → SessionParam → Bool
is_standing None q = false
is_standing (Some s) q = (s.protocol.0 == q.protocol.name.0) && (s.state.0 == q.state.name.0)

-- a passed session is of the declared protocol and in the declared state, and its listed roles have the passed holders
abbrev pub session_fits : Environment → List ProcParam → List Named → SessionParam → NameId → Bool
session_fits e qs ps q k = is_standing (standing_of e.standings k) q && list_all (λ h. holds_as e k h.0.name h.1.name qs ps) q.holders

-- the sessions that are passed fit those that the procedure declares
abbrev pub sessions_fit : Environment → List ProcParam → List Named → List SessionParam → List Named → Bool
sessions_fit e qs ps [] ks = true
sessions_fit e qs ps (s ∷ ss) [] = true
sessions_fit e qs ps (s ∷ ss) (k ∷ ks) = session_fits e qs ps s k.name && sessions_fit e qs ps ss ks

-- T7 of the variables, then of the sessions, that a call passes
abbrev pub arguments_fit : Environment → Option Proc → List Named → List Named → List Check
arguments_fit e None ps ks = []
arguments_fit e (Some g) ps ks = ask (params_are_set e g.params ps) T7 ∷ ask (sessions_fit e g.params ps g.sessions ks) T7 ∷ []

-- ---- the checks of each statement and tail, in order

-- the checks of a statement, in order
abbrev pub statement_checks : File → Environment → Statement → List Check
statement_checks f e (Starts c k active serve) = start_check (active ++ serve) ∷ []
statement_checks f e (Sends a x b y k) = parties e k a b ++ value_checks (value_sent a.role.name b.role.name (step_at f e k.name)) (sort_at e a.process x)
statement_checks f e (Selects a b k l) = parties e k a b ++ label_checks (labels_sent a.role.name b.role.name (step_at f e k.name)) l
statement_checks f e (Gives a b k given) = parties e k a b ++ endpoint_checks e a b given (endpoint_sent a.role.name b.role.name (step_at f e k.name))
statement_checks f e (Sets p y x) = has_sort (sort_at e p x) ∷ []
statement_checks f e (Asks p y h x z) =
    has_sort (sort_at e p x) ∷ has_sort (sort_at e p z)
    ∷ ask (is_sort sort.Int (sort_at e p x) && is_sort sort.Int (sort_at e p z)) T3
    ∷ []
statement_checks f e (Shows p x) = has_sort (sort_at e p x) ∷ []

-- the checks of the first statement of a block, or of what ends it, in order
abbrev pub checks_of : File → Environment → Block → List Check
checks_of f e (Then place s next) = statement_checks f e s
checks_of f e (Either place p x first second) = has_sort (sort_at e p x) ∷ ask (is_sort sort.Bool (sort_at e p x)) T3 ∷ []
checks_of f e (Calls place g ps ks) =
    ask (all_differ (names_in ps) && all_differ (names_in ks)) T7
    ∷ (arguments_fit e (procedure_of f g.name) ps ks ++ ask (rest_ended f e (names_in ks)) T6 ∷ [])
checks_of f e (Ends place) = ask (rest_ended f e []) T6 ∷ []

-- The rule that the first statement of a block, or its tail, violates, if any
abbrev pub rule_at : File → Environment → Block → Check
rule_at f e b = first_failed (checks_of f e b)
