-- The faults of types are violations of T1 to T9.
use Rattle.std.proofs.Common.{ℕ, ◌≡◌, ◌==◌, Bool, true, false, not, List, [], ◌∷◌, ◌++◌, refl, subst, Option, Some, None, Result, Ok, Err, if◌then◌else◌}
use Rattle.std.specs.Prelude.{map, is_some}
use Rattle.chor_base.specs.declared.names.NameId.{NameId}
use Rattle.chor_base.specs.declared.rule.Rule.{Rule}
use Rattle.chor_base.specs.declared.rule.Rule.TheVariants.{T1, T2, T3, T4, T5, T6, T7, T8, T9}
use Rattle.chor_base.specs.declared.value.Sort.{Sort}
use Rattle.chor_base.specs.declared.value.Sort.TheVariants as sort
use Rattle.chor_base.specs.declared.expr.UnOp.{UnOp}
use Rattle.chor_base.specs.declared.expr.UnOp.TheVariants.{Neg, Not}
use Rattle.chor_base.specs.declared.expr.BinOp.{BinOp}
use Rattle.chor_base.specs.declared.expr.BinOp.TheVariants.{Add, Sub, Mul, Div, Eq, Ne, Lt, Le, And, Or}
use Rattle.chor_base.specs.declared.fault.Fault.{Fault}
use Rattle.chor_base.specs.Expr.{Term, Constant, Variable, Unary, Binary}
use Rattle.chor_base.specs.Sorts.{Sorts, same_sort, sort_of_value, or_rule, takes, take_both, sort_of_unary, sort_of_operator, sort_of_binary, sort_of}
use Rattle.chor_tree.specs.declared.file.File.{File}
use Rattle.chor_tree.specs.declared.file.Named.{Named}
use Rattle.chor_tree.specs.declared.file.Proc.{Proc}
use Rattle.chor_tree.specs.declared.protocol.ProtoArm.{ProtoArm}
use Rattle.chor_tree.specs.declared.tree.Part.{Part}
use Rattle.chor_tree.specs.Names.{procedure_of, names_in}
use Rattle.chor_tree.specs.Source.{Statement, Starts, Sends, Selects, Gives, Sets, Asks, Shows, Block, Then, Either, Calls, Ends}
use Rattle.delegation.specs.declared.held.Held.{Held}
use Rattle.delegation.specs.Checks.{Check, ask, first_failed, all_differ}
use Rattle.delegation.specs.Owners.{holds, holds_some, pass_check}
use Rattle.typing_rules.specs.declared.allowed.EndpointType.{EndpointType}
use Rattle.typing_rules.specs.Environment.{Environment, standing_of, step_at}
use Rattle.typing_rules.specs.Allowed.{value_sent, labels_sent, arm_of, endpoint_sent}
use Rattle.typing_rules.specs.Checks.{has_sort, is_sort, sort_at, parties, value_checks, label_checks, endpoint_checks, is_endpoint, rest_ended, params_are_set, sessions_fit, arguments_fit, statement_checks, checks_of, rule_at}
use Rattle.typing_rules.specs.TypeFaults.{holder_fault, head_faults, IsBodyFault, here, further, IsTypeFault, in_main, in_a_head, in_a_procedure}
use Rattle.source_check.proofs.ClassRules.{IsOf, Are, each, one_if, among}

abbrev pub type_rule : ℕ → Rule
type_rule n =
    if n == 49 then T1 else (if n == 50 then T2 else (if n == 51 then T3 else (if n == 52 then T4 else (if n == 53 then T5
    else (if n == 54 then T6 else (if n == 55 then T7 else (if n == 56 then T8 else T9)))))))

abbrev IsType : Rule → Type 0
IsType r = IsOf type_rule r

-- ---- checks whose rules are rules of types

abbrev IsCheck : Check → Type 0
IsCheck None = Unit {0}
IsCheck (Some r) = IsType r

abbrev AreChecks : List Check → Type 0
AreChecks [] = Unit {0}
AreChecks (c ∷ cs) = IsCheck c × AreChecks cs

of_first : (cs : List Check) → AreChecks cs → IsCheck (first_failed cs)
of_first [] h = tt
of_first (None ∷ cs) h = of_first cs h.1
of_first (Some r ∷ cs) h = h.0

joined : (cs ds : List Check) → AreChecks cs → AreChecks ds → AreChecks (cs ++ ds)
joined [] ds h i = i
joined (c ∷ cs) ds h i = (h.0, joined cs ds h.1 i)

of_ask : (b : Bool) (r : Rule) → IsType r → IsCheck (ask b r)
of_ask true r h = tt
of_ask false r h = h

-- ---- expressions

abbrev IsSorted : Result Sort Rule → Type 0
IsSorted (Ok s) = Unit {0}
IsSorted (Err r) = IsType r

of_rule : (o : Option Sort) (r : Rule) → IsType r → IsSorted (or_rule o r)
of_rule (Some s) r h = tt
of_rule None r h = h

of_takes : (wanted made s : Sort) → IsSorted (takes wanted made s)
of_takes wanted made s = go (same_sort wanted s)
  where
    go : (b : Bool) → IsSorted (if b then Ok made else Err T3)
    go true = tt
    go false = refl

of_both : (wanted made s t : Sort) → IsSorted (take_both wanted made s t)
of_both wanted made s t = go (same_sort wanted s)
  where
    go : (b : Bool) → IsSorted (if b then takes wanted made t else Err T3)
    go true = of_takes wanted made t
    go false = refl

of_unary : (o : UnOp) (w : Result Sort Rule) → IsSorted w → IsSorted (sort_of_unary o w)
of_unary o (Err r) h = h
of_unary Neg (Ok s) h = of_takes sort.Int sort.Int s
of_unary Not (Ok s) h = of_takes sort.Bool sort.Bool s

of_operator : (o : BinOp) (s t : Sort) → IsSorted (sort_of_operator o s t)
of_operator Add s t = of_both sort.Int sort.Int s t
of_operator Sub s t = of_both sort.Int sort.Int s t
of_operator Mul s t = of_both sort.Int sort.Int s t
of_operator Div s t = of_both sort.Int sort.Int s t
of_operator Eq s t = of_takes s sort.Bool t
of_operator Ne s t = of_takes s sort.Bool t
of_operator Lt s t = of_both sort.Int sort.Bool s t
of_operator Le s t = of_both sort.Int sort.Bool s t
of_operator And s t = of_both sort.Bool sort.Bool s t
of_operator Or s t = of_both sort.Bool sort.Bool s t

of_binary : (o : BinOp) (v w : Result Sort Rule) → IsSorted v → IsSorted w → IsSorted (sort_of_binary o v w)
of_binary o (Err r) w h i = h
of_binary o (Ok s) (Err r) h i = i
of_binary o (Ok s) (Ok t) h i = of_operator o s t

of_term : (x : Term) (m : Sorts) → IsSorted (sort_of x m)
of_term (Constant v) m = of_rule (sort_of_value v) T3 refl
of_term (Variable y) m = of_rule (m y) T8 refl
of_term (Unary o e) m = of_unary o (sort_of e m) (of_term e m)
of_term (Binary o e f) m = of_binary o (sort_of e m) (sort_of f m) (of_term e m) (of_term f m)

of_sort : (w : Result Sort Rule) → IsSorted w → IsCheck (has_sort w)
of_sort (Ok s) h = tt
of_sort (Err r) h = h

of_sort_at : (e : Environment) (p : Named) (x : Term) → IsCheck (has_sort (sort_at e p x))
of_sort_at e p x = of_sort (sort_at e p x) (of_term x (e.sorts p.name))

-- ---- each kind of statement and tail

of_parties : (e : Environment) (k : Named) (a b : Part) → AreChecks (parties e k a b)
of_parties e k a b = (of_ask (holds e.owners k.name a.role.name a.process.name) T1 refl, (of_ask (holds e.owners k.name b.role.name b.process.name) T1 refl, tt))

of_value : (o : Option (Sort × NameId)) (w : Result Sort Rule) → IsSorted w → AreChecks (value_checks o w)
of_value None w h = (refl, tt)
of_value (Some s) w h = (of_sort w h, (of_ask (is_sort s.0 w) T3 refl, tt))

of_label : (o : Option (List ProtoArm)) (l : NameId) → AreChecks (label_checks o l)
of_label None l = (refl, tt)
of_label (Some arms) l = (of_ask (is_some (arm_of arms l)) T4 refl, tt)

of_pass : (hs : List Held) (k r p q : NameId) → IsCheck (pass_check hs k r p q)
of_pass hs k r p q = of_first (ask (holds hs k r p) T1 ∷ ask (not (holds_some hs k q)) T9 ∷ []) (of_ask (holds hs k r p) T1 refl, (of_ask (not (holds_some hs k q)) T9 refl, tt))

of_endpoint : (e : Environment) (a b given : Part) (o : Option (EndpointType × NameId)) → AreChecks (endpoint_checks e a b given o)
of_endpoint e a b given None = (refl, tt)
of_endpoint e a b given (Some t) =
    let k = given.process.name in
    let r = given.role.name in
    (of_pass e.owners k r a.process.name b.process.name, (of_ask (is_endpoint (standing_of e.standings k) r t.0) T5 refl, tt))

of_arguments : (e : Environment) (o : Option Proc) (ps ks : List Named) → AreChecks (arguments_fit e o ps ks)
of_arguments e None ps ks = tt
of_arguments e (Some g) ps ks = (of_ask (params_are_set e g.params ps) T7 refl, (of_ask (sessions_fit e g.params ps g.sessions ks) T7 refl, tt))

of_statement : (f : File) (e : Environment) (s : Statement) → AreChecks (statement_checks f e s)
of_statement f e (Starts c k active serve) = (of_ask (all_differ (map (λ q. q.process.name) (active ++ serve))) T9 refl, tt)
of_statement f e (Sends a x b y k) =
    joined (parties e k a b) _ (of_parties e k a b)
    (of_value (value_sent a.role.name b.role.name (step_at f e k.name)) (sort_at e a.process x) (of_term x (e.sorts a.process.name)))
of_statement f e (Selects a b k l) = joined (parties e k a b) _ (of_parties e k a b) (of_label (labels_sent a.role.name b.role.name (step_at f e k.name)) l)
of_statement f e (Gives a b k given) = joined (parties e k a b) _ (of_parties e k a b) (of_endpoint e a b given (endpoint_sent a.role.name b.role.name (step_at f e k.name)))
of_statement f e (Sets p y x) = (of_sort_at e p x, tt)
of_statement f e (Asks p y h x z) = (of_sort_at e p x, (of_sort_at e p z, (of_ask _ T3 refl, tt)))
of_statement f e (Shows p x) = (of_sort_at e p x, tt)

of_checks : (f : File) (e : Environment) (b : Block) → AreChecks (checks_of f e b)
of_checks f e (Then place s next) = of_statement f e s
of_checks f e (Either place p x first second) = (of_sort_at e p x, (of_ask (is_sort sort.Bool (sort_at e p x)) T3 refl, tt))
of_checks f e (Calls place g ps ks) =
    (of_ask _ T7 refl, joined (arguments_fit e (procedure_of f g.name) ps ks) _ (of_arguments e (procedure_of f g.name) ps ks) (of_ask (rest_ended f e (names_in ks)) T6 refl, tt))
of_checks f e (Ends place) = (of_ask (rest_ended f e []) T6 refl, tt)

-- ---- faults

failed : (c : Check) (r : Rule) → c ≡ Some r → IsCheck c → IsType r
failed c r e h = subst IsCheck e h

of_body : (f : File) (x : Fault) (e : Environment) (b : Block) → IsBodyFault f x e b → IsType x.rule
of_body f x e b (here rule place) = failed (rule_at f e b) x.rule rule (of_first (checks_of f e b) (of_checks f e b))
of_body f x e b (further {next = next} fine m more) = of_body f x _ next more

of_head : (p : Proc) → Are type_rule (head_faults p)
of_head p = each type_rule holder_fault (λ k. one_if type_rule (not (all_differ (map (λ h. h.1.name) k.holders))) T9 k.name.place refl) p.sessions

pub is_type_rule : (f : File) (x : Fault) → IsTypeFault f x → IsOf type_rule x.rule
is_type_rule f x (in_main b) = of_body f x _ _ b
is_type_rule f x (in_a_head {p = p} declared m) = among type_rule (head_faults p) x (of_head p) m
is_type_rule f x (in_a_procedure declared fine b) = of_body f x _ _ b
