-- What the tokens of an endpoint file derive.
use Rattle.std.specs.Prelude.{◌-◌, ℕ, List, [], ◌∷◌, codes}
use Rattle.std.proofs.Common.{inl, inr}
use Rattle.chor_base.specs.declared.rule.Rule.TheVariants.{E1}
use Rattle.chor_base.specs.declared.expr.UnOp.TheVariants as unop
use Rattle.chor_base.specs.declared.expr.BinOp.{BinOp}
use Rattle.chor_base.specs.declared.expr.BinOp.TheVariants as binop
use Rattle.chor_lexer.specs.Lexeme.{Lexeme, word as a_word}
use Rattle.chor_lexer.specs.declared.mark.Mark.TheVariants.{Plus, Minus, Star, Slash}
use Rattle.grammar.specs.Grammars.{Value, Rules}
use Rattle.endpoint_grammar.specs.Written.{Phrase, Leaf, Unary, Binary, Deed, Joins, Sends, Receives, Selects, Gives, Gains, Sets, Shows, Asks, Body, Does, Offers, Tests, Calls, Ends, Arms, NoArms, Arm, Roles, Units, no_units}
use Rattle.endpoint_grammar.specs.Grammar.{Nonterminal, units, lines, roles, served, operand, parens, Part, endpoints, rule_of, operators, comparisons, un, product, sum, comparison, conjunction, disjunction, names, sessions, node, tail, lines_of, roles_of, served_of, units_of}

-- what a nonterminal derives
abbrev pub Meaning : Nonterminal → Type 0
Meaning (units q) = Units
Meaning (lines p) = Body
Meaning (roles n) = Roles
Meaning (served n) = List Lexeme
Meaning operand = Phrase
Meaning parens = Phrase

-- what a part of the grammar derives
abbrev pub Derived : Part → Type 0
Derived g = Value Meaning g

-- ---- expressions

-- the expression that an operand is
abbrev pub leaf_of : Derived un → Phrase
leaf_of (inl x) = Unary unop.Neg x
leaf_of (inr (inl x)) = Unary unop.Not x
leaf_of (inr (inr (inl x))) = x
leaf_of (inr (inr (inr (inl l)))) = Leaf l.symbol
leaf_of (inr (inr (inr (inr (inl l))))) = Leaf l.symbol
leaf_of (inr (inr (inr (inr (inr (inl v)))))) = Leaf (a_word (codes "true"))
leaf_of (inr (inr (inr (inr (inr (inr (inl v))))))) = Leaf (a_word (codes "false"))
leaf_of (inr (inr (inr (inr (inr (inr (inr l))))))) = Leaf l.symbol

-- operators group to the left: the operand x and those that follow, each with the operator before it
abbrev pub grouped : {A B : Type 0} → (A → BinOp) → (B → Phrase) → Phrase → List (A × B) → Phrase
grouped op phrase x [] = x
grouped op phrase x (y ∷ ys) = grouped op phrase (Binary (op y.0) x (phrase y.1)) ys

-- times or divided by
abbrev pub product_op : Derived (operators (Star ∷ Slash ∷ [])) → BinOp
product_op (inl v) = binop.Mul
product_op (inr v) = binop.Div

-- plus or minus
abbrev pub sum_op : Derived (operators (Plus ∷ Minus ∷ [])) → BinOp
sum_op (inl v) = binop.Add
sum_op (inr v) = binop.Sub

-- the operator of a comparison
abbrev pub comparison_op : Derived (operators comparisons) → BinOp
comparison_op (inl v) = binop.Eq
comparison_op (inr (inl v)) = binop.Ne
comparison_op (inr (inr (inl v))) = binop.Lt
comparison_op (inr (inr (inr v))) = binop.Le

-- the expression that a product is
abbrev pub product_phrase : Derived product → Phrase
product_phrase v = grouped product_op leaf_of (leaf_of v.0) v.1

-- the expression that a sum is
abbrev pub sum_phrase : Derived sum → Phrase
sum_phrase v = grouped sum_op product_phrase (product_phrase v.0) v.1

-- the expression that a comparison is
abbrev pub comparison_phrase : Derived comparison → Phrase
comparison_phrase (x, inl (op, y)) = Binary (comparison_op op) (sum_phrase x) (sum_phrase y)
comparison_phrase (x, inr v) = sum_phrase x

-- the expression that a conjunction is
abbrev pub conjunction_phrase : Derived conjunction → Phrase
conjunction_phrase v = grouped (λ op. binop.And) comparison_phrase (comparison_phrase v.0) v.1

-- the expression that a disjunction is
abbrev pub phrase : Derived disjunction → Phrase
phrase v = grouped (λ op. binop.Or) conjunction_phrase (conjunction_phrase v.0) v.1

-- ---- bodies

-- what one node has the process do
abbrev pub deed : Derived node → Deed
deed (inl (w, ((c, (m, (r, k))), (o, (s, p))))) = Joins c r s
deed (inr (inl (w, ((k, b), e)))) = Sends k b (phrase e)
deed (inr (inr (inl (w, (k, (a, x)))))) = Receives k a x
deed (inr (inr (inr (inl (w, (k, (b, l))))))) = Selects k b l
deed (inr (inr (inr (inr (inl (w, (k, (b, h)))))))) = Gives k b h
deed (inr (inr (inr (inr (inr (inl (w, (k, (a, h))))))))) = Gains k a h
deed (inr (inr (inr (inr (inr (inr (inl (w, (x, e))))))))) = Sets x (phrase e)
deed (inr (inr (inr (inr (inr (inr (inr (inl (w, e))))))))) = Shows (phrase e)
deed (inr (inr (inr (inr (inr (inr (inr (inr (w, ((x, f), (o, (a, (m, (b, p)))))))))))))) = Asks x f (phrase a) (phrase b)

-- the first name, and those after it
abbrev pub name_list : (n : ℕ) → Derived (names n) → List Lexeme
name_list n v = v.0 ∷ v.1

-- the sessions of a procedure or of a call
abbrev pub session_list : Derived sessions → List Lexeme
session_list (inl v) = name_list 8 v
session_list (inr v) = []

-- the arms of a branch
abbrev pub arms_of : List (Lexeme × (Body × Unit {0})) → Arms
arms_of [] = NoArms
arms_of (x ∷ xs) = Arm x.0 x.1.0 (arms_of xs)

-- the body that the last node of a body is
abbrev pub last_node : (p : ℕ) → Derived (tail p) → Body
last_node p (inl (w, ((k, a), (o, (x, (xs, c)))))) = Offers k a (arms_of (x ∷ xs))
last_node p (inr (inl (w, (e, ((x, m), (v, (y, k))))))) = Tests (phrase e) x y
last_node p (inr (inr (inl (w, ((f, x), (o, (ss, c))))))) = Calls w f x (session_list ss)
last_node p (inr (inr (inr w))) = Ends

-- the body that lines of nodes are
abbrev pub body_of : (p : ℕ) → Derived (lines_of p) → Body
body_of p (inl (n, rest)) = Does (deed n) rest
body_of p (inr t) = last_node (p - 1) t

-- ---- units

-- the service roles of a channel
abbrev pub role_list : (n : ℕ) → Derived (served_of n) → List Lexeme
role_list n (x, inl xs) = x ∷ xs
role_list n (x, inr v) = x ∷ []

-- the active roles and the service roles of a channel
abbrev pub role_lists : (n : ℕ) → Derived (roles_of n) → Roles
role_lists n (x, inl rs) = record { active = x ∷ rs.active; serve = rs.serve }
role_lists n (x, inr (inl ys)) = record { active = x ∷ []; serve = ys }
role_lists n (x, inr (inr v)) = record { active = x ∷ []; serve = [] }

-- the units of a file
abbrev pub units_from : (q : ℕ) → Derived (units_of q) → Units
units_from q (inl (w, (n, (rs, us)))) = record us { channels = record { name = n; roles = rs } ∷ us.channels }
units_from q (inr (inl (w, (((f, x), (o, (ss, c))), (b, us))))) = record us { procedures = record { name = f; param = x; sessions = session_list ss; body = b } ∷ us.procedures }
units_from q (inr (inr (inl (w, ((c, (o, (r, k))), (b, us)))))) = record us { services = record { channel = c; role = r; body = b } ∷ us.services }
units_from q (inr (inr (inr (inl (w, (n, (b, us))))))) = record us { processes = record { name = n; body = b } ∷ us.processes }
units_from q (inr (inr (inr (inr l)))) = no_units

-- what is made of what a nonterminal derives
abbrev pub make : (n : Nonterminal) → Derived (rule_of n) → Meaning n
make (units q) v = units_from q v
make (lines p) v = body_of p v
make (roles n) v = role_lists n v
make (served n) v = role_list n v
make operand v = leaf_of v
make parens v = phrase v.0

-- The rules of endpoint files
abbrev pub rules : Rules Nonterminal
rules = record { V = Meaning; rule = rule_of; make = make; wrong = E1 }

-- the units of a file
abbrev pub written_units : Derived endpoints → Units
written_units v = v.1.1
