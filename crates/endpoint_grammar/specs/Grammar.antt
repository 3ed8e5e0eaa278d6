-- The grammar of endpoint files (this project's own). A limit is exceeded at the first token of what is too many, by E4; a token
-- that can't be there is E1.
use Rattle.std.specs.Prelude.{◌-◌, ℕ, List, [], ◌∷◌, Some, None, codes}
use Rattle.chor_base.specs.declared.rule.Rule.TheVariants.{E4}
use Rattle.chor_lexer.specs.declared.mark.Mark.{Mark}
use Rattle.chor_lexer.specs.declared.mark.Mark.TheVariants.{OpenBrace, CloseBrace, OpenParen, CloseParen, OpenBracket, CloseBracket, Comma, Semicolon, Bar, Plus, Minus, Star, Slash, Equal, NotEqual, Less, LessEqual, And, Or, Not}
use Rattle.grammar.specs.Classes.{a_mark, a_word, a_kept_word, a_name, a_number, a_text, the_end, exactly}
use Rattle.grammar.specs.Grammars.{Grammar, one, seq, alt, many, within, short, after, row, choice, optional, listed}

-- What may come after some token: the units of a file of which so many may be processes; what is left of a body whose path has room
-- for so many nodes; what is left of both lists of a channel's roles, or of the second one, where so many may come; the operand of
-- an operator of one operand; what follows an opening parenthesis
pub data Nonterminal : Type 0 where
  units : ℕ → Nonterminal
  lines : ℕ → Nonterminal
  roles : ℕ → Nonterminal
  served : ℕ → Nonterminal
  operand : Nonterminal
  parens : Nonterminal

-- a part of the grammar of endpoint files
abbrev pub Part : Type 0
Part = Grammar Nonterminal

-- a mark
abbrev pub mark : Mark → Part
mark m = one (a_mark m)

-- this word
abbrev pub word : List ℕ → Part
word w = one (a_word w)

-- a name
abbrev pub NAME : Part
NAME = one a_name

-- NAME { "," NAME }, so many
abbrev pub names : ℕ → Part
names n = listed E4 (Some n) (a_mark Comma) NAME

-- NAME "[" NAME "]"
abbrev pub role_of_channel : Part
role_of_channel = row (NAME ∷ mark OpenBracket ∷ NAME ∷ mark CloseBracket ∷ [])

-- NAME NAME
abbrev pub two_names : Part
two_names = row (NAME ∷ NAME ∷ [])

-- NAME NAME NAME
abbrev pub three_names : Part
three_names = row (NAME ∷ NAME ∷ NAME ∷ [])

-- ---- expressions

-- un = "-" un | "!" un | "(" expr ")" | number | text | "true" | "false" | NAME
abbrev pub un : Part
un = choice (after (a_mark Minus) operand ∷ after (a_mark Not) operand ∷ after (a_mark OpenParen) parens ∷ one a_number ∷ one a_text ∷ word (codes "true") ∷ word (codes "false") ∷ NAME ∷ [])

-- one of these marks
abbrev pub operators : List Mark → Part
operators [] = choice []
operators (m ∷ []) = mark m
operators (m ∷ k ∷ ks) = alt (mark m) (operators (k ∷ ks))

-- operand { operator operand }
abbrev pub level : List Mark → Part → Part
level ms g = seq g (many E4 None (seq (operators ms) g))

-- un { ( "*" | "/" ) un }
abbrev pub product : Part
product = level (Star ∷ Slash ∷ []) un

-- product { ( "+" | "-" ) product }
abbrev pub sum : Part
sum = level (Plus ∷ Minus ∷ []) product

-- the marks of comparisons
abbrev pub comparisons : List Mark
comparisons = Equal ∷ NotEqual ∷ Less ∷ LessEqual ∷ []

-- sum [ ( "==" | "!=" | "<" | "<=" ) sum ]
abbrev pub comparison : Part
comparison = seq sum (optional (seq (operators comparisons) sum))

-- comparison { "&&" comparison }
abbrev pub conjunction : Part
conjunction = level (And ∷ []) comparison

-- conjunction { "||" conjunction }
abbrev pub disjunction : Part
disjunction = level (Or ∷ []) conjunction

-- expr = or, in at most 255 tokens
abbrev pub expr : Part
expr = short E4 (Some 255) disjunction

-- ---- bodies

-- body = "{" { node ";" } tail "}", with so many nodes on each path
abbrev pub body : ℕ → Part
body p = seq (after (a_mark OpenBrace) (lines p)) (mark CloseBrace)

-- a node after its first word
abbrev pub join : Part
join = row (role_of_channel ∷ mark OpenParen ∷ NAME ∷ mark CloseParen ∷ [])

-- NAME NAME expression
abbrev pub send : Part
send = row (two_names ∷ expr ∷ [])

-- NAME expression
abbrev pub set : Part
set = row (NAME ∷ expr ∷ [])

-- NAME NAME "(" expression "," expression ")"
abbrev pub host : Part
host = row (two_names ∷ mark OpenParen ∷ expr ∷ mark Comma ∷ expr ∷ mark CloseParen ∷ [])

-- a node, but for the last one of a body: its word and its parts
abbrev pub node : Part
node = choice (
    seq (word (codes "join")) join
    ∷ seq (word (codes "send")) send
    ∷ seq (word (codes "recv")) three_names
    ∷ seq (word (codes "pick")) three_names
    ∷ seq (word (codes "give")) three_names
    ∷ seq (word (codes "gain")) three_names
    ∷ seq (word (codes "set")) set
    ∷ seq (word (codes "show")) expr
    ∷ seq (word (codes "host")) host
    ∷ [])

-- an arm of a branch
abbrev pub arm : ℕ → Part
arm p = row (NAME ∷ body p ∷ [])

-- a tail after its first word
abbrev pub branch : ℕ → Part
branch p = row (two_names ∷ mark OpenBrace ∷ arm p ∷ many E4 None (arm p) ∷ mark CloseBrace ∷ [])

-- expression body "else" body
abbrev pub conditional : ℕ → Part
conditional p = row (expr ∷ body p ∷ word (codes "else") ∷ body p ∷ [])

-- [ names ], for sessions
abbrev pub sessions : Part
sessions = optional (names 8)

-- NAME NAME "(" [ names ] ")"
abbrev pub signature : Part
signature = row (two_names ∷ mark OpenParen ∷ sessions ∷ mark CloseParen ∷ [])

-- the last node of a body
abbrev pub tail : ℕ → Part
tail p = choice (
    seq (word (codes "branch")) (branch p)
    ∷ seq (word (codes "if")) (conditional p)
    ∷ seq (one (a_kept_word (codes "call"))) signature
    ∷ word (codes "end")
    ∷ [])

-- { node ";" } tail, where the path has room for p more, the tail with them
abbrev pub lines_of : ℕ → Part
lines_of p = alt (seq (within E4 (Some p) node) (after (a_mark Semicolon) (lines (p - 1)))) (within E4 (Some p) (tail (p - 1)))

-- ---- units

-- names [ "|" names ] ")", where so many may come in both lists together
abbrev pub roles_of : ℕ → Part
roles_of n = seq (within E4 (Some n) NAME) (choice (after (a_mark Comma) (roles (n - 1)) ∷ after (a_mark Bar) (served (n - 1)) ∷ mark CloseParen ∷ []))

-- names ")"
abbrev pub served_of : ℕ → Part
served_of n = seq (within E4 (Some n) NAME) (choice (after (a_mark Comma) (served (n - 1)) ∷ mark CloseParen ∷ []))

-- the body of a unit, and then the units after it
abbrev pub last_body : ℕ → Part
last_body q = row (after (a_mark OpenBrace) (lines 1024) ∷ after (a_mark CloseBrace) (units q) ∷ [])

-- channel = "channel" NAME "(" names [ "|" names ] ")" ";"
abbrev pub channel : ℕ → Part
channel q = row (NAME ∷ after (a_mark OpenParen) (roles 16) ∷ after (a_mark Semicolon) (units q) ∷ [])

-- procedure = "procedure" NAME NAME "(" [ names ] ")" body
abbrev pub procedure : ℕ → Part
procedure q = row (signature ∷ last_body q ∷ [])

-- service = "service" NAME "[" NAME "]" body
abbrev pub service : ℕ → Part
service q = row (role_of_channel ∷ last_body q ∷ [])

-- process = "process" NAME body
abbrev pub process : ℕ → Part
process q = row (within E4 (Some q) NAME ∷ last_body (q - 1) ∷ [])

-- { channel | procedure | service | process }, of which q may be processes, and then the end of the file
abbrev pub units_of : ℕ → Part
units_of q = choice (
    seq (word (codes "channel")) (channel q)
    ∷ seq (word (codes "procedure")) (procedure q)
    ∷ seq (word (codes "service")) (service q)
    ∷ seq (word (codes "process")) (process q)
    ∷ one the_end
    ∷ [])

-- endpoints = "endpoints" "1" ";" { channel | procedure | service | process }, and then the end of the file
abbrev pub endpoints : Part
endpoints = row (word (codes "endpoints") ∷ one (exactly 1) ∷ after (a_mark Semicolon) (units 64) ∷ [])

-- the production of each nonterminal
abbrev pub rule_of : Nonterminal → Part
rule_of (units q) = units_of q
rule_of (lines p) = lines_of p
rule_of (roles n) = roles_of n
rule_of (served n) = served_of n
rule_of operand = un
rule_of parens = seq disjunction (mark CloseParen)
