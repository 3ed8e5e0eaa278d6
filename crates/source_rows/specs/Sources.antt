-- The grammar of sources (this project's own). A token that can't be there is P1. A limit is exceeded at the first token of what is
-- too many: by P2 at the brace of a block and at a token of an expression, else by P3. Where several rows of a statement or a step
-- begin alike, they are taken together (Rows has them one by one).
use Rattle.std.specs.Prelude.{◌-◌, ℕ, List, [], ◌∷◌, Some, None, codes}
use Rattle.chor_base.specs.declared.rule.Rule.TheVariants.{P2, P3}
use Rattle.chor_lexer.specs.declared.mark.Mark.{Mark}
use Rattle.chor_lexer.specs.declared.mark.Mark.TheVariants.{OpenBrace, CloseBrace, OpenParen, CloseParen, OpenBracket, CloseBracket, Comma, Semicolon, Colon, Dot, Assign, Becomes, Arrow, Bar, At, Plus, Minus, Star, Slash, Equal, NotEqual, Less, LessEqual, And, Or, Not}
use Rattle.grammar.specs.Classes.{a_mark, a_word, a_kept_word, a_name, a_number, a_text, the_end, exactly, a_number_in, a_number_out}
use Rattle.grammar.specs.Grammars.{Grammar, Room, one, seq, alt, many, within, short, after, row, choice, optional, listed}

-- What may come after some token: what is left of a block in which so many more blocks may be opened and whose path has room for so many
-- statements; what is left of both lists of a service's roles, or of the second one, where so many may come; the operand of an
-- operator of one operand; what follows an opening parenthesis
pub data Nonterminal : Type 0 where
  lines : (blocks path : ℕ) → Nonterminal
  roles : ℕ → Nonterminal
  served : ℕ → Nonterminal
  operand : Nonterminal
  parens : Nonterminal

-- a grammar of parts of sources
abbrev pub Source : Type 0
Source = Grammar Nonterminal

-- this mark
abbrev pub mark : Mark → Source
mark m = one (a_mark m)

-- this word
abbrev pub word : List ℕ → Source
word w = one (a_word w)

-- a word that is kept, since a block has the place where it stands
abbrev pub kept : List ℕ → Source
kept w = one (a_kept_word w)

-- a word that may be a name
abbrev pub NAME : Source
NAME = one a_name

-- item { "," item }, so many
abbrev pub commas : Room → Source → Source
commas n g = listed P3 n (a_mark Comma) g

-- NAME { "," NAME }, so many
abbrev pub names : Room → Source
names n = commas n NAME

-- ---- expressions

-- un = "-" un | "!" un | "(" expr ")" | number | text | "true" | "false" | NAME
abbrev pub un : Source
un = choice (after (a_mark Minus) operand ∷ after (a_mark Not) operand ∷ after (a_mark OpenParen) parens ∷ one a_number ∷ one a_text ∷ word (codes "true") ∷ word (codes "false") ∷ NAME ∷ [])

-- one of these marks
abbrev pub operators : List Mark → Source
operators [] = choice []
operators (m ∷ []) = mark m
operators (m ∷ k ∷ ks) = alt (mark m) (operators (k ∷ ks))

-- operand { operator operand }
abbrev pub level : List Mark → Source → Source
level ms g = seq g (many P2 None (seq (operators ms) g))

-- product = un { ( "*" | "/" ) un }
abbrev pub product : Source
product = level (Star ∷ Slash ∷ []) un

-- sum = product { ( "+" | "-" ) product }
abbrev pub sum : Source
sum = level (Plus ∷ Minus ∷ []) product

-- "==" | "!=" | "<" | "<="
abbrev pub comparisons : List Mark
comparisons = Equal ∷ NotEqual ∷ Less ∷ LessEqual ∷ []

-- comparison = sum [ ( "==" | "!=" | "<" | "<=" ) sum ]
abbrev pub comparison : Source
comparison = seq sum (optional (seq (operators comparisons) sum))

-- and = comparison { "&&" comparison }
abbrev pub conjunction : Source
conjunction = level (And ∷ []) comparison

-- or = and { "||" and }
abbrev pub disjunction : Source
disjunction = level (Or ∷ []) conjunction

-- expr = or, in at most 255 tokens
abbrev pub expr : Source
expr = short P2 (Some 255) disjunction

-- ---- protocols and services

-- sort = "int" | "bool" | "text"
abbrev pub sort : Source
sort = choice (word (codes "int") ∷ word (codes "bool") ∷ word (codes "text") ∷ [])

-- payload = sort | NAME "." NAME "@" NAME
abbrev pub payload : Source
payload = alt sort (row (NAME ∷ mark Dot ∷ NAME ∷ mark At ∷ NAME ∷ []))

-- arm = NAME "then" NAME
abbrev pub arm : Source
arm = row (NAME ∷ word (codes "then") ∷ NAME ∷ [])

-- "{" arm { "," arm } "}"
abbrev pub arms : Source
arms = row (mark OpenBrace ∷ commas (Some 64) arm ∷ mark CloseBrace ∷ [])

-- step = "end" | NAME "->" NAME ":" payload "then" NAME | NAME "->" NAME "{" arm { "," arm } "}"
abbrev pub step : Source
step = alt (word (codes "end")) (row (NAME ∷ mark Arrow ∷ NAME ∷ alt (row (mark Colon ∷ payload ∷ word (codes "then") ∷ NAME ∷ [])) arms ∷ []))

-- state = NAME "=" step ";"
abbrev pub state : Source
state = row (NAME ∷ mark Assign ∷ step ∷ mark Semicolon ∷ [])

-- protocol = "protocol" NAME "(" names ")" "{" state { state } "}"
abbrev pub protocol : Source
protocol = row (word (codes "protocol") ∷ NAME ∷ mark OpenParen ∷ names (Some 16) ∷ mark CloseParen ∷ mark OpenBrace ∷ state ∷ many P3 (Some 255) state ∷ mark CloseBrace ∷ [])

-- names [ "|" names ] ")", where so many may come in both lists together
abbrev pub roles_of : ℕ → Source
roles_of n = seq (within P3 (Some n) NAME) (choice (after (a_mark Comma) (roles (n - 1)) ∷ after (a_mark Bar) (served (n - 1)) ∷ mark CloseParen ∷ []))

-- names ")"
abbrev pub served_of : ℕ → Source
served_of n = seq (within P3 (Some n) NAME) (choice (after (a_mark Comma) (served (n - 1)) ∷ mark CloseParen ∷ []))

-- service = "service" NAME ":" NAME "(" names [ "|" names ] ")" ";"
abbrev pub service : Source
service = row (word (codes "service") ∷ NAME ∷ mark Colon ∷ NAME ∷ after (a_mark OpenParen) (roles 16) ∷ mark Semicolon ∷ [])

-- ---- statements

-- part = NAME "[" NAME "]"
abbrev pub part : Source
part = row (NAME ∷ mark OpenBracket ∷ NAME ∷ mark CloseBracket ∷ [])

-- the rows of a communication after its first part
-- part "." expr "->" part "." NAME ":" NAME
abbrev pub value : Source
value = row (mark Dot ∷ expr ∷ mark Arrow ∷ part ∷ mark Dot ∷ NAME ∷ mark Colon ∷ NAME ∷ [])

-- part "->" part ":" NAME "." NAME | part "->" part ":" NAME "(" part ")"
abbrev pub to_one : Source
to_one = row (mark Colon ∷ NAME ∷ alt (row (mark Dot ∷ NAME ∷ [])) (row (mark OpenParen ∷ part ∷ mark CloseParen ∷ [])) ∷ [])

-- the rest of a communication after its first name
abbrev pub sending : Source
sending = row (mark OpenBracket ∷ NAME ∷ mark CloseBracket ∷ alt value (row (mark Arrow ∷ part ∷ to_one ∷ [])) ∷ [])

-- NAME "." NAME ":=" expr | NAME "." NAME ":=" "host" NAME "(" expr "," expr ")", after the first name
abbrev pub setting : Source
setting = row (mark Dot ∷ NAME ∷ mark Becomes ∷ alt (row (word (codes "host") ∷ NAME ∷ mark OpenParen ∷ expr ∷ mark Comma ∷ expr ∷ mark CloseParen ∷ [])) expr ∷ [])

-- "start" NAME "(" NAME ")" ":" part { "," part } [ "new" part { "," part } ]
abbrev pub start : Source
start = row (kept (codes "start") ∷ NAME ∷ mark OpenParen ∷ NAME ∷ mark CloseParen ∷ mark Colon ∷ commas None part ∷ optional (seq (word (codes "new")) (commas None part)) ∷ [])

-- NAME "show" expr, after the name
abbrev pub showing : Source
showing = seq (word (codes "show")) expr

-- a statement after its first name
abbrev pub choice_of : Source
choice_of = choice (sending ∷ setting ∷ showing ∷ [])

-- a statement, all its rows
abbrev pub statement : Source
statement = alt start (seq NAME choice_of)

-- block = "{" { stmt ";" } tail "}", where so many blocks may be opened in each other, on a path with room for so many statements
abbrev pub block : ℕ → ℕ → Source
block b p = seq (within P2 (Some b) (after (a_mark OpenBrace) (lines (b - 1) p))) (mark CloseBrace)

-- [ names [ ";" names ] ]
abbrev pub passed : Source
passed = optional (seq (names None) (optional (seq (mark Semicolon) (names None))))

-- tail = "end" | "call" NAME "(" [ names [ ";" names ] ] ")" | "if" NAME "." expr block "else" block
abbrev pub tail : ℕ → ℕ → Source
tail b p = choice (
    kept (codes "end")
    ∷ row (kept (codes "call") ∷ NAME ∷ mark OpenParen ∷ passed ∷ mark CloseParen ∷ [])
    ∷ row (kept (codes "if") ∷ NAME ∷ mark Dot ∷ expr ∷ block b p ∷ word (codes "else") ∷ block b p ∷ [])
    ∷ [])

-- { stmt ";" } tail, where the path has room for p more, the tail with them
abbrev pub lines_of : ℕ → ℕ → Source
lines_of b p = alt (seq (within P3 (Some p) statement) (after (a_mark Semicolon) (lines b (p - 1)))) (within P3 (Some p) (tail b (p - 1)))

-- ---- files

-- NAME ":" sort
abbrev pub variable : Source
variable = row (NAME ∷ mark Colon ∷ sort ∷ [])

-- pparam = NAME [ "(" NAME ":" sort { "," NAME ":" sort } ")" ]
abbrev pub parameter : Source
parameter = seq NAME (optional (row (mark OpenParen ∷ commas (Some 16) variable ∷ mark CloseParen ∷ [])))

-- sparam = NAME ":" NAME "." NAME "{" NAME "=" NAME { "," NAME "=" NAME } "}"
abbrev pub session : Source
session = row (NAME ∷ mark Colon ∷ NAME ∷ mark Dot ∷ NAME ∷ mark OpenBrace ∷ commas None (row (NAME ∷ mark Assign ∷ NAME ∷ [])) ∷ mark CloseBrace ∷ [])

-- [ pparam { "," pparam } [ ";" sparam { "," sparam } ] ]
abbrev pub parameters : Source
parameters = optional (seq (commas (Some 8) parameter) (optional (seq (mark Semicolon) (commas (Some 8) session))))

-- proc = "proc" NAME "(" .. ")" block
abbrev pub procedure : Source
procedure = row (word (codes "proc") ∷ NAME ∷ mark OpenParen ∷ parameters ∷ mark CloseParen ∷ block 64 1024 ∷ [])

-- [ names ]
abbrev pub processes : Source
processes = optional (names (Some 64))

-- main = "main" "(" [ names ] ")" block
abbrev pub main : Source
main = row (word (codes "main") ∷ mark OpenParen ∷ processes ∷ mark CloseParen ∷ block 64 1024 ∷ [])

-- protocol | service | proc
abbrev pub item : Source
item = choice (protocol ∷ service ∷ procedure ∷ [])

-- { protocol | service | proc } main, and then the end of the file
abbrev pub items : Source
items = row (many P3 None item ∷ main ∷ one the_end ∷ [])

-- a number from 1 to 1,000,000; another one is one too many
abbrev pub capacity : Source
capacity = alt (one (a_number_in 1 999999)) (within P3 (Some 0) (one (a_number_out 1 999999)))

-- [ "capacity" NUMBER ";" ]
abbrev pub declared : Source
declared = optional (row (kept (codes "capacity") ∷ capacity ∷ mark Semicolon ∷ []))

-- header = "chor" "2" ";" [ "capacity" NUMBER ";" ]
abbrev pub header : Source
header = row (word (codes "chor") ∷ one (exactly 2) ∷ mark Semicolon ∷ declared ∷ [])

-- file = [ header ] { protocol | service | proc } main
abbrev pub file : Source
file = seq (optional header) items

-- the rule of each nonterminal
abbrev pub rule_of : Nonterminal → Source
rule_of (lines b p) = lines_of b p
rule_of (roles n) = roles_of n
rule_of (served n) = served_of n
rule_of operand = un
rule_of parens = seq disjunction (mark CloseParen)
