-- Steps and statements row by row, as they are printed (this project's own). Here the next token doesn't tell which row comes.
use Rattle.std.specs.Prelude.{◌≡◌, Bool, true, List, [], ◌∷◌, Some, codes}
use Rattle.std.proofs.Common.{inl, inr}
use Rattle.chor_base.specs.declared.rule.Place.{Place}
use Rattle.chor_base.specs.declared.rule.Rule.{Rule}
use Rattle.chor_lexer.specs.declared.mark.Mark.TheVariants.{OpenBrace, CloseBrace, OpenParen, CloseParen, Comma, Colon, Dot, Becomes, Arrow}
use Rattle.chor_lexer.specs.Lexeme.{Lexeme}
use Rattle.chor_tree.specs.Source.{Statement, Sends, Selects, Gives, Sets, Asks, Shows}
use Rattle.chor_tree.specs.declared.protocol.ProtoStep.{ProtoStep}
use Rattle.chor_tree.specs.declared.protocol.ProtoStep.TheVariants as step
use Rattle.grammar.specs.Grammars.{Allowed, Derives, row, choice}
use Rattle.source_rows.specs.Sources.{Source, mark, word, NAME, commas, expr, part, start, payload, arm}
use Rattle.source_rows.specs.Values.{Tables, Derived, name, id_of, listing, term, role_of, start_of, payload_of, arm_of, rules}

-- statement = "start" NAME "(" NAME ")" ":" part { "," part } [ "new" part { "," part } ]
--           | part "." expr "->" part "." NAME ":" NAME
--           | part "->" part ":" NAME "." NAME
--           | part "->" part ":" NAME "(" part ")"
--           | NAME "." NAME ":=" expr
--           | NAME "." NAME ":=" "host" NAME "(" expr "," expr ")"
--           | NAME "show" expr
abbrev pub statement_rows : Source
statement_rows = choice (
    start
    ∷ row (part ∷ mark Dot ∷ expr ∷ mark Arrow ∷ part ∷ mark Dot ∷ NAME ∷ mark Colon ∷ NAME ∷ [])
    ∷ row (part ∷ mark Arrow ∷ part ∷ mark Colon ∷ NAME ∷ mark Dot ∷ NAME ∷ [])
    ∷ row (part ∷ mark Arrow ∷ part ∷ mark Colon ∷ NAME ∷ mark OpenParen ∷ part ∷ mark CloseParen ∷ [])
    ∷ row (NAME ∷ mark Dot ∷ NAME ∷ mark Becomes ∷ expr ∷ [])
    ∷ row (NAME ∷ mark Dot ∷ NAME ∷ mark Becomes ∷ word (codes "host") ∷ NAME ∷ mark OpenParen ∷ expr ∷ mark Comma ∷ expr ∷ mark CloseParen ∷ [])
    ∷ row (NAME ∷ word (codes "show") ∷ expr ∷ [])
    ∷ [])

-- the statement that a row derives
abbrev pub row_statement : Tables → Derived statement_rows → Statement
row_statement i (inl x) = start_of i x
row_statement i (inr (inl (a, (d, (e, (w, (b, (f, (x, (c, k)))))))))) = Sends (role_of i a) (term i e) (role_of i b) (id_of i x) (name i k)
row_statement i (inr (inr (inl (a, (w, (b, (c, (k, (d, l))))))))) = Selects (role_of i a) (role_of i b) (name i k) (id_of i l)
row_statement i (inr (inr (inr (inl (a, (w, (b, (c, (k, (o, (h, e))))))))))) = Gives (role_of i a) (role_of i b) (name i k) (role_of i h)
row_statement i (inr (inr (inr (inr (inl (p, (d, (x, (b, e))))))))) = Sets (name i p) (id_of i x) (term i e)
row_statement i (inr (inr (inr (inr (inr (inl (p, (d, (x, (b, (w, (f, (o, (l, (m, (r, c)))))))))))))))) = Asks (name i p) (id_of i x) (name i f) (term i l) (term i r)
row_statement i (inr (inr (inr (inr (inr (inr (p, (w, e)))))))) = Shows (name i p) (term i e)

-- step = "end" | NAME "->" NAME ":" payload "then" NAME | NAME "->" NAME "{" arm { "," arm } "}"
abbrev pub step_rows : Source
step_rows = choice (
    word (codes "end")
    ∷ row (NAME ∷ mark Arrow ∷ NAME ∷ mark Colon ∷ payload ∷ word (codes "then") ∷ NAME ∷ [])
    ∷ row (NAME ∷ mark Arrow ∷ NAME ∷ mark OpenBrace ∷ commas (Some 64) arm ∷ mark CloseBrace ∷ [])
    ∷ [])

-- the step that a row derives
abbrev pub row_step : Tables → Derived step_rows → ProtoStep
row_step i (inl w) = step.End
row_step i (inr (inl (a, (w, (b, (c, (p, (t, n)))))))) = step.Value (name i a) (name i b) (payload_of i p) (name i n)
row_step i (inr (inr (a, (w, (b, (o, (xs, c))))))) = step.Choice (name i a) (name i b) (listing (arm_of i) xs)

-- the tokens derive something of which f makes s
pub record Says {A : Type 0} (i : Tables) (Q : Allowed) (g : Source) (f : Derived g → A) (ts : List Lexeme) (s : A) (rest : List Lexeme) : Type 0 where
  pub value : Derived g
  pub is : Derives (rules i) Q g ts value rest
  pub same : f value ≡ s

-- limits may be exceeded where this says so
abbrev pub allowing : (Rule → Place → Bool) → Allowed
allowing may e p = may e p ≡ true

-- what tokens say by the first grammar they say by the second, wherever limits may be exceeded
abbrev pub AlsoSays : {A : Type 0} (i : Tables) (g : Source) → (Derived g → A) → (h : Source) → (Derived h → A) → Type 0
AlsoSays {A} i g f h k =
    (may : Rule → Place → Bool) (ts rest : List Lexeme) (s : A) → Says i (allowing may) g f ts s rest → Says i (allowing may) h k ts s rest
