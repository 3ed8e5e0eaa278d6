-- What the readers answer, in the words of the grammar.
use Rattle.std.specs.Prelude.{◌≡◌, ◌<◌, ℕ, List, [], ◌∷◌, length, drop}
use Rattle.chor_base.specs.Expr.{Term, term_of}
use Rattle.chor_lexer.specs.declared.mark.Mark.TheVariants.{Colon, Arrow, Dot}
use Rattle.chor_lexer.specs.declared.token.Kind.TheVariants as kind
use Rattle.chor_lexer.specs.declared.token.Token.{Token}
use Rattle.chor_tree.specs.declared.file.Named.{Named}
use Rattle.chor_tree.specs.declared.tree.Node.{Node}
use Rattle.chor_tree.specs.declared.tree.NodeId.{NodeId}
use Rattle.chor_tree.specs.declared.tree.Part.{Part as Role}
use Rattle.chor_tree.specs.declared.tree.Form.{Form}
use Rattle.chor_tree.specs.declared.tree.Form.TheVariants as form
use Rattle.chor_base.specs.declared.rule.Denied.{Denied}
use Rattle.source_grammar.specs.Symbols.{Part, Further, Nothing, Reads, Halts, Leads, As}
use Rattle.source_grammar.specs.Values.{After}
use Rattle.source_reader.specs.declared.input.Input.{Input}
use Rattle.source_reader.specs.declared.block.Line.{Line}
use Rattle.source_reader.specs.declared.statement.Statement.{Statement as Read}
use Rattle.source_reader.specs.declared.statement.Statement.TheVariants as read
use Rattle.chor_tree.specs.Source.{Statement, Starts, Sends, Selects, Gives, Sets, Asks, Shows, Block, Then, block_in, blocks_of}
use Rattle.source_grammar.specs.Growing.{Grows, Adds}
use Rattle.source_grammar.specs.Grammar.{MarkIs, WordIs, NameIs}
use Rattle.source_grammar.specs.Parts.{MarkPart, NamePart, PartPart}

-- the words by their numbers
abbrev pub names_of : Input → List (List ℕ)
names_of input = input.names.now

-- the tokens from a place on
abbrev pub tokens_from : Input → ℕ → List Token
tokens_from input at = drop at input.tokens.now.items

-- the next token is the end of the file
pub record Ends (ts : List Token) : Type 0 where
  pub token : Token
  pub rest : List Token
  pub parts : ts ≡ token ∷ rest
  pub last : token.kind ≡ kind.Last

-- ---- what is left of a production, where its front is known

-- after this word, where P holds from the word on
abbrev pub AfterWord : List (List ℕ) → List ℕ → List Token → (List Token → Type 0) → Type 0
AfterWord names w ts P = (t0 : List Token) → WordIs names w t0 ts → P t0

-- after NAME "->" NAME ":"
abbrev pub AfterColon : List (List ℕ) → Named → Named → List Token → (List Token → Type 0) → Type 0
AfterColon names a b ts P =
    (t0 t1 t2 t3 : List Token)
    → NameIs names t0 a t1 → MarkIs Arrow t1 t2 → NameIs names t2 b t3 → MarkIs Colon t3 ts → P t0

-- after role "." expr
abbrev pub ReceiverTail : Role → Term → Part Statement
ReceiverTail a e = After (MarkPart Arrow) (λ u. After PartPart (λ b. After (MarkPart Dot) (λ v. After NamePart (λ x. After (MarkPart Colon) (λ w. As NamePart (λ k. Sends a e b x.name k))))))

-- ---- by places

module _ {A : Type 0} (R : Part A) where
  -- the tokens from one place up to another are a part with this value
  abbrev pub ReadsTo : Further → Input → ℕ → A → ℕ → Type 0
  ReadsTo C input at x next = Reads R C (names_of input) (tokens_from input at) x (tokens_from input next)

  -- so are those from the word before the place on
  abbrev pub ReadsAfter : List ℕ → Input → ℕ → A → ℕ → Type 0
  ReadsAfter w input at x next = AfterWord (names_of input) w (tokens_from input at) (λ t0. Reads R Nothing (names_of input) t0 x (tokens_from input next))

  -- those from the word before the place on are refused
  abbrev pub HaltsAfter : List ℕ → Input → ℕ → Denied → Type 0
  HaltsAfter w input at d = AfterWord (names_of input) w (tokens_from input at) (λ t0. Halts R Nothing (names_of input) t0 d)

  -- those from NAME "->" NAME ":" before the place on are a part with this value
  abbrev pub ReadsAfterColon : Named → Named → Input → ℕ → A → ℕ → Type 0
  ReadsAfterColon a b input at x next = AfterColon (names_of input) a b (tokens_from input at) (λ t0. Reads R Nothing (names_of input) t0 x (tokens_from input next))

  -- those from NAME "->" NAME ":" before the place on are refused
  abbrev pub HaltsAfterColon : Named → Named → Input → ℕ → Denied → Type 0
  HaltsAfterColon a b input at d = AfterColon (names_of input) a b (tokens_from input at) (λ t0. Halts R Nothing (names_of input) t0 d)

  -- at the second place the second part is what is left of the first one, and f makes of its value that of the whole
  abbrev pub LeadsTo : {B : Type 0} → Input → ℕ → Part B → ℕ → (B → A) → Type 0
  LeadsTo input at S next f = Leads R Nothing (names_of input) (tokens_from input at) S Nothing (tokens_from input next) f

-- ---- statements and nodes

-- the statement that was read
abbrev pub statement_of : Read → Statement
statement_of (read.Start c k active serve) = Starts c k active serve
statement_of (read.Value a e b x k) = Sends a (term_of e) b x k
statement_of (read.Label a b k l) = Selects a b k l
statement_of (read.Give a b k h) = Gives a b k h
statement_of (read.Set p x e) = Sets p x (term_of e)
statement_of (read.Host p x f a b) = Asks p x f (term_of a) (term_of b)
statement_of (read.Show p e) = Shows p (term_of e)

-- its form where a node follows it
abbrev pub form_of : Read → NodeId → Form
form_of (read.Start c k active serve) next = form.Start c k active serve next
form_of (read.Value a e b x k) next = form.Value a e b x k next
form_of (read.Label a b k l) next = form.Label a b k l next
form_of (read.Give a b k h) next = form.Give a b k h next
form_of (read.Set p x e) next = form.Set p x e next
form_of (read.Host p x f a b) next = form.Host p x f a b next
form_of (read.Show p e) next = form.Show p e next

-- a block that goes on after these lines
abbrev pub with_lines : List Line → Block → Block
with_lines [] b = b
with_lines (l ∷ ls) b = Then l.place (statement_of l.statement) (with_lines ls b)

-- a part was read, its nodes were added, and the block begins with the last one
pub record Made (R : Part Block) (input : Input) (at : ℕ) (old new : List Node) (x : NodeId × ℕ) : Type 0 where
  pub reads : ReadsTo R Nothing input at (block_in (blocks_of new) x.0) x.1
  pub there : x.0.0 < length new
  pub grows : Grows old new
  pub adds : Adds old new (x.0 ∷ [])
