-- An endpoint file as it is written: its units, with each name and where it stands (this project's own).
use Rattle.std.specs.Prelude.{List, []}
use Rattle.chor_base.specs.declared.expr.UnOp.{UnOp}
use Rattle.chor_base.specs.declared.expr.BinOp.{BinOp}
use Rattle.chor_lexer.specs.Lexeme.{Symbol, Lexeme}

-- an expression: a number, a text, a truth value or a name, or an operator with its operands
pub data Phrase : Type 0 where
  Leaf : (s : Symbol) → Phrase
  Unary : (op : UnOp) (operand : Phrase) → Phrase
  Binary : (op : BinOp) (left right : Phrase) → Phrase

-- what a process does before it goes on in one way
pub data Deed : Type 0 where
  Joins : (channel role session : Lexeme) → Deed
  Sends : (session to : Lexeme) (e : Phrase) → Deed
  Receives : (session from x : Lexeme) → Deed
  Selects : (session to label : Lexeme) → Deed
  Gives : (session to given : Lexeme) → Deed
  Gains : (session from gained : Lexeme) → Deed
  Sets : (x : Lexeme) (e : Phrase) → Deed
  Shows : (e : Phrase) → Deed
  Asks : (x f : Lexeme) (left right : Phrase) → Deed

-- a body: a deed and the rest; a branch with its arms; a conditional; a call, with the word `call`; the end
mutual
  pub data Body : Type 0 where
    Does : (deed : Deed) (rest : Body) → Body
    Offers : (session from : Lexeme) (arms : Arms) → Body
    Tests : (e : Phrase) (first second : Body) → Body
    Calls : (call procedure param : Lexeme) (sessions : List Lexeme) → Body
    Ends : Body

  -- the labels that a branch offers, each with the body that follows, in the order in which they are written
  pub data Arms : Type 0 where
    NoArms : Arms
    Arm : (label : Lexeme) (body : Body) (rest : Arms) → Arms

-- the active roles of a channel, and its service roles
pub record Roles : Type 0 where
  pub active : List Lexeme
  pub serve : List Lexeme

-- a channel as its tokens write it: its name and its roles
pub record Channel : Type 0 where
  pub name : Lexeme
  pub roles : Roles

-- a procedure as its tokens write it
pub record Procedure : Type 0 where
  pub name : Lexeme
  pub param : Lexeme
  pub sessions : List Lexeme
  pub body : Body

-- the code of a service role as its tokens write it
pub record Service : Type 0 where
  pub channel : Lexeme
  pub role : Lexeme
  pub body : Body

-- a process as its tokens write it
pub record Process : Type 0 where
  pub name : Lexeme
  pub body : Body

-- the units of a file, by their kinds, each in the order in which they are written
pub record Units : Type 0 where
  pub channels : List Channel
  pub procedures : List Procedure
  pub services : List Service
  pub processes : List Process

-- a file without units
abbrev pub no_units : Units
no_units = record { channels = []; procedures = []; services = []; processes = [] }
