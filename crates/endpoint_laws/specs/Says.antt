-- Units of an endpoint file that say endpoint programs, name by name, wherever they stand (this project's own).
use Rattle.std.specs.Prelude.{◌≡◌, List, [], slice_index_or, unsigned_abs}
use Rattle.std.specs.List.{AllZip}
use Rattle.chor_base.specs.declared.names.NameId.{NameId}
use Rattle.chor_base.specs.declared.value.Value.TheVariants.{Int, Bool as Truth, Text, Part}
use Rattle.chor_base.specs.Expr.{Term, Constant, Variable, Unary, Binary}
use Rattle.chor_base.specs.Writing.{name_in, truth_text}
use Rattle.chor_lexer.specs.Lexeme.{Lexeme, word, number, text, last}
use Rattle.endpoint_code.specs.declared.endpoints.Channel.{Channel}
use Rattle.endpoint_code.specs.declared.endpoints.Procedure.{Procedure}
use Rattle.endpoint_code.specs.declared.endpoints.ServiceCode.{ServiceCode}
use Rattle.endpoint_code.specs.declared.endpoints.Process.{Process}
use Rattle.endpoint_code.specs.declared.endpoints.Endpoints.{Endpoints}
use Rattle.endpoint_code.specs.Trees.{Action, CodeTree, Arms}
use Rattle.endpoint_code.specs.Trees as tree
use Rattle.endpoint_grammar.specs.Written.{Phrase, Deed, Body, Units}
use Rattle.endpoint_grammar.specs.Written as unit
use Rattle.endpoint_laws.specs.Symbols.{ordered_at}

-- the token is the word of the name
abbrev pub Names : Endpoints → NameId → Lexeme → Type 0
Names e x l = l.symbol ≡ word (name_in e.names x)

abbrev pub AllName : Endpoints → List NameId → List Lexeme → Type 0
AllName e xs ls = AllZip (Names e) xs ls

-- an expression, as it is written; an endpoint isn't
abbrev pub phrase_of : Endpoints → Term → Phrase
phrase_of e (Constant (Int z)) = unit.Leaf (number (unsigned_abs z))
phrase_of e (Constant (Truth b)) = unit.Leaf (word (truth_text b))
phrase_of e (Constant (Text t)) = unit.Leaf (text (slice_index_or e.texts t []))
phrase_of e (Constant (Part s r)) = unit.Leaf last
phrase_of e (Variable x) = unit.Leaf (word (name_in e.names x))
phrase_of e (Unary op t) = unit.Unary op (phrase_of e t)
phrase_of e (Binary op t u) = unit.Binary op (phrase_of e t) (phrase_of e u)

-- what is written of an action
pub data DeedSays (e : Endpoints) : Action → Deed → Type 0 where
  joins : {c r k : NameId} {l m n : Lexeme} → Names e c l → Names e r m → Names e k n → DeedSays e (tree.Joins c r k) (unit.Joins l m n)
  sends : {k b : NameId} {t : Term} {l m : Lexeme} {q : Phrase} → Names e k l → Names e b m → q ≡ phrase_of e t → DeedSays e (tree.Sends k b t) (unit.Sends l m q)
  receives : {k a x : NameId} {l m n : Lexeme} → Names e k l → Names e a m → Names e x n → DeedSays e (tree.Receives k a x) (unit.Receives l m n)
  selects : {k b x : NameId} {l m n : Lexeme} → Names e k l → Names e b m → Names e x n → DeedSays e (tree.Selects k b x) (unit.Selects l m n)
  gives : {k b h : NameId} {l m n : Lexeme} → Names e k l → Names e b m → Names e h n → DeedSays e (tree.Gives k b h) (unit.Gives l m n)
  gains : {k a h : NameId} {l m n : Lexeme} → Names e k l → Names e a m → Names e h n → DeedSays e (tree.Gains k a h) (unit.Gains l m n)
  sets : {x : NameId} {t : Term} {l : Lexeme} {q : Phrase} → Names e x l → q ≡ phrase_of e t → DeedSays e (tree.Sets x t) (unit.Sets l q)
  shows : {t : Term} {q : Phrase} → q ≡ phrase_of e t → DeedSays e (tree.Shows t) (unit.Shows q)
  asks : {x f : NameId} {t u : Term} {l m : Lexeme} {q r : Phrase} → Names e x l → Names e f m → q ≡ phrase_of e t → r ≡ phrase_of e u
      → DeedSays e (tree.Asks x f t u) (unit.Asks l m q r)

-- what is written of code, arm by arm
mutual
  pub data BodySays (e : Endpoints) : CodeTree → Body → Type 0 where
    does : {a : Action} {d : Deed} {c : CodeTree} {b : Body} → DeedSays e a d → BodySays e c b → BodySays e (tree.Does a c) (unit.Does d b)
    offers : {k a : NameId} {arms : Arms} {l m : Lexeme} {bodies : unit.Arms} → Names e k l → Names e a m → ArmsSay e arms bodies
        → BodySays e (tree.Offers k a arms) (unit.Offers l m bodies)
    tests : {t : Term} {c d : CodeTree} {q : Phrase} {a b : Body} → q ≡ phrase_of e t → BodySays e c a → BodySays e d b → BodySays e (tree.Tests t c d) (unit.Tests q a b)
    calls : {f x : NameId} {ss : List NameId} {w l m : Lexeme} {ls : List Lexeme} → Names e f l → Names e x m → AllName e ss ls
        → BodySays e (tree.Calls f x ss) (unit.Calls w l m ls)
    ends : BodySays e tree.Ends unit.Ends

  pub data ArmsSay (e : Endpoints) : Arms → unit.Arms → Type 0 where
    no_arm : ArmsSay e tree.NoArms unit.NoArms
    one_arm : {x : NameId} {c : CodeTree} {arms : Arms} {l : Lexeme} {b : Body} {bodies : unit.Arms} → Names e x l → BodySays e c b → ArmsSay e arms bodies
        → ArmsSay e (tree.Arm x c arms) (unit.Arm l b bodies)

-- ---- units: the arms of each branch are in ascending order

pub record ChannelSays (e : Endpoints) (c : Channel) (u : unit.Channel) : Type 0 where
  pub name : Names e c.name u.name
  pub active : AllName e c.active u.roles.active
  pub serve : AllName e c.serve u.roles.serve

pub record ProcedureSays (e : Endpoints) (p : Procedure) (u : unit.Procedure) : Type 0 where
  pub name : Names e p.name u.name
  pub param : Names e p.param u.param
  pub sessions : AllName e p.sessions u.sessions
  pub body : BodySays e (ordered_at e p.body) u.body

pub record ServiceSays (e : Endpoints) (s : ServiceCode) (u : unit.Service) : Type 0 where
  pub channel : Names e s.channel u.channel
  pub role : Names e s.role u.role
  pub body : BodySays e (ordered_at e s.body) u.body

pub record ProcessSays (e : Endpoints) (p : Process) (u : unit.Process) : Type 0 where
  pub name : Names e p.name u.name
  pub body : BodySays e (ordered_at e p.body) u.body

pub record UnitsSay (e : Endpoints) (cs : List Channel) (ps : List Procedure) (ss : List ServiceCode) (qs : List Process) (u : Units) : Type 0 where
  pub channels : AllZip (ChannelSays e) cs u.channels
  pub procedures : AllZip (ProcedureSays e) ps u.procedures
  pub services : AllZip (ServiceSays e) ss u.services
  pub processes : AllZip (ProcessSays e) qs u.processes

-- The units say the programs, unit by unit
abbrev pub AreUnitsOf : Endpoints → Units → Type 0
AreUnitsOf e u = UnitsSay e e.channels e.procedures e.services e.processes u
