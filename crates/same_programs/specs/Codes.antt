-- Codes that are the same up to the numbers of names and texts and the order of arms (this project's own). N tells which names
-- are the same, and T which texts.
use Rattle.std.specs.Prelude.{ℕ, ℤ, Bool, List}
use Rattle.std.specs.List.{AllZip}
use Rattle.chor_base.specs.declared.names.NameId.{NameId}
use Rattle.chor_base.specs.declared.value.Value.{Value}
use Rattle.chor_base.specs.declared.value.Value.TheVariants.{Int, Bool as Truth, Text, Part}
use Rattle.chor_base.specs.declared.expr.UnOp.{UnOp}
use Rattle.chor_base.specs.declared.expr.BinOp.{BinOp}
use Rattle.chor_base.specs.Expr.{Term, Constant, Variable, Unary, Binary}
use Rattle.endpoint_code.specs.Labels.{ArmIsIn}
use Rattle.endpoint_code.specs.Trees.{Action, Joins, Sends, Receives, Selects, Gives, Gains, Sets, Shows, Asks, CodeTree, Does, Offers, Tests, Calls, Ends, Arms, NoArms, Arm}

-- the same number or truth value, the same text, or the same role of the same session
pub data SameValue (N : NameId → NameId → Type 0) (T : ℕ → ℕ → Type 0) : Value → Value → Type 0 where
  number : {z : ℤ} → SameValue N T (Int z) (Int z)
  truth : {b : Bool} → SameValue N T (Truth b) (Truth b)
  text : {t u : ℕ} → T t u → SameValue N T (Text t) (Text u)
  part : {s : ℕ} {r q : NameId} → N r q → SameValue N T (Part s r) (Part s q)

-- expressions that are written alike
pub data SameTerm (N : NameId → NameId → Type 0) (T : ℕ → ℕ → Type 0) : Term → Term → Type 0 where
  constant : {v w : Value} → SameValue N T v w → SameTerm N T (Constant v) (Constant w)
  variable : {x y : NameId} → N x y → SameTerm N T (Variable x) (Variable y)
  unary : {o : UnOp} {t u : Term} → SameTerm N T t u → SameTerm N T (Unary o t) (Unary o u)
  binary : {o : BinOp} {t u v w : Term} → SameTerm N T t u → SameTerm N T v w → SameTerm N T (Binary o t v) (Binary o u w)

-- actions that are written alike
pub data SameAction (N : NameId → NameId → Type 0) (T : ℕ → ℕ → Type 0) : Action → Action → Type 0 where
  joins : {c d r q k h : NameId} → N c d → N r q → N k h → SameAction N T (Joins c r k) (Joins d q h)
  sends : {k h b c : NameId} {t u : Term} → N k h → N b c → SameTerm N T t u → SameAction N T (Sends k b t) (Sends h c u)
  receives : {k h a b x y : NameId} → N k h → N a b → N x y → SameAction N T (Receives k a x) (Receives h b y)
  selects : {k h b c l m : NameId} → N k h → N b c → N l m → SameAction N T (Selects k b l) (Selects h c m)
  gives : {k h b c g f : NameId} → N k h → N b c → N g f → SameAction N T (Gives k b g) (Gives h c f)
  gains : {k h a b g f : NameId} → N k h → N a b → N g f → SameAction N T (Gains k a g) (Gains h b f)
  sets : {x y : NameId} {t u : Term} → N x y → SameTerm N T t u → SameAction N T (Sets x t) (Sets y u)
  shows : {t u : Term} → SameTerm N T t u → SameAction N T (Shows t) (Shows u)
  asks : {x y f g : NameId} {t u v w : Term} → N x y → N f g → SameTerm N T t u → SameTerm N T v w → SameAction N T (Asks x f t v) (Asks y g u w)

-- codes that are written alike, up to the order of arms: each arm of the one branch has its own arm of the other, with the
-- same label and the same code
mutual
  pub data SameCode (N : NameId → NameId → Type 0) (T : ℕ → ℕ → Type 0) : CodeTree → CodeTree → Type 0 where
    does : {a b : Action} {q p : CodeTree} → SameAction N T a b → SameCode N T q p → SameCode N T (Does a q) (Does b p)
    offers : {k h a b : NameId} {qs ps : Arms} → N k h → N a b → SameArms N T qs ps → SameCode N T (Offers k a qs) (Offers h b ps)
    tests : {t u : Term} {q q' p p' : CodeTree} → SameTerm N T t u → SameCode N T q p → SameCode N T q' p' → SameCode N T (Tests t q q') (Tests u p p')
    calls : {f g p q : NameId} {ss rs : List NameId} → N f g → N p q → AllZip N ss rs → SameCode N T (Calls f p ss) (Calls g q rs)
    ends : SameCode N T Ends Ends

  -- arms with the same labels and codes, in any order, but for the numbers of names and texts
  pub data SameArms (N : NameId → NameId → Type 0) (T : ℕ → ℕ → Type 0) : Arms → Arms → Type 0 where
    no_arm : SameArms N T NoArms NoArms
    one_arm : {l m : NameId} {q p : CodeTree} {qs ps others : Arms} → N l m → SameCode N T q p → ArmIsIn m p others ps → SameArms N T qs others
        → SameArms N T (Arm l q qs) ps
