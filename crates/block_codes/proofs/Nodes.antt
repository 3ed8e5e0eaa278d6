-- How each form goes on.
use Rattle.std.proofs.Common.{◌≡◌, refl, sym, subst, List}
use Rattle.chor_base.specs.declared.names.NameId.{NameId}
use Rattle.chor_base.specs.declared.expr.Expr.{Expr}
use Rattle.chor_base.specs.Expr.{term_of}
use Rattle.chor_tree.specs.declared.file.Named.{Named}
use Rattle.chor_tree.specs.declared.tree.Part.{Part}
use Rattle.chor_tree.specs.declared.tree.NodeId.{NodeId}
use Rattle.chor_tree.specs.declared.tree.Form.{Form}
use Rattle.chor_tree.specs.declared.tree.Form.TheVariants.{Start, Value, Label, Give, Set, Host, Show, Call, End}
use Rattle.chor_tree.specs.Source.{Starts, Sends, Selects, Gives, Sets, Asks, Shows}
use Rattle.projection.specs.Codes.{calls, ends}
use Rattle.block_codes.specs.Nodes.{IsStatement, IsLast}

pub statement_as : {g h : Form} {next : NodeId} → g ≡ h → IsStatement h next → IsStatement g next
statement_as {next = next} e s = subst (λ (f : Form). IsStatement f next) (sym e) s

pub last_as : {g h : Form} → g ≡ h → IsLast h → IsLast g
last_as e l = subst IsLast (sym e) l

pub start_is : (c k : Named) (active serve : List Part) (next : NodeId) → IsStatement (Start c k active serve next) next
start_is c k active serve next = record { statement = Starts c k active serve; block = λ bs p. refl; made = refl; part = λ r. refl; child = refl }

pub value_is : (from : Part) (e : Expr) (to : Part) (x : NameId) (k : Named) (next : NodeId) → IsStatement (Value from e to x k next) next
value_is from e to x k next = record { statement = Sends from (term_of e) to x k; block = λ bs p. refl; made = refl; part = λ r. refl; child = refl }

pub label_is : (from to : Part) (k : Named) (l : NameId) (next : NodeId) → IsStatement (Label from to k l next) next
label_is from to k l next = record { statement = Selects from to k l; block = λ bs p. refl; made = refl; part = λ r. refl; child = refl }

pub give_is : (from to : Part) (k : Named) (given : Part) (next : NodeId) → IsStatement (Give from to k given next) next
give_is from to k given next = record { statement = Gives from to k given; block = λ bs p. refl; made = refl; part = λ r. refl; child = refl }

pub set_is : (p : Named) (x : NameId) (e : Expr) (next : NodeId) → IsStatement (Set p x e next) next
set_is p x e next = record { statement = Sets p x (term_of e); block = λ bs q. refl; made = refl; part = λ r. refl; child = refl }

pub host_is : (p : Named) (x : NameId) (f : Named) (a b : Expr) (next : NodeId) → IsStatement (Host p x f a b next) next
host_is p x f a b next = record { statement = Asks p x f (term_of a) (term_of b); block = λ bs q. refl; made = refl; part = λ r. refl; child = refl }

pub show_is : (p : Named) (e : Expr) (next : NodeId) → IsStatement (Show p e next) next
show_is p e next = record { statement = Shows p (term_of e); block = λ bs q. refl; made = refl; part = λ r. refl; child = refl }

pub call_is : (f : Named) (ps ks : List Named) → IsLast (Call f ps ks)
call_is f ps ks = record { codes = λ procs r bs p. calls refl; sites = λ scope bs p. refl }

pub end_is : IsLast End
end_is = record { codes = λ procs r bs p. ends; sites = λ scope bs p. refl }
