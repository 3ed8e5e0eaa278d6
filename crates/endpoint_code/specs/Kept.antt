-- What endpoint programs keep (this project's own): their numbers of names and texts are in their tables, and no endpoint stands in
-- their expressions as a literal. `n` tells which names are in the table, and `t` which texts.
use Rattle.std.specs.Prelude.{ℕ, ◌≡◌, ◌&&◌, Bool, true, false, List, All, length, nat_lt}
use Rattle.std.specs.List.{list_all}
use Rattle.chor_base.specs.declared.names.NameId.{NameId}
use Rattle.chor_base.specs.declared.value.Value.{Value}
use Rattle.chor_base.specs.declared.value.Value.TheVariants.{Int, Bool as Truth, Text, Part}
use Rattle.chor_base.specs.Expr.{Term, Constant, Variable, Unary, Binary, term_of}
use Rattle.endpoint_code.specs.declared.code.CodeNode.{CodeNode}
use Rattle.endpoint_code.specs.declared.code.CodeNode.TheVariants.{Join, Send, Recv, Pick, Branch, Throw, Catch, Set, Show, Host, If, Call, End}
use Rattle.endpoint_code.specs.declared.endpoints.Channel.{Channel}
use Rattle.endpoint_code.specs.declared.endpoints.Procedure.{Procedure}
use Rattle.endpoint_code.specs.declared.endpoints.ServiceCode.{ServiceCode}
use Rattle.endpoint_code.specs.declared.endpoints.Process.{Process}

-- ---- the names and texts of these are there

abbrev pub has_name : List (List ℕ) → NameId → Bool
has_name names x = nat_lt x.0 (length names)

abbrev pub has_text : List (List ℕ) → ℕ → Bool
has_text texts x = nat_lt x (length texts)

-- no endpoint stands as a literal
abbrev pub value_there : (NameId → Bool) → (ℕ → Bool) → Value → Bool
value_there n t (Int z) = true
value_there n t (Truth b) = true
value_there n t (Text x) = t x
value_there n t (Part s r) = false

-- an expression whose names and texts are there, and in which no endpoint stands as a literal
abbrev pub term_there : (NameId → Bool) → (ℕ → Bool) → Term → Bool
term_there n t (Constant v) = value_there n t v
term_there n t (Variable x) = n x
term_there n t (Unary o e) = term_there n t e
term_there n t (Binary o e f) = term_there n t e && term_there n t f

abbrev pub node_there : (NameId → Bool) → (ℕ → Bool) → CodeNode → Bool
node_there n t (Join c r k next) = n c && n r && n k
node_there n t (Send k b e next) = n k && n b && term_there n t (term_of e)
node_there n t (Recv k a x next) = n k && n a && n x
node_there n t (Pick k b l next) = n k && n b && n l
node_there n t (Branch k a arms) = n k && n a && list_all (λ arm. n arm.0) arms
node_there n t (Throw k b h next) = n k && n b && n h
node_there n t (Catch k a h next) = n k && n a && n h
node_there n t (Set x e next) = n x && term_there n t (term_of e)
node_there n t (Show e next) = term_there n t (term_of e)
node_there n t (Host x f a b next) = n x && n f && term_there n t (term_of a) && term_there n t (term_of b)
node_there n t (If e first second) = term_there n t (term_of e)
node_there n t (Call f p ss) = n f && n p && list_all n ss
node_there n t End = true

abbrev pub channel_there : (NameId → Bool) → Channel → Bool
channel_there n c = n c.name && list_all n c.active && list_all n c.serve

abbrev pub procedure_there : (NameId → Bool) → Procedure → Bool
procedure_there n p = n p.name && n p.param && list_all n p.sessions

abbrev pub service_there : (NameId → Bool) → ServiceCode → Bool
service_there n s = n s.channel && n s.role

-- ---- endpoint programs

-- each number of a name or a text is in its table
pub record AreNumbered (names texts : List (List ℕ)) (channels : List Channel) (procedures : List Procedure) (services : List ServiceCode) (processes : List Process) (nodes : List CodeNode) : Type 0 where
  pub in_channels : All (λ c. channel_there (has_name names) c ≡ true) channels
  pub in_procedures : All (λ p. procedure_there (has_name names) p ≡ true) procedures
  pub in_services : All (λ s. service_there (has_name names) s ≡ true) services
  pub in_processes : All (λ p. has_name names p.name ≡ true) processes
  pub in_nodes : All (λ o. node_there (has_name names) (has_text texts) o ≡ true) nodes
