-- The text of a role's type (this project's own): a line `local P@A`, and a line for each state, as `0: pick B ko 1 ok 2`.
use Rattle.std.specs.Prelude.{ℕ, ◌≡◌, ◌<◌, ◌+◌, List, [], ◌∷◌, ◌++◌, length, codes}
use Rattle.std.specs.Fmt.{decimal}
use Rattle.chor_base.specs.declared.names.NameId.{NameId}
use Rattle.chor_base.specs.declared.value.Sort.{Sort}
use Rattle.chor_base.specs.declared.value.Sort.TheVariants.{Int, Bool, Text}
use Rattle.chor_base.specs.Writing.{name_in}
use Rattle.chor_tree.specs.declared.protocol.Payload.{Payload}
use Rattle.chor_tree.specs.declared.protocol.Payload.TheVariants.{Plain, Endpoint}
use Rattle.chor_tree.specs.declared.protocol.State.{State}
use Rattle.global_types.specs.Moves.{Leads, chooses}
use Rattle.local_types.specs.Reading.{IsRoleType}
use Rattle.local_types.specs.declared.local_type.LocalState.{LocalState}
use Rattle.local_types.specs.declared.local_type.LocalState.TheVariants.{End, Send, Recv, Pick, Branch}

-- a line feed
abbrev pub line_end : List ℕ
line_end = 10 ∷ []

-- the word of a sort
abbrev pub sort_text : Sort → List ℕ
sort_text Int = codes "int"
sort_text Bool = codes "bool"
sort_text Text = codes "text"

-- a sort, or an endpoint as `Protocol.state@Role`
abbrev pub payload_text : List (List ℕ) → Payload → List ℕ
payload_text names (Plain s) = sort_text s
payload_text names (Endpoint q s r) = name_in names q.name ++ (codes "." ++ (name_in names s.name ++ (codes "@" ++ name_in names r.name)))

-- the other role, the payload and the next state
abbrev pub message_text : List (List ℕ) → NameId → Payload → ℕ → List ℕ
message_text names r c n = name_in names r ++ (codes " " ++ (payload_text names c ++ (codes " " ++ (decimal n ++ line_end))))

-- labels, each with the next state
abbrev pub labels_text : List (List ℕ) → List (NameId × ℕ) → List ℕ
labels_text names [] = []
labels_text names (l ∷ ls) = (codes " " ++ (name_in names l.0 ++ (codes " " ++ decimal l.1))) ++ labels_text names ls

-- a partner and the labels with the states after them
abbrev pub choice_text : List (List ℕ) → NameId → List (NameId × ℕ) → List ℕ
choice_text names r ls = name_in names r ++ (labels_text names ls ++ line_end)

-- the line of a state, after its number
abbrev pub state_text : List (List ℕ) → LocalState → List ℕ
state_text names End = codes ": end" ++ line_end
state_text names (Send r c n) = codes ": send " ++ message_text names r c n
state_text names (Recv r c n) = codes ": recv " ++ message_text names r c n
state_text names (Pick r ls) = codes ": pick " ++ choice_text names r ls
state_text names (Branch r ls) = codes ": branch " ++ choice_text names r ls

-- the lines of these states, of which the first has the number n
abbrev pub states_text : List (List ℕ) → ℕ → List LocalState → List ℕ
states_text names n [] = []
states_text names n (s ∷ ss) = (decimal n ++ state_text names s) ++ states_text names (n + 1) ss

-- The type of a role of a protocol
abbrev pub local_text : List (List ℕ) → NameId → NameId → List LocalState → List ℕ
local_text names p r ss = codes "local " ++ (name_in names p ++ (codes "@" ++ (name_in names r ++ (line_end ++ states_text names 0 ss))))

-- each label by which a state leads to a state is in the table of names
abbrev pub HasNamedLabels : List (List ℕ) → List State → Type 0
HasNamedLabels names ss = (i j : ℕ) (a b l : NameId) → Leads ss i (chooses a b l) j → l.0 < length names

-- All types of a role are printed alike
abbrev pub HasOneText : List (List ℕ) → List State → NameId → Type 0
HasOneText names ss r = (p : NameId) (ts us : List LocalState) → IsRoleType names ss r ts → IsRoleType names ss r us → local_text names p r ts ≡ local_text names p r us
