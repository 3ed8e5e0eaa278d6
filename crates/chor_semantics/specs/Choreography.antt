-- Choreographies while they run: the tree that is left, in which live processes and sessions stand as numbers
-- (after Carbone and Montesi, POPL 2013; messages in transit are this project's own).
use Rattle.std.specs.Prelude.{ℕ, suc, ◌==◌, ◌&&◌, ◌||◌, Bool, false, List, [], ◌∷◌, map, if◌then◌else◌}
use Rattle.chor_base.specs.declared.names.NameId.{NameId}
use Rattle.chor_base.specs.declared.value.Value.{Value}
use Rattle.chor_base.specs.Expr.{Term}

-- a process or a session: its number, or the name that stands for it until a start gives the number.
-- A name that a procedure's body binds bears how many calls deep the body stands
pub data Ref : Type 0 where
  Live : (n : ℕ) → Ref
  Named : (x depth : ℕ) → Ref

-- what an unsent communication will carry: a value for a variable, a label, or a role of a session
pub data Content : Type 0 where
  OfValue : (e : Term) (x : NameId) → Content
  OfLabel : (l : NameId) → Content
  OfPart : (session : Ref) (role : NameId) → Content

-- what a message in transit carries
pub data Message : Type 0 where
  ValueSent : (v : Value) (x : NameId) → Message
  LabelSent : (l : NameId) → Message
  PartSent : (session : ℕ) (role : NameId) → Message

-- a statement of one process: it sets a variable, shows a value, or asks a host function
pub data Own : Type 0 where
  Sets : (x : NameId) (e : Term) → Own
  Shows : (e : Term) → Own
  Asks : (x f : NameId) (left right : Term) → Own

-- what something follows. A start binds a session and its service processes, all at one depth;
-- a message in transit was sent in a live session and awaits its receiver
pub data Node : Type 0 where
  Starts : (channel : NameId) (depth session : ℕ) (active : List (Ref × NameId)) (serve : List (ℕ × NameId)) → Node
  Communicates : (session sender : Ref) (from : NameId) (receiver : Ref) (to : NameId) (content : Content) → Node
  InTransit : (session : ℕ) (from to : NameId) (message : Message) (receiver : Ref) → Node
  Alone : (p : Ref) (own : Own) → Node

-- a choreography: a node and what follows it, a conditional with its two branches, a call (which bears
-- its depth), or the end
pub data Choreography : Type 0 where
  Then : (node : Node) (rest : Choreography) → Choreography
  Either : (p : Ref) (e : Term) (first second : Choreography) → Choreography
  Calls : (procedure : NameId) (depth : ℕ) (processes sessions : List Ref) → Choreography
  Ends : Choreography

-- the same number, or the same name of one depth
abbrev pub ref_eq : Ref → Ref → Bool
ref_eq (Live m) (Live n) = m == n
ref_eq (Named x d) (Named y c) = (x == y) && (d == c)
ref_eq (Live m) (Named y c) = false
ref_eq (Named x d) (Live n) = false

-- the process or session is among these
abbrev pub among : Ref → List Ref → Bool
among r [] = false
among r (s ∷ ss) = ref_eq r s || among r ss

-- one of these processes is among those
abbrev pub meets : List ℕ → List Ref → Bool
meets [] rs = false
meets (n ∷ ns) rs = among (Live n) rs || meets ns rs

-- The processes that a node names: both parties of an unsent communication, the receiver of a message
-- in transit, the active processes of a start, the one process of a statement
abbrev pub named_in : Node → List Ref
named_in (Starts c d k active serve) = map (λ p. p.0) active
named_in (Communicates s p a q b w) = p ∷ q ∷ []
named_in (InTransit s a b m q) = q ∷ []
named_in (Alone p o) = p ∷ []

-- ---- numbers in place of names

-- parts with other processes
abbrev pub put_part : (Ref → Ref) → List (Ref × NameId) → List (Ref × NameId)
put_part f ps = map (λ p. (f p.0, p.1)) ps

-- a message with another session in place of the one that it hands over
abbrev pub put_content : (Ref → Ref) → Content → Content
put_content g (OfValue e x) = OfValue e x
put_content g (OfLabel l) = OfLabel l
put_content g (OfPart s r) = OfPart (g s) r

-- a node with other processes and sessions in place of its names
abbrev pub put_node : (Ref → Ref) → (Ref → Ref) → Node → Node
put_node f g (Starts c d k active serve) = Starts c d k (put_part f active) serve
put_node f g (Communicates s p a q b w) = Communicates (g s) (f p) a (f q) b (put_content g w)
put_node f g (InTransit s a b m q) = InTransit s a b m (f q)
put_node f g (Alone p o) = Alone (f p) o

-- the choreography with its processes and sessions replaced as f and g say
abbrev pub put : (Ref → Ref) → (Ref → Ref) → Choreography → Choreography
put f g (Then n rest) = Then (put_node f g n) (put f g rest)
put f g (Either p e c d) = Either (f p) e (put f g c) (put f g d)
put f g (Calls h d ps ss) = Calls h d (map f ps) (map g ss)
put f g Ends = Ends

-- a number in place of one name
abbrev pub number_for : ℕ → ℕ → ℕ → Ref → Ref
number_for x d n (Live m) = Live m
number_for x d n (Named y c) = if (x == y) && (d == c) then Live n else Named y c

-- the service processes' numbers, from n on
abbrev pub numbers_for : ℕ → List (ℕ × NameId) → ℕ → Ref → Ref
numbers_for d [] n r = r
numbers_for d (s ∷ ss) n r = numbers_for d ss (suc n) (number_for s.0 d n r)

-- ---- a source's body at a depth, with arguments for its free names

-- a name is bound to this
abbrev pub bound : ℕ → Ref → (ℕ → Ref) → ℕ → Ref
bound x r f y = if x == y then r else f y

-- the new processes of a start are bound at this depth
abbrev pub bound_served : ℕ → List (ℕ × NameId) → (ℕ → Ref) → ℕ → Ref
bound_served d [] f = f
bound_served d (s ∷ ss) f = bound_served d ss (bound s.0 (Named s.0 d) f)

-- a name stands for what it is bound to; a live process or session for itself
abbrev pub named_by : (ℕ → Ref) → Ref → Ref
named_by f (Live n) = Live n
named_by f (Named x d) = f x

-- the processes are what f says of their names, the sessions what g says; what starts bind stands at depth d
abbrev pub instance_of : ℕ → (ℕ → Ref) → (ℕ → Ref) → Choreography → Choreography
instance_of d f g (Then (Starts c e k active serve) rest) =
    Then (Starts c d k (put_part (named_by f) active) serve) (instance_of d (bound_served d serve f) (bound k (Named k d) g) rest)
instance_of d f g (Then (Communicates s p a q b w) rest) =
    Then (put_node (named_by f) (named_by g) (Communicates s p a q b w)) (instance_of d f g rest)
instance_of d f g (Then (InTransit s a b m q) rest) = Then (InTransit s a b m (named_by f q)) (instance_of d f g rest)
instance_of d f g (Then (Alone p o) rest) = Then (Alone (named_by f p) o) (instance_of d f g rest)
instance_of d f g (Either p e first second) = Either (named_by f p) e (instance_of d f g first) (instance_of d f g second)
instance_of d f g (Calls h e ps ss) = Calls h d (map (named_by f) ps) (map (named_by g) ss)
instance_of d f g Ends = Ends
