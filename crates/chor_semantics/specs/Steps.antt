-- One step of a choreography. Sending and receiving split the communication of the published language; delay and both
-- replace its relation that swaps statements (this project's own).
use Rattle.std.specs.Prelude.{ℕ, suc, ◌≡◌, ◌==◌, false, List, [], ◌∷◌, ◌++◌, length, Option, Some, None, slice_set, slice_index_or, if◌then◌else◌, ℤ}
use Rattle.std.specs.FinMap as fin
use Rattle.chor_base.specs.declared.names.NameId.{NameId}
use Rattle.chor_base.specs.declared.value.Value.{Value}
use Rattle.chor_base.specs.declared.value.Value.TheVariants.{Int, Part as Endpoint}
use Rattle.chor_base.specs.declared.value.Load.{Load}
use Rattle.chor_base.specs.declared.value.Load.TheVariants.{Value as Carries, Label as Picks}
use Rattle.chor_base.specs.declared.event.Event.{Event}
use Rattle.chor_base.specs.declared.event.Event.TheVariants.{Start, Send, Recv, Test, Set, Show, Host}
use Rattle.chor_base.specs.Expr.{Term, value_of, number_of, truth_of}
use Rattle.chor_base.specs.NameMap.{Variables}
use Rattle.chor_base.specs.Meaning.{Hosts, meaning_named, MayAnswer}
use Rattle.chor_base.specs.Events.{actors_of}
use Rattle.chor_semantics.specs.Choreography.{Ref, Live, Named, Content, OfValue, OfLabel, OfPart, Message, ValueSent, LabelSent, PartSent, Own, Sets, Shows, Asks, Node, Starts, Communicates, InTransit, Alone, Choreography, Then, Either, Calls, meets, named_in, put, number_for, numbers_for, instance_of}
use Rattle.chor_semantics.specs.Sources.{Procedure, Configuration}

-- the variables of a process
abbrev pub vars_of : List Variables → ℕ → Variables
vars_of all p = slice_index_or all p fin.empty

-- what an event does to variables
pub data Effect : Type 0 where
  Keeps : Effect
  Assigns : (p : ℕ) (x : NameId) (v : Value) → Effect

-- where a process asks a host function, v is an answer that it may give
abbrev pub Answers : Hosts → List Variables → Node → ℤ → Type 0
Answers hosts vars (Alone (Live p) (Asks x f a b)) v = MayAnswer (meaning_named hosts f) (number_of (value_of a (vars_of vars p))) (number_of (value_of b (vars_of vars p))) v
Answers hosts vars _ v = Unit {0}

-- ---- what the head of a choreography makes

-- what a step makes: the event, what it does to variables, and the choreography that is left
pub data Made : Type 0 where
  Makes : (e : Event) (f : Effect) (d : Choreography) → Made

-- what is put in transit; an endpoint's session must be live
abbrev pub message_of : Variables → Content → Option Message
message_of m (OfValue e x) = Some (ValueSent (value_of e m) x)
message_of m (OfLabel l) = Some (LabelSent l)
message_of m (OfPart (Live s) r) = Some (PartSent s r)
message_of m (OfPart (Named s d) r) = None

-- what a message carries, as events have it
abbrev pub load_of : Message → Load
load_of (ValueSent v x) = Carries v
load_of (LabelSent l) = Picks l
load_of (PartSent s r) = Carries (Endpoint s r)

-- a value that is received is put into its variable
abbrev pub receipt : ℕ → Message → Effect
receipt q (ValueSent v x) = Assigns q x v
receipt q (LabelSent l) = Keeps
receipt q (PartSent s r) = Keeps

-- the step by which a message comes in transit, if it has a value
abbrev pub sent : ℕ → ℕ → NameId → Ref → NameId → Choreography → Option Message → Option Made
sent s p a q b rest None = None
sent s p a q b rest (Some m) = Some (Makes (Send p s a b (load_of m)) Keeps (Then (InTransit s a b m q) rest))

-- a role more, whose process is live
abbrev pub with_live : Ref → NameId → Option (List (NameId × ℕ)) → Option (List (NameId × ℕ))
with_live (Live n) a (Some ps) = Some ((a, n) ∷ ps)
with_live (Live n) a None = None
with_live (Named x d) a o = None

-- the roles of a start's active processes, if all of these are live
abbrev pub live_parts : List (Ref × NameId) → Option (List (NameId × ℕ))
live_parts [] = Some []
live_parts (p ∷ ps) = with_live p.0 p.1 (live_parts ps)

-- the roles of its service processes, which have the numbers from n on
abbrev pub new_parts : List (ℕ × NameId) → ℕ → List (NameId × ℕ)
new_parts [] n = []
new_parts (s ∷ ss) n = (s.1, n) ∷ new_parts ss (suc n)

-- a start needs an active process; its session and its service processes get the next numbers
abbrev pub begun : NameId → ℕ → ℕ → List (ℕ × NameId) → Choreography → ℕ → ℕ → Option (List (NameId × ℕ)) → Option Made
begun c d k serve rest sid pid None = None
begun c d k serve rest sid pid (Some []) = None
begun c d k serve rest sid pid (Some (q ∷ ps)) =
    Some (Makes (Start c sid (q ∷ (ps ++ new_parts serve pid))) Keeps (put (numbers_for d serve pid) (number_for k d sid) rest))

-- a statement of process p with these variables, where v is a host function's answer
abbrev pub alone : Variables → ℕ → ℤ → Own → Choreography → Made
alone m p v (Sets x e) rest = Makes (Set p x (value_of e m)) (Assigns p x (value_of e m)) rest
alone m p v (Shows e) rest = Makes (Show p (value_of e m)) Keeps rest
alone m p v (Asks x f a b) rest = Makes (Host p x f (number_of (value_of a m)) (number_of (value_of b m)) v) (Assigns p x (Int v)) rest

-- The node at the head makes this, if the actors and the sessions that it mentions are live: an unsent communication
-- comes in transit, a message in transit is received, a start gives numbers, a statement is done
abbrev pub head_makes : List Variables → ℕ → ℤ → Node → Choreography → Option Made
head_makes vars sid v (Communicates (Live s) (Live p) a q b w) rest = sent s p a q b rest (message_of (vars_of vars p) w)
head_makes vars sid v (Communicates (Live s) (Named x d) a q b w) rest = None
head_makes vars sid v (Communicates (Named y d) p a q b w) rest = None
head_makes vars sid v (InTransit s a b m (Live q)) rest = Some (Makes (Recv q s a b (load_of m)) (receipt q m) rest)
head_makes vars sid v (InTransit s a b m (Named y d)) rest = None
head_makes vars sid v (Alone (Live p) o) rest = Some (alone (vars_of vars p) p v o rest)
head_makes vars sid v (Alone (Named x d) o) rest = None
head_makes vars sid v (Starts c d k active serve) rest = begun c d k serve rest sid (length vars) (live_parts active)

-- a conditional becomes the branch of its answer
abbrev pub branch_makes : List Variables → Ref → Term → Choreography → Choreography → Option Made
branch_makes vars (Live p) e c d =
    let b = truth_of (value_of e (vars_of vars p)) in Some (Makes (Test p b) Keeps (if b then c else d))
branch_makes vars (Named x k) e c d = None

-- ---- procedures

-- the first procedure of that name
abbrev pub procedure_named : List Procedure → NameId → Option Procedure
procedure_named [] f = None
procedure_named (p ∷ ps) f = if p.name.0 == f.0 then Some p else procedure_named ps f

-- the parameters stand for the arguments, in order; any other name is one of the body's own, at its depth
abbrev pub bound_all : ℕ → List NameId → List Ref → ℕ → Ref
bound_all d (x ∷ xs) (r ∷ rs) y = if x.0 == y then r else bound_all d xs rs y
bound_all d (x ∷ xs) [] y = Named y d
bound_all d [] rs y = Named y d

-- the body of a call that stands at depth d, one deeper, with its arguments
abbrev pub body_of : Option Procedure → ℕ → List Ref → List Ref → Option Choreography
body_of None d ps ss = None
body_of (Some f) d ps ss = Some (instance_of (suc d) (bound_all (suc d) f.params ps) (bound_all (suc d) f.sessions ss) f.body)

-- ---- the step

-- Moves c e f d: from c the event e may be made, which does f to variables and leaves d. The procedures, the host
-- functions, the variables and the next session's number stay the same over a whole derivation.
-- head: the node at the head makes it. test: the conditional at the head. delay: past a node that names no actor of the
-- event. both: past a conditional that names no actor, if both branches make that same event. unfold: at a call, if the
-- procedure's body with the call's arguments makes it
pub data Moves (procs : List Procedure) (hosts : Hosts) (vars : List Variables) (sid : ℕ) : Choreography → Event → Effect → Choreography → Type 0 where
  head : {n : Node} {c d : Choreography} {e : Event} {f : Effect} (v : ℤ)
      → Answers hosts vars n v
      → head_makes vars sid v n c ≡ Some (Makes e f d)
      → Moves procs hosts vars sid (Then n c) e f d
  test : {p : Ref} {x : Term} {c c' d : Choreography} {e : Event} {f : Effect}
      → branch_makes vars p x c c' ≡ Some (Makes e f d)
      → Moves procs hosts vars sid (Either p x c c') e f d
  delay : {n : Node} {c d : Choreography} {e : Event} {f : Effect}
      → meets (actors_of e) (named_in n) ≡ false
      → Moves procs hosts vars sid c e f d
      → Moves procs hosts vars sid (Then n c) e f (Then n d)
  both : {p : Ref} {x : Term} {c c' d d' : Choreography} {e : Event} {f : Effect}
      → meets (actors_of e) (p ∷ []) ≡ false
      → Moves procs hosts vars sid c e f c'
      → Moves procs hosts vars sid d e f d'
      → Moves procs hosts vars sid (Either p x c d) e f (Either p x c' d')
  unfolded : {h : NameId} {k : ℕ} {ps ss : List Ref} {c d : Choreography} {e : Event} {f : Effect}
      → body_of (procedure_named procs h) k ps ss ≡ Some c
      → Moves procs hosts vars sid c e f d
      → Moves procs hosts vars sid (Calls h k ps ss) e f d

-- the variables after one was set, if one was
abbrev pub assigned : List Variables → Effect → List Variables
assigned vars Keeps = vars
assigned vars (Assigns p x v) = slice_set vars p (fin.insert (vars_of vars p) x.0 v)

-- new processes of a start, which have no variable set
abbrev pub fresh_vars : List (NameId × ℕ) → ℕ → List Variables
fresh_vars [] n = []
fresh_vars (p ∷ ps) n = if p.1 == n then fin.empty ∷ fresh_vars ps (suc n) else fresh_vars ps n

-- the variables of all processes after a step; those of new processes are empty
abbrev pub vars_after : List Variables → Event → Effect → List Variables
vars_after vars (Start c s parts) f = vars ++ fresh_vars parts (length vars)
vars_after vars _ f = assigned vars f

-- the next session's number after an event
abbrev pub sid_after : ℕ → Event → ℕ
sid_after s (Start c t parts) = suc s
sid_after s _ = s

-- One step from a configuration to the next by an event
pub record Steps (procs : List Procedure) (hosts : Hosts) (old : Configuration) (e : Event) (new : Configuration) : Type 0 where
  pub effect : Effect
  pub moves : Moves procs hosts old.vars old.sid old.tree e effect new.tree
  pub vars : new.vars ≡ vars_after old.vars e effect
  pub sid : new.sid ≡ sid_after old.sid e
