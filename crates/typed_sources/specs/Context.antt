-- What is known at a node of a choreography that runs: of each session its protocol, what each role has done in it so far,
-- events first and then nodes above, and who holds the role; of each process the sorts of its set variables. A session is in
-- scope where it has a protocol.
use Rattle.std.specs.Prelude.{◌==◌, ◌||◌, Bool, List, [], ◌++◌, Option, Some, None, Result, Ok, Err, if◌then◌else◌}
use Rattle.chor_base.specs.declared.names.NameId.{NameId}
use Rattle.chor_base.specs.declared.rule.Rule.{Rule}
use Rattle.chor_base.specs.declared.value.Sort.{Sort}
use Rattle.chor_base.specs.declared.value.Value.{Value}
use Rattle.chor_base.specs.declared.value.Value.TheVariants.{Int, Bool as Truth, Text, Part}
use Rattle.chor_base.specs.declared.value.Load.{Load}
use Rattle.chor_base.specs.declared.value.Load.TheVariants.{Value as Carries, Label as Picks}
use Rattle.chor_base.specs.Sorts.{Sorts, sort_of, sort_of_value}
use Rattle.chor_base.specs.declared.value.Sort.TheVariants as sort
use Rattle.chor_semantics.specs.Choreography.{Ref, Live, Named, ref_eq, among, Content, OfValue, OfLabel, OfPart, Message, ValueSent, LabelSent, PartSent, Own, Sets, Shows, Asks, Node, Starts, Communicates, InTransit, Alone}
use Rattle.chor_semantics.specs.Steps.{load_of}
use Rattle.well_formed.specs.Holders.{is_role, first_with, as_parts}
use Rattle.well_formed.specs.WellFormed.{service_refs}
use Rattle.typed_sources.specs.Told.{Told, of_sort, of_endpoint, of_label, Act, sending, receiving}

pub record Context : Type 0 where
  -- the protocol of each session in scope
  pub protocol : Ref → Option NameId
  -- what each role of a session has done
  pub done : Ref → NameId → List Act
  -- who holds it; nobody while it is in transit
  pub holder : Ref → NameId → Option Ref
  -- the sorts of each process's variables that are set
  pub sorts : Ref → Sorts
  -- the processes in scope
  pub known : Ref → Bool

-- ---- what is told

-- of a value of that sort
abbrev pub told_sort : Option Sort → Option Told
told_sort None = None
told_sort (Some s) = Some (of_sort s)

-- of role r of a session with that protocol
abbrev pub told_part : NameId → Option NameId → Option Told
told_part r None = None
told_part r (Some p) = Some (of_endpoint p r)

-- the sort, if an expression has one
abbrev pub sort_in : Result Sort Rule → Option Sort
sort_in (Ok s) = Some s
sort_in (Err r) = None

-- of what process p is to send
abbrev pub told_content : (Ref → Option NameId) → Sorts → Content → Option Told
told_content pr m (OfValue e x) = told_sort (sort_in (sort_of e m))
told_content pr m (OfLabel l) = Some (of_label l)
told_content pr m (OfPart u r) = told_part r (pr u)

-- of a value, which may be an endpoint
abbrev pub told_value : (Ref → Option NameId) → Value → Option Told
told_value pr (Part j r) = told_part r (pr (Live j))
told_value pr (Int z) = Some (of_sort sort.Int)
told_value pr (Truth b) = Some (of_sort sort.Bool)
told_value pr (Text t) = Some (of_sort sort.Text)

-- of a load
abbrev pub told_load : (Ref → Option NameId) → Load → Option Told
told_load pr (Carries v) = told_value pr v
told_load pr (Picks l) = Some (of_label l)

-- ---- changes: who holds a role, and a variable's sort

-- nothing is handed over, or role r of session u is, and has that holder then
pub data Hand : Type 0 where
  NoHand : Hand
  Hands : (u : Ref) (r : NameId) (o : Option Ref) → Hand

-- the holders after it
abbrev pub handed : Hand → (Ref → NameId → Option Ref) → Ref → NameId → Option Ref
handed NoHand h = h
handed (Hands u r o) h = λ s a. if is_role s a u r then o else h s a

-- no variable is set, or one of process p is, to a value of that sort if it has one
pub data Setting : Type 0 where
  NoSet : Setting
  SetsSort : (p : Ref) (x : NameId) (o : Option Sort) → Setting

-- the sorts of one process after it
abbrev pub put_sort : NameId → Option Sort → Sorts → Sorts
put_sort x o m = λ y. if y.0 == x.0 then o else m y

-- the sorts of all processes after it
abbrev pub with_setting : Setting → (Ref → Sorts) → Ref → Sorts
with_setting NoSet m = m
with_setting (SetsSort p x o) m = λ q. if ref_eq q p then put_sort x o (m q) else m q

-- ---- nodes

-- the holders of the roles of a new session
abbrev pub opened : Ref → List (Ref × NameId) → (Ref → NameId → Option Ref) → Ref → NameId → Option Ref
opened u parts h = λ s a. if ref_eq s u then first_with a parts else h s a

-- the protocol of a new session
abbrev pub bound_to : Ref → Option NameId → (Ref → Option NameId) → Ref → Option NameId
bound_to u p pr = λ s. if ref_eq s u then p else pr s

-- what a communication hands over to q
abbrev pub content_hand : Ref → Content → Hand
content_hand q (OfValue e x) = NoHand
content_hand q (OfLabel l) = NoHand
content_hand q (OfPart u r) = Hands u r (Some q)

-- what the receipt of a message hands over to q
abbrev pub message_hand : Ref → Message → Hand
message_hand q (ValueSent v x) = NoHand
message_hand q (LabelSent l) = NoHand
message_hand q (PartSent j r) = Hands (Live j) r (Some q)

-- which variable of the receiver q a communication sets, where m are the sorts of the sender
abbrev pub content_setting : Sorts → Ref → Content → Setting
content_setting m q (OfValue e x) = SetsSort q x (sort_in (sort_of e m))
content_setting m q (OfLabel l) = NoSet
content_setting m q (OfPart u r) = NoSet

-- which variable of q the receipt of a message sets
abbrev pub message_setting : Ref → Message → Setting
message_setting q (ValueSent v x) = SetsSort q x (sort_of_value v)
message_setting q (LabelSent l) = NoSet
message_setting q (PartSent j r) = NoSet

-- which variable a statement of p sets
abbrev pub own_setting : Sorts → Ref → Own → Setting
own_setting m p (Sets x e) = SetsSort p x (sort_in (sort_of e m))
own_setting m p (Shows e) = NoSet
own_setting m p (Asks x f a b) = SetsSort p x (Some sort.Int)

-- what a communication adds to the acts of each role of its session
abbrev pub exchanged : NameId → NameId → Option Told → NameId → List Act
exchanged a b o r = sending a b o r ++ receiving a b o r

-- session s has more of them
abbrev pub more_in : Ref → (NameId → List Act) → (Ref → NameId → List Act) → Ref → NameId → List Act
more_in s more done = λ t r. done t r ++ (if ref_eq t s then more r else [])

-- what each role of each session has done; in a new session nothing
abbrev pub done_after : Context → Node → Ref → NameId → List Act
done_after e (Starts c d k active serve) = λ t r. if ref_eq t (Named k d) then [] else e.done t r
done_after e (Communicates s p a q b w) = more_in s (exchanged a b (told_content e.protocol (e.sorts p) w)) e.done
done_after e (InTransit s a b m q) = more_in (Live s) (receiving a b (told_load e.protocol (load_of m))) e.done
done_after e (Alone p o) = e.done

-- who holds each role after a node
abbrev pub holders_after : Node → (Ref → NameId → Option Ref) → Ref → NameId → Option Ref
holders_after (Starts c d k active serve) h = opened (Named k d) (active ++ as_parts d serve) h
holders_after (Communicates s p a q b w) h = handed (content_hand q w) h
holders_after (InTransit s a b m q) h = handed (message_hand q m) h
holders_after (Alone p o) h = h

-- new processes have no variable set
abbrev pub unset : List Ref → (Ref → Sorts) → Ref → Sorts
unset ps m = λ q. if among q ps then (λ x. None) else m q

-- the sorts after it
abbrev pub sorts_after : Node → (Ref → Sorts) → Ref → Sorts
sorts_after (Starts c d k active serve) m = unset (service_refs d serve) m
sorts_after (Communicates s p a q b w) m = with_setting (content_setting (m p) q w) m
sorts_after (InTransit s a b w q) m = with_setting (message_setting q w) m
sorts_after (Alone p o) m = with_setting (own_setting (m p) p o) m

-- the protocols of the sessions in scope after it; `kind` tells the protocol of a channel
abbrev pub protocols_after : (NameId → Option NameId) → Node → (Ref → Option NameId) → Ref → Option NameId
protocols_after kind (Starts c d k active serve) pr = bound_to (Named k d) (kind c) pr
protocols_after kind (Communicates s p a q b w) pr = pr
protocols_after kind (InTransit s a b m q) pr = pr
protocols_after kind (Alone p o) pr = pr

-- the processes in scope after it
abbrev pub known_after : Node → (Ref → Bool) → Ref → Bool
known_after (Starts c d k active serve) m = λ q. among q (service_refs d serve) || m q
known_after (Communicates s p a q b w) m = m
known_after (InTransit s a b w q) m = m
known_after (Alone p o) m = m

-- What is known after a node
abbrev pub after : (NameId → Option NameId) → Context → Node → Context
after kind e n = record {
  protocol = protocols_after kind n e.protocol;
  done = done_after e n;
  holder = holders_after n e.holder;
  sorts = sorts_after n e.sorts;
  known = known_after n e.known;
}
