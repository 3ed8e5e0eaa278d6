-- What an event changes in an context.
use Rattle.std.specs.Prelude.{ℕ, ◌≡◌, ◌⊎◌, ◌||◌, true, ◌≤◌, false, List, [], ◌++◌, map, Option, Some, None, if◌then◌else◌}
use Rattle.chor_base.specs.declared.names.NameId.{NameId}
use Rattle.chor_base.specs.declared.value.Value.{Value}
use Rattle.chor_base.specs.declared.value.Value.TheVariants.{Int, Bool as Truth, Text, Part}
use Rattle.chor_base.specs.declared.value.Load.{Load}
use Rattle.chor_base.specs.declared.value.Load.TheVariants.{Value as Carries, Label as Picks}
use Rattle.chor_base.specs.declared.event.Event.{Event}
use Rattle.chor_base.specs.declared.event.Event.TheVariants.{Send, Recv}
use Rattle.chor_base.specs.Sorts.{sort_of_value}
use Rattle.chor_semantics.specs.Choreography.{Ref, Live, Named, ref_eq, among}
use Rattle.chor_semantics.specs.Steps.{Effect, Keeps, Assigns}
use Rattle.typed_sources.specs.Typing.{HasProtocol}
use Rattle.typed_sources.specs.Told.{Act, sending, receiving}
use Rattle.typed_sources.specs.Context.{Context, Hand, NoHand, Hands, handed, Setting, NoSet, SetsSort, with_setting, told_load, bound_to, opened}

-- what a value hands over to o
abbrev pub value_hand : Option Ref → Value → Hand
value_hand o (Part j r) = Hands (Live j) r o
value_hand o (Int z) = NoHand
value_hand o (Truth b) = NoHand
value_hand o (Text t) = NoHand

-- what a load does
abbrev pub load_hand : Option Ref → Load → Hand
load_hand o (Carries v) = value_hand o v
load_hand o (Picks l) = NoHand

-- a role that is sent has no holder, and one that is received has the receiver
abbrev pub event_hand : Event → Hand
event_hand (Send p s a b l) = load_hand None l
event_hand (Recv p s a b l) = load_hand (Some (Live p)) l
event_hand _ = NoHand

-- what an event adds to the acts of role r of session t
abbrev pub event_acts : (Ref → Option NameId) → Event → Ref → NameId → List Act
event_acts pr (Send p s a b l) = λ t r. if ref_eq t (Live s) then sending a b (told_load pr l) r else []
event_acts pr (Recv p s a b l) = λ t r. if ref_eq t (Live s) then receiving a b (told_load pr l) r else []
event_acts pr _ = λ t r. []

-- which variable its effect sets
abbrev pub effect_setting : Effect → Setting
effect_setting Keeps = NoSet
effect_setting (Assigns p x v) = SetsSort (Live p) x (sort_of_value v)

-- the processes of a start with their roles
abbrev pub lives : List (NameId × ℕ) → List (Ref × NameId)
lives parts = map (λ q. (Live q.1, q.0)) parts

-- what is known after a start
abbrev pub started : (NameId → Option NameId) → Context → NameId → ℕ → List (NameId × ℕ) → Context
started kind e ch sid parts = record {
  protocol = bound_to (Live sid) (kind ch) e.protocol;
  done = λ t r. if ref_eq t (Live sid) then [] else e.done t r;
  holder = opened (Live sid) (lives parts) e.holder;
  sorts = e.sorts;
  known = λ q. among q (map (λ p. p.0) (lives parts)) || e.known q;
}

-- what an event of one process changes
pub record Change : Type 0 where
  pub acts : Ref → NameId → List Act
  pub hand : Hand
  pub setting : Setting

-- the change by an event and its effect
abbrev pub change_of : (Ref → Option NameId) → Event → Effect → Change
change_of pr x f = record { acts = event_acts pr x; hand = event_hand x; setting = effect_setting f }

-- what is known after a change
abbrev pub changed : Context → Change → Context
changed e c = record {
  protocol = e.protocol;
  done = λ t r. e.done t r ++ c.acts t r;
  holder = handed c.hand e.holder;
  sorts = with_setting c.setting e.sorts;
  known = e.known;
}

-- process p may hand this over, or gain it
abbrev pub IsHandBy : ℕ → (Ref → NameId → Option Ref) → Hand → Type 0
IsHandBy p h NoHand = Unit {0}
IsHandBy p h (Hands (Live n) r o) = (h (Live n) r ≡ Some (Live p)) ⊎ (h (Live n) r ≡ None)
IsHandBy p h (Hands (Named x d) r o) = ⊥

-- a variable of p's own
abbrev pub IsSettingBy : ℕ → Setting → Type 0
IsSettingBy p NoSet = Unit {0}
IsSettingBy p (SetsSort q x o) = q ≡ Live p

-- p acts in live sessions alone, on roles that it holds
pub record AreActsBy (p : ℕ) (h : Ref → NameId → Option Ref) (acts : Ref → NameId → List Act) : Type 0 where
  pub named : (x d : ℕ) (r : NameId) → acts (Named x d) r ≡ []
  pub live : (n : ℕ) (r : NameId) → (acts (Live n) r ≡ []) ⊎ (h (Live n) r ≡ Some (Live p))

-- it changes what p holds, and p's own variables
pub record IsChangeBy (p : ℕ) (e : Context) (c : Change) : Type 0 where
  pub acts : AreActsBy p e.holder c.acts
  pub hand : IsHandBy p e.holder c.hand
  pub setting : IsSettingBy p c.setting
  pub known : e.known (Live p) ≡ true
  pub gains : (n : ℕ) (r : NameId) (o : Option Ref) → c.hand ≡ Hands (Live n) r o → HasProtocol (e.protocol (Live n)) × ((o ≡ None) ⊎ (o ≡ Some (Live p)))

-- roles are held in sessions in scope, by processes in scope
pub record HoldersInScope (e : Context) : Type 0 where
  pub session : (s : Ref) (r : NameId) (q : Ref) → e.holder s r ≡ Some q → HasProtocol (e.protocol s)
  pub process : (s : Ref) (r : NameId) (q : Ref) → e.holder s r ≡ Some q → e.known q ≡ true

-- the next numbers aren't in scope
pub record NumbersAreNew (e : Context) (sid pid : ℕ) : Type 0 where
  pub session : (n : ℕ) → sid ≤ n → e.protocol (Live n) ≡ None
  pub process : (m : ℕ) → pid ≤ m → e.known (Live m) ≡ false
