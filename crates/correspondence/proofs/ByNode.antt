-- Each node of the code at which a process acts by itself.
use Rattle.std.proofs.Common.{◌≡◌, ℕ, Bool, true, false, List, [], ◌∷◌, ◌++◌, Option, Some, None, refl, sym, ap, ◌∙◌, subst, if◌then◌else◌, ℤ, pos}
use Rattle.std.specs.Prelude.{slice_get}
use Rattle.std.specs.FinMap as fin
use Rattle.chor_base.specs.declared.names.NameId.{NameId}
use Rattle.chor_base.specs.declared.expr.Expr.{Expr}
use Rattle.chor_base.specs.declared.value.Value.{Value}
use Rattle.chor_base.specs.declared.value.Value.TheVariants.{Int, Bool as Truth, Text, Part as Endpoint}
use Rattle.chor_base.specs.declared.value.Load.{Load}
use Rattle.chor_base.specs.declared.value.Load.TheVariants.{Value as Carries, Label as Picks}
use Rattle.chor_base.specs.declared.event.Event.{Event}
use Rattle.chor_base.specs.declared.event.Event.TheVariants as event
use Rattle.chor_base.specs.Expr.{term_of, value_of, number_of, truth_of}
use Rattle.chor_base.specs.NameMap.{Variables}
use Rattle.chor_base.specs.Meaning.{Hosts, meaning_named, MayAnswer}
use Rattle.chor_semantics.specs.Choreography.{Ref, Live, Content, OfValue, OfLabel, OfPart, Message, ValueSent, LabelSent, PartSent, Own, Sets as SetsIt, Shows, Asks, Node, Communicates, InTransit, Alone, Choreography, Then}
use Rattle.chor_semantics.specs.Sources.{Procedure, Configuration}
use Rattle.chor_semantics.specs.Steps.{Keeps, Assigns, Moves, head, Makes as ChoreographyMakes, Answers, message_of, load_of, receipt, vars_of, sent}
use Rattle.endpoint_code.specs.declared.code.CodeId.{CodeId}
use Rattle.endpoint_code.specs.declared.code.CodeNode.{CodeNode}
use Rattle.endpoint_code.specs.declared.code.CodeNode.TheVariants as code
use Rattle.endpoint_code.specs.declared.endpoints.Endpoints.{Endpoints}
use Rattle.endpoint_code.specs.Network.{Sessions, Machine, NetworkState, Place, Makes, place_of, node_makes, place_makes, machine_makes, makes, moved, with_queue, queue_of, has_room, put_if, puts, part_load, takes, takes_from, went, takes_value, takes_label, takes_part, in_arm, Taking, Goes as GoesOn, arm_at, PlaceAnswers, MachineAnswers}
use Rattle.well_formed.specs.Follows.{SessionMap, StandsFor, with_session, Act, Puts, Gets, Does, Received, Into, Label, Part, message_received, act_of, Agrees, Here, arm_place, place_after, fork_of}
use Rattle.well_formed.specs.WellFormed.{IsPlain}
use Rattle.well_formed.specs.Linear.{ParameterSets}
use Rattle.well_formed.specs.Holders.{ListedHolders}
use Rattle.correspondence.proofs.Acts.{IsBy, own_event, own_effect}
use Rattle.correspondence.proofs.Bodies.{Bodies}
use Rattle.correspondence.specs.Corresponds.{session_map, Corresponds}
use Rattle.correspondence.proofs.Found.{Doing}
use Rattle.correspondence.proofs.Machines.{map_insert, map_remove, stands_live, NotCall}
use Rattle.correspondence.proofs.Makes.{act_puts, act_does, CanMove, GetsFor}
use Rattle.correspondence.proofs.Alone.{plain_insert}
use Rattle.correspondence.proofs.FromNetwork.{Did, by_itself, by_sending, by_receiving, by_testing, my_vars, vars_kept, vars_assigned}

-- one thing stands for a name
same_stand : {o : Option (ℕ × NameId)} {s t : ℕ} {a b : NameId} → o ≡ Some (s, a) → o ≡ Some (t, b) → ◌≡◌ {A = ℕ × NameId} (s, a) (t, b)
same_stand {s = s} {t = t} {a = a} {b = b} h g = some (sym h ∙ g)
  where
    some : ◌≡◌ {A = Option (ℕ × NameId)} (Some (s, a)) (Some (t, b)) → ◌≡◌ {A = ℕ × NameId} (s, a) (t, b)
    some i = cc

-- what the name of a session stands for in following is what it stands for in the machine
pub record Names (s : Ref) (a : NameId) (t : ℕ) (b : NameId) : Type 0 where
  pub session : s ≡ Live t
  pub role : a ≡ b

pub named : (m : Sessions) (k : NameId) (s : Ref) (a : NameId) (t : ℕ) (b : NameId) → StandsFor (session_map m) k s a → fin.get m k.0 ≡ Some (t, b) → Names s a t b
named m k s a t b h g = at (stands_live m k s a h)
  where
    at : (j : ℕ) × (s ≡ Live j) × (fin.get m k.0 ≡ Some (j, a)) → Names s a t b
    at (j, i, w) = let e = same_stand w g in record { session = i ∙ ap (λ y. Live y.0) e; role = ap (λ y. y.1) e }

module _ (e : Endpoints) (procs : List Procedure) (sets : NameId → ParameterSets) (lists : ListedHolders) (hosts : Hosts) (bd : Bodies e procs sets lists) (c : Configuration) (n : NetworkState) (co : Corresponds e procs sets lists c n)
    (p : ℕ) (machine : Machine) (there : slice_get n.machines p ≡ Some machine) (place : Place) (at : place_of e machine ≡ Some place) (not_call : NotCall place.node) (not_end : place.node ≡ code.End → ⊥) where
  abbrev It : Event → NetworkState → Type 0
  It x m' = Did e procs sets lists hosts bd c n co x m'

  abbrev m : SessionMap
  m = session_map place.sessions

  mine : vars_of c.vars p ≡ machine.vars
  mine = my_vars e procs sets lists hosts bd c n co p machine there place at not_call not_end

  -- ---- sends

  can_send : (n0 : Node) (z : Choreography) (s : ℕ) (a b : NameId) (l : Load) (s' q : Ref) (a' b' : NameId) (w : Content) (msg : Message) → n0 ≡ Communicates s' (Live p) a' q b' w → s' ≡ Live s → a' ≡ a → b ≡ b' → message_of machine.vars w ≡ Some msg → load_of msg ≡ l → CanMove procs hosts c.vars c.sid p (event.Send p s a b l) Keeps tt refl (Then n0 z)
  can_send n0 z s a b l s' q a' b' w msg is si ai bi made load =
      let node : n0 ≡ Communicates (Live s) (Live p) a q b w = is ∙ ap (λ y. Communicates y (Live p) a' q b' w) si ∙ ap (λ y. Communicates (Live s) (Live p) y q b' w) ai ∙ ap (λ y. Communicates (Live s) (Live p) a q y w) (sym bi) in
      let made' : message_of (vars_of c.vars p) w ≡ Some msg = ap (λ y. message_of y w) mine ∙ made in
      let step : sent s p a q b z (message_of (vars_of c.vars p) w) ≡ Some (ChoreographyMakes (event.Send p s a b (load_of msg)) Keeps (Then (InTransit s a b msg q) z)) = ap (sent s p a q b z) made' in
      record {
        left = Then (InTransit s a b msg q) z;
        moves = subst (λ y. Moves procs hosts c.vars c.sid (Then y z) (event.Send p s a b l) Keeps (Then (InTransit s a b msg q) z)) (sym node)
            (subst (λ y. Moves procs hosts c.vars c.sid (Then (Communicates (Live s) (Live p) a q b w) z) (event.Send p s a b y) Keeps (Then (InTransit s a b msg q) z)) load (head (pos 0) tt step));
      }

  -- a network step that puts a load
  record Put (at' : CodeId) (ss : Sessions) (b : NameId) (o : Option (ℕ × NameId)) (i : Option Load) (x : Event) (m' : NetworkState) : Type 0 where
    s : ℕ
    a : NameId
    l : Load
    stands : o ≡ Some (s, a)
    load : i ≡ Some l
    event : x ≡ event.Send p s a b l
    state : m' ≡ with_queue (moved n p at' machine.vars ss) (s, a, b) (queue_of n (s, a, b) ++ l ∷ [])

  put_made : (cap : Option ℕ) (at' : CodeId) (ss : Sessions) (b : NameId) (o : Option (ℕ × NameId)) (i : Option Load) (x : Event) (m' : NetworkState) → puts cap (moved n p at' machine.vars ss) p b o i ≡ Some (Makes x m') → Put at' ss b o i x m'
  put_made cap at' ss b None i x m' h = absurd cc
  put_made cap at' ss b (Some (s, a)) None x m' h = absurd cc
  put_made cap at' ss b (Some (s, a)) (Some l) x m' h = go (has_room cap (queue_of (moved n p at' machine.vars ss) (s, a, b))) h
    where
      go : (y : Bool) → put_if y (moved n p at' machine.vars ss) p (s, a, b) l ≡ Some (Makes x m') → Put at' ss b (Some (s, a)) (Some l) x m'
      go false i = absurd cc
      go true i = record { s = s; a = a; l = l; stands = refl; load = refl; event = cc; state = cc }

  send_value : (cap : Option ℕ) (k b : NameId) (y : Expr) (next : CodeId) (x : Event) (m' : NetworkState) → place.node ≡ code.Send k b y next → puts cap (moved n p next machine.vars place.sessions) p b (fin.get place.sessions k.0) (Some (Carries (value_of (term_of y) machine.vars))) ≡ Some (Makes x m') → It x m'
  send_value cap k b y next x m' node h =
      let w = put_made cap next place.sessions b (fin.get place.sessions k.0) (Some (Carries (value_of (term_of y) machine.vars))) x m' h in
      let l' : Carries (value_of (term_of y) machine.vars) ≡ w.l = some w.load in
      subst (λ z. It z m') (sym w.event) (by_sending e procs sets lists hosts bd c n co p machine there place at not_call not_end w.s w.a b w.l next place.sessions m' w.state (λ n0 d z. does w.s w.a w.l l' w.stands n0 z d) (ap fork_of node) (λ g i. ap (λ u. place_after m u g) node))
    where
      some : {l : Load} → Some (Carries (value_of (term_of y) machine.vars)) ≡ Some l → Carries (value_of (term_of y) machine.vars) ≡ l
      some i = cc

      does : (s : ℕ) (a : NameId) (l : Load) → Carries (value_of (term_of y) machine.vars) ≡ l → fin.get place.sessions k.0 ≡ Some (s, a) → (n0 : Node) (z : Choreography) → Doing (Live p) m place.node n0 → CanMove procs hosts c.vars c.sid p (event.Send p s a b l) Keeps tt refl (Then n0 z)
      does s a l li si n0 z (g, i, j) = by g i (subst (λ u. Agrees m u g) node j)
        where
          by : (g : Act) → act_of n0 (Live p) ≡ Some g → Agrees m (code.Send k b y next) g → CanMove procs hosts c.vars c.sid p (event.Send p s a b l) Keeps tt refl (Then n0 z)
          by (Puts s' a' b' (OfValue t v)) i j =
              let w = named place.sessions k s' a' s a j.0 si in
              let u = act_puts n0 p s' a' b' (OfValue t v) i in
              can_send n0 z s a b l s' u.0 a' b' (OfValue t v) (ValueSent (value_of t machine.vars) v) u.1 w.session w.role j.1 refl (ap (λ r. Carries (value_of r machine.vars)) (sym j.2) ∙ li)
          by _ i j = absurd j

  send_label : (cap : Option ℕ) (k b h' : NameId) (next : CodeId) (x : Event) (m' : NetworkState) → place.node ≡ code.Pick k b h' next → puts cap (moved n p next machine.vars place.sessions) p b (fin.get place.sessions k.0) (Some (Picks h')) ≡ Some (Makes x m') → It x m'
  send_label cap k b h' next x m' node h =
      let w = put_made cap next place.sessions b (fin.get place.sessions k.0) (Some (Picks h')) x m' h in
      let l' : Picks h' ≡ w.l = some w.load in
      subst (λ z. It z m') (sym w.event) (by_sending e procs sets lists hosts bd c n co p machine there place at not_call not_end w.s w.a b w.l next place.sessions m' w.state (λ n0 d z. does w.s w.a w.l l' w.stands n0 z d) (ap fork_of node) (λ g i. ap (λ u. place_after m u g) node))
    where
      some : {l : Load} → Some (Picks h') ≡ Some l → Picks h' ≡ l
      some i = cc

      does : (s : ℕ) (a : NameId) (l : Load) → Picks h' ≡ l → fin.get place.sessions k.0 ≡ Some (s, a) → (n0 : Node) (z : Choreography) → Doing (Live p) m place.node n0 → CanMove procs hosts c.vars c.sid p (event.Send p s a b l) Keeps tt refl (Then n0 z)
      does s a l li si n0 z (g, i, j) = by g i (subst (λ u. Agrees m u g) node j)
        where
          by : (g : Act) → act_of n0 (Live p) ≡ Some g → Agrees m (code.Pick k b h' next) g → CanMove procs hosts c.vars c.sid p (event.Send p s a b l) Keeps tt refl (Then n0 z)
          by (Puts s' a' b' (OfLabel t)) i j =
              let w = named place.sessions k s' a' s a j.0 si in
              let u = act_puts n0 p s' a' b' (OfLabel t) i in
              can_send n0 z s a b l s' u.0 a' b' (OfLabel t) (LabelSent t) u.1 w.session w.role j.1 refl (ap Picks (sym j.2) ∙ li)
          by _ i j = absurd j

  send_part : (cap : Option ℕ) (k b h' : NameId) (next : CodeId) (x : Event) (m' : NetworkState) → place.node ≡ code.Throw k b h' next → puts cap (moved n p next machine.vars (fin.remove place.sessions h'.0)) p b (fin.get place.sessions k.0) (part_load (fin.get place.sessions h'.0)) ≡ Some (Makes x m') → It x m'
  send_part cap k b h' next x m' node h =
      let w = put_made cap next (fin.remove place.sessions h'.0) b (fin.get place.sessions k.0) (part_load (fin.get place.sessions h'.0)) x m' h in
      subst (λ z. It z m') (sym w.event) (by_sending e procs sets lists hosts bd c n co p machine there place at not_call not_end w.s w.a b w.l next (fin.remove place.sessions h'.0) m' w.state (λ n0 d z. does w.s w.a w.l w.load w.stands n0 z d) (ap fork_of node) (λ g i. ap (λ u. place_after m u g) node ∙ ap (Here next) (sym (map_remove place.sessions h'))))
    where
      some : {i l : Load} → Some i ≡ Some l → i ≡ l
      some i = cc

      does : (s : ℕ) (a : NameId) (l : Load) → part_load (fin.get place.sessions h'.0) ≡ Some l → fin.get place.sessions k.0 ≡ Some (s, a) → (n0 : Node) (z : Choreography) → Doing (Live p) m place.node n0 → CanMove procs hosts c.vars c.sid p (event.Send p s a b l) Keeps tt refl (Then n0 z)
      does s a l li si n0 z (g, i, j) = by g i (subst (λ u. Agrees m u g) node j)
        where
          by : (g : Act) → act_of n0 (Live p) ≡ Some g → Agrees m (code.Throw k b h' next) g → CanMove procs hosts c.vars c.sid p (event.Send p s a b l) Keeps tt refl (Then n0 z)
          by (Puts s' a' b' (OfPart t r)) i j =
              let w = named place.sessions k s' a' s a j.0 si in
              let u = act_puts n0 p s' a' b' (OfPart t r) i in
              let v = stands_live place.sessions h' t r j.2 in
              let l' : Carries (Endpoint v.0 r) ≡ l = some (sym (ap part_load v.2) ∙ li) in
              can_send n0 z s a b l s' u.0 a' b' (OfPart t r) (PartSent v.0 r) u.1 w.session w.role j.1 (ap (λ y. message_of machine.vars (OfPart y r)) v.1) l'
          by _ i j = absurd j

  -- ---- receipts

  -- a network step that takes a load
  record Took (a : NameId) (t : Load → Option Taking) (o : Option (ℕ × NameId)) (x : Event) (m' : NetworkState) : Type 0 where
    s : ℕ
    b : NameId
    l : Load
    rest : List Load
    at' : CodeId
    vars' : Variables
    ss : Sessions
    stands : o ≡ Some (s, b)
    first : queue_of n (s, a, b) ≡ l ∷ rest
    taken : t l ≡ Some (GoesOn at' vars' ss)
    event : x ≡ event.Recv p s a b l
    state : m' ≡ with_queue (moved n p at' vars' ss) (s, a, b) rest

  took_made : (a : NameId) (t : Load → Option Taking) (o : Option (ℕ × NameId)) (x : Event) (m' : NetworkState) → takes n p a o t ≡ Some (Makes x m') → Took a t o x m'
  took_made a t None x m' h = absurd cc
  took_made a t (Some (s, b)) x m' h = go (queue_of n (s, a, b)) refl h
    where
      go : (q : List Load) → queue_of n (s, a, b) ≡ q → takes_from n p (s, a, b) t q ≡ Some (Makes x m') → Took a t (Some (s, b)) x m'
      go [] e i = absurd cc
      go (l ∷ rest) e i = at_load (t l) refl i
        where
          at_load : (o : Option Taking) → t l ≡ o → went n p (s, a, b) l rest o ≡ Some (Makes x m') → Took a t (Some (s, b)) x m'
          at_load None j k = absurd cc
          at_load (Some (GoesOn at' vars' ss)) j k = record { s = s; b = b; l = l; rest = rest; at' = at'; vars' = vars'; ss = ss; stands = refl; first = e; taken = j; event = cc; state = cc }

  -- a value that is taken
  record TookValue (next : CodeId) (y : NameId) (l : Load) (at' : CodeId) (vars' : Variables) (ss : Sessions) : Type 0 where
    v : Value
    plain : IsPlain v
    load : l ≡ Carries v
    at_next : at' ≡ next
    variables : vars' ≡ fin.insert machine.vars y.0 v
    sessions : ss ≡ place.sessions

  value_taken : (next : CodeId) (y : NameId) (l : Load) (at' : CodeId) (vars' : Variables) (ss : Sessions) → takes_value next machine.vars place.sessions y l ≡ Some (GoesOn at' vars' ss) → TookValue next y l at' vars' ss
  value_taken next y (Carries (Int z)) at' vars' ss h = record { v = Int z; plain = tt; load = refl; at_next = cc; variables = cc; sessions = cc }
  value_taken next y (Carries (Truth z)) at' vars' ss h = record { v = Truth z; plain = tt; load = refl; at_next = cc; variables = cc; sessions = cc }
  value_taken next y (Carries (Text z)) at' vars' ss h = record { v = Text z; plain = tt; load = refl; at_next = cc; variables = cc; sessions = cc }
  value_taken next y (Carries (Endpoint s r)) at' vars' ss h = absurd cc
  value_taken next y (Picks l) at' vars' ss h = absurd cc

  -- what a receiver's act is, on the machine's session
  gets_as : (n0 : Node) (s : ℕ) (a b : NameId) (k c' b' : NameId) (s' : Ref) (g : Received) → act_of n0 (Live p) ≡ Some (Gets s' c' b' g) → StandsFor m k s' b' → a ≡ c' → fin.get place.sessions k.0 ≡ Some (s, b) → act_of n0 (Live p) ≡ Some (Gets (Live s) a b g)
  gets_as n0 s a b k c' b' s' g i j ai si =
      let w = named place.sessions k s' b' s b j si in
      i ∙ ap (λ y. Some (Gets y c' b' g)) w.session ∙ ap (λ y. Some (Gets (Live s) y b' g)) (sym ai) ∙ ap (λ y. Some (Gets (Live s) a y g)) w.role

  receive_value : (k a y : NameId) (next : CodeId) (x : Event) (m' : NetworkState) → place.node ≡ code.Recv k a y next → takes n p a (fin.get place.sessions k.0) (takes_value next machine.vars place.sessions y) ≡ Some (Makes x m') → It x m'
  receive_value k a y next x m' node h =
      let w = took_made a (takes_value next machine.vars place.sessions y) (fin.get place.sessions k.0) x m' h in
      let t = value_taken next y w.l w.at' w.vars' w.ss w.taken in
      subst (λ z. It z m') (sym w.event) (by_receiving e procs sets lists hosts bd c n co p machine there place at not_call not_end w.s a w.b w.l w.rest (Assigns p y t.v) next (fin.insert machine.vars y.0 t.v) place.sessions m'
      (w.state ∙ ap (λ z. with_queue (moved n p z w.vars' w.ss) (w.s, a, w.b) w.rest) t.at_next ∙ ap (λ z. with_queue (moved n p next z w.ss) (w.s, a, w.b) w.rest) t.variables ∙ ap (λ z. with_queue (moved n p next (fin.insert machine.vars y.0 t.v) z) (w.s, a, w.b) w.rest) t.sessions)
      w.first (λ n0 d. does w.s w.b w.l t.v t.load w.stands n0 d) (ap fork_of node) (vars_assigned e procs sets lists hosts bd c n co p machine there place at not_call not_end next place.sessions y t.v) (plain_insert machine.vars y t.v (co.plain p machine there) t.plain) (λ g i j. ap (λ u. place_after m u g) node))
    where
      does : (s : ℕ) (b : NameId) (l : Load) (v : Value) → l ≡ Carries v → fin.get place.sessions k.0 ≡ Some (s, b) → (n0 : Node) → Doing (Live p) m place.node n0 → GetsFor e.channels procs lists bd.fit bd.holders_fit p s a b hosts c.vars c.sid l (Assigns p y v) n0
      does s b l v li si n0 (g, i, j) = by g i (subst (λ u. Agrees m u g) node j)
        where
          effect : (z : NameId) → y ≡ z → (msg : Message) → message_received msg ≡ Into z → load_of msg ≡ l → receipt p msg ≡ Assigns p y v
          effect z e (ValueSent v' z') e' e'' = let u : Carries v' ≡ Carries v = e'' ∙ li in let same : v' ≡ v = cc in let names : z' ≡ z = cc in ap (λ r. Assigns p r v') (names ∙ sym e) ∙ ap (Assigns p y) same
          effect z e (LabelSent l') e' e'' = absurd cc
          effect z e (PartSent t r) e' e'' = absurd cc

          by : (g : Act) → act_of n0 (Live p) ≡ Some g → Agrees m (code.Recv k a y next) g → GetsFor e.channels procs lists bd.fit bd.holders_fit p s a b hosts c.vars c.sid l (Assigns p y v) n0
          by (Gets s' c' b' (Into z)) i j = (Into z, gets_as n0 s a b k c' b' s' (Into z) i j.0 j.1 si, effect z j.2)
          by _ i j = absurd j

  receive_label : (k a : NameId) (arms : List (NameId × CodeId)) (x : Event) (m' : NetworkState) → place.node ≡ code.Branch k a arms → takes n p a (fin.get place.sessions k.0) (takes_label arms machine.vars place.sessions) ≡ Some (Makes x m') → It x m'
  receive_label k a arms x m' node h =
      let w = took_made a (takes_label arms machine.vars place.sessions) (fin.get place.sessions k.0) x m' h in
      label_taken w.s w.b w.l w.rest w.at' w.vars' w.ss w.stands w.first w.event w.state w.taken
    where
      label_taken : (s : ℕ) (b : NameId) (l : Load) (rest : List Load) (at' : CodeId) (vars' : Variables) (ss : Sessions) → fin.get place.sessions k.0 ≡ Some (s, b) → queue_of n (s, a, b) ≡ l ∷ rest → x ≡ event.Recv p s a b l → m' ≡ with_queue (moved n p at' vars' ss) (s, a, b) rest → takes_label arms machine.vars place.sessions l ≡ Some (GoesOn at' vars' ss) → It x m'
      label_taken s b (Carries v) rest at' vars' ss si fi xi mi t = absurd cc
      label_taken s b (Picks l) rest at' vars' ss si fi xi mi t = go (arm_at arms l) refl t
        where
          go : (o : Option CodeId) → arm_at arms l ≡ o → in_arm o machine.vars place.sessions ≡ Some (GoesOn at' vars' ss) → It x m'
          go None u i = absurd cc
          go (Some next) u i =
              let ats : at' ≡ next = cc in let vs : vars' ≡ machine.vars = cc in let sss : ss ≡ place.sessions = cc in
              subst (λ z. It z m') (sym xi) (by_receiving e procs sets lists hosts bd c n co p machine there place at not_call not_end s a b (Picks l) rest Keeps next machine.vars place.sessions m'
              (mi ∙ ap (λ z. with_queue (moved n p z vars' ss) (s, a, b) rest) ats ∙ ap (λ z. with_queue (moved n p next z ss) (s, a, b) rest) vs ∙ ap (λ z. with_queue (moved n p next machine.vars z) (s, a, b) rest) sss)
              fi does (ap fork_of node) (vars_kept e procs sets lists hosts bd c n co p machine there place at not_call not_end next place.sessions) (co.plain p machine there) (λ g w by. ap (λ u. place_after m u g) node ∙ placed g (subst (λ u. Agrees m u g) node w) by))
            where
              effect : (z : NameId) (msg : Message) → message_received msg ≡ Label z → receipt p msg ≡ Keeps
              effect z (ValueSent v' z') e' = absurd cc
              effect z (LabelSent l') e' = refl
              effect z (PartSent t r) e' = absurd cc

              does : (n0 : Node) → Doing (Live p) m place.node n0 → GetsFor e.channels procs lists bd.fit bd.holders_fit p s a b hosts c.vars c.sid (Picks l) Keeps n0
              does n0 (g, i', j) = by g i' (subst (λ u. Agrees m u g) node j)
                where
                  by : (g : Act) → act_of n0 (Live p) ≡ Some g → Agrees m (code.Branch k a arms) g → GetsFor e.channels procs lists bd.fit bd.holders_fit p s a b hosts c.vars c.sid (Picks l) Keeps n0
                  by (Gets s' c' b' (Label z)) i j = (Label z, gets_as n0 s a b k c' b' s' (Label z) i j.0 j.1 si, λ msg e' e''. effect z msg e')
                  by _ i j = absurd j

              same : (z : NameId) (msg : Message) → Label z ≡ message_received msg → Picks l ≡ load_of msg → z ≡ l
              same z (ValueSent v' z') e' e'' = absurd cc
              same z (LabelSent l') e' e'' = cc
              same z (PartSent t r) e' e'' = absurd cc

              placed : (g : Act) → Agrees m (code.Branch k a arms) g → IsBy (vars_of c.vars p) p g (event.Recv p s a b (Picks l)) Keeps → place_after m (code.Branch k a arms) g ≡ Here next m
              placed (Gets s' c' b' (Label z)) w (t', msg, is, rec, ev, ef) = let loads : Picks l ≡ load_of msg = cc in ap (λ y. arm_place m (arm_at arms y)) (same z msg rec loads) ∙ ap (arm_place m) u
              placed _ w by = absurd w

  receive_part : (k a h' : NameId) (next : CodeId) (x : Event) (m' : NetworkState) → place.node ≡ code.Catch k a h' next → takes n p a (fin.get place.sessions k.0) (takes_part next machine.vars place.sessions h') ≡ Some (Makes x m') → It x m'
  receive_part k a h' next x m' node h =
      let w = took_made a (takes_part next machine.vars place.sessions h') (fin.get place.sessions k.0) x m' h in
      part_taken w.s w.b w.l w.rest w.at' w.vars' w.ss w.stands w.first w.event w.state w.taken
    where
      part_taken : (s : ℕ) (b : NameId) (l : Load) (rest : List Load) (at' : CodeId) (vars' : Variables) (ss : Sessions) → fin.get place.sessions k.0 ≡ Some (s, b) → queue_of n (s, a, b) ≡ l ∷ rest → x ≡ event.Recv p s a b l → m' ≡ with_queue (moved n p at' vars' ss) (s, a, b) rest → takes_part next machine.vars place.sessions h' l ≡ Some (GoesOn at' vars' ss) → It x m'
      part_taken s b (Picks l) rest at' vars' ss si fi xi mi t = absurd cc
      part_taken s b (Carries (Int z)) rest at' vars' ss si fi xi mi t = absurd cc
      part_taken s b (Carries (Truth z)) rest at' vars' ss si fi xi mi t = absurd cc
      part_taken s b (Carries (Text z)) rest at' vars' ss si fi xi mi t = absurd cc
      part_taken s b (Carries (Endpoint j r)) rest at' vars' ss si fi xi mi t =
          let ats : at' ≡ next = cc in let vs : vars' ≡ machine.vars = cc in let sss : ss ≡ fin.insert place.sessions h'.0 (j, r) = cc in
          subst (λ z. It z m') (sym xi) (by_receiving e procs sets lists hosts bd c n co p machine there place at not_call not_end s a b (Carries (Endpoint j r)) rest Keeps next machine.vars (fin.insert place.sessions h'.0 (j, r)) m'
          (mi ∙ ap (λ z. with_queue (moved n p z vars' ss) (s, a, b) rest) ats ∙ ap (λ z. with_queue (moved n p next z ss) (s, a, b) rest) vs ∙ ap (λ z. with_queue (moved n p next machine.vars z) (s, a, b) rest) sss)
          fi does (ap fork_of node) (vars_kept e procs sets lists hosts bd c n co p machine there place at not_call not_end next (fin.insert place.sessions h'.0 (j, r))) (co.plain p machine there) (λ g w by. ap (λ u. place_after m u g) node ∙ placed g (subst (λ u. Agrees m u g) node w) by))
        where
          effect : (z : Ref) (q : NameId) (msg : Message) → message_received msg ≡ Part z q → receipt p msg ≡ Keeps
          effect z q (ValueSent v' z') e' = absurd cc
          effect z q (LabelSent l') e' = absurd cc
          effect z q (PartSent t r) e' = refl

          does : (n0 : Node) → Doing (Live p) m place.node n0 → GetsFor e.channels procs lists bd.fit bd.holders_fit p s a b hosts c.vars c.sid (Carries (Endpoint j r)) Keeps n0
          does n0 (g, i', w) = by g i' (subst (λ u. Agrees m u g) node w)
            where
              by : (g : Act) → act_of n0 (Live p) ≡ Some g → Agrees m (code.Catch k a h' next) g → GetsFor e.channels procs lists bd.fit bd.holders_fit p s a b hosts c.vars c.sid (Carries (Endpoint j r)) Keeps n0
              by (Gets s' c' b' (Part z q)) i w = (Part z q, gets_as n0 s a b k c' b' s' (Part z q) i w.0 w.1 si, λ msg e' e''. effect z q msg e')
              by _ i w = absurd w

          same : (z : Ref) (q : NameId) (msg : Message) → Part z q ≡ message_received msg → Carries (Endpoint j r) ≡ load_of msg → Part z q ≡ Part (Live j) r
          same z q (ValueSent v' z') e' e'' = absurd cc
          same z q (LabelSent l') e' e'' = absurd cc
          same z q (PartSent t r') e' e'' = let i : t ≡ j = cc in let i' : r' ≡ r = cc in e' ∙ ap (λ y. Part (Live y) r') i ∙ ap (Part (Live j)) i'

          placed : (g : Act) → Agrees m (code.Catch k a h' next) g → IsBy (vars_of c.vars p) p g (event.Recv p s a b (Carries (Endpoint j r))) Keeps → place_after m (code.Catch k a h' next) g ≡ Here next (session_map (fin.insert place.sessions h'.0 (j, r)))
          placed (Gets s' c' b' (Part z q)) w (t', msg, is, rec, ev, ef) =
              let loads : Carries (Endpoint j r) ≡ load_of msg = cc in
              let parts = same z q msg rec loads in
              let zs : z ≡ Live j = cc in let qs : q ≡ r = cc in
              ap (λ y. Here next (with_session m h' (y, q))) zs ∙ ap (λ y. Here next (with_session m h' (Live j, y))) qs ∙ ap (Here next) (sym (map_insert place.sessions h' j r))
          placed _ w by = absurd w

  -- ---- statements

  -- a choreography's statement can be done
  does_own : (o : Own) (v : ℤ) (n0 : Node) (z : Choreography) → n0 ≡ Alone (Live p) o → Answers hosts c.vars (Alone (Live p) o) v → Moves procs hosts c.vars c.sid (Then n0 z) (own_event machine.vars p v o) (own_effect machine.vars p v o) z
  does_own o v n0 z is an =
      subst (λ y. Moves procs hosts c.vars c.sid (Then y z) (own_event machine.vars p v o) (own_effect machine.vars p v o) z) (sym is)
      (subst (λ y. Moves procs hosts c.vars c.sid (Then (Alone (Live p) o) z) (own_event y p v o) (own_effect y p v o) z) mine (statement o an))
    where
      statement : (o : Own) → Answers hosts c.vars (Alone (Live p) o) v → Moves procs hosts c.vars c.sid (Then (Alone (Live p) o) z) (own_event (vars_of c.vars p) p v o) (own_effect (vars_of c.vars p) p v o) z
      statement (SetsIt y g) an = head v an refl
      statement (Shows g) an = head v an refl
      statement (Asks y g a b) an = head v an refl

  does_set : (y : NameId) (g : Expr) (next : CodeId) (v : ℤ) (x : Event) (m' : NetworkState) → place.node ≡ code.Set y g next → x ≡ event.Set p y (value_of (term_of g) machine.vars) → m' ≡ moved n p next (fin.insert machine.vars y.0 (value_of (term_of g) machine.vars)) place.sessions → It x m'
  does_set y g next v x m' node xi mi =
      subst (λ z. It z m') (sym xi) (by_itself e procs sets lists hosts bd c n co p machine there place at not_call not_end (SetsIt y (term_of g)) v (event.Set p y (value_of (term_of g) machine.vars)) tt refl tt (λ t. refl) (Assigns p y (value_of (term_of g) machine.vars)) next (fin.insert machine.vars y.0 (value_of (term_of g) machine.vars)) m' mi
      (λ n0 w z. does_own (SetsIt y (term_of g)) v n0 z (own n0 w) tt) (ap fork_of node) (vars_assigned e procs sets lists hosts bd c n co p machine there place at not_call not_end next place.sessions y (value_of (term_of g) machine.vars)) (λ h. plain_insert machine.vars y (value_of (term_of g) machine.vars) (co.plain p machine there) h) (λ a i. ap (λ u. place_after m u a) node))
    where
      own : (n0 : Node) → Doing (Live p) m place.node n0 → n0 ≡ Alone (Live p) (SetsIt y (term_of g))
      own n0 (a, i, j) = by a i (subst (λ u. Agrees m u a) node j)
        where
          by : (a : Act) → act_of n0 (Live p) ≡ Some a → Agrees m (code.Set y g next) a → n0 ≡ Alone (Live p) (SetsIt y (term_of g))
          by (Does (SetsIt z t)) i j = act_does n0 p (SetsIt z t) i ∙ ap (λ u. Alone (Live p) (SetsIt u t)) (sym j.0) ∙ ap (λ u. Alone (Live p) (SetsIt y u)) (sym j.1)
          by _ i j = absurd j

  does_show : (g : Expr) (next : CodeId) (v : ℤ) (x : Event) (m' : NetworkState) → place.node ≡ code.Show g next → x ≡ event.Show p (value_of (term_of g) machine.vars) → m' ≡ moved n p next machine.vars place.sessions → It x m'
  does_show g next v x m' node xi mi =
      subst (λ z. It z m') (sym xi) (by_itself e procs sets lists hosts bd c n co p machine there place at not_call not_end (Shows (term_of g)) v (event.Show p (value_of (term_of g) machine.vars)) tt refl tt (λ t. refl) Keeps next machine.vars m' mi
      (λ n0 w z. does_own (Shows (term_of g)) v n0 z (own n0 w) tt) (ap fork_of node) (vars_kept e procs sets lists hosts bd c n co p machine there place at not_call not_end next place.sessions) (λ h. co.plain p machine there) (λ a i. ap (λ u. place_after m u a) node))
    where
      own : (n0 : Node) → Doing (Live p) m place.node n0 → n0 ≡ Alone (Live p) (Shows (term_of g))
      own n0 (a, i, j) = by a i (subst (λ u. Agrees m u a) node j)
        where
          by : (a : Act) → act_of n0 (Live p) ≡ Some a → Agrees m (code.Show g next) a → n0 ≡ Alone (Live p) (Shows (term_of g))
          by (Does (Shows t)) i j = act_does n0 p (Shows t) i ∙ ap (λ u. Alone (Live p) (Shows u)) (sym j)
          by _ i j = absurd j

  does_ask : (y f : NameId) (g h' : Expr) (next : CodeId) (v : ℤ) (x : Event) (m' : NetworkState) → MayAnswer (meaning_named hosts f) (number_of (value_of (term_of g) machine.vars)) (number_of (value_of (term_of h') machine.vars)) v → place.node ≡ code.Host y f g h' next → x ≡ event.Host p y f (number_of (value_of (term_of g) machine.vars)) (number_of (value_of (term_of h') machine.vars)) v → m' ≡ moved n p next (fin.insert machine.vars y.0 (Int v)) place.sessions → It x m'
  does_ask y f g h' next v x m' an node xi mi =
      subst (λ z. It z m') (sym xi) (by_itself e procs sets lists hosts bd c n co p machine there place at not_call not_end (Asks y f (term_of g) (term_of h')) v (event.Host p y f (number_of (value_of (term_of g) machine.vars)) (number_of (value_of (term_of h') machine.vars)) v) tt refl tt (λ t. refl) (Assigns p y (Int v)) next (fin.insert machine.vars y.0 (Int v)) m' mi
      (λ n0 w z. does_own (Asks y f (term_of g) (term_of h')) v n0 z (own n0 w) (subst (λ u. MayAnswer (meaning_named hosts f) (number_of (value_of (term_of g) u)) (number_of (value_of (term_of h') u)) v) (sym mine) an)) (ap fork_of node) (vars_assigned e procs sets lists hosts bd c n co p machine there place at not_call not_end next place.sessions y (Int v)) (λ h. plain_insert machine.vars y (Int v) (co.plain p machine there) tt) (λ a i. ap (λ u. place_after m u a) node))
    where
      own : (n0 : Node) → Doing (Live p) m place.node n0 → n0 ≡ Alone (Live p) (Asks y f (term_of g) (term_of h'))
      own n0 (a, i, j) = by a i (subst (λ u. Agrees m u a) node j)
        where
          by : (a : Act) → act_of n0 (Live p) ≡ Some a → Agrees m (code.Host y f g h' next) a → n0 ≡ Alone (Live p) (Asks y f (term_of g) (term_of h'))
          by (Does (Asks z f' t t')) i j = act_does n0 p (Asks z f' t t') i ∙ ap (λ u. Alone (Live p) (Asks u f' t t')) (sym j.0) ∙ ap (λ u. Alone (Live p) (Asks y u t t')) (sym j.1) ∙ ap (λ u. Alone (Live p) (Asks y f u t')) (sym j.2) ∙ ap (λ u. Alone (Live p) (Asks y f (term_of g) u)) (sym j.3)
          by _ i j = absurd j

  -- ---- whatever stands there

  pub by_node : (cap : Option ℕ) (v : ℤ) (x : Event) (m' : NetworkState) (h : CodeNode) → place.node ≡ h → PlaceAnswers hosts machine.vars (Some (record { node = h; sessions = place.sessions })) v → node_makes cap n p v machine.vars place.sessions h ≡ Some (Makes x m') → It x m'
  by_node cap v x m' (code.Join d r k next) is an h = absurd cc
  by_node cap v x m' (code.Send k b y next) is an h = send_value cap k b y next x m' is h
  by_node cap v x m' (code.Recv k a y next) is an h = receive_value k a y next x m' is h
  by_node cap v x m' (code.Pick k b l next) is an h = send_label cap k b l next x m' is h
  by_node cap v x m' (code.Branch k a arms) is an h = receive_label k a arms x m' is h
  by_node cap v x m' (code.Throw k b s next) is an h = send_part cap k b s next x m' is h
  by_node cap v x m' (code.Catch k a s next) is an h = receive_part k a s next x m' is h
  by_node cap v x m' (code.Set y g next) is an h = does_set y g next v x m' is (cc) (cc)
  by_node cap v x m' (code.Show g next) is an h = does_show g next v x m' is (cc) (cc)
  by_node cap v x m' (code.Host y f g g' next) is an h = does_ask y f g g' next v x m' an is (cc) (cc)
  by_node cap v x m' (code.If y first second) is an h =
      let i : x ≡ event.Test p (truth_of (value_of (term_of y) machine.vars)) = cc in
      let j : m' ≡ moved n p (if truth_of (value_of (term_of y) machine.vars) then first else second) machine.vars place.sessions = cc in
      subst (λ z. It z m') (sym i) (by_testing e procs sets lists hosts bd c n co p machine there place at not_call not_end y first second is m' j)
  by_node cap v x m' (code.Call f q ss) is an h = absurd cc
  by_node cap v x m' code.End is an h = absurd cc

-- What a process of the network does by itself is a step of the choreography, and the two correspond after it
pub acts_too : (e : Endpoints) (procs : List Procedure) (sets : NameId → ParameterSets) (lists : ListedHolders) (hosts : Hosts) (bd : Bodies e procs sets lists) (c : Configuration) (n : NetworkState) (co : Corresponds e procs sets lists c n) (cap : Option ℕ) (p : ℕ) (v : ℤ) (x : Event) (m' : NetworkState) → MachineAnswers hosts e (slice_get n.machines p) v → makes e cap n p v ≡ Some (Makes x m') → Did e procs sets lists hosts bd c n co x m'
acts_too e procs sets lists hosts bd c n co cap p v x m' an h = at_machine (slice_get n.machines p) refl an h
  where
    at_machine : (o : Option Machine) → slice_get n.machines p ≡ o → MachineAnswers hosts e o v → machine_makes e cap n p v o ≡ Some (Makes x m') → Did e procs sets lists hosts bd c n co x m'
    at_machine None i an h = absurd cc
    at_machine (Some machine) i an h = at_place (place_of e machine) refl an h
      where
        at_place : (o : Option Place) → place_of e machine ≡ o → PlaceAnswers hosts machine.vars o v → place_makes cap n p v machine.vars o ≡ Some (Makes x m') → Did e procs sets lists hosts bd c n co x m'
        at_place None j an h = absurd cc
        at_place (Some place) j an h = by_node e procs sets lists hosts bd c n co p machine i place j (no_call place.node h) (no_end place.node h) cap v x m' place.node refl an h
          where
            no_call : (d : CodeNode) → node_makes cap n p v machine.vars place.sessions d ≡ Some (Makes x m') → NotCall d
            no_call (code.Call f q ss) k = absurd cc
            no_call _ k = tt

            no_end : (d : CodeNode) → node_makes cap n p v machine.vars place.sessions d ≡ Some (Makes x m') → d ≡ code.End → ⊥
            no_end d k is = let u : node_makes cap n p v machine.vars place.sessions code.End ≡ Some (Makes x m') = subst (λ y. node_makes cap n p v machine.vars place.sessions y ≡ Some (Makes x m')) is k in cc
