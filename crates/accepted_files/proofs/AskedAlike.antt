-- A run makes the same events with other host functions that mean the same where it asks them.
use Rattle.std.proofs.Common.{◌≡◌, ℕ, zero, suc, ◌&&◌, ◌<◌, Bool, true, false, List, [], ◌∷◌, ◌++◌, length, Option, Some, None, ℤ, refl, sym, ◌∙◌, subst, arith}
use Rattle.std.specs.Prelude.{All, slice_get, nat_lt}
use Rattle.std.specs.List.{AllByRecursion}
use Rattle.std.specs.FinMap as fin
use Rattle.std.proofs.lemmas.Bool.Decides.{nat_tests}
use Rattle.std.proofs.lemmas.List.Elements.{All-head, All-tail}
use Rattle.chor_base.specs.declared.names.NameId.{NameId}
use Rattle.chor_base.specs.declared.event.Event.{Event}
use Rattle.chor_base.specs.declared.event.Event.TheVariants as event
use Rattle.chor_base.specs.declared.value.Load.{Load}
use Rattle.chor_base.specs.declared.value.Load.TheVariants.{Value as Carries, Label as Picks}
use Rattle.chor_base.specs.Events.{Triple}
use Rattle.chor_base.specs.Expr.{term_of, value_of, number_of, truth_of}
use Rattle.chor_base.specs.Meaning.{Hosts, meaning_named, MayAnswer}
use Rattle.chor_base.specs.NameMap.{Variables}
use Rattle.chor_base.specs.Words.{AllDistinct}
use Rattle.chor_host.specs.Functions.{Function, hosts_in}
use Rattle.chor_host.proofs.Meanings.{by_number}
use Rattle.endpoint_code.specs.declared.code.CodeId.{CodeId}
use Rattle.endpoint_code.specs.declared.code.CodeNode.{CodeNode}
use Rattle.endpoint_code.specs.declared.code.CodeNode.TheVariants.{Join, Send, Recv, Pick, Branch, Throw, Catch, Set, Show, Host, If, Call, End}
use Rattle.endpoint_code.specs.declared.endpoints.Procedure.{Procedure}
use Rattle.endpoint_code.specs.declared.endpoints.Endpoints.{Endpoints}
use Rattle.endpoint_code.specs.Kept.{has_name, has_text, term_there, node_there}
use Rattle.endpoint_code.specs.Network.{Sessions, Machine, NetworkState, Place, Makes, Taking, Goes, queue_of, has_room, put_if, puts, part_load, takes_value, takes_label, takes_part, went, takes_from, takes, moved, procedure_of, passed, node_at, at_node, body_place, place_in, place_of, place_at, node_makes, place_makes, machine_makes, makes, starts, PlaceAnswers, MachineAnswers, NetworkSteps, acts, begins}
use Rattle.endpoint_code.specs.NetworkRuns.{NetworkLeads}
use Rattle.endpoint_code.specs.Scheduled.{Close, chosen_at, chosen, Chooses, IsScheduled, closed, goes}
use Rattle.endpoint_code.proofs.Begun.{begun_as}

-- the host function that an event asks means the same
abbrev pub AsksAlike : Hosts → Hosts → Event → Type 0
AsksAlike hosts hosts' (event.Host p x g a b v) = meaning_named hosts g ≡ meaning_named hosts' g
AsksAlike hosts hosts' _ = Unit {0}

-- its name is in the table of the programs
abbrev pub IsAskedThere : Endpoints → Event → Type 0
IsAskedThere e (event.Host p x g a b v) = g.0 < length e.names
IsAskedThere e _ = Unit {0}

module _ (e : Endpoints) (capacity : Option ℕ) (hosts hosts' : Hosts) where
  -- ---- one process

  module _ (n m : NetworkState) (p : ℕ) (v : ℤ) (x : Event) (alike : AsksAlike hosts hosts' x) where
    -- what is made at a place has an answer there that both allow
    at_place : (vars : Variables) (node : CodeNode) (ss : Sessions) → node_makes capacity n p v vars ss node ≡ Some (Makes x m)
        → PlaceAnswers hosts vars (Some (record { node = node; sessions = ss })) v → PlaceAnswers hosts' vars (Some (record { node = node; sessions = ss })) v
    at_place vars (Join c r k next) ss h w = tt
    at_place vars (Send k b g next) ss h w = tt
    at_place vars (Recv k b g next) ss h w = tt
    at_place vars (Pick k b g next) ss h w = tt
    at_place vars (Branch k b arms) ss h w = tt
    at_place vars (Throw k b g next) ss h w = tt
    at_place vars (Catch k b g next) ss h w = tt
    at_place vars (Set y g next) ss h w = tt
    at_place vars (Show g next) ss h w = tt
    at_place vars (Host y f g t next) ss h w =
        let same : event.Host p y f (number_of (value_of (term_of g) vars)) (number_of (value_of (term_of t) vars)) v ≡ x = cc in
        let means : meaning_named hosts f ≡ meaning_named hosts' f = subst (AsksAlike hosts hosts') (sym same) alike in
        subst (λ o. MayAnswer o (number_of (value_of (term_of g) vars)) (number_of (value_of (term_of t) vars)) v) means w
    at_place vars (If g c d) ss h w = tt
    at_place vars (Call f q ks) ss h w = tt
    at_place vars End ss h w = tt

    at_machine : (o : Option Machine) → machine_makes e capacity n p v o ≡ Some (Makes x m) → MachineAnswers hosts e o v → MachineAnswers hosts' e o v
    at_machine None h w = tt
    at_machine (Some k) h w = go (place_of e k) h w
      where
        go : (o : Option Place) → place_makes capacity n p v k.vars o ≡ Some (Makes x m) → PlaceAnswers hosts k.vars o v → PlaceAnswers hosts' k.vars o v
        go None h w = tt
        go (Some q) h w = at_place k.vars q.node q.sessions h w

    -- what is made with the least partners has such an answer too
    chosen_answer : chosen e capacity n p v ≡ Some (Makes x m) → MachineAnswers hosts e (slice_get n.machines p) v → MachineAnswers hosts' e (slice_get n.machines p) v
    chosen_answer made w = go (slice_get n.machines p) refl (at_machine (slice_get n.machines p)) made w
      where
        go : (o : Option Machine) → slice_get n.machines p ≡ o → (makes e capacity n p v ≡ Some (Makes x m) → MachineAnswers hosts e o v → MachineAnswers hosts' e o v)
            → chosen_at e capacity n p v (place_at e o) ≡ Some (Makes x m) → MachineAnswers hosts e o v → MachineAnswers hosts' e o v
        go None i by h w = tt
        go (Some k) i by h w = there (place_of e k) by h w
          where
            nodes : (node : CodeNode) (ss : Sessions) → (makes e capacity n p v ≡ Some (Makes x m) → PlaceAnswers hosts k.vars (Some (record { node = node; sessions = ss })) v → PlaceAnswers hosts' k.vars (Some (record { node = node; sessions = ss })) v)
                → chosen_at e capacity n p v (Some (record { node = node; sessions = ss })) ≡ Some (Makes x m)
                → PlaceAnswers hosts k.vars (Some (record { node = node; sessions = ss })) v → PlaceAnswers hosts' k.vars (Some (record { node = node; sessions = ss })) v
            nodes (Join c r s next) ss by h w = tt
            nodes (Send s b g next) ss by h w = tt
            nodes (Recv s b g next) ss by h w = tt
            nodes (Pick s b g next) ss by h w = tt
            nodes (Branch s b arms) ss by h w = tt
            nodes (Throw s b g next) ss by h w = tt
            nodes (Catch s b g next) ss by h w = tt
            nodes (Set y g next) ss by h w = tt
            nodes (Show g next) ss by h w = tt
            nodes (Host y f g t next) ss by h w = by h w
            nodes (If g c d) ss by h w = tt
            nodes (Call f q ks) ss by h w = tt
            nodes End ss by h w = tt

            there : (o : Option Place) → (makes e capacity n p v ≡ Some (Makes x m) → PlaceAnswers hosts k.vars o v → PlaceAnswers hosts' k.vars o v)
                → chosen_at e capacity n p v o ≡ Some (Makes x m) → PlaceAnswers hosts k.vars o v → PlaceAnswers hosts' k.vars o v
            there None by h w = tt
            there (Some q) by h w = nodes q.node q.sessions by h w

  step_alike : (n m : NetworkState) (x : Event) → AsksAlike hosts hosts' x → NetworkSteps e hosts capacity n x m → NetworkSteps e hosts' capacity n x m
  step_alike n m x alike (acts p v answers made) = acts p v (at_machine n m p v x alike (slice_get n.machines p) made answers) made
  step_alike n m x alike (begins c ps made) = begins c ps made

  choice_alike : (n m : NetworkState) (p : ℕ) (x : Event) → AsksAlike hosts hosts' x → Chooses e hosts capacity n p x m → Chooses e hosts' capacity n p x m
  choice_alike n m p x alike c = record { answer = c.answer; allowed = chosen_answer n m p c.answer x alike c.made c.allowed; made = c.made }

  -- ---- runs

  pub leads_alike : (h : List Event) (n m : NetworkState) → AllByRecursion (AsksAlike hosts hosts') h → NetworkLeads e hosts capacity n h m → NetworkLeads e hosts' capacity n h m
  leads_alike [] n m all w = w
  leads_alike (x ∷ xs) n m (one, all) (mid, step, rest) = (mid, step_alike n mid x one step, leads_alike xs mid m all rest)

  pub scheduled_alike : (seed steps : ℕ) (h : List Event) (n last : NetworkState) (events : ℕ) (close : Close) → AllByRecursion (AsksAlike hosts hosts') h
      → IsScheduled e hosts capacity seed steps n events h last close → IsScheduled e hosts' capacity seed steps n events h last close
  scheduled_alike seed steps [] n last events close all (closed c) = closed c
  scheduled_alike seed steps (x ∷ xs) n last events close (one, all) (goes {m = m} {p = p} a b picks chooses rest) =
      goes a b picks (choice_alike n m p x one chooses) (scheduled_alike seed steps xs m last (suc events) close all rest)

-- ---- the names that are asked

all_at : {X : Type 0} (P : X → Type 0) (xs : List X) (i : ℕ) (x : X) → All P xs → slice_get xs i ≡ Some x → P x
all_at P [] i x all h = absurd cc
all_at P (y ∷ ys) zero x all h = let same : y ≡ x = cc in subst P same (All-head P y ys all)
all_at P (y ∷ ys) (suc i) x all h = all_at P ys i x (All-tail P y ys all) h

module _ (e : Endpoints) where
  abbrev Fine : CodeNode → Type 0
  Fine n = node_there (has_name e.names) (has_text e.texts) n ≡ true

  fine_at : (id : CodeId) (n : CodeNode) → node_at e id ≡ Some n → Fine n
  fine_at id n h = all_at Fine e.code.nodes id.0 n e.numbered.in_nodes h

  -- where a process stands, the names of the node are in the table
  fine_place : (id : CodeId) (k : Sessions) (q : Place) → place_in e (node_at e id) k ≡ Some q → Fine q.node
  fine_place id k q h = go (node_at e id) refl h
    where
      plain : (n m : CodeNode) (ss : Sessions) → node_at e id ≡ Some n → Some (record { node = n; sessions = ss }) ≡ Some q → Fine q.node
      plain n m ss i j = let same : record { node = n; sessions = ss } ≡ q = cc in subst (λ (z : Place). Fine z.node) same (fine_at id n i)

      body : (o : Option Procedure) (ss : List NameId) (ks : Sessions) → body_place e o ss ks ≡ Some q → Fine q.node
      body None ss ks j = absurd cc
      body (Some u) ss ks j = at_body (node_at e u.body) refl j
        where
          at_body : (o : Option CodeNode) → node_at e u.body ≡ o → at_node o (passed u.sessions ss ks) ≡ Some q → Fine q.node
          at_body None i j = absurd cc
          at_body (Some n) i j = let same : record { node = n; sessions = passed u.sessions ss ks } ≡ q = cc in subst (λ (z : Place). Fine z.node) same (fine_at u.body n i)

      go : (o : Option CodeNode) → node_at e id ≡ o → place_in e o k ≡ Some q → Fine q.node
      go None i j = absurd cc
      go (Some (Join c r s next)) i j = plain (Join c r s next) End k i j
      go (Some (Send s b x next)) i j = plain (Send s b x next) End k i j
      go (Some (Recv s a x next)) i j = plain (Recv s a x next) End k i j
      go (Some (Pick s b l next)) i j = plain (Pick s b l next) End k i j
      go (Some (Branch s a arms)) i j = plain (Branch s a arms) End k i j
      go (Some (Throw s b h next)) i j = plain (Throw s b h next) End k i j
      go (Some (Catch s a h next)) i j = plain (Catch s a h next) End k i j
      go (Some (Set x v next)) i j = plain (Set x v next) End k i j
      go (Some (Show v next)) i j = plain (Show v next) End k i j
      go (Some (Host x f v w next)) i j = plain (Host x f v w next) End k i j
      go (Some (If v c d)) i j = plain (If v c d) End k i j
      go (Some (Call f p ss)) i j = body (procedure_of e.procedures f p) ss k j
      go (Some End) i j = plain End End k i j

  is_below : (a b : ℕ) → nat_lt a b ≡ true → a < b
  is_below a b h = grind (arith, nat_tests)

  named_there : (x f : NameId) (a b : Bool) → (has_name e.names x && has_name e.names f && a && b) ≡ true → f.0 < length e.names
  named_there x f a b h = go (has_name e.names x) (has_name e.names f) refl h
    where
      go : (c d : Bool) → has_name e.names f ≡ d → (c && d && a && b) ≡ true → f.0 < length e.names
      go c true i h = is_below f.0 (length e.names) i
      go true false i h = absurd cc
      go false false i h = absurd cc

  -- what an event asks has a name in the table
  module _ (n m : NetworkState) (x : Event) where
    put_plain : (b : Bool) (k : NetworkState) (p : ℕ) (t : Triple) (l : Load) → put_if b k p t l ≡ Some (Makes x m) → IsAskedThere e x
    put_plain true k p t l h = let same : event.Send p t.0 t.1 t.2 l ≡ x = cc in subst (IsAskedThere e) same tt
    put_plain false k p t l h = absurd cc

    puts_plain : (capacity : Option ℕ) (k : NetworkState) (p : ℕ) (b : NameId) (o : Option (ℕ × NameId)) (l : Option Load) → puts capacity k p b o l ≡ Some (Makes x m) → IsAskedThere e x
    puts_plain capacity k p b (Some (s, a)) (Some l) h = put_plain (has_room capacity (queue_of k (s, a, b))) k p (s, a, b) l h
    puts_plain capacity k p b (Some y) None h = absurd cc
    puts_plain capacity k p b None l h = absurd cc

    takes_plain : (p : ℕ) (a : NameId) (o : Option (ℕ × NameId)) (f : Load → Option Taking) → takes n p a o f ≡ Some (Makes x m) → IsAskedThere e x
    takes_plain p a None f h = absurd cc
    takes_plain p a (Some (s, b)) f h = go (queue_of n (s, a, b)) h
      where
        taken : (l : Load) (rest : List Load) (o : Option Taking) → went n p (s, a, b) l rest o ≡ Some (Makes x m) → IsAskedThere e x
        taken l rest None j = absurd cc
        taken l rest (Some (Goes next vars k)) j = let same : event.Recv p s a b l ≡ x = cc in subst (IsAskedThere e) same tt

        go : (q : List Load) → takes_from n p (s, a, b) f q ≡ Some (Makes x m) → IsAskedThere e x
        go [] j = absurd cc
        go (l ∷ rest) j = taken l rest (f l) j

    acts_there : (capacity : Option ℕ) (p : ℕ) (v : ℤ) (vars : Variables) (node : CodeNode) (ss : Sessions) → Fine node → node_makes capacity n p v vars ss node ≡ Some (Makes x m) → IsAskedThere e x
    acts_there capacity p v vars (Send k b g next) ss fine h = puts_plain capacity (moved n p next vars ss) p b (fin.get ss k.0) (Some (Carries (value_of (term_of g) vars))) h
    acts_there capacity p v vars (Pick k b l next) ss fine h = puts_plain capacity (moved n p next vars ss) p b (fin.get ss k.0) (Some (Picks l)) h
    acts_there capacity p v vars (Throw k b g next) ss fine h = puts_plain capacity (moved n p next vars (fin.remove ss g.0)) p b (fin.get ss k.0) (part_load (fin.get ss g.0)) h
    acts_there capacity p v vars (Recv k a y next) ss fine h = takes_plain p a (fin.get ss k.0) (takes_value next vars ss y) h
    acts_there capacity p v vars (Branch k a arms) ss fine h = takes_plain p a (fin.get ss k.0) (takes_label arms vars ss) h
    acts_there capacity p v vars (Catch k a g next) ss fine h = takes_plain p a (fin.get ss k.0) (takes_part next vars ss g) h
    acts_there capacity p v vars (Set y g next) ss fine h = let same : event.Set p y (value_of (term_of g) vars) ≡ x = cc in subst (IsAskedThere e) same tt
    acts_there capacity p v vars (Show g next) ss fine h = let same : event.Show p (value_of (term_of g) vars) ≡ x = cc in subst (IsAskedThere e) same tt
    acts_there capacity p v vars (Host y f g t next) ss fine h =
        let same : event.Host p y f (number_of (value_of (term_of g) vars)) (number_of (value_of (term_of t) vars)) v ≡ x = cc in
        subst (IsAskedThere e) same
        (named_there y f (term_there (has_name e.names) (has_text e.texts) (term_of g)) (term_there (has_name e.names) (has_text e.texts) (term_of t)) fine)
    acts_there capacity p v vars (If g c d) ss fine h = let same : event.Test p (truth_of (value_of (term_of g) vars)) ≡ x = cc in subst (IsAskedThere e) same tt
    acts_there capacity p v vars (Join c r k next) ss fine h = absurd cc
    acts_there capacity p v vars (Call f q ks) ss fine h = absurd cc
    acts_there capacity p v vars End ss fine h = absurd cc

    made_there : (capacity : Option ℕ) (p : ℕ) (v : ℤ) (o : Option Machine) → machine_makes e capacity n p v o ≡ Some (Makes x m) → IsAskedThere e x
    made_there capacity p v None h = absurd cc
    made_there capacity p v (Some k) h = go (place_of e k) refl h
      where
        go : (o : Option Place) → place_of e k ≡ o → place_makes capacity n p v k.vars o ≡ Some (Makes x m) → IsAskedThere e x
        go None i j = absurd cc
        go (Some q) i j = acts_there capacity p v k.vars q.node q.sessions (fine_place k.at k.sessions q i) j

    start_there : (c : NameId) (ps : List ℕ) → starts e n c ps ≡ Some (Makes x m) → IsAskedThere e x
    start_there c ps h = subst (IsAskedThere e) (sym (begun_as e n c ps x m h).event_is) tt

    step_there : (hosts : Hosts) (capacity : Option ℕ) → NetworkSteps e hosts capacity n x m → IsAskedThere e x
    step_there hosts capacity (acts p v answers made) = made_there capacity p v (slice_get n.machines p) made
    step_there hosts capacity (begins c ps made) = start_there c ps made

  pub leads_there : (hosts : Hosts) (capacity : Option ℕ) (h : List Event) (n m : NetworkState) → NetworkLeads e hosts capacity n h m → AllByRecursion (IsAskedThere e) h
  leads_there hosts capacity [] n m w = tt
  leads_there hosts capacity (x ∷ xs) n m (mid, step, rest) = (step_there n mid x hosts capacity step, leads_there hosts capacity xs mid m rest)

-- ---- a table with more names

there_still : {X : Type 0} (xs more : List X) (i : ℕ) (x : X) → slice_get xs i ≡ Some x → slice_get (xs ++ more) i ≡ Some x
there_still [] more i x h = absurd cc
there_still (y ∷ ys) more zero x h = h
there_still (y ∷ ys) more (suc i) x h = there_still ys more i x h

at_number : {X : Type 0} (xs : List X) (i : ℕ) → i < length xs → (x : X) × (slice_get xs i ≡ Some x)
at_number [] i l = absurd (omega (arith, l))
at_number (x ∷ xs) zero l = (x, refl)
at_number (x ∷ xs) (suc i) l = at_number xs i (omega (arith, l))

-- what has a number in the table means the same with more names in it
pub means_same : (names more : List (List ℕ)) (fs : List Function) (g : NameId) → AllDistinct (names ++ more) → g.0 < length names
    → meaning_named (hosts_in (names ++ more) fs) g ≡ meaning_named (hosts_in names fs) g
means_same names more fs g differ inside =
    let w = at_number names g.0 inside in
    let fewer : AllDistinct names = λ i j u h k. differ i j u (there_still names more i u h) (there_still names more j u k) in
    by_number (names ++ more) fs g w.0 differ (there_still names more g.0 w.0 w.1) ∙ sym (by_number names fs g w.0 fewer w.1)

-- so an event whose function's name is there asks alike
pub asks_alike : (e : Endpoints) (more : List (List ℕ)) (fs : List Function) → AllDistinct (e.names ++ more) → (x : Event) → IsAskedThere e x → AsksAlike (hosts_in (e.names ++ more) fs) (hosts_in e.names fs) x
asks_alike e more fs differ (event.Start c s ps) h = tt
asks_alike e more fs differ (event.Send p s a b l) h = tt
asks_alike e more fs differ (event.Recv p s a b l) h = tt
asks_alike e more fs differ (event.Test p b) h = tt
asks_alike e more fs differ (event.Set p x v) h = tt
asks_alike e more fs differ (event.Show p v) h = tt
asks_alike e more fs differ (event.Host p x g a b v) h = means_same e.names more fs g differ h

pub alike_turned : (hosts hosts' : Hosts) (x : Event) → AsksAlike hosts hosts' x → AsksAlike hosts' hosts x
alike_turned hosts hosts' (event.Start c s ps) h = tt
alike_turned hosts hosts' (event.Send p s a b l) h = tt
alike_turned hosts hosts' (event.Recv p s a b l) h = tt
alike_turned hosts hosts' (event.Test p b) h = tt
alike_turned hosts hosts' (event.Set p x v) h = tt
alike_turned hosts hosts' (event.Show p v) h = tt
alike_turned hosts hosts' (event.Host p x g a b v) h = sym h

pub each : (P Q : Event → Type 0) → ((x : Event) → P x → Q x) → (h : List Event) → AllByRecursion P h → AllByRecursion Q h
each P Q f [] w = tt
each P Q f (x ∷ xs) (one, all) = (f x one, each P Q f xs all)
