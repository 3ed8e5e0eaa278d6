-- An action at a scoped node keeps the code scoped, and changes the sessions by at most one role that is given or gained.
use Rattle.std.proofs.Common.{◌≡◌, ℕ, Bool, true, false, cond, ◌&&◌, ◌==◌, List, [], ◌∷◌, refl, sym, ap, ◌∙◌, subst, Option, Some, None, ℤ, pos, inl, inr, ◌⊎◌, if◌then◌else◌, unwrap_or}
use Rattle.std.specs.FinMap as fin
use Rattle.std.proofs.lemmas.Bool.{and_parts, true≢false}
use Rattle.chor_base.specs.declared.names.NameId.{NameId}
use Rattle.chor_base.specs.declared.value.Value.{Value}
use Rattle.chor_base.specs.declared.value.Value.TheVariants.{Int, Bool as Truth, Text, Part as Endpoint}
use Rattle.chor_base.specs.declared.value.Load.{Load}
use Rattle.chor_base.specs.declared.value.Load.TheVariants.{Value as Carries, Label as Picks}
use Rattle.chor_base.specs.declared.expr.UnOp.{UnOp}
use Rattle.chor_base.specs.declared.expr.UnOp.TheVariants.{Neg, Not}
use Rattle.chor_base.specs.declared.expr.BinOp.{BinOp}
use Rattle.chor_base.specs.declared.expr.BinOp.TheVariants.{Add, Sub, Mul, Div, Eq, Ne, Lt, Le, And, Or}
use Rattle.chor_base.specs.Expr.{Term, Constant, Variable, Unary, Binary, term_of, value_of, unary, binary}
use Rattle.chor_base.specs.NameMap.{Variables}
use Rattle.endpoint_code.specs.declared.code.CodeId.{CodeId}
use Rattle.endpoint_code.specs.declared.code.CodeNode.{CodeNode}
use Rattle.endpoint_code.specs.declared.code.CodeNode.TheVariants.{Join, Send, Recv, Pick, Branch, Throw, Catch, Set, Show, Host, If, Call, End}
use Rattle.endpoint_code.specs.declared.endpoints.Procedure.{Procedure}
use Rattle.endpoint_code.specs.declared.endpoints.Endpoints.{Endpoints}
use Rattle.endpoint_code.specs.Kept.{has_name, has_text, term_there, value_there, node_there}
use Rattle.endpoint_code.specs.Network.{Sessions, Machine, Place, Taking, Goes, node_at, procedure_of, passed, at_node, body_place, place_in, place_of, part_load, arm_at, takes_value, takes_label, takes_part, in_arm}
use Rattle.endpoint_code.specs.Faults.{HasNoNameFault, IsScoped, AllScoped, one_arm, AreDistinct, joins, sends, receives, picks, offers, gives, gains, sets, shows, asks, tests, calls, ends}
use Rattle.endpoint_machine.proofs.Actings.{all_at}
use Rattle.endpoint_machine.proofs.Scopes.{NodeScoped, scoped_node, procedure_all}
use Rattle.event_orders.proofs.Actions.{Action, Alone, Puts, Takes, machine_at, puts_on, takes_on, action_at}
use Rattle.event_orders.proofs.Owners.{SessionRole, carries, is_plain, plain_none, put_cases, Owners, OwnsRoles, HasScopedCode, passed_owned}

-- ---- values

abbrev ArePlain : Variables → Type 0
ArePlain vars = (x : ℕ) (v : Value) → fin.get vars x ≡ Some v → is_plain v ≡ true

unary_plain : (op : UnOp) (v : Value) → is_plain (unary op v) ≡ true
unary_plain Neg v = refl
unary_plain Not v = refl

binary_plain : (op : BinOp) (v w : Value) → is_plain (binary op v w) ≡ true
binary_plain Add v w = refl
binary_plain Sub v w = refl
binary_plain Mul v w = refl
binary_plain Div v w = refl
binary_plain Eq v w = refl
binary_plain Ne v w = refl
binary_plain Lt v w = refl
binary_plain Le v w = refl
binary_plain And v w = refl
binary_plain Or v w = refl

literal_plain : (n : NameId → Bool) (t : ℕ → Bool) (v : Value) → value_there n t v ≡ true → is_plain v ≡ true
literal_plain n t (Int z) h = refl
literal_plain n t (Truth b) h = refl
literal_plain n t (Text x) h = refl
literal_plain n t (Endpoint s r) h = absurd (true≢false (sym h))

value_plain : (n : NameId → Bool) (t : ℕ → Bool) (term : Term) (vars : Variables) → term_there n t term ≡ true → ArePlain vars → is_plain (value_of term vars) ≡ true
value_plain n t (Constant v) vars h plain = literal_plain n t v h
value_plain n t (Variable x) vars h plain = go (fin.get vars x.0) refl
  where
    go : (o : Option Value) → fin.get vars x.0 ≡ o → is_plain (unwrap_or o (Int (pos 0))) ≡ true
    go None i = refl
    go (Some v) i = plain x.0 v i
value_plain n t (Unary op e) vars h plain = unary_plain op (value_of e vars)
value_plain n t (Binary op e f) vars h plain = binary_plain op (value_of e vars) (value_of f vars)

set_plain : (vars : Variables) (x : ℕ) (v : Value) → ArePlain vars → is_plain v ≡ true → ArePlain (fin.insert vars x v)
set_plain vars x v plain h y w g = go (put_cases vars x y v w g)
  where
    go : ((x ≡ y) × (v ≡ w)) ⊎ ((x ≡ y → ⊥) × (fin.get vars y ≡ Some w)) → is_plain w ≡ true
    go (inl a) = ap is_plain (sym a.1) ∙ h
    go (inr a) = plain y w a.1

-- ---- actions that change the sessions so

abbrev pub Sent : Sessions → Load → Sessions → Type 0
Sent m l new = (((part : SessionRole) → carries part l ≡ false) × (new ≡ m)) ⊎ ((h : ℕ) × (part : SessionRole) × (fin.get m h ≡ Some part) × (l ≡ Carries (Endpoint part.0 part.1)) × (new ≡ fin.remove m h))

abbrev pub Got : Sessions → Load → Sessions → Type 0
Got m l new = (((part : SessionRole) → carries part l ≡ false) × (new ≡ m)) ⊎ ((h : ℕ) × (part : SessionRole) × (l ≡ Carries (Endpoint part.0 part.1)) × (new ≡ fin.insert m h part))

abbrev pub KeepsOwners : Endpoints → Sessions → Action → Type 0
KeepsOwners e m (Alone x w) = HasScopedCode e w × (w.sessions ≡ m)
KeepsOwners e m (Puts t l w) = HasScopedCode e w × Sent m l w.sessions
KeepsOwners e m (Takes t f) = (l : Load) (next : CodeId) (vars : Variables) (new : Sessions) → f l ≡ Some (Goes next vars new) → HasScopedCode e (machine_at next vars new) × Got m l new

module _ (e : Endpoints) where
  standing_at : (bs : List NameId) (next : CodeId) (vars : Variables) (m : Sessions) → IsScoped e next bs → ArePlain vars → HasScopedCode e (machine_at next vars m)
  standing_at bs next vars m scoped plain = record { names = bs; scoped = scoped; plain = plain }

  alone_keeps : (m : Sessions) (x : _) (w : Machine) (d : Action) → HasScopedCode e w → w.sessions ≡ m → Some (Alone x w) ≡ Some d → KeepsOwners e m d
  alone_keeps m x w d s same h = let is : Alone x w ≡ d = cc in subst (KeepsOwners e m) is (s, same)

  puts_keeps : (m : Sessions) (b : NameId) (o : Option (ℕ × NameId)) (ol : Option Load) (w : Machine) (d : Action) → HasScopedCode e w → ((l : Load) → ol ≡ Some l → Sent m l w.sessions) → puts_on b o ol w ≡ Some d → KeepsOwners e m d
  puts_keeps m b (Some (s, a)) (Some l) w d st sent h = let is : Puts (s, a, b) l w ≡ d = cc in subst (KeepsOwners e m) is (st, sent l refl)
  puts_keeps m b (Some (s, a)) None w d st sent h = absurd cc
  puts_keeps m b None ol w d st sent h = absurd cc

  takes_keeps : (m : Sessions) (a : NameId) (o : Option (ℕ × NameId)) (f : Load → Option Taking) (d : Action)
      → ((l : Load) (next : CodeId) (vars : Variables) (new : Sessions) → f l ≡ Some (Goes next vars new) → HasScopedCode e (machine_at next vars new) × Got m l new) → takes_on a o f ≡ Some d → KeepsOwners e m d
  takes_keeps m a (Some (s, b)) f d fine h = let is : Takes (s, a, b) f ≡ d = cc in subst (KeepsOwners e m) is fine
  takes_keeps m a None f d fine h = absurd cc

  -- a load is received into a variable
  value_taken : (bs : List NameId) (next : CodeId) (vars : Variables) (m : Sessions) (x : NameId) → IsScoped e next bs → ArePlain vars → (v : Value) → is_plain v ≡ true → (next' : CodeId) (vars' : Variables) (new : Sessions)
      → Some (Goes next (fin.insert vars x.0 v) m) ≡ Some (Goes next' vars' new) → HasScopedCode e (machine_at next' vars' new) × Got m (Carries v) new
  value_taken bs next vars m x scoped plain v h next' vars' new i =
      let a : next ≡ next' = cc in
      let b : fin.insert vars x.0 v ≡ vars' = cc in
      let c : m ≡ new = cc in
      (standing_at bs next' vars' new (subst (λ (z : CodeId). IsScoped e z bs) a scoped) (subst ArePlain b (set_plain vars x.0 v plain h)), inl ((λ part. plain_none v h part), sym c))

  value_keeps : (bs : List NameId) (next : CodeId) (vars : Variables) (m : Sessions) (x : NameId) → IsScoped e next bs → ArePlain vars → (l : Load) (next' : CodeId) (vars' : Variables) (new : Sessions)
      → takes_value next vars m x l ≡ Some (Goes next' vars' new) → HasScopedCode e (machine_at next' vars' new) × Got m l new
  value_keeps bs next vars m x scoped plain (Carries (Int z)) next' vars' new i = value_taken bs next vars m x scoped plain (Int z) refl next' vars' new i
  value_keeps bs next vars m x scoped plain (Carries (Truth b)) next' vars' new i = value_taken bs next vars m x scoped plain (Truth b) refl next' vars' new i
  value_keeps bs next vars m x scoped plain (Carries (Text t)) next' vars' new i = value_taken bs next vars m x scoped plain (Text t) refl next' vars' new i
  value_keeps bs next vars m x scoped plain (Carries (Endpoint s r)) next' vars' new i = absurd cc
  value_keeps bs next vars m x scoped plain (Picks l) next' vars' new i = absurd cc

  arm_scoped : (bs : List NameId) (arms : List (NameId × CodeId)) (l : NameId) (next : CodeId) → AllScoped e arms bs → arm_at arms l ≡ Some next → IsScoped e next bs
  arm_scoped bs [] l next all h = absurd cc
  arm_scoped bs (arm ∷ arms) l next (one_arm {next = to} s rest) h = go (arm.0.0 == l.0) h (λ i. arm_scoped bs arms l next rest i)
    where
      go : (b : Bool) → cond b (Some arm.1) (arm_at arms l) ≡ Some next → (arm_at arms l ≡ Some next → IsScoped e next bs) → IsScoped e next bs
      go true i more = let same : arm.1 ≡ next = cc in subst (λ (z : CodeId). IsScoped e z bs) same s
      go false i more = more i

  label_keeps : (bs : List NameId) (arms : List (NameId × CodeId)) (vars : Variables) (m : Sessions) → AllScoped e arms bs → ArePlain vars → (l : Load) (next' : CodeId) (vars' : Variables) (new : Sessions)
      → takes_label arms vars m l ≡ Some (Goes next' vars' new) → HasScopedCode e (machine_at next' vars' new) × Got m l new
  label_keeps bs arms vars m all plain (Carries v) next' vars' new i = absurd cc
  label_keeps bs arms vars m all plain (Picks l) next' vars' new i = go (arm_at arms l) refl i
    where
      go : (o : Option CodeId) → arm_at arms l ≡ o → in_arm o vars m ≡ Some (Goes next' vars' new) → HasScopedCode e (machine_at next' vars' new) × Got m (Picks l) new
      go None h j = absurd cc
      go (Some next) h j =
          let a : next ≡ next' = cc in
          let b : vars ≡ vars' = cc in
          let c : m ≡ new = cc in
          (standing_at bs next' vars' new (arm_scoped bs arms l next' all (h ∙ ap Some a)) (subst ArePlain b plain), inl ((λ part. refl), sym c))

  part_keeps : (bs : List NameId) (next : CodeId) (vars : Variables) (m : Sessions) (h : NameId) → IsScoped e next bs → ArePlain vars → (l : Load) (next' : CodeId) (vars' : Variables) (new : Sessions)
      → takes_part next vars m h l ≡ Some (Goes next' vars' new) → HasScopedCode e (machine_at next' vars' new) × Got m l new
  part_keeps bs next vars m h scoped plain (Carries (Endpoint s r)) next' vars' new i =
      let a : next ≡ next' = cc in
      let b : vars ≡ vars' = cc in
      let c : fin.insert m h.0 (s, r) ≡ new = cc in
      (standing_at bs next' vars' new (subst (λ (z : CodeId). IsScoped e z bs) a scoped) (subst ArePlain b plain), inr (h.0, (s, r), refl, sym c))
  part_keeps bs next vars m h scoped plain (Carries (Int z)) next' vars' new i = absurd cc
  part_keeps bs next vars m h scoped plain (Carries (Truth z)) next' vars' new i = absurd cc
  part_keeps bs next vars m h scoped plain (Carries (Text z)) next' vars' new i = absurd cc
  part_keeps bs next vars m h scoped plain (Picks l) next' vars' new i = absurd cc

  given_away : (m : Sessions) (h : ℕ) (o : Option (ℕ × NameId)) → fin.get m h ≡ o → (l : Load) → part_load o ≡ Some l → Sent m l (fin.remove m h)
  given_away m h None i l j = absurd cc
  given_away m h (Some part) i l j = inr (h, part, i, (let f : Carries (Endpoint part.0 part.1) ≡ l = cc in sym f), refl)

  plain_sent : (m : Sessions) (l l' : Load) → ((part : SessionRole) → carries part l ≡ false) → Some l ≡ Some l' → Sent m l' m
  plain_sent m l l' none h = let same : l ≡ l' = cc in subst (λ (z : Load). Sent m z m) same (inl (none, refl))

  branch_standing : (bs : List NameId) (c d : CodeId) (vars : Variables) (m : Sessions) → IsScoped e c bs → IsScoped e d bs → ArePlain vars → (b : Bool) → HasScopedCode e (machine_at (if b then c else d) vars m)
  branch_standing bs c d vars m s t plain true = standing_at bs c vars m s plain
  branch_standing bs c d vars m s t plain false = standing_at bs d vars m t plain

  pub node_keeps : (n : NameId → Bool) (t : ℕ → Bool) (p : ℕ) (v : ℤ) (vars : Variables) (m : Sessions) (bs : List NameId) (node : CodeNode) → NodeScoped e node bs → node_there n t node ≡ true → ArePlain vars
      → (d : Action) → action_at p v vars m node ≡ Some d → KeepsOwners e m d
  node_keeps n t p v vars m bs (Send k b x next) s there plain d h =
      let ok = (and_parts (n k && n b) (term_there n t (term_of x)) there).1 in
      puts_keeps m b (fin.get m k.0) _ (machine_at next vars m) d (standing_at bs next vars m s.1 plain) (λ l i. plain_sent m _ l (λ part. plain_none (value_of (term_of x) vars) (value_plain n t (term_of x) vars ok plain) part) i) h
  node_keeps n t p v vars m bs (Pick k b l next) s there plain d h = puts_keeps m b (fin.get m k.0) _ (machine_at next vars m) d (standing_at bs next vars m s.1 plain) (λ l' i. plain_sent m (Picks l) l' (λ part. refl) i) h
  node_keeps n t p v vars m bs (Throw k b g next) s there plain d h = puts_keeps m b (fin.get m k.0) (part_load (fin.get m g.0)) (machine_at next vars (fin.remove m g.0)) d (standing_at _ next vars (fin.remove m g.0) s.2 plain) (given_away m g.0 (fin.get m g.0) refl) h
  node_keeps n t p v vars m bs (Recv k a x next) s there plain d h = takes_keeps m a (fin.get m k.0) (takes_value next vars m x) d (value_keeps bs next vars m x s.1 plain) h
  node_keeps n t p v vars m bs (Branch k a arms) s there plain d h = takes_keeps m a (fin.get m k.0) (takes_label arms vars m) d (label_keeps bs arms vars m s.1 plain) h
  node_keeps n t p v vars m bs (Catch k a g next) s there plain d h = takes_keeps m a (fin.get m k.0) (takes_part next vars m g) d (part_keeps _ next vars m g s.1 plain) h
  node_keeps n t p v vars m bs (Set x w next) s there plain d h =
      let ok = (and_parts (n x) (term_there n t (term_of w)) there).1 in
      let is = value_plain n t (term_of w) vars ok plain in
      alone_keeps m _ (machine_at next (fin.insert vars x.0 (value_of (term_of w) vars)) m) d (standing_at bs next _ m s (set_plain vars x.0 (value_of (term_of w) vars) plain is)) refl h
  node_keeps n t p v vars m bs (Show w next) s there plain d h = alone_keeps m _ (machine_at next vars m) d (standing_at bs next vars m s plain) refl h
  node_keeps n t p v vars m bs (Host x f a b next) s there plain d h = alone_keeps m _ (machine_at next (fin.insert vars x.0 (Int v)) m) d (standing_at bs next _ m s (set_plain vars x.0 (Int v) plain refl)) refl h
  node_keeps n t p v vars m bs (If w c g) s there plain d h = alone_keeps m _ _ d (branch_standing bs c g vars m s.0 s.1 plain _) refl h
  node_keeps n t p v vars m bs (Join c r k next) s there plain d h = absurd cc
  node_keeps n t p v vars m bs (Call f q ss) s there plain d h = absurd cc
  node_keeps n t p v vars m bs End s there plain d h = absurd cc

  -- ---- the node that a process has reached

  -- its code is scoped, and the process owns the roles of its sessions there
  pub record OwnsPlace (o : Owners) (p : ℕ) (q : Place) : Type 0 where
    pub id : CodeId
    pub names : List NameId
    pub scoped : IsScoped e id names
    pub found : node_at e id ≡ Some q.node
    pub owned : OwnsRoles o p q.sessions

  distinct_passed : {id : CodeId} {bs : List NameId} → IsScoped e id bs → (f g : NameId) (ss : List NameId) → node_at e id ≡ Some (Call f g ss) → AreDistinct ss
  distinct_passed (calls {ss = ts} h a b c d) f g ss i = let same : ts ≡ ss = cc in subst AreDistinct same d
  distinct_passed (joins h a b s) f g ss i = absurd cc
  distinct_passed (sends h a s) f g ss i = absurd cc
  distinct_passed (receives h a s) f g ss i = absurd cc
  distinct_passed (picks h a s) f g ss i = absurd cc
  distinct_passed (offers h a d s) f g ss i = absurd cc
  distinct_passed (gives h a b s) f g ss i = absurd cc
  distinct_passed (gains h a b s) f g ss i = absurd cc
  distinct_passed (sets h s) f g ss i = absurd cc
  distinct_passed (shows h s) f g ss i = absurd cc
  distinct_passed (asks h s) f g ss i = absurd cc
  distinct_passed (tests h s t) f g ss i = absurd cc
  distinct_passed (ends h) f g ss i = absurd cc

  plainly : (o : Owners) (p : ℕ) (w : Machine) → HasScopedCode e w → OwnsRoles o p w.sessions → (node : CodeNode) → node_at e w.at ≡ Some node → (q : Place) → Some (record { node = node; sessions = w.sessions }) ≡ Some q → OwnsPlace o p q
  plainly o p w st own node found q h =
      let same : record { node = node; sessions = w.sessions } ≡ q = cc in
      subst (OwnsPlace o p) same (record { id = w.at; names = st.names; scoped = st.scoped; found = found; owned = own })

  pub owned_place : HasNoNameFault e → (o : Owners) (p : ℕ) (w : Machine) → HasScopedCode e w → OwnsRoles o p w.sessions → (q : Place) → place_of e w ≡ Some q → OwnsPlace o p q
  owned_place faultless o p w st own q h = at (node_at e w.at) refl h
    where
      beyond : (f g : NameId) (ss : List NameId) → node_at e w.at ≡ Some (Call f g ss) → (pr : Procedure) → procedure_of e.procedures f g ≡ Some pr → (u : Option CodeNode) → node_at e pr.body ≡ u → at_node u (passed pr.sessions ss w.sessions) ≡ Some q → OwnsPlace o p q
      beyond f g ss found pr named None i j = absurd cc
      beyond f g ss found pr named (Some node) i j =
          let same : record { node = node; sessions = passed pr.sessions ss w.sessions } ≡ q = cc in
          subst (OwnsPlace o p) same (record {
            id = pr.body;
            names = pr.sessions;
            scoped = procedure_all (λ r. IsScoped e r.body r.sessions) e.procedures f g pr faultless.procedure_bodies named;
            found = i;
            owned = passed_owned o p w.sessions own pr.sessions ss (distinct_passed st.scoped f g ss found);
          })

      called : (f g : NameId) (ss : List NameId) → node_at e w.at ≡ Some (Call f g ss) → (u : Option Procedure) → procedure_of e.procedures f g ≡ u → body_place e u ss w.sessions ≡ Some q → OwnsPlace o p q
      called f g ss found None i j = absurd cc
      called f g ss found (Some pr) i j = beyond f g ss found pr i (node_at e pr.body) refl j

      at : (u : Option CodeNode) → node_at e w.at ≡ u → place_in e u w.sessions ≡ Some q → OwnsPlace o p q
      at None i j = absurd cc
      at (Some (Call f g ss)) i j = called f g ss i (procedure_of e.procedures f g) refl j
      at (Some (Join c r k next)) i j = plainly o p w st own (Join c r k next) i q j
      at (Some (Send k b x next)) i j = plainly o p w st own (Send k b x next) i q j
      at (Some (Recv k a x next)) i j = plainly o p w st own (Recv k a x next) i q j
      at (Some (Pick k b l next)) i j = plainly o p w st own (Pick k b l next) i q j
      at (Some (Branch k a arms)) i j = plainly o p w st own (Branch k a arms) i q j
      at (Some (Throw k b g next)) i j = plainly o p w st own (Throw k b g next) i q j
      at (Some (Catch k a g next)) i j = plainly o p w st own (Catch k a g next) i q j
      at (Some (Set x v next)) i j = plainly o p w st own (Set x v next) i q j
      at (Some (Show v next)) i j = plainly o p w st own (Show v next) i q j
      at (Some (Host x f a b next)) i j = plainly o p w st own (Host x f a b next) i q j
      at (Some (If v c d)) i j = plainly o p w st own (If v c d) i q j
      at (Some End) i j = plainly o p w st own End i q j

  pub action_keeps : (o : Owners) (p : ℕ) (v : ℤ) (vars : Variables) (q : Place) → OwnsPlace o p q → ArePlain vars → (d : Action) → action_at p v vars q.sessions q.node ≡ Some d → KeepsOwners e q.sessions d
  action_keeps o p v vars q st plain d h =
      node_keeps (has_name e.names) (has_text e.texts) p v vars q.sessions st.names q.node (scoped_node st.scoped q.node st.found)
      (all_at (λ (z : CodeNode). node_there (has_name e.names) (has_text e.texts) z ≡ true) e.code.nodes st.id.0 q.node e.numbered.in_nodes st.found) plain d h
