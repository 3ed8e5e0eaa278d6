-- Where the processes of a run stand, each node's code uses its names well.
use Rattle.std.proofs.Common.{◌≡◌, ℕ, ◌==◌, ◌&&◌, ◌⊎◌, inl, inr, Bool, true, false, cond, List, [], ◌∷◌, refl, sym, ap, ◌∙◌, subst, Option, Some, None, arith}
use Rattle.std.specs.Prelude.{All}
use Rattle.std.proofs.lemmas.List.Elements.{All-head, All-tail}
use Rattle.std.proofs.lemmas.Bool.Decides.{nat_tests}
use Rattle.chor_base.specs.declared.names.NameId.{NameId}
use Rattle.endpoint_code.specs.declared.code.CodeId.{CodeId}
use Rattle.endpoint_code.specs.declared.code.CodeNode.{CodeNode}
use Rattle.endpoint_code.specs.declared.code.CodeNode.TheVariants.{Join, Send, Recv, Pick, Branch, Throw, Catch, Set, Show, Host, If, Call, End}
use Rattle.endpoint_code.specs.declared.endpoints.Procedure.{Procedure}
use Rattle.endpoint_code.specs.declared.endpoints.Endpoints.{Endpoints}
use Rattle.endpoint_code.specs.Faults as scope
use Rattle.endpoint_code.specs.Faults.{IsScoped, AllScoped, no_arm, one_arm, IsActive, HasNoNameFault, IsFaultless, has_service}
use Rattle.endpoint_code.specs.Network.{Sessions, Place, node_at, at_node, procedure_of, body_place, place_in, arm_at}
use Rattle.endpoint_code.specs.NetworkRuns.{joins_there}

-- the code at a node is scoped, whatever is bound there
abbrev pub IsSomewhere : Endpoints → CodeId → Type 0
IsSomewhere e id = (bs : List NameId) × IsScoped e id bs

-- the node that follows another, if its process goes on
abbrev pub IsNext : CodeNode → CodeId → Type 0
IsNext (Join c r k a) b = a ≡ b
IsNext (Send k c x a) b = a ≡ b
IsNext (Recv k c x a) b = a ≡ b
IsNext (Pick k c l a) b = a ≡ b
IsNext (Branch k c arms) b = (l : NameId) × (arm_at arms l ≡ Some b)
IsNext (Throw k c h a) b = a ≡ b
IsNext (Catch k c h a) b = a ≡ b
IsNext (Set x v a) b = a ≡ b
IsNext (Show v a) b = a ≡ b
IsNext (Host x f v w a) b = a ≡ b
IsNext (If v a c) b = (a ≡ b) ⊎ (c ≡ b)
IsNext (Call f p ss) b = ⊥
IsNext End b = ⊥

arm_scoped : {e : Endpoints} {arms : List (NameId × CodeId)} {bs : List NameId} → AllScoped e arms bs → (l : NameId) (a : CodeId) → arm_at arms l ≡ Some a → IsScoped e a bs
arm_scoped no_arm l a h = absurd cc
arm_scoped {e} (one_arm {l = m} {next} {arms} {bs} s more) l a h = go (m.0 == l.0) refl (arm_scoped more l a)
  where
    go : (b : Bool) → (m.0 == l.0) ≡ b → (arm_at arms l ≡ Some a → IsScoped e a bs) → IsScoped e a bs
    go true i again =
        let j : Some next ≡ Some a = sym (ap (λ (b : Bool). cond b (Some next) (arm_at arms l)) i) ∙ h in
        let is : next ≡ a = cc in
        subst (λ (x : CodeId). IsScoped e x bs) is s
    go false i again = again (sym (ap (λ (b : Bool). cond b (Some next) (arm_at arms l)) i) ∙ h)

module _ (e : Endpoints) where
  here : (a b : CodeId) (bs : List NameId) → IsScoped e a bs → a ≡ b → IsSomewhere e b
  here a b bs s is = (bs, subst (λ (x : CodeId). IsScoped e x bs) is s)

  pub next_somewhere : {id : CodeId} {bs : List NameId} → IsScoped e id bs → (node : CodeNode) (b : CodeId) → node_at e id ≡ Some node → IsNext node b → IsSomewhere e b
  next_somewhere (scope.joins {next} {bs} {c} {r} {k} h a u s) node b f n = let is : node ≡ Join c r k next = cc in here next b (k ∷ bs) s (subst (λ (w : CodeNode). IsNext w b) is n)
  next_somewhere (scope.sends {next} {bs} {k} {b = to} {x} h a s) node b f n = let is : node ≡ Send k to x next = cc in here next b bs s (subst (λ (w : CodeNode). IsNext w b) is n)
  next_somewhere (scope.receives {next} {bs} {k} {a = from} {x} h a s) node b f n = let is : node ≡ Recv k from x next = cc in here next b bs s (subst (λ (w : CodeNode). IsNext w b) is n)
  next_somewhere (scope.picks {next} {bs} {k} {b = to} {l} h a s) node b f n = let is : node ≡ Pick k to l next = cc in here next b bs s (subst (λ (w : CodeNode). IsNext w b) is n)
  next_somewhere (scope.offers {bs} {k} {a = from} {arms} h a d s) node b f n =
      let is : node ≡ Branch k from arms = cc in
      let arm : (l : NameId) × (arm_at arms l ≡ Some b) = subst (λ (w : CodeNode). IsNext w b) is n in
      (bs, arm_scoped s arm.0 b arm.1)
  next_somewhere (scope.gives {next} {bs} {k} {b = to} {h = g} h a u s) node b f n = let is : node ≡ Throw k to g next = cc in here next b (scope.without g bs) s (subst (λ (w : CodeNode). IsNext w b) is n)
  next_somewhere (scope.gains {next} {bs} {k} {a = from} {h = g} h a u s) node b f n = let is : node ≡ Catch k from g next = cc in here next b (g ∷ bs) s (subst (λ (w : CodeNode). IsNext w b) is n)
  next_somewhere (scope.sets {next} {bs} {x} {v} h s) node b f n = let is : node ≡ Set x v next = cc in here next b bs s (subst (λ (w : CodeNode). IsNext w b) is n)
  next_somewhere (scope.shows {next} {bs} {v} h s) node b f n = let is : node ≡ Show v next = cc in here next b bs s (subst (λ (w : CodeNode). IsNext w b) is n)
  next_somewhere (scope.asks {next} {bs} {x} {f = g} {v} {w = u} h s) node b f n = let is : node ≡ Host x g v u next = cc in here next b bs s (subst (λ (w : CodeNode). IsNext w b) is n)
  next_somewhere (scope.tests {first} {second} {bs} {v} h s t) node b f n =
      let is : node ≡ If v first second = cc in
      let one : (first ≡ b) ⊎ (second ≡ b) = subst (λ (w : CodeNode). IsNext w b) is n in
      elim one [ inl i ↦ here first b bs s i | inr i ↦ here second b bs t i ]
  next_somewhere (scope.calls {f = g} {p} {ss} h q l a d) node b f n = let is : node ≡ Call g p ss = cc in absurd (subst (λ (w : CodeNode). IsNext w b) is n)
  next_somewhere (scope.ends h) node b f n = let is : node ≡ End = cc in absurd (subst (λ (w : CodeNode). IsNext w b) is n)

  -- a join is in an active role of a channel
  join_active : {id : CodeId} {bs : List NameId} → IsScoped e id bs → (c r k : NameId) (next : CodeId) → node_at e id ≡ Some (Join c r k next) → IsActive e c r
  join_active (scope.joins {next} {c = d} {r = q} {k = l} h a u s) c r k m f =
      let one : d ≡ c = cc in
      let two : q ≡ r = cc in
      subst (λ (x : NameId). IsActive e x r) one (subst (IsActive e d) two a)
  join_active (scope.sends h a s) c r k m f = absurd cc
  join_active (scope.receives h a s) c r k m f = absurd cc
  join_active (scope.picks h a s) c r k m f = absurd cc
  join_active (scope.offers h a d s) c r k m f = absurd cc
  join_active (scope.gives h a b s) c r k m f = absurd cc
  join_active (scope.gains h a b s) c r k m f = absurd cc
  join_active (scope.sets h s) c r k m f = absurd cc
  join_active (scope.shows h s) c r k m f = absurd cc
  join_active (scope.asks h s) c r k m f = absurd cc
  join_active (scope.tests h s t) c r k m f = absurd cc
  join_active (scope.calls h a b d s) c r k m f = absurd cc
  join_active (scope.ends h) c r k m f = absurd cc

-- ---- places

-- the node of a place is there, and scoped
pub record IsPlaced (e : Endpoints) (q : Place) : Type 0 where
  pub id : CodeId
  pub found : node_at e id ≡ Some q.node
  pub somewhere : IsSomewhere e id

procedure_has : (P : Procedure → Type 0) (qs : List Procedure) (f p : NameId) (q : Procedure) → All P qs → procedure_of qs f p ≡ Some q → P q
procedure_has P [] f p q all h = absurd cc
procedure_has P (r ∷ qs) f p q all h = go ((r.name.0 == f.0) && (r.param.0 == p.0)) refl (procedure_has P qs f p q (All-tail P r qs all))
  where
    go : (b : Bool) → ((r.name.0 == f.0) && (r.param.0 == p.0)) ≡ b → (procedure_of qs f p ≡ Some q → P q) → P q
    go true e more =
        let a : Some r ≡ Some q = sym (ap (λ (b : Bool). cond b (Some r) (procedure_of qs f p)) e) ∙ h in
        let is : r ≡ q = cc in
        subst P is (All-head P r qs all)
    go false e more = more (sym (ap (λ (b : Bool). cond b (Some r) (procedure_of qs f p)) e) ∙ h)

module _ (e : Endpoints) (names : HasNoNameFault e) where
  placed_at : (id : CodeId) (bs : List NameId) → IsScoped e id bs → (o : Option CodeNode) → node_at e id ≡ o → (m : Sessions) (q : Place) → at_node o m ≡ Some q → IsPlaced e q
  placed_at id bs s None f m q h = absurd cc
  placed_at id bs s (Some node) f m q h =
      let place : Place = record { node = node; sessions = m } in
      let same : place ≡ q = cc in
      record { id = id; found = f ∙ ap (λ (w : Place). Some w.node) same; somewhere = (bs, s) }

  body_placed : (o : Option Procedure) (f p : NameId) → procedure_of e.procedures f p ≡ o → (ss : List NameId) (m : Sessions) (q : Place) → body_place e o ss m ≡ Some q → IsPlaced e q
  body_placed None f p g ss m q h = absurd cc
  body_placed (Some r) f p g ss m q h =
      placed_at r.body r.sessions (procedure_has (λ (x : Procedure). IsScoped e x.body x.sessions) e.procedures f p r names.procedure_bodies g) (node_at e r.body) refl _ q h

  pub is_placed : (id : CodeId) (m : Sessions) (q : Place) → IsSomewhere e id → place_in e (node_at e id) m ≡ Some q → IsPlaced e q
  is_placed id m q s h = go (node_at e id) refl h
    where
      stays : (node : CodeNode) → node_at e id ≡ Some node → at_node (Some node) m ≡ Some q → IsPlaced e q
      stays node f i = placed_at id s.0 s.1 (Some node) f m q i

      go : (o : Option CodeNode) → node_at e id ≡ o → place_in e o m ≡ Some q → IsPlaced e q
      go None f i = absurd cc
      go (Some (Call g p ss)) f i = body_placed (procedure_of e.procedures g p) g p refl ss m q i
      go (Some (Join c r k a)) f i = stays (Join c r k a) f i
      go (Some (Send k c x a)) f i = stays (Send k c x a) f i
      go (Some (Recv k c x a)) f i = stays (Recv k c x a) f i
      go (Some (Pick k c l a)) f i = stays (Pick k c l a) f i
      go (Some (Branch k c arms)) f i = stays (Branch k c arms) f i
      go (Some (Throw k c g a)) f i = stays (Throw k c g a) f i
      go (Some (Catch k c g a)) f i = stays (Catch k c g a) f i
      go (Some (Set x v a)) f i = stays (Set x v a) f i
      go (Some (Show v a)) f i = stays (Show v a) f i
      go (Some (Host x g v w a)) f i = stays (Host x g v w a) f i
      go (Some (If v a c)) f i = stays (If v a c) f i
      go (Some End) f i = stays End f i

  -- a process that joins does so in an active role of a channel
  pub place_active : (o : Option Place) (c r : NameId) → ((q : Place) → o ≡ Some q → IsPlaced e q) → joins_there o c r ≡ true → IsActive e c r
  place_active None c r all h = absurd cc
  place_active (Some q) c r all h = go q.node refl h
    where
      placed : IsPlaced e q
      placed = all q refl

      go : (node : CodeNode) → q.node ≡ node → joins_there (Some (record { node = node; sessions = q.sessions })) c r ≡ true → IsActive e c r
      go (Join d o k next) f i =
          let one : d.0 ≡ c.0 = grind (arith, nat_tests) in
          let two : o.0 ≡ r.0 = grind (arith, nat_tests) in
          let active = join_active e placed.somewhere.1 d o k next (placed.found ∙ ap (λ (w : CodeNode). Some w) f) in
          let name : ℕ → NameId = λ n. record { 0 = n } in
          subst (λ (x : NameId). IsActive e x r) (ap name one) (subst (IsActive e d) (ap name two) active)
      go (Send k b x next) f i = absurd cc
      go (Recv k a x next) f i = absurd cc
      go (Pick k b l next) f i = absurd cc
      go (Branch k a arms) f i = absurd cc
      go (Throw k b g next) f i = absurd cc
      go (Catch k a g next) f i = absurd cc
      go (Set x v next) f i = absurd cc
      go (Show v next) f i = absurd cc
      go (Host x g v w next) f i = absurd cc
      go (If v t u) f i = absurd cc
      go (Call g o ss) f i = absurd cc
      go End f i = absurd cc
