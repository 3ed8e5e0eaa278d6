-- What a file without faults of names, protocols and types keeps.
use Rattle.std.proofs.Common.{◌≡◌, ℕ, zero, suc, ◌<◌, List, [], ◌∷◌, ◌++◌, map, length, refl, sym, ap, ◌∙◌, subst, Some, None, Option, Bool, true, false, ◌==◌, ◌||◌, inl, inr, arith, if◌then◌else◌}
use Rattle.std.specs.Prelude.{Contains, is_some, not}
use Rattle.std.specs.List.{flat_map}
use Rattle.chor_base.specs.declared.names.NameId.{NameId}
use Rattle.chor_base.specs.declared.rule.Rule.TheVariants.{G1, G2}
use Rattle.chor_base.specs.Faults.{fault, fault_if}
use Rattle.chor_tree.specs.declared.file.File.{File}
use Rattle.chor_tree.specs.declared.file.Named.{Named as Written}
use Rattle.chor_tree.specs.Protocols.{Protocol}
use Rattle.chor_tree.specs.declared.protocol.State.{State}
use Rattle.chor_tree.specs.declared.protocol.ProtoArm.{ProtoArm}
use Rattle.chor_tree.specs.declared.protocol.ProtoStep.{ProtoStep}
use Rattle.chor_tree.specs.declared.protocol.ProtoStep.TheVariants.{End as Last, Value as Sends, Choice}
use Rattle.chor_tree.specs.Names.{is_among, first_named, protocol_of}
use Rattle.global_types.specs.Moves.{IsIn, content_of, Exchange, passes, chooses, exchanges_of, state_named}
use Rattle.global_types.specs.Faults.{unknown_state, own_receiver, payload_faults, step_faults, unused_role, protocol_faults, procedure_faults, faults_of}
use Rattle.typing_rules.specs.Environment.{states_of}
use Rattle.typed_sources.specs.Stands.{states_in}
use Rattle.typed_sources.proofs.Statements.{ProtocolsFit, is_own}

-- ---- lists

pub no_items : {A : Type 0} (xs : List A) → ((x : A) → Contains xs x → ⊥) → xs ≡ []
no_items [] h = refl
no_items (x ∷ xs) h = absurd (h x (0, omega arith, refl))

pub both_empty : {A : Type 0} (xs ys : List A) → xs ++ ys ≡ [] → (xs ≡ []) × (ys ≡ [])
both_empty [] ys h = (refl, h)
both_empty (x ∷ xs) ys h = absurd cc

pub each_empty : {A B : Type 0} (g : A → List B) (xs : List A) → flat_map g xs ≡ [] → (x : A) → Contains xs x → g x ≡ []
each_empty g [] h x (i, l, e) = absurd (omega (arith, l))
each_empty g (y ∷ ys) h x (zero, l, e) = ap g (sym e) ∙ (both_empty (g y) (flat_map g ys) h).0
each_empty g (y ∷ ys) h x (suc i, l, e) = each_empty g ys (both_empty (g y) (flat_map g ys) h).1 x (i, omega (arith, l), e)

pub found_in : {A : Type 0} (nm : A → Written) (xs : List A) (n : NameId) (x : A) → first_named nm xs n ≡ Some x → Contains xs x
found_in nm [] n x h = absurd cc
found_in nm (y ∷ ys) n x h = go ((nm y).name.0 == n.0) h (found_in nm ys n x)
  where
    some_is : {A : Type 0} (a b : A) → Some a ≡ Some b → a ≡ b
    some_is a b i = cc

    go : (b : Bool) → (if b then Some y else first_named nm ys n) ≡ Some x → (first_named nm ys n ≡ Some x → Contains ys x) → Contains (y ∷ ys) x
    go true i ih = (0, omega arith, some_is y x i)
    go false i ih = let w = ih i in (suc w.0, (let l : w.0 < length ys = w.1 in omega (arith, l)), w.2)

pub is_named_there : {A : Type 0} (nm : A → Written) (xs : List A) (n : NameId) → is_among (map (λ x. (nm x).name) xs) n ≡ true → (x : A) × (first_named nm xs n ≡ Some x)
is_named_there nm [] n h = absurd cc
is_named_there nm (y ∷ ys) n h = go ((nm y).name.0 == n.0) h (is_named_there nm ys n)
  where
    go : (b : Bool) → (b || is_among (map (λ x. (nm x).name) ys) n) ≡ true → (is_among (map (λ x. (nm x).name) ys) n ≡ true → (x : _) × (first_named nm ys n ≡ Some x)) → (x : _) × ((if b then Some y else first_named nm ys n) ≡ Some x)
    go true i ih = (y, refl)
    go false i ih = ih i

-- ---- protocols

own_off : (a b : Written) → own_receiver a b ≡ [] → (a.name.0 == b.name.0) ≡ false
own_off a b h = go (a.name.0 == b.name.0) refl h
  where
    go : (x : Bool) → (a.name.0 == b.name.0) ≡ x → (if x then fault G2 b.place ∷ [] else []) ≡ [] → (a.name.0 == b.name.0) ≡ false
    go false i j = i
    go true i j = absurd cc

state_there : (ss : List State) (n : Written) → unknown_state ss n ≡ [] → (j : ℕ) × (state_named ss n.name ≡ Some j)
state_there ss n h = go (state_named ss n.name) refl h
  where
    go : (o : Option ℕ) → state_named ss n.name ≡ o → fault_if (not (is_some o)) G1 n.place ≡ [] → (j : ℕ) × (state_named ss n.name ≡ Some j)
    go None i j = absurd cc
    go (Some k) i j = (k, i)

-- what an exchange of a step without fault keeps
step_keeps : (ps : List Protocol) (ss : List State) (st : ProtoStep) → step_faults ps ss st ≡ [] → (x : Exchange) (m : NameId) → IsIn (x, m) (exchanges_of st) → ((j : ℕ) × (state_named ss m ≡ Some j)) × (is_own x ≡ false)
step_keeps ps ss Last h x m i = elim i [ ]
step_keeps ps ss (Sends a b c next) h x m (inr i) = elim i [ ]
step_keeps ps ss (Sends a b c next) h x m (inl i) =
    let w = both_empty (own_receiver a b) (payload_faults ps c ++ unknown_state ss next) h in
    let u = both_empty (payload_faults ps c) (unknown_state ss next) w.1 in
    let pair : ◌≡◌ {A = Exchange × NameId} (passes a.name b.name (content_of c), next.name) (x, m) = i in
    (subst (λ z. (j : ℕ) × (state_named ss z ≡ Some j)) (ap (λ z. z.1) pair) (state_there ss next u.1), ap (λ z. is_own z.0) (sym pair) ∙ own_off a b w.0)
step_keeps ps ss (Choice a b arms) h x m i =
    let w = both_empty (own_receiver a b) (flat_map (λ (arm : ProtoArm). unknown_state ss arm.next) arms) h in
    go arms w.1 (own_off a b w.0) i
  where
    go : (xs : List ProtoArm) → flat_map (λ (arm : ProtoArm). unknown_state ss arm.next) xs ≡ [] → (a.name.0 == b.name.0) ≡ false → IsIn {A = Exchange × NameId} (x, m) (map (λ (arm : ProtoArm). (chooses a.name b.name arm.label.name, arm.next.name)) xs) → ((j : ℕ) × (state_named ss m ≡ Some j)) × (is_own x ≡ false)
    go [] f off k = elim k [ ]
    go (y ∷ ys) f off (inl k) =
        let u = both_empty (unknown_state ss y.next) (flat_map (λ (arm : ProtoArm). unknown_state ss arm.next) ys) f in
        let pair : ◌≡◌ {A = Exchange × NameId} (chooses a.name b.name y.label.name, y.next.name) (x, m) = k in
        (subst (λ z. (j : ℕ) × (state_named ss z ≡ Some j)) (ap (λ z. z.1) pair) (state_there ss y.next u.0), ap (λ z. is_own z.0) (sym pair) ∙ off)
    go (y ∷ ys) f off (inr k) = go ys (both_empty (unknown_state ss y.next) (flat_map (λ (arm : ProtoArm). unknown_state ss arm.next) ys) f).1 off k

module _ (f : File) (no_protocol_fault : faults_of f ≡ []) where
  keeps : (p n m : NameId) (st : State) (x : Exchange) → first_named (λ s. s.name) (states_in f p) n ≡ Some st → IsIn (x, m) (exchanges_of st.step) → ((j : ℕ) × (state_named (states_in f p) m ≡ Some j)) × (is_own x ≡ false)
  keeps p n m st x is i = go (protocol_of f p) refl is
    where
      go : (o : Option Protocol) → protocol_of f p ≡ o → first_named (λ s. s.name) (states_of o) n ≡ Some st → ((j : ℕ) × (state_named (states_of o) m ≡ Some j)) × (is_own x ≡ false)
      go None j k = absurd cc
      go (Some q) j k =
          let there = found_in (λ z. z.name) f.protocols p q j in
          let all = (both_empty (flat_map (protocol_faults f.protocols) f.protocols) (flat_map (procedure_faults f.protocols) f.procs) no_protocol_fault).0 in
          let one = (both_empty (flat_map (unused_role q.states) q.roles) (flat_map (λ (s : State). step_faults f.protocols q.states s.step) q.states) (each_empty (protocol_faults f.protocols) f.protocols all q there)).1 in
          step_keeps f.protocols q.states st.step (each_empty (λ (s : State). step_faults f.protocols q.states s.step) q.states one st (found_in (λ s. s.name) q.states n st k)) x m i

  -- Protocols without fault are as typing needs them
  pub sound : ProtocolsFit f
  sound = record { there = λ p n m st x is i. (keeps p n m st x is i).0; away = λ p n m st x is i. (keeps p n m st x is i).1 }
