-- The first configuration and the first network state correspond.
use Rattle.std.proofs.Common.{◌≡◌, inr, ℕ, zero, suc, ◌+◌, ◌<◌, Bool, true, false, List, [], ◌∷◌, length, Some, None, refl, sym, ap, ◌∙◌, subst, if◌then◌else◌, ◌==◌, ◌||◌, arith}
use Rattle.std.specs.Prelude.{map, slice_get}
use Rattle.std.proofs.lemmas.Bool.Decides.{nat_tests}
use Rattle.std.proofs.lemmas.List.{length-map}
use Rattle.std.specs.FinMap as fin
use Rattle.std.proofs.lemmas.Bool.{eqb-true, eqb-false}
use Rattle.chor_base.specs.declared.names.NameId.{NameId}
use Rattle.chor_tree.specs.declared.file.File.{File}
use Rattle.chor_tree.specs.declared.file.Named.{Named as Written}
use Rattle.chor_semantics.specs.Choreography.{Ref, Live, Named, ref_eq, among, instance_of}
use Rattle.chor_semantics.specs.Sources.{procedures_of, first_configuration, numbered, tree_in, trees_of}
use Rattle.endpoint_code.specs.declared.endpoints.Process.{Process}
use Rattle.endpoint_code.specs.declared.endpoints.Endpoints.{Endpoints}
use Rattle.endpoint_code.specs.Network.{Machine, standing, standing_all, first_state}
use Rattle.well_formed.specs.Follows.{IsEqualUpToPruning}
use Rattle.well_formed.specs.WellFormed.{IsIn, names_in_scope, declared_scope, ArePlain}
use Rattle.well_formed.specs.Linear.{ParameterSets, everyone}
use Rattle.well_formed.specs.Holders.{ListedHolders, HoldersFit}
use Rattle.correspondence.specs.Corresponds.{session_map, live_scope, Corresponds}
use Rattle.well_formed.proofs.References.{clash, differ_ref, self_ref}
use Rattle.correspondence.proofs.Alone.{plain_empty}
use Rattle.correspondence.proofs.OwnedInstances.{owned_instance, never_instance}
use Rattle.well_formed.proofs.Instances.{same_named, Stands, fits_instance}
use Rattle.well_formed.proofs.InstancesLinear.{linear_instance}
use Rattle.well_formed.proofs.InstancesGuarded.{source_empty}
use Rattle.correspondence.specs.Premises.{Begins}

pub numbered_in : (n : ℕ) (ps : List Written) (y : ℕ) → among (Named y 0) (names_in_scope (map (λ p. p.name) ps)) ≡ true → (i : ℕ) × (numbered n ps y ≡ Live (n + i)) × (i < length ps)
numbered_in n [] y h = absurd cc
numbered_in n (p ∷ ps) y h = go (p.name.0 == y) refl (numbered_in (suc n) ps y)
  where
    plain : Named y 0 ≡ Named p.name.0 0 → y ≡ p.name.0
    plain v = cc

    other : (b : Bool) → b ≡ false → (b || among (Named y 0) (names_in_scope (map (λ p. p.name) ps))) ≡ true → among (Named y 0) (names_in_scope (map (λ p. p.name) ps)) ≡ true
    other false i j = j
    other true i j = absurd cc

    sum0 : (n : ℕ) → n ≡ n + 0
    sum0 n = omega arith

    sum1 : (n i : ℕ) → suc n + i ≡ n + suc i
    sum1 n i = omega arith

    pos' : (l : ℕ) → 0 < suc l
    pos' l = omega arith

    less : (i l : ℕ) → i < l → suc i < suc l
    less i l h = omega (arith, h)

    go : (b : Bool) → (p.name.0 == y) ≡ b → (among (Named y 0) (names_in_scope (map (λ p. p.name) ps)) ≡ true → (i : ℕ) × (numbered (suc n) ps y ≡ Live (suc n + i)) × (i < length ps)) → (i : ℕ) × ((if b then Live n else numbered (suc n) ps y) ≡ Live (n + i)) × (i < suc (length ps))
    go true e ih = (0, ap Live (sum0 n), pos' (length ps))
    go false e ih = let z = ih (other (ref_eq (Named y 0) (Named p.name.0 0)) (differ_ref (Named y 0) (Named p.name.0 0) (λ v. eqb-false p.name.0 y e (sym (plain v)))) h) in (suc z.0, z.1 ∙ ap Live (sum1 n z.0), less z.0 (length ps) z.2)

pub numbered_apart : (n : ℕ) (ps : List Written) (x y : ℕ) → among (Named x 0) (names_in_scope (map (λ p. p.name) ps)) ≡ true → among (Named y 0) (names_in_scope (map (λ p. p.name) ps)) ≡ true → (x == y) ≡ false → ref_eq (numbered n ps x) (numbered n ps y) ≡ false
numbered_apart n [] x y h k e = absurd cc
numbered_apart n (p ∷ ps) x y h k e = go (p.name.0 == x) refl (p.name.0 == y) refl (numbered_apart (suc n) ps x y)
  where
    rest : (w : ℕ) → (p.name.0 == w) ≡ false → among (Named w 0) (names_in_scope (map (λ p. p.name) (p ∷ ps))) ≡ true → among (Named w 0) (names_in_scope (map (λ p. p.name) ps)) ≡ true
    rest w i j = other (ref_eq (Named w 0) (Named p.name.0 0)) (differ_ref (Named w 0) (Named p.name.0 0) (λ v. eqb-false p.name.0 w i (sym (plain v)))) j
      where
        plain : Named w 0 ≡ Named p.name.0 0 → w ≡ p.name.0
        plain v = cc

        other : (b : Bool) → b ≡ false → (b || among (Named w 0) (names_in_scope (map (λ p. p.name) ps))) ≡ true → among (Named w 0) (names_in_scope (map (λ p. p.name) ps)) ≡ true
        other false i j = j
        other true i j = absurd cc

    later : (w : ℕ) → among (Named w 0) (names_in_scope (map (λ p. p.name) ps)) ≡ true → (z : Ref) → z ≡ numbered (suc n) ps w → ref_eq (Live n) z ≡ false
    later w i z v = let u = numbered_in (suc n) ps w i in ap (ref_eq (Live n)) (v ∙ u.1) ∙ above n u.0
      where
        above : (n i : ℕ) → (n == (suc n + i)) ≡ false
        above n i = grind (arith, nat_tests)

    flip : (a b : Ref) → ref_eq a b ≡ false → ref_eq b a ≡ false
    flip a b h = differ_ref b a (λ v. clash (ap (ref_eq a) v ∙ self_ref a) h)

    go : (a : Bool) → (p.name.0 == x) ≡ a → (b : Bool) → (p.name.0 == y) ≡ b → (among (Named x 0) (names_in_scope (map (λ p. p.name) ps)) ≡ true → among (Named y 0) (names_in_scope (map (λ p. p.name) ps)) ≡ true → (x == y) ≡ false → ref_eq (numbered (suc n) ps x) (numbered (suc n) ps y) ≡ false) → ref_eq (if a then Live n else numbered (suc n) ps x) (if b then Live n else numbered (suc n) ps y) ≡ false
    go true i true j ih = absurd (eqb-false x y e (sym (eqb-true p.name.0 x i) ∙ eqb-true p.name.0 y j))
    go true i false j ih = later y (rest y j k) (numbered (suc n) ps y) refl
    go false i true j ih = flip (Live n) (numbered (suc n) ps x) (later x (rest x i h) (numbered (suc n) ps x) refl)
    go false i false j ih = ih (rest x i h) (rest y j k) e

module _ (e : Endpoints) (f : File) (sets : NameId → ParameterSets) (lists : ListedHolders) (b : Begins e f sets lists) where
  first_vars : (ps : List Process) (ws : List Written) → length ps ≡ length ws → map (λ m. m.vars) (standing_all ps) ≡ map (λ p. fin.empty) ws
  first_vars [] [] h = refl
  first_vars [] (w ∷ ws) h = absurd cc
  first_vars (p ∷ ps) [] h = absurd cc
  first_vars (p ∷ ps) (w ∷ ws) h = ap (λ y. fin.empty ∷ y) (first_vars ps ws (less h))
    where
      less : suc (length ps) ≡ suc (length ws) → length ps ≡ length ws
      less i = cc

  stands_at : (ps : List Process) (p : ℕ) (m : Machine) → slice_get (standing_all ps) p ≡ Some m → (q : Process) × (slice_get ps p ≡ Some q) × (m ≡ standing q.body)
  stands_at [] p m h = absurd cc
  stands_at (q ∷ ps) zero m h = (q, refl, cc)
  stands_at (q ∷ ps) (suc p) m h = stands_at ps p m h

  processes : Stands 0 (length (first_configuration f).vars) (numbered 0 f.processes) (names_in_scope (map (λ p. p.name) f.processes)) []
  processes = record {
    keeps = λ x h. let z = numbered_in 0 f.processes x h in subst (IsIn (length (first_configuration f).vars) []) (sym (z.1)) (below z.0 (length f.processes) (length (first_configuration f).vars) (sym (length-map f.processes (λ (p : Written). fin.empty))) z.2);
    new = λ x h. refl;
    apart = λ x y h k i. numbered_apart 0 f.processes x y h k i;
    above = tt;
  }
    where
      below : (i l k : ℕ) → l ≡ k → i < l → 0 + i < k
      below i l k w h = omega (arith, w, h)

  sessions : Stands 0 0 (λ y. Named y 0) [] []
  sessions = record { keeps = λ x h. absurd cc; new = λ x h. refl; apart = λ x y h k i. absurd cc; above = tt }

  pub first_corresponds : Corresponds e (procedures_of f) sets lists (first_configuration f) (first_state e)
  first_corresponds = record {
    vars = first_vars e.processes f.processes b.count;
    sid = refl;
    follows = λ p m h. let z = stands_at e.processes p m h in subst (λ y. IsEqualUpToPruning e (procedures_of f) (Live p) (first_configuration f).tree y.at (session_map y.sessions)) (sym z.2) (b.follows p z.0 z.1);
    services = b.services;
    in_transit = λ t. source_empty t 0 (numbered 0 f.processes) (λ y. Named y 0) (tree_in (trees_of f.tree.nodes) f.body) b.source;
    holders = λ u r. None;
    holders_in = λ u r. tt;
    holders_fit = λ u r. held u r u refl;
    linear = λ a k at two. linear_instance e.channels (procedures_of f) 0 a (sets a) (numbered 0 f.processes) (λ y. Named y 0) (declared_scope (map (λ p. p.name) f.processes) []) refl everyone everyone (λ x h k'. refl) (inr (λ q. refl)) (tree_in (trees_of f.tree.nodes) f.body) b.source b.fit (b.linear a k at two);
    well_formed = fits_instance e.channels (procedures_of f) 0 (numbered 0 f.processes) (λ y. Named y 0) (names_in_scope (map (λ p. p.name) f.processes)) [] (live_scope (first_configuration f)) processes sessions (tree_in (trees_of f.tree.nodes) f.body) b.source b.fit;
    plain = λ p m h. let z = stands_at e.processes p m h in plain_one p m z;
  }
    where
      held : (u : Ref) (r : NameId) (v : Ref) → u ≡ v → HoldersFit lists u r (instance_of 0 (numbered 0 f.processes) (λ y. Named y 0) (tree_in (trees_of f.tree.nodes) f.body)) None
      held u r (Live m) q = never_instance 0 lists e.channels (procedures_of f) r u (numbered 0 f.processes) (λ y. Named y 0) (names_in_scope (map (λ p. p.name) f.processes)) [] (λ z h. absurd cc) (λ z h. ap (λ y. ref_eq y (Named z 0)) q) (tree_in (trees_of f.tree.nodes) f.body) b.source b.fit None
      held u r (Named x zero) q = owned_instance 0 lists e.channels (procedures_of f) r u x (λ g p k n j z. b.lists_fit g p k n r j z) (numbered 0 f.processes) (λ y. Named y 0) (names_in_scope (map (λ p. p.name) f.processes)) [] (λ z h. absurd cc) (λ z h. ap (λ y. ref_eq y (Named z 0)) q ∙ same_named x z) (tree_in (trees_of f.tree.nodes) f.body) b.source b.fit None None tt (inr refl) (b.holders_fit x r)
      held u r (Named x (suc n)) q = never_instance 0 lists e.channels (procedures_of f) r u (numbered 0 f.processes) (λ y. Named y 0) (names_in_scope (map (λ p. p.name) f.processes)) [] (λ z h. absurd cc) (λ z h. ap (λ y. ref_eq y (Named z 0)) q ∙ differ_ref (Named x (suc n)) (Named z 0) (λ e'. deep (plain z e'))) (tree_in (trees_of f.tree.nodes) f.body) b.source b.fit None
        where
          plain : (z : ℕ) → Named x (suc n) ≡ Named z 0 → suc n ≡ 0
          plain z e' = cc

          deep : suc n ≡ 0 → ⊥
          deep e' = absurd (omega (arith, e'))

      plain_one : (p : ℕ) (m : Machine) → (q : Process) × (slice_get e.processes p ≡ Some q) × (m ≡ standing q.body) → ArePlain m.vars
      plain_one p m z = subst (λ y. ArePlain y.vars) (sym z.2) plain_empty
