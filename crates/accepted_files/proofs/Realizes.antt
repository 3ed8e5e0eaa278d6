-- A projection of a checked file has what the correspondence asks of following.
use Rattle.std.proofs.Common.{◌≡◌, ℕ, zero, suc, ◌==◌, ◌&&◌, ◌||◌, ◌≤◌, Bool, true, false, List, [], ◌∷◌, length, Some, None, refl, ap, ◌∙◌, arith}
use Rattle.std.specs.Prelude.{map, slice_get}
use Rattle.std.specs.List.{AllZip}
use Rattle.std.specs.FinMap as fin
use Rattle.std.proofs.lemmas.Bool.{eqb-true}
use Rattle.chor_base.specs.declared.names.NameId.{NameId}
use Rattle.chor_tree.specs.declared.file.File.{File}
use Rattle.chor_tree.specs.declared.file.Named.{Named as Written}
use Rattle.chor_semantics.specs.Choreography.{Ref, Live, Named, ref_eq, among}
use Rattle.chor_semantics.specs.Sources.{procedure_from, procedures_of, first_configuration}
use Rattle.endpoint_code.specs.declared.endpoints.Process.{Process}
use Rattle.endpoint_code.specs.declared.endpoints.Endpoints.{Endpoints}
use Rattle.projection.specs.Projects.{Projects, IsProcessOf, body_at}
use Rattle.well_formed.specs.Follows.{SessionMap, IsEqualUpToPruning}
use Rattle.well_formed.specs.WellFormed.{AllIn, AreNoDeeper, AreDistinctRefs, names_in_scope, declared_scope}
use Rattle.well_formed.specs.Linear.{ParameterSets}
use Rattle.well_formed.specs.Holders.{ListedHolders}
use Rattle.correspondence.specs.Corresponds.{session_map}
use Rattle.well_formed.proofs.Trees.{body_source, all_sources}
use Rattle.accepted_files.proofs.FromRoles.{has_among, plays}
use Rattle.accepted_files.proofs.AlongTrees.{self_test}
use Rattle.accepted_files.proofs.Passing.{found_proc}
use Rattle.accepted_files.proofs.FromStarts.{starts_play}
use Rattle.accepted_files.proofs.MainFollows.{main_follows}
use Rattle.accepted_files.proofs.ServicesFollow.{main_served, body_served}
use Rattle.accepted_files.proofs.NoCall.{no_call_first, all_guarded}
use Rattle.correspondence.specs.Premises.{Begins, IsSound, Realizes}
use Rattle.accepted_files.proofs.Plays.{AreOthersNamed, AreNamedOnce, MainPlays, ProceduresPlay}
use Rattle.accepted_files.specs.PlayedRoles.{params_of, sessions_of, roles_of}
use Rattle.accepted_files.proofs.StartsPlay.{AreShallow, AllStartsPlay}
use Rattle.accepted_files.specs.Premises.{HoldsItsRoles, ProceduresChecked, MainChecked, IsProjectionOf}

-- ---- processes have names of their own
parts : (a b : Bool) → (a || b) ≡ false → (a ≡ false) × (b ≡ false)
parts false b h = (refl, h)
parts true b h = absurd cc

plain : (a : Bool) → (a && true) ≡ false → a ≡ false
plain false h = refl
plain true h = absurd cc

others_named : (w : Written) (ws : List Written) → among (Named w.name.0 0) (names_in_scope (map (λ p. p.name) ws)) ≡ false → AreOthersNamed w ws
others_named w [] h = tt
others_named w (v ∷ vs) h =
    let p = parts (ref_eq (Named w.name.0 0) (Named v.name.0 0)) (among (Named w.name.0 0) (names_in_scope (map (λ p. p.name) vs))) h in
    (plain (w.name.0 == v.name.0) p.0, others_named w vs p.1)

named_once : (ws : List Written) → AreDistinctRefs (names_in_scope (map (λ p. p.name) ws)) → AreNamedOnce ws
named_once [] h = tt
named_once (w ∷ ws) h = (others_named w ws h.0, named_once ws h.1)

-- ---- what a call passes is no deeper
either_of : (a b : Bool) → (a || b) ≡ true → (a ≡ false → b ≡ true)
either_of true b h i = absurd cc
either_of false b h i = h

shallow_name : (d x c : ℕ) (bs : List Ref) → AreNoDeeper d bs → among (Named x c) bs ≡ true → c ≤ d
shallow_name d x c [] u h = absurd cc
shallow_name d x c (Live n ∷ bs) u h = shallow_name d x c bs u h
shallow_name d x c (Named y k ∷ bs) u h = go ((x == y) && (c == k)) refl (shallow_name d x c bs u.1)
  where
    second : (a b : Bool) → (a && b) ≡ true → b ≡ true
    second true b i = i
    second false b i = absurd cc

    up : (c k : ℕ) → c ≡ k → k ≤ d → c ≤ d
    up c k i j = omega (arith, i, j)

    go : (b : Bool) → ((x == y) && (c == k)) ≡ b → (among (Named x c) bs ≡ true → c ≤ d) → c ≤ d
    go true i more = up c k (eqb-true c k (second (x == y) (c == k) i)) u.0
    go false i more = more (either_of ((x == y) && (c == k)) (among (Named x c) bs) h i)

shallow_all : (d n : ℕ) (bs rs : List Ref) → AreNoDeeper d bs → AllIn n bs rs → AreShallow d rs
shallow_all d n bs [] u w = tt
shallow_all d n bs (Live m ∷ rs) u w = (tt, shallow_all d n bs rs u w.1)
shallow_all d n bs (Named x c ∷ rs) u w = (shallow_name d x c bs u w.0, shallow_all d n bs rs u w.1)

or_later : (a b : Bool) → b ≡ true → (a || b) ≡ true
or_later true b h = refl
or_later false b h = h

process_among : (ws : List Written) (p : ℕ) (w : Written) → slice_get ws p ≡ Some w → among (Named w.name.0 0) (names_in_scope (map (λ p. p.name) ws)) ≡ true
process_among [] p w i = absurd cc
process_among (v ∷ vs) zero w i =
    let z : v ≡ w = cc in
    ap (λ b. (b && (0 == 0)) || among (Named w.name.0 0) (names_in_scope (map (λ p. p.name) vs))) (ap (λ (x : Written). w.name.0 == x.name.0) z ∙ self_test w.name.0)
process_among (v ∷ vs) (suc p) w i = or_later (ref_eq (Named w.name.0 0) (Named v.name.0 0)) (among (Named w.name.0 0) (names_in_scope (map (λ p. p.name) vs))) (process_among vs p w i)

as_many : {A B : Type 0} (R : A → B → Type 0) (xs : List A) (ys : List B) → AllZip R xs ys → length ys ≡ length xs
as_many R [] [] z = refl
as_many R [] (y ∷ ys) z = absurd z
as_many R (x ∷ xs) [] z = absurd z
as_many R (x ∷ xs) (y ∷ ys) z = ap suc (as_many R xs ys z.1)

module _ (f : File) (e : Endpoints) (sets : NameId → ParameterSets) (lists : ListedHolders) (pr : Projects f e) (hold : HoldsItsRoles f) (checked : ProceduresChecked e f sets lists) where
  procedures_play : ProceduresPlay f.tree.nodes f.procs
  procedures_play h p x i w =
      plays f.tree.nodes f.procs e.channels checked.fit p (declared_scope (params_of x) (sessions_of x)) (body_at f x.body) (roles_of p x.sessions) (has_among p p (params_of x) w) (body_source f x.body)
      (checked.fit h (procedure_from f.tree.nodes x) (found_proc f.tree.nodes f.procs h x i)).body (hold.procedures h p x i w)

  main_plays : MainChecked e f sets lists → MainPlays f
  main_plays main p w i =
      plays f.tree.nodes f.procs e.channels checked.fit w.name (declared_scope (map (λ p. p.name) f.processes) []) (body_at f f.body) (λ y. None) (process_among f.processes p w i) (body_source f f.body) main.fit (hold.main p w i)

  procedure_starts : AllStartsPlay f
  procedure_starts h x i = starts_play f e.channels checked.fit pr.channels checked.serve_roles (declared_scope (params_of x) (sessions_of x)) (body_at f x.body) (λ a k j. (checked.other_names a k j h x i).0) (λ a k j. (checked.other_names a k j h x i).1) (body_source f x.body) (checked.fit h (procedure_from f.tree.nodes x) (found_proc f.tree.nodes f.procs h x i)).body (hold.procedure_starts h x i)

  pub sound : IsSound e (procedures_of f) sets lists
  sound = record {
    sources = all_sources f;
    fit = checked.fit;
    guarded = all_guarded f checked.guarded;
    linear = checked.linear;
    roles = checked.roles;
    lists_fit = checked.lists_fit;
    holders_fit = checked.holders_fit;
    services = λ sc h d ps ss c b w. body_served f e pr procedures_play procedure_starts h d ps ss c b (shallow_all d sc.pid sc.processes ps w.processes_above w.processes);
  }

  pub begins : MainChecked e f sets lists → Begins e f sets lists
  begins main = record {
    source = body_source f f.body;
    fit = main.fit;
    apart = main.apart;
    linear = main.linear;
    count = as_many (IsProcessOf f e) f.processes e.processes pr.processes;
    follows = λ p q i. main_follows f e pr procedures_play (main_plays main) (named_once f.processes main.apart) p q (session_map fin.empty) i;
    services = main_served f e pr procedures_play (starts_play f e.channels checked.fit pr.channels checked.serve_roles (declared_scope (map (λ p. p.name) f.processes) []) (body_at f f.body) (λ a k j. refl) main.other_names (body_source f f.body) main.fit hold.starts);
    lists_fit = checked.lists_fit;
    holders_fit = main.holders_fit;
  }

  -- the code of each process follows main, whatever its session names stand for at first
  pub main_code_follows : MainChecked e f sets lists → (p : ℕ) (q : Process) (m : SessionMap) → slice_get e.processes p ≡ Some q → IsEqualUpToPruning e (procedures_of f) (Live p) (first_configuration f).tree q.body m
  main_code_follows main p q m i = main_follows f e pr procedures_play (main_plays main) (named_once f.processes main.apart) p q m i

pub realizes : (e : Endpoints) (f : File) (sets : NameId → ParameterSets) (lists : ListedHolders) → IsProjectionOf e f sets lists → Realizes e f sets lists
realizes e f sets lists is = record {
  sound = sound f e sets lists is.projects is.roles is.procedures;
  begins = begins f e sets lists is.projects is.roles is.procedures is.main;
  no_call_first = no_call_first f e is.projects is.procedures.guarded;
}
