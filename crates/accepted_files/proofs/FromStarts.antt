-- A start's services are its channel's.
use Rattle.std.proofs.Common.{◌≡◌, ℕ, ◌==◌, ◌&&◌, ◌||◌, ◌++◌, Bool, true, false, if◌then◌else◌, List, [], ◌∷◌, Some, None, refl, sym, ap, ◌∙◌, subst, arith}
use Rattle.std.specs.Prelude.{map}
use Rattle.std.proofs.lemmas.Bool.Decides.{nat_tests}
use Rattle.chor_base.specs.declared.names.NameId.{NameId}
use Rattle.chor_tree.specs.declared.file.File.{File}
use Rattle.chor_tree.specs.declared.file.Named.{Named as Written}
use Rattle.chor_tree.specs.declared.file.Service.{Service}
use Rattle.chor_semantics.specs.Choreography.{Ref, Named, among, Starts, Communicates, InTransit, Alone, Choreography, Then, Either, Calls, Ends}
use Rattle.chor_semantics.specs.Sources.{Procedure, procedures_of}
use Rattle.endpoint_code.specs.declared.endpoints.Channel.{Channel}
use Rattle.endpoint_code.specs.Network.{channel_of}
use Rattle.projection.specs.Projects.{serving, service_roles, started_services, channel_from, names_of}
use Rattle.well_formed.specs.WellFormed.{Scope, AreDistinctRoles, role_among, entered, scope_after, StartFits, IsWellFormed, AllFit}
use Rattle.accepted_files.proofs.AlongTrees.{self_test}
use Rattle.accepted_files.proofs.FromNames.{turned, free}
use Rattle.accepted_files.proofs.FromRoles.{still_in, plays}
use Rattle.well_formed.specs.SourceTrees.{IsSource}
use Rattle.std.specs.List.{AllByRecursion}
use Rattle.accepted_files.proofs.StartsPlay.{has_pair, ServicesPlay, StartsPlay}
use Rattle.accepted_files.specs.PlayedRoles.{process_name, EachServiceHolds, ServicesHold, Roles, HoldsRoles, with_role}
use Rattle.accepted_files.specs.Premises.{BindsNo}
use Rattle.accepted_files.proofs.Plays.{Plays}

parts : (a b : Bool) → (a || b) ≡ false → (a ≡ false) × (b ≡ false)
parts false b h = (refl, h)
parts true b h = absurd cc

no_test : (x y : ℕ) → (x == y) ≡ false → (y == x) ≡ false
no_test x y h = grind (arith, nat_tests)

-- where no role stands twice, each service process is its role's
-- among all of them, the first of a role is that of this one
first_serving : (s : ℕ × NameId) (ss : List (ℕ × NameId)) → serving s.1 (s ∷ ss) ≡ Some (process_name s.0)
first_serving s ss = ap (λ b. if b then Some (process_name s.0) else serving s.1 ss) (self_test s.1.0)

skip_serving : (s : ℕ × NameId) (r : NameId) (ss : List (ℕ × NameId)) → (s.1.0 == r.0) ≡ false → serving r (s ∷ ss) ≡ serving r ss
skip_serving s r ss h = ap (λ b. if b then Some (process_name s.0) else serving r ss) h

abbrev Serving : List (ℕ × NameId) → List (ℕ × NameId) → Type 0
Serving all [] = Unit {0}
Serving all (s ∷ ss) = (serving s.1 all ≡ Some (process_name s.0)) × Serving all ss

serving_more : (s : ℕ × NameId) (all ss : List (ℕ × NameId)) → role_among s.1 (map (λ z. z.1) ss) ≡ false → Serving all ss → Serving (s ∷ all) ss
serving_more s all [] h w = tt
serving_more s all (z ∷ zs) h w = let p = parts (s.1.0 == z.1.0) (role_among s.1 (map (λ z. z.1) zs)) h in (skip_serving s z.1 all p.0 ∙ w.0, serving_more s all zs p.1 w.1)

all_serving : (ss : List (ℕ × NameId)) → AreDistinctRoles (map (λ z. z.1) ss) → Serving ss ss
all_serving [] h = tt
all_serving (s ∷ ss) h = (first_serving s ss, serving_more s ss ss h.0 (all_serving ss h.1))

-- the roles of a channel are service roles of the file
abbrev Paired : NameId → List NameId → List (NameId × NameId) → Type 0
Paired a [] zs = Unit {0}
Paired a (r ∷ rs) zs = (has_pair a r zs ≡ true) × Paired a rs zs

pair_later : (a r : NameId) (z : NameId × NameId) (zs : List (NameId × NameId)) → has_pair a r zs ≡ true → has_pair a r (z ∷ zs) ≡ true
pair_later a r z zs h = go ((z.0.0 == a.0) && (z.1.0 == r.0))
  where
    go : (b : Bool) → (if b then true else has_pair a r zs) ≡ true
    go true = refl
    go false = h

paired_later : (a : NameId) (rs : List NameId) (z : NameId × NameId) (zs : List (NameId × NameId)) → Paired a rs zs → Paired a rs (z ∷ zs)
paired_later a [] z zs h = tt
paired_later a (r ∷ rs) z zs h = (pair_later a r z zs h.0, paired_later a rs z zs h.1)

paired_past : (a : NameId) (rs : List NameId) (ys zs : List (NameId × NameId)) → Paired a rs zs → Paired a rs (ys ++ zs)
paired_past a rs [] zs h = h
paired_past a rs (y ∷ ys) zs h = paired_later a rs y (ys ++ zs) (paired_past a rs ys zs h)

paired_here : (a c : NameId) (ws : List Written) (zs : List (NameId × NameId)) → (c.0 == a.0) ≡ true → Paired a (names_of ws) (map (λ r. (c, r.name)) ws ++ zs)
paired_here a c [] zs h = tt
paired_here a c (w ∷ ws) zs h = (
  ap (λ b. if b then true else has_pair a w.name (map (λ r. (c, r.name)) ws ++ zs)) (ap (λ b. b && (w.name.0 == w.name.0)) h ∙ self_test w.name.0),
  paired_later a (names_of ws) (c, w.name) (map (λ r. (c, r.name)) ws ++ zs) (paired_here a c ws zs h),
)

channel_paired : (a : NameId) (k : Channel) (ss : List Service) → channel_of (map channel_from ss) a ≡ Some k → Paired a k.serve (service_roles ss)
channel_paired a k [] h = absurd cc
channel_paired a k (s ∷ ss) h = go (s.name.name.0 == a.0) refl (channel_paired a k ss)
  where
    go : (b : Bool) → (s.name.name.0 == a.0) ≡ b → (channel_of (map channel_from ss) a ≡ Some k → Paired a k.serve (service_roles ss)) → Paired a k.serve (service_roles (s ∷ ss))
    go true e more =
        let j : Some (channel_from s) ≡ Some k = sym (ap (λ b. if b then Some (channel_from s) else channel_of (map channel_from ss) a) e) ∙ h in
        let z : channel_from s ≡ k = cc in
        subst (λ (v : Channel). Paired a v.serve (service_roles (s ∷ ss))) z (paired_here a s.name.name s.serve (service_roles ss) e)
    go false e more = paired_past a k.serve (map (λ r. (s.name.name, r.name)) s.serve) (service_roles ss) (more (sym (ap (λ b. if b then Some (channel_from s) else channel_of (map channel_from ss) a) e) ∙ h))

entered_all : (ss : List (ℕ × NameId)) (bs : List Ref) → AllByRecursion (λ s. among (Named s.0 0) (entered 0 ss bs) ≡ true) ss
entered_all [] bs = tt
entered_all (s ∷ ss) bs = (still_in (process_name s.0) ss (Named s.0 0 ∷ bs) (ap (λ b. (b && (0 == 0)) || among (Named s.0 0) bs) (self_test s.0)), entered_all ss (Named s.0 0 ∷ bs))

module _ (f : File) (ks : List Channel) (fit : AllFit ks (procedures_of f)) (are : ks ≡ map channel_from (started_services f)) (apart : (a : NameId) (k : Channel) → channel_of ks a ≡ Some k → AreDistinctRoles k.serve) where
  abbrev procs : List Procedure
  procs = procedures_of f

  one_start : (c : NameId) (k : ℕ) (all : List (ℕ × NameId)) (rest : Choreography) (bs : List Ref) → ((r : NameId) (g : Roles) → among (Named r.0 0) bs ≡ true → HoldsRoles f.procs r rest g → Plays f.procs r rest g) → (ss : List (ℕ × NameId)) → AllByRecursion (λ s. among (Named s.0 0) bs ≡ true) ss → Serving all ss → Paired c (map (λ s. s.1) ss) (service_roles (started_services f)) → EachServiceHolds f.procs k rest ss → ServicesPlay f c k all rest ss
  one_start c k all rest bs conv [] b v w h = tt
  one_start c k all rest bs conv (s ∷ ss) b v w h = (v.0, w.0, conv (process_name s.0) (with_role (λ y. None) k (Some s.1)) b.0 h.0, one_start c k all rest bs conv ss b.1 v.1 w.1 h.1)

  pub starts_play : (sc : Scope) (c : Choreography) → ((a : NameId) (k : Channel) → channel_of ks a ≡ Some k → among (Named a.0 0) sc.sessions ≡ false) → ((a : NameId) (k : Channel) → channel_of ks a ≡ Some k → BindsNo a.0 c) → IsSource c → IsWellFormed ks procs sc c → ServicesHold f.procs c → StartsPlay f c
  starts_play sc (Then (Starts c e k act srv) rest) out nos i w h =
      let z : StartFits ks sc c e k act srv = w.0 in
      let out' : (a : NameId) (v : Channel) → channel_of ks a ≡ Some v → among (Named a.0 0) (Named k e ∷ sc.sessions) ≡ false = λ a v j. ap (λ b. (b && (0 == e)) || among (Named a.0 0) sc.sessions) (turned a.0 k (nos a v j).0) ∙ out a v j in
      let there : among (Named k 0) (Named k e ∷ sc.sessions) ≡ true = ap (λ v. ((k == k) && (0 == v)) || among (Named k 0) sc.sessions) i.0.0 ∙ ap (λ b. (b && (0 == 0)) || among (Named k 0) sc.sessions) (self_test k) in (
        (
          free ks procs k c.0 (scope_after sc (Starts c e k act srv)) rest there (out' c z.channel z.declared) i.1 w.1 (nos c z.channel z.declared).1,
          one_start c k srv rest (entered e srv sc.processes) (λ r g j v. plays f.tree.nodes f.procs ks fit r (scope_after sc (Starts c e k act srv)) rest g j i.1 w.1 v) srv
              (subst (λ v. AllByRecursion (λ s. among (Named s.0 0) (entered v srv sc.processes) ≡ true) srv) (sym i.0.0) (entered_all srv sc.processes))
              (all_serving srv (subst AreDistinctRoles (sym z.service_roles) (apart c z.channel z.declared)))
              (subst (λ (v : List NameId). Paired c v (service_roles (started_services f))) (sym z.service_roles) (channel_paired c z.channel (started_services f) (subst (λ (v : List Channel). channel_of v c ≡ Some z.channel) are z.declared)))
              h.0,
        ),
        starts_play (scope_after sc (Starts c e k act srv)) rest out' (λ a v j. (nos a v j).1) i.1 w.1 h.1,
      )
  starts_play sc (Then (Communicates u p a q b x) rest) out nos i w h = (tt, starts_play sc rest out nos i.1 w.1 h.1)
  starts_play sc (Then (InTransit s a b m q) rest) out nos i w h = (tt, starts_play sc rest out nos i.1 w.1 h.1)
  starts_play sc (Then (Alone p o) rest) out nos i w h = (tt, starts_play sc rest out nos i.1 w.1 h.1)
  starts_play sc (Either p x c d) out nos i w h = (starts_play sc c out (λ a v j. (nos a v j).0) i.1 w.1 h.0, starts_play sc d out (λ a v j. (nos a v j).1) i.2 w.2 h.1)
  starts_play sc (Calls g d ps ss) out nos i w h = tt
  starts_play sc Ends out nos i w h = tt
