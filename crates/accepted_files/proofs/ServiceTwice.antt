-- The service started twice meets all that is asked of a projection.
use Rattle.std.proofs.Common.{◌≡◌, ℕ, zero, suc, ◌≤◌, ◌==◌, ◌&&◌, Bool, true, false, [], ◌∷◌, length, Option, Some, None, refl, sym, subst, arith, if◌then◌else◌}
use Rattle.std.specs.Prelude.{slice_get}
use Rattle.chor_base.specs.declared.names.NameId.{NameId}
use Rattle.chor_base.specs.Meaning.{Hosts}
use Rattle.chor_tree.specs.declared.file.File.{File}
use Rattle.chor_tree.specs.declared.file.Named.{Named as Written}
use Rattle.chor_tree.specs.declared.file.Proc.{Proc}
use Rattle.chor_tree.specs.Children.{IsClosed as IsClosedTree}
use Rattle.chor_semantics.specs.Choreography.{Ref, Named, ref_eq, Starts}
use Rattle.chor_semantics.specs.Sources.{Procedure, procedures_of}
use Rattle.chor_semantics.specs.Steps.{procedure_named}
use Rattle.chor_semantics.specs.Examples.Source.{nodes_of, written}
use Rattle.chor_semantics.specs.Examples.ServiceTwice.{source}
use Rattle.chor_semantics.specs.Examples.Names.{p, q, s, z, k, h, d, A, S}
use Rattle.endpoint_code.specs.declared.endpoints.Channel.{Channel}
use Rattle.endpoint_code.specs.Code.{IsClosed}
use Rattle.endpoint_code.specs.Bodies.{AreInside}
use Rattle.endpoint_code.specs.Network.{channel_of, has_room}
use Rattle.projection.specs.Codes.{proc_named}
use Rattle.projection.specs.Projects.{Projects, body_at}
use Rattle.projection.specs.Examples.ServiceTwice.{file, FileIsKept, AreKept, endpoints, nodes, services, processes, channels}
use Rattle.well_formed.specs.WellFormed.{AreDistinctRoles, IsWellFormed, declared_scope}
use Rattle.well_formed.specs.Linear.{ParameterSets}
use Rattle.well_formed.specs.Holders.{ListedHolders, is_role, holder_after, HoldersFit}
use Rattle.well_formed.proofs.References.{and_first, and_second, same_name, same_ref}
use Rattle.accepted_files.specs.PlayedRoles.{HoldsRoles}
use Rattle.correspondence.specs.Premises.{IsUnhindered}
use Rattle.accepted_files.specs.Premises.{HoldsItsRoles, ProceduresChecked, MainChecked, MainHolds, BindsNo, IsProjectionOf}

-- no parameter is in any set, and none is listed: there is no procedure
abbrev pub no_sets : NameId → ParameterSets
no_sets a f i = false

abbrev pub no_lists : ListedHolders
no_lists f i r = None

-- the one channel
the_channel : (a : NameId) (c : Channel) → channel_of channels a ≡ Some c → (d ≡ a) × (record { name = d; active = A ∷ []; serve = S ∷ [] } ≡ c)
the_channel a c h = go (d.0 == a.0) refl h
  where
    go : (b : Bool) → (d.0 == a.0) ≡ b → (if b then Some (record { name = d; active = A ∷ []; serve = S ∷ [] }) else None) ≡ Some c → (d ≡ a) × (record { name = d; active = A ∷ []; serve = S ∷ [] } ≡ c)
    go true i j = (same_name d a i, cc)
    go false i j = absurd cc

module _ (tree : IsClosedTree (nodes_of source)) (kept : FileIsKept) (code : IsClosed nodes) (inside : AreInside nodes [] services processes) (numbered : AreKept) where
  abbrev f : File
  f = file tree kept

  main_holds : MainHolds f
  main_holds zero w i = subst (λ (y : Written). HoldsRoles [] y.name (body_at f f.body) (λ y. None)) (first i) (refl, tt, (refl, tt))
    where
      first : slice_get f.processes 0 ≡ Some w → written p ≡ w
      first j = cc
  main_holds (suc zero) w i = subst (λ (y : Written). HoldsRoles [] y.name (body_at f f.body) (λ y. None)) (second i) (refl, tt, (refl, tt))
    where
      second : slice_get f.processes 1 ≡ Some w → written q ≡ w
      second j = cc
  main_holds (suc (suc n)) w i = absurd (none n i)
    where
      none : (n : ℕ) → None ≡ Some w → ⊥
      none n j = cc

  no_proc : (g : NameId) (x : Proc) → proc_named f.procs g ≡ Some x → ⊥
  no_proc g x i = cc

  no_procedure : (g : NameId) (x : Procedure) → procedure_named (procedures_of f) g ≡ Some x → ⊥
  no_procedure g x i = cc

  roles_held : HoldsItsRoles f
  roles_held = record {
    procedures = λ g r x i w. absurd (no_proc g x i);
    main = main_holds;
    starts = (((refl, (refl, tt, tt)), tt), (tt, (tt, (((refl, (refl, tt, tt)), tt), (tt, (tt, tt))))));
    procedure_starts = λ g x i. absurd (no_proc g x i);
  }

  procedures_checked : ProceduresChecked (endpoints code inside numbered) f no_sets no_lists
  procedures_checked = record {
    fit = λ g x i. absurd (no_procedure g x i);
    guarded = tt;
    linear = λ a c i two g x j. absurd (no_procedure g x j);
    roles = λ a c i. subst (λ (y : Channel). AreDistinctRoles y.active) (the_channel a c i).1 (refl, tt);
    serve_roles = λ a c i. subst (λ (y : Channel). AreDistinctRoles y.serve) (the_channel a c i).1 (refl, tt);
    other_names = λ a c i g x j. absurd (no_proc g x j);
    lists_fit = λ g x i n r m j. absurd (no_procedure g x i);
    holders_fit = λ g x i y r. absurd (no_procedure g x i);
  }

  one_role : (c : Channel) → record { name = d; active = A ∷ []; serve = S ∷ [] } ≡ c → 2 ≤ length c.active → ⊥
  one_role c i two = less (subst (λ (y : Channel). 2 ≤ length y.active) (sym i) two)
    where
      less : 2 ≤ 1 → ⊥
      less t = omega (arith, t)

  main_fits : IsWellFormed channels [] (declared_scope (p ∷ q ∷ []) []) (body_at f f.body)
  main_fits = (
    record { channel = record { name = d; active = A ∷ []; serve = S ∷ [] }; declared = refl; active_roles = refl; service_roles = refl; known = (refl, tt); apart = (refl, tt); new_processes = (refl, tt); new_session = refl },
    (
      record { session = refl; sender = refl; receiver = refl; differ = refl; content = tt },
      (
        record { session = refl; sender = refl; receiver = refl; differ = refl; content = tt },
        (
          record { channel = record { name = d; active = A ∷ []; serve = S ∷ [] }; declared = refl; active_roles = refl; service_roles = refl; known = (refl, tt); apart = (refl, tt); new_processes = (refl, tt); new_session = refl },
          (
            record { session = refl; sender = refl; receiver = refl; differ = refl; content = tt },
            (record { session = refl; sender = refl; receiver = refl; differ = refl; content = tt }, tt),
          ),
        ),
      ),
    ),
  )

  -- a role that is used is its holder's
  used : (y : ℕ) (r : NameId) (t a : NameId) (G : Ref → NameId → Type 0) → G (Named t.0 0) a → (ref_eq (Named y 0) (Named t.0 0) && (r.0 == a.0)) ≡ true → G (Named y 0) r
  used y r t a G g i = subst (λ x. G x r) (sym (same_ref (Named y 0) (Named t.0 0) (and_first _ _ i))) (subst (G (Named t.0 0)) (sym (same_name r a (and_second _ _ i))) g)

  -- who holds a role after the first start, and after the second
  abbrev first_held : Ref → NameId → Option Ref
  first_held u r = holder_after u r (Starts d 0 k.0 ((Named p.0 0, A) ∷ []) ((s.0, S) ∷ [])) None

  abbrev second_held : Ref → NameId → Option Ref
  second_held u r = holder_after u r (Starts d 0 h.0 ((Named q.0 0, A) ∷ []) ((z.0, S) ∷ [])) (first_held u r)

  main_checked : MainChecked (endpoints code inside numbered) f no_sets no_lists
  main_checked = record {
    fit = main_fits;
    apart = (refl, (refl, tt));
    linear = λ a c i two. absurd (one_role c (the_channel a c i).1 two);
    holders_fit = λ y r. held y r;
    other_names = λ a c i. subst (λ (y : NameId). BindsNo y.0 (body_at f f.body)) (the_channel a c i).0 (refl, (refl, tt));
  }
    where
      held : (y : ℕ) (r : NameId) → HoldersFit no_lists (Named y 0) r (body_at f f.body) None
      held y r = (
        tt,
        (
          (at k A (λ u v. first_held u v ≡ Some (Named p.0 0)) refl, at k S (λ u v. first_held u v ≡ Some (Named s.0 0)) refl, λ i. absurd (no i)),
          (
            (at k S (λ u v. first_held u v ≡ Some (Named s.0 0)) refl, at k A (λ u v. first_held u v ≡ Some (Named p.0 0)) refl, λ i. absurd (no i)),
            (
              tt,
              (
                (at h A (λ u v. second_held u v ≡ Some (Named q.0 0)) refl, at h S (λ u v. second_held u v ≡ Some (Named z.0 0)) refl, λ i. absurd (no i)),
                ((at h S (λ u v. second_held u v ≡ Some (Named z.0 0)) refl, at h A (λ u v. second_held u v ≡ Some (Named q.0 0)) refl, λ i. absurd (no i)), tt),
              ),
            ),
          ),
        ),
      )
        where
          at : (t a : NameId) (G : Ref → NameId → Type 0) → G (Named t.0 0) a → is_role (Named y 0) r (Named t.0 0) a ≡ true → G (Named y 0) r
          at = used y r

          no : false ≡ true → ⊥
          no i = cc

  pub is_projection : Projects f (endpoints code inside numbered) → IsProjectionOf (endpoints code inside numbered) f no_sets no_lists
  is_projection projects = record { projects = projects; roles = roles_held; procedures = procedures_checked; main = main_checked }

  pub is_unhindered : (hosts : Hosts) (cap : Option ℕ) → has_room cap [] ≡ true → IsUnhindered (endpoints code inside numbered) f hosts cap
  is_unhindered hosts cap room = record {
    room = room;
    active = λ a c i. subst (λ (y : Channel). 1 ≤ length y.active) (the_channel a c i).1 one;
    answered = record { main = tt; procedures = λ g x i. absurd (no_procedure g x i) };
  }
    where
      one : 1 ≤ 1
      one = omega arith
