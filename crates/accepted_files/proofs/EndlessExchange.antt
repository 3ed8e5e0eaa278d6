-- The endless exchange, with a start, a recursive procedure and a session parameter, plays its roles.
use Rattle.std.proofs.Common.{◌≡◌, ℕ, zero, suc, ◌==◌, Bool, true, false, if◌then◌else◌, [], ◌∷◌, Some, None, refl, sym, subst}
use Rattle.std.specs.Prelude.{slice_get}
use Rattle.chor_base.specs.declared.names.NameId.{NameId}
use Rattle.chor_base.specs.declared.expr.Expr.{Expr}
use Rattle.chor_tree.specs.declared.file.Named.{Named as Written}
use Rattle.chor_tree.specs.declared.file.Proc.{Proc}
use Rattle.chor_semantics.specs.Examples.Source.{nodes_of, file_of, IsMade, written}
use Rattle.chor_semantics.specs.Examples.Names.{p, q}
use Rattle.chor_semantics.specs.Examples.EndlessExchange.{loop, source}
use Rattle.chor_semantics.specs.Sources.{tree_in, trees_of}
use Rattle.endpoint_code.proofs.Decides.{name_same}
use Rattle.projection.specs.Codes.{proc_named}
use Rattle.projection.specs.Projects.{body_at}
use Rattle.accepted_files.specs.PlayedRoles.{has_name, HoldsRoles, roles_of, params_of, ServicesHold}
use Rattle.accepted_files.specs.Premises.{MainHolds, HoldsItsRoles}

module _ (e : Expr) (made : IsMade (source e)) where
  only_loop : (h : NameId) (x : Proc) → proc_named (loop ∷ []) h ≡ Some x → loop ≡ x
  only_loop h x i = go (loop.name.name.0 == h.0) i
    where
      go : (b : Bool) → (if b then Some loop else None) ≡ Some x → loop ≡ x
      go true j = cc
      go false j = absurd cc

  loop_plays : (a : NameId) → has_name a (params_of loop) ≡ true → HoldsRoles (loop ∷ []) a (tree_in (trees_of (nodes_of (source e))) loop.body) (roles_of a loop.sessions)
  loop_plays a w = go (a.0 == p.0) refl (a.0 == q.0) refl w
    where
      go : (b : Bool) → (a.0 == p.0) ≡ b → (c : Bool) → (a.0 == q.0) ≡ c → (if b then true else (if c then true else false)) ≡ true → HoldsRoles (loop ∷ []) a (tree_in (trees_of (nodes_of (source e))) loop.body) (roles_of a loop.sessions)
      go true i c j v = subst (λ (z : NameId). HoldsRoles (loop ∷ []) z (tree_in (trees_of (nodes_of (source e))) loop.body) (roles_of z loop.sessions)) (sym (name_same a p refl i))
          (refl, tt, (refl, ((λ i. refl), tt)))
      go false i true j v = subst (λ (z : NameId). HoldsRoles (loop ∷ []) z (tree_in (trees_of (nodes_of (source e))) loop.body) (roles_of z loop.sessions)) (sym (name_same a q refl j))
          (refl, (refl, tt, ((λ i. refl), tt)))
      go false i false j v = absurd cc

  main_plays : MainHolds (file_of (source e) made)
  main_plays zero w i = subst (λ (z : Written). HoldsRoles (loop ∷ []) z.name (body_at (file_of (source e) made) (file_of (source e) made).body) (λ y. None)) (first i) ((λ i. refl), tt)
    where
      first : slice_get (file_of (source e) made).processes 0 ≡ Some w → written p ≡ w
      first i = cc
  main_plays (suc zero) w i = subst (λ (z : Written). HoldsRoles (loop ∷ []) z.name (body_at (file_of (source e) made) (file_of (source e) made).body) (λ y. None)) (second i) ((λ i. refl), tt)
    where
      second : slice_get (file_of (source e) made).processes 1 ≡ Some w → written q ≡ w
      second i = cc
  main_plays (suc (suc n)) w i = absurd (none n i)
    where
      none : (n : ℕ) → None ≡ Some w → ⊥
      none n i = cc

  pub roles_held : HoldsItsRoles (file_of (source e) made)
  roles_held = record {
    procedures = λ h a x i w. let z = only_loop h x i in subst (λ (v : Proc). HoldsRoles (loop ∷ []) a (tree_in (trees_of (nodes_of (source e))) v.body) (roles_of a v.sessions)) z (loop_plays a (subst (λ (v : Proc). has_name a (params_of v) ≡ true) (sym z) w));
    main = main_plays;
    starts = (tt, tt);
    procedure_starts = λ h x i. let z = only_loop h x i in subst (λ (v : Proc). ServicesHold (loop ∷ []) (body_at (file_of (source e) made) v.body)) z (tt, (tt, tt));
  }
