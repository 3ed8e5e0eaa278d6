-- What is kept along the statements of a source about who holds roles: a process has one role of a session, a session that
-- isn't in scope has no holders, and holders are in scope.
use Rattle.std.proofs.Common.{◌≡◌, List, [], ◌∷◌, ◌++◌, map, refl, sym, ap, ◌∙◌, Some, None, Option, Bool, true, false, if◌then◌else◌, ◌==◌, ◌&&◌, ◌||◌}
use Rattle.std.specs.List.{list_all}
use Rattle.std.proofs.lemmas.Bool.{and_parts}
use Rattle.chor_base.specs.declared.names.NameId.{NameId}
use Rattle.chor_tree.specs.declared.file.File.{File}
use Rattle.chor_tree.specs.declared.tree.Part.{Part}
use Rattle.chor_tree.specs.Names.{Scope, is_among}
use Rattle.well_formed.proofs.References.{same_name, clash, or_rights}
use Rattle.delegation.specs.declared.held.Held.{Held}
use Rattle.delegation.specs.Owners.{holder_of, holds_some, started, passed}
use Rattle.delegation.specs.Checks.{all_differ}
use Rattle.typing_rules.specs.declared.standings.Standing.{Standing}
use Rattle.typing_rules.specs.Environment.{standing_of, moved}
use Rattle.typed_sources.proofs.Checked.{some_is}
use Rattle.typed_sources.proofs.Moved.{standing_moved, with_state, passed_other, passed_this, holds_one}
use Rattle.typed_sources.proofs.Opened.{standing_more, standing_new, holder_other, holder_new, one_part}
use Rattle.typed_sources.proofs.Opened.{holder_among}
use Rattle.typed_sources.proofs.Scopes.{among_front}

pub record AreKept (hs : List Held) (ss : List Standing) (ps : List NameId) : Type 0 where
  pub one_role : (s a b p : NameId) → holder_of hs s a ≡ Some p → holder_of hs s b ≡ Some p → a ≡ b
  pub held : (s r : NameId) → standing_of ss s ≡ None → holder_of hs s r ≡ None
  pub in_scope : (s r p : NameId) → holder_of hs s r ≡ Some p → is_among ps p ≡ true

pub kept_moved : (hs : List Held) (ss : List Standing) (ps : List NameId) (k m : NameId) → AreKept hs ss ps → AreKept hs (moved ss k m) ps
kept_moved hs ss ps k m o = record {
  one_role = o.one_role;
  held = λ s r h. o.held s r (back (s.0 == k.0) (standing_of ss s) (sym (standing_moved ss k m s) ∙ h));
  in_scope = o.in_scope;
}
  where
    back : (b : Bool) (o : Option Standing) → (if b then with_state m o else o) ≡ None → o ≡ None
    back false o i = i
    back true None i = refl
    back true (Some z) i = absurd cc

module _ (f : File) (scope : Scope) where
  pub kept_passed : (hs : List Held) (ss : List Standing) (ps : List NameId) (h r p q : NameId) → holder_of hs h r ≡ Some p → holds_some hs h q ≡ false → is_among ps q ≡ true → AreKept hs ss ps → AreKept (passed hs h r q) ss ps
  kept_passed hs ss ps h r p q is free there t = record {
    held = λ s a i. gone s a ((s.0 == h.0) && (a.0 == r.0)) refl i;
    one_role = λ s a b z i j. one s a b z ((s.0 == h.0) && (a.0 == r.0)) ((s.0 == h.0) && (b.0 == r.0)) refl refl i j;
    in_scope = λ s a z i. in_there s a z ((s.0 == h.0) && (a.0 == r.0)) refl i;
  }
    where
      nothing : {o : Option NameId} → o ≡ None → o ≡ Some p → ⊥
      nothing i j = cc

      gone : (s a : NameId) (b : Bool) → ((s.0 == h.0) && (a.0 == r.0)) ≡ b → standing_of ss s ≡ None → holder_of (passed hs h r q) s a ≡ None
      gone s a false i j = passed_other f scope hs h r q s a i ∙ t.held s a j
      gone s a true i j =
          let w = and_parts _ _ i in
          absurd (nothing (ap (λ x. holder_of hs x r) (sym (same_name s h w.0)) ∙ t.held s r j) is)

      now_is : (s a z : NameId) → s ≡ h → a ≡ r → holder_of (passed hs h r q) s a ≡ Some z → z ≡ q
      now_is s a z same role i =
          some_is _ _ (sym i ∙ ap (λ x. holder_of (passed hs h r q) x a) same ∙ ap (λ x. holder_of (passed hs h r q) h x) role ∙ passed_this f scope hs h r q p is)

      in_there : (s a z : NameId) (b : Bool) → ((s.0 == h.0) && (a.0 == r.0)) ≡ b → holder_of (passed hs h r q) s a ≡ Some z → is_among ps z ≡ true
      in_there s a z false i j = t.in_scope s a z (sym (passed_other f scope hs h r q s a i) ∙ j)
      in_there s a z true i j = let w = and_parts _ _ i in ap (is_among ps) (now_is s a z (same_name s h w.0) (same_name a r w.1) j) ∙ there

      mixed : (s a b z : NameId) → s ≡ h → a ≡ r → holder_of (passed hs h r q) s a ≡ Some z → holder_of hs s b ≡ Some z → ⊥
      mixed s a b z same role i j =
          let held : holder_of hs h b ≡ Some q = ap (λ x. holder_of hs x b) (sym same) ∙ j ∙ ap Some (now_is s a z same role i) in
          clash (holds_one f scope hs h b q held) free

      one : (s a b z : NameId) (x y : Bool) → ((s.0 == h.0) && (a.0 == r.0)) ≡ x → ((s.0 == h.0) && (b.0 == r.0)) ≡ y → holder_of (passed hs h r q) s a ≡ Some z → holder_of (passed hs h r q) s b ≡ Some z → a ≡ b
      one s a b z false false i j k l = t.one_role s a b z (sym (passed_other f scope hs h r q s a i) ∙ k) (sym (passed_other f scope hs h r q s b j) ∙ l)
      one s a b z true true i j k l = same_name a r (and_parts _ _ i).1 ∙ sym (same_name b r (and_parts _ _ j).1)
      one s a b z true false i j k l = let w = and_parts _ _ i in absurd (mixed s a b z (same_name s h w.0) (same_name a r w.1) k (sym (passed_other f scope hs h r q s b j) ∙ l))
      one s a b z false true i j k l = let w = and_parts _ _ j in absurd (mixed s b a z (same_name s h w.0) (same_name b r w.1) l (sym (passed_other f scope hs h r q s a i) ∙ k))

-- who has a part in a start is in scope after it
part_there : (ps : List NameId) (active serve : List Part) (p : NameId) → list_all (λ q. is_among ps q.process.name) active ≡ true → is_among (map (λ q. q.process.name) (active ++ serve)) p ≡ true → is_among (ps ++ map (λ q. q.process.name) serve) p ≡ true
part_there ps [] serve p k h = behind ps h
  where
    behind : (ps : List NameId) → is_among (map (λ q. q.process.name) serve) p ≡ true → is_among (ps ++ map (λ q. q.process.name) serve) p ≡ true
    behind [] h = h
    behind (x ∷ xs) h = or_rights (x.0 == p.0) _ (behind xs h)
part_there ps (q ∷ qs) serve p k h = go (q.process.name.0 == p.0) refl h (part_there ps qs serve p w.1)
  where
    w : (is_among ps q.process.name ≡ true) × (list_all (λ z. is_among ps z.process.name) qs ≡ true)
    w = and_parts _ _ k

    go : (b : Bool) → (q.process.name.0 == p.0) ≡ b → (b || is_among (map (λ z. z.process.name) (qs ++ serve)) p) ≡ true → (is_among (map (λ z. z.process.name) (qs ++ serve)) p ≡ true → is_among (ps ++ map (λ z. z.process.name) serve) p ≡ true)
        → is_among (ps ++ map (λ z. z.process.name) serve) p ≡ true
    go true e i ih = among_front ps (map (λ z. z.process.name) serve) p (ap (is_among ps) (sym (same_name q.process.name p e)) ∙ w.0)
    go false e i ih = ih i

pub kept_started : (hs : List Held) (ss : List Standing) (ps : List NameId) (k : NameId) (st : Standing) (active serve : List Part) → st.session ≡ k → standing_of ss k ≡ None → all_differ (map (λ q. q.process.name) (active ++ serve)) ≡ true
    → list_all (λ q. is_among ps q.process.name) active ≡ true → AreKept hs ss ps → AreKept (hs ++ started k (active ++ serve)) (ss ++ st ∷ []) (ps ++ map (λ q. q.process.name) serve)
kept_started hs ss ps k st active serve same free od known t = record {
  one_role = λ s a b p i j. one_role s a b p (k.0 == s.0) refl i j;
  held = λ s r i. held s r (k.0 == s.0) refl i;
  in_scope = λ s r p i. in_there s r p (k.0 == s.0) refl i;
}
  where
    here : (s r p : NameId) → (k.0 == s.0) ≡ true → holder_of (hs ++ started k (active ++ serve)) s r ≡ Some p → holder_of (started k (active ++ serve)) k r ≡ Some p
    here s r p i j = sym (holder_new hs k (active ++ serve) r (t.held k r free)) ∙ ap (λ x. holder_of (hs ++ started k (active ++ serve)) x r) (same_name k s i) ∙ j

    one_role : (s a b p : NameId) (x : Bool) → (k.0 == s.0) ≡ x → holder_of (hs ++ started k (active ++ serve)) s a ≡ Some p → holder_of (hs ++ started k (active ++ serve)) s b ≡ Some p → a ≡ b
    one_role s a b p false i m n = t.one_role s a b p (sym (holder_other hs k (active ++ serve) s a i) ∙ m) (sym (holder_other hs k (active ++ serve) s b i) ∙ n)
    one_role s a b p true i m n = one_part k (active ++ serve) od a b p (here s a p i m) (here s b p i n)

    no : (o : Option Standing) → o ≡ None → {x : Standing} → o ≡ Some x → ⊥
    no o a b = cc

    held : (s r : NameId) (b : Bool) → (k.0 == s.0) ≡ b → standing_of (ss ++ st ∷ []) s ≡ None → holder_of (hs ++ started k (active ++ serve)) s r ≡ None
    held s r true i j =
        let n : standing_of ss s ≡ None = ap (standing_of ss) (sym (same_name k s i)) ∙ free in
        absurd (no (standing_of (ss ++ st ∷ []) s) j (standing_new ss st s n (ap (λ z. z.0 == s.0) same ∙ i)))
    held s r false i j = holder_other hs k (active ++ serve) s r i ∙ t.held s r (sym (standing_more ss st s (ap (λ z. z.0 == s.0) same ∙ i)) ∙ j)

    in_there : (s r p : NameId) (b : Bool) → (k.0 == s.0) ≡ b → holder_of (hs ++ started k (active ++ serve)) s r ≡ Some p → is_among (ps ++ map (λ q. q.process.name) serve) p ≡ true
    in_there s r p false i j = among_front ps (map (λ q. q.process.name) serve) p (t.in_scope s r p (sym (holder_other hs k (active ++ serve) s r i) ∙ j))
    in_there s r p true i j = part_there ps active serve p known (holder_among k (active ++ serve) r p (here s r p i j))
