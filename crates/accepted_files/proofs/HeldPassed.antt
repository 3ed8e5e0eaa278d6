-- A role is handed over: in which sessions the giver, the taker and everybody else hold a role after it.
use Rattle.std.proofs.Common.{◌≡◌, List, sym, ap, ◌∙◌, refl, Some, Bool, true, false, if◌then◌else◌, ◌==◌, ◌&&◌}
use Rattle.std.proofs.lemmas.Bool.{and_parts}
use Rattle.chor_base.specs.declared.names.NameId.{NameId}
use Rattle.chor_tree.specs.declared.file.File.{File}
use Rattle.chor_tree.specs.declared.file.Named.{Named as Written}
use Rattle.chor_tree.specs.declared.tree.Part.{Part}
use Rattle.chor_tree.specs.Names.{Scope}
use Rattle.well_formed.proofs.References.{same_name, clash, true_eq}
use Rattle.delegation.specs.declared.held.Held.{Held as Entry}
use Rattle.delegation.specs.Owners.{holder_of, holds_some, passed}
use Rattle.typing_rules.specs.Environment.{Environment}
use Rattle.typed_sources.proofs.Checked.{some_is}
use Rattle.typed_sources.proofs.Moved.{passed_other, passed_this, holds_one}
use Rattle.accepted_files.specs.Held.{Held, with_held}
use Rattle.typed_sources.proofs.Owned.{KeepsOwners}
use Rattle.accepted_files.proofs.Knows.{HasRole, Knows}

module _ (r : NameId) (f : File) (scope : Scope) (e : Environment) (t : KeepsOwners scope e) (g : Held) (knows : Knows r g e)
    (a b : Part) (given : Written) (role : NameId) (is : holder_of e.owners given.name role ≡ Some a.process.name) (free : holds_some e.owners given.name b.process.name ≡ false) where
  abbrev pub P : List Entry
  P = passed e.owners given.name role b.process.name

  abbrev here_is : NameId → NameId → Bool
  here_is s c = (s.0 == given.name.0) && (c.0 == role.0)

  other : (s c : NameId) → here_is s c ≡ false → holder_of P s c ≡ holder_of e.owners s c
  other s c i = passed_other f scope e.owners given.name role b.process.name s c i

  elsewhere : (s c : NameId) → (s.0 == given.name.0) ≡ false → here_is s c ≡ false
  elsewhere s c i = ap (λ x. x && (c.0 == role.0)) i

  -- the taker is the new holder
  new_is : (s c : NameId) → here_is s c ≡ true → holder_of P s c ≡ Some b.process.name
  new_is s c i =
      let v = and_parts _ _ i in
      ap (λ x. holder_of P x c) (same_name s given.name v.0) ∙ ap (holder_of P given.name) (same_name c role v.1) ∙ passed_this f scope e.owners given.name role b.process.name a.process.name is

  old_is : (s c : NameId) → here_is s c ≡ true → holder_of e.owners s c ≡ Some a.process.name
  old_is s c i = let v = and_parts _ _ i in ap (λ x. holder_of e.owners x c) (same_name s given.name v.0) ∙ ap (holder_of e.owners given.name) (same_name c role v.1) ∙ is

  -- the taker held none in the session before
  none_before : (c : NameId) → (r.0 == b.process.name.0) ≡ true → holder_of e.owners given.name c ≡ Some r → ⊥
  none_before c me h = clash (holds_one f scope e.owners given.name c b.process.name (h ∙ ap Some (same_name r b.process.name me))) free

  -- after it these are the sessions in which it holds a role
  pub record KnowsPassed (g' : Held) : Type 0 where
    pub there : (s c : NameId) → holder_of P s c ≡ Some r → g' s.0 ≡ true
    pub back : (s : NameId) → g' s.0 ≡ true → HasRole P s r

  still_passed : (s : NameId) → (s.0 == given.name.0) ≡ false → g s.0 ≡ true → HasRole P s r
  still_passed s i j = let b = knows.back s j in record { role = b.role; is = other s b.role (elsewhere s b.role i) ∙ b.is }

  pub sent : (r.0 == a.process.name.0) ≡ true → KnowsPassed (with_held g given.name.0 false)
  sent me = record { there = λ s c h. there s c (s.0 == given.name.0) refl (here_is s c) refl h; back = λ s h. back s (s.0 == given.name.0) refl h }
    where
      mine : holder_of e.owners given.name role ≡ Some r
      mine = is ∙ ap Some (sym (same_name r a.process.name me))

      there : (s c : NameId) (x : Bool) → (s.0 == given.name.0) ≡ x → (y : Bool) → here_is s c ≡ y → holder_of P s c ≡ Some r → (if s.0 == given.name.0 then false else g s.0) ≡ true
      there s c false i y j h = ap (λ (b : Bool). if b then false else g s.0) i ∙ knows.there s c (sym (other s c (elsewhere s c i)) ∙ h)
      there s c true i true j h =
          let same : b.process.name ≡ r = some_is _ _ (sym (new_is s c j) ∙ h) in
          absurd (none_before role (ap (λ (z : NameId). r.0 == z.0) same ∙ true_eq r.0) mine)
      there s c true i false j h =
          let cs : c ≡ role = t.one_role given.name c role r (ap (λ x. holder_of e.owners x c) (sym (same_name s given.name i)) ∙ sym (other s c j) ∙ h) mine in
          absurd (clash (ap (λ x. x && (c.0 == role.0)) i ∙ ap (λ (z : NameId). z.0 == role.0) cs ∙ true_eq role.0) j)

      back : (s : NameId) (x : Bool) → (s.0 == given.name.0) ≡ x → (if s.0 == given.name.0 then false else g s.0) ≡ true → HasRole P s r
      back s true i h = absurd (clash h (ap (λ (b : Bool). if b then false else g s.0) i))
      back s false i h = still_passed s i (sym (ap (λ (b : Bool). if b then false else g s.0) i) ∙ h)

  pub gained : (r.0 == b.process.name.0) ≡ true → KnowsPassed (with_held g given.name.0 true)
  gained me = record { there = λ s c h. there s c (s.0 == given.name.0) refl h; back = λ s h. back s (s.0 == given.name.0) refl h }
    where
      there : (s c : NameId) (x : Bool) → (s.0 == given.name.0) ≡ x → holder_of P s c ≡ Some r → (if s.0 == given.name.0 then true else g s.0) ≡ true
      there s c true i h = ap (λ (b : Bool). if b then true else g s.0) i
      there s c false i h = ap (λ (b : Bool). if b then true else g s.0) i ∙ knows.there s c (sym (other s c (elsewhere s c i)) ∙ h)

      back : (s : NameId) (x : Bool) → (s.0 == given.name.0) ≡ x → (if s.0 == given.name.0 then true else g s.0) ≡ true → HasRole P s r
      back s true i h = record {
        role = role;
        is = new_is s role (ap (λ x. x && (role.0 == role.0)) i ∙ true_eq role.0) ∙ ap Some (sym (same_name r b.process.name me));
      }
      back s false i h = still_passed s i (sym (ap (λ (b : Bool). if b then true else g s.0) i) ∙ h)

  pub neither : (r.0 == a.process.name.0) ≡ false → (r.0 == b.process.name.0) ≡ false → KnowsPassed g
  neither not_a not_b = record { there = λ s c h. there s c (here_is s c) refl h; back = λ s h. (let v = knows.back s h in back s v.role (here_is s v.role) refl v.is) }
    where
      there : (s c : NameId) (y : Bool) → here_is s c ≡ y → holder_of P s c ≡ Some r → g s.0 ≡ true
      there s c true j h = absurd (clash (ap (λ (z : NameId). r.0 == z.0) (some_is _ _ (sym (new_is s c j) ∙ h)) ∙ true_eq r.0) not_b)
      there s c false j h = knows.there s c (sym (other s c j) ∙ h)

      back : (s c : NameId) (y : Bool) → here_is s c ≡ y → holder_of e.owners s c ≡ Some r → HasRole P s r
      back s c true j h = absurd (clash (ap (λ (z : NameId). r.0 == z.0) (some_is _ _ (sym (old_is s c j) ∙ h)) ∙ true_eq r.0) not_a)
      back s c false j h = record { role = c; is = other s c j ∙ h }

  -- who takes a role held none in that session
  pub none_held : (r.0 == b.process.name.0) ≡ true → g given.name.0 ≡ false
  none_held me = go (g given.name.0) refl
    where
      go : (x : Bool) → g given.name.0 ≡ x → g given.name.0 ≡ false
      go false i = i
      go true i = let v = knows.back given.name i in absurd (none_before v.role me v.is)
