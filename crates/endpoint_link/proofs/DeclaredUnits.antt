-- What is declared in programs that were linked is declared in what was made of them.
use Rattle.std.proofs.Common.{◌≡◌, ℕ, zero, suc, ◌==◌, ◌&&◌, Bool, true, false, List, [], ◌∷◌, length, Some, refl, sym, ap, ◌∙◌, subst, arith, if◌then◌else◌}
use Rattle.std.specs.Prelude.{Contains, slice_get}
use Rattle.std.specs.List.{AllZip}
use Rattle.std.proofs.lemmas.List.Elements.{All-contains}
use Rattle.chor_base.specs.declared.names.NameId.{NameId}
use Rattle.endpoint_code.specs.declared.endpoints.Channel.{Channel}
use Rattle.endpoint_code.specs.declared.endpoints.Procedure.{Procedure}
use Rattle.endpoint_code.specs.declared.endpoints.Endpoints.{Endpoints}
use Rattle.endpoint_code.specs.Faults.{is_among, IsActive}
use Rattle.endpoint_code.specs.Network.{channel_of, procedure_of}
use Rattle.same_programs.specs.Words.{SameName, HasDistinctWords}
use Rattle.same_programs.proofs.Tests.{TellsNames, names_tell}
use Rattle.same_programs.proofs.Zips.{zip_length}
use Rattle.endpoint_link.specs.Linked.{ReplacesChannel, ReplacesProcedure, SuitsChannel, SuitsProcedure, SuitsCounterpart, IsProcedureLinked, IsLinked}
use Rattle.endpoint_link.proofs.Linked.{one_name}
use Rattle.same_programs.proofs.NameLists.{among_same}
use Rattle.endpoint_link.proofs.Basics.{both, same_name, is_same, still_there, first_in, later_in}

-- ---- what is found by its name

pub channel_found : (ks : List Channel) (c : NameId) (k : Channel) → channel_of ks c ≡ Some k → Contains ks k × (k.name ≡ c)
channel_found [] c k h = absurd cc
channel_found (x ∷ xs) c k h = go (x.name.0 == c.0) refl (channel_found xs c k)
  where
    go : (b : Bool) → (x.name.0 == c.0) ≡ b → (channel_of xs c ≡ Some k → Contains xs k × (k.name ≡ c)) → Contains (x ∷ xs) k × (k.name ≡ c)
    go true i more =
        let same : Some x ≡ Some k = sym (ap (λ (b : Bool). if b then Some x else channel_of xs c) i) ∙ h in
        let is : x ≡ k = cc in
        subst (λ (z : Channel). Contains (x ∷ xs) z × (z.name ≡ c)) is (first_in x xs, same_name x.name c i)
    go false i more = let w = more (sym (ap (λ (b : Bool). if b then Some x else channel_of xs c) i) ∙ h) in (later_in x xs k w.0, w.1)

pub channel_some : (ks : List Channel) (k : Channel) → Contains ks k → (m : Channel) × (channel_of ks k.name ≡ Some m)
channel_some [] k (i, l, e) = absurd (omega (arith, l))
channel_some (x ∷ xs) k (zero, l, e) = (x, ap (λ (b : Bool). if b then Some x else channel_of xs k.name) (is_same x.name k.name (ap (λ (z : Channel). z.name) e)))
channel_some (x ∷ xs) k (suc i, l, e) = go (x.name.0 == k.name.0) refl (channel_some xs k (i, omega (arith, l), e))
  where
    go : (b : Bool) → (x.name.0 == k.name.0) ≡ b → (m : Channel) × (channel_of xs k.name ≡ Some m) → (m : Channel) × ((if x.name.0 == k.name.0 then Some x else channel_of xs k.name) ≡ Some m)
    go true j more = (x, ap (λ (b : Bool). if b then Some x else channel_of xs k.name) j)
    go false j more = (more.0, ap (λ (b : Bool). if b then Some x else channel_of xs k.name) j ∙ more.1)

pub unit_found : (us : List Procedure) (f p : NameId) (u : Procedure) → procedure_of us f p ≡ Some u → Contains us u × (u.name ≡ f) × (u.param ≡ p)
unit_found [] f p u h = absurd cc
unit_found (x ∷ xs) f p u h = go ((x.name.0 == f.0) && (x.param.0 == p.0)) refl (unit_found xs f p u)
  where
    go : (b : Bool) → ((x.name.0 == f.0) && (x.param.0 == p.0)) ≡ b → (procedure_of xs f p ≡ Some u → Contains xs u × (u.name ≡ f) × (u.param ≡ p)) → Contains (x ∷ xs) u × (u.name ≡ f) × (u.param ≡ p)
    go true i more =
        let same : Some x ≡ Some u = sym (ap (λ (b : Bool). if b then Some x else procedure_of xs f p) i) ∙ h in
        let is : x ≡ u = cc in
        let t = both (x.name.0 == f.0) (x.param.0 == p.0) i in
        subst (λ (z : Procedure). Contains (x ∷ xs) z × (z.name ≡ f) × (z.param ≡ p)) is (first_in x xs, same_name x.name f t.0, same_name x.param p t.1)
    go false i more = let w = more (sym (ap (λ (b : Bool). if b then Some x else procedure_of xs f p) i) ∙ h) in (later_in x xs u w.0, w.1, w.2)

pub unit_some : (us : List Procedure) (u : Procedure) → Contains us u → (v : Procedure) × (procedure_of us u.name u.param ≡ Some v)
unit_some [] u (i, l, e) = absurd (omega (arith, l))
unit_some (x ∷ xs) u (zero, l, e) =
    (x, ap (λ (b : Bool). if b then Some x else procedure_of xs u.name u.param) (λ i. is_same x.name u.name (ap (λ (z : Procedure). z.name) e) i && is_same x.param u.param (ap (λ (z : Procedure). z.param) e) i))
unit_some (x ∷ xs) u (suc i, l, e) = go ((x.name.0 == u.name.0) && (x.param.0 == u.param.0)) refl (unit_some xs u (i, omega (arith, l), e))
  where
    go : (b : Bool) → ((x.name.0 == u.name.0) && (x.param.0 == u.param.0)) ≡ b → (v : Procedure) × (procedure_of xs u.name u.param ≡ Some v)
        → (v : Procedure) × ((if (x.name.0 == u.name.0) && (x.param.0 == u.param.0) then Some x else procedure_of xs u.name u.param) ≡ Some v)
    go true j more = (x, ap (λ (b : Bool). if b then Some x else procedure_of xs u.name u.param) j)
    go false j more = (more.0, ap (λ (b : Bool). if b then Some x else procedure_of xs u.name u.param) j ∙ more.1)

-- ---- linked programs

module _ (e g r : Endpoints) (linked : IsLinked e g r) (differ_g : HasDistinctWords g) (differ : HasDistinctWords r) where
  pub tell : TellsNames (SameName g r)
  tell = names_tell g r differ_g differ

  -- a name of e is one of r
  pub lifted : (x y : NameId) → SameName g e x y → SameName g r x y
  lifted x y a = record { word = a.word; here = a.here; there = ap (λ (l : List (List ℕ)). slice_get l y.0) linked.names.1 ∙ still_there e.names linked.names.0 y.0 a.word a.there }

  pub lifted_all : (xs ys : List NameId) → AllZip (SameName g e) xs ys → AllZip (SameName g r) xs ys
  lifted_all [] [] h = tt
  lifted_all [] (y ∷ ys) h = absurd h
  lifted_all (x ∷ xs) [] h = absurd h
  lifted_all (x ∷ xs) (y ∷ ys) h = (lifted x y h.0, lifted_all xs ys h.1)

  number : (x y z : NameId) → SameName g r x y → SameName g e x z → y ≡ z
  number = one_name e g r linked differ

  -- the units of r by the names of those of e
  unit_kept : (f p : NameId) (xs ys : List Procedure) → AllZip (IsProcedureLinked e g r) xs ys → (u : Procedure) → procedure_of xs f p ≡ Some u → (v : Procedure) × (procedure_of ys f p ≡ Some v) × (u.sessions ≡ v.sessions)
  unit_kept f p [] ys z u i = absurd cc
  unit_kept f p (a ∷ others) [] z u i = absurd z
  unit_kept f p (a ∷ others) (b ∷ bs) z u i = go ((a.name.0 == f.0) && (a.param.0 == p.0)) refl (unit_kept f p others bs z.1 u)
    where
      same : ((b.name.0 == f.0) && (b.param.0 == p.0)) ≡ ((a.name.0 == f.0) && (a.param.0 == p.0))
      same = ap (λ (v : NameId). (v.0 == f.0) && (b.param.0 == p.0)) z.0.name ∙ ap (λ (v : NameId). (a.name.0 == f.0) && (v.0 == p.0)) z.0.param

      go : (t : Bool) → ((a.name.0 == f.0) && (a.param.0 == p.0)) ≡ t → (procedure_of others f p ≡ Some u → (v : Procedure) × (procedure_of bs f p ≡ Some v) × (u.sessions ≡ v.sessions))
          → (v : Procedure) × (procedure_of (b ∷ bs) f p ≡ Some v) × (u.sessions ≡ v.sessions)
      go true t more =
          let j : Some a ≡ Some u = sym (ap (λ (x : Bool). if x then Some a else procedure_of others f p) t) ∙ i in
          let is : a ≡ u = cc in
          (b, ap (λ (x : Bool). if x then Some b else procedure_of bs f p) (same ∙ t), sym (ap (λ (x : Procedure). x.sessions) is) ∙ sym z.0.sessions)
      go false t more =
          let w = more (sym (ap (λ (x : Bool). if x then Some a else procedure_of others f p) t) ∙ i) in
          (w.0, ap (λ (x : Bool). if x then Some b else procedure_of bs f p) (same ∙ t) ∙ w.1, w.2)

  -- by the same numbers
  pub own_active : (a x : NameId) → IsActive e a x → IsActive r a x
  own_active a x (k, found, is) = (k, ap (λ (ks : List Channel). channel_of ks a) linked.channels ∙ found, is)

  pub own_unit : (f p : NameId) (u : Procedure) → procedure_of e.procedures f p ≡ Some u → (v : Procedure) × (procedure_of r.procedures f p ≡ Some v) × (length u.sessions ≡ length v.sessions)
  own_unit f p u i = let w = unit_kept f p e.procedures r.procedures linked.procedures u i in (w.0, w.1, ap (λ (l : List NameId). length l) w.2)

  -- by the same names
  pub given_active : (a b x y : NameId) → SameName g r a b → SameName g r x y → IsActive g a x → IsActive r b y
  given_active a b x y i j (k, found, is) =
      let w = channel_found g.channels a k found in
      let fits = All-contains (SuitsCounterpart (ReplacesChannel e g) (SuitsChannel e g) e.channels) g.channels k linked.suit.channels w.0 in
      let c = fits.there.0 in
      let named : b ≡ c.name = number a b c.name i (subst (λ (n : NameId). SameName g e n c.name) w.1 fits.there.2) in
      let m = channel_some e.channels c fits.there.1 in
      let v = channel_found e.channels c.name m.0 m.1 in
      let suits = fits.suits m.0 v.0 (subst (SameName g e k.name) (sym v.1) fits.there.2) in
      let alike : is_among x k.active ≡ is_among y m.0.active = among_same (SameName g r) tell x y j k.active m.0.active (lifted_all k.active m.0.active suits.0) in
      (m.0, ap (λ (ks : List Channel). channel_of ks b) linked.channels ∙ ap (channel_of e.channels) named ∙ m.1, sym alike ∙ is)

  pub given_unit : (f h p q : NameId) → SameName g r f h → SameName g r p q → (u : Procedure) → procedure_of g.procedures f p ≡ Some u → (v : Procedure) × (procedure_of r.procedures h q ≡ Some v) × (length u.sessions ≡ length v.sessions)
  given_unit f h p q i j u found =
      let w = unit_found g.procedures f p u found in
      let fits = All-contains (SuitsCounterpart (ReplacesProcedure e g) (SuitsProcedure e g) e.procedures) g.procedures u linked.suit.procedures w.0 in
      let c = fits.there.0 in
      let named : h ≡ c.name = number f h c.name i (subst (λ (n : NameId). SameName g e n c.name) w.1 fits.there.2.0) in
      let called : q ≡ c.param = number p q c.param j (subst (λ (n : NameId). SameName g e n c.param) w.2 fits.there.2.1) in
      let m = unit_some e.procedures c fits.there.1 in
      let v = unit_found e.procedures c.name c.param m.0 m.1 in
      let suits = fits.suits m.0 v.0 (subst (SameName g e u.name) (sym v.1) fits.there.2.0, subst (SameName g e u.param) (sym v.2) fits.there.2.1) in
      let k = own_unit c.name c.param m.0 m.1 in
      (k.0, (λ n. procedure_of r.procedures (named n) (called n)) ∙ k.1, zip_length (SameName g e) u.sessions m.0.sessions suits.0 ∙ k.2)
