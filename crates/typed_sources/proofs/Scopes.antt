-- What is in scope at each statement of a source, and where its sessions stand.
use Rattle.std.proofs.Common.{◌≡◌, List, [], ◌∷◌, ◌++◌, refl, sym, ap, ◌∙◌, Some, None, Option, Bool, true, false, ◌==◌, ◌||◌, inl, inr, ◌⊎◌, if◌then◌else◌}
use Rattle.std.specs.Prelude.{Result, Ok, Err}
use Rattle.chor_base.specs.declared.names.NameId.{NameId}
use Rattle.chor_base.specs.declared.rule.Rule.{Rule}
use Rattle.chor_base.specs.declared.value.Sort.{Sort}
use Rattle.chor_tree.specs.declared.file.File.{File}
use Rattle.chor_tree.specs.declared.file.Service.{Service}
use Rattle.chor_tree.specs.declared.protocol.State.{State}
use Rattle.chor_tree.specs.Names.{Scope, is_among, protocol_of, channel_of}
use Rattle.chor_tree.specs.Source.{Statement, Starts, Sends, Selects, Gives, Sets, Asks, Shows}
use Rattle.well_formed.proofs.References.{or_rights}
use Rattle.typing_rules.specs.declared.standings.Standing.{Standing}
use Rattle.typing_rules.specs.Environment.{Environment, standing_of, moved, opened, opened_by, opened_on, states_of, stands, step_at}
use Rattle.typing_rules.specs.Checks.{sort_at}
use Rattle.typing_rules.specs.After.{with_value, with_state, with_endpoint, with_sort, after_statement}
use Rattle.typing_rules.specs.declared.allowed.EndpointType.{EndpointType}
use Rattle.typing_rules.specs.Allowed.{value_sent, labels_sent, endpoint_sent, arm_in}
use Rattle.typed_sources.proofs.Sources.{scope_with}

-- what stands somewhere is in scope
abbrev pub InScope : Scope → Environment → Type 0
InScope scope e = (s : NameId) (st : Standing) → standing_of e.standings s ≡ Some st → is_among scope.sessions s ≡ true

moved_there : (ss : List Standing) (k m s : NameId) (st : Standing) → standing_of (moved ss k m) s ≡ Some st → (u : Standing) × (standing_of ss s ≡ Some u)
moved_there [] k m s st h = absurd cc
moved_there (x ∷ xs) k m s st h = go (x.session.0 == k.0) (x.session.0 == s.0) refl refl h (moved_there xs k m s st)
  where
    go : (a b : Bool) → (x.session.0 == k.0) ≡ a → (x.session.0 == s.0) ≡ b
        → (if (if a then record x { state = m } else x).session.0 == s.0 then Some (if a then record x { state = m } else x) else standing_of (moved xs k m) s) ≡ Some st
        → (standing_of (moved xs k m) s ≡ Some st → (u : Standing) × (standing_of xs s ≡ Some u)) → (u : Standing) × ((if b then Some x else standing_of xs s) ≡ Some u)
    go a true i j l ih = (x, refl)
    go true false i j l ih = ih (sym (ap (λ (b : Bool). if b then Some (record x { state = m }) else standing_of (moved xs k m) s) j) ∙ l)
    go false false i j l ih = ih (sym (ap (λ (b : Bool). if b then Some x else standing_of (moved xs k m) s) j) ∙ l)

moved_scope : (scope : Scope) (e : Environment) (k m : NameId) → InScope scope e → (s : NameId) (st : Standing) → standing_of (moved e.standings k m) s ≡ Some st → is_among scope.sessions s ≡ true
moved_scope scope e k m i s st h = let w = moved_there e.standings k m s st h in i s w.0 w.1

more_there : (ss xs : List Standing) (s : NameId) (st : Standing) → standing_of (ss ++ xs) s ≡ Some st → ((u : Standing) × (standing_of ss s ≡ Some u)) ⊎ (standing_of xs s ≡ Some st)
more_there [] xs s st h = inr h
more_there (y ∷ ys) xs s st h = go (y.session.0 == s.0) h (more_there ys xs s st)
  where
    go : (b : Bool) → (if b then Some y else standing_of (ys ++ xs) s) ≡ Some st → (standing_of (ys ++ xs) s ≡ Some st → ((u : Standing) × (standing_of ys s ≡ Some u)) ⊎ (standing_of xs s ≡ Some st)) → ((u : Standing) × ((if b then Some y else standing_of ys s) ≡ Some u)) ⊎ (standing_of xs s ≡ Some st)
    go true i ih = inl (y, refl)
    go false i ih = ih i

opened_name : (ss : List State) (k p : NameId) (s : NameId) (st : Standing) → standing_of (opened_on k ss p) s ≡ Some st → (k.0 == s.0) ≡ true
opened_name [] k p s st h = absurd cc
opened_name (x ∷ xs) k p s st h = go (k.0 == s.0) refl h
  where
    go : (b : Bool) → (k.0 == s.0) ≡ b → (if b then Some (stands k p x.name.name) else None) ≡ Some st → (k.0 == s.0) ≡ true
    go true i j = i
    go false i j = absurd cc

among_end : (xs : List NameId) (k s : NameId) → (k.0 == s.0) ≡ true → is_among (xs ++ k ∷ []) s ≡ true
among_end [] k s h = ap (λ b. b || false) h
among_end (x ∷ xs) k s h = or_rights _ _ (among_end xs k s h)

pub among_front : (xs ys : List NameId) (s : NameId) → is_among xs s ≡ true → is_among (xs ++ ys) s ≡ true
among_front [] ys s h = absurd cc
among_front (x ∷ xs) ys s h = go (x.0 == s.0) h (among_front xs ys s)
  where
    go : (b : Bool) → (b || is_among xs s) ≡ true → (is_among xs s ≡ true → is_among (xs ++ ys) s ≡ true) → (b || is_among (xs ++ ys) s) ≡ true
    go true i ih = refl
    go false i ih = ih i

module _ (f : File) where
  pub scope_kept : (scope : Scope) (e : Environment) (s : Statement) → InScope scope e → InScope (scope_with scope s) (after_statement f e s)
  scope_kept scope e (Starts c k active serve) i = λ s st h. elim (more_there e.standings (opened f c.name k.name) s st h) [
    | inl u ↦ among_front scope.sessions (k.name ∷ []) s (i s u.0 u.1)
    | inr u ↦ among_end scope.sessions k.name s (opened_is s st (channel_of f c.name) u)
  ]
    where
      opened_is : (s : NameId) (st : Standing) (o : Option Service) → standing_of (opened_by f k.name o) s ≡ Some st → (k.name.0 == s.0) ≡ true
      opened_is s st None u = absurd cc
      opened_is s st (Some v) u = opened_name (states_of (protocol_of f v.protocol.name)) k.name v.protocol.name s st u
  scope_kept scope e (Sends a x b y k) i = value (value_sent a.role.name b.role.name (step_at f e k.name))
    where
      value : (o : Option (Sort × NameId)) → InScope scope (with_value e k.name b.process.name y o)
      value None = i
      value (Some z) = moved_scope scope e k.name z.1 i
  scope_kept scope e (Selects a b k l) i = state (arm_in (labels_sent a.role.name b.role.name (step_at f e k.name)) l)
    where
      state : (o : Option NameId) → InScope scope (with_state e k.name o)
      state None = i
      state (Some z) = moved_scope scope e k.name z i
  scope_kept scope e (Gives a b k given) i = part (endpoint_sent a.role.name b.role.name (step_at f e k.name))
    where
      part : (o : Option (EndpointType × NameId)) → InScope scope (with_endpoint e k.name b.process.name given o)
      part None = i
      part (Some z) = moved_scope scope e k.name z.1 i
  scope_kept scope e (Sets p y x) i = sorted (sort_at e p x)
    where
      sorted : (r : Result Sort Rule) → InScope scope (with_sort e p.name y r)
      sorted (Ok s) = i
      sorted (Err s) = i
  scope_kept scope e (Asks p y g x z) i = i
  scope_kept scope e (Shows p x) i = i
