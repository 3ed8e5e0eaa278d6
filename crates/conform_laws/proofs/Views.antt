-- What a role has done on a path that all roles follow is in its view.
use Rattle.std.proofs.Common.{◌≡◌, List, [], ◌∷◌, ◌++◌, refl, ap, ◌∙◌}
use Rattle.std.specs.Prelude.{map}
use Rattle.chor_base.specs.declared.names.NameId.{NameId}
use Rattle.chor_tree.specs.declared.protocol.State.{State}
use Rattle.global_types.specs.Paths.{actions_of}
use Rattle.typed_sources.specs.Told.{Act, act_of}
use Rattle.typed_sources.specs.Typing.{IsOnOnePath}
use Rattle.conform.specs.ByRole.{FollowsView}

-- ys is what f makes of a prefix of xs
pub record MappedPrefix {A B : Type 0} (f : A → B) (xs : List A) (ys : List B) : Type 0 where
  pub first : List A
  pub rest : List A
  pub parts : xs ≡ first ++ rest
  pub mapped : map f first ≡ ys

pub prefix_of : {A B : Type 0} (f : A → B) (xs : List A) (ys zs : List B) → map f xs ≡ ys ++ zs → MappedPrefix f xs ys
prefix_of f xs [] zs h = record { first = []; rest = xs; parts = refl; mapped = refl }
prefix_of f [] (y ∷ ys) zs h = absurd cc
prefix_of f (x ∷ xs) (y ∷ ys) zs h =
    let one : f x ≡ y = cc in
    let more : map f xs ≡ ys ++ zs = cc in
    let w = prefix_of f xs ys zs more in
    record { first = x ∷ w.first; rest = w.rest; parts = ap (λ l. x ∷ l) w.parts; mapped = ap (λ l. f x ∷ l) w.mapped ∙ ap (λ y. y ∷ ys) one }

-- what a role has done on a path that all roles follow
pub follows_view : (ss : List State) (done : NameId → List Act) (r : NameId) → IsOnOnePath ss done → FollowsView ss r (done r)
follows_view ss done r o =
    let w = prefix_of act_of (actions_of r o.path) (done r) (o.rest r) (o.acts r) in
    record { actions = w.first; view = record { path = o.path; last = o.last; rest = w.rest; is_path = o.is_path; begins = w.parts }; told = w.mapped }
