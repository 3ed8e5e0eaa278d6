-- What the node of a process tells of it.
use Rattle.std.proofs.Common.{◌≡◌, ℕ, suc, ◌+◌, ◌<◌, ◌==◌, ◌||◌, Bool, true, false, cond, List, [], ◌∷◌, length, get_or, refl, ap, ◌∙◌, Some, is_some, drop}
use Rattle.std.specs.Prelude.{not}
use Rattle.std.proofs.lemmas.List.{drop_more}
use Rattle.chor_base.specs.declared.names.NameId.{NameId}
use Rattle.chor_base.specs.declared.event.Why.TheVariants.{Absent}
use Rattle.endpoint_code.specs.declared.endpoints.Endpoints.{Endpoints}
use Rattle.endpoint_code.specs.Network.{Machine, place_of}
use Rattle.endpoint_code.specs.NetworkRuns.{is_joined, absent_among, joins_there}
use Rattle.endpoint_code.specs.Scheduled.{least_joiner}

pub joined_least : (e : Endpoints) (p : ℕ) (ms : List Machine) (c r : NameId) → is_some (least_joiner e p ms c r) ≡ is_joined e ms c r
joined_least e p [] c r = refl
joined_least e p (m ∷ ms) c r = go (joins_there (place_of e m) c r) refl (joined_least e (suc p) ms c r)
  where
    go : (b : Bool) → joins_there (place_of e m) c r ≡ b → is_some (least_joiner e (suc p) ms c r) ≡ is_joined e ms c r → is_some (cond (joins_there (place_of e m) c r) (Some p) (least_joiner e (suc p) ms c r)) ≡ (joins_there (place_of e m) c r || is_joined e ms c r)
    go true h more = rw h refl
    go false h more = rw h more

pub absent_turn : (e : Endpoints) (ms : List Machine) (c own : NameId) (roles : List NameId) (i : ℕ) (d : NameId) (b : Bool) → i < length roles → b ≡ not (((get_or roles i d).0 == own.0) || is_joined e ms c (get_or roles i d))
    → absent_among e ms c own (drop i roles) ≡ cond b (Some (Absent c (get_or roles i d))) (absent_among e ms c own (drop (i + 1) roles))
absent_turn e ms c own roles i d b lt h = ap (absent_among e ms c own) (drop_more roles i d lt) ∙ go (((get_or roles i d).0 == own.0) || is_joined e ms c (get_or roles i d)) b h
  where
    go : (t b : Bool) → b ≡ not t → cond t (absent_among e ms c own (drop (i + 1) roles)) (Some (Absent c (get_or roles i d))) ≡ cond b (Some (Absent c (get_or roles i d))) (absent_among e ms c own (drop (i + 1) roles))
    go true true h = absurd cc
    go true false h = refl
    go false true h = refl
    go false false h = absurd cc
