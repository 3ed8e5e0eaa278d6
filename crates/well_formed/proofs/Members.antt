-- A greater set never spoils linearity, and renaming doesn't.
use Rattle.std.proofs.Common.{◌≡◌, ℕ, suc, Bool, true, false, List, [], ◌∷◌, refl, sym, ap, ◌∙◌, subst, if◌then◌else◌, ◌==◌, ◌||◌}
use Rattle.std.specs.Prelude.{map}
use Rattle.chor_base.specs.declared.names.NameId.{NameId}
use Rattle.chor_semantics.specs.Choreography.{Ref, Named, ref_eq, among, Content, OfValue, OfLabel, OfPart, Node, Starts, Communicates, InTransit, Alone, Choreography, Then, Either, Calls, Ends, put, put_content, put_node, put_part}
use Rattle.well_formed.specs.WellFormed.{firsts, service_refs}
use Rattle.well_formed.specs.Linear.{Members, ParameterSets, any_in, all_in, after_start, members_after, joins_from, all_given, IsLinear}
use Rattle.well_formed.proofs.References.{or_case, or_left, or_rights, and_first, and_second, true_and, same_ref, self_ref, among_map}

-- what is in one set is, renamed, in the other
abbrev pub Within : (Ref → Ref) → Members → Members → Type 0
Within f dep dep' = (r : Ref) → dep r ≡ true → dep' (f r) ≡ true

-- binders of services stay
abbrev pub Stay : (Ref → Ref) → ℕ → List (ℕ × NameId) → Type 0
Stay f d [] = Unit {0}
Stay f d (s ∷ ss) = (f (Named s.0 d) ≡ Named s.0 d) × Stay f d ss

abbrev pub StayAt : (Ref → Ref) → Node → Type 0
StayAt f (Starts c d k active serve) = Stay f d serve
StayAt f (Communicates s p a q b w) = Unit {0}
StayAt f (InTransit s a b m q) = Unit {0}
StayAt f (Alone p o) = Unit {0}

abbrev pub AllStay : (Ref → Ref) → Choreography → Type 0
AllStay f (Then n rest) = StayAt f n × AllStay f rest
AllStay f (Either p e c d) = AllStay f c × AllStay f d
AllStay f (Calls h d ps ss) = Unit {0}
AllStay f Ends = Unit {0}

among_stay : (f : Ref → Ref) (d : ℕ) (r : Ref) (serve : List (ℕ × NameId)) → Stay f d serve → among r (service_refs d serve) ≡ true → among (f r) (service_refs d serve) ≡ true
among_stay f d r [] k h = absurd cc
among_stay f d r (s ∷ ss) (k, ks) h = or_case (ref_eq r (Named s.0 d)) (among r (service_refs d ss)) _ h (λ i. or_left _ _ (ap (λ y. ref_eq y (Named s.0 d)) (ap f (same_ref r (Named s.0 d) i) ∙ k) ∙ self_ref (Named s.0 d))) (λ i. or_rights _ _ (among_stay f d r ss ks i))

pub firsts_put : (f : Ref → Ref) (active : List (Ref × NameId)) → firsts (put_part f active) ≡ map f (firsts active)
firsts_put f [] = refl
firsts_put f (q ∷ qs) = ap (λ y. f q.0 ∷ y) (firsts_put f qs)

any_map : (f : Ref → Ref) (dep dep' : Members) → Within f dep dep' → (rs : List Ref) → any_in dep rs ≡ true → any_in dep' (map f rs) ≡ true
any_map f dep dep' j [] h = absurd cc
any_map f dep dep' j (r ∷ rs) h = or_case (dep r) (any_in dep rs) _ h (λ i. or_left _ _ (j r i)) (λ i. or_rights _ _ (any_map f dep dep' j rs i))

all_map : (f : Ref → Ref) (dep dep' : Members) → Within f dep dep' → (rs : List Ref) → all_in dep rs ≡ true → all_in dep' (map f rs) ≡ true
all_map f dep dep' j [] h = refl
all_map f dep dep' j (r ∷ rs) h = true_and _ _ (j r (and_first _ _ h)) (all_map f dep dep' j rs (and_second _ _ h))

-- the sets after a node
after_put : (f g : Ref → Ref) (a : NameId) (dep dep' : Members) → Within f dep dep' → (n : Node) → StayAt f n → Within f (members_after a dep n) (members_after a dep' (put_node f g n))
after_put f g a dep dep' j (Starts c d k active serve) st r h = subst (λ y. after_start (c.0 == a.0) dep' y (service_refs d serve) (f r) ≡ true) (sym (firsts_put f active)) (go (c.0 == a.0) h)
  where
    here : (among r (firsts active) || among r (service_refs d serve)) ≡ true → (among (f r) (map f (firsts active)) || among (f r) (service_refs d serve)) ≡ true
    here k' = or_case _ _ _ k' (λ i. or_left _ _ (among_map f r (firsts active) i)) (λ i. or_rights _ _ (among_stay f d r serve st i))

    go : (y : Bool) → after_start y dep (firsts active) (service_refs d serve) r ≡ true → after_start y dep' (map f (firsts active)) (service_refs d serve) (f r) ≡ true
    go true k' = here k'
    go false k' = or_case _ _ _ k' (λ i. or_left _ _ (j r i)) (λ i. or_rights _ _ (true_and _ _ (any_map f dep dep' j (firsts active) (and_first _ _ i)) (here (and_second _ _ i))))
after_put f g a dep dep' j (Communicates s p x q y w) st r h = or_case _ _ _ h (λ i. or_left _ _ (j r i)) (λ i. or_rights _ _ (true_and _ _ (j p (and_first _ _ i)) (ap (λ z. ref_eq z (f q)) (ap f (same_ref r q (and_second _ _ i))) ∙ self_ref (f q))))
after_put f g a dep dep' j (InTransit s x y m q) st r h = j r h
after_put f g a dep dep' j (Alone p o) st r h = j r h

joined_put : (f g : Ref → Ref) (a : NameId) (dep dep' : Members) → Within f dep dep' → (n : Node) → joins_from a dep n ≡ true → joins_from a dep' (put_node f g n) ≡ true
joined_put f g a dep dep' j (Starts c d k active serve) h = go (c.0 == a.0) h
  where
    go : (y : Bool) → (if y then all_in dep (firsts active) else true) ≡ true → (if y then all_in dep' (firsts (put_part f active)) else true) ≡ true
    go true i = ap (all_in dep') (firsts_put f active) ∙ all_map f dep dep' j (firsts active) i
    go false i = refl
joined_put f g a dep dep' j (Communicates s p x q y w) h = refl
joined_put f g a dep dep' j (InTransit s x y m q) h = refl
joined_put f g a dep dep' j (Alone p o) h = refl

given_put : (f : Ref → Ref) (dep dep' : Members) → Within f dep dep' → (fs : ℕ → Bool) (i : ℕ) (ps : List Ref) → all_given dep fs i ps ≡ true → all_given dep' fs i (map f ps) ≡ true
given_put f dep dep' j fs i [] h = refl
given_put f dep dep' j fs i (p ∷ ps) h = true_and _ _ (go (fs i) (and_first _ _ h)) (given_put f dep dep' j fs (suc i) ps (and_second _ _ h))
  where
    go : (y : Bool) → (if y then dep p else true) ≡ true → (if y then dep' (f p) else true) ≡ true
    go true k = j p k
    go false k = refl

pub linear_put : (f g : Ref → Ref) (a : NameId) (sets : ParameterSets) (dep dep' : Members) → Within f dep dep' → (c : Choreography) → AllStay f c → IsLinear a sets dep c → IsLinear a sets dep' (put f g c)
linear_put f g a sets dep dep' j (Then n rest) st l = (joined_put f g a dep dep' j n l.0, linear_put f g a sets (members_after a dep n) (members_after a dep' (put_node f g n)) (after_put f g a dep dep' j n st.0) rest st.1 l.1)
linear_put f g a sets dep dep' j (Either p x c d) st l = (linear_put f g a sets dep dep' j c st.0 l.0, linear_put f g a sets dep dep' j d st.1 l.1)
linear_put f g a sets dep dep' j (Calls h d ps ss) st l = given_put f dep dep' j (sets h) 0 ps l
linear_put f g a sets dep dep' j Ends st l = tt

-- a tree with no name changed
id_parts : (ps : List (Ref × NameId)) → put_part (λ r. r) ps ≡ ps
id_parts [] = refl
id_parts (p ∷ ps) = ap (λ y. p ∷ y) (id_parts ps)

id_refs : (rs : List Ref) → map (λ r. r) rs ≡ rs
id_refs [] = refl
id_refs (r ∷ rs) = ap (λ y. r ∷ y) (id_refs rs)

id_content : (w : Content) → put_content (λ r. r) w ≡ w
id_content (OfValue e x) = refl
id_content (OfLabel l) = refl
id_content (OfPart u r) = refl

pub id_node : (n : Node) → put_node (λ r. r) (λ r. r) n ≡ n
id_node (Starts c d k active serve) = ap (λ y. Starts c d k y serve) (id_parts active)
id_node (Communicates s p x q y w) = ap (λ z. Communicates s p x q y z) (id_content w)
id_node (InTransit s a b m q) = refl
id_node (Alone p o) = refl

pub id_put : (c : Choreography) → put (λ r. r) (λ r. r) c ≡ c
id_put (Then n rest) = ap (λ y. Then y (put (λ r. r) (λ r. r) rest)) (id_node n) ∙ ap (λ y. Then n y) (id_put rest)
id_put (Either p x c d) = ap (λ y. Either p x y (put (λ r. r) (λ r. r) d)) (id_put c) ∙ ap (λ y. Either p x c y) (id_put d)
id_put (Calls h d ps ss) = ap (λ y. Calls h d y (map (λ r. r) ss)) (id_refs ps) ∙ ap (λ y. Calls h d ps y) (id_refs ss)
id_put Ends = refl

id_serve : (d : ℕ) (ss : List (ℕ × NameId)) → Stay (λ r. r) d ss
id_serve d [] = tt
id_serve d (s ∷ ss) = (refl, id_serve d ss)

id_stays : (n : Node) → StayAt (λ r. r) n
id_stays (Starts c d k active serve) = id_serve d serve
id_stays (Communicates s p x q y w) = tt
id_stays (InTransit s a b m q) = tt
id_stays (Alone p o) = tt

id_all : (c : Choreography) → AllStay (λ r. r) c
id_all (Then n rest) = (id_stays n, id_all rest)
id_all (Either p x c d) = (id_all c, id_all d)
id_all (Calls h d ps ss) = tt
id_all Ends = tt

-- a greater set
pub linear_more : (a : NameId) (sets : ParameterSets) (dep dep' : Members) → ((r : Ref) → dep r ≡ true → dep' r ≡ true) → (c : Choreography) → IsLinear a sets dep c → IsLinear a sets dep' c
linear_more a sets dep dep' j c l = subst (IsLinear a sets dep') (id_put c) (linear_put (λ r. r) (λ r. r) a sets dep dep' j c (id_all c) l)
