-- The codes of services, one role after another.
use Rattle.std.proofs.Common.{◌≡◌, ℕ, zero, suc, ◌+◌, ◌<◌, ◌≤◌, ◌==◌, ◌||◌, Bool, true, false, cond, List, [], ◌∷◌, ◌++◌, length, take, drop, get_or, map, refl, sym, ap, ◌∙◌, subst, Some, arith, append_assoc}
use Rattle.std.specs.Prelude.{Contains, All, if◌then◌else◌}
use Rattle.std.specs.List.{AllZip, filter, flat_map}
use Rattle.std.proofs.lemmas.List.{take_more, take_all, take-append-drop, map-append}
use Rattle.std.proofs.lemmas.List.Elements.{All-nil, All-cons, All-append, Contains-get_or}
use Rattle.chor_tree.specs.declared.file.File.{File}
use Rattle.chor_tree.specs.declared.file.Named.{Named as Written}
use Rattle.chor_tree.specs.declared.file.Service.{Service}
use Rattle.chor_tree.specs.declared.tree.NodeId.{NodeId}
use Rattle.chor_tree.specs.Names.{names_in, is_among, channel_of}
use Rattle.endpoint_code.specs.declared.code.CodeId.{CodeId}
use Rattle.endpoint_code.specs.declared.code.CodeNode.{CodeNode}
use Rattle.endpoint_code.specs.declared.endpoints.ServiceCode.{ServiceCode}
use Rattle.branch_merge.specs.Merged.{Keeps}
use Rattle.branch_merge.proofs.ArmTables.{keeps_all, keeps_both, code_kept, kept_length}
use Rattle.projection.specs.Projects.{starts_of, is_some_start, IsServiceCode}
use Rattle.projection.specs.MergeFaults.{here, services_of, HasServiceClash}
use Rattle.projection.proofs.Clashes.{starts_meet, first_left, first_right}
use Rattle.block_codes.proofs.Zips.{zip_weaker}
use Rattle.service_codes.specs.declared.fault.ServiceFault.{ServiceFault}
use Rattle.service_codes.specs.declared.fault.ServiceFault.TheVariants.{Clash, Memory}
use Rattle.service_codes.specs.declared.served.Served.{Served}
use Rattle.service_codes.specs.Starts.{HasNamesResolved, start_in, AreStartsOf}
use Rattle.service_codes.specs.Services.{pair_of, IsDeclared, HasServiceCode, StopsOne, roles_of, IsServiceIn, AddsServices, AreServices, StopsAt}
use Rattle.service_codes.proofs.Lists.{itself, or_right}
use Rattle.service_codes.proofs.Names.{service_is}
use Rattle.service_codes.proofs.Standing.{end_nil}

service_kept : {f : File} {old new : List CodeNode} (x : Written × Written) (q : ServiceCode) → Keeps old new → IsServiceIn f old x q → IsServiceIn f new x q
service_kept {f = f} x q k h = record {
  channel = h.channel;
  role = h.role;
  inside = let n = kept_length k in let m = h.inside in omega arith;
  code = subst (IsServiceCode f.procs x.0.name x.1.name (starts_of f x.0.name)) (sym (code_kept q.body k h.inside)) h.code;
}

zip_append : {A B : Type 0} (R : A → B → Type 0) (xs us : List A) (ys vs : List B) → AllZip R xs ys → AllZip R us vs → AllZip R (xs ++ us) (ys ++ vs)
zip_append R [] us [] vs z w = w
zip_append R [] us (y ∷ ys) vs z w = absurd z
zip_append R (x ∷ xs) us [] vs z w = absurd z
zip_append R (x ∷ xs) us (y ∷ ys) vs z w = (z.0, zip_append R xs us ys vs z.1 w)

module _ (f : File) where
  abbrev NoClash : Written × Written → Type 0
  NoClash x = HasServiceClash f x → ⊥

  pub adds_none : (nodes : List CodeNode) (qs : List ServiceCode) → AddsServices f [] nodes nodes qs qs
  adds_none nodes qs = record { kept = keeps_all nodes; more = []; is = sym (end_nil qs); each = tt; clean = All-nil NoClash }

  pub adds_both : {xs ys : List (Written × Written)} {old mid new : List CodeNode} {qs rs ts : List ServiceCode} → AddsServices f xs old mid qs rs → AddsServices f ys mid new rs ts → AddsServices f (xs ++ ys) old new qs ts
  adds_both {xs = xs} {ys = ys} {mid = mid} {new = new} {qs = qs} p q = record {
    kept = keeps_both p.kept q.kept;
    more = p.more ++ q.more;
    is = q.is ∙ ap (λ l. l ++ q.more) p.is ∙ append_assoc qs p.more q.more;
    each = zip_append (IsServiceIn f new) xs ys p.more q.more (zip_weaker (IsServiceIn f mid) (IsServiceIn f new) (λ x s. service_kept x s q.kept) xs p.more p.each) q.each;
    clean = All-append NoClash xs ys p.clean q.clean;
  }

  pub adds_one : {x : Served} {old new : List CodeNode} {qs rs : List ServiceCode} (id : CodeId) → HasServiceCode f x old new id → rs ≡ qs ++ record { channel = x.channel.name; role = x.role.name; body = id } ∷ []
      → AddsServices f (pair_of x ∷ []) old new qs rs
  adds_one {x = x} id h e = record {
    kept = h.kept;
    more = record { channel = x.channel.name; role = x.role.name; body = id } ∷ [];
    is = e;
    each = (record { channel = refl; role = refl; inside = h.inside; code = h.code }, tt);
    clean = All-cons NoClash (pair_of x) [] (starts_meet f (pair_of x) h.code.codes _ h.code.each h.code.merged) (All-nil NoClash);
  }

  -- ---- where it stops

  pub stops_left : (xs ys : List (Written × Written)) (e : ServiceFault) → StopsAt f xs e → StopsAt f (xs ++ ys) e
  stops_left xs ys (Clash place who) h = record { service = h.service; first = first_left (HasServiceClash f) ys h.first; place_is = h.place_is; who_is = h.who_is }
  stops_left xs ys Memory h = tt

  pub stops_right : (xs ys : List (Written × Written)) (e : ServiceFault) → All NoClash xs → StopsAt f ys e → StopsAt f (xs ++ ys) e
  stops_right xs ys (Clash place who) c h = record { service = h.service; first = first_right (HasServiceClash f) xs c h.first; place_is = h.place_is; who_is = h.who_is }
  stops_right xs ys Memory c h = tt

  stops_one : (x : Served) (e : ServiceFault) → StopsOne f x e → StopsAt f (pair_of x ∷ []) e
  stops_one x (Clash place who) h = record { service = pair_of x; first = here h.clash; place_is = sym h.place_is; who_is = sym h.who_is }
  stops_one x Memory h = tt

  -- ---- the roles of one channel

  module _ (s : Service) (starts : List NodeId) (all : AreStartsOf f s.name.name starts) where
    pub roles_all : (starts ≡ [] → ⊥) → roles_of f s ≡ map (λ r. (s.name, r)) s.serve
    roles_all some = ap (λ b. if b then map (λ r. (s.name, r)) s.serve else []) (ap is_some_start (sym all.same) ∙ go starts some)
      where
        go : (ids : List NodeId) → (ids ≡ [] → ⊥) → is_some_start (map (start_in f) ids) ≡ true
        go [] n = absurd (n refl)
        go (i ∷ is) n = refl

  module _ (s : Service) (serve : List Written) (i : ℕ) (d : Written) (lt : i < length serve) where
    abbrev pairs : List Written → List (Written × Written)
    pairs rs = map (λ r. (s.name, r)) rs

    abbrev it : Written
    it = get_or serve i d

    taken : pairs (take (i + 1) serve) ≡ pairs (take i serve) ++ (s.name, it) ∷ []
    taken = ap pairs (take_more serve i d lt) ∙ map-append (λ r. (s.name, r)) (take i serve) (it ∷ [])

    pub role_more : {old mid new : List CodeNode} {qs rs ts : List ServiceCode} (id : CodeId) → AddsServices f (pairs (take i serve)) old mid qs rs → HasServiceCode f (record { channel = s.name; role = it }) mid new id
        → ts ≡ rs ++ record { channel = s.name.name; role = it.name; body = id } ∷ [] → AddsServices f (pairs (take (i + 1) serve)) old new qs ts
    role_more {old = old} {new = new} {qs = qs} {ts = ts} id p h e = subst (λ (l : List (Written × Written)). AddsServices f l old new qs ts) (sym taken) (adds_both p (adds_one id h e))

    pub role_stops : {old mid : List CodeNode} {qs rs : List ServiceCode} (all : List Written) → serve ≡ all → AddsServices f (pairs (take i serve)) old mid qs rs → (e : ServiceFault)
        → StopsOne f (record { channel = s.name; role = it }) e → StopsAt f (pairs all) e
    role_stops all same p e h =
        subst (λ (l : List (Written × Written)). StopsAt f l e) (whole ∙ ap pairs same)
        (stops_left (pairs (take (i + 1) serve)) (pairs (drop (i + 1) serve)) e
        (subst (λ (l : List (Written × Written)). StopsAt f l e) (sym taken)
        (stops_right (pairs (take i serve)) ((s.name, it) ∷ []) e p.clean (stops_one (record { channel = s.name; role = it }) e h))))
      where
        whole : pairs (take (i + 1) serve) ++ pairs (drop (i + 1) serve) ≡ pairs serve
        whole = sym (map-append (λ r. (s.name, r)) (take (i + 1) serve) (drop (i + 1) serve)) ∙ ap pairs (take-append-drop (i + 1) serve)

    pub role_declared : serve ≡ s.serve → channel_of f s.name.name ≡ Some s → IsDeclared f (record { channel = s.name; role = it })
    role_declared same c = record { service = s; channel = c; role = ap (λ l. is_among (names_in l) it.name) (sym same) ∙ among serve i lt }
      where
        among : (xs : List Written) (j : ℕ) → j < length xs → is_among (names_in xs) (get_or xs j d).name ≡ true
        among [] j l = absurd (omega (arith, l))
        among (x ∷ xs) zero l = ap (λ b. b || is_among (names_in xs) x.name) (itself x.name.0)
        among (x ∷ xs) (suc j) l = or_right (x.name.0 == (get_or xs j d).name.0) _ (among xs j (omega (arith, l)))

  pub roles_done : (s : Service) (serve : List Written) (i : ℕ) → length serve ≤ i → serve ≡ s.serve → roles_of f s ≡ map (λ r. (s.name, r)) s.serve → {old new : List CodeNode} {qs rs : List ServiceCode}
      → AddsServices f (map (λ r. (s.name, r)) (take i serve)) old new qs rs → AddsServices f (roles_of f s) old new qs rs
  roles_done s serve i le same is {old = old} {new = new} {qs = qs} {rs = rs} h =
      subst (λ (l : List (Written × Written)). AddsServices f l old new qs rs) (ap (map (λ r. (s.name, r))) (take_all i serve le ∙ same) ∙ sym is) h

  -- ---- all channels

  roles_filtered : (ss : List Service) → flat_map (λ s. map (λ r. (s.name, r)) s.serve) (filter (λ s. is_some_start (starts_of f s.name.name)) ss) ≡ flat_map (roles_of f) ss
  roles_filtered [] = refl
  roles_filtered (s ∷ ss) = go (is_some_start (starts_of f s.name.name)) (filter (λ s. is_some_start (starts_of f s.name.name)) ss) (roles_filtered ss)
    where
      go : (b : Bool) (rest : List Service) → flat_map (λ s. map (λ r. (s.name, r)) s.serve) rest ≡ flat_map (roles_of f) ss
          → flat_map (λ (s : Service). map (λ r. (s.name, r)) s.serve) (cond b (s ∷ rest) rest) ≡ (if b then map (λ r. (s.name, r)) s.serve else []) ++ flat_map (roles_of f) ss
      go true rest e = ap (λ l. map (λ r. (s.name, r)) s.serve ++ l) e
      go false rest e = e

  pub services_whole : services_of f ≡ flat_map (roles_of f) f.services
  services_whole = roles_filtered f.services

  flat_append : (xs ys : List Service) → flat_map (roles_of f) (xs ++ ys) ≡ flat_map (roles_of f) xs ++ flat_map (roles_of f) ys
  flat_append [] ys = refl
  flat_append (x ∷ xs) ys = ap (λ zs. roles_of f x ++ zs) (flat_append xs ys) ∙ sym (append_assoc (roles_of f x) (flat_map (roles_of f) xs) (flat_map (roles_of f) ys))

  module _ (ss : List Service) (i : ℕ) (s : Service) (lt : i < length ss) (is : s ≡ get_or ss i s) where
    some_taken : flat_map (roles_of f) (take (i + 1) ss) ≡ flat_map (roles_of f) (take i ss) ++ roles_of f s
    some_taken =
        ap (flat_map (roles_of f)) (take_more ss i s lt ∙ ap (λ x. take i ss ++ x ∷ []) (sym is)) ∙ flat_append (take i ss) (s ∷ [])
        ∙ ap (λ l. flat_map (roles_of f) (take i ss) ++ l) (end_nil (roles_of f s))

    pub service_more : {old mid new : List CodeNode} {qs rs ts : List ServiceCode} → AddsServices f (flat_map (roles_of f) (take i ss)) old mid qs rs → AddsServices f (roles_of f s) mid new rs ts
        → AddsServices f (flat_map (roles_of f) (take (i + 1) ss)) old new qs ts
    service_more {old = old} {new = new} {qs = qs} {ts = ts} p q = subst (λ (l : List (Written × Written)). AddsServices f l old new qs ts) (sym some_taken) (adds_both p q)

    pub service_stops : {old mid : List CodeNode} {qs rs : List ServiceCode} → ss ≡ f.services → AddsServices f (flat_map (roles_of f) (take i ss)) old mid qs rs → (e : ServiceFault)
        → StopsAt f (roles_of f s) e → StopsAt f (services_of f) e
    service_stops same p e h =
        subst (λ (l : List (Written × Written)). StopsAt f l e) (whole ∙ ap (flat_map (roles_of f)) same ∙ sym services_whole)
        (stops_left (flat_map (roles_of f) (take (i + 1) ss)) (flat_map (roles_of f) (drop (i + 1) ss)) e
        (subst (λ (l : List (Written × Written)). StopsAt f l e) (sym some_taken) (stops_right (flat_map (roles_of f) (take i ss)) (roles_of f s) e p.clean h)))
      where
        whole : flat_map (roles_of f) (take (i + 1) ss) ++ flat_map (roles_of f) (drop (i + 1) ss) ≡ flat_map (roles_of f) ss
        whole = sym (flat_append (take (i + 1) ss) (drop (i + 1) ss)) ∙ ap (flat_map (roles_of f)) (take-append-drop (i + 1) ss)

    pub service_declared : HasNamesResolved f → ss ≡ f.services → channel_of f s.name.name ≡ Some s
    service_declared r same = service_is f r s (subst (λ (l : List Service). Contains l s) same (subst (Contains ss) (sym is) (Contains-get_or ss i s lt)))

  pub services_all : {old new : List CodeNode} {qs : List ServiceCode} (ss : List Service) (i : ℕ) → ss ≡ f.services → length ss ≤ i → AddsServices f (flat_map (roles_of f) (take i ss)) old new [] qs → AreServices f (services_of f) old new qs
  services_all {new = new} {qs = qs} ss i same le h =
      let xs : flat_map (roles_of f) (take i ss) ≡ services_of f = ap (flat_map (roles_of f)) (take_all i ss le ∙ same) ∙ sym services_whole in
      record {
        kept = h.kept;
        each =
            subst (λ (l : List (Written × Written)). AllZip (IsServiceIn f new) l qs) xs
            (subst (λ (l : List ServiceCode). AllZip (IsServiceIn f new) (flat_map (roles_of f) (take i ss)) l) (sym h.is) h.each);
        clean = subst (All NoClash) xs h.clean;
      }
