-- Labels of a state, and what they lead to.
use Rattle.std.proofs.Common.{◌≡◌, ◌≢◌, ℕ, ◌+◌, ◌<◌, ◌≤◌, Bool, true, false, List, [], ◌∷◌, map, length, take, Option, Some, None, refl, sym, ap, ◌∙◌, subst, inl, inr, arith, if◌then◌else◌}
use Rattle.std.specs.Prelude.{slice_index_or, nat_eq}
use Rattle.std.proofs.lemmas.Option.{slice_get-get_or}
use Rattle.std.proofs.lemmas.Bool.Decides.{nat_tests}
use Rattle.chor_base.specs.declared.names.NameId.{NameId}
use Rattle.chor_tree.specs.declared.protocol.Payload.{Payload}
use Rattle.global_types.specs.Moves.{IsIn, content_of}
use Rattle.global_types.specs.Paths.{Action, sends, receives, selects, offers}
use Rattle.local_types.specs.declared.local_type.LocalState.{LocalState}
use Rattle.local_types.specs.declared.local_type.LocalState.TheVariants.{Send, Recv, Pick, Branch}
use Rattle.state_sets.proofs.Lists.{in_of_at, none_at, none_whole}
use Rattle.typed_sources.specs.Told.{Act, act_of, puts, gets, told_of, of_label}
use Rattle.conform.specs.declared.deed.Carried.{Carried}
use Rattle.conform.specs.declared.deed.Carried.TheVariants.{Sort, Endpoint, Label}
use Rattle.conform.specs.declared.deed.Deed.{Deed}
use Rattle.conform.specs.declared.deed.Deed.TheVariants.{Puts, Gets}
use Rattle.conform.specs.Moves.{told, act, IsNext, HasLabel}
use Rattle.conform.proofs.OneState.{by_label, one_put, one_got}

same_name : (a b : NameId) (t : Bool) → t ≡ nat_eq a.0 b.0 → t ≡ true → a ≡ b
same_name a b t is e = let f : a.0 ≡ b.0 = grind (arith, nat_tests) in ap (λ n. record { 0 = n }) f

other_name : (a b : NameId) (t : Bool) → t ≡ nat_eq a.0 b.0 → t ≡ false → a ≡ b → ⊥
other_name a b t is e f = let g : a.0 ≡ b.0 = ap (λ (n : NameId). n.0) f in grind (arith, nat_tests)

pub label_found : (ls : List (NameId × ℕ)) (i : ℕ) (d : NameId × ℕ) (l : NameId) (t : Bool) → i < length ls → t ≡ nat_eq (slice_index_or ls i d).0.0 l.0 → t ≡ true → IsIn {A = NameId × ℕ} (l, (slice_index_or ls i d).1) ls
label_found ls i d l t lt is e =
    let q = slice_index_or ls i d in
    subst (λ (m : NameId). IsIn {A = NameId × ℕ} (m, q.1) ls) (same_name q.0 l t is e) (in_of_at q ls i (slice_get-get_or ls i d lt))

pub label_not : (ls : List (NameId × ℕ)) (i : ℕ) (d : NameId × ℕ) (l : NameId) (t : Bool) → i < length ls → t ≡ nat_eq (slice_index_or ls i d).0.0 l.0 → t ≡ false
    → ((q : NameId × ℕ) → IsIn q (take i ls) → q.0 ≡ l → ⊥) → (q : NameId × ℕ) → IsIn q (take (i + 1) ls) → q.0 ≡ l → ⊥
label_not ls i d l t lt is e none = none_at (λ (q : NameId × ℕ). q.0 ≡ l) ls i d lt none (other_name (slice_index_or ls i d).0 l t is e)

pub no_label : (ls : List (NameId × ℕ)) (i : ℕ) (l : NameId) → length ls ≤ i → ((q : NameId × ℕ) → IsIn q (take i ls) → q.0 ≡ l → ⊥) → HasLabel ls l None
no_label ls i l past none n among = none_whole (λ (q : NameId × ℕ). q.0 ≡ l) ls i past none (l, n) among refl

-- ---- by a label

in_labels : (f : NameId → Action) (ls : List (NameId × ℕ)) (l : NameId) (n : ℕ) → IsIn {A = NameId × ℕ} (l, n) ls → IsIn {A = Action × ℕ} (f l, n) (map (λ l. (f l.0, l.1)) ls)
in_labels f [] l n h = absurd h
in_labels f (q ∷ ls) l n (inl e) = inl (ap (λ (p : NameId × ℕ). (f p.0, p.1)) e)
in_labels f (q ∷ ls) l n (inr h) = inr (in_labels f ls l n h)

pub picks_next : (t : LocalState) (to : NameId) (ls : List (NameId × ℕ)) (act : Act) (l : NameId) (r : Option ℕ) → t ≡ Pick to ls → act ≡ puts to (of_label l) → HasLabel ls l r → IsNext t act r
picks_next t to ls act l r is does h = subst (λ (s : LocalState). IsNext s act r) (sym is) (go r h)
  where
    go : (r : Option ℕ) → HasLabel ls l r → IsNext (Pick to ls) act r
    go (Some n) h = (selects to l, in_labels (λ l. selects to l) ls l n h, sym does)
    go None h = λ n (a, among, told). let w = by_label (λ l. selects to l) ls a n among in h n (subst (λ (k : NameId). IsIn {A = NameId × ℕ} (k, n) ls) (one_put to w.label l (ap act_of w.is ∙ told ∙ does)) w.among)

pub offers_next : (t : LocalState) (from : NameId) (ls : List (NameId × ℕ)) (act : Act) (l : NameId) (r : Option ℕ) → t ≡ Branch from ls → act ≡ gets from (of_label l) → HasLabel ls l r → IsNext t act r
offers_next t from ls act l r is does h = subst (λ (s : LocalState). IsNext s act r) (sym is) (go r h)
  where
    go : (r : Option ℕ) → HasLabel ls l r → IsNext (Branch from ls) act r
    go (Some n) h = (offers from l, in_labels (λ l. offers from l) ls l n h, sym does)
    go None h = λ n (a, among, told). let w = by_label (λ l. offers from l) ls a n among in h n (subst (λ (k : NameId). IsIn {A = NameId × ℕ} (k, n) ls) (one_got from w.label l (ap act_of w.is ∙ told ∙ does)) w.among)

-- no label is put to that role, or got from it
pub picks_none : (t : LocalState) (to : NameId) (ls : List (NameId × ℕ)) (act : Act) (r : Option ℕ) → t ≡ Pick to ls → ((l : NameId) → act ≢ puts to (of_label l)) → r ≡ None → IsNext t act r
picks_none t to ls act r is never none =
    subst (λ (s : LocalState). IsNext s act r) (sym is) (subst (IsNext (Pick to ls) act) (sym none) (λ n (a, among, told). let w = by_label (λ l. selects to l) ls a n among in never w.label (sym told ∙ sym (ap act_of w.is))))

pub offers_none : (t : LocalState) (from : NameId) (ls : List (NameId × ℕ)) (act : Act) (r : Option ℕ) → t ≡ Branch from ls → ((l : NameId) → act ≢ gets from (of_label l)) → r ≡ None → IsNext t act r
offers_none t from ls act r is never none =
    subst (λ (s : LocalState). IsNext s act r) (sym is) (subst (IsNext (Branch from ls) act) (sym none) (λ n (a, among, told). let w = by_label (λ l. offers from l) ls a n among in never w.label (sym told ∙ sym (ap act_of w.is))))

-- ---- by a content

pub sends_next : (t : LocalState) (to : NameId) (c : Payload) (n : ℕ) (act : Act) (b : Bool) (r : Option ℕ) → t ≡ Send to c n → r ≡ (if b then Some n else None) → (b ≡ true → act ≡ puts to (told_of (content_of c))) → (act ≡ puts to (told_of (content_of c)) → b ≡ true) → IsNext t act r
sends_next t to c n act b r is so on back = subst (λ (s : LocalState). IsNext s act r) (sym is) (subst (IsNext (Send to c n) act) (sym so) (go b on back))
  where
    go : (b : Bool) → (b ≡ true → act ≡ puts to (told_of (content_of c))) → (act ≡ puts to (told_of (content_of c)) → b ≡ true) → IsNext (Send to c n) act (if b then Some n else None)
    go true on back = (sends to (content_of c), inl refl, sym (on refl))
    go false on back = λ m (a, among, told). none m a among told
      where
        none : (m : ℕ) (a : Action) → IsIn {A = Action × ℕ} (a, m) ((sends to (content_of c), n) ∷ []) → act_of a ≡ act → ⊥
        none m a (inl e) told = absurd (let h : false ≡ true = back (sym (ap (λ (q : Action × ℕ). act_of q.0) e ∙ told)) in cc)
        none m a (inr e) told = e

pub receives_next : (t : LocalState) (from : NameId) (c : Payload) (n : ℕ) (act : Act) (b : Bool) (r : Option ℕ) → t ≡ Recv from c n → r ≡ (if b then Some n else None) → (b ≡ true → act ≡ gets from (told_of (content_of c))) → (act ≡ gets from (told_of (content_of c)) → b ≡ true) → IsNext t act r
receives_next t from c n act b r is so on back = subst (λ (s : LocalState). IsNext s act r) (sym is) (subst (IsNext (Recv from c n) act) (sym so) (go b on back))
  where
    go : (b : Bool) → (b ≡ true → act ≡ gets from (told_of (content_of c))) → (act ≡ gets from (told_of (content_of c)) → b ≡ true) → IsNext (Recv from c n) act (if b then Some n else None)
    go true on back = (receives from (content_of c), inl refl, sym (on refl))
    go false on back = λ m (a, among, told). none m a among told
      where
        none : (m : ℕ) (a : Action) → IsIn {A = Action × ℕ} (a, m) ((receives from (content_of c), n) ∷ []) → act_of a ≡ act → ⊥
        none m a (inl e) told = absurd (let h : false ≡ true = back (sym (ap (λ (q : Action × ℕ). act_of q.0) e ∙ told)) in cc)
        none m a (inr e) told = e

-- ---- deeds, by what is told of them

same_told : (c d : Carried) → told c ≡ told d → c ≡ d
same_told (Sort s) (Sort t) h = let e : s ≡ t = cc in ap (λ x. Sort x) e
same_told (Sort s) (Endpoint p r) h = absurd cc
same_told (Sort s) (Label l) h = absurd cc
same_told (Endpoint p r) (Sort t) h = absurd cc
same_told (Endpoint p r) (Endpoint q s) h = let e : p ≡ q = cc in let g : r ≡ s = cc in λ i. Endpoint (e i) (g i)
same_told (Endpoint p r) (Label l) h = absurd cc
same_told (Label l) (Sort t) h = absurd cc
same_told (Label l) (Endpoint p r) h = absurd cc
same_told (Label l) (Label k) h = let e : l ≡ k = cc in ap (λ x. Label x) e

pub same_act : (d e : Deed) → act d ≡ act e → d ≡ e
same_act (Puts a c) (Puts b d) h = let e : a ≡ b = cc in let g : told c ≡ told d = cc in let w = same_told c d g in λ i. Puts (e i) (w i)
same_act (Puts a c) (Gets b d) h = absurd cc
same_act (Gets a c) (Puts b d) h = absurd cc
same_act (Gets a c) (Gets b d) h = let e : a ≡ b = cc in let g : told c ≡ told d = cc in let w = same_told c d g in λ i. Gets (e i) (w i)
