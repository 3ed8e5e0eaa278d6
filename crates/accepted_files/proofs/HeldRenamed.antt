-- With the channel's name for its session, a process uses the sessions in which it holds a role.
use Rattle.std.proofs.Common.{◌≡◌, ℕ, List, [], ◌∷◌, map, length, refl, sym, ap, ◌∙◌, subst, suc, Option, Some, None, Bool, true, false, if◌then◌else◌, ◌==◌, ◌||◌, arith}
use Rattle.std.proofs.lemmas.Bool.Decides.{nat_tests}
use Rattle.chor_base.specs.declared.names.NameId.{NameId}
use Rattle.chor_tree.specs.declared.file.Proc.{Proc}
use Rattle.chor_tree.specs.declared.file.SessionParam.{SessionParam}
use Rattle.chor_semantics.specs.Choreography.{Ref, Live, Named, Content, OfValue, OfLabel, OfPart, Starts, Communicates, InTransit, Alone, Choreography, Then, Either, Calls, Ends, put, put_part, put_content}
use Rattle.endpoint_code.specs.declared.endpoints.Endpoints.{Endpoints}
use Rattle.endpoint_code.specs.Faults.{is_among, AreDistinct, no_name, one_more}
use Rattle.projection.specs.Codes.{name_of, is_named, role_in, proc_named, param_for}
use Rattle.projection.specs.Projects.{session_as}
use Rattle.projection.specs.Renamed.{IsOther, AreOther, IsOtherContent}
use Rattle.accepted_files.specs.FreeSessions.{IsFree}
use Rattle.accepted_files.specs.Held.{Held, with_held, GivesHeld, GainsNew, held_after, Exchanges, JoinsNew, HoldsListed, PassesFor, PassesAtCall, UsesHeld}

same_refs : (rs : List Ref) → map (λ p. p) rs ≡ rs
same_refs [] = refl
same_refs (r ∷ rs) = ap (λ z. r ∷ z) (same_refs rs)

same_parts : (qs : List (Ref × NameId)) → put_part (λ p. p) qs ≡ qs
same_parts [] = refl
same_parts (q ∷ qs) = ap (λ z. (q.0, q.1) ∷ z) (same_parts qs)

module _ (e : Endpoints) (fs : List Proc) (r : NameId) (k : ℕ) (a : NameId) where
  abbrev ren : Ref → Ref
  ren = session_as k a

  -- the number that stands for another
  abbrev as_number : ℕ → ℕ
  as_number y = if y == k then a.0 else y

  number_is : (u : Ref) → IsOther a u → (name_of (ren u)).0 ≡ as_number (name_of u).0
  number_is (Live n) o = absurd o
  number_is (Named y d) o = go (y == k)
    where
      go : (b : Bool) → (name_of (if b then Named a.0 d else Named y d)).0 ≡ (if b then a.0 else y)
      go true = refl
      go false = refl

  other_is : (u : Ref) → IsOther a u → ((name_of u).0 == a.0) ≡ false
  other_is (Live n) o = absurd o
  other_is (Named y d) o = o

  -- others stay apart
  apart_same : (y z : ℕ) → (y == a.0) ≡ false → (z == a.0) ≡ false → (as_number y == as_number z) ≡ (y == z)
  apart_same y z i j = go (y == k) (z == k) refl refl
    where
      go : (b c : Bool) → (y == k) ≡ b → (z == k) ≡ c → ((if b then a.0 else y) == (if c then a.0 else z)) ≡ (y == z)
      go true true u v = grind (arith, nat_tests)
      go true false u v = grind (arith, nat_tests)
      go false true u v = grind (arith, nat_tests)
      go false false u v = refl

  abbrev Agree : Held → Held → Type 0
  Agree g h = (y : ℕ) → (y == a.0) ≡ false → h (as_number y) ≡ g y

  agree_with : (g h : Held) (z : ℕ) (b : Bool) → (z == a.0) ≡ false → Agree g h → Agree (with_held g z b) (with_held h (as_number z) b)
  agree_with g h z b j w y i = ap (λ c. if c then b else h (as_number y)) (apart_same y z i j) ∙ ap (λ v. if y == z then b else v) (w y i)

  at_ref : (g h : Held) → Agree g h → (u : Ref) → IsOther a u → h (name_of (ren u)).0 ≡ g (name_of u).0
  at_ref g h w u o = ap h (number_is u o) ∙ w (name_of u).0 (other_is u o)

  agree_ref : (g h : Held) (u : Ref) (b : Bool) → IsOther a u → Agree g h → Agree (with_held g (name_of u).0 b) (with_held h (name_of (ren u)).0 b)
  agree_ref g h u b o w = subst (λ z. Agree (with_held g (name_of u).0 b) (with_held h z b)) (sym (number_is u o)) (agree_with g h (name_of u).0 b (other_is u o) w)

  gives : (g h : Held) → Agree g h → (w : Content) → IsOtherContent a w → GivesHeld g w → GivesHeld h (put_content ren w)
  gives g h ag (OfValue x y) o v = v
  gives g h ag (OfLabel l) o v = v
  gives g h ag (OfPart u t) o v = at_ref g h ag u o ∙ v

  gains : (g h : Held) → Agree g h → (w : Content) → IsOtherContent a w → GainsNew g w → GainsNew h (put_content ren w)
  gains g h ag (OfValue x y) o v = v
  gains g h ag (OfLabel l) o v = v
  gains g h ag (OfPart u t) o v = at_ref g h ag u o ∙ v

  after_content : (g h : Held) (b : Bool) → Agree g h → (w : Content) → IsOtherContent a w → Agree (held_after g w b) (held_after h (put_content ren w) b)
  after_content g h b ag (OfValue x y) o = ag
  after_content g h b ag (OfLabel l) o = ag
  after_content g h b ag (OfPart u t) o = agree_ref g h u b o ag

  exchanges : (g h : Held) → Agree g h → (u : Ref) (w : Content) → IsOther a u → IsOtherContent a w → (K L : Held → Type 0) → ((g h : Held) → Agree g h → K g → L h) → (i j : Bool)
      → Exchanges i j g u w K → Exchanges i j h (ren u) (put_content ren w) L
  exchanges g h ag u w o p K L more true j v = (at_ref g h ag u o ∙ v.0, gives g h ag w p v.1, more (held_after g w false) (held_after h (put_content ren w) false) (after_content g h false ag w p) v.2)
  exchanges g h ag u w o p K L more false true v = (at_ref g h ag u o ∙ v.0, gains g h ag w p v.1, more (held_after g w true) (held_after h (put_content ren w) true) (after_content g h true ag w p) v.2)
  exchanges g h ag u w o p K L more false false v = more g h ag v

  -- a start of another session
  joins_new : (g h : Held) → Agree g h → (c : NameId) (s : ℕ) → (s == k) ≡ false → (s == a.0) ≡ false → (K L : Held → Type 0) → ((g h : Held) → Agree g h → K g → L h) → (o : Option NameId) → JoinsNew e c s g o K → JoinsNew e c s h o L
  joins_new g h ag c s i j K L more None v = more g h ag v
  joins_new g h ag c s i j K L more (Some x) v =
      let same : as_number s ≡ s = ap (λ b. if b then a.0 else s) i in
      (v.0, ap h (sym same) ∙ ag s j ∙ v.1, more (with_held g s true) (with_held h s true) (subst (λ z. Agree (with_held g s true) (with_held h z true)) same (agree_with g h s true j ag)) v.2)

  count_same : (ss : List Ref) → length (map ren ss) ≡ length ss
  count_same [] = refl
  count_same (s ∷ ss) = ap suc (count_same ss)

  listed_same : (g h : Held) → Agree g h → (p : NameId) (ks : List SessionParam) (ss : List Ref) → AreOther a ss → HoldsListed g p ks ss → HoldsListed h p ks (map ren ss)
  listed_same g h ag p [] [] o v = v
  listed_same g h ag p [] (s ∷ ss) o v = v
  listed_same g h ag p (q ∷ qs) [] o v = v
  listed_same g h ag p (q ∷ qs) (s ∷ ss) o v = ((λ i. at_ref g h ag s o.0 ∙ v.0 i), listed_same g h ag p qs ss o.1 v.1)

  among_same : (s : Ref) (ss : List Ref) → IsOther a s → AreOther a ss → is_among (name_of (ren s)) (map name_of (map ren ss)) ≡ is_among (name_of s) (map name_of ss)
  among_same s [] o p = refl
  among_same s (t ∷ ts) o p =
      ap (λ b. b || is_among (name_of (ren s)) (map name_of (map ren ts)))
      (ap (λ n. n == (name_of (ren t)).0) (number_is s o) ∙ ap (λ n. as_number (name_of s).0 == n) (number_is t p.0) ∙ apart_same (name_of s).0 (name_of t).0 (other_is s o) (other_is t p.0))
      ∙ ap (λ b. ((name_of s).0 == (name_of t).0) || b) (among_same s ts o p.1)

  distinct_same : (ss : List Ref) → AreOther a ss → AreDistinct (map name_of ss) → AreDistinct (map name_of (map ren ss))
  distinct_same [] o d = no_name
  distinct_same (s ∷ ss) o (one_more i d) = one_more (among_same s ss o.0 o.1 ∙ i) (distinct_same ss o.1 d)

  call_passes : (g h : Held) → Agree g h → (ps ss : List Ref) → AreOther a ss → (x : Option Proc) → PassesAtCall r ps ss g x → PassesAtCall r ps (map ren ss) h x
  call_passes g h ag ps ss o None v = v
  call_passes g h ag ps ss o (Some x) v = go (param_for r x.params ps) v
    where
      go : (q : Option NameId) → PassesFor g x ss q → PassesFor h x (map ren ss) q
      go None v = v
      go (Some p) v = record { count = count_same ss ∙ v.count; listed = listed_same g h ag p x.sessions ss o v.listed; apart = distinct_same ss o v.apart }

  pub uses_renamed : (c : Choreography) → IsFree k a c → (g h : Held) → Agree g h → UsesHeld e fs r c g → UsesHeld e fs r (put (λ p. p) ren c) h
  uses_renamed (Then (Starts c d s act srv) rest) o g h ag v =
      subst (λ z. JoinsNew e c s h (role_in r z) (UsesHeld e fs r (put (λ p. p) ren rest))) (sym (same_parts act))
      (joins_new g h ag c s o.0 o.1 (UsesHeld e fs r rest) (UsesHeld e fs r (put (λ p. p) ren rest)) (λ g h ag x. uses_renamed rest o.2 g h ag x) (role_in r act) v)
  uses_renamed (Then (Communicates u p c q b w) rest) o g h ag v =
      exchanges g h ag u w o.0 o.1 (UsesHeld e fs r rest) (UsesHeld e fs r (put (λ p. p) ren rest)) (λ g h ag x. uses_renamed rest o.2 g h ag x) (is_named r p) (is_named r q) v
  uses_renamed (Then (InTransit s b d m q) rest) o g h ag v = uses_renamed rest o g h ag v
  uses_renamed (Then (Alone p own) rest) o g h ag v = uses_renamed rest o g h ag v
  uses_renamed (Either p x c d) o g h ag v = (uses_renamed c o.0 g h ag v.0, uses_renamed d o.1 g h ag v.1)
  uses_renamed (Calls f d ps ss) o g h ag v = subst (λ z. PassesAtCall r z (map ren ss) h (proc_named fs f)) (sym (same_refs ps)) (call_passes g h ag ps ss o (proc_named fs f) v)
  uses_renamed Ends o g h ag v = tt
