-- Where no token exceeds limits of two rules at once.
use Rattle.std.proofs.Common.{◌≡◌, inl, inr, Bool, true, false, ◌&&◌, ◌||◌, not, zero, suc, List, [], ◌∷◌, ◌++◌, Option, Some, None, refl, sym, ap, ◌∙◌, subst, append_assoc}
use Rattle.std.proofs.lemmas.Bool.{and_parts, or_right}
use Rattle.chor_base.specs.declared.rule.Place.{Place}
use Rattle.chor_base.specs.declared.rule.Rule.{Rule}
use Rattle.chor_lexer.specs.Lexeme.{Symbol, Lexeme}
use Rattle.grammar.specs.Classes.{is_of, says}
use Rattle.grammar.specs.Grammars.{Grammar, empty, one, seq, alt, many, more, within, short, after, Room, is_full, less, cut, Rules, Allowed, but_at, anywhere, Derives, is_one, in_turn, the_first, the_second, one_of_many, one_more, with_room, in_short, a_token, by_rule, is_nullable, AreClear}
use Rattle.grammar.specs.Machine.{Next, goes, skips, refuses, over, limited, next, Stop, on, at, stopped, stop}
use Rattle.grammar.specs.Faults.{CanEnd, IsFaultAt, unexpected, excess, IsFirstFault}
use Rattle.grammar.specs.Singles.{no_limit, all_limits, first_limits, is_single, AreSingle}
use Rattle.grammar.proofs.Apart.{IsClear}
use Rattle.grammar.proofs.Nexts.{AllowedBy, by_first, by_second, clipped_by, either_by, followed_by, limited_by, repeated_by, taken_by}
use Rattle.grammar.proofs.Steps.{CanBe, kept, step, without, split, of_empty, unshort, skips_null}
use Rattle.grammar.proofs.Completed.{ends, Goes, here, further, Halts, Halted, refused, exceeded, halts_of, clear_along, back_along, step_along, completed, first_fault, fault_there, no_fault, no_way, other, other_differs, there, wider}
use Rattle.grammar.proofs.OneFault.{Order, same, before, behind, order, one_place}
use Rattle.grammar.proofs.Rules.{stable}

both : (a b : Bool) → a ≡ true → b ≡ true → (a && b) ≡ true
both a b e f = ap (λ x. x && b) e ∙ f

never : (b : Bool) → b ≡ true → b ≡ false → ⊥
never b t f = cc

full_limit : (n : Room) → is_full n ≡ true → no_limit n ≡ false
full_limit None h = absurd cc
full_limit (Some n) h = refl

less_limit : (n : Room) (b : Bool) → (no_limit n || b) ≡ true → (no_limit (less n) || b) ≡ true
less_limit None b h = h
less_limit (Some n) b h = h

cut_limit : (n : Room) (b : Bool) → (no_limit n || b) ≡ true → (no_limit (cut n) || b) ≡ true
cut_limit None b h = refl
cut_limit (Some zero) b h = refl
cut_limit (Some (suc n)) b h = h

limit_so : (n : Room) (b : Bool) → (no_limit n || b) ≡ true → is_full n ≡ true → b ≡ true
limit_so None b h f = absurd cc
limit_so (Some n) b h f = h

not_null : (b : Bool) (c : Bool) → (not b || c) ≡ true → b ≡ true → c ≡ true
not_null true c h e = h
not_null false c h e = absurd cc

-- the rule of what is exceeded
over_ok : (ok : Rule → Bool) (full : Bool) (f : Rule) (p : Option Rule) (o : Rule) → Some o ≡ over full f p → (full ≡ true → ok f ≡ true) → ((q : Rule) → p ≡ Some q → ok q ≡ true) → ok o ≡ true
over_ok ok full f (Some q) o e h k = let i : q ≡ o = cc in subst (λ (x : Rule). ok x ≡ true) i (k q refl)
over_ok ok true f None o e h k = let i : f ≡ o = cc in subst (λ (x : Rule). ok x ≡ true) i (h refl)
over_ok ok false f None o e h k = absurd cc

under : (Q : Allowed) (full : Bool) (f : Rule) (p o : Option Rule) (q : Place) → o ≡ over full f p → AllowedBy Q o q → AllowedBy Q p q
under Q full f (Some g) o q e a = subst (λ (x : Option Rule). AllowedBy Q x q) e a
under Q full f None o q e a = tt

exactly_room : (Q : Allowed) (full : Bool) (f : Rule) (p o : Option Rule) (q : Place) → o ≡ over full f p → AllowedBy Q o q → ((g : Rule) → p ≡ Some g → full ≡ true → f ≡ g) → full ≡ true → Q f q
exactly_room Q full f (Some g) o q e a s t = subst (λ (x : Rule). Q x q) (sym (s g refl t)) (subst (λ (x : Option Rule). AllowedBy Q x q) e a)
exactly_room Q true f None o q e a s t = subst (λ (x : Option Rule). AllowedBy Q x q) e a
exactly_room Q false f None o q e a s t = absurd cc

module _ {N : Type 0} (r : Rules N) where
  all_first : (free : N → Bool) (ok : Rule → Bool) (g : Grammar N) → all_limits free ok g ≡ true → first_limits ok g ≡ true
  all_first free ok empty h = refl
  all_first free ok (one c) h = refl
  all_first free ok (seq g k) h = let p = and_parts (all_limits free ok g) (all_limits free ok k) h in both (first_limits ok g) (not (is_nullable g) || first_limits ok k) (all_first free ok g p.0) (or_right (not (is_nullable g)) (first_limits ok k) (all_first free ok k p.1))
  all_first free ok (alt g k) h = let p = and_parts (all_limits free ok g) (all_limits free ok k) h in both (first_limits ok g) (first_limits ok k) (all_first free ok g p.0) (all_first free ok k p.1)
  all_first free ok (many e n g) h = let p = and_parts (no_limit n || ok e) (all_limits free ok g) h in both (no_limit n || ok e) (first_limits ok g) p.0 (all_first free ok g p.1)
  all_first free ok (more e n c g) h = refl
  all_first free ok (within e n g) h = let p = and_parts (no_limit n || ok e) (all_limits free ok g) h in both (no_limit n || ok e) (first_limits ok g) p.0 (all_first free ok g p.1)
  all_first free ok (short e n g) h = let p = and_parts (no_limit n || ok e) (all_limits free ok g) h in both (no_limit n || ok e) (first_limits ok g) p.0 (all_first free ok g p.1)
  all_first free ok (after c n) h = refl

  -- what the next token exceeds is one of the first limits
  pub first_ok : (ok : Rule → Bool) (g : Grammar N) (s : Symbol) (f : Rule) (a : Grammar N) → first_limits ok g ≡ true → next r g s ≡ goes (Some f) a → ok f ≡ true
  first_ok ok empty s f a h e = absurd cc
  first_ok ok (one c) s f a h e = let t = taken_by (is_of c s) empty refuses (Some f) a (λ q. cc) e in absurd (let i = t.1 in cc)
  first_ok ok (seq g k) s f a h e =
      let p = and_parts (first_limits ok g) (not (is_nullable g) || first_limits ok k) h in
      elim (followed_by (next r g s) k (next r k s) (Some f) a e) [
        | by_first {b = b} i j ↦ first_ok ok g s f b p.0 i
        | by_second i j ↦ first_ok ok k s f a (not_null (is_nullable g) (first_limits ok k) p.1 (skips_null r g s i)) j
      ]
  first_ok ok (alt g k) s f a h e =
      let p = and_parts (first_limits ok g) (first_limits ok k) h in
      elim (either_by (next r g s) (next r k s) (Some f) a e) [ inl i ↦ first_ok ok g s f a p.0 i | inr i ↦ first_ok ok k s f a p.1 i ]
  first_ok ok (many m n g) s f a h e =
      let w = and_parts (no_limit n || ok m) (first_limits ok g) h in
      let p = repeated_by (limited (next r g s) m (is_full n)) (many m (less n) g) (Some f) a e in
      let q = limited_by (next r g s) m (is_full n) (Some f) p.0 p.1 in
      over_ok ok (is_full n) m q.0 f q.2 (limit_so n (ok m) w.0) (λ u v. first_ok ok g s u p.0 w.1 (q.1 ∙ ap (λ (x : Option Rule). goes x p.0) v))
  first_ok ok (more m n k g) s f a h e = let t = taken_by (is_of k s) (seq (within m n g) (more m (less n) k g)) skips (Some f) a (λ q. cc) e in absurd (let i = t.1 in cc)
  first_ok ok (within m n g) s f a h e =
      let w = and_parts (no_limit n || ok m) (first_limits ok g) h in
      let q = limited_by (next r g s) m (is_full n) (Some f) a e in
      over_ok ok (is_full n) m q.0 f q.2 (limit_so n (ok m) w.0) (λ u v. first_ok ok g s u a w.1 (q.1 ∙ ap (λ (x : Option Rule). goes x a) v))
  first_ok ok (short m n g) s f a h e =
      let w = and_parts (no_limit n || ok m) (first_limits ok g) h in
      let q = clipped_by (next r g s) m n (Some f) a e in
      over_ok ok (is_full n) m q.0 f q.3 (limit_so n (ok m) w.0) (λ u v. first_ok ok g s u q.1 w.1 (q.2 ∙ ap (λ (x : Option Rule). goes x q.1) v))
  first_ok ok (after k n) s f a h e = let t = taken_by (is_of k s) (r.rule n) refuses (Some f) a (λ q. cc) e in absurd (let i = t.1 in cc)

  -- what is left has no other limits
  pub all_kept : (free : N → Bool) (ok : Rule → Bool) → ((n : N) → free n ≡ true → all_limits free ok (r.rule n) ≡ true) → (g : Grammar N) (s : Symbol) (o : Option Rule) (a : Grammar N) → all_limits free ok g ≡ true → next r g s ≡ goes o a → all_limits free ok a ≡ true
  all_kept free ok z empty s o a h e = absurd cc
  all_kept free ok z (one c) s o a h e = ap (λ (x : Grammar N). all_limits free ok x) (taken_by (is_of c s) empty refuses o a (λ q. cc) e).2
  all_kept free ok z (seq g k) s o a h e =
      let p = and_parts (all_limits free ok g) (all_limits free ok k) h in
      elim (followed_by (next r g s) k (next r k s) o a e) [
        | by_first {b = b} i j ↦ ap (λ (x : Grammar N). all_limits free ok x) j ∙ both (all_limits free ok b) (all_limits free ok k) (all_kept free ok z g s o b p.0 i) p.1
        | by_second i j ↦ all_kept free ok z k s o a p.1 j
      ]
  all_kept free ok z (alt g k) s o a h e =
      let p = and_parts (all_limits free ok g) (all_limits free ok k) h in
      elim (either_by (next r g s) (next r k s) o a e) [ inl i ↦ all_kept free ok z g s o a p.0 i | inr i ↦ all_kept free ok z k s o a p.1 i ]
  all_kept free ok z (many m n g) s o a h e =
      let w = and_parts (no_limit n || ok m) (all_limits free ok g) h in
      let p = repeated_by (limited (next r g s) m (is_full n)) (many m (less n) g) o a e in
      let q = limited_by (next r g s) m (is_full n) o p.0 p.1 in
      ap (λ (x : Grammar N). all_limits free ok x) p.2 ∙ both (all_limits free ok p.0) ((no_limit (less n) || ok m) && all_limits free ok g) (all_kept free ok z g s q.0 p.0 w.1 q.1) (both (no_limit (less n) || ok m) (all_limits free ok g) (less_limit n (ok m) w.0) w.1)
  all_kept free ok z (more m n k g) s o a h e =
      let w = and_parts (no_limit n || ok m) (all_limits free ok g) h in
      ap (λ (x : Grammar N). all_limits free ok x) (taken_by (is_of k s) (seq (within m n g) (more m (less n) k g)) skips o a (λ q. cc) e).2 ∙ both ((no_limit n || ok m) && all_limits free ok g) ((no_limit (less n) || ok m) && all_limits free ok g) h (both (no_limit (less n) || ok m) (all_limits free ok g) (less_limit n (ok m) w.0) w.1)
  all_kept free ok z (within m n g) s o a h e =
      let w = and_parts (no_limit n || ok m) (all_limits free ok g) h in
      let q = limited_by (next r g s) m (is_full n) o a e in
      all_kept free ok z g s q.0 a w.1 q.1
  all_kept free ok z (short m n g) s o a h e =
      let w = and_parts (no_limit n || ok m) (all_limits free ok g) h in
      let q = clipped_by (next r g s) m n o a e in
      ap (λ (x : Grammar N). all_limits free ok x) q.4 ∙ both (no_limit (cut n) || ok m) (all_limits free ok q.1) (cut_limit n (ok m) w.0) (all_kept free ok z g s q.0 q.1 w.1 q.2)
  all_kept free ok z (after k n) s o a h e = ap (λ (x : Grammar N). all_limits free ok x) (taken_by (is_of k s) (r.rule n) refuses o a (λ q. cc) e).2 ∙ z n h

  module _ (w : AreSingle r) where
    abbrev single : Grammar N → Bool
    single g = is_single w.same w.free g

    pub single_kept : (g : Grammar N) (s : Symbol) (o : Option Rule) (a : Grammar N) → single g ≡ true → next r g s ≡ goes o a → single a ≡ true
    single_kept empty s o a h e = absurd cc
    single_kept (one c) s o a h e = ap single (taken_by (is_of c s) empty refuses o a (λ q. cc) e).2
    single_kept (seq g k) s o a h e =
        let p = and_parts (single g) (single k) h in
        elim (followed_by (next r g s) k (next r k s) o a e) [
          | by_first {b = b} i j ↦ ap single j ∙ both (single b) (single k) (single_kept g s o b p.0 i) p.1
          | by_second i j ↦ single_kept k s o a p.1 j
        ]
    single_kept (alt g k) s o a h e =
        let p = and_parts (single g) (single k) h in
        elim (either_by (next r g s) (next r k s) o a e) [ inl i ↦ single_kept g s o a p.0 i | inr i ↦ single_kept k s o a p.1 i ]
    single_kept (many m n g) s o a h e =
        let v = and_parts (no_limit n || first_limits (w.same m) g) (single g) h in
        let p = repeated_by (limited (next r g s) m (is_full n)) (many m (less n) g) o a e in
        let q = limited_by (next r g s) m (is_full n) o p.0 p.1 in
        ap single p.2 ∙ both (single p.0) (single (many m (less n) g)) (single_kept g s q.0 p.0 v.1 q.1) (both (no_limit (less n) || first_limits (w.same m) g) (single g) (less_limit n (first_limits (w.same m) g) v.0) v.1)
    single_kept (more m n k g) s o a h e =
        let v = and_parts (no_limit n || first_limits (w.same m) g) (single g) h in
        ap single (taken_by (is_of k s) (seq (within m n g) (more m (less n) k g)) skips o a (λ q. cc) e).2 ∙ both (single (within m n g)) (single (more m (less n) k g)) h (both (no_limit (less n) || first_limits (w.same m) g) (single g) (less_limit n (first_limits (w.same m) g) v.0) v.1)
    single_kept (within m n g) s o a h e =
        let v = and_parts (no_limit n || first_limits (w.same m) g) (single g) h in
        let q = limited_by (next r g s) m (is_full n) o a e in
        single_kept g s q.0 a v.1 q.1
    single_kept (short m n g) s o a h e =
        let v = and_parts (no_limit n || all_limits w.free (w.same m) g) (single g) h in
        let q = clipped_by (next r g s) m n o a e in
        ap single q.4 ∙ both (no_limit (cut n) || all_limits w.free (w.same m) q.1) (single q.1) (go n v.0 q) (single_kept g s q.0 q.1 v.1 q.2)
      where
        go : (k : Room) → (no_limit k || all_limits w.free (w.same m) g) ≡ true → (q : (p : Option Rule) × (b : Grammar N) × (next r g s ≡ goes p b) × (o ≡ over (is_full n) m p) × (a ≡ short m (cut n) b)) → (no_limit (cut k) || all_limits w.free (w.same m) q.1) ≡ true
        go None i q = refl
        go (Some zero) i q = refl
        go (Some (suc k)) i q = all_kept w.free (w.same m) (λ n f. w.free_rules n f (w.same m)) g s q.0 q.1 i q.2
    single_kept (after k n) s o a h e = ap single (taken_by (is_of k s) (r.rule n) refuses o a (λ q. cc) e).2 ∙ w.single_rules n

    one_rule : (m : Rule) (n : Room) (g : Grammar N) (s : Symbol) (p : Option Rule) (a : Grammar N) → (no_limit n || first_limits (w.same m) g) ≡ true → next r g s ≡ goes p a → (f : Rule) → p ≡ Some f → is_full n ≡ true → m ≡ f
    one_rule m n g s p a h e f i t = w.is_same m f (first_ok (w.same m) g s f a (limit_so n (first_limits (w.same m) g) h t) (e ∙ ap (λ (x : Option Rule). goes x a) i))

    all_to_first : (m : Rule) (n : Room) (g : Grammar N) → (no_limit n || all_limits w.free (w.same m) g) ≡ true → (no_limit n || first_limits (w.same m) g) ≡ true
    all_to_first m None g h = refl
    all_to_first m (Some n) g h = all_first w.free (w.same m) g h

    -- what is left can be: so can what was there, where the limit that the token exceeds, if any, may be exceeded
    pub exact_back : {Q : Allowed} (g : Grammar N) (l : Lexeme) (o : Option Rule) (a : Grammar N) (ts rest : List Lexeme) → IsClear g → single g ≡ true → next r g l.symbol ≡ goes o a → AllowedBy Q o l.place → CanBe r Q a ts rest → CanBe r Q g (l ∷ ts) rest
    exact_back empty l o a ts rest c h e f b = absurd cc
    exact_back {Q = Q} (one k) l o a ts rest c h e f b =
        let t = taken_by (is_of k l.symbol) empty refuses o a (λ f. cc) e in
        let d = subst (λ (x : Grammar N). CanBe r Q x ts rest) t.2 b in
        record { value = says k l; is = subst (λ (x : List Lexeme). Derives r Q (one k) (l ∷ ts) (says k l) x) (of_empty r d.is) (is_one l refl t.0) }
    exact_back {Q = Q} (seq g k) l o a ts rest c h e f b =
        let v = and_parts (single g) (single k) h in
        elim (followed_by (next r g l.symbol) k (next r k l.symbol) o a e) [
          | by_first {b = p} i j ↦
              let d = subst (λ (x : Grammar N). CanBe r Q x ts rest) j b in
              let s = split r d.is in
              let u = exact_back {Q = Q} g l o p ts s.mid c.1 v.0 i f (record { value = d.value.0; is = s.one }) in
              record { value = (u.value, d.value.1); is = in_turn u.is s.two }
          | by_second i j ↦
              let u = without r {Q = Q} g l.symbol c.1 i (l ∷ ts) in
              let m = exact_back {Q = Q} k l o a ts rest c.2 v.1 j f b in
              record { value = (u.value, m.value); is = in_turn u.is m.is }
        ]
    exact_back {Q = Q} (alt g k) l o a ts rest c h e f b =
        let v = and_parts (single g) (single k) h in
        elim (either_by (next r g l.symbol) (next r k l.symbol) o a e) [
          | inl i ↦ let u = exact_back {Q = Q} g l o a ts rest c.2 v.0 i f b in record { value = inl u.value; is = the_first u.is }
          | inr i ↦ let u = exact_back {Q = Q} k l o a ts rest c.3 v.1 i f b in record { value = inr u.value; is = the_second u.is }
        ]
    exact_back {Q = Q} (many m n g) l o a ts rest c h e f b =
        let v = and_parts (no_limit n || first_limits (w.same m) g) (single g) h in
        let p = repeated_by (limited (next r g l.symbol) m (is_full n)) (many m (less n) g) o a e in
        let q = limited_by (next r g l.symbol) m (is_full n) o p.0 p.1 in
        let d = subst (λ (x : Grammar N). CanBe r Q x ts rest) p.2 b in
        let s = split r d.is in
        let k = exact_back {Q = Q} g l q.0 p.0 ts s.mid c.2 v.1 q.1 (under Q (is_full n) m q.0 o l.place q.2 f) (record { value = d.value.0; is = s.one }) in
        record { value = k.value ∷ d.value.1; is = one_of_many (exactly_room Q (is_full n) m q.0 o l.place q.2 f (one_rule m n g l.symbol q.0 p.0 v.0 q.1)) k.is s.two }
    exact_back {Q = Q} (more m n k g) l o a ts rest c h e f b =
        let t = taken_by (is_of k l.symbol) (seq (within m n g) (more m (less n) k g)) skips o a (λ f. cc) e in
        let d = subst (λ (x : Grammar N). CanBe r Q x ts rest) t.2 b in
        let s = split r d.is in
        record { value = d.value.0 ∷ d.value.1; is = one_more l refl t.0 s.one s.two }
    exact_back {Q = Q} (within m n g) l o a ts rest c h e f b =
        let v = and_parts (no_limit n || first_limits (w.same m) g) (single g) h in
        let q = limited_by (next r g l.symbol) m (is_full n) o a e in
        let k = exact_back {Q = Q} g l q.0 a ts rest c.1 v.1 q.1 (under Q (is_full n) m q.0 o l.place q.2 f) b in
        record { value = k.value; is = with_room (exactly_room Q (is_full n) m q.0 o l.place q.2 f (one_rule m n g l.symbol q.0 a v.0 q.1)) k.is }
    exact_back {Q = Q} (short m n g) l o a ts rest c h e f b =
        let v = and_parts (no_limit n || all_limits w.free (w.same m) g) (single g) h in
        let q = clipped_by (next r g l.symbol) m n o a e in
        let d = unshort r (subst (λ (x : Grammar N). CanBe r Q x ts rest) q.4 b) in
        let k = exact_back {Q = Q} g l q.0 q.1 ts rest c v.1 q.2 (under Q (is_full n) m q.0 o l.place q.3 f) (record { value = d.value; is = d.is }) in
        record { value = k.value; is = in_short (a_token l refl (exactly_room Q (is_full n) m q.0 o l.place q.3 f (one_rule m n g l.symbol q.0 q.1 (all_to_first m n g v.0) q.2)) d.few) k.is }
    exact_back {Q = Q} (after k n) l o a ts rest c h e f b =
        let t = taken_by (is_of k l.symbol) (r.rule n) refuses o a (λ f. cc) e in
        let d = subst (λ (x : Grammar N). CanBe r Q x ts rest) t.2 b in
        record { value = r.make n d.value; is = by_rule l refl t.0 d.is refl }

    pub single_along : {g a : Grammar N} {ts : List Lexeme} → Goes r g ts a → single g ≡ true → single a ≡ true
    single_along here h = h
    single_along (further {g = g} {a = a} {t = t} n m) h = single_along m (single_kept g t.symbol None a h n)

    -- a token at which it stops can be taken, where its limit may be exceeded there
    with_token : AreClear r → {Q : Allowed} {g a d : Grammar N} (front : List Lexeme) (t : Lexeme) (e : Rule) → IsClear g → single g ≡ true → Goes r g front a → next r a t.symbol ≡ goes (Some e) d → Q e t.place → ((x : Rule) (p : Place) → p ≡ other r t.place → Q x p) → CanEnd r Q g (front ++ t ∷ [])
    with_token z {Q} {g} {a} {d} front t e c s m n q v =
        let k = ends r (other r t.place) z d (kept r z a t.symbol (Some e) d (clear_along r z m c) n).clear in
        let b = exact_back {Q = Q} a t (Some e) d (k.added ++ []) [] (clear_along r z m c) (single_along m s) n q (record { value = k.value; is = wider r v (k.is []) }) in
        let all = back_along r z {Q = Q} m c (t ∷ (k.added ++ [])) [] b in
        record { more = k.added ++ []; value = all.value; is = subst (λ (x : List Lexeme). Derives r Q g x all.value []) (sym (append_assoc front (t ∷ []) (k.added ++ []))) all.is }

    rule_at : AreClear r → {g a : Grammar N} (front : List Lexeme) (t : Lexeme) (e f : Rule) → IsClear g → single g ≡ true → Goes r g front a → Halted r a t e → IsFaultAt r g front t f → (e ≡ f → ⊥) → ⊥
    rule_at z front t e f c s m (refused w n) (unexpected v k) d = d w
    rule_at z front t e f c s m (refused w n) (excess v k) d = no_way r n (step r (step_along r z {Q = anywhere} m c (t ∷ v.more) (there r front t v)).is (clear_along r z m c) t v.more refl)
    rule_at z front t e f c s m (exceeded {a = b} n) (unexpected v k) d = k (with_token z {Q = anywhere} front t e c s m n tt (λ x p i. tt))
    rule_at z front t e f c s m (exceeded {a = b} n) (excess v k) d = k (with_token z {Q = but_at f t.place} front t e c s m n (λ i j. d i) (λ x p i u j. other_differs r t.place p i j))

    -- it goes through all tokens
    record GoesOn (g : Grammar N) (ts : List Lexeme) : Type 0 where
      left : Grammar N
      by : Goes r g ts left

    on_by : (g : Grammar N) (l : Lexeme) (ts : List Lexeme) (k : Next N) → next r g l.symbol ≡ k → stopped r k (λ a. stop r a ts) l.place ≡ on → ((a : Grammar N) → stop r a ts ≡ on → GoesOn a ts) → GoesOn g (l ∷ ts)
    on_by g l ts (goes None a) e s k = let h = k a s in record { left = h.left; by = further e h.by }
    on_by g l ts (goes (Some f) a) e s k = absurd cc
    on_by g l ts skips e s k = absurd cc
    on_by g l ts refuses e s k = absurd cc

    goes_on : (g : Grammar N) (ts : List Lexeme) → stop r g ts ≡ on → GoesOn g ts
    goes_on g [] s = record { left = g; by = here }
    goes_on g (l ∷ ts) s = on_by g l ts (next r g l.symbol) refl s (λ a i. goes_on a ts i)

    -- a first fault is by the rule by which it stops
    pub stops_by : AreClear r → (g : Grammar N) (ts : List Lexeme) (f : Rule) (q : Place) → IsClear g → single g ≡ true → IsFirstFault r g ts f q → (k : Stop) → stop r g ts ≡ k → k ≡ at f q
    stops_by z g ts f q c s b on e = let h = goes_on g ts e in absurd (no_fault r (λ p. completed r z h.by c p) b.before b.token b.rest f b.parts b.fault)
    stops_by z g ts f q c s b (at o p) e = equal (stable o f (λ n. go n (order h.before b.before h.token b.token h.rest b.rest (sym h.parts ∙ b.parts)))) (one_place first b)
      where
        h : Halts r g ts o p
        h = halts_of r g ts o p e

        first : IsFirstFault r g ts o p
        first = first_fault r z g ts o p c e

        equal : o ≡ f → p ≡ q → at o p ≡ at f q
        equal i j = ap (λ x. at x p) i ∙ ap (λ x. at f x) j

        go : (o ≡ f → ⊥) → Order h.before b.before h.token b.token → ⊥
        go n (same i j) = rule_at z h.before h.token o f c s h.goes_there h.halts (subst (λ (x : List Lexeme). IsFaultAt r g x h.token f) (sym i) (subst (λ (t : Lexeme). IsFaultAt r g b.before t f) (sym j) b.fault)) n
        go n (before m i) = b.first h.before h.token m o i (fault_there r z c h.goes_there h.halts)
        go n (behind m i) = no_fault r (λ p. completed r z h.goes_there c p) b.before b.token m f i b.fault

    -- there is one first fault at most
    pub one_fault_rule : AreClear r → (g : Grammar N) (ts : List Lexeme) (e f : Rule) (p q : Place) → IsClear g → single g ≡ true → IsFirstFault r g ts e p → IsFirstFault r g ts f q → e ≡ f
    one_fault_rule z g ts e f p q c s a b =
        let i : at e p ≡ at f q = sym (stops_by z g ts e p c s a (stop r g ts) refl) ∙ stops_by z g ts f q c s b (stop r g ts) refl in
        cc
