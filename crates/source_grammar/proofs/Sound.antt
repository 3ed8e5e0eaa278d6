-- What is asked of a part, for one derivation: parts that contain themselves are parts by recursion on what is derived.
use Rattle.std.proofs.Common.{◌≡◌, ℕ, true, List, [], ◌++◌, sym, ap, ◌∙◌, subst, append_assoc}
use Rattle.chor_base.specs.declared.rule.Place.{Place}
use Rattle.chor_base.specs.declared.rule.Rule.{Rule}
use Rattle.chor_lexer.specs.declared.token.Token.{Token}
use Rattle.chor_lexer.specs.Tokens.{IsKnown, is_ended}
use Rattle.source_grammar.specs.Symbols.{Allowed, Part, Further, Ends, Fits, Completes, only_at, IsPart, Apart, Begins, AreDistinct, Room, Within, Alike}
use Rattle.source_grammar.specs.Values.{After, Either, by_first, by_second, StandsAt, At}
use Rattle.source_grammar.proofs.Choices.{both_heads}
use Rattle.source_grammar.proofs.Starts.{allows_front, allows_wider}
use Rattle.source_grammar.proofs.Values.{fits_at, same_place, begun}

pub record Sound {A : Type 0} (R : Part A) (C : Further) (Q : Allowed) (names : List (List ℕ)) (ts : List Token) (x : A) (rest : List Token) : Type 1 where
  pub is : R Q names ts x rest
  pub fits : Fits R Q names ts x rest
  pub wider : {Q' : Allowed} → ((rule : Rule) (p : Place) → Q rule p → Q' rule p) → R Q' names ts x rest
  pub one : {Q' : Allowed} {y : A} {rest' : List Token} → R Q' names ts y rest' → Ends C names rest → Ends C names rest' → (x ≡ y) × (rest ≡ rest')
  pub ended : is_ended ts ≡ true → is_ended rest ≡ true

pub sound_of : {A : Type 0} {R : Part A} {C : Further} {Q : Allowed} {names : List (List ℕ)} {ts : List Token} {x : A} {rest : List Token} → IsPart R C → R Q names ts x rest → Sound R C Q names ts x rest
sound_of p h = record { is = h; fits = p.fits h; wider = λ w. p.wider w h; one = λ k e f. p.one h k e f; ended = p.ended h }

one_left : {A : Type 0} {R S : Part A} {C F G : Further} {Q Q' : Allowed} {names : List (List ℕ)} {ts : List Token} {x y : A} {rest rest' : List Token} → Begins R F → Begins S G → AreDistinct F G → Sound R C Q names ts x rest → Either R S Q' names ts y rest' → Ends C names rest → Ends C names rest' → (x ≡ y) × (rest ≡ rest')
one_left b c d r (by_first k) e f = r.one k e f
one_left b c d r (by_second k) e f = absurd (both_heads d (b.by r.is) (c.by k))

one_right : {A : Type 0} {R S : Part A} {C F G : Further} {Q Q' : Allowed} {names : List (List ℕ)} {ts : List Token} {x y : A} {rest rest' : List Token} → Begins R F → Begins S G → AreDistinct F G → Sound S C Q names ts x rest → Either R S Q' names ts y rest' → Ends C names rest → Ends C names rest' → (x ≡ y) × (rest ≡ rest')
one_right b c d s (by_first k) e f = absurd (both_heads d (b.by k) (c.by s.is))
one_right b c d s (by_second k) e f = s.one k e f

pub sound_first : {A : Type 0} {R S : Part A} {C F G : Further} {Q : Allowed} {names : List (List ℕ)} {ts : List Token} {x : A} {rest : List Token} → Begins R F → Begins S G → AreDistinct F G → Sound R C Q names ts x rest → Sound (Either R S) C Q names ts x rest
sound_first b c d r = record {
  is = by_first r.is;
  fits = record { front = r.fits.front; parts = r.fits.parts; again = λ words more. by_first (r.fits.again words more) };
  wider = λ w. by_first (r.wider w);
  one = λ k e f. one_left b c d r k e f;
  ended = r.ended;
}

pub sound_second : {A : Type 0} {R S : Part A} {C F G : Further} {Q : Allowed} {names : List (List ℕ)} {ts : List Token} {x : A} {rest : List Token} → Begins R F → Begins S G → AreDistinct F G → Sound S C Q names ts x rest → Sound (Either R S) C Q names ts x rest
sound_second b c d s = record {
  is = by_second s.is;
  fits = record { front = s.fits.front; parts = s.fits.parts; again = λ words more. by_second (s.fits.again words more) };
  wider = λ w. by_second (s.wider w);
  one = λ k e f. one_right b c d s k e f;
  ended = s.ended;
}

pub sound_within : {A : Type 0} {rule : Rule} {n : ℕ} {R : Part A} {C F : Further} {Q : Allowed} {names : List (List ℕ)} {ts : List Token} {x : A} {rest : List Token} → Begins R F → Room Q rule n ts → Sound R C Q names ts x rest → Sound (Within rule n R) C Q names ts x rest
sound_within {rule = rule} {Q = Q} {ts = ts} {rest = rest} b room r = record {
  is = record { room = room; is = r.is };
  fits = record {
    front = r.fits.front;
    parts = r.fits.parts;
    again = λ words more. record {
      room = λ e. allows_front Q rule r.fits.front rest more ts r.fits.parts (b.by (r.fits.again words [])) (room e);
      is = r.fits.again words more;
    };
  };
  wider = λ w. record { room = λ e. allows_wider rule ts w (room e); is = r.wider w };
  one = λ k e f. r.one k.is e f;
  ended = r.ended;
}

pub sound_after : {A B : Type 0} {R : Part A} {S : A → Part B} {C D : Further} {Q : Allowed} {names : List (List ℕ)} {ts : List Token} {x : A} {y : B} {mid rest : List Token} → ((z : A) → Apart C (S z) D) → Sound R C Q names ts x mid → Sound (S x) D Q names mid y rest → Sound (After R S) D Q names ts y rest
sound_after {A} {B} {R} {S} {C} {D} {Q} {names} {ts} {x} {y} {mid} {rest} a r s = record {
  is = record { said = x; mid = mid; first = r.is; second = s.is };
  fits = record {
    front = r.fits.front ++ s.fits.front;
    parts = r.fits.parts ∙ ap (λ (l : List Token). r.fits.front ++ l) s.fits.parts ∙ sym (append_assoc r.fits.front s.fits.front rest);
    again = λ words more. record {
      said = x;
      mid = s.fits.front ++ more;
      first = subst (λ (l : List Token). R Q (names ++ words) l x (s.fits.front ++ more)) (sym (append_assoc r.fits.front s.fits.front more)) (r.fits.again words (s.fits.front ++ more));
      second = s.fits.again words more;
    };
  };
  wider = λ w. record { said = x; mid = mid; first = r.wider w; second = s.wider w };
  one = λ {Q' = Q'} {y = v} {rest' = rest'} k e f.
      let first = r.one k.first ((a x).by s.is e) ((a k.said).by k.second f) in
      let there : S k.said Q' names mid v rest' = subst (λ (l : List Token). S k.said Q' names l v rest') (sym first.1) k.second in
      s.one (subst (λ (z : A). S z Q' names mid v rest') (sym first.0) there) e f;
  ended = λ e. s.ended (r.ended e);
}

pub sound_at : {A : Type 0} {S : Place → Part A} {C F : Further} {Q : Allowed} {names : List (List ℕ)} {ts : List Token} {p : Place} {x : A} {rest : List Token} → Begins (S p) F → StandsAt p ts → Sound (S p) C Q names ts x rest → Sound (At S) C Q names ts x rest
sound_at {S = S} {names = names} {ts = ts} {p = p} b s r = record {
  is = record { place = p; at = s; is = r.is };
  fits = fits_at b s r.fits;
  wider = λ w. record { place = p; at = s; is = r.wider w };
  one = λ {Q' = Q'} {y = y} {rest' = rest'} k e f. r.one (subst (λ (q : Place). S q Q' names ts y rest') (sym (same_place s k.at (begun s))) k.is) e f;
  ended = r.ended;
}

pub sound_alike : {A B : Type 0} {R : Part A} {S : Part B} {f : B → A} {C : Further} {Q : Allowed} {names : List (List ℕ)} {ts : List Token} {y : B} {rest : List Token} → Alike R S f → Sound S C Q names ts y rest → Sound R C Q names ts (f y) rest
sound_alike {f = f} a s = record {
  is = a.from s.is;
  fits = record { front = s.fits.front; parts = s.fits.parts; again = λ words more. a.from (s.fits.again words more) };
  wider = λ w. a.from (s.wider w);
  one = λ k e g. let h = a.to k in let o = s.one h.is e g in (ap f o.0 ∙ sym h.same, o.1);
  ended = s.ended;
}

-- where each derivation is sound
pub sound_part : {A : Type 0} {R : Part A} {C : Further} → ((Q : Allowed) (names : List (List ℕ)) (ts : List Token) (x : A) (rest : List Token) → R Q names ts x rest → Sound R C Q names ts x rest) → ((p : Place) (names : List (List ℕ)) → Completes R (only_at p) p names []) → ((names words : List (List ℕ)) (t : Token) → IsKnown names t → C (names ++ words) t → C names t) → IsPart R C
sound_part s c b = record {
  fits = λ h. (s _ _ _ _ _ h).fits;
  wider = λ w h. (s _ _ _ _ _ h).wider w;
  one = λ h k e f. (s _ _ _ _ _ h).one k e f;
  some = c;
  ended = λ h e. (s _ _ _ _ _ h).ended e;
  back = b;
}
