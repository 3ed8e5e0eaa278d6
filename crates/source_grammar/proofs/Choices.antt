-- One of two parts, a part or nothing, and two ways to say one part.
use Rattle.std.proofs.Common.{◌≡◌, ◌⊎◌, inl, inr, ℕ, true, List, [], ◌∷◌, ◌++◌, Option, Some, None, ap, refl, sym, ◌∙◌, subst}
use Rattle.chor_base.specs.declared.rule.Place.{Place}
use Rattle.chor_base.specs.declared.rule.Rule.{Rule}
use Rattle.chor_base.specs.declared.rule.Rule.TheVariants.{P1}
use Rattle.chor_base.specs.declared.rule.Denied.{Denied}
use Rattle.chor_lexer.specs.declared.token.Token.{Token}
use Rattle.chor_lexer.specs.Tokens.{is_ended}
use Rattle.source_grammar.specs.Symbols.{Allowed, anywhere, but_at, Part, Further, Ends, AreWhole, Fits, Completes, IsPart, SameFirst, Only, Reads, Reason, wrong, excess, Stops, Halts, Choice, left, right, OneOf, the_first, the_second, AtMost, without, with, IsStable, Among, AreDistinct, Head, Begins, Alike, Leads}
use Rattle.source_grammar.proofs.Wholes.{whole_first, first_of_cons, same_first, same_first_of, same_first_after, same_first_back, head_there, head_back, head_stays, head_known, head_among, ends_no_head, ends_among, stops_as, halts_as}

-- ---- two ways to say one part

pub completes_alike : {A B : Type 0} {R : Part A} {S : Part B} {f : B → A} {Q : Allowed} {p : Place} {names : List (List ℕ)} {ts : List Token} → Alike R S f → Completes S Q p names ts → Completes R Q p names ts
completes_alike {f = f} a c = record { added = c.added; there = c.there; value = f c.value; is = λ more. a.from (c.is more) }

one_alike : {A B : Type 0} {R : Part A} {S : Part B} {f : B → A} {C : Further} {Q Q' : Allowed} {names : List (List ℕ)} {ts : List Token} {x y : A} {rest rest' : List Token} → IsPart S C → Alike R S f → R Q names ts x rest → R Q' names ts y rest' → Ends C names rest → Ends C names rest' → (x ≡ y) × (rest ≡ rest')
one_alike {f = f} p a h k e g =
    let s = a.to h in
    let t = a.to k in
    let one = p.one s.is t.is e g in
    (s.same ∙ ap f one.0 ∙ sym t.same, one.1)

fits_alike : {A B : Type 0} {R : Part A} {S : Part B} {f : B → A} {C : Further} {Q : Allowed} {names : List (List ℕ)} {ts : List Token} {x : A} {rest : List Token} → IsPart S C → Alike R S f → R Q names ts x rest → Fits R Q names ts x rest
fits_alike {R = R} {Q = Q} {names = names} p a h =
    let s = a.to h in
    let g = p.fits s.is in
    record {
      front = g.front;
      parts = g.parts;
      again = λ words more. subst (λ y. R Q (names ++ words) (g.front ++ more) y more) (sym s.same) (a.from (g.again words more));
    }

wider_alike : {A B : Type 0} {R : Part A} {S : Part B} {f : B → A} {C : Further} {Q Q' : Allowed} {names : List (List ℕ)} {ts : List Token} {x : A} {rest : List Token} → IsPart S C → Alike R S f → ((rule : Rule) (p : Place) → Q rule p → Q' rule p) → R Q names ts x rest → R Q' names ts x rest
wider_alike {R = R} {Q' = Q'} {names = names} {ts = ts} {rest = rest} p a w h =
    let s = a.to h in
    subst (λ y. R Q' names ts y rest) (sym s.same) (a.from (p.wider w s.is))

pub same_part : {A B : Type 0} {R : Part A} {S : Part B} {f : B → A} {C : Further} → IsPart S C → Alike R S f → IsPart R C
same_part p a = record {
  fits = λ h. fits_alike p a h;
  wider = λ w h. wider_alike p a w h;
  one = λ h k e g. one_alike p a h k e g;
  some = λ place names. completes_alike a (p.some place names);
  ended = λ h e. p.ended (a.to h).is e;
  back = p.back;
}

reason_alike : {A B : Type 0} {R : Part A} {S : Part B} {f : B → A} {names : List (List ℕ)} {before : List Token} {t : Token} {rule : Rule} → Alike R S f → Reason S names before t rule → Reason R names before t rule
reason_alike a wrong = wrong
reason_alike a (excess c) = excess (λ p. completes_alike a (c p))

stops_alike : {A B : Type 0} {R : Part A} {S : Part B} {f : B → A} {C : Further} {names : List (List ℕ)} {ts : List Token} {rule : Rule} {place : Place} → Alike R S f → Stops S C names ts rule place → Stops R C names ts rule place
stops_alike a s = stops_as s (λ p. completes_alike a (s.viable p)) (λ words more y end k e. let h = a.to k in s.never words more h.value end h.is e) (reason_alike a s.reason)

pub same_halts : {A B : Type 0} {R : Part A} {S : Part B} {f : B → A} {C : Further} {names : List (List ℕ)} {ts : List Token} {d : Denied} → Alike R S f → Halts S C names ts d → Halts R C names ts d
same_halts a h = record { by = λ r e w. let s = h.by r e w in (stops_alike a s.0, s.1) }

pub same_reads : {A B : Type 0} {R : Part A} {S : Part B} {f : B → A} {C : Further} {names : List (List ℕ)} {ts : List Token} {y : B} {rest : List Token} → Alike R S f → Reads S C names ts y rest → Reads R C names ts (f y) rest
same_reads {f = f} a r = record {
  is = a.from r.is;
  only = λ w.
      let o = r.only w in
      record {
        front = o.front;
        parts = o.parts;
        by = λ words more x end s k e.
            let h = a.to k in
            let one = o.by words more h.value end s h.is e in
            (h.same ∙ ap f one.0, one.1);
      };
}

pub same_leads : {A B : Type 0} {R : Part A} {S : Part B} {f : B → A} {C : Further} {names : List (List ℕ)} {ts : List Token} → Alike R S f → Leads R C names ts S C ts f
same_leads a = record { reads = λ y rest r. same_reads a r; halts = λ d h. same_halts a h }

-- ---- more tokens with which a part could go on

pub more_further : {A : Type 0} {R : Part A} {C D : Further} → IsPart R C → Among C D → IsStable D → IsPart R D
more_further p a s = record {
  fits = λ h. p.fits h;
  wider = λ w h. p.wider w h;
  one = λ h k e g. p.one h k (ends_among a e) (ends_among a g);
  some = p.some;
  ended = λ h e. p.ended h e;
  back = s.back;
}

pub halts_further : {A : Type 0} {R : Part A} {C D : Further} {names : List (List ℕ)} {ts : List Token} {d : Denied} → Among C D → Halts R C names ts d → Halts R D names ts d
halts_further a h = record {
  by = λ r e w.
      let s = h.by r e w in (
        record {
          before = s.0.before;
          token = s.0.token;
          rest = s.0.rest;
          parts = s.0.parts;
          at = s.0.at;
          viable = s.0.viable;
          never = λ words more y end k g. s.0.never words more y end k (ends_among a g);
          reason = s.0.reason;
        },
        s.1,
      );
}

pub reads_further : {A : Type 0} {R : Part A} {C D : Further} {names : List (List ℕ)} {ts : List Token} {x : A} {rest : List Token} → Among C D → Reads R C names ts x rest → Reads R D names ts x rest
reads_further a r = record {
  is = r.is;
  only = λ w.
      let o = r.only w in
      record { front = o.front; parts = o.parts; by = λ words more y end s k e. o.by words more y end s k (ends_among a e) };
}

-- ---- where a part can't begin

pub wrong_start : {A : Type 0} {R : Part A} {C F : Further} {names : List (List ℕ)} {ts : List Token} → IsPart R C → Begins R F → IsStable F → (Head F names ts → ⊥) → (place : Place) → ((t : Token) (rest : List Token) → ts ≡ t ∷ rest → place ≡ t.place) → AreWhole names ts → Stops R C names ts P1 place
wrong_start {names = names} p b s n place at w =
    let f = whole_first w in
    record {
      before = [];
      token = f.token;
      rest = f.rest;
      parts = f.parts;
      at = at f.token f.rest f.parts;
      viable = λ q. p.some q names;
      never = λ words more y end k e. n (head_known words s w (head_back (same_first f.parts (same_first_of [] f.token f.rest more)) (b.by k)));
      reason = wrong;
    }

-- ---- one of two parts

complete_left : {A B : Type 0} {R : Part A} {S : Part B} {Q : Allowed} {p : Place} {names : List (List ℕ)} {ts : List Token} → Completes R Q p names ts → Completes (OneOf R S) Q p names ts
complete_left c = record { added = c.added; there = c.there; value = left c.value; is = λ more. the_first (c.is more) }

complete_right : {A B : Type 0} {R : Part A} {S : Part B} {Q : Allowed} {p : Place} {names : List (List ℕ)} {ts : List Token} → Completes S Q p names ts → Completes (OneOf R S) Q p names ts
complete_right c = record { added = c.added; there = c.there; value = right c.value; is = λ more. the_second (c.is more) }

pub both_heads : {F G : Further} {names : List (List ℕ)} {ts : List Token} → AreDistinct F G → Head F names ts → Head G names ts → ⊥
both_heads {F} {G} {names} d h k = d names k.token (subst (λ (t : Token). F names t) (first_of_cons (sym h.parts ∙ k.parts)) h.is) k.is

fits_choice : {A B : Type 0} {R : Part A} {S : Part B} {C : Further} {Q : Allowed} {names : List (List ℕ)} {ts : List Token} {x : Choice A B} {rest : List Token} → IsPart R C → IsPart S C → OneOf R S Q names ts x rest → Fits (OneOf R S) Q names ts x rest
fits_choice p q (the_first h) = let f = p.fits h in record { front = f.front; parts = f.parts; again = λ words more. the_first (f.again words more) }
fits_choice p q (the_second h) = let f = q.fits h in record { front = f.front; parts = f.parts; again = λ words more. the_second (f.again words more) }

wider_choice : {A B : Type 0} {R : Part A} {S : Part B} {C : Further} {Q Q' : Allowed} {names : List (List ℕ)} {ts : List Token} {x : Choice A B} {rest : List Token} → IsPart R C → IsPart S C → ((rule : Rule) (p : Place) → Q rule p → Q' rule p) → OneOf R S Q names ts x rest → OneOf R S Q' names ts x rest
wider_choice p q w (the_first h) = the_first (p.wider w h)
wider_choice p q w (the_second h) = the_second (q.wider w h)

one_choice : {A B : Type 0} {R : Part A} {S : Part B} {C F G : Further} {Q Q' : Allowed} {names : List (List ℕ)} {ts : List Token} {x y : Choice A B} {rest rest' : List Token} → IsPart R C → IsPart S C → Begins R F → Begins S G → AreDistinct F G → OneOf R S Q names ts x rest → OneOf R S Q' names ts y rest' → Ends C names rest → Ends C names rest' → (x ≡ y) × (rest ≡ rest')
one_choice p q b c d (the_first h) (the_first k) e f = let o = p.one h k e f in (ap left o.0, o.1)
one_choice p q b c d (the_first h) (the_second k) e f = absurd (both_heads d (b.by h) (c.by k))
one_choice p q b c d (the_second h) (the_first k) e f = absurd (both_heads d (b.by k) (c.by h))
one_choice p q b c d (the_second h) (the_second k) e f = let o = q.one h k e f in (ap right o.0, o.1)

ended_choice : {A B : Type 0} {R : Part A} {S : Part B} {C : Further} {Q : Allowed} {names : List (List ℕ)} {ts : List Token} {x : Choice A B} {rest : List Token} → IsPart R C → IsPart S C → OneOf R S Q names ts x rest → is_ended ts ≡ true → is_ended rest ≡ true
ended_choice p q (the_first h) e = p.ended h e
ended_choice p q (the_second h) e = q.ended h e

pub choice_part : {A B : Type 0} {R : Part A} {S : Part B} {C F G : Further} → IsPart R C → IsPart S C → Begins R F → Begins S G → AreDistinct F G → IsPart (OneOf R S) C
choice_part p q b c d = record {
  fits = λ h. fits_choice p q h;
  wider = λ w h. wider_choice p q w h;
  one = λ h k e f. one_choice p q b c d h k e f;
  some = λ place names. complete_left (p.some place names);
  ended = λ h e. ended_choice p q h e;
  back = p.back;
}

-- it begins as the one or the other
pub choice_begins : {A B : Type 0} {R : Part A} {S : Part B} {F G : Further} → Begins R F → Begins S G → Begins (OneOf R S) (λ names t. F names t ⊎ G names t)
choice_begins b c = record { by = λ h. go b c h }
  where
    go : {A B : Type 0} {R : Part A} {S : Part B} {F G : Further} {Q : Allowed} {names : List (List ℕ)} {ts : List Token} {x : Choice A B} {rest : List Token} → Begins R F → Begins S G → OneOf R S Q names ts x rest → Head (λ ns t. F ns t ⊎ G ns t) names ts
    go b c (the_first h) = let k = b.by h in record { token = k.token; rest = k.rest; parts = k.parts; is = inl k.is }
    go b c (the_second h) = let k = c.by h in record { token = k.token; rest = k.rest; parts = k.parts; is = inr k.is }

reason_left : {A B : Type 0} {R : Part A} {S : Part B} {names : List (List ℕ)} {before : List Token} {t : Token} {rule : Rule} → Reason R names before t rule → Reason (OneOf R S) names before t rule
reason_left wrong = wrong
reason_left (excess c) = excess (λ p. complete_left (c p))

reason_right : {A B : Type 0} {R : Part A} {S : Part B} {names : List (List ℕ)} {before : List Token} {t : Token} {rule : Rule} → Reason S names before t rule → Reason (OneOf R S) names before t rule
reason_right wrong = wrong
reason_right (excess c) = excess (λ p. complete_right (c p))

-- where one stops that the other can't begin as
never_left : {A B : Type 0} {R : Part A} {S : Part B} {C F G : Further} {names : List (List ℕ)} {ts : List Token} {rule : Rule} {place : Place} → (s : Stops R C names ts rule place) → Begins S G → IsStable F → AreDistinct F G → Head F names ts → (words : List (List ℕ)) (more : List Token) (y : Choice A B) (end : List Token) → OneOf R S (but_at rule place) (names ++ words) (s.before ++ s.token ∷ more) y end → Ends C (names ++ words) end → ⊥
never_left s c f d h words more (left y) end (the_first k) e = s.never words more y end k e
never_left s c f d h words more (right y) end (the_second k) e = both_heads d (head_there (same_first s.parts (same_first_of s.before s.token s.rest more)) (head_stays words f h)) (c.by k)

never_right : {A B : Type 0} {R : Part A} {S : Part B} {C F : Further} {names : List (List ℕ)} {ts : List Token} {rule : Rule} {place : Place} → (s : Stops S C names ts rule place) → Begins R F → IsStable F → AreWhole names ts → (Head F names ts → ⊥) → (words : List (List ℕ)) (more : List Token) (y : Choice A B) (end : List Token) → OneOf R S (but_at rule place) (names ++ words) (s.before ++ s.token ∷ more) y end → Ends C (names ++ words) end → ⊥
never_right s b f w n words more (left y) end (the_first k) e = n (head_known words f w (head_back (same_first s.parts (same_first_of s.before s.token s.rest more)) (b.by k)))
never_right s b f w n words more (right y) end (the_second k) e = s.never words more y end k e

pub first_halts : {A B : Type 0} {R : Part A} {S : Part B} {C F G : Further} {names : List (List ℕ)} {ts : List Token} {d : Denied} → Begins S G → IsStable F → AreDistinct F G → Head F names ts → Halts R C names ts d → Halts (OneOf R S) C names ts d
first_halts c f g h k = halts_as
    (λ rule place w s. stops_as s (λ p. complete_left (s.viable p))
    (λ words more y end m o. never_left s c f g h words more y end m o)
    (reason_left s.reason))
    k

pub second_halts : {A B : Type 0} {R : Part A} {S : Part B} {C F : Further} {names : List (List ℕ)} {ts : List Token} {d : Denied} → Begins R F → IsStable F → (Head F names ts → ⊥) → Halts S C names ts d → Halts (OneOf R S) C names ts d
second_halts b f n k = halts_as
    (λ rule place w s. stops_as s (λ p. complete_right (s.viable p))
    (λ words more y end m o. never_right s b f w n words more y end m o)
    (reason_right s.reason))
    k

only_left : {A B : Type 0} {R : Part A} {S : Part B} {C F G : Further} {names : List (List ℕ)} {ts : List Token} {x : A} {rest : List Token} → (o : Only R C names ts x rest) → Begins S G → IsStable F → AreDistinct F G → Head F names ts → (words : List (List ℕ)) (more : List Token) (y : Choice A B) (end : List Token) → SameFirst rest more → OneOf R S anywhere (names ++ words) (o.front ++ more) y end → Ends C (names ++ words) end → (y ≡ left x) × (end ≡ more)
only_left o c f d h words more (left y) end s (the_first k) e = let one = o.by words more y end s k e in (ap left one.0, one.1)
only_left o c f d h words more (right y) end s (the_second k) e = absurd (both_heads d (head_there (same_first o.parts (same_first_after o.front s)) (head_stays words f h)) (c.by k))

only_right : {A B : Type 0} {R : Part A} {S : Part B} {C F : Further} {names : List (List ℕ)} {ts : List Token} {x : B} {rest : List Token} → (o : Only S C names ts x rest) → Begins R F → IsStable F → AreWhole names ts → (Head F names ts → ⊥) → (words : List (List ℕ)) (more : List Token) (y : Choice A B) (end : List Token) → SameFirst rest more → OneOf R S anywhere (names ++ words) (o.front ++ more) y end → Ends C (names ++ words) end → (y ≡ right x) × (end ≡ more)
only_right o b f w n words more (left y) end s (the_first k) e = absurd (n (head_known words f w (head_back (same_first o.parts (same_first_after o.front s)) (b.by k))))
only_right o b f w n words more (right y) end s (the_second k) e = let one = o.by words more y end s k e in (ap right one.0, one.1)

pub first_reads : {A B : Type 0} {R : Part A} {S : Part B} {C F G : Further} {names : List (List ℕ)} {ts : List Token} {x : A} {rest : List Token} → Begins S G → IsStable F → AreDistinct F G → Head F names ts → Reads R C names ts x rest → Reads (OneOf R S) C names ts (left x) rest
first_reads c f d h r = record {
  is = the_first r.is;
  only = λ w. let o = r.only w in record { front = o.front; parts = o.parts; by = λ words more y end s k e. only_left o c f d h words more y end s k e };
}

pub second_reads : {A B : Type 0} {R : Part A} {S : Part B} {C F : Further} {names : List (List ℕ)} {ts : List Token} {x : B} {rest : List Token} → Begins R F → IsStable F → (Head F names ts → ⊥) → Reads S C names ts x rest → Reads (OneOf R S) C names ts (right x) rest
second_reads b f n r = record {
  is = the_second r.is;
  only = λ w. let o = r.only w in record { front = o.front; parts = o.parts; by = λ words more y end s k e. only_right o b f w n words more y end s k e };
}

pub first_leads : {A B : Type 0} {R : Part A} {S : Part B} {C F G : Further} {names : List (List ℕ)} {ts : List Token} → Begins S G → IsStable F → AreDistinct F G → Head F names ts → Leads (OneOf R S) C names ts R C ts left
first_leads c f d h = record { reads = λ x rest r. first_reads c f d h r; halts = λ x k. first_halts c f d h k }

pub second_leads : {A B : Type 0} {R : Part A} {S : Part B} {C F : Further} {names : List (List ℕ)} {ts : List Token} → Begins R F → IsStable F → (Head F names ts → ⊥) → Leads (OneOf R S) C names ts S C ts right
second_leads b f n = record { reads = λ x rest r. second_reads b f n r; halts = λ x k. second_halts b f n k }

-- ---- a part or nothing

complete_with : {A : Type 0} {R : Part A} {Q : Allowed} {p : Place} {names : List (List ℕ)} {ts : List Token} → Completes R Q p names ts → Completes (AtMost R) Q p names ts
complete_with c = record { added = c.added; there = c.there; value = Some c.value; is = λ more. with (c.is more) }

fits_option : {A : Type 0} {R : Part A} {C : Further} {Q : Allowed} {names : List (List ℕ)} {ts : List Token} {x : Option A} {rest : List Token} → IsPart R C → AtMost R Q names ts x rest → Fits (AtMost R) Q names ts x rest
fits_option p without = record { front = []; parts = refl; again = λ words more. without }
fits_option p (with h) = let f = p.fits h in record { front = f.front; parts = f.parts; again = λ words more. with (f.again words more) }

wider_option : {A : Type 0} {R : Part A} {C : Further} {Q Q' : Allowed} {names : List (List ℕ)} {ts : List Token} {x : Option A} {rest : List Token} → IsPart R C → ((rule : Rule) (p : Place) → Q rule p → Q' rule p) → AtMost R Q names ts x rest → AtMost R Q' names ts x rest
wider_option p w without = without
wider_option p w (with h) = with (p.wider w h)

one_option : {A : Type 0} {R : Part A} {C D F : Further} {Q Q' : Allowed} {names : List (List ℕ)} {ts : List Token} {x y : Option A} {rest rest' : List Token} → IsPart R C → Begins R F → Among C D → Among F D → AtMost R Q names ts x rest → AtMost R Q' names ts y rest' → Ends D names rest → Ends D names rest' → (x ≡ y) × (rest ≡ rest')
one_option p b c f without without e g = (refl, refl)
one_option p b c f without (with k) e g = absurd (ends_no_head e (head_among f (b.by k)))
one_option p b c f (with h) without e g = absurd (ends_no_head g (head_among f (b.by h)))
one_option p b c f (with h) (with k) e g = let o = p.one h k (ends_among c e) (ends_among c g) in (ap Some o.0, o.1)

ended_option : {A : Type 0} {R : Part A} {C : Further} {Q : Allowed} {names : List (List ℕ)} {ts : List Token} {x : Option A} {rest : List Token} → IsPart R C → AtMost R Q names ts x rest → is_ended ts ≡ true → is_ended rest ≡ true
ended_option p without e = e
ended_option p (with h) e = p.ended h e

pub option_part : {A : Type 0} {R : Part A} {C D F : Further} → IsPart R C → Begins R F → Among C D → Among F D → IsStable D → IsPart (AtMost R) D
option_part p b c f s = record {
  fits = λ h. fits_option p h;
  wider = λ w h. wider_option p w h;
  one = λ h k e g. one_option p b c f h k e g;
  some = λ place names. record { added = []; there = tt; value = None; is = λ more. without };
  ended = λ h e. ended_option p h e;
  back = s.back;
}

reason_with : {A : Type 0} {R : Part A} {names : List (List ℕ)} {before : List Token} {t : Token} {rule : Rule} → Reason R names before t rule → Reason (AtMost R) names before t rule
reason_with wrong = wrong
reason_with (excess c) = excess (λ p. complete_with (c p))

never_with : {A : Type 0} {R : Part A} {C D F : Further} {names : List (List ℕ)} {ts : List Token} {rule : Rule} {place : Place} → (s : Stops R C names ts rule place) → IsStable F → Among C D → Among F D → Head F names ts → (words : List (List ℕ)) (more us : List Token) (y : Option A) (end : List Token) → us ≡ s.before ++ s.token ∷ more → AtMost R (but_at rule place) (names ++ words) us y end → Ends D (names ++ words) end → ⊥
never_with {names = names} s f c a h words more us None end m without e = ends_no_head e (head_among a (head_there (same_first s.parts (same_first_back (same_first_of s.before s.token s.rest more) m)) (head_stays words f h)))
never_with {R = R} {names = names} {rule = rule} {place = place} s f c a h words more us (Some y) end m (with k) e = s.never words more y end (subst (λ (l : List Token). R (but_at rule place) (names ++ words) l y end) m k) (ends_among c e)

pub option_halts : {A : Type 0} {R : Part A} {C D F : Further} {names : List (List ℕ)} {ts : List Token} {d : Denied} → IsStable F → Among C D → Among F D → Head F names ts → Halts R C names ts d → Halts (AtMost R) D names ts d
option_halts f c a h k = halts_as
    (λ rule place w s. stops_as s (λ p. complete_with (s.viable p))
    (λ words more y end m o. never_with s f c a h words more (s.before ++ s.token ∷ more) y end refl m o)
    (reason_with s.reason))
    k

only_with : {A : Type 0} {R : Part A} {C D F : Further} {names : List (List ℕ)} {ts : List Token} {x : A} {rest : List Token} → (o : Only R C names ts x rest) → IsStable F → Among C D → Among F D → Head F names ts → (words : List (List ℕ)) (more us : List Token) (y : Option A) (end : List Token) → us ≡ o.front ++ more → SameFirst rest more → AtMost R anywhere (names ++ words) us y end → Ends D (names ++ words) end → (y ≡ Some x) × (end ≡ more)
only_with o f c a h words more us None end m s without e = absurd (ends_no_head e (head_among a (head_there (same_first o.parts (same_first_back (same_first_after o.front s) m)) (head_stays words f h))))
only_with {R = R} {names = names} o f c a h words more us (Some y) end m s (with k) e =
    let one = o.by words more y end s (subst (λ (l : List Token). R anywhere (names ++ words) l y end) m k) (ends_among c e) in
    (ap Some one.0, one.1)

pub with_reads : {A : Type 0} {R : Part A} {C D F : Further} {names : List (List ℕ)} {ts : List Token} {x : A} {rest : List Token} → Begins R F → IsStable F → Among C D → Among F D → Reads R C names ts x rest → Reads (AtMost R) D names ts (Some x) rest
with_reads b f c a r = record {
  is = with r.is;
  only = λ w. let o = r.only w in record { front = o.front; parts = o.parts; by = λ words more y end s k e. only_with o f c a (b.by r.is) words more (o.front ++ more) y end refl s k e };
}

only_without : {A : Type 0} {R : Part A} {F : Further} {names : List (List ℕ)} {ts : List Token} → Begins R F → IsStable F → AreWhole names ts → (Head F names ts → ⊥) → (words : List (List ℕ)) (more : List Token) (y : Option A) (end : List Token) → SameFirst ts more → AtMost R anywhere (names ++ words) more y end → (y ≡ None) × (end ≡ more)
only_without b f w n words more None end s without = (refl, refl)
only_without b f w n words more (Some y) end s (with k) = absurd (n (head_known words f w (head_back s (b.by k))))

pub without_reads : {A : Type 0} {R : Part A} {D F : Further} {names : List (List ℕ)} {ts : List Token} → Begins R F → IsStable F → (Head F names ts → ⊥) → Reads (AtMost R) D names ts None ts
without_reads b f n = record {
  is = without;
  only = λ w. record { front = []; parts = refl; by = λ words more y end s k e. only_without b f w n words more y end s k };
}

pub option_leads : {A : Type 0} {R : Part A} {C D F : Further} {names : List (List ℕ)} {ts : List Token} → Begins R F → IsStable F → Among C D → Among F D → Head F names ts → Leads (AtMost R) D names ts R C ts Some
option_leads b f c a h = record { reads = λ x rest r. with_reads b f c a r; halts = λ d k. option_halts f c a h k }
