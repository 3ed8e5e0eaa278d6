-- Tokens that are whole, and first tokens.
use Rattle.std.proofs.Common.{◌≡◌, ℕ, true, List, [], ◌∷◌, ◌++◌, refl, sym, ◌∙◌, subst}
use Rattle.std.specs.List.{AllByRecursion}
use Rattle.chor_base.specs.declared.rule.Denied.{Denied}
use Rattle.chor_base.specs.declared.rule.Place.{Place}
use Rattle.chor_base.specs.declared.rule.Rule.{Rule}
use Rattle.chor_lexer.specs.declared.token.Token.{Token}
use Rattle.chor_lexer.specs.Tokens.{IsKnown, is_ended}
use Rattle.chor_lexer.proofs.Each.{each_back}
use Rattle.source_grammar.specs.Symbols.{Allowed, Part, Further, Ends, AreWhole, IsPart, SameFirst, Only, Reads, IsStable, Among, Head, Completes, Reason, Stops, Halts, only_at, but_at}

-- ---- whole tokens

-- what is left of whole tokens is whole
pub whole_after : {A : Type 0} {R : Part A} {C : Further} {Q : Allowed} {names : List (List ℕ)} {ts : List Token} {x : A} {rest : List Token} → IsPart R C → R Q names ts x rest → AreWhole names ts → AreWhole names rest
whole_after {A} {R} {C} {Q} {names} {ts} {x} {rest} p h w =
    let f = p.fits h in
    record {
      ended = p.ended h w.ended;
      known = each_back (IsKnown names) f.front rest (subst (λ (l : List Token). AllByRecursion (IsKnown names) l) f.parts w.known);
    }

-- their first token
pub record First (names : List (List ℕ)) (ts : List Token) : Type 0 where
  pub token : Token
  pub rest : List Token
  pub parts : ts ≡ token ∷ rest
  pub known : IsKnown names token

pub whole_first : {names : List (List ℕ)} {ts : List Token} → AreWhole names ts → First names ts
whole_first {names} {ts} w = go ts w.ended w.known
  where
    go : (us : List Token) → is_ended us ≡ true → AllByRecursion (IsKnown names) us → First names us
    go [] e k = absurd cc
    go (t ∷ us) e k = record { token = t; rest = us; parts = refl; known = k.0 }

-- ---- first tokens

pub first_of_cons : {t u : Token} {ts us : List Token} → t ∷ ts ≡ u ∷ us → t ≡ u
first_of_cons {t} {u} {ts} {us} e = cc

-- what stands in front of both doesn't change
pub same_first_after : (front : List Token) {ts us : List Token} → SameFirst ts us → SameFirst (front ++ ts) (front ++ us)
same_first_after [] h = h
same_first_after (t ∷ front) {ts} {us} h = record { token = t; one = front ++ ts; other = front ++ us; first = refl; second = refl }

pub same_first_of : (front : List Token) (t : Token) (one other : List Token) → SameFirst (front ++ t ∷ one) (front ++ t ∷ other)
same_first_of front t one other = same_first_after front (record { token = t; one = one; other = other; first = refl; second = refl })

pub same_first : {ts us vs : List Token} → ts ≡ vs → SameFirst vs us → SameFirst ts us
same_first e h = record { token = h.token; one = h.one; other = h.other; first = e ∙ h.first; second = h.second }

pub same_first_back : {ts us vs : List Token} → SameFirst ts us → vs ≡ us → SameFirst ts vs
same_first_back h e = record { token = h.token; one = h.one; other = h.other; first = h.first; second = e ∙ h.second }

-- the head is the same too
pub head_there : {F : Further} {names : List (List ℕ)} {ts us : List Token} → SameFirst ts us → Head F names ts → Head F names us
head_there {F} {names} {ts} {us} s h = record {
  token = s.token;
  rest = s.other;
  parts = s.second;
  is = subst (λ (t : Token). F names t) (first_of_cons (sym h.parts ∙ s.first)) h.is;
}

pub head_back : {F : Further} {names : List (List ℕ)} {ts us : List Token} → SameFirst ts us → Head F names us → Head F names ts
head_back {F} {names} {ts} {us} s h = record {
  token = s.token;
  rest = s.one;
  parts = s.first;
  is = subst (λ (t : Token). F names t) (first_of_cons (sym h.parts ∙ s.second)) h.is;
}

pub head_stays : {F : Further} {names : List (List ℕ)} {ts : List Token} (words : List (List ℕ)) → IsStable F → Head F names ts → Head F (names ++ words) ts
head_stays {F} {names} {ts} words s h = record { token = h.token; rest = h.rest; parts = h.parts; is = s.stays names words h.token h.is }

pub head_known : {F : Further} {names : List (List ℕ)} {ts : List Token} (words : List (List ℕ)) → IsStable F → AreWhole names ts → Head F (names ++ words) ts → Head F names ts
head_known {F} {names} {ts} words s w h =
    let f = whole_first w in
    let same : h.token ≡ f.token = first_of_cons (sym h.parts ∙ f.parts) in
    record {
      token = f.token;
      rest = f.rest;
      parts = f.parts;
      is = s.back names words f.token f.known (subst (λ (t : Token). F (names ++ words) t) same h.is);
    }

pub ends_no_head : {C : Further} {names : List (List ℕ)} {ts : List Token} → Ends C names ts → Head C names ts → ⊥
ends_no_head e h = e h.token h.rest h.parts h.is

pub no_head_ends : {C : Further} {names : List (List ℕ)} {ts : List Token} → (Head C names ts → ⊥) → Ends C names ts
no_head_ends f t rest e c = f (record { token = t; rest = rest; parts = e; is = c })

pub head_among : {F G : Further} {names : List (List ℕ)} {ts : List Token} → Among F G → Head F names ts → Head G names ts
head_among a h = record { token = h.token; rest = h.rest; parts = h.parts; is = a _ h.token h.is }

pub ends_among : {F G : Further} {names : List (List ℕ)} {ts : List Token} → Among F G → Ends G names ts → Ends F names ts
ends_among a e t rest p c = e t rest p (a _ t c)

-- what comes next is among the tokens of a whole file
pub ends_with_more : {C : Further} {names : List (List ℕ)} {ts us : List Token} (words : List (List ℕ)) → ((names words : List (List ℕ)) (t : Token) → IsKnown names t → C (names ++ words) t → C names t) → AreWhole names ts → SameFirst ts us → Ends C names ts → Ends C (names ++ words) us
ends_with_more {C} {names} {ts} {us} words back w s e t rest p c =
    let f = whole_first w in
    let same : t ≡ s.token = first_of_cons (sym p ∙ s.second) in
    let here : s.token ≡ f.token = first_of_cons (sym s.first ∙ f.parts) in
    let there : t ≡ f.token = same ∙ here in
    e f.token f.rest f.parts (back names words f.token f.known (subst (λ (u : Token). C (names ++ words) u) there c))

-- ---- a reader that stopped where what comes next doesn't go on

pub only_by_end : {A : Type 0} {R : Part A} {C : Further} {Q : Allowed} {names : List (List ℕ)} {ts : List Token} {x : A} {rest : List Token} → IsPart R C → R Q names ts x rest → Ends C names rest → AreWhole names ts → Only R C names ts x rest
only_by_end {A} {R} {C} {Q} {names} {ts} {x} {rest} p h e w =
    let f = p.fits h in
    let left_whole : AreWhole names rest = whole_after p h w in
    record {
      front = f.front;
      parts = f.parts;
      by = λ words more y left s g k. p.one g (f.again words more) k (ends_with_more words p.back left_whole s e);
    }

pub reads_by_end : {A : Type 0} {R : Part A} {C : Further} {names : List (List ℕ)} {ts : List Token} {x : A} {rest : List Token} → IsPart R C → R (λ rule p. ⊥) names ts x rest → Ends C names rest → Reads R C names ts x rest
reads_by_end p h e = record { is = h; only = λ w. only_by_end p h e w }

-- ---- where a part stops

-- another part stops where this one does, if what comes before can be completed to it and nothing that goes on so is one
pub stops_as : {A B : Type 0} {R : Part A} {S : Part B} {C D : Further} {names : List (List ℕ)} {ts : List Token} {rule : Rule} {place : Place} (s : Stops R C names ts rule place)
    → ((p : Place) → Completes S (only_at p) p names s.before)
    → ((words : List (List ℕ)) (more : List Token) (y : B) (left : List Token) → S (but_at rule place) (names ++ words) (s.before ++ s.token ∷ more) y left → Ends D (names ++ words) left → ⊥)
    → Reason S names s.before s.token rule
    → Stops S D names ts rule place
stops_as s viable never reason = record { before = s.before; token = s.token; rest = s.rest; parts = s.parts; at = s.at; viable = viable; never = never; reason = reason }

-- so a refusal of the one is one of the other
pub halts_as : {A B : Type 0} {R : Part A} {S : Part B} {C D : Further} {names : List (List ℕ)} {ts : List Token} {d : Denied}
    → ((rule : Rule) (place : Place) → AreWhole names ts → Stops R C names ts rule place → Stops S D names ts rule place) → Halts R C names ts d → Halts S D names ts d
halts_as f k = record { by = λ r e w. let s = k.by r e w in (f r.rule r.place w s.0, s.1) }
