-- Whether tokens derive something, and where their first fault is, doesn't depend on what is made of what nonterminals derive.
use Rattle.std.proofs.Common.{inl, inr, List, [], ◌∷◌, refl}
use Rattle.chor_base.specs.declared.rule.Place.{Place}
use Rattle.chor_base.specs.declared.rule.Rule.{Rule}
use Rattle.chor_lexer.specs.Lexeme.{Lexeme}
use Rattle.grammar.specs.Classes.{says}
use Rattle.grammar.specs.Grammars.{Grammar, Value, Rules, Allowed, anywhere, but_at, Derives, is_empty, is_one, in_turn, the_first, the_second, none_of_many, one_of_many, no_more, one_more, with_room, in_short, by_rule}
use Rattle.grammar.specs.Faults.{CanEnd, IsFaultAt, unexpected, excess, IsFirstFault}
use Rattle.grammar.proofs.Steps.{CanBe}

module _ {N : Type 0} (V : N → Type 0) (rule : N → Grammar N) (wrong : Rule) where
  -- the rules with this making
  abbrev pub with_make : ((n : N) → Value V (rule n) → V n) → Rules N
  with_make make = record { V = V; rule = rule; make = make; wrong = wrong }

  module _ (make other : (n : N) → Value V (rule n) → V n) where
    pub made_anew : {Q : Allowed} {g : Grammar N} {ls us : List Lexeme} {x : Value V g} → Derives (with_make make) Q g ls x us → CanBe (with_make other) Q g ls us
    made_anew is_empty = record { value = tt; is = is_empty }
    made_anew (is_one {c = c} l p i) = record { value = says c l; is = is_one l p i }
    made_anew (in_turn d m) = let a = made_anew d in let b = made_anew m in record { value = (a.value, b.value); is = in_turn a.is b.is }
    made_anew (the_first d) = let a = made_anew d in record { value = inl a.value; is = the_first a.is }
    made_anew (the_second d) = let a = made_anew d in record { value = inr a.value; is = the_second a.is }
    made_anew none_of_many = record { value = []; is = none_of_many }
    made_anew (one_of_many r d m) = let a = made_anew d in let b = made_anew m in record { value = a.value ∷ b.value; is = one_of_many r a.is b.is }
    made_anew no_more = record { value = []; is = no_more }
    made_anew (one_more l p i d m) = let a = made_anew d in let b = made_anew m in record { value = a.value ∷ b.value; is = one_more l p i a.is b.is }
    made_anew (with_room r d) = let a = made_anew d in record { value = a.value; is = with_room r a.is }
    made_anew (in_short k d) = let a = made_anew d in record { value = a.value; is = in_short k a.is }
    made_anew (by_rule {n = n} l p i d s) = let a = made_anew d in record { value = other n a.value; is = by_rule l p i a.is refl }

    pub ends_anew : {Q : Allowed} {g : Grammar N} {ls : List Lexeme} → CanEnd (with_make make) Q g ls → CanEnd (with_make other) Q g ls
    ends_anew b = let a = made_anew b.is in record { more = b.more; value = a.value; is = a.is }

  module _ (make other : (n : N) → Value V (rule n) → V n) where
    fault_anew : {g : Grammar N} {before : List Lexeme} {t : Lexeme} {e : Rule} → IsFaultAt (with_make make) g before t e → IsFaultAt (with_make other) g before t e
    fault_anew (unexpected v n) = unexpected (ends_anew make other {Q = anywhere} v) (λ b. n (ends_anew other make {Q = anywhere} b))
    fault_anew {t = t} {e = e} (excess v n) = excess (ends_anew make other {Q = anywhere} v) (λ b. n (ends_anew other make {Q = but_at e t.place} b))

  pub first_fault_anew : (make other : (n : N) → Value V (rule n) → V n) {g : Grammar N} {ts : List Lexeme} {e : Rule} {p : Place} → IsFirstFault (with_make make) g ts e p → IsFirstFault (with_make other) g ts e p
  first_fault_anew make other f = record {
    before = f.before;
    token = f.token;
    rest = f.rest;
    parts = f.parts;
    fault = fault_anew make other f.fault;
    at = f.at;
    first = λ front t more e p b. f.first front t more e p (fault_anew other make b);
  }
