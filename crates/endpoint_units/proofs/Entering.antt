-- Where a token ends a part, a rule may begin with it; and what stands alone.
use Rattle.std.proofs.Common.{◌≡◌, Bool, true, false, None, Some, List, [], ◌∷◌, refl, sym, ◌∙◌}
use Rattle.chor_base.specs.declared.rule.Place.{Place}
use Rattle.chor_base.specs.declared.rule.Denied.{Denied}
use Rattle.chor_lexer.specs.Lexeme.{Lexeme}
use Rattle.grammar.specs.Classes.{Class, is_of, Says}
use Rattle.grammar.specs.Grammars.{Grammar, empty, one, seq, after, Value, Rules, nowhere, Derives, in_turn, by_rule}
use Rattle.grammar.specs.Machine.{Next, goes, skips, refuses, taken, followed, next, stopped, stop}
use Rattle.grammar.specs.Readers.{Reads, Halts, Leads}
use Rattle.grammar.proofs.Reading.{again, same_later}
use Rattle.grammar.proofs.Ways.{one_is}

module _ {N : Type 0} (r : Rules N) where
  past_empty : (h : Grammar N) (ts : List Lexeme) → stop r (seq empty h) ts ≡ stop r h ts
  past_empty h [] = refl
  past_empty h (l ∷ ts) = refl

  entered : (b : Bool) (n : N) (h : Grammar N) (m k : Next N) (us : List Lexeme) (p : Place) → stopped r (followed (taken b (r.rule n) refuses) h m) (λ a. stop r a us) p ≡ stopped r (followed (taken b empty refuses) (seq (r.rule n) h) k) (λ a. stop r a us) p
  entered true n h m k us p = sym (past_empty (seq (r.rule n) h) us)
  entered false n h m k us p = refl

  token_then_rule : (c : Class) (n : N) (h : Grammar N) (us : List Lexeme) → stop r (seq (after c n) h) us ≡ stop r (seq (one c) (seq (r.rule n) h)) us
  token_then_rule c n h [] = refl
  token_then_rule c n h (l ∷ us) = entered (is_of c l.symbol) n h (next r h l.symbol) (next r (seq (r.rule n) h) l.symbol) us l.place

  into_last : (g : Grammar N) (c : Class) (n : N) (h : Grammar N) (ts : List Lexeme) → stop r (seq (seq g (after c n)) h) ts ≡ stop r (seq (seq g (one c)) (seq (r.rule n) h)) ts
  into_last g c n h ts = again r g (after c n) h ts ∙ same_later r g (seq (after c n) h) (seq (one c) (seq (r.rule n) h)) ts (token_then_rule c n h) ∙ sym (again r g (one c) (seq (r.rule n) h) ts)

  -- a part that ends with a token was read; in place of the token a rule begins there
  pub through : {g : Grammar N} {c : Class} {ts us : List Lexeme} {x : Value r.V g} {y : Says c} (n : N) → Reads r (seq g (one c)) ts (x, y) us → Leads r (seq g (after c n)) ts (r.rule n) us (λ v. (x, r.make n v))
  through {g} {c} {ts} {us} {x} {y} n a = record {
    on = λ h. into_last g c n h ts ∙ a.on (seq (r.rule n) h);
    is = λ v rest d. go v rest a.is d;
  }
    where
      go : (v : Value r.V (r.rule n)) (rest : List Lexeme) → Derives r nowhere (seq g (one c)) ts (x, y) us → Derives r nowhere (r.rule n) us v rest → Derives r nowhere (seq g (after c n)) ts (x, r.make n v) rest
      go v rest (in_turn d m) e = let h = one_is r m in in_turn d (by_rule h.token h.stands.parts h.stands.is e refl)

  pub through_halts : {g : Grammar N} {c : Class} {ts : List Lexeme} {d : Denied} (n : N) → Halts r (seq g (one c)) ts d → Halts r (seq g (after c n)) ts d
  through_halts {g} {c} {ts} n a = record { by = λ f e h. into_last g c n h ts ∙ a.by f e (seq (r.rule n) h) }

  -- ---- alone

  stopped_alone : (k : Next N) (us : List Lexeme) (p : Place) → ((a : Grammar N) → stop r (seq a empty) us ≡ stop r a us) → stopped r (followed k empty skips) (λ a. stop r a us) p ≡ stopped r k (λ a. stop r a us) p
  stopped_alone (goes None a) us p h = h a
  stopped_alone (goes (Some e) a) us p h = refl
  stopped_alone skips us p h = refl
  stopped_alone refuses us p h = refl

  pub alone : (g : Grammar N) (ts : List Lexeme) → stop r (seq g empty) ts ≡ stop r g ts
  alone g [] = refl
  alone g (l ∷ ts) = stopped_alone (next r g l.symbol) ts l.place (λ a. alone a ts)
