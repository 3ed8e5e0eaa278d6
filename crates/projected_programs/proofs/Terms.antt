-- Expressions and names that are written so.
use Rattle.std.proofs.Common.{Box, Global, ◌≡◌, ℕ, pos, Bool, true, false, inl, inr, List, [], ◌∷◌, Some, map, refl, sym, ap, ◌∙◌, subst, if◌then◌else◌}
use Rattle.std.specs.Prelude.{bytes_eq, codes, slice_get}
use Rattle.std.proofs.lemmas.List.Elements.{All-nil, All-cons}
use Rattle.std.proofs.lemmas.Option.{get_or_from_slice_get, slice_get_within}
use Rattle.std.proofs.lemmas.Slice.Eq.{bytes_eq-Decides}
use Rattle.chor_base.specs.declared.rule.Place.{Place}
use Rattle.chor_base.proofs.TermCopies.{expr_of, same_term}
use Rattle.chor_base.specs.declared.expr.Expr.{Expr}
use Rattle.chor_base.specs.declared.expr.Expr.TheVariants.{Lit, Var, Un', Bin'}
use Rattle.chor_base.specs.declared.value.Value.TheVariants.{Int, Bool as Truth, Text}
use Rattle.chor_base.specs.Expr.{Term, Constant, Variable, Unary, Binary, term_of}
use Rattle.grammar.specs.Classes.{is_keyword}
use Rattle.chor_lexer.specs.Lexeme.{Symbol, word, number, text, mark, last, Lexeme}
use Rattle.endpoint_grammar.specs.Written.{Phrase, Leaf, Unary as OfOne, Binary as OfTwo}
use Rattle.endpoint_reader.specs.declared.input.Input.{Input}
use Rattle.endpoint_reader.specs.declared.input.Named.{Named}
use Rattle.endpoint_reader.specs.Tokens.{named, all_named, written}
use Rattle.endpoint_reader.specs.Known.{IsThere, AreThere, IsTermThere, IsExprThere}
use Rattle.endpoint_laws.proofs.Words.{HasNumber, HasText, number_of, first_at, is_at}
use Rattle.endpoint_laws.proofs.Naming.{IsPhraseKnown, IsOperand, IsWord, IsName, AreNames}

module _ (i : Input) where
  abbrev ns : List (List ℕ)
  ns = i.names.now

  abbrev xs : List (List ℕ)
  xs = i.texts.now

  -- ---- names

  abbrev name_with : Symbol → Place → Named
  name_with (word w) p = record { name = record { 0 = number_of ns w }; place = p }
  name_with _ p = record { name = record { 0 = 0 }; place = p }

  abbrev pub name_of : Lexeme → Named
  name_of l = name_with l.symbol l.place

  abbrev pub names_of : List Lexeme → List Named
  names_of ls = map name_of ls

  word_same : (s : Symbol) (p : Place) → IsWord ns xs s → named i (name_with s p) ≡ record { symbol = s; place = p }
  word_same (word w) p h = let e = get_or_from_slice_get ns (number_of ns w) w [] (is_at h.0) in λ j. record { symbol = word (e j); place = p }
  word_same (number n) p h = absurd h
  word_same (text t) p h = absurd h
  word_same (mark m) p h = absurd h
  word_same last p h = absurd h

  word_there : (s : Symbol) (p : Place) → IsWord ns xs s → IsThere i (name_with s p)
  word_there (word w) p h = slice_get_within ns (number_of ns w) w (is_at h.0)
  word_there (number n) p h = absurd h
  word_there (text t) p h = absurd h
  word_there (mark m) p h = absurd h
  word_there last p h = absurd h

  pub name_same : (l : Lexeme) → IsName ns xs l → named i (name_of l) ≡ l
  name_same l h = word_same l.symbol l.place h

  pub name_there : (l : Lexeme) → IsName ns xs l → IsThere i (name_of l)
  name_there l h = word_there l.symbol l.place h

  pub names_same : (ls : List Lexeme) → AreNames ns xs ls → all_named i (names_of ls) ≡ ls
  names_same [] h = refl
  names_same (l ∷ ls) h = λ j. name_same l h.0 j ∷ names_same ls h.1 j

  pub names_there : (ls : List Lexeme) → AreNames ns xs ls → AreThere i (names_of ls)
  names_there [] h = All-nil (IsThere i)
  names_there (l ∷ ls) h = All-cons (IsThere i) (name_of l) (names_of ls) (name_there l h.0) (names_there ls h.1)

  -- ---- expressions

  -- a word that is a truth value, or else a variable
  abbrev word_term : List ℕ → Term
  word_term w = if bytes_eq w (codes "true") then Constant (Truth true) else (if bytes_eq w (codes "false") then Constant (Truth false) else Variable (record { 0 = number_of ns w }))

  abbrev leaf_term : Symbol → Term
  leaf_term (word w) = word_term w
  leaf_term (number n) = Constant (Int (pos n))
  leaf_term (text t) = Constant (Text (number_of xs t))
  leaf_term (mark m) = Constant (Int (pos 0))
  leaf_term last = Constant (Int (pos 0))

  abbrev phrase_term : Phrase → Term
  phrase_term (Leaf s) = leaf_term s
  phrase_term (OfOne op e) = Unary op (phrase_term e)
  phrase_term (OfTwo op e f) = Binary op (phrase_term e) (phrase_term f)

  variable_same : (w : List ℕ) → HasNumber ns w → written i (Variable (record { 0 = number_of ns w })) ≡ Leaf (word w)
  variable_same w h = ap (λ v. Leaf (word v)) (get_or_from_slice_get ns (number_of ns w) w [] (is_at h))

  words_same : (w : List ℕ) → HasNumber ns w → written i (word_term w) ≡ Leaf (word w)
  words_same w h = go (bytes_eq w (codes "true")) (bytes_eq w (codes "false")) refl refl
    where
      go : (a b : Bool) → bytes_eq w (codes "true") ≡ a → bytes_eq w (codes "false") ≡ b
          → written i (if a then Constant (Truth true) else (if b then Constant (Truth false) else Variable (record { 0 = number_of ns w }))) ≡ Leaf (word w)
      go true b e f = ap (λ v. Leaf (word v)) (sym ((bytes_eq-Decides w (codes "true")).0 e))
      go false true e f = ap (λ v. Leaf (word v)) (sym ((bytes_eq-Decides w (codes "false")).0 f))
      go false false e f = variable_same w h

  words_there : (w : List ℕ) → HasNumber ns w → IsOperand ns xs w → IsTermThere i (word_term w)
  words_there w h o = go (bytes_eq w (codes "true")) (bytes_eq w (codes "false")) refl refl
    where
      no_keyword : bytes_eq w (codes "true") ≡ false → bytes_eq w (codes "false") ≡ false → IsOperand ns xs w → is_keyword w ≡ false
      no_keyword e f (inl t) = let a = (bytes_eq-Decides w (codes "true")).1 t in absurd cc
      no_keyword e f (inr (inl t)) = let a = (bytes_eq-Decides w (codes "false")).1 t in absurd cc
      no_keyword e f (inr (inr k)) = k

      go : (a b : Bool) → bytes_eq w (codes "true") ≡ a → bytes_eq w (codes "false") ≡ b → IsTermThere i (if a then Constant (Truth true) else (if b then Constant (Truth false) else Variable (record { 0 = number_of ns w })))
      go true b e f = tt
      go false true e f = tt
      go false false e f = (slice_get_within ns (number_of ns w) w (is_at h), subst (λ v. is_keyword v ≡ false) (sym (get_or_from_slice_get ns (number_of ns w) w [] (is_at h))) (no_keyword e f o))

  text_at : (t : List ℕ) → HasText xs t → slice_get xs (number_of xs t) ≡ Some t
  text_at t h = first_at xs t h.number h.at

  phrase_same : (p : Phrase) → IsPhraseKnown ns xs p → written i (phrase_term p) ≡ p
  phrase_same (Leaf (word w)) h = words_same w h.0
  phrase_same (Leaf (number n)) h = refl
  phrase_same (Leaf (text t)) h = ap (λ v. Leaf (text v)) (get_or_from_slice_get xs (number_of xs t) t [] (text_at t h))
  phrase_same (Leaf (mark m)) h = absurd h
  phrase_same (Leaf last) h = absurd h
  phrase_same (OfOne op e) h = ap (OfOne op) (phrase_same e h)
  phrase_same (OfTwo op e f) h = λ j. OfTwo op (phrase_same e h.0 j) (phrase_same f h.1 j)

  phrase_there : (p : Phrase) → IsPhraseKnown ns xs p → IsTermThere i (phrase_term p)
  phrase_there (Leaf (word w)) h = words_there w h.0 h.1
  phrase_there (Leaf (number n)) h = refl
  phrase_there (Leaf (text t)) h = slice_get_within xs (number_of xs t) t (text_at t h)
  phrase_there (Leaf (mark m)) h = absurd h
  phrase_there (Leaf last) h = absurd h
  phrase_there (OfOne op e) h = phrase_there e h
  phrase_there (OfTwo op e f) h = (phrase_there e h.0, phrase_there f h.1)

  -- the expression that is written so
  abbrev pub expression : Phrase → Expr
  expression p = expr_of (phrase_term p)

  pub expression_same : (p : Phrase) → IsPhraseKnown ns xs p → written i (term_of (expression p)) ≡ p
  expression_same p h = ap (written i) (same_term (phrase_term p)) ∙ phrase_same p h

  pub expression_there : (p : Phrase) → IsPhraseKnown ns xs p → IsExprThere i (expression p)
  expression_there p h = subst (IsTermThere i) (sym (same_term (phrase_term p))) (phrase_there p h)
