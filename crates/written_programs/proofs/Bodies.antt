-- The code of a body that was read can be written.
use Rattle.std.proofs.Common.{◌≡◌, ◌<◌, ◌≤◌, ◌-◌, ℕ, suc, Bool, true, false, List, [], ◌∷◌, length, Option, Some, None, refl, sym, ap, ◌∙◌, subst, arith, nat_lt, inl, inr, length-append, ◌⊎◌}
use Rattle.std.specs.Prelude.{slice_get, slice_index_or, pos, negsuc}
use Rattle.std.proofs.lemmas.Option.{slice_get_cases, get_or_from_slice_get, slice_get-get_or}
use Rattle.std.proofs.lemmas.List.{get_or_past}
use Rattle.chor_base.specs.declared.names.NameId.{NameId}
use Rattle.chor_base.specs.declared.value.Value.TheVariants as value
use Rattle.chor_base.specs.Expr.{Term, Constant, Variable, Unary, Binary, term_of}
use Rattle.chor_base.specs.Writing.{name_in}
use Rattle.chor_lexer.specs.declared.mark.Mark.TheVariants.{CloseParen}
use Rattle.chor_lexer.specs.Canonical.{binary_mark, strength_of, left_needs, right_needs}
use Rattle.chor_lexer.specs.Lexeme.{Symbol, mark}
use Rattle.chor_lexer.specs.Spelling.{IsSource, enclosed_symbols, text_symbols, expr_symbols}
use Rattle.canonical_laws.proofs.Cutting.{AreWords}
use Rattle.endpoint_reader.specs.declared.input.Input.{Input}
use Rattle.endpoint_reader.specs.declared.input.Named.{Named}
use Rattle.endpoint_reader.specs.declared.node.Action.{Action}
use Rattle.endpoint_reader.specs.declared.node.Action.TheVariants as deed
use Rattle.endpoint_reader.specs.Known.{IsTermThere, IsActionThere}
use Rattle.endpoint_reader.specs.Tokens.{named, all_named, written}
use Rattle.endpoint_reader.specs.Nodes.{deed_of}
use Rattle.endpoint_names.specs.Bodies.{Body, Does, Offers, Tests, Calls, Ends, Arms, NoArms, Arm}
use Rattle.endpoint_names.specs.Faults.{names_in}
use Rattle.endpoint_making.specs.Codes.{action_of, code_of, arms_of}
use Rattle.endpoint_code.specs.declared.endpoints.Endpoints.{Endpoints}
use Rattle.endpoint_laws.specs.Spelled.{IsNamed, AreNamed, IsActionSpelled, IsCodeSpelled, AreArmsSpelled}
use Rattle.endpoint_laws.specs.Limits.{IsShort, IsActionShort, Fits, EachFits}
use Rattle.endpoint_laws.specs.Reading.{written_body, written_arms}
use Rattle.endpoint_laws.proofs.Naming.{IsName, AreNames, IsPhraseKnown, IsDeedNamed, IsBodyNamed, AreArmsNamed}
use Rattle.endpoint_laws.proofs.There.{IsBodyThere, AreArmsThere}
use Rattle.endpoint_laws.proofs.Words.{HasNumber}
use Rattle.written_programs.proofs.Limits.{IsShortPhrase, IsShortDeed, BodyFits, ArmsFit}
use Rattle.written_programs.proofs.Phrases.{strength_in, in_parens, tokens_in}
use Rattle.written_programs.proofs.Tables.{IsText}

module _ (i : Input) (e : Endpoints) (names_are : e.names ≡ i.names.now) (texts_are : e.texts ≡ i.texts.now)
    (words : AreWords i.names.now) (texts : (n : ℕ) (t : List ℕ) → slice_get i.texts.now n ≡ Some t → IsText t) where
  abbrev ns : List (List ℕ)
  ns = i.names.now

  abbrev xs : List (List ℕ)
  xs = i.texts.now

  -- ---- names

  word_at : (n : NameId) → HasNumber ns (name_in ns n) → slice_get ns n.0 ≡ Some (name_in ns n)
  word_at n h = go (slice_get_cases ns n.0).1
    where
      go : ((x : List ℕ) × (n.0 < length ns) × (slice_get ns n.0 ≡ Some x) × (slice_index_or ns n.0 x ≡ x)) ⊎ ((length ns ≤ n.0) × (slice_get ns n.0 ≡ None)) → slice_get ns n.0 ≡ Some (name_in ns n)
      go (inl (x, lt, at, same)) = at ∙ ap Some (sym (get_or_from_slice_get ns n.0 x [] at))
      go (inr (past, none)) = let gone : name_in ns n ≡ [] = get_or_past ns n.0 [] past in let some = sym gone ∙ h.is in absurd cc

  pub name_named : (n : Named) → IsName ns xs (named i n) → IsNamed e n.name
  name_named n h =
      let at = word_at n.name h.0 in
      let word = words n.name.0 (name_in ns n.name) at in
      record { spelling = name_in ns n.name; is = ap (λ (l : List (List ℕ)). slice_get l n.name.0) names_are ∙ at; name = h.1; lexeme = word.0; short = word.1 }

  pub names_named : (ls : List Named) → AreNames ns xs (all_named i ls) → AreNamed e (names_in ls)
  names_named [] h = tt
  names_named (n ∷ ls) h = (name_named n h.0, names_named ls h.1)

  -- ---- expressions

  term_source : (t : Term) → IsTermThere i t → IsPhraseKnown ns xs (written i t) → IsSource ns xs t
  term_source (Constant (value.Int (pos n))) there known = (n, refl, known)
  term_source (Constant (value.Int (negsuc n))) there known = absurd cc
  term_source (Constant (value.Bool b)) there known = let h = known.0 in (record { 0 = h.number }, h.at)
  term_source (Constant (value.Text t)) there known =
      let at = slice_get-get_or xs t [] there in
      let fine = texts t (slice_index_or xs t []) at in
      (slice_index_or xs t [], at, fine.0, fine.1)
  term_source (Constant (value.Part s r)) there known = absurd there
  term_source (Variable x) there known =
      let at = slice_get-get_or ns x.0 [] there.0 in
      let word = words x.0 (name_in ns x) at in
      (name_in ns x, at, there.1, word.0, word.1)
  term_source (Unary op t) there known = term_source t there known
  term_source (Binary op t u) there known = (term_source t there.0 known.0, term_source u there.1 known.1)

  strength_same : (t : Term) → strength_of t ≡ strength_in (written i t)
  strength_same (Constant (value.Int z)) = refl
  strength_same (Constant (value.Bool b)) = refl
  strength_same (Constant (value.Text x)) = refl
  strength_same (Constant (value.Part s r)) = refl
  strength_same (Variable x) = refl
  strength_same (Unary op t) = refl
  strength_same (Binary op t u) = refl

  enclosed_few : (b : Bool) (ss : List Symbol) (n : ℕ) → length ss ≤ n → length (enclosed_symbols b ss) ≤ in_parens b n
  enclosed_few true ss n h = omega (arith, h, length-append ss (mark CloseParen ∷ []))
  enclosed_few false ss n h = h

  few_as : (needed : ℕ) (t : Term) → length (expr_symbols ns xs t) ≤ tokens_in (written i t)
      → length (enclosed_symbols (nat_lt (strength_of t) needed) (expr_symbols ns xs t)) ≤ in_parens (nat_lt (strength_in (written i t)) needed) (tokens_in (written i t))
  few_as needed t h =
      subst (λ (s : ℕ). length (enclosed_symbols (nat_lt (strength_of t) needed) (expr_symbols ns xs t)) ≤ in_parens (nat_lt s needed) (tokens_in (written i t))) (strength_same t)
      (enclosed_few (nat_lt (strength_of t) needed) (expr_symbols ns xs t) (tokens_in (written i t)) h)

  text_few : (o : Option (List ℕ)) → length (text_symbols o) ≤ 1
  text_few None = omega arith
  text_few (Some b) = omega arith

  symbols_few : (t : Term) → length (expr_symbols ns xs t) ≤ tokens_in (written i t)
  symbols_few (Constant (value.Int z)) = omega arith
  symbols_few (Constant (value.Bool b)) = omega arith
  symbols_few (Constant (value.Text t)) = text_few (slice_get xs t)
  symbols_few (Constant (value.Part s r)) = omega arith
  symbols_few (Variable x) = omega arith
  symbols_few (Unary op t) = let few = few_as 6 t (symbols_few t) in omega (arith, few)
  symbols_few (Binary op t u) =
      let left = few_as (left_needs op) t (symbols_few t) in
      let right = few_as (right_needs op) u (symbols_few u) in
      omega (arith, left, right, length-append (enclosed_symbols (nat_lt (strength_of t) (left_needs op)) (expr_symbols ns xs t)) (mark (binary_mark op) ∷ enclosed_symbols (nat_lt (strength_of u) (right_needs op)) (expr_symbols ns xs u)))

  -- with the tables of the programs
  in_tables : (P : List (List ℕ) → List (List ℕ) → Type 0) → P ns xs → P e.names e.texts
  in_tables P h = subst (λ (l : List (List ℕ)). P l e.texts) (sym names_are) (subst (λ (l : List (List ℕ)). P ns l) (sym texts_are) h)

  term_written : (t : Term) → IsTermThere i t → IsPhraseKnown ns xs (written i t) → IsSource e.names e.texts t
  term_written t there known = in_tables (λ l m. IsSource l m t) (term_source t there known)

  term_short : (t : Term) → IsShortPhrase (written i t) → IsShort e t
  term_short t few = in_tables (λ l m. length (expr_symbols l m t) ≤ 255) (omega (arith, few, symbols_few t))

  -- ---- bodies

  action_spelled : (a : Action) → IsActionThere i a → IsDeedNamed ns xs (deed_of i a) → IsActionSpelled e (action_of a)
  action_spelled (deed.Join c r k) there h = (name_named c h.0, name_named r h.1, name_named k h.2)
  action_spelled (deed.Send k b t) there h = (name_named k h.0, name_named b h.1, term_written (term_of t) there.2 h.2)
  action_spelled (deed.Recv k a x) there h = (name_named k h.0, name_named a h.1, name_named x h.2)
  action_spelled (deed.Pick k b l) there h = (name_named k h.0, name_named b h.1, name_named l h.2)
  action_spelled (deed.Give k b g) there h = (name_named k h.0, name_named b h.1, name_named g h.2)
  action_spelled (deed.Gain k a g) there h = (name_named k h.0, name_named a h.1, name_named g h.2)
  action_spelled (deed.Set x t) there h = (name_named x h.0, term_written (term_of t) there.1 h.1)
  action_spelled (deed.Show t) there h = term_written (term_of t) there h
  action_spelled (deed.Host x f a b) there h = (name_named x h.0, name_named f h.1, term_written (term_of a) there.2 h.2, term_written (term_of b) there.3 h.3)

  action_short : (a : Action) → IsShortDeed (deed_of i a) → IsActionShort e (action_of a)
  action_short (deed.Join c r k) h = tt
  action_short (deed.Send k b t) h = term_short (term_of t) h
  action_short (deed.Recv k a x) h = tt
  action_short (deed.Pick k b l) h = tt
  action_short (deed.Give k b g) h = tt
  action_short (deed.Gain k a g) h = tt
  action_short (deed.Set x t) h = term_short (term_of t) h
  action_short (deed.Show t) h = term_short (term_of t) h
  action_short (deed.Host x f a b) h = (term_short (term_of a) h.0, term_short (term_of b) h.1)

  pub names_long : (ls : List Named) → length (all_named i ls) ≡ length (names_in ls)
  names_long [] = refl
  names_long (n ∷ ls) = ap (λ k. suc k) (names_long ls)

  mutual
    pub body_spelled : (b : Body) → IsBodyThere i b → IsBodyNamed ns xs (written_body i b) → IsCodeSpelled e (code_of b)
    body_spelled (Does a rest) there h = (action_spelled a there.0 h.0, body_spelled rest there.1 h.1)
    body_spelled (Offers k a arms) there h = (name_named k h.0, name_named a h.1, arms_spelled arms there.2 h.2)
    body_spelled (Tests t first second) there h = (term_written (term_of t) there.0 h.2, body_spelled first there.1 h.0, body_spelled second there.2 h.1)
    body_spelled (Calls p s) there h = (name_named s.name h.0, name_named s.param h.1, names_named s.sessions h.2)
    body_spelled Ends there h = tt

    arms_spelled : (arms : Arms) → AreArmsThere i arms → AreArmsNamed ns xs (written_arms i arms) → AreArmsSpelled e (arms_of arms)
    arms_spelled NoArms there h = tt
    arms_spelled (Arm l b rest) there h = (name_named l h.0, body_spelled b there.1 h.1, arms_spelled rest there.2 h.2)

  mutual
    pub body_within : (b : Body) (p : ℕ) → BodyFits p (written_body i b) → Fits e p (code_of b)
    body_within (Does a rest) p h = (h.0, action_short a h.1, body_within rest (p - 1) h.2)
    body_within (Offers k a NoArms) p h = absurd h.1
    body_within (Offers k a (Arm l b rest)) p h = (h.0, tt, arms_within (Arm l b rest) (p - 1) h.2)
    body_within (Tests t first second) p h = (h.0, term_short (term_of t) h.1, body_within first (p - 1) h.2, body_within second (p - 1) h.3)
    body_within (Calls q s) p h = (h.0, subst (λ (k : ℕ). k ≤ 8) (names_long s.sessions) h.1)
    body_within Ends p h = h

    arms_within : (arms : Arms) (p : ℕ) → ArmsFit p (written_arms i arms) → EachFits e p (arms_of arms)
    arms_within NoArms p h = tt
    arms_within (Arm l b rest) p h = (body_within b p h.0, arms_within rest p h.1)
