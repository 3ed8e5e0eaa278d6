-- Each name of a file's units is a word of the file, and each text in them a text of it.
use Rattle.std.proofs.Common.{◌<◌, ◌^◌, ◌≡◌, ◌⊎◌, ◌-◌, ℕ, Bool, true, false, not, List, [], ◌∷◌, inl, inr, refl, sym, ap, subst}
use Rattle.std.specs.Prelude.{codes}
use Rattle.std.specs.List.{AllByRecursion}
use Rattle.std.proofs.lemmas.Slice.Eq.{bytes_eq-Decides}
use Rattle.chor_base.specs.declared.expr.BinOp.{BinOp}
use Rattle.chor_base.specs.declared.expr.BinOp.TheVariants.{And, Or}
use Rattle.chor_lexer.specs.declared.mark.Mark.TheVariants.{Star, Slash, Plus, Minus, And as And', Or as Or'}
use Rattle.chor_lexer.specs.Lexeme.{Symbol, word, number, text, mark, last, Lexeme}
use Rattle.grammar.specs.Classes.{Class, a_mark, a_word, a_kept_word, a_name, a_number, exactly, a_number_in, a_number_out, a_text, the_end, is_keyword, is_of, Says, says}
use Rattle.grammar.specs.Grammars.{nowhere, Derives}
use Rattle.endpoint_grammar.specs.Written.{Phrase, Leaf, Unary, Binary, Deed, Joins, Sends, Receives, Selects, Gives, Gains, Sets, Shows, Asks, Body, Does, Offers, Tests, Calls, Ends, Arms, NoArms, Arm, Roles, Channel, Procedure, Service, Process, Units}
use Rattle.endpoint_grammar.specs.Grammar.{Nonterminal, units, lines, roles, served, operand, parens, Part, operators, un, product, sum, comparison, conjunction, disjunction, node, tail, sessions, lines_of, roles_of, served_of, units_of, endpoints, rule_of}
use Rattle.endpoint_grammar.specs.Values.{Meaning, Derived, leaf_of, grouped, product_op, sum_op, product_phrase, sum_phrase, comparison_phrase, conjunction_phrase, phrase, deed, session_list, arms_of, last_node, body_of, role_list, role_lists, units_from, make, rules, written_units}
use Rattle.endpoint_laws.proofs.Kept.{Keeps, keeps}
use Rattle.endpoint_laws.proofs.Words.{HasNumber, HasText, IsFineSymbol, IsFine}

module _ (table texts : List (List ℕ)) where
  -- it is a word that has a number, and no keyword
  abbrev pub IsWord : Symbol → Type 0
  IsWord (word w) = HasNumber table w × (is_keyword w ≡ false)
  IsWord _ = ⊥

  abbrev pub IsName : Lexeme → Type 0
  IsName l = IsWord l.symbol

  -- it is a truth value or no keyword
  abbrev pub IsOperand : List ℕ → Type 0
  IsOperand w = (w ≡ codes "true") ⊎ ((w ≡ codes "false") ⊎ (is_keyword w ≡ false))

  -- a number below 2^63, or a word or a text that has a number; a keyword that is a leaf is a truth value
  abbrev pub IsLeaf : Symbol → Type 0
  IsLeaf (word w) = HasNumber table w × IsOperand w
  IsLeaf (number n) = n < 2 ^ 63
  IsLeaf (text t) = HasText texts t
  IsLeaf (mark m) = ⊥
  IsLeaf last = ⊥

  abbrev pub IsPhraseKnown : Phrase → Type 0
  IsPhraseKnown (Leaf s) = IsLeaf s
  IsPhraseKnown (Unary op e) = IsPhraseKnown e
  IsPhraseKnown (Binary op e f) = IsPhraseKnown e × IsPhraseKnown f

  abbrev pub AreNames : List Lexeme → Type 0
  AreNames ls = AllByRecursion IsName ls

  abbrev pub IsDeedNamed : Deed → Type 0
  IsDeedNamed (Joins c r k) = IsName c × IsName r × IsName k
  IsDeedNamed (Sends k b e) = IsName k × IsName b × IsPhraseKnown e
  IsDeedNamed (Receives k a x) = IsName k × IsName a × IsName x
  IsDeedNamed (Selects k b l) = IsName k × IsName b × IsName l
  IsDeedNamed (Gives k b h) = IsName k × IsName b × IsName h
  IsDeedNamed (Gains k a h) = IsName k × IsName a × IsName h
  IsDeedNamed (Sets x e) = IsName x × IsPhraseKnown e
  IsDeedNamed (Shows e) = IsPhraseKnown e
  IsDeedNamed (Asks x f a b) = IsName x × IsName f × IsPhraseKnown a × IsPhraseKnown b

  abbrev mutual
    pub IsBodyNamed : Body → Type 0
    IsBodyNamed (Does d rest) = IsDeedNamed d × IsBodyNamed rest
    IsBodyNamed (Offers k a arms) = IsName k × IsName a × AreArmsNamed arms
    IsBodyNamed (Tests e first second) = IsBodyNamed first × IsBodyNamed second × IsPhraseKnown e
    IsBodyNamed (Calls c f x ss) = IsName f × IsName x × AreNames ss × (c.symbol ≡ word (codes "call"))
    IsBodyNamed Ends = Unit {0}

    pub AreArmsNamed : Arms → Type 0
    AreArmsNamed NoArms = Unit {0}
    AreArmsNamed (Arm l b rest) = IsName l × IsBodyNamed b × AreArmsNamed rest

  abbrev pub AreRolesNamed : Roles → Type 0
  AreRolesNamed r = AreNames r.active × AreNames r.serve

  abbrev pub IsChannelNamed : Channel → Type 0
  IsChannelNamed c = IsName c.name × AreRolesNamed c.roles

  abbrev pub IsProcedureNamed : Procedure → Type 0
  IsProcedureNamed p = IsName p.name × IsName p.param × AreNames p.sessions × IsBodyNamed p.body

  abbrev pub IsServiceNamed : Service → Type 0
  IsServiceNamed s = IsName s.channel × IsName s.role × IsBodyNamed s.body

  abbrev pub IsProcessNamed : Process → Type 0
  IsProcessNamed p = IsName p.name × IsBodyNamed p.body

  -- all names of the units are words that have numbers
  abbrev pub AreUnitsNamed : Units → Type 0
  AreUnitsNamed u = AllByRecursion IsChannelNamed u.channels × AllByRecursion IsProcedureNamed u.procedures × AllByRecursion IsServiceNamed u.services × AllByRecursion IsProcessNamed u.processes

  -- ---- what tokens derive

  -- so for what a nonterminal derives
  abbrev IsMeant : (n : Nonterminal) → Meaning n → Type 0
  IsMeant (units q) u = AreUnitsNamed u
  IsMeant (lines p) b = IsBodyNamed b
  IsMeant (roles n) r = AreRolesNamed r
  IsMeant (served n) ls = AreNames ls
  IsMeant operand e = IsPhraseKnown e
  IsMeant parens e = IsPhraseKnown e

  abbrev IsSaid : (c : Class) → Says c → Type 0
  IsSaid a_name l = IsName l
  IsSaid a_number l = IsLeaf l.symbol
  IsSaid a_text l = IsLeaf l.symbol
  IsSaid (a_word w) v = HasNumber table w
  IsSaid (a_kept_word w) l = l.symbol ≡ word w
  IsSaid (a_mark m) v = Unit {0}
  IsSaid (exactly n) v = Unit {0}
  IsSaid (a_number_in k n) l = Unit {0}
  IsSaid (a_number_out k n) l = Unit {0}
  IsSaid the_end v = Unit {0}

  abbrev Named : (g : Part) → Derived g → Type 0
  Named g v = Keeps rules IsSaid IsMeant g v

  not_true : (b : Bool) → not b ≡ true → b ≡ false
  not_true false e = refl
  not_true true e = absurd cc

  a_name_is : (s : Symbol) → is_of a_name s ≡ true → IsFineSymbol table texts s → IsWord s
  a_name_is (word w) i h = (h, not_true (is_keyword w) i)
  a_name_is (number n) i h = absurd cc
  a_name_is (text t) i h = absurd cc
  a_name_is (mark m) i h = absurd cc
  a_name_is last i h = absurd cc

  a_number_is : (s : Symbol) → is_of a_number s ≡ true → IsFineSymbol table texts s → IsLeaf s
  a_number_is (word w) i h = absurd cc
  a_number_is (number n) i h = h
  a_number_is (text t) i h = absurd cc
  a_number_is (mark m) i h = absurd cc
  a_number_is last i h = absurd cc

  a_text_is : (s : Symbol) → is_of a_text s ≡ true → IsFineSymbol table texts s → IsLeaf s
  a_text_is (word w) i h = absurd cc
  a_text_is (number n) i h = absurd cc
  a_text_is (text t) i h = h
  a_text_is (mark m) i h = absurd cc
  a_text_is last i h = absurd cc

  a_word_is : (w : List ℕ) (s : Symbol) → is_of (a_word w) s ≡ true → IsFineSymbol table texts s → HasNumber table w
  a_word_is w (word v) i h = subst (HasNumber table) (sym ((bytes_eq-Decides w v).0 i)) h
  a_word_is w (number n) i h = absurd cc
  a_word_is w (text t) i h = absurd cc
  a_word_is w (mark m) i h = absurd cc
  a_word_is w last i h = absurd cc

  the_word_is : (w : List ℕ) (s : Symbol) → is_of (a_kept_word w) s ≡ true → s ≡ word w
  the_word_is w (word v) i = ap word (sym ((bytes_eq-Decides w v).0 i))
  the_word_is w (number n) i = absurd cc
  the_word_is w (text t) i = absurd cc
  the_word_is w (mark m) i = absurd cc
  the_word_is w last i = absurd cc

  said : (c : Class) (l : Lexeme) → is_of c l.symbol ≡ true → IsFine table texts l → IsSaid c (says c l)
  said a_name l i h = a_name_is l.symbol i h
  said a_number l i h = a_number_is l.symbol i h
  said a_text l i h = a_text_is l.symbol i h
  said (a_word w) l i h = a_word_is w l.symbol i h
  said (a_kept_word w) l i h = the_word_is w l.symbol i
  said (a_mark m) l i h = tt
  said (exactly n) l i h = tt
  said (a_number_in k n) l i h = tt
  said (a_number_out k n) l i h = tt
  said the_end l i h = tt

  -- ---- expressions

  leaf_known : (v : Derived un) → Named un v → IsPhraseKnown (leaf_of v)
  leaf_known (inl x) h = h
  leaf_known (inr (inl x)) h = h
  leaf_known (inr (inr (inl x))) h = h
  leaf_known (inr (inr (inr (inl l)))) h = h
  leaf_known (inr (inr (inr (inr (inl l))))) h = h
  leaf_known (inr (inr (inr (inr (inr (inl v)))))) h = (h, inl refl)
  leaf_known (inr (inr (inr (inr (inr (inr (inl v))))))) h = (h, inr (inl refl))
  leaf_known (inr (inr (inr (inr (inr (inr (inr l))))))) h = a_leaf l.symbol h
    where
      a_leaf : (s : Symbol) → IsWord s → IsLeaf s
      a_leaf (word w) k = (k.0, inr (inr k.1))
      a_leaf (number n) k = absurd k
      a_leaf (text t) k = absurd k
      a_leaf (mark m) k = absurd k
      a_leaf last k = absurd k

  module _ {A B : Type 0} (op : A → BinOp) (f : B → Phrase) (H : A → Type 0) (K : B → Type 0) (known : (b : B) → K b → IsPhraseKnown (f b)) where
    grouped_known : (x : Phrase) (ys : List (A × B)) → IsPhraseKnown x → AllByRecursion (λ y. H y.0 × K y.1) ys → IsPhraseKnown (grouped op f x ys)
    grouped_known x [] h k = h
    grouped_known x (y ∷ ys) h k = grouped_known (Binary (op y.0) x (f y.1)) ys (h, known y.1 k.0.1) k.1

  product_known : (v : Derived product) → Named product v → IsPhraseKnown (product_phrase v)
  product_known v h = grouped_known product_op leaf_of (Named (operators (Star ∷ Slash ∷ []))) (Named un) leaf_known (leaf_of v.0) v.1 (leaf_known v.0 h.0) h.1

  sum_known : (v : Derived sum) → Named sum v → IsPhraseKnown (sum_phrase v)
  sum_known v h = grouped_known sum_op product_phrase (Named (operators (Plus ∷ Minus ∷ []))) (Named product) product_known (product_phrase v.0) v.1 (product_known v.0 h.0) h.1

  comparison_known : (v : Derived comparison) → Named comparison v → IsPhraseKnown (comparison_phrase v)
  comparison_known (x, inl (op, y)) (h, (j, k)) = (sum_known x h, sum_known y k)
  comparison_known (x, inr v) (h, k) = sum_known x h

  conjunction_known : (v : Derived conjunction) → Named conjunction v → IsPhraseKnown (conjunction_phrase v)
  conjunction_known v h = grouped_known (λ op. And) comparison_phrase (Named (operators (And' ∷ []))) (Named comparison) comparison_known (comparison_phrase v.0) v.1 (comparison_known v.0 h.0) h.1

  phrase_known : (v : Derived disjunction) → Named disjunction v → IsPhraseKnown (phrase v)
  phrase_known v h = grouped_known (λ op. Or) conjunction_phrase (Named (operators (Or' ∷ []))) (Named conjunction) conjunction_known (conjunction_phrase v.0) v.1 (conjunction_known v.0 h.0) h.1

  -- ---- bodies

  deed_named : (v : Derived node) → Named node v → IsDeedNamed (deed v)
  deed_named (inl (w, ((c, (m, (r, k))), (o, (s, p))))) (a, ((b, (d, (e, f))), (g, (h, i)))) = (b, e, h)
  deed_named (inr (inl (w, ((k, b), e)))) (a, ((c, d), f)) = (c, d, phrase_known e f)
  deed_named (inr (inr (inl (w, (k, (a, x)))))) (b, (c, (d, e))) = (c, d, e)
  deed_named (inr (inr (inr (inl (w, (k, (b, l))))))) (a, (c, (d, e))) = (c, d, e)
  deed_named (inr (inr (inr (inr (inl (w, (k, (b, h)))))))) (a, (c, (d, e))) = (c, d, e)
  deed_named (inr (inr (inr (inr (inr (inl (w, (k, (a, h))))))))) (b, (c, (d, e))) = (c, d, e)
  deed_named (inr (inr (inr (inr (inr (inr (inl (w, (x, e))))))))) (a, (b, c)) = (b, phrase_known e c)
  deed_named (inr (inr (inr (inr (inr (inr (inr (inl (w, e))))))))) (g, h) = phrase_known e h
  deed_named (inr (inr (inr (inr (inr (inr (inr (inr (w, ((x, f), (o, (a, (m, (b, p)))))))))))))) (h, ((i, j), (k, (q, (r, (s, t)))))) = (i, j, phrase_known a q, phrase_known b s)

  sessions_named : (v : Derived sessions) → Named sessions v → AreNames (session_list v)
  sessions_named (inl (x, xs)) (h, k) = (h, k)
  sessions_named (inr v) h = tt

  arms_named : (p : ℕ) (arms : List (Lexeme × (Body × Unit {0}))) → AllByRecursion (λ x. IsName x.0 × (IsBodyNamed x.1.0 × Unit {0})) arms → AreArmsNamed (arms_of arms)
  arms_named p [] h = tt
  arms_named p (x ∷ xs) h = (h.0.0, h.0.1.0, arms_named p xs h.1)

  tail_named : (p : ℕ) (v : Derived (tail p)) → Named (tail p) v → IsBodyNamed (last_node p v)
  tail_named p (inl (w, ((k, a), (o, (x, (xs, c)))))) (b, ((d, e), (f, (g, (h, i))))) = (d, e, arms_named p (x ∷ xs) (g, h))
  tail_named p (inr (inl (w, (e, ((x, m), (v, (y, k))))))) (a, (b, ((c, d), (f, (g, h))))) = (c, g, phrase_known e b)
  tail_named p (inr (inr (inl (w, ((f, x), (o, (ss, c))))))) (a, ((b, d), (e, (g, h)))) = (b, d, sessions_named ss g, a)
  tail_named p (inr (inr (inr w))) h = tt

  body_named : (p : ℕ) (v : Derived (lines_of p)) → Named (lines_of p) v → IsBodyNamed (body_of p v)
  body_named p (inl (n, rest)) (h, k) = (deed_named n h, k)
  body_named p (inr t) h = tail_named (p - 1) t h

  served_named : (n : ℕ) (v : Derived (served_of n)) → Named (served_of n) v → AreNames (role_list n v)
  served_named n (x, inl xs) (h, k) = (h, k)
  served_named n (x, inr v) (h, k) = (h, tt)

  roles_named : (n : ℕ) (v : Derived (roles_of n)) → Named (roles_of n) v → AreRolesNamed (role_lists n v)
  roles_named n (x, inl rs) (h, k) = ((h, k.0), k.1)
  roles_named n (x, inr (inl ys)) (h, k) = ((h, tt), k)
  roles_named n (x, inr (inr v)) (h, k) = ((h, tt), tt)

  units_named : (q : ℕ) (v : Derived (units_of q)) → Named (units_of q) v → AreUnitsNamed (units_from q v)
  units_named q (inl (w, (n, (rs, us)))) (a, (b, (c, d))) = (((b, c), d.0), d.1, d.2, d.3)
  units_named q (inr (inl (w, (((f, x), (o, (ss, c))), (b, us))))) (h, (((i, j), (k, (l, m))), (n, d))) = (d.0, ((i, j, sessions_named ss l, n), d.1), d.2, d.3)
  units_named q (inr (inr (inl (w, ((c, (o, (r, k))), (b, us)))))) (h, ((i, (j, (l, m))), (n, d))) = (d.0, d.1, ((i, l, n), d.2), d.3)
  units_named q (inr (inr (inr (inl (w, (n, (b, us))))))) (h, (i, (j, d))) = (d.0, d.1, d.2, ((i, j), d.3))
  units_named q (inr (inr (inr (inr l)))) h = (tt, tt, tt, tt)

  made : (n : Nonterminal) (v : Derived (rule_of n)) → Named (rule_of n) v → IsMeant n (make n v)
  made (units q) v h = units_named q v h
  made (lines p) v h = body_named p v h
  made (roles n) v h = roles_named n v h
  made (served n) v h = served_named n v h
  made operand v h = leaf_known v h
  made parens v h = phrase_known v.0 h.0

  pub file_named : {ts : List Lexeme} {v : Derived endpoints} → Derives rules nowhere endpoints ts v [] → AllByRecursion (IsFine table texts) ts → AreUnitsNamed (written_units v)
  file_named d fine = (keeps rules IsSaid IsMeant (IsFine table texts) said made d fine).0.1.1
