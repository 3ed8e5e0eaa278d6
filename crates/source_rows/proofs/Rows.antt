-- Steps and statements derive the same whether their rows stand one by one or are taken together.
use Rattle.std.proofs.Common.{List, refl, ◌∙◌}
use Rattle.chor_lexer.specs.Lexeme.{Lexeme}
use Rattle.chor_lexer.specs.declared.mark.Mark.TheVariants.{Arrow}
use Rattle.chor_tree.specs.Source.{Statement}
use Rattle.grammar.specs.Grammars.{Allowed, Derives, in_turn, the_first, the_second}
use Rattle.source_rows.specs.Sources.{Source, NAME, mark, part, statement, choice_of, to_one, step}
use Rattle.source_rows.specs.Values.{Tables, Derived, rules, statement_of, named_of, path_of, step_of, role_of, name}
use Rattle.source_rows.specs.Rows.{statement_rows, row_statement, step_rows, row_step, Says}

module _ (i : Tables) (Q : Allowed) where
  abbrev D : (g : Source) → List Lexeme → Derived g → List Lexeme → Type 0
  D g ts x rest = Derives (rules i) Q g ts x rest

  abbrev Row : List Lexeme → Statement → List Lexeme → Type 0
  Row ts s rest = Says i Q statement_rows (row_statement i) ts s rest

  abbrev Whole : List Lexeme → Statement → List Lexeme → Type 0
  Whole ts s rest = Says i Q statement (statement_of i) ts s rest

  said : {A : Type 0} {g : Source} {f : Derived g → A} {ts rest : List Lexeme} {x : Derived g} → D g ts x rest → Says i Q g f ts (f x) rest
  said {x = x} d = record { value = x; is = d; same = refl }

  -- ---- from those taken together

  pathed : {t0 t1 t2 t3 rest : List Lexeme} {a : Derived part} {w : Unit {0}} {b : Derived part} {x : Derived to_one} → D part t0 a t1 → D (mark Arrow) t1 w t2 → D part t2 b t3 → D to_one t3 x rest → Row t0 (path_of i (role_of i a) (role_of i b) x) rest
  pathed a w b (in_turn m (in_turn k (the_first (in_turn d l)))) = said (the_second (the_second (the_first (in_turn a (in_turn w (in_turn b (in_turn m (in_turn k (in_turn d l)))))))))
  pathed a w b (in_turn m (in_turn k (the_second (in_turn u (in_turn h e))))) = said (the_second (the_second (the_second (the_first (in_turn a (in_turn w (in_turn b (in_turn m (in_turn k (in_turn u (in_turn h e)))))))))))

  named_row : {ts mid rest : List Lexeme} {p : Lexeme} {x : Derived choice_of} → D NAME ts p mid → D choice_of mid x rest → Row ts (named_of i (name i p) x) rest
  named_row p (the_first (in_turn o (in_turn r (in_turn c (the_first (in_turn d (in_turn e (in_turn w (in_turn b (in_turn f (in_turn x (in_turn m k)))))))))))) = said (the_second (the_first (in_turn (in_turn p (in_turn o (in_turn r c))) (in_turn d (in_turn e (in_turn w (in_turn b (in_turn f (in_turn x (in_turn m k))))))))))
  named_row p (the_first (in_turn o (in_turn r (in_turn c (the_second (in_turn w (in_turn b x))))))) = pathed (in_turn p (in_turn o (in_turn r c))) w b x
  named_row p (the_second (the_first (in_turn d (in_turn x (in_turn b (the_first (in_turn w (in_turn f (in_turn u (in_turn l (in_turn m (in_turn r e)))))))))))) = said (the_second (the_second (the_second (the_second (the_second (the_first (in_turn p (in_turn d (in_turn x (in_turn b (in_turn w (in_turn f (in_turn u (in_turn l (in_turn m (in_turn r e))))))))))))))))
  named_row p (the_second (the_first (in_turn d (in_turn x (in_turn b (the_second e)))))) = said (the_second (the_second (the_second (the_second (the_first (in_turn p (in_turn d (in_turn x (in_turn b e)))))))))
  named_row p (the_second (the_second (in_turn w e))) = said (the_second (the_second (the_second (the_second (the_second (the_second (in_turn p (in_turn w e))))))))

  pub to_row : {ts rest : List Lexeme} {x : Derived statement} → D statement ts x rest → Row ts (statement_of i x) rest
  to_row (the_first d) = said (the_first d)
  to_row (the_second (in_turn p c)) = named_row p c

  -- ---- and back

  pub from_row : {ts rest : List Lexeme} {y : Derived statement_rows} → D statement_rows ts y rest → Whole ts (row_statement i y) rest
  from_row (the_first d) = said (the_first d)
  from_row (the_second (the_first (in_turn (in_turn p (in_turn o (in_turn r c))) (in_turn d (in_turn e (in_turn w (in_turn b (in_turn f (in_turn x (in_turn m k)))))))))) = said (the_second (in_turn p (the_first (in_turn o (in_turn r (in_turn c (the_first (in_turn d (in_turn e (in_turn w (in_turn b (in_turn f (in_turn x (in_turn m k))))))))))))))
  from_row (the_second (the_second (the_first (in_turn (in_turn p (in_turn o (in_turn r c))) (in_turn w (in_turn b (in_turn m (in_turn k (in_turn d l))))))))) = said (the_second (in_turn p (the_first (in_turn o (in_turn r (in_turn c (the_second (in_turn w (in_turn b (in_turn m (in_turn k (the_first (in_turn d l)))))))))))))
  from_row (the_second (the_second (the_second (the_first (in_turn (in_turn p (in_turn o (in_turn r c))) (in_turn w (in_turn b (in_turn m (in_turn k (in_turn u (in_turn h e))))))))))) = said (the_second (in_turn p (the_first (in_turn o (in_turn r (in_turn c (the_second (in_turn w (in_turn b (in_turn m (in_turn k (the_second (in_turn u (in_turn h e))))))))))))))
  from_row (the_second (the_second (the_second (the_second (the_first (in_turn p (in_turn d (in_turn x (in_turn b e))))))))) = said (the_second (in_turn p (the_second (the_first (in_turn d (in_turn x (in_turn b (the_second e))))))))
  from_row (the_second (the_second (the_second (the_second (the_second (the_first (in_turn p (in_turn d (in_turn x (in_turn b (in_turn w (in_turn f (in_turn u (in_turn l (in_turn m (in_turn r e)))))))))))))))) = said (the_second (in_turn p (the_second (the_first (in_turn d (in_turn x (in_turn b (the_first (in_turn w (in_turn f (in_turn u (in_turn l (in_turn m (in_turn r e))))))))))))))
  from_row (the_second (the_second (the_second (the_second (the_second (the_second (in_turn p (in_turn w e)))))))) = said (the_second (in_turn p (the_second (the_second (in_turn w e)))))

  -- ---- steps

  pub to_step_row : {ts rest : List Lexeme} {x : Derived step} → D step ts x rest → Says i Q step_rows (row_step i) ts (step_of i x) rest
  to_step_row (the_first w) = said (the_first w)
  to_step_row (the_second (in_turn a (in_turn w (in_turn b (the_first (in_turn c (in_turn p (in_turn t n)))))))) = said (the_second (the_first (in_turn a (in_turn w (in_turn b (in_turn c (in_turn p (in_turn t n))))))))
  to_step_row (the_second (in_turn a (in_turn w (in_turn b (the_second (in_turn o (in_turn xs c))))))) = said (the_second (the_second (in_turn a (in_turn w (in_turn b (in_turn o (in_turn xs c)))))))

  pub from_step_row : {ts rest : List Lexeme} {y : Derived step_rows} → D step_rows ts y rest → Says i Q step (step_of i) ts (row_step i y) rest
  from_step_row (the_first w) = said (the_first w)
  from_step_row (the_second (the_first (in_turn a (in_turn w (in_turn b (in_turn c (in_turn p (in_turn t n)))))))) = said (the_second (in_turn a (in_turn w (in_turn b (the_first (in_turn c (in_turn p (in_turn t n))))))))
  from_step_row (the_second (the_second (in_turn a (in_turn w (in_turn b (in_turn o (in_turn xs c))))))) = said (the_second (in_turn a (in_turn w (in_turn b (the_second (in_turn o (in_turn xs c)))))))

-- what says the same as f of it says s
pub saying : {A : Type 0} {i : Tables} {Q : Allowed} {g h : Source} {f : Derived g → A} {k : Derived h → A} {ts rest : List Lexeme} {s : A} → (d : Says i Q g f ts s rest) → Says i Q h k ts (f d.value) rest → Says i Q h k ts s rest
saying d e = record { value = e.value; is = e.is; same = e.same ∙ d.same }
