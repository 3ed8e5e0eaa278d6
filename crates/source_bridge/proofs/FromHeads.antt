-- Heads of procedures: what the data derives, the relations say.
use Rattle.std.proofs.Common.{◌≡◌, List, [], ◌∷◌}
use Rattle.chor_lexer.specs.declared.token.Token.{Token}
use Rattle.chor_lexer.specs.Lexeme.{Lexeme}
use Rattle.chor_tree.specs.declared.file.Named.{Named}
use Rattle.grammar.specs.Grammars.{Allowed, Derives, row, in_turn, the_first, the_second, is_empty}
use Rattle.source_grammar.specs.Grammar as sg
use Rattle.source_grammar.specs.Limits.{KeepsParam, KeepsParams, KeepsProcedure}
use Rattle.chor_lexer.specs.declared.mark.Mark.TheVariants.{Assign}
use Rattle.source_rows.specs.Sources.{Source, NAME, mark, variable, parameter, session, parameters, procedure}
use Rattle.source_rows.specs.Values.{Tables, Derived, rules, name, variable_of, parameter_of, session_of, parameters_of, procedure_of}
use Rattle.source_bridge.specs.Bridge.{lexed, There, AreTables, ByRelation}
use Rattle.source_bridge.proofs.Terminals.{from_mark, from_word, from_name}
use Rattle.source_bridge.proofs.FromStatements.{from_here, from_list, from_any, from_block}
use Rattle.source_bridge.proofs.FromProtocols.{from_sort}

abbrev pub holder : Source
holder = row (NAME ∷ mark Assign ∷ NAME ∷ [])

abbrev pub held : Tables → Derived holder → Named × Named
held i h = (name i h.0, name i h.1.1)

module _ (i : Tables) (z : AreTables i) (Q : Allowed) where
  pub from_variable : (ls us : List Lexeme) (x : Derived variable) (ts : List Token) → Derives (rules i) Q variable ls x us → ls ≡ lexed i ts → There i ts → ByRelation i (λ a y b. sg.VariableIs i.words a y b × Unit {0}) ts (variable_of i x) us
  from_variable ls us _ ts (in_turn n (in_turn c s)) e h =
      from_here i z Q (from_name i z Q n e h) (λ t0 n' e0 h0.
      from_here i z Q (from_mark i z Q c e0 h0) (λ t1 c' e1 h1.
      from_here i z Q (from_sort i z Q s e1 h1) (λ t2 s' e2 h2.
      record { rest = t2; is = (sg.a_variable n' c' s', tt); left = e2; there = h2 })))

  pub from_parameter : (ls us : List Lexeme) (x : Derived parameter) (ts : List Token) → Derives (rules i) Q parameter ls x us → ls ≡ lexed i ts → There i ts → ByRelation i (λ a y b. (d : sg.ProcParamIs i.words a y b) × KeepsParam Q a y b d) ts (parameter_of i x) us
  from_parameter ls us _ ts (in_turn n (the_second is_empty)) e h =
      from_here i z Q (from_name i z Q n e h) (λ t0 n' e0 h0.
      record { rest = t0; is = (sg.a_param n' sg.no_variables, tt); left = e0; there = h0 })
  from_parameter ls us _ ts (in_turn n (the_first (in_turn o (in_turn vs c)))) e h =
      from_here i z Q (from_name i z Q n e h) (λ t0 n' e0 h0.
      from_here i z Q (from_mark i z Q o e0 h0) (λ t1 o' e1 h1.
      from_here i z Q (from_list i z Q (λ ts x rest d. Unit {0}) variable (variable_of i) from_variable 16 _ _ _ _ vs e1 h1) (λ t2 vs' e2 h2.
      from_here i z Q (from_mark i z Q c e2 h2) (λ t3 c' e3 h3.
      record { rest = t3; is = (sg.a_param n' (sg.some_variables o' vs'.0 c'), vs'.1); left = e3; there = h3 }))))

  pub from_holder : (ls us : List Lexeme) (x : Derived holder) (ts : List Token) → Derives (rules i) Q holder ls x us → ls ≡ lexed i ts → There i ts → ByRelation i (λ a y b. sg.HolderIs i.words a y b) ts ((held i) x) us
  from_holder ls us _ ts (in_turn r (in_turn a p)) e h =
      from_here i z Q (from_name i z Q r e h) (λ t0 r' e0 h0.
      from_here i z Q (from_mark i z Q a e0 h0) (λ t1 a' e1 h1.
      from_here i z Q (from_name i z Q p e1 h1) (λ t2 p' e2 h2.
      record { rest = t2; is = sg.a_holder r' a' p'; left = e2; there = h2 })))

  pub from_session : (ls us : List Lexeme) (x : Derived session) (ts : List Token) → Derives (rules i) Q session ls x us → ls ≡ lexed i ts → There i ts → ByRelation i (λ a y b. sg.SessionParamIs i.words a y b × Unit {0}) ts (session_of i x) us
  from_session ls us _ ts (in_turn n (in_turn c (in_turn p (in_turn d (in_turn s (in_turn o (in_turn hs q))))))) e h =
      from_here i z Q (from_name i z Q n e h) (λ t0 n' e0 h0.
      from_here i z Q (from_mark i z Q c e0 h0) (λ t1 c' e1 h1.
      from_here i z Q (from_name i z Q p e1 h1) (λ t2 p' e2 h2.
      from_here i z Q (from_mark i z Q d e2 h2) (λ t3 d' e3 h3.
      from_here i z Q (from_name i z Q s e3 h3) (λ t4 s' e4 h4.
      from_here i z Q (from_mark i z Q o e4 h4) (λ t5 o' e5 h5.
      from_here i z Q (from_any i z Q holder (held i) from_holder hs e5 h5) (λ t6 hs' e6 h6.
      from_here i z Q (from_mark i z Q q e6 h6) (λ t7 q' e7 h7.
      record { rest = t7; is = (sg.a_session n' c' p' d' s' o' hs' q', tt); left = e7; there = h7 }))))))))

  pub from_parameters : (ls us : List Lexeme) (x : Derived parameters) (ts : List Token) → Derives (rules i) Q parameters ls x us → ls ≡ lexed i ts → There i ts → ByRelation i (λ a y b. (d : sg.ParamsAre i.words a y.0 y.1 b) × KeepsParams Q d) ts (parameters_of i x) us
  from_parameters ls us _ ts (the_second is_empty) e h = record { rest = ts; is = (sg.no_params, tt); left = e; there = h }
  from_parameters ls us _ ts (the_first (in_turn ps (the_second is_empty))) e h =
      from_here i z Q (from_list i z Q (KeepsParam Q) parameter (parameter_of i) from_parameter 8 _ _ _ _ ps e h) (λ t0 ps' e0 h0.
      record { rest = t0; is = (sg.some_params ps'.0 sg.no_sessions, (ps'.1, tt)); left = e0; there = h0 })
  from_parameters ls us _ ts (the_first (in_turn ps (the_first (in_turn m ss)))) e h =
      from_here i z Q (from_list i z Q (KeepsParam Q) parameter (parameter_of i) from_parameter 8 _ _ _ _ ps e h) (λ t0 ps' e0 h0.
      from_here i z Q (from_mark i z Q m e0 h0) (λ t1 m' e1 h1.
      from_here i z Q (from_list i z Q (λ ts x rest d. Unit {0}) session (session_of i) from_session 8 _ _ _ _ ss e1 h1) (λ t2 ss' e2 h2.
      record { rest = t2; is = (sg.some_params ps'.0 (sg.some_sessions m' ss'.0), (ps'.1, ss'.1)); left = e2; there = h2 })))

  pub from_procedure : (ls us : List Lexeme) (x : Derived procedure) (ts : List Token) → Derives (rules i) Q procedure ls x us → ls ≡ lexed i ts → There i ts → ByRelation i (λ a y b. (d : sg.ProcedureIs i.words a y b) × KeepsProcedure Q d) ts (procedure_of i x) us
  from_procedure ls us _ ts (in_turn w (in_turn n (in_turn o (in_turn ps (in_turn c b))))) e h =
      from_here i z Q (from_word i z Q w e h) (λ t0 w' e0 h0.
      from_here i z Q (from_name i z Q n e0 h0) (λ t1 n' e1 h1.
      from_here i z Q (from_mark i z Q o e1 h1) (λ t2 o' e2 h2.
      from_here i z Q (from_parameters _ _ _ _ ps e2 h2) (λ t3 ps' e3 h3.
      from_here i z Q (from_mark i z Q c e3 h3) (λ t4 c' e4 h4.
      from_here i z Q (from_block i z Q 64 1024 b e4 h4) (λ t5 b' e5 h5.
      record { rest = t5; is = (sg.a_procedure w' n' o' ps'.0 c' b'.0, (ps'.1, b'.1)); left = e5; there = h5 }))))))
