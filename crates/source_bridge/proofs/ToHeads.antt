-- Heads of procedures: what the relations say, the data derives.
use Rattle.std.proofs.Common.{inr, List, [], refl}
use Rattle.chor_base.specs.declared.value.Sort.{Sort}
use Rattle.chor_lexer.specs.declared.token.Token.{Token}
use Rattle.chor_tree.specs.declared.file.Named.{Named}
use Rattle.chor_tree.specs.declared.file.ProcParam.{ProcParam}
use Rattle.chor_tree.specs.declared.file.SessionParam.{SessionParam}
use Rattle.chor_tree.specs.Source.{Procedure}
use Rattle.grammar.specs.Grammars.{Allowed, in_turn, the_first, the_second, is_empty}
use Rattle.source_grammar.specs.Grammar as sg
use Rattle.source_grammar.specs.Limits.{KeepsParam, KeepsParams, KeepsProcedure}
use Rattle.source_rows.specs.Sources.{variable, parameter, session, parameters, procedure}
use Rattle.source_rows.specs.Values.{Tables, variable_of, parameter_of, session_of, parameters_of, procedure_of}
use Rattle.source_bridge.specs.Bridge.{There, AreTables, ByData}
use Rattle.source_bridge.proofs.ToTerminals.{to_here, to_mark, to_word, to_name}
use Rattle.source_bridge.proofs.ToStatements.{to_list, to_block}
use Rattle.source_bridge.proofs.ToProtocols.{limited_list, to_sort}
use Rattle.source_bridge.proofs.FromHeads.{holder, held}

module _ (i : Tables) (z : AreTables i) (Q : Allowed) where
  pub to_variable : (ts : List Token) (x : Named × Sort) (rest : List Token) → (d : sg.VariableIs i.words ts x rest) → Unit {0} → There i ts → ByData i Q variable (variable_of i) ts x rest
  to_variable ts x rest (sg.a_variable n c s) k h =
      to_here (to_name i z Q n h) (λ n1 n2 n3 h0.
      to_here (to_mark i z Q c h0) (λ c1 c2 c3 h1.
      to_here (to_sort i z Q s h1) (λ s1 s2 s3 h2.
      record { value = _; is = (in_turn n2 (in_turn c2 s2)); same = λ j. (n3 j, s3 j); there = h2 })))

  pub to_parameter : (ts : List Token) (x : ProcParam) (rest : List Token) → (d : sg.ProcParamIs i.words ts x rest) → KeepsParam Q ts x rest d → There i ts → ByData i Q parameter (parameter_of i) ts x rest
  to_parameter ts x rest (sg.a_param n sg.no_variables) k h =
      to_here (to_name i z Q n h) (λ n1 n2 n3 h0.
      record { value = _; is = in_turn n2 (the_second is_empty); same = λ j. record { name = n3 j; vars = [] }; there = h0 })
  to_parameter ts x rest (sg.a_param n (sg.some_variables o vs c)) k h =
      to_here (to_name i z Q n h) (λ n1 n2 n3 h0.
      to_here (to_mark i z Q o h0) (λ o1 o2 o3 h1.
      to_here (limited_list i z Q (λ ts x rest d. Unit {0}) variable (variable_of i) to_variable 16 vs k h1) (λ vs1 vs2 vs3 h2.
      to_here (to_mark i z Q c h2) (λ c1 c2 c3 h3.
      record { value = _; is = in_turn n2 (the_first (in_turn o2 (in_turn vs2 c2))); same = λ j. record { name = n3 j; vars = vs3 j }; there = h3 }))))

  to_holder : (ts : List Token) (x : Named × Named) (rest : List Token) → sg.HolderIs i.words ts x rest → There i ts → ByData i Q holder (held i) ts x rest
  to_holder ts x rest (sg.a_holder r a p) h =
      to_here (to_name i z Q r h) (λ r1 r2 r3 h0.
      to_here (to_mark i z Q a h0) (λ a1 a2 a3 h1.
      to_here (to_name i z Q p h1) (λ p1 p2 p3 h2.
      record { value = _; is = (in_turn r2 (in_turn a2 p2)); same = λ j. (r3 j, p3 j); there = h2 })))

  pub to_session : (ts : List Token) (x : SessionParam) (rest : List Token) → (d : sg.SessionParamIs i.words ts x rest) → Unit {0} → There i ts → ByData i Q session (session_of i) ts x rest
  to_session ts x rest (sg.a_session n c p d s o hs q) k h =
      to_here (to_name i z Q n h) (λ n1 n2 n3 h0.
      to_here (to_mark i z Q c h0) (λ c1 c2 c3 h1.
      to_here (to_name i z Q p h1) (λ p1 p2 p3 h2.
      to_here (to_mark i z Q d h2) (λ d1 d2 d3 h3.
      to_here (to_name i z Q s h3) (λ s1 s2 s3 h4.
      to_here (to_mark i z Q o h4) (λ o1 o2 o3 h5.
      to_here (to_list i z Q holder (held i) to_holder hs h5) (λ hs1 hs2 hs3 h6.
      to_here (to_mark i z Q q h6) (λ q1 q2 q3 h7.
      record { value = _; is = (in_turn n2 (in_turn c2 (in_turn p2 (in_turn d2 (in_turn s2 (in_turn o2 (in_turn hs2 q2))))))); same = λ j. record { name = n3 j; protocol = p3 j; state = s3 j; holders = hs3 j }; there = h7 }))))))))

  pub to_parameters : {ts rest : List Token} {ps : List ProcParam} {ss : List SessionParam} → (d : sg.ParamsAre i.words ts ps ss rest) → KeepsParams Q d → There i ts → ByData i Q parameters (parameters_of i) ts (ps, ss) rest
  to_parameters sg.no_params k h = record { value = inr tt; is = the_second is_empty; same = refl; there = h }
  to_parameters (sg.some_params ps sg.no_sessions) k h =
      to_here (limited_list i z Q (KeepsParam Q) parameter (parameter_of i) to_parameter 8 ps k.0 h) (λ ps1 ps2 ps3 h0.
      record { value = _; is = the_first (in_turn ps2 (the_second is_empty)); same = λ j. (ps3 j, []); there = h0 })
  to_parameters (sg.some_params ps (sg.some_sessions m ss)) k h =
      to_here (limited_list i z Q (KeepsParam Q) parameter (parameter_of i) to_parameter 8 ps k.0 h) (λ ps1 ps2 ps3 h0.
      to_here (to_mark i z Q m h0) (λ m1 m2 m3 h1.
      to_here (limited_list i z Q (λ ts x rest d. Unit {0}) session (session_of i) to_session 8 ss k.1 h1) (λ ss1 ss2 ss3 h2.
      record { value = _; is = the_first (in_turn ps2 (the_first (in_turn m2 ss2))); same = λ j. (ps3 j, ss3 j); there = h2 })))

  pub to_procedure : {ts rest : List Token} {p : Procedure} → (d : sg.ProcedureIs i.words ts p rest) → KeepsProcedure Q d → There i ts → ByData i Q procedure (procedure_of i) ts p rest
  to_procedure (sg.a_procedure w n o ps c b) k h =
      to_here (to_word i z Q w h) (λ w1 w2 w3 h0.
      to_here (to_name i z Q n h0) (λ n1 n2 n3 h1.
      to_here (to_mark i z Q o h1) (λ o1 o2 o3 h2.
      to_here (to_parameters ps k.0 h2) (λ ps1 ps2 ps3 h3.
      to_here (to_mark i z Q c h3) (λ c1 c2 c3 h4.
      to_here (to_block i z Q 64 1024 b k.1 h4) (λ b1 b2 b3 h5.
      record { value = _; is = (in_turn w2 (in_turn n2 (in_turn o2 (in_turn ps2 (in_turn c2 b2))))); same = λ j. record { name = n3 j; params = (ps3 j).0; sessions = (ps3 j).1; body = b3 j }; there = h5 }))))))
