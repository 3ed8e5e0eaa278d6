-- The text of endpoint programs is cut into the tokens of their symbols.
use Rattle.std.proofs.Common.{◌≡◌, ℕ, List, [], ◌∷◌, ◌++◌, map, refl, sym, ap, ◌∙◌, subst, arith, codes}
use Rattle.std.specs.Prelude.{pos}
use Rattle.std.specs.List.{flat_map}
use Rattle.std.proofs.lemmas.Fmt.{decimal_digit}
use Rattle.std.proofs.lemmas.List.{append-nil, map-append}
use Rattle.chor_base.specs.declared.names.NameId.{NameId}
use Rattle.chor_base.specs.declared.rule.Place.{Place}
use Rattle.chor_base.specs.declared.rule.Rule.{Rule}
use Rattle.chor_base.specs.declared.value.Value.TheVariants as value
use Rattle.chor_base.specs.Expr.{Term, Constant}
use Rattle.chor_base.specs.Writing.{name_in}
use Rattle.chor_lexer.specs.declared.mark.Mark.TheVariants.{OpenBrace, CloseBrace, Semicolon, Bar}
use Rattle.chor_lexer.specs.Cut.{start}
use Rattle.chor_lexer.specs.Lexeme.{Symbol, Lexeme, word, number, mark, last}
use Rattle.chor_lexer.specs.Refusal.{Refuses}
use Rattle.chor_lexer.specs.Tokens.{IsTokens}
use Rattle.chor_lexer.proofs.Cuts.{one_reading, not_both}
use Rattle.chor_lexer.proofs.Spelling.{name_of}
use Rattle.canonical_laws.specs.Symbols.{listed, listed_after}
use Rattle.canonical_laws.specs.ReadsBack.{HasSymbols}
use Rattle.canonical_laws.proofs.Cutting.{Whole, whole_none, Free, Bound, Opens, opens_by, opens_none, free_free, free_bound, bound_bound, bound_free, bound_of, free_none, space, line_end, term_cut, a_word, keyword, open_brace, close_brace, open_paren, close_paren, open_bracket, close_bracket, semicolon, bar, comma_space, list_cut, each_cut}
use Rattle.endpoint_code.specs.declared.code.CodeId.{CodeId}
use Rattle.endpoint_code.specs.declared.endpoints.Channel.{Channel}
use Rattle.endpoint_code.specs.declared.endpoints.Procedure.{Procedure}
use Rattle.endpoint_code.specs.declared.endpoints.ServiceCode.{ServiceCode}
use Rattle.endpoint_code.specs.declared.endpoints.Process.{Process}
use Rattle.endpoint_code.specs.declared.endpoints.Endpoints.{Endpoints}
use Rattle.endpoint_code.specs.Trees.{Action, Joins, Sends, Receives, Selects, Gives, Gains, Sets, Shows, Asks, CodeTree, Does, Offers, Tests, Calls, Ends, Arms, NoArms, Arm, code_at}
use Rattle.endpoint_text.specs.Text as text
use Rattle.endpoint_text.specs.Text.{spaced, term_text, action_text, braced, arm_text, body_text, channel_line, procedure_line, service_line, process_line, endpoints_text}
use Rattle.endpoint_laws.specs.Ordered.{in_order}
use Rattle.endpoint_laws.specs.Symbols.{name, names, expression, action_symbols, code_symbols, arms_symbols, body_symbols, channel_symbols, procedure_symbols, service_symbols, process_symbols, endpoints_symbols}
use Rattle.endpoint_laws.specs.Spelled.{IsNamed, AreNamed, IsWritable, IsActionSpelled, IsCodeSpelled, AreArmsSpelled, IsBodySpelled, IsChannelSpelled, IsProcedureSpelled, IsServiceSpelled, IsProcessSpelled, AreSpelled}
use Rattle.endpoint_laws.proofs.SymbolOrdering.{plain_text, plain_arms, ordered_text, ordered_spelled}

module _ (e : Endpoints) where
  -- ---- names and expressions

  name_cut : (x : NameId) → IsNamed e x → Bound (name_in e.names x) (name e x)
  name_cut x h = subst (λ (v : List ℕ). Bound v (λ ss. word v ∷ ss)) (sym (name_of e.names x h.spelling h.is)) (a_word h.lexeme h.short)

  spaced_cut : (xs : List NameId) → AreNamed e xs → Bound (spaced e xs) (names e xs)
  spaced_cut [] h = bound_of free_none
  spaced_cut (x ∷ xs) h = bound_bound (free_bound space (name_cut x h.0)) (spaced_cut xs h.1) (opens xs)
    where
      opens : (ys : List NameId) → Opens (spaced e ys)
      opens [] = opens_none
      opens (y ∷ ys) = opens_by refl

  listed_cut : (xs : List NameId) → AreNamed e xs → Bound (text.listed e xs) (listed (name e) xs)
  listed_cut xs h = list_cut {P = IsNamed e} name_cut xs h

  expression_cut : (t : Term) → IsWritable e t → Bound (term_text e t) (expression e t)
  expression_cut t ok = term_cut e.names e.texts t ok

  -- ---- code

  -- a word and names, each after a space
  words_cut : (w : List ℕ) {f : List Symbol → List Symbol} → Bound w f → (x : NameId) (xs : List NameId) → AreNamed e (x ∷ xs) → Bound (w ++ spaced e (x ∷ xs)) (λ more. f (names e (x ∷ xs) more))
  words_cut w first x xs h = bound_bound first (spaced_cut (x ∷ xs) h) (opens_by refl)

  action_cut : (a : Action) → IsActionSpelled e a → Bound (action_text e a) (action_symbols e a)
  action_cut (Joins c r k) h =
      let channel = bound_free (words_cut (codes "join") (keyword (codes "join") refl) c [] (h.0, tt)) open_bracket refl in
      let role = bound_free (free_bound channel (name_cut r h.1)) (free_free close_bracket open_paren) refl in
      bound_of (bound_free (free_bound role (name_cut k h.2)) close_paren refl)
  action_cut (Sends k b t) h = free_bound (bound_free (words_cut (codes "send") (keyword (codes "send") refl) k (b ∷ []) (h.0, (h.1, tt))) space refl) (expression_cut t h.2)
  action_cut (Receives k a x) h = words_cut (codes "recv") (keyword (codes "recv") refl) k (a ∷ x ∷ []) (h.0, (h.1, (h.2, tt)))
  action_cut (Selects k b l) h = words_cut (codes "pick") (keyword (codes "pick") refl) k (b ∷ l ∷ []) (h.0, (h.1, (h.2, tt)))
  action_cut (Gives k b x) h = words_cut (codes "give") (keyword (codes "give") refl) k (b ∷ x ∷ []) (h.0, (h.1, (h.2, tt)))
  action_cut (Gains k a x) h = words_cut (codes "gain") (keyword (codes "gain") refl) k (a ∷ x ∷ []) (h.0, (h.1, (h.2, tt)))
  action_cut (Sets x t) h = free_bound (bound_free (words_cut (codes "set") (keyword (codes "set") refl) x [] (h.0, tt)) space refl) (expression_cut t h.1)
  action_cut (Shows t) h = free_bound (bound_free (keyword (codes "show") refl) space refl) (expression_cut t h)
  action_cut (Asks x f l r) h =
      let head = bound_free (words_cut (codes "host") (keyword (codes "host") refl) x (f ∷ []) (h.0, (h.1, tt))) open_paren refl in
      let left = bound_free (free_bound head (expression_cut l h.2)) comma_space refl in
      bound_of (bound_free (free_bound left (expression_cut r h.3)) close_paren refl)

  braced_cut : {t : List ℕ} {f : List Symbol → List Symbol} → Bound t f → Free (braced t) (λ more. mark OpenBrace ∷ f (mark CloseBrace ∷ more))
  braced_cut h = bound_free (free_bound (free_free open_brace space) h) (free_free space close_brace) refl

  mutual
    code_cut : (c : CodeTree) → IsCodeSpelled e c → Bound (plain_text e c) (code_symbols e c)
    code_cut (Does a rest) h = free_bound (bound_free (action_cut a h.0) (free_free semicolon space) refl) (code_cut rest h.1)
    code_cut (Offers k a arms) h =
        let head = bound_free (words_cut (codes "branch") (keyword (codes "branch") refl) k (a ∷ []) (h.0, (h.1, tt))) (free_free space (free_free open_brace space)) refl in
        bound_of (free_free (free_free head (arms_cut arms h.2)) close_brace)
    code_cut (Tests t first second) h =
        let head = bound_free (free_bound (bound_free (keyword (codes "if") refl) space refl) (expression_cut t h.0)) space refl in
        let others = free_free space (bound_free (keyword (codes "else") refl) space refl) in
        bound_of (free_free (free_free (free_free head (braced_cut (code_cut first h.1))) others) (braced_cut (code_cut second h.2)))
    code_cut (Calls f p ss) h =
        let head = bound_free (words_cut (codes "call") (keyword (codes "call") refl) f (p ∷ []) (h.0, (h.1, tt))) (free_free space open_paren) refl in
        bound_of (bound_free (free_bound head (listed_cut ss h.2)) close_paren refl)
    code_cut Ends h = keyword (codes "end") refl

    arms_cut : (arms : Arms) → AreArmsSpelled e arms → Free (flat_map arm_text (plain_arms e arms)) (arms_symbols e arms)
    arms_cut NoArms h = free_none
    arms_cut (Arm l c rest) h =
        free_free (free_free (free_free (bound_free (name_cut l h.0) space refl) (braced_cut (code_cut c h.1))) space) (arms_cut rest h.2)

  -- a body, to the end of its line
  body_cut : (id : CodeId) → IsBodySpelled e id → Free (body_text e id) (body_symbols e id)
  body_cut id h =
      let c = code_at e.code.nodes id in
      let printed = subst (λ (t : List ℕ). Bound t (code_symbols e (in_order e.names c))) (ordered_text e c) (code_cut (in_order e.names c) (ordered_spelled e c h)) in
      free_free (free_free space (braced_cut printed)) line_end

  -- ---- units

  serving_cut : (xs : List NameId) → AreNamed e xs → Bound (text.serving e xs) (listed_after (mark Bar) (name e) xs)
  serving_cut [] h = bound_of free_none
  serving_cut (x ∷ xs) h = free_bound (free_free space bar) (listed_cut (x ∷ xs) h)

  serving_opens : (xs : List NameId) → Opens (text.serving e xs)
  serving_opens [] = opens_none
  serving_opens (x ∷ xs) = opens_by refl

  channel_cut : (c : Channel) → IsChannelSpelled e c → Free (channel_line e c) (channel_symbols e c)
  channel_cut c h =
      let head = bound_free (words_cut (codes "channel") (keyword (codes "channel") refl) c.name [] (h.0, tt)) (free_free space open_paren) refl in
      let roles = bound_bound (free_bound head (listed_cut c.active h.1)) (serving_cut c.serve h.2) (serving_opens c.serve) in
      free_free (bound_free roles (free_free close_paren semicolon) refl) line_end

  procedure_cut : (p : Procedure) → IsProcedureSpelled e p → Free (procedure_line e p) (procedure_symbols e p)
  procedure_cut p h =
      let head = bound_free (words_cut (codes "procedure") (keyword (codes "procedure") refl) p.name (p.param ∷ []) (h.0, (h.1, tt))) (free_free space open_paren) refl in
      free_free (bound_free (free_bound head (listed_cut p.sessions h.2)) close_paren refl) (body_cut p.body h.3)

  service_cut : (s : ServiceCode) → IsServiceSpelled e s → Free (service_line e s) (service_symbols e s)
  service_cut s h =
      let head = bound_free (words_cut (codes "service") (keyword (codes "service") refl) s.channel [] (h.0, tt)) open_bracket refl in
      free_free (bound_free (free_bound head (name_cut s.role h.1)) close_bracket refl) (body_cut s.body h.2)

  process_cut : (p : Process) → IsProcessSpelled e p → Free (process_line e p) (process_symbols e p)
  process_cut p h = bound_free (words_cut (codes "process") (keyword (codes "process") refl) p.name [] (h.0, tt)) (body_cut p.body h.1) refl

  -- ---- whole programs

  one : Bound (codes "1") (λ more. number 1 ∷ more)
  one = subst (λ (t : List ℕ). Bound t (λ more. number 1 ∷ more)) (decimal_digit 1 (omega arith)) (term_cut [] [] (Constant (value.Int (pos 1))) (1, refl, omega arith))

  header_cut : Free text.header (λ more. word (codes "endpoints") ∷ number 1 ∷ mark Semicolon ∷ more)
  header_cut = bound_free (keyword (codes "endpoints") refl) (free_free space (bound_free one (free_free semicolon line_end) refl)) refl

  text_cut : AreSpelled e → Whole (endpoints_text e) (endpoints_symbols e)
  text_cut h =
      let channels = each_cut {P = IsChannelSpelled e} channel_cut e.channels h.channels in
      let procedures = each_cut {P = IsProcedureSpelled e} procedure_cut e.procedures h.procedures in
      let services = each_cut {P = IsServiceSpelled e} service_cut e.services h.services in
      let processes = each_cut {P = IsProcessSpelled e} process_cut e.processes h.processes in
      let all = free_free (free_free (free_free (free_free header_cut channels) procedures) services) processes in
      subst (λ (t : List ℕ). Whole t (endpoints_symbols e)) (append-nil (endpoints_text e)) (all.cuts [] (last ∷ []) whole_none)

-- ---- the laws

pub has_symbols : (e : Endpoints) → AreSpelled e → HasSymbols (endpoints_text e) (endpoints_symbols e)
has_symbols e h =
    let w = text_cut e h in
    let c = w.cut start in
    let end : Lexeme = record { symbol = last; place = c.next } in
    (c.lexemes ++ end ∷ [], record { utf8 = w.utf8; front = c.lexemes; next = c.next; cut = c.cut; whole = refl }, map-append (λ (l : Lexeme). l.symbol) c.lexemes (end ∷ []) ∙ c.are)

pub says_them : (e : Endpoints) (ls : List Lexeme) → AreSpelled e → IsTokens (endpoints_text e) ls → map (λ l. l.symbol) ls ≡ endpoints_symbols e
says_them e ls h tokens =
    let own = has_symbols e h in
    ap (map (λ (l : Lexeme). l.symbol)) (one_reading (endpoints_text e) ls own.0 tokens own.1) ∙ own.2

pub is_taken : (e : Endpoints) (rule : Rule) (place : Place) → AreSpelled e → Refuses (endpoints_text e) rule place → ⊥
is_taken e rule place h refused = let own = has_symbols e h in not_both (endpoints_text e) own.0 rule place own.1 refused
