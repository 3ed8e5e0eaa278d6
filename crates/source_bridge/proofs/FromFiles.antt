-- Headers, what stands before main, main and whole files: what the data derives, the relations say.
use Rattle.std.proofs.Common.{◌≡◌, ℕ, pos, negsuc, true, false, List, [], ◌∷◌, None, refl, sym, ap, ◌∙◌, arith}
use Rattle.std.specs.Prelude.{◌==◌}
use Rattle.std.proofs.lemmas.Bool.Decides.{nat_tests}
use Rattle.chor_base.specs.declared.rule.Rule.TheVariants.{P3}
use Rattle.chor_lexer.specs.declared.token.Kind.{Kind}
use Rattle.chor_lexer.specs.declared.token.Kind.TheVariants as kind
use Rattle.chor_lexer.specs.declared.token.Token.{Token}
use Rattle.chor_lexer.specs.Lexeme.{Symbol, word, number, text, mark, last, Lexeme}
use Rattle.chor_tree.specs.Headers.{is_capacity}
use Rattle.grammar.specs.Classes.{exactly, a_number_in, a_number_out, the_end, is_in, is_of}
use Rattle.grammar.specs.Grammars.{Allowed, Derives, one, many, optional, is_empty, is_one, in_turn, the_first, the_second, none_of_many, one_of_many, with_room}
use Rattle.source_grammar.specs.Grammar as sg
use Rattle.source_grammar.specs.Limits.{Keeps, KeepsAnyNames, KeepsCapacity, KeepsHeader, KeepsItems}
use Rattle.source_rows.specs.Sources.{item, processes, declared, header, file}
use Rattle.source_rows.specs.Values.{Tables, Derived, rules, number_of, items_of, processes_of, capacity_of, header_of, source_of}
use Rattle.source_bridge.specs.Bridge.{symbol_of, lexed, kind_there, There, AreTables, ByRelation}
use Rattle.source_bridge.proofs.Terminals.{from_mark, from_word, first_of, of_token, room_from}
use Rattle.source_bridge.proofs.FromStatements.{from_here, from_kept, from_block}
use Rattle.source_bridge.proofs.FromProtocols.{from_names, from_protocol}
use Rattle.source_bridge.proofs.FromServices.{from_service}
use Rattle.source_bridge.proofs.FromHeads.{from_procedure}

-- ---- numbers

equal_to : (n m : ℕ) → (n == m) ≡ true → m ≡ n
equal_to n m h = grind (arith, nat_tests)

in_range : (n : ℕ) → is_in 1 999999 n ≡ true → is_capacity n ≡ false → ⊥
in_range n h f = grind (arith, nat_tests)

last_is : (i : Tables) (k : Kind) → is_of the_end (symbol_of i k) ≡ true → k ≡ kind.Last
last_is i kind.Last h = refl
last_is i (kind.Number m) h = absurd cc
last_is i (kind.Word m) h = absurd cc
last_is i (kind.Text m) h = absurd cc
last_is i (kind.Mark m) h = absurd cc

none_left : (i : Tables) (ts : List Token) → [] ≡ lexed i ts → ts ≡ []
none_left i [] e = refl
none_left i (t ∷ ts) e = absurd cc

module _ (i : Tables) (z : AreTables i) (Q : Allowed) where
  -- the token is the number that its lexeme tells
  number_there : (k : Kind) (n : ℕ) → kind_there i k ≡ true → symbol_of i k ≡ number n → k ≡ kind.Number (pos n)
  number_there (kind.Number (pos m)) n t e = let f : m ≡ n = cc in ap (λ (x : ℕ). kind.Number (pos x)) f
  number_there (kind.Number (negsuc m)) n t e = absurd cc
  number_there (kind.Word m) n t e = absurd cc
  number_there (kind.Text m) n t e = absurd cc
  number_there (kind.Mark m) n t e = absurd cc
  number_there kind.Last n t e = absurd cc

  two : (s : Symbol) → is_of (exactly 2) s ≡ true → s ≡ number 2
  two (number n) h = ap number (equal_to 2 n h)
  two (word w) h = absurd cc
  two (text w) h = absurd cc
  two (mark m) h = absurd cc
  two last h = absurd cc

  within_range : (s : Symbol) → is_of (a_number_in 1 999999) s ≡ true → (s ≡ number (number_of i s)) × (is_capacity (number_of i s) ≡ false → ⊥)
  within_range (number n) h = (refl, in_range n h)
  within_range (word w) h = absurd cc
  within_range (text w) h = absurd cc
  within_range (mark m) h = absurd cc
  within_range last h = absurd cc

  beyond_range : (s : Symbol) → is_of (a_number_out 1 999999) s ≡ true → s ≡ number (number_of i s)
  beyond_range (number n) h = refl
  beyond_range (word w) h = absurd cc
  beyond_range (text w) h = absurd cc
  beyond_range (mark m) h = absurd cc
  beyond_range last h = absurd cc

  from_number : (l : Lexeme) (n : ℕ) {ls us : List Lexeme} {ts : List Token} → l.symbol ≡ number n → ls ≡ l ∷ us → ls ≡ lexed i ts → There i ts → ByRelation i (λ a y b. sg.NumberIs y a b) ts n us
  from_number l n {ls} {us} {ts} s p e h =
      let f = first_of i ts ls l us e p h in
      record { rest = f.rest; is = record { token = f.token; parts = f.parts; is = number_there f.token.kind n f.known (sym (ap (λ (x : Lexeme). x.symbol) f.is) ∙ s) }; left = f.left; there = f.there }

  -- ---- headers

  from_declared : {ls us : List Lexeme} {x : Derived declared} {ts : List Token} → Derives (rules i) Q declared ls x us → ls ≡ lexed i ts → There i ts → ByRelation i (λ a y b. (d : sg.CapacityIs i.words a y.0 y.1 b) × KeepsCapacity Q d) ts (capacity_of i x) us
  from_declared {ts = ts} (the_second is_empty) e h = record { rest = ts; is = (sg.no_capacity, tt); left = e; there = h }
  from_declared (the_first (in_turn w (in_turn (the_first (is_one l p j)) m))) e h =
      let r = within_range l.symbol j in
      from_here i z Q (from_kept i z Q w e h) (λ t0 w' e0 h0.
      from_here i z Q (from_number l _ r.0 p e0 h0) (λ t1 n' e1 h1.
      from_here i z Q (from_mark i z Q m e1 h1) (λ t2 m' e2 h2.
      record { rest = t2; is = (sg.a_capacity w'.1 w'.0 n' m', λ f. absurd (r.1 f)); left = e2; there = h2 })))
  from_declared (the_first (in_turn w (in_turn (the_second (with_room {ts = us} r (is_one l p j))) m))) e h =
      from_here i z Q (from_kept i z Q w e h) (λ t0 w' e0 h0.
      from_here i z Q (from_number l _ (beyond_range l.symbol j) p e0 h0) (λ t1 n' e1 h1.
      from_here i z Q (from_mark i z Q m e1 h1) (λ t2 m' e2 h2.
      record { rest = t2; is = (sg.a_capacity w'.1 w'.0 n' m', λ f. room_from i z Q P3 0 t0 us e0 r refl); left = e2; there = h2 })))

  from_header : {ls us : List Lexeme} {x : Derived (optional header)} {ts : List Token} → Derives (rules i) Q (optional header) ls x us → ls ≡ lexed i ts → There i ts → ByRelation i (λ a y b. (d : sg.HeaderIs i.words a y b) × KeepsHeader Q d) ts (header_of i x) us
  from_header {ts = ts} (the_second is_empty) e h = record { rest = ts; is = (sg.without_header, tt); left = e; there = h }
  from_header (the_first (in_turn w (in_turn (is_one l p j) (in_turn m d)))) e h =
      from_here i z Q (from_word i z Q w e h) (λ t0 w' e0 h0.
      from_here i z Q (from_number l 2 (two l.symbol j) p e0 h0) (λ t1 n' e1 h1.
      from_here i z Q (from_mark i z Q m e1 h1) (λ t2 m' e2 h2.
      from_here i z Q (from_declared d e2 h2) (λ t3 d' e3 h3.
      record { rest = t3; is = (sg.a_header w' n' m' d'.0, d'.1); left = e3; there = h3 }))))

  -- ---- files

  from_items : {ls us : List Lexeme} {xs : List (Derived item)} {ts : List Token} → Derives (rules i) Q (many P3 None item) ls xs us → ls ≡ lexed i ts → There i ts → ByRelation i (λ a y b. (d : sg.ItemsAre i.words a y b) × KeepsItems Q d) ts (items_of i xs) us
  from_items {ts = ts} none_of_many e h = record { rest = ts; is = (sg.no_item, tt); left = e; there = h }
  from_items (one_of_many r (the_first d) m) e h =
      from_here i z Q (from_protocol i z Q d e h) (λ t0 d' e0 h0.
      from_here i z Q (from_items m e0 h0) (λ t1 m' e1 h1.
      record { rest = t1; is = (sg.protocol_first d'.0 m'.0, (d'.1, m'.1)); left = e1; there = h1 }))
  from_items (one_of_many r (the_second (the_first d)) m) e h =
      from_here i z Q (from_service i z Q d e h) (λ t0 d' e0 h0.
      from_here i z Q (from_items m e0 h0) (λ t1 m' e1 h1.
      record { rest = t1; is = (sg.service_first d'.0 m'.0, (d'.1, m'.1)); left = e1; there = h1 }))
  from_items (one_of_many r (the_second (the_second d)) m) e h =
      from_here i z Q (from_procedure i z Q _ _ _ _ d e h) (λ t0 d' e0 h0.
      from_here i z Q (from_items m e0 h0) (λ t1 m' e1 h1.
      record { rest = t1; is = (sg.procedure_first d'.0 m'.0, (d'.1, m'.1)); left = e1; there = h1 }))

  from_processes : {ls us : List Lexeme} {x : Derived processes} {ts : List Token} → Derives (rules i) Q processes ls x us → ls ≡ lexed i ts → There i ts → ByRelation i (λ a y b. (d : sg.AnyNamesAre i.words a y b) × KeepsAnyNames Q 64 d) ts (processes_of i x) us
  from_processes {ts = ts} (the_second is_empty) e h = record { rest = ts; is = (sg.no_names, tt); left = e; there = h }
  from_processes (the_first d) e h =
      from_here i z Q (from_names i z Q 64 d e h) (λ t0 d' e0 h0.
      record { rest = t0; is = (sg.some_names d'.0, d'.1); left = e0; there = h0 })

  from_end : {ls : List Lexeme} {x : Unit {0}} {ts : List Token} → Derives (rules i) Q (one the_end) ls x [] → ls ≡ lexed i ts → There i ts → sg.EndIs ts
  from_end {ts = ts} (is_one {ts = ls} l p j) e h =
      let f = first_of i ts ls l [] e p h in
      record { token = f.token; alone = f.parts ∙ ap (λ (x : List Token). f.token ∷ x) (none_left i f.rest f.left); last = last_is i f.token.kind (of_token i the_end l f.token f.is j) }

  pub from_file : {ls : List Lexeme} {x : Derived file} {ts : List Token} → Derives (rules i) Q file ls x [] → ls ≡ lexed i ts → There i ts → (d : sg.FileIs i.words ts (source_of i x)) × Keeps Q d
  from_file (in_turn g (in_turn xs (in_turn (in_turn w (in_turn o (in_turn ps (in_turn c b)))) q))) e h =
      from_here i z Q (from_header g e h) (λ t0 g' e0 h0.
      from_here i z Q (from_items xs e0 h0) (λ t1 xs' e1 h1.
      from_here i z Q (from_word i z Q w e1 h1) (λ t2 w' e2 h2.
      from_here i z Q (from_mark i z Q o e2 h2) (λ t3 o' e3 h3.
      from_here i z Q (from_processes ps e3 h3) (λ t4 ps' e4 h4.
      from_here i z Q (from_mark i z Q c e4 h4) (λ t5 c' e5 h5.
      from_here i z Q (from_block i z Q 64 1024 b e5 h5) (λ t6 b' e6 h6.
      (sg.a_file g'.0 xs'.0 w' o' ps'.0 c' b'.0 (from_end q e6 h6), (g'.1, xs'.1, ps'.1, b'.1)))))))))
