-- Tokens, lists, protocols, services and heads of procedures are read, or there is a token at which they are refused.
use Rattle.std.proofs.Common.{◌≡◌, ◌⊎◌, inl, inr, ◌-◌, ◌==◌, ℕ, Bool, true, false, List, [], length, Option, Some, None, refl, sym, ap, ◌∙◌, codes, bytes_eq, slice_get}
use Rattle.std.specs.List.{list_any}
use Rattle.std.specs.Prelude.{pos, negsuc}
use Rattle.std.proofs.lemmas.Bool.{eqb-true}
use Rattle.std.proofs.lemmas.Bool.Decides.{Decides-eqb}
use Rattle.std.proofs.lemmas.Slice.Eq.{bytes_eq-Decides}
use Rattle.chor_base.specs.declared.rule.Rule.TheVariants.{P1, P3}
use Rattle.chor_base.specs.declared.names.NameId.{NameId}
use Rattle.chor_lexer.specs.declared.mark.Mark.{Mark}
use Rattle.chor_lexer.specs.declared.mark.Mark.TheVariants.{OpenBrace, CloseBrace, OpenParen, CloseParen, CloseBracket, Comma, Semicolon, Colon, Bar}
use Rattle.chor_lexer.specs.declared.token.Kind.{Kind}
use Rattle.chor_lexer.specs.declared.token.Kind.TheVariants as kind
use Rattle.chor_lexer.specs.declared.token.Token.{Token}
use Rattle.chor_lexer.specs.Keywords.{keywords, HasMark}
use Rattle.chor_lexer.specs.Mark.{spelling}
use Rattle.chor_lexer.proofs.Fronts.{mark_same}
use Rattle.source_grammar.specs.Symbols.{Part, Further, Nothing, AreWhole, Then, Head}
use Rattle.source_grammar.proofs.Starts.{then_begins, nothing_apart}
use Rattle.source_grammar.proofs.DecidedTokens.{Outcome, reads, halts, Tells, tells_head, refuses_first, IsDecided, decided_same, decided_then, decided_by, decided_choice, decided_option, decided_within, decided_one, decided_times}
use Rattle.source_grammar.specs.Grammar.{NumberIs, NameIs, ArmIs, VariableIs, HolderIs, SessionParamIs}
use Rattle.source_grammar.specs.Parts.{MarkPart, WordPart, NamePart, AMark, AWord, AName, Or, OrComma, OrName, OrBar, OrSession, OrParams, IsKeyword, NamesPart, AnyNamesPart, PartPart, SortPart, PayloadPart, ArmPart, ArmsPart, StepPart, StatePart, StatesPart, ProtocolPart, ServedPart, ServicePart, VariablePart, VarsPart, VariablesPart, ProcParamPart, ProcParamsPart, HolderPart, HoldersPart, SessionParamPart, SessionParamsPart, SessionsPart, ParamsPart}
use Rattle.chor_tree.specs.Headers.{is_capacity}
use Rattle.source_grammar.specs.Files.{NumberPart, CapacityNumber}
use Rattle.source_grammar.proofs.Headers.{ANumber, SomeNumber, number_of, number_class, number_alike, WordAtIs, word_at_class, word_at_alike, capacity_number_part, capacity_number_reads, no_number_halts, no_capacity_halts}
use Rattle.source_grammar.proofs.Terminals.{mark_class, mark_alike, mark_begins, mark_stable, word_class, word_alike, word_begins, word_stable, name_class, name_alike, said_name, name_begins, name_stable, word_not_name, words_differ, nothing_among, or_left, or_right, or_stable, distinct_or, protocol_keyword, service_keyword, end_keyword, then_keyword, int_keyword, bool_keyword, text_keyword}
use Rattle.source_grammar.proofs.ItemLists.{AreItems, IsItem, CommaAnd, Commas, Roomy, Bare, roomy_items, repeated, apart_from_more}
use Rattle.source_grammar.proofs.Protocols as p
use Rattle.source_grammar.proofs.ShortParts as short
use Rattle.source_grammar.proofs.Heads as h

-- ---- tokens

pub tells_mark : (m : Mark) → Tells (AMark m)
tells_mark m = record { by = λ names t. go t t.kind refl }
  where
    marked : (t : Token) (k : Mark) → t.kind ≡ kind.Mark k → (b : Bool) → bytes_eq (spelling k) (spelling m) ≡ b → HasMark m t ⊎ (HasMark m t → ⊥)
    marked t k e true q = inl (e ∙ ap kind.Mark (mark_same k m ((bytes_eq-Decides (spelling k) (spelling m)).0 q)))
    marked t k e false q = inr (λ f.
        let both : kind.Mark k ≡ kind.Mark m = sym e ∙ f in
        let same : k ≡ m = cc in
        let yes = (bytes_eq-Decides (spelling k) (spelling m)).1 (ap spelling same) in
        absurd cc)

    go : (t : Token) (k : Kind) → t.kind ≡ k → HasMark m t ⊎ (HasMark m t → ⊥)
    go t (kind.Word n) e = inr (λ f. let both : kind.Word n ≡ kind.Mark m = sym e ∙ f in absurd cc)
    go t (kind.Number z) e = inr (λ f. let both : kind.Number z ≡ kind.Mark m = sym e ∙ f in absurd cc)
    go t (kind.Text n) e = inr (λ f. let both : kind.Text n ≡ kind.Mark m = sym e ∙ f in absurd cc)
    go t (kind.Mark k) e = marked t k e (bytes_eq (spelling k) (spelling m)) refl
    go t kind.Last e = inr (λ f. let both : kind.Last ≡ kind.Mark m = sym e ∙ f in absurd cc)

-- the word that a token is, or none
record Worded (names : List (List ℕ)) (t : Token) : Type 0 where
  number : NameId
  kind : t.kind ≡ kind.Word number
  word : List ℕ
  is : slice_get names number.0 ≡ Some word

worded : (names : List (List ℕ)) (t : Token) → Worded names t ⊎ (Worded names t → ⊥)
worded names t = go t.kind refl
  where
    found : (n : NameId) → t.kind ≡ kind.Word n → (o : Option (List ℕ)) → slice_get names n.0 ≡ o → Worded names t ⊎ (Worded names t → ⊥)
    found n e None q = inr (λ w.
        let both : kind.Word n ≡ kind.Word w.number = sym e ∙ w.kind in
        let same : n ≡ w.number = cc in
        let none : None ≡ Some w.word = sym q ∙ ap (λ (x : NameId). slice_get names x.0) same ∙ w.is in
        absurd cc)
    found n e (Some w) q = inl (record { number = n; kind = e; word = w; is = q })

    go : (k : Kind) → t.kind ≡ k → Worded names t ⊎ (Worded names t → ⊥)
    go (kind.Word n) e = found n e (slice_get names n.0) refl
    go (kind.Number z) e = inr (λ w. let both : kind.Number z ≡ kind.Word w.number = sym e ∙ w.kind in absurd cc)
    go (kind.Text n) e = inr (λ w. let both : kind.Text n ≡ kind.Word w.number = sym e ∙ w.kind in absurd cc)
    go (kind.Mark m) e = inr (λ w. let both : kind.Mark m ≡ kind.Word w.number = sym e ∙ w.kind in absurd cc)
    go kind.Last e = inr (λ w. let both : kind.Last ≡ kind.Word w.number = sym e ∙ w.kind in absurd cc)

-- it is one word
one_word : {names : List (List ℕ)} {t : Token} → (w v : Worded names t) → w.word ≡ v.word
one_word {names} w v =
    let both : kind.Word w.number ≡ kind.Word v.number = sym w.kind ∙ v.kind in
    let same : w.number ≡ v.number = cc in
    let words : Some w.word ≡ Some v.word = sym w.is ∙ ap (λ (x : NameId). slice_get names x.0) same ∙ v.is in
    cc

pub tells_word : (w : List ℕ) → Tells (AWord w)
tells_word w = record { by = λ names t. go names t (worded names t) }
  where
    compared : (names : List (List ℕ)) (t : Token) (v : Worded names t) (b : Bool) → bytes_eq v.word w ≡ b → AWord w names t ⊎ (AWord w names t → ⊥)
    compared names t v true q = inl (record { number = v.number; kind = v.kind; word = v.is ∙ ap Some ((bytes_eq-Decides v.word w).0 q) })
    compared names t v false q = inr (λ h.
        let same = one_word v (record { number = h.number; kind = h.kind; word = w; is = h.word }) in
        let yes = (bytes_eq-Decides v.word w).1 same in
        absurd cc)

    go : (names : List (List ℕ)) (t : Token) → Worded names t ⊎ (Worded names t → ⊥) → AWord w names t ⊎ (AWord w names t → ⊥)
    go names t (inl v) = compared names t v (bytes_eq v.word w) refl
    go names t (inr n) = inr (λ h. n (record { number = h.number; kind = h.kind; word = w; is = h.word }))

pub tells_name : Tells AName
tells_name = record { by = λ names t. go names t (worded names t) }
  where
    compared : (names : List (List ℕ)) (t : Token) (v : Worded names t) (b : Bool) → list_any (bytes_eq v.word) keywords ≡ b → AName names t ⊎ (AName names t → ⊥)
    compared names t v false q = inl (v.number, record { word = v.word; kind = v.kind; is = v.is; name = q })
    compared names t v true q = inr (λ h.
        let same = one_word v (record { number = h.0; kind = h.1.kind; word = h.1.word; is = h.1.is }) in
        let no : true ≡ false = sym q ∙ ap (λ (x : List ℕ). list_any (bytes_eq x) keywords) same ∙ h.1.name in
        absurd cc)

    go : (names : List (List ℕ)) (t : Token) → Worded names t ⊎ (Worded names t → ⊥) → AName names t ⊎ (AName names t → ⊥)
    go names t (inl v) = compared names t v (list_any (bytes_eq v.word) keywords) refl
    go names t (inr n) = inr (λ h. n (record { number = h.0; kind = h.1.kind; word = h.1.word; is = h.1.is }))

pub tells_or : {F G : Further} → Tells F → Tells G → Tells (Or F G)
tells_or {F} {G} f g = record { by = λ names t. go names t (f.by names t) (g.by names t) }
  where
    go : (names : List (List ℕ)) (t : Token) → F names t ⊎ (F names t → ⊥) → G names t ⊎ (G names t → ⊥) → Or F G names t ⊎ (Or F G names t → ⊥)
    go names t (inl x) y = inl (inl x)
    go names t (inr x) (inl y) = inl (inr y)
    go names t (inr x) (inr y) = inr (λ k. neither x y k)
      where
        neither : (F names t → ⊥) → (G names t → ⊥) → Or F G names t → ⊥
        neither x y (inl a) = x a
        neither x y (inr b) = y b

-- where the same is said by two classes of tokens
tells_also : {F G : Further} → Tells F → ((names : List (List ℕ)) (t : Token) → F names t → G names t) → ((names : List (List ℕ)) (t : Token) → G names t → F names t) → Tells G
tells_also {F} {G} f to from = record { by = λ names t. go names t (f.by names t) }
  where
    go : (names : List (List ℕ)) (t : Token) → F names t ⊎ (F names t → ⊥) → G names t ⊎ (G names t → ⊥)
    go names t (inl x) = inl (to names t x)
    go names t (inr x) = inr (λ y. x (from names t y))

pub decided_mark : {n : ℕ} (m : Mark) → IsDecided n (MarkPart m) Nothing
decided_mark m = decided_same (decided_one (mark_class m) (tells_also (tells_mark m) (λ names t x. (tt, x)) (λ names t x. x.1))) (mark_alike m)

pub decided_word : {n : ℕ} {w : List ℕ} → IsKeyword w → IsDecided n (WordPart w) Nothing
decided_word {w = w} k = decided_same (decided_one (word_class k) (tells_also (tells_word w) (λ names t x. (tt, x)) (λ names t x. x.1))) (word_alike w)

pub decided_name : {n : ℕ} → IsDecided n NamePart Nothing
decided_name = decided_same (decided_one name_class (tells_also tells_name said_name (λ names t x. (x.0.name, x.1.name)))) name_alike

-- the number that a token is, or none
numbered : (t : Token) → SomeNumber [] t ⊎ (SomeNumber [] t → ⊥)
numbered t = go t.kind refl
  where
    go : (k : Kind) → t.kind ≡ k → SomeNumber [] t ⊎ (SomeNumber [] t → ⊥)
    go (kind.Number (pos n)) e = inl (n, e)
    go (kind.Number (negsuc n)) e = inr (λ h. let both : kind.Number (negsuc n) ≡ kind.Number (pos h.0) = sym e ∙ h.1 in absurd cc)
    go (kind.Word n) e = inr (λ h. let both : kind.Word n ≡ kind.Number (pos h.0) = sym e ∙ h.1 in absurd cc)
    go (kind.Text n) e = inr (λ h. let both : kind.Text n ≡ kind.Number (pos h.0) = sym e ∙ h.1 in absurd cc)
    go (kind.Mark m) e = inr (λ h. let both : kind.Mark m ≡ kind.Number (pos h.0) = sym e ∙ h.1 in absurd cc)
    go kind.Last e = inr (λ h. let both : kind.Last ≡ kind.Number (pos h.0) = sym e ∙ h.1 in absurd cc)

tells_some_number : Tells SomeNumber
tells_some_number = record { by = λ names t. numbered t }

pub tells_number : (m : ℕ) → Tells (ANumber m)
tells_number m = record { by = λ names t. go t (numbered t) }
  where
    compared : (t : Token) (n : ℕ) → t.kind ≡ kind.Number (pos n) → (b : Bool) → (n == m) ≡ b → ANumber m [] t ⊎ (ANumber m [] t → ⊥)
    compared t n e true q = inl (e ∙ ap (λ (k : ℕ). kind.Number (pos k)) (eqb-true n m q))
    compared t n e false q = inr (λ h.
        let same : n ≡ m = number_of (sym e ∙ h) in
        let yes = (Decides-eqb n m).1 same in
        absurd cc)

    go : (t : Token) → SomeNumber [] t ⊎ (SomeNumber [] t → ⊥) → ANumber m [] t ⊎ (ANumber m [] t → ⊥)
    go t (inl h) = compared t h.0 h.1 (h.0 == m) refl
    go t (inr n) = inr (λ h. n (m, h))

pub decided_number : {n : ℕ} (m : ℕ) → IsDecided n (NumberPart m) Nothing
decided_number m = decided_same (decided_one (number_class m) (tells_also (tells_number m) (λ names t x. (tt, x)) (λ names t x. x.1))) (number_alike m)

pub decided_word_at : {n : ℕ} {w : List ℕ} → IsKeyword w → IsDecided n (WordAtIs w) Nothing
decided_word_at {w = w} k =
    decided_same
    (decided_one (word_at_class k) (tells_also (tells_word w) (λ names t x. (t.place, record { word = x; place = refl })) (λ names t x. x.1.word)))
    (word_at_alike w)

pub decided_capacity_number : {n : ℕ} → IsDecided n CapacityNumber Nothing
decided_capacity_number {n} = record { part = capacity_number_part; by = λ names ts s w. go names ts w (tells_head tells_some_number w) }
  where
    limited : (names : List (List ℕ)) (ts : List Token) → AreWhole names ts → {m : ℕ} {rest : List Token} → NumberIs m ts rest → (b : Bool) → is_capacity m ≡ b → Outcome CapacityNumber Nothing names ts
    limited names ts w h true e = reads (capacity_number_reads h e)
    limited names ts w h false e = let r = refuses_first P3 w in halts r.0 (no_capacity_halts h e r.1)

    go : (names : List (List ℕ)) (ts : List Token) → AreWhole names ts → Head SomeNumber names ts ⊎ (Head SomeNumber names ts → ⊥) → Outcome CapacityNumber Nothing names ts
    go names ts w (inl h) = limited names ts w {m = h.is.0} {rest = h.rest} (record { token = h.token; parts = h.parts; is = h.is.1 }) (is_capacity h.is.0) refl
    go names ts w (inr h) =
        let r = refuses_first P1 w in
        halts r.0 (no_number_halts (λ m rest k. h (record { token = k.token; rest = rest; parts = k.parts; is = (m, k.is) })) r.1)

-- ---- one token and then a part

pub mark_and : {B : Type 0} {n : ℕ} {S : Part B} {D : Further} {m : Mark} → IsDecided n S D → IsDecided n (Then (MarkPart m) S) D
mark_and {m = m} q = decided_then (decided_mark m) q nothing_apart

pub name_and : {B : Type 0} {n : ℕ} {S : Part B} {D : Further} → IsDecided n S D → IsDecided n (Then NamePart S) D
name_and q = decided_then decided_name q nothing_apart

pub word_and : {B : Type 0} {n : ℕ} {S : Part B} {D : Further} {w : List ℕ} → IsKeyword w → IsDecided n S D → IsDecided n (Then (WordPart w) S) D
word_and k q = decided_then (decided_word k) q nothing_apart

-- a part with which nothing goes on, and then another
part_and : {A B : Type 0} {n : ℕ} {R : Part A} {S : Part B} {D : Further} → IsDecided n R Nothing → IsDecided n S D → IsDecided n (Then R S) D
part_and p q = decided_then p q nothing_apart

-- ---- lists

pub decided_commas : {A : Type 0} {n : ℕ} {W : ℕ → Part A} {C F : Further} (k : ℕ) → AreItems W C F → ((j : ℕ) → IsDecided n (W j) C) → IsDecided n (Commas W k) (OrComma C)
decided_commas {n = n} {W = W} k w d = decided_then (d k) (decided_times {R = CommaAnd W} (repeated w) (λ j. mark_and (d j)) (tells_mark Comma) (k - 1)) (apart_from_more w)

-- of items that each need room
decided_list : {A : Type 0} {n : ℕ} {R : Part A} {C : Further} (k : ℕ) → IsItem R C AName → IsDecided n R C → IsDecided n (Commas (Roomy R) k) (OrComma C)
decided_list k r d = decided_commas k (roomy_items r) (λ j. decided_within d r.begins r.opens r.stable tells_name)

decided_names : {n : ℕ} (k : ℕ) → IsDecided n (NamesPart k) (OrComma Nothing)
decided_names k = decided_same (decided_list k short.name_item (decided_same decided_name (short.free_item NameIs))) (short.names_alike k)

pub decided_any_names : {n : ℕ} (k : ℕ) → IsDecided n (AnyNamesPart k) OrName
decided_any_names k = decided_same (decided_option (decided_names k) (short.names_begins k) name_stable tells_name (or_right AName (OrComma Nothing)) (or_left AName (OrComma Nothing)) (or_stable name_stable short.list_stable)) (short.any_names_alike k)

pub decided_part : {n : ℕ} → IsDecided n PartPart Nothing
decided_part = decided_same (name_and (mark_and (name_and (decided_mark CloseBracket)))) short.part_alike

-- ---- protocols

decided_sort : {n : ℕ} → IsDecided n SortPart Nothing
decided_sort =
    decided_same
    (decided_choice (decided_word int_keyword) (decided_choice (decided_word bool_keyword) (decided_word text_keyword) (word_begins (codes "bool")) (word_begins (codes "text")) (word_stable (codes "bool")) (tells_word (codes "bool")) (words_differ (codes "bool") (codes "text") refl refl)) (word_begins (codes "int")) p.two_begin (word_stable (codes "int")) (tells_word (codes "int")) (distinct_or (words_differ (codes "int") (codes "bool") refl refl) (words_differ (codes "int") (codes "text") refl refl)))
    p.sort_alike

tells_sort : Tells p.ASort
tells_sort = tells_or (tells_word (codes "int")) (tells_or (tells_word (codes "bool")) (tells_word (codes "text")))

decided_payload : {n : ℕ} → IsDecided n PayloadPart Nothing
decided_payload = decided_same (decided_choice decided_sort (name_and (mark_and (name_and (mark_and decided_name)))) p.sort_begins (then_begins name_begins) p.sort_stable tells_sort p.sort_not_name) p.payload_alike

decided_arm : {n : ℕ} → IsDecided n ArmPart Nothing
decided_arm = decided_same (name_and (word_and then_keyword decided_name)) p.arm_alike

decided_arms : {n : ℕ} (k : ℕ) → IsDecided n (ArmsPart k) (OrComma Nothing)
decided_arms k = decided_same (decided_list k p.arm_item (decided_same decided_arm (short.free_item ArmIs))) (p.arms_alike k)

decided_passes : {n : ℕ} → IsDecided n p.PassesNest Nothing
decided_passes = decided_choice (mark_and (part_and decided_payload (word_and then_keyword decided_name))) (mark_and (decided_then (decided_arms 64) (decided_mark CloseBrace) (short.mark_after_list p.not_comma_close_brace))) (then_begins (mark_begins Colon)) (then_begins (mark_begins OpenBrace)) (mark_stable Colon) (tells_mark Colon) p.colon_not_brace

decided_step : {n : ℕ} → IsDecided n StepPart Nothing
decided_step = decided_same (decided_choice (decided_word end_keyword) (name_and (mark_and (name_and decided_passes))) (word_begins (codes "end")) (then_begins name_begins) (word_stable (codes "end")) (tells_word (codes "end")) (word_not_name end_keyword)) p.step_alike

decided_state : {n : ℕ} → IsDecided n StatePart Nothing
decided_state = decided_same (name_and (mark_and (part_and decided_step (decided_mark Semicolon)))) p.state_alike

decided_states : {n : ℕ} → IsDecided n StatesPart AName
decided_states = decided_same (decided_then decided_state (decided_times p.states_repeated (λ k. decided_within decided_state p.state_begins p.state_opens name_stable tells_name) tells_name 255) p.after_state) p.states_alike

pub decided_protocol : {n : ℕ} → IsDecided n ProtocolPart Nothing
decided_protocol = decided_same (word_and protocol_keyword (name_and (mark_and (decided_then (decided_names 16) (mark_and (mark_and (decided_then decided_states (decided_mark CloseBrace) p.end_of_states))) p.roles_end)))) p.protocol_alike

-- ---- services

decided_served : {n : ℕ} (k : ℕ) → IsDecided n (ServedPart k) OrBar
decided_served k = decided_same (decided_option (mark_and (decided_names k)) (then_begins (mark_begins Bar)) (mark_stable Bar) (tells_mark Bar) (or_right (AMark Bar) (OrComma Nothing)) (or_left (AMark Bar) (OrComma Nothing)) (or_stable (mark_stable Bar) short.list_stable)) (p.served_alike k)

decided_served_tail : {n : ℕ} (k : ℕ) → IsDecided n (p.ServedTail k) Nothing
decided_served_tail k = decided_then (decided_served k) (mark_and (decided_mark Semicolon)) p.end_of_served

decided_roles_tail : {n : ℕ} → IsDecided n p.RolesTail Nothing
decided_roles_tail = decided_by (decided_names 16) (λ active. decided_served_tail (16 - length active)) (λ active. p.after_active (16 - length active)) []

pub decided_service : {n : ℕ} → IsDecided n ServicePart Nothing
decided_service = decided_same (word_and service_keyword (name_and (mark_and (name_and (mark_and decided_roles_tail))))) p.service_alike

-- ---- heads of procedures

decided_variable : {n : ℕ} → IsDecided n VariablePart Nothing
decided_variable = decided_same (name_and (mark_and decided_sort)) h.variable_alike

decided_vars : {n : ℕ} → IsDecided n VarsPart (OrComma Nothing)
decided_vars = decided_same (decided_list 16 h.variable_item (decided_same decided_variable (short.free_item VariableIs))) h.vars_alike

decided_variables : {n : ℕ} → IsDecided n VariablesPart (AMark OpenParen)
decided_variables = decided_same (decided_option (mark_and (decided_then decided_vars (decided_mark CloseParen) (short.mark_after_list (λ e. absurd cc)))) h.paren_begins (mark_stable OpenParen) (tells_mark OpenParen) (nothing_among (AMark OpenParen)) (λ names t x. x) (mark_stable OpenParen)) h.variables_alike

decided_proc_param : {n : ℕ} → IsDecided n ProcParamPart (AMark OpenParen)
decided_proc_param = decided_same (name_and decided_variables) h.proc_param_alike

decided_proc_params : {n : ℕ} → IsDecided n ProcParamsPart (OrComma (AMark OpenParen))
decided_proc_params = decided_same (decided_list 8 h.proc_param_item decided_proc_param) h.proc_params_alike

decided_holder : {n : ℕ} → IsDecided n HolderPart Nothing
decided_holder = decided_same (name_and (mark_and decided_name)) h.holder_alike

decided_holders : {n : ℕ} → IsDecided n HoldersPart (OrComma Nothing)
decided_holders = decided_same (decided_commas {W = Bare HolderIs} 0 h.holder_items (λ j. decided_holder)) h.holders_alike

decided_session_param : {n : ℕ} → IsDecided n SessionParamPart Nothing
decided_session_param = decided_same (name_and (mark_and (name_and (mark_and (name_and (mark_and (decided_then decided_holders (decided_mark CloseBrace) (short.mark_after_list (λ e. absurd cc))))))))) h.session_param_alike

decided_session_params : {n : ℕ} → IsDecided n SessionParamsPart (OrComma Nothing)
decided_session_params = decided_same (decided_list 8 h.session_param_item (decided_same decided_session_param (short.free_item SessionParamIs))) h.session_params_alike

decided_sessions : {n : ℕ} → IsDecided n SessionsPart OrSession
decided_sessions = decided_same (decided_option (mark_and decided_session_params) h.sessions_begin (mark_stable Semicolon) (tells_mark Semicolon) h.list_among_sessions (or_left (AMark Semicolon) (OrComma (AMark OpenParen))) h.session_stable) h.sessions_alike

pub decided_params : {n : ℕ} → IsDecided n ParamsPart OrParams
decided_params = decided_same (decided_option (decided_then decided_proc_params decided_sessions h.sessions_apart) h.some_params_begin name_stable tells_name (or_right AName OrSession) (or_left AName OrSession) (or_stable name_stable h.session_stable)) h.params_alike
