-- Bytes are refused in one way, and in none where they are endpoint programs.
use Rattle.std.proofs.Common.{◌≡◌, ◌∙◌, ℕ, List, [], sym, ap, subst, inl, inr}
use Rattle.std.specs.Prelude.{Contains}
use Rattle.std.specs.List.{fold, AllByRecursion}
use Rattle.chor_base.specs.declared.rule.Rule.TheVariants.{E2, E3}
use Rattle.chor_base.specs.declared.rule.Refusal.{Refusal}
use Rattle.chor_base.specs.declared.rule.Denied.TheVariants.{Refused}
use Rattle.chor_base.specs.declared.fault.Fault.{Fault}
use Rattle.chor_base.specs.Faults.{fault, IsDenial}
use Rattle.chor_base.proofs.Members.{nowhere}
use Rattle.chor_lexer.specs.Lexeme.{Lexeme}
use Rattle.chor_lexer.specs.Tokens.{with_name, with_text}
use Rattle.chor_lexer.proofs.Cuts.{one_reading, not_both}
use Rattle.chor_lexer.proofs.Faults.{one_refusal as one_refusal_of_tokens}
use Rattle.grammar.specs.Grammars.{nowhere as within_limits, Derives}
use Rattle.grammar.specs.Faults.{IsFirstFault}
use Rattle.grammar.proofs.Completed.{never_both}
use Rattle.grammar.proofs.OneFault.{one_place}
use Rattle.grammar.proofs.Singles.{one_fault_rule}
use Rattle.grammar.proofs.Unique.{unique}
use Rattle.endpoint_grammar.specs.Written.{Units}
use Rattle.endpoint_grammar.specs.Grammar.{endpoints}
use Rattle.endpoint_grammar.specs.Values.{rules, Derived, written_units}
use Rattle.endpoint_grammar.proofs.Clear.{rules_clear, rules_single, endpoints_clear, endpoints_single}
use Rattle.endpoint_reader.specs.declared.input.Input.{Input}
use Rattle.endpoint_reader.specs.declared.written.Written.{Written}
use Rattle.endpoint_reader.specs.Files.{units_written}
use Rattle.endpoint_reader.proofs.Spelled.{spelled}
use Rattle.endpoint_units.specs.Wholes.{IsWritten}
use Rattle.endpoint_names.specs.Faults.{setting, name_faults}
use Rattle.endpoint_names.specs.Class.{begin_faults, IsBroken, IsFaultless}
use Rattle.endpoint_check.specs.Programs.{lexemes_of, IsInputOf, AreProgramsOf, BreaksOff, grammar, names, ViolatesPrograms, unread, broken}
use Rattle.endpoint_code.specs.declared.endpoints.Endpoints.{Endpoints}
use Rattle.endpoint_laws.specs.Laws.{AreAlike}
use Rattle.chor_lexer.proofs.DistinctTables.{distinct_names}
use Rattle.endpoint_laws.proofs.Words.{IsFine, fine_tokens}
use Rattle.endpoint_laws.proofs.Naming.{AreUnitsNamed, file_named}
use Rattle.endpoint_laws.proofs.Readings.{same_names, same_beginnings}
use Rattle.endpoint_laws.proofs.Rules.{one_denial, names_are, begins_are}

-- ---- one reading

tokens_are : {bytes : List ℕ} (i : Input) (a : IsInputOf bytes i) → lexemes_of i ≡ a.lexemes
tokens_are i a = spelled i i.tokens.now.items a.lexemes a.spelled

pub named_so : {bytes : List ℕ} {u : Units} (i : Input) → IsInputOf bytes i → IsWritten (lexemes_of i) u → AreUnitsNamed i.names.now i.texts.now u
named_so i a x = subst (AreUnitsNamed i.names.now i.texts.now) x.units (file_named i.names.now i.texts.now x.is (subst (AllByRecursion (IsFine i.names.now i.texts.now)) (sym (tokens_are i a)) (fine_tokens a)))

one_program : (ts : List Lexeme) (x y : Derived endpoints) → Derives rules within_limits endpoints ts x [] → Derives rules within_limits endpoints ts y [] → x ≡ y
one_program ts x y d e = (unique _ rules_clear d e endpoints_clear (λ l us p i. cc) (λ l us p i. cc)).0

module _ (bytes : List ℕ) (i j : Input) (a : IsInputOf bytes i) (b : IsInputOf bytes j) where
  same_tokens : a.lexemes ≡ b.lexemes
  same_tokens = one_reading bytes a.lexemes b.lexemes a.tokens b.tokens

  same_lexemes : lexemes_of i ≡ lexemes_of j
  same_lexemes = tokens_are i a ∙ same_tokens ∙ sym (tokens_are j b)

  same_tables : i.names.now ≡ j.names.now
  same_tables = a.names_are ∙ ap (λ ls. fold (λ table l. with_name table l.symbol) [] ls) same_tokens ∙ sym b.names_are

  same_texts : i.texts.now ≡ j.texts.now
  same_texts = a.texts_are ∙ ap (λ ls. fold (λ table l. with_text table l.symbol) [] ls) same_tokens ∙ sym b.texts_are

  same_units : {u v : Units} → IsWritten (lexemes_of i) u → IsWritten (lexemes_of j) v → u ≡ v
  same_units x y =
      sym x.units ∙ ap written_units (one_program (lexemes_of i) x.value y.value x.is (subst (λ (ts : List Lexeme). Derives rules within_limits endpoints ts y.value []) (sym same_lexemes) y.is)) ∙ y.units

  module _ (w v : Written) (x : IsWritten (lexemes_of i) (units_written i w)) (y : IsWritten (lexemes_of j) (units_written j v)) where
    same_name_faults : (hosts : List (List ℕ)) → name_faults (setting w i.names.now hosts) ≡ name_faults (setting v j.names.now hosts)
    same_name_faults hosts = same_names i j w v same_tables same_texts (same_units x y) (distinct_names a) (named_so i a x) hosts

    same_openings : begin_faults w ≡ begin_faults v
    same_openings = same_beginnings i j w v same_tables same_texts (same_units x y) (distinct_names a) (named_so i a x)

-- ---- never both

none_denied : (xs : List Fault) (r : Refusal) → xs ≡ [] → IsDenial (Contains xs) (Refused r) → ⊥
none_denied xs r none h = nowhere (fault r.rule r.place) (subst (λ (ys : List Fault). Contains ys (fault r.rule r.place)) none h.0.0)

never_broken : (w v : Written) (ns ms hosts : List (List ℕ)) (r : Refusal) → name_faults (setting w ns hosts) ≡ name_faults (setting v ms hosts) → begin_faults w ≡ begin_faults v
    → IsFaultless (setting w ns hosts) → IsBroken (setting v ms hosts) (Refused r) → ⊥
never_broken w v ns ms hosts r same begins fine (inl h) = none_denied (name_faults (setting v ms hosts)) r (sym same ∙ fine.names) h
never_broken w v ns ms hosts r same begins fine (inr h) = none_denied (begin_faults v) r (sym begins ∙ fine.begins) h.1

-- bytes that are programs violate nothing
pub never_refused : (hosts : List (List ℕ)) (bytes : List ℕ) (e : Endpoints) (r : Refusal) → AreProgramsOf hosts bytes e → ViolatesPrograms hosts bytes r → ⊥
never_refused hosts bytes e r p (unread h nobody) = not_both bytes p.tokens.lexemes r.rule r.place p.tokens.tokens h
never_refused hosts bytes e r p (broken j b (grammar h)) =
    never_both _ p.fine.written.is (subst (λ (ts : List Lexeme). IsFirstFault rules endpoints ts r.rule r.place) (sym (same_lexemes bytes p.input j p.tokens b)) h.0)
never_refused hosts bytes e r p (broken j b (names v y h)) =
    never_broken p.written v p.input.names.now j.names.now hosts r (same_name_faults bytes p.input j p.tokens b p.written v p.fine.written y hosts)
    (same_openings bytes p.input j p.tokens b p.written v p.fine.written y) p.fine.faultless h

-- ---- one refusal

one_broken : (w v : Written) (ns ms hosts : List (List ℕ)) (r q : Refusal) → name_faults (setting w ns hosts) ≡ name_faults (setting v ms hosts) → begin_faults w ≡ begin_faults v
    → IsBroken (setting w ns hosts) (Refused r) → IsBroken (setting v ms hosts) (Refused q) → r ≡ q
one_broken w v ns ms hosts r q same begins (inl h) (inl k) =
    one_denial E2 (name_faults (setting w ns hosts)) (names_are (setting w ns hosts)) r q h (subst (λ (xs : List Fault). IsDenial (Contains xs) (Refused q)) (sym same) k)
one_broken w v ns ms hosts r q same begins (inl h) (inr k) = absurd (none_denied (name_faults (setting w ns hosts)) r (same ∙ k.0) h)
one_broken w v ns ms hosts r q same begins (inr h) (inl k) = absurd (none_denied (name_faults (setting v ms hosts)) q (sym same ∙ h.0) k)
one_broken w v ns ms hosts r q same begins (inr h) (inr k) =
    one_denial E3 (begin_faults w) (begins_are w) r q h.1 (subst (λ (xs : List Fault). IsDenial (Contains xs) (Refused q)) (sym begins) k.1)

module _ (hosts : List (List ℕ)) (bytes : List ℕ) (i j : Input) (a : IsInputOf bytes i) (b : IsInputOf bytes j) (r q : Refusal) where
  one_break : BreaksOff hosts i r → BreaksOff hosts j q → r ≡ q
  one_break (grammar h) (grammar k) =
      let g : IsFirstFault rules endpoints (lexemes_of i) q.rule q.place = subst (λ (ts : List Lexeme). IsFirstFault rules endpoints ts q.rule q.place) (sym (same_lexemes bytes i j a b)) k.0 in
      let place = one_place h.0 g in
      let rule = one_fault_rule _ rules_single rules_clear endpoints (lexemes_of i) r.rule q.rule r.place q.place endpoints_clear endpoints_single h.0 g in
      let who = h.1 ∙ sym k.1 in λ t. record { rule = rule t; place = place t; who = who t }
  one_break (grammar h) (names v y k) =
      absurd (never_both _ y.is (subst (λ (ts : List Lexeme). IsFirstFault rules endpoints ts r.rule r.place) (same_lexemes bytes i j a b) h.0))
  one_break (names w x h) (grammar k) =
      absurd (never_both _ x.is (subst (λ (ts : List Lexeme). IsFirstFault rules endpoints ts q.rule q.place) (sym (same_lexemes bytes i j a b)) k.0))
  one_break (names w x h) (names v y k) = one_broken w v i.names.now j.names.now hosts r q (same_name_faults bytes i j a b w v x y hosts) (same_openings bytes i j a b w v x y) h k

pub one_refusal : (hosts : List (List ℕ)) (bytes : List ℕ) (r q : Refusal) → ViolatesPrograms hosts bytes r → ViolatesPrograms hosts bytes q → r ≡ q
one_refusal hosts bytes r q (unread h nobody) (unread k none) =
    let one = one_refusal_of_tokens bytes r.rule q.rule r.place q.place h k in
    let who = nobody ∙ sym none in λ t. record { rule = one.0 t; place = one.1 t; who = who t }
one_refusal hosts bytes r q (unread h nobody) (broken j b k) = absurd (not_both bytes b.lexemes r.rule r.place b.tokens h)
one_refusal hosts bytes r q (broken i a h) (unread k nobody) = absurd (not_both bytes a.lexemes q.rule q.place a.tokens k)
one_refusal hosts bytes r q (broken i a h) (broken j b k) = one_break hosts bytes i j a b r q h k

-- ---- one text

pub one_text : (hosts : List (List ℕ)) (bytes : List ℕ) (e f : Endpoints) (p : AreProgramsOf hosts bytes e) (q : AreProgramsOf hosts bytes f) → AreAlike p q
one_text hosts bytes e f p q = record {
  units = same_units bytes p.input q.input p.tokens q.tokens p.fine.written q.fine.written;
  names = p.made.names_are ∙ same_tables bytes p.input q.input p.tokens q.tokens ∙ sym q.made.names_are;
  texts = p.made.texts_are ∙ same_texts bytes p.input q.input p.tokens q.tokens ∙ sym q.made.texts_are;
}
