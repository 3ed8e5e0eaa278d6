-- Bytes are endpoint programs, or violate a rule.
use Rattle.std.proofs.Common.{◌≡◌, ◌≤◌, ◌^◌, ◌⊎◌, ℕ, List, [], length, Option, Some, None, refl, sym, subst, inl, inr}
use Rattle.std.specs.Prelude.{Contains}
use Rattle.chor_base.specs.declared.rule.Place.{Place}
use Rattle.chor_base.specs.declared.rule.Rule.{Rule}
use Rattle.chor_base.specs.declared.rule.Refusal.{Refusal}
use Rattle.chor_base.specs.declared.rule.Denied.TheVariants.{Refused}
use Rattle.chor_base.specs.declared.fault.Fault.{Fault}
use Rattle.chor_base.specs.Faults.{first_of_all, IsFirst, IsDenial}
use Rattle.chor_base.proofs.Faults.{first_is_first, none_is_empty}
use Rattle.chor_lexer.specs.Lexeme.{Lexeme}
use Rattle.chor_lexer.specs.Refusal.{Refuses}
use Rattle.chor_lexer.specs.Tokens.{IsTokens}
use Rattle.chor_lexer.proofs.Total.{one_or_the_other as tokens_or_refused}
use Rattle.grammar.specs.Faults.{IsDerived, HasFault}
use Rattle.grammar.proofs.Whole.{one_or_the_other}
use Rattle.endpoint_grammar.specs.Written.{Units}
use Rattle.endpoint_grammar.specs.Grammar.{endpoints}
use Rattle.endpoint_grammar.specs.Values.{rules, written_units}
use Rattle.endpoint_grammar.proofs.Clear.{rules_clear, rules_ending, endpoints_ending, endpoints_clear}
use Rattle.endpoint_reader.specs.declared.input.Input.{Input}
use Rattle.endpoint_reader.specs.declared.written.Written.{Written}
use Rattle.endpoint_reader.specs.Known.{IsWrittenThere}
use Rattle.endpoint_reader.specs.Files.{units_written}
use Rattle.endpoint_units.specs.Wholes.{IsWritten}
use Rattle.endpoint_code.specs.declared.endpoints.Endpoints.{Endpoints}
use Rattle.endpoint_making.specs.Making.{IsMadeOf}
use Rattle.endpoint_names.specs.Faults.{Setting, setting, name_faults}
use Rattle.endpoint_names.specs.Class.{begin_faults, IsFaultless, IsBroken}
use Rattle.endpoint_check.specs.Programs.{lexemes_of, IsInputOf, grammar, names, unread, broken}
use Rattle.endpoint_check.proofs.Numbered.{numbered}
use Rattle.endpoint_laws.proofs.Verdicts.{named_so}
use Rattle.canonical_laws.proofs.Fresh.{fresh}
use Rattle.projected_programs.specs.Laws.{AreProgramsOrRefused}
use Rattle.projected_programs.proofs.Inputs.{input_of}
use Rattle.projected_programs.proofs.Units.{read}
use Rattle.projected_programs.proofs.Codes.{made}

-- ---- no fault, or a first one

abbrev IsRefused : List Fault → Type 0
IsRefused xs = (r : Refusal) × IsDenial (Contains xs) (Refused r)

first_or_none : (xs : List Fault) → (xs ≡ []) ⊎ IsRefused xs
first_or_none xs = go (first_of_all xs) refl (first_is_first xs)
  where
    go : (o : Option Fault) → first_of_all xs ≡ o → IsFirst (Contains xs) (first_of_all xs) → (xs ≡ []) ⊎ IsRefused xs
    go None e h = inl (none_is_empty xs e)
    go (Some x) e h = inr (record { rule = x.rule; place = x.place; who = None }, (subst (IsFirst (Contains xs)) e h, refl))

judged : (s : Setting) → IsFaultless s ⊎ ((r : Refusal) × IsBroken s (Refused r))
judged s = by_names (first_or_none (name_faults s))
  where
    by_begins : name_faults s ≡ [] → (begin_faults s.written ≡ []) ⊎ IsRefused (begin_faults s.written) → IsFaultless s ⊎ ((r : Refusal) × IsBroken s (Refused r))
    by_begins none (inl e) = inl (record { names = none; begins = e })
    by_begins none (inr (r, h)) = inr (r, inr (none, h))

    by_names : (name_faults s ≡ []) ⊎ IsRefused (name_faults s) → IsFaultless s ⊎ ((r : Refusal) × IsBroken s (Refused r))
    by_names (inl e) = by_begins e (first_or_none (begin_faults s.written))
    by_names (inr (r, h)) = inr (r, inl h)

-- ---- bytes

module _ (hosts : List (List ℕ)) (bytes : List ℕ) where
  module _ (i : Input) (tokens : IsInputOf bytes i) where
    of_units : (w : Written) → IsWritten (lexemes_of i) (units_written i w) → IsWrittenThere i w → (e : Endpoints) × IsMadeOf w i.names.now i.texts.now e → AreProgramsOrRefused hosts bytes
    of_units w is there (e, m) = go (judged (setting w i.names.now hosts))
      where
        go : IsFaultless (setting w i.names.now hosts) ⊎ ((r : Refusal) × IsBroken (setting w i.names.now hosts) (Refused r)) → AreProgramsOrRefused hosts bytes
        go (inl fine) = inl (e, record { input = i; tokens = tokens; written = w; fine = record { written = is; there = there; faultless = fine }; made = m })
        go (inr (r, h)) = inr (r, broken i tokens (names w is h))

    of_tokens : IsDerived rules endpoints (lexemes_of i) ⊎ HasFault rules endpoints (lexemes_of i) → AreProgramsOrRefused hosts bytes
    of_tokens (inr f) = let r : Refusal = record { rule = f.rule; place = f.place; who = None } in inr (r, broken i tokens (grammar (f.is, refl)))
    of_tokens (inl d) =
        let u : Units = written_units d.value in
        let is : IsWritten (lexemes_of i) u = record { value = d.value; is = d.is; units = refl } in
        let r = read i u (named_so i tokens is) in
        of_units r.written (record { value = d.value; is = d.is; units = sym r.is }) r.there (made r.written i.names.now i.texts.now (numbered i r.written r.there))

  pub programs_or_refused : length bytes ≤ 2 ^ 24 → AreProgramsOrRefused hosts bytes
  programs_or_refused small = go (tokens_or_refused bytes)
    where
      go : ((ls : List Lexeme) × IsTokens bytes ls) ⊎ ((rule : Rule) × (place : Place) × Refuses bytes rule place) → AreProgramsOrRefused hosts bytes
      go (inl (ls, is)) =
          let t = fresh bytes ls is in
          let x = input_of bytes t.names t.texts t.tokens small t.are in
          of_tokens x.input x.tokens (one_or_the_other _ rules_clear rules_ending endpoints (lexemes_of x.input) endpoints_ending endpoints_clear x.closed)
      go (inr (rule, place, h)) = let r : Refusal = record { rule = rule; place = place; who = None } in inr (r, unread h refl)
