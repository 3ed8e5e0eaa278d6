-- Refusals of parts are refusals of the whole.
use Rattle.std.proofs.Common.{◌≡◌, ℕ, List, [], sym, subst}
use Rattle.std.specs.Prelude.{Result, Ok, Err, IfErr, IsErrAnd}
use Rattle.chor_base.specs.declared.rule.Denied.{Denied}
use Rattle.chor_base.specs.declared.rule.Denied.TheVariants.{Refused, Memory}
use Rattle.chor_lexer.specs.Refusal.{IsDenial}
use Rattle.chor_lexer.specs.Tokens.{AreTokensOf}
use Rattle.endpoint_reader.specs.declared.input.Input.{Input}
use Rattle.endpoint_reader.specs.declared.written.Written.{Written}
use Rattle.endpoint_reader.specs.Files.{units_written}
use Rattle.endpoint_units.specs.Wholes.{IsWritten, IsRefusal}
use Rattle.endpoint_names.specs.Faults.{setting}
use Rattle.endpoint_names.specs.Class.{IsBroken}
use Rattle.endpoint_code.specs.declared.endpoints.Endpoints.{Endpoints}
use Rattle.endpoint_making.specs.Making.{IsMadeOf}
use Rattle.endpoint_check.specs.Programs.{lexemes_of, IsInputOf, IsWrittenWithoutFault, AreProgramsOf, grammar, names, unread, broken, IsDenialOfInput, refused, no_memory, IsDenialOfPrograms}

-- tokens that are no file
pub unread_so : (words : List (List ℕ)) (i : Input) (d : Denied) → IsRefusal (lexemes_of i) d → IsDenialOfInput words i d
unread_so words i (Refused r) h = refused (grammar h)
unread_so words i Memory h = no_memory

-- units with a fault
pub broken_so : (words : List (List ℕ)) (i : Input) (w : Written) (d : Denied) → IsWritten (lexemes_of i) (units_written i w) → IsBroken (setting w i.names.now words) d → IsDenialOfInput words i d
broken_so words i w (Refused r) is h = refused (names w is h)
broken_so words i w Memory is h = no_memory

-- bytes that aren't made of tokens
pub no_tokens : (words : List (List ℕ)) (bytes : List ℕ) (d : Denied) → IsDenial bytes d → IsDenialOfPrograms words bytes d
no_tokens words bytes (Refused r) h = unread h.0 h.1
no_tokens words bytes Memory h = tt

-- ---- results

pub err_is : {X : Type 0} (P : Denied → Type 0) (r : Result X Denied) (e : Denied) → IsErrAnd r (λ d. d ≡ e) → P e → IfErr r P
err_is P (Ok x) e h p = tt
err_is P (Err d) e h p = subst P (sym h) p

-- the tokens of the bytes, where the tables were empty before
pub cut_so : (bytes : List ℕ) (old_names old_texts : List (List ℕ)) (i : Input) → old_names ≡ [] → old_texts ≡ [] → AreTokensOf bytes old_names old_texts i.names.now i.texts.now i.tokens.now.items → IsInputOf bytes i
cut_so bytes old_names old_texts i none none' h =
    subst (λ (ns : List (List ℕ)). AreTokensOf bytes ns [] i.names.now i.texts.now i.tokens.now.items) none
    (subst (λ (ts : List (List ℕ)). AreTokensOf bytes old_names ts i.names.now i.texts.now i.tokens.now.items) none' h)

-- bytes whose tokens are refused
pub refused_so : (words : List (List ℕ)) (bytes : List ℕ) {i : Input} (d : Denied) → IsDenialOfInput words i d → {old_names old_texts : List (List ℕ)} → old_names ≡ [] → old_texts ≡ []
    → AreTokensOf bytes old_names old_texts i.names.now i.texts.now i.tokens.now.items → IsDenialOfPrograms words bytes d
refused_so words bytes {i = i} d (refused h) none none' a = broken i (cut_so bytes _ _ i none none' a) h
refused_so words bytes {i = i} d no_memory none none' a = tt

-- bytes whose tokens are programs without fault
pub programs_so : (words : List (List ℕ)) (bytes : List ℕ) {i : Input} {w : Written} {e : Endpoints} → IsWrittenWithoutFault words i w → {old_names old_texts : List (List ℕ)} → old_names ≡ [] → old_texts ≡ []
    → AreTokensOf bytes old_names old_texts i.names.now i.texts.now i.tokens.now.items → IsMadeOf w i.names.now i.texts.now e → AreProgramsOf words bytes e
programs_so words bytes {i = i} {w = w} fine none none' a made = record { input = i; tokens = cut_so bytes _ _ i none none' a; written = w; fine = fine; made = made }
