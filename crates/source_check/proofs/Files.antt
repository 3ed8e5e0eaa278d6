-- Bytes that are the text of a file, and what else they can't be.
use Rattle.std.proofs.Common.{◌≡◌, ℕ, List, [], sym, subst}
use Rattle.chor_base.specs.declared.rule.Place.{Place}
use Rattle.chor_base.specs.declared.rule.Rule.{Rule}
use Rattle.chor_base.specs.declared.rule.Denied.{Denied}
use Rattle.chor_base.specs.declared.rule.Denied.TheVariants.{Refused, Memory}
use Rattle.chor_tree.specs.declared.file.File.{File}
use Rattle.chor_lexer.specs.declared.token.Token.{Token}
use Rattle.chor_lexer.specs.Refusal.{Refuses}
use Rattle.chor_lexer.specs.Tokens.{AreTokensOf}
use Rattle.chor_lexer.proofs.Cuts.{not_both}
use Rattle.chor_lexer.proofs.Faults.{one_refusal}
use Rattle.chor_tree.specs.Source.{source_of}
use Rattle.source_grammar.specs.Faults.{IsFirstFault, IsRefusal, IsWithin}
use Rattle.source_check.specs.Source.{IsFileOf, IsNoSource, tokens, grammar, IsDenialOfTokens}
use Rattle.source_check.proofs.OneReading.{one_list}
use Rattle.source_grammar.proofs.FirstFaults.{one_source_is, never_refused_is}
use Rattle.source_grammar.proofs.Verdicts.{one_fault_is}
use Rattle.source_check.proofs.WholeTokens.{whole_tokens}

-- bytes that are made of tokens aren't refused by a rule of tokens
pub has_tokens : (bytes : List ℕ) (names texts : List (List ℕ)) (ts : List Token) (rule : Rule) (place : Place) → AreTokensOf bytes [] [] names texts ts → Refuses bytes rule place → ⊥
has_tokens bytes names texts ts rule place a r = not_both bytes a.lexemes rule place a.tokens r

-- bytes that no rule of tokens lets through violate that rule alone
pub refused_alone : (bytes : List ℕ) (r q : Rule) (p o : Place) → Refuses bytes r p → IsNoSource bytes q o → (q ≡ r) × (o ≡ p)
refused_alone bytes r q p o h (tokens i) = one_refusal bytes q r o p i h
refused_alone bytes r q p o h (grammar {names = names} {texts = texts} {ts = ts} a f) = absurd (has_tokens bytes names texts ts r p a h)

-- bytes violate one rule first, at one place
pub one_violation : (bytes : List ℕ) (r q : Rule) (p o : Place) → IsNoSource bytes r p → IsNoSource bytes q o → (r ≡ q) × (p ≡ o)
one_violation bytes r q p o (tokens h) v = let one = refused_alone bytes r q p o h v in (sym one.0, sym one.1)
one_violation bytes r q p o (grammar {names = names} {texts = texts} {ts = ts} a f) (tokens i) = absurd (has_tokens bytes names texts ts q o a i)
one_violation bytes r q p o (grammar {names = names} {texts = texts} {ts = ts} a f) (grammar {names = names'} {texts = texts'} {ts = ts'} b g) =
    let same = one_list bytes names texts names' texts' ts ts' a b in
    let g' : IsFirstFault names ts q o = subst (λ (ns : List (List ℕ)). IsFirstFault ns ts q o) (sym same.names_are) (subst (λ (us : List Token). IsFirstFault names' us q o) (sym same.tokens_are) g) in
    one_fault_is names ts r q p o (whole_tokens bytes names texts ts a) f g'

-- a file's bytes violate nothing
pub never_violated : (bytes : List ℕ) (f : File) (rule : Rule) (place : Place) → IsFileOf bytes f → IsNoSource bytes rule place → ⊥
never_violated bytes f rule place i (tokens h) = has_tokens bytes f.names f.texts i.tokens rule place i.are h
never_violated bytes f rule place i (grammar {names = names} {texts = texts} {ts = ts} a g) =
    let same = one_list bytes names texts f.names f.texts ts i.tokens a i.are in
    let g' : IsFirstFault f.names i.tokens rule place = subst (λ (ns : List (List ℕ)). IsFirstFault ns i.tokens rule place) same.names_are (subst (λ (us : List Token). IsFirstFault names us rule place) same.tokens_are g) in
    never_refused_is f.names i.tokens (source_of f) rule place i.within g'

-- files of the same bytes have the same source
pub one_file : (bytes : List ℕ) (f g : File) → IsFileOf bytes f → IsFileOf bytes g → source_of f ≡ source_of g
one_file bytes f g i j =
    let same = one_list bytes f.names f.texts g.names g.texts i.tokens j.tokens i.are j.are in
    let w : IsWithin f.names i.tokens (source_of g) = subst (λ (ns : List (List ℕ)). IsWithin ns i.tokens (source_of g)) (sym same.names_are) (subst (λ (us : List Token). IsWithin g.names us (source_of g)) (sym same.tokens_are) j.within) in
    one_source_is f.names i.tokens (source_of f) (source_of g) i.within.is w.is

-- a refusal of the tokens is one of the bytes
pub denied_so : (bytes : List ℕ) (names texts : List (List ℕ)) (ts : List Token) (d : Denied) → AreTokensOf bytes [] [] names texts ts → IsRefusal names ts d → IsDenialOfTokens bytes d
denied_so bytes names texts ts (Refused r) a h = (grammar a h.0, h.1)
denied_so bytes names texts ts Memory a h = tt
