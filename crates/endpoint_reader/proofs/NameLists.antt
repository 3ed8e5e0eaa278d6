-- Room for one more item of a list.
use Rattle.std.proofs.Common.{◌≡◌, ◌-◌, ℕ, inl, inr, true, false, Some, List, [], ◌∷◌, ◌++◌, length, length-append, refl, ap, ◌∙◌, subst, arith}
use Rattle.chor_lexer.specs.Lexeme.{Lexeme}
use Rattle.chor_base.specs.declared.rule.Rule.TheVariants.{E4}
use Rattle.chor_base.specs.declared.rule.Denied.{Denied}
use Rattle.grammar.specs.Classes.{a_name, is_of}
use Rattle.grammar.specs.Grammars.{Room, less, within, nowhere, Derives, is_one, in_turn, with_room}
use Rattle.grammar.specs.Readers.{Reads, Halts, Stands, Lacks, Tells, split_of}
use Rattle.grammar.proofs.Reading.{past, reads_past, first_of_two, nothing_comes, comes_within, comes_then, token_comes, token_misses, misses_within, misses_then}
use Rattle.endpoint_grammar.specs.Grammar.{NAME, names, sessions, two_names, mark, signature}
use Rattle.endpoint_reader.specs.Signatures.{signed}
use Rattle.grammar.proofs.Sequences.{then_reads}
use Rattle.chor_lexer.specs.declared.mark.Mark.TheVariants.{OpenParen, CloseParen}
use Rattle.endpoint_grammar.specs.Values.{rules, session_list}

pub splits : (x : Lexeme) (xs : List Lexeme) → split_of (x ∷ xs) ≡ (x, xs)
splits x xs = refl

pub one_less : {A : Type 0} (n : ℕ) (xs zs : List A) (x : A) → zs ≡ xs ++ x ∷ [] → less (Some (n - length xs)) ≡ Some (n - length zs)
one_less n xs zs x e = let h : (n - length xs) - 1 ≡ n - length zs = omega (arith, ap length e, length-append xs (x ∷ [])) in ap Some h

pub first_less : {A : Type 0} (n : ℕ) (xs zs : List A) (x : A) → xs ≡ [] → zs ≡ xs ++ x ∷ [] → less (Some n) ≡ Some (n - length zs)
first_less n xs zs x i e = let h : n - 1 ≡ n - length zs = omega (arith, ap length e, ap length i, length-append xs (x ∷ [])) in ap Some h

same_room : (n k j m : ℕ) → k ≡ n - j → j ≡ m → Some k ≡ Some (n - m)
same_room n k j m e f = ap Some (e ∙ ap (λ i. n - i) f)

pub room_reads : {ts us : List Lexeme} {x : Lexeme} {k j m : ℕ} (n : ℕ) → k ≡ n - j → j ≡ m → Reads rules (within E4 (Some k) NAME) ts x us → Reads rules (within E4 (Some (n - m)) NAME) ts x us
room_reads {ts} {us} {x} {k} {j} {m} n e f a = subst (λ (o : Room). Reads rules (within E4 o NAME) ts x us) (same_room n k j m e f) a

pub room_halts : {ts : List Lexeme} {d : Denied} {k j m : ℕ} (n : ℕ) → k ≡ n - j → j ≡ m → Halts rules (within E4 (Some k) NAME) ts d → Halts rules (within E4 (Some (n - m)) NAME) ts d
room_halts {ts} {d} {k} {j} {m} n e f a = subst (λ (o : Room). Halts rules (within E4 o NAME) ts d) (same_room n k j m e f) a

-- ---- [ names ]

name_first : {n : Room} {ts us : List Lexeme} {x : Lexeme} → Derives rules nowhere (within E4 n NAME) ts x us → is_of a_name x.symbol ≡ true
name_first (with_room h (is_one l p i)) = i

list_of_names : {ts us : List Lexeme} (xs : List Lexeme) → Derives rules nowhere (names 8) ts (split_of xs) us → session_list (inl (split_of xs)) ≡ xs
list_of_names [] (in_turn d m) = let bad : false ≡ true = name_first d in absurd cc
list_of_names (x ∷ xs) d = refl

pub some_sessions : {ts us vs : List Lexeme} {l : Lexeme} (xs : List Lexeme) → Stands a_name l ts us → Reads rules (names 8) ts (split_of xs) vs → Tells rules sessions session_list ts xs vs
some_sessions xs h a = record { value = inl (split_of xs); reads = reads_past _ (first_of_two _ (comes_then _ (comes_within _ (token_comes _ h)))) a; is = list_of_names xs a.is }

pub sessions_halt : {ts us : List Lexeme} {l : Lexeme} {d : Denied} → Stands a_name l ts us → Halts rules (names 8) ts d → Halts rules sessions ts d
sessions_halt h a = past _ (first_of_two _ (comes_then _ (comes_within _ (token_comes _ h)))) a

pub no_sessions : {ts : List Lexeme} → Lacks a_name ts → Tells rules sessions session_list ts [] ts
no_sessions n = record { value = inr tt; reads = nothing_comes _ (misses_then _ (misses_within _ (token_misses _ n))); is = refl }

pub signature_told : {ts us vs ws xs : List Lexeme} {f x : Lexeme} {ss : List Lexeme} → Reads rules two_names ts (f, x) us → Reads rules (mark OpenParen) us tt vs → Tells rules sessions session_list vs ss ws → Reads rules (mark CloseParen) ws tt xs → Tells rules signature signed ts ((f, x), ss) xs
signature_told {f = f} {x = x} r o t c = record { value = ((f, x), (tt, (t.value, tt))); reads = then_reads r (then_reads o (then_reads t.reads c)); is = ap (λ l. ((f, x), l)) t.is }
