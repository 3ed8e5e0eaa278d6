-- What the limits of the grammar say of the lengths of lists and expressions.
use Rattle.std.proofs.Common.{◌≡◌, ℕ, zero, suc, ◌≤◌, ◌<◌, ◌+◌, ◌-◌, Bool, true, false, List, [], ◌∷◌, length, get_or, refl, subst, arith, nat_lt}
use Rattle.std.specs.List.{AllByRecursion}
use Rattle.std.proofs.lemmas.Bool.Decides.{nat_tests}
use Rattle.std.proofs.lemmas.Option.{slice_get-get_or}
use Rattle.chor_base.specs.Expr.{Term}
use Rattle.chor_base.specs.declared.rule.Rule.{Rule}
use Rattle.chor_base.specs.declared.rule.Rule.TheVariants.{P3}
use Rattle.chor_lexer.specs.declared.token.Token.{Token}
use Rattle.chor_lexer.specs.Grammar.{ExprIs}
use Rattle.chor_lexer.specs.Spelling.{expr_symbols}
use Rattle.source_grammar.specs.Symbols.{nowhere, AllowsFirst, Room}
use Rattle.source_grammar.specs.Expressions.{KeepsLength}
use Rattle.source_grammar.specs.Grammar.{MoreAre, no_more, one_more, ListIs, a_list}
use Rattle.source_grammar.specs.Limits.{KeepsMore, KeepsList}
use Rattle.canonical_laws.proofs.Derived.{Derived}
use Rattle.canonical_laws.proofs.Lengths.{expr_length}
use Rattle.canonical_laws.proofs.Tokens.{Stands}

-- where no token may be one too many and one stands there, there is room
pub some_room : (rule : Rule) (n : ℕ) {ts : List Token} → Stands ts → Room nowhere rule n ts → 0 < n
some_room rule zero s room = absurd (subst (AllowsFirst nowhere rule) s.is.parts (room refl))
some_room rule (suc n) s room = omega arith

-- ---- lists

module _ {A : Type 0} {Item : List Token → A → List Token → Type 0} (K : (ts : List Token) (x : A) (rest : List Token) → Item ts x rest → Type 0) (begins : (ts : List Token) (x : A) (rest : List Token) → Item ts x rest → Stands ts) where
  more_few : (n : ℕ) (xs : List A) {us vs : List Token} (d : MoreAre Item us xs vs) → KeepsMore nowhere K n d → length xs ≤ n
  more_few n xs no_more keeps = omega arith
  more_few n xs (one_more {xs = ys} c i m) keeps = let room = some_room P3 n (begins _ _ _ i) keeps.0 in let rest = more_few (n - 1) ys m keeps.2 in omega (arith, room, rest)

  -- a list has no more items than it may have
  pub list_few : (n : ℕ) (xs : List A) {us vs : List Token} (d : ListIs Item us xs vs) → KeepsList nowhere K n d → length xs ≤ n
  list_few n xs (a_list {xs = ys} i m) keeps = let room = some_room P3 n (begins _ _ _ i) keeps.0 in let rest = more_few (n - 1) ys m keeps.2 in omega (arith, room, rest)

-- what holds of each item that tokens derive
pub derived_all : {A : Type 0} {Item : List Token → A → List Token → Type 0} (P : A → Type 0) (xs : List A) → ((ts : List Token) (x : A) (rest : List Token) → Item ts x rest → P x) → AllByRecursion (Derived Item) xs → AllByRecursion P xs
derived_all P [] f h = tt
derived_all P (x ∷ xs) f h = (f h.0.from x h.0.to h.0.is, derived_all P xs f h.1)

-- ---- expressions

-- an expression that was read from at most 255 tokens has no more as it is printed
pub term_short : (names texts : List (List ℕ)) (us vs : List Token) (t : Term) → ExprIs names us t vs → KeepsLength nowhere us vs → length (expr_symbols names texts t) ≤ 255
term_short names texts [] vs t d keeps = let all = expr_length names texts [] t vs d in omega (arith, all)
term_short names texts (u ∷ us) vs t d keeps = go (nat_lt 255 (length (expr_symbols names texts t))) refl
  where
    all : length (expr_symbols names texts t) + length vs ≤ length (u ∷ us)
    all = expr_length names texts (u ∷ us) t vs d

    go : (b : Bool) → nat_lt 255 (length (expr_symbols names texts t)) ≡ b → length (expr_symbols names texts t) ≤ 255
    go false h = grind (arith, nat_tests)
    go true h =
        let long : 255 < length (expr_symbols names texts t) = grind (arith, nat_tests) in
        let inside : 255 < length (u ∷ us) = omega (arith, all, long) in
        absurd (keeps (get_or (u ∷ us) 255 u) (omega (arith, all, long)) (slice_get-get_or (u ∷ us) 255 u inside))
