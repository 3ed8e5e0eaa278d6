use Rattle.std.specs.Prelude.{◌↔◌, IsTrue, IfSome, IfNone, is_some}
use Rattle.std.proofs.Common.{ℕ, List, Option, Some, None, drop, refl}
use Rattle.chor_lexer.specs.declared.token.Token.{Token}
use Rattle.chor_tree.specs.declared.file.Named.{Named}
use Rattle.source_grammar.specs.Symbols.{Head}
use Rattle.source_grammar.specs.Grammar.{NameIs}
use Rattle.source_grammar.specs.Parts.{AName}
use Rattle.source_grammar.proofs.Terminals.{name_head, no_name_head}
use Rattle.source_reader.proofs.input.Input.has_name.Goals as goal

tests : (names : List (List ℕ)) (ts tokens : List Token) (o : Option (Named × ℕ)) → IfSome o (λ x. NameIs names ts x.0 (drop x.1 tokens)) → IfNone o ((n : Named) (rest : List Token) → NameIs names ts n rest → ⊥) → (IsTrue (is_some o) ↔ Head AName names ts)
tests names ts tokens None h k = ((λ t. absurd cc), (λ n. absurd (no_name_head k n)))
tests names ts tokens (Some x) h k = ((λ t. name_head h), (λ n. refl))

pub returns : goal.returns
returns c = rw c.is_some.ensures (tests _ _ c.args.self.now.tokens.now.items c.name_at.result c.name_at.ensures.found c.name_at.ensures.none)
