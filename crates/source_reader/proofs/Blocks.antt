-- Blocks whose nodes are in a table.
use Rattle.std.proofs.Common.{◌≡◌, ◌<◌, ℕ, List, [], ◌∷◌, ◌++◌, length, ap, sym, ◌∙◌, subst}
use Rattle.chor_base.specs.declared.rule.Place.{Place}
use Rattle.chor_base.specs.declared.expr.Expr.{Expr}
use Rattle.chor_base.specs.Expr.{term_of}
use Rattle.chor_lexer.specs.declared.token.Token.{Token}
use Rattle.chor_tree.specs.declared.file.Named.{Named}
use Rattle.chor_tree.specs.declared.tree.Node.{Node}
use Rattle.chor_tree.specs.declared.tree.NodeId.{NodeId}
use Rattle.chor_tree.specs.declared.tree.Form.TheVariants as form
use Rattle.chor_tree.specs.Source.{Block, Either, Calls, Ends, block_in, block_of, blocks_of}
use Rattle.source_grammar.specs.Symbols.{Part, Further, Reads}
use Rattle.source_grammar.specs.Growing.{Grows}
use Rattle.source_grammar.proofs.Tables.{block_stays, block_pushed}

-- what the node that was pushed last says
pub end_block : {p : Place} (old new : List Node) (n : Node) (id : NodeId) → new ≡ old ++ n ∷ [] → id.0 ≡ length old → n ≡ record { place = p; form = form.End } → block_in (blocks_of new) id ≡ Ends p
end_block old new n id made at is = block_pushed old new n id made at ∙ ap (λ (k : Node). block_of (blocks_of old) k.place k.form) is

pub call_block : {p : Place} {f : Named} {ps ss : List Named} (old new : List Node) (n : Node) (id : NodeId) → new ≡ old ++ n ∷ [] → id.0 ≡ length old → n ≡ record { place = p; form = form.Call f ps ss } → block_in (blocks_of new) id ≡ Calls p f ps ss
call_block old new n id made at is = block_pushed old new n id made at ∙ ap (λ (k : Node). block_of (blocks_of old) k.place k.form) is

pub conditional_block : {p : Place} {q : Named} (e : Expr) (one two new : List Node) (n : Node) (first second : NodeId) {id : NodeId} → first.0 < length one → Grows one two → new ≡ two ++ n ∷ [] → id.0 ≡ length two → n ≡ record { place = p; form = form.If q e first second } → block_in (blocks_of new) id ≡ Either p q (term_of e) (block_in (blocks_of one) first) (block_in (blocks_of two) second)
conditional_block {p} {q} e one two new n first second {id} lt grows made at is =
    let here : block_in (blocks_of new) id ≡ Either p q (term_of e) (block_in (blocks_of two) first) (block_in (blocks_of two) second) = block_pushed two new n id made at ∙ ap (λ (k : Node). block_of (blocks_of two) k.place k.form) is in
    here ∙ ap (λ (b : Block). Either p q (term_of e) b (block_in (blocks_of two) second)) (block_stays one two first grows lt)

-- a block by another name
pub said_block : {R : Part Block} {C : Further} {names : List (List ℕ)} {ts : List Token} {b c : Block} {rest : List Token} → b ≡ c → Reads R C names ts c rest → Reads R C names ts b rest
said_block {R} {C} {names} {ts} {b} {c} {rest} e r = subst (λ (x : Block). Reads R C names ts x rest) (sym e) r
