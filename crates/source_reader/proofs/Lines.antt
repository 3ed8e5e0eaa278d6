-- Lines before a tail: how they are read, and how their nodes are pushed.
use Rattle.std.proofs.Common.{◌≡◌, ◌<◌, ◌-◌, ◌≤◌, ℕ, List, [], ◌∷◌, ◌++◌, length, ap, refl, sym, ◌∙◌, subst, arith}
use Rattle.chor_base.specs.declared.rule.Place.{Place}
use Rattle.chor_lexer.specs.declared.mark.Mark.TheVariants.{Semicolon}
use Rattle.chor_lexer.specs.declared.token.Token.{Token}
use Rattle.source_grammar.specs.Symbols.{Nothing, Reads, Head, Leads}
use Rattle.source_grammar.specs.Values.{StandsAt}
use Rattle.source_grammar.proofs.Sequels.{leads_on, leads_same}
use Rattle.chor_tree.specs.declared.tree.Node.{Node}
use Rattle.chor_tree.specs.declared.tree.NodeId.{NodeId}
use Rattle.chor_tree.specs.Children.{children_of}
use Rattle.chor_tree.specs.Source.{Block, Then, block_in, block_of, blocks_of}
use Rattle.source_grammar.specs.Grammar.{MarkIs}
use Rattle.source_grammar.specs.Statements.{StatementPart, StatementFirst, StatementMore}
use Rattle.source_grammar.specs.Blocks.{LinesPart}
use Rattle.source_grammar.specs.Growing.{Grows, Adds}
use Rattle.source_grammar.proofs.Shorter.{mark_shorter, statement_shorter}
use Rattle.source_grammar.proofs.Tables.{block_pushed, grows_none, grows_by, grows_on, last_there}
use Rattle.source_grammar.proofs.Growth.{adds_node}
use Rattle.source_grammar.proofs.Nested.{into_line, past_statement, past_line}
use Rattle.source_reader.specs.declared.block.Line.{Line}
use Rattle.source_reader.specs.declared.statement.Statement.{Statement as Read}
use Rattle.source_reader.specs.declared.statement.Statement.TheVariants as read
use Rattle.source_reader.specs.Reading.{statement_of, form_of, with_lines}
use Rattle.source_reader.proofs.Coming.{with_last}

-- ---- lines that have come

pub record LinesCome (names : List (List ℕ)) (ts : List Token) (blocks path left : ℕ) (ls : List Line) (rest : List Token) : Type 0 where
  pub leads : Leads (LinesPart blocks path) Nothing names ts (LinesPart blocks left) Nothing rest (with_lines ls)
  pub shorter : length rest ≤ length ts

pub no_lines : {names : List (List ℕ)} {ts : List Token} {blocks path : ℕ} {ls : List Line} → ls ≡ [] → LinesCome names ts blocks path path ls ts
no_lines {names} {ts} {blocks} {path} {ls} e = record {
  leads = subst (λ (k : List Line). Leads (LinesPart blocks path) Nothing names ts (LinesPart blocks path) Nothing ts (with_lines k)) (sym e) (record { reads = λ b rest r. r; halts = λ d h. h });
  shorter = omega arith;
}

pub more_lines : {names : List (List ℕ)} {ts t1 t2 t3 : List Token} {blocks path left : ℕ} {ls ks : List Line} (l : Line) → LinesCome names ts blocks path left ls t1 → 0 < left → Head StatementFirst names t1 → StandsAt l.place t1 → Reads StatementPart StatementMore names t1 (statement_of l.statement) t2 → MarkIs Semicolon t2 t3 → ks ≡ ls ++ l ∷ [] → LinesCome names ts blocks path (left - 1) ks t3
more_lines {names} {ts} {t1} {t2} {t3} {blocks} {path} {left} {ls} {ks} l c room first at r m e = record {
  leads =
      leads_same
      (leads_on c.leads (leads_on (into_line blocks left room first at) (leads_on (past_statement blocks left r) (past_line blocks left m))))
      (λ b. sym (ap (λ (x : List Line). with_lines x b) e ∙ with_last ls l b));
  shorter = omega (arith, mark_shorter m, statement_shorter r.is.is, c.shorter);
}

-- ---- lines that are pushed

block_of_form : (bs : List Block) (p : Place) (s : Read) (next : NodeId) → block_of bs p (form_of s next) ≡ Then p (statement_of s) (block_in bs next)
block_of_form bs p (read.Start c k active serve) next = refl
block_of_form bs p (read.Value a e b x k) next = refl
block_of_form bs p (read.Label a b k l) next = refl
block_of_form bs p (read.Give a b k h) next = refl
block_of_form bs p (read.Set q x e) next = refl
block_of_form bs p (read.Host q x f a b) next = refl
block_of_form bs p (read.Show q e) next = refl

-- what is left to push, before what was pushed
pub record Pushes (first : List Node) (lines : List Line) (tail : NodeId) (nodes : List Node) (left : List Line) (next : NodeId) : Type 0 where
  pub block : with_lines left (block_in (blocks_of nodes) next) ≡ with_lines lines (block_in (blocks_of first) tail)
  pub there : next.0 < length nodes
  pub grows : Grows first nodes

pub pushes_none : (nodes : List Node) (lines : List Line) (tail : NodeId) → tail.0 < length nodes → Pushes nodes lines tail nodes lines tail
pushes_none nodes lines tail lt = record { block = refl; there = lt; grows = grows_none nodes }

pub pushes_line : {first nodes : List Node} {lines left : List Line} {tail next : NodeId} (l : Line) (n : Node) (rest : List Line) (new : List Node) (id : NodeId) → Pushes first lines tail nodes left next → left ≡ rest ++ l ∷ [] → n.place ≡ l.place → n.form ≡ form_of l.statement next → new ≡ nodes ++ n ∷ [] → id.0 ≡ length nodes → Pushes first lines tail new rest id
pushes_line {first} {nodes} {lines} {left} {tail} {next} l n rest new id p e place form made at =
    let here : block_in (blocks_of new) id ≡ Then l.place (statement_of l.statement) (block_in (blocks_of nodes) next) =
    block_pushed nodes new n id made at ∙ (λ i. block_of (blocks_of nodes) (place i) (form i)) ∙ block_of_form (blocks_of nodes) l.place l.statement next in
    record {
      block = ap (with_lines rest) here ∙ sym (with_last rest l (block_in (blocks_of nodes) next)) ∙ ap (λ (ls : List Line). with_lines ls (block_in (blocks_of nodes) next)) (sym e) ∙ p.block;
      there = last_there nodes new n id made at;
      grows = grows_on first nodes new p.grows (grows_by nodes new n made);
    }

no_line : (ls : List Line) (b : Block) → length ls ≡ 0 → b ≡ with_lines ls b
no_line [] b e = refl
no_line (l ∷ ls) b e = absurd (omega arith)

pub all_pushed : {first nodes : List Node} {lines left : List Line} {tail next : NodeId} → Pushes first lines tail nodes left next → length left ≡ 0 → block_in (blocks_of nodes) next ≡ with_lines lines (block_in (blocks_of first) tail)
all_pushed {nodes = nodes} {left = left} {next = next} p e = no_line left (block_in (blocks_of nodes) next) e ∙ p.block

-- ---- what their nodes add

form_follows : (s : Read) (next : NodeId) → children_of (form_of s next) ≡ next ∷ []
form_follows (read.Start c k active serve) next = refl
form_follows (read.Value a e b x k) next = refl
form_follows (read.Label a b k l) next = refl
form_follows (read.Give a b k h) next = refl
form_follows (read.Set q x e) next = refl
form_follows (read.Host q x f a b) next = refl
form_follows (read.Show q e) next = refl

-- whatever led to the tail leads to the lines before it
pub record Leading (start : List Node) (tail : NodeId) (nodes : List Node) (next : NodeId) : Type 0 where
  pub by : (first : List Node) → Adds first start (tail ∷ []) → Adds first nodes (next ∷ [])

pub leading_none : (nodes : List Node) (tail : NodeId) → Leading nodes tail nodes tail
leading_none nodes tail = record { by = λ first d. d }

pub leading_line : {start nodes new : List Node} {tail next id : NodeId} (s : Read) (n : Node) → Leading start tail nodes next → n.form ≡ form_of s next → new ≡ nodes ++ n ∷ [] → id.0 ≡ length nodes → Leading start tail new id
leading_line {nodes = nodes} {next = next} s n l is made at = record {
  by = λ first d. adds_node n (subst (λ (rs : List NodeId). Adds first nodes rs) (sym (ap children_of is ∙ form_follows s next)) (l.by first d)) made at;
}
