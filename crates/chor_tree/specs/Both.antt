-- Which names and which texts of two files are the same.
use Rattle.std.specs.Prelude.{ℕ, Bool}
use Rattle.chor_base.specs.declared.names.NameId.{NameId}
use Rattle.chor_tree.specs.declared.file.File.{File}
use Rattle.chor_tree.specs.declared.file.Proc.{Proc}
use Rattle.chor_tree.specs.declared.tree.NodeId.{NodeId}
use Rattle.chor_tree.specs.Source.{block_in, blocks_of, procedure_of}
use Rattle.chor_tree.specs.Same.{Same, same_words, same_texts, same_block, same_procedure}

abbrev pub words_of : File → File → Same NameId
words_of f g = same_words f.names g.names

abbrev pub texts_of : File → File → Same ℕ
texts_of f g = same_texts f.texts g.texts

-- the block at a node of the one file says what that at a node of the other does
abbrev pub blocks_same : File → File → NodeId → NodeId → Bool
blocks_same f g i j = same_block (words_of f g) (texts_of f g) (block_in (blocks_of f.tree.nodes) i) (block_in (blocks_of g.tree.nodes) j)

-- so do two procedures
abbrev pub procedure_same : File → File → Same Proc
procedure_same f g p q = same_procedure (words_of f g) (texts_of f g) (procedure_of f.tree.nodes p) (procedure_of g.tree.nodes q)
