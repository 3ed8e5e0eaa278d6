-- The statement or tail that a node is, whatever follows it.
use Rattle.std.specs.Prelude.{Bool, true, false, []}
use Rattle.chor_tree.specs.declared.tree.Form.{Form}
use Rattle.chor_tree.specs.declared.tree.Form.TheVariants.{Start, Value, Label, Give, Set, Host, Show, If, Call, End}
use Rattle.chor_tree.specs.declared.file.File.{File}
use Rattle.chor_tree.specs.Source.{Block, block_of, nowhere}
use Rattle.chor_tree.specs.Same.{Same, same_block}
use Rattle.chor_tree.specs.Both.{words_of, texts_of}

-- the block in which nothing follows it
abbrev pub head_of : Form → Block
head_of f = block_of [] nowhere f

-- it is the same for both, whatever follows
abbrev pub same_heads : File → File → Same Form
same_heads a b f g = same_block (words_of a b) (texts_of a b) (head_of f) (head_of g)

abbrev pub is_start : Form → Bool
is_start (Start c k active serve next) = true
is_start _ = false

abbrev pub is_value : Form → Bool
is_value (Value a e b x k next) = true
is_value _ = false

abbrev pub is_label : Form → Bool
is_label (Label a b k l next) = true
is_label _ = false

abbrev pub is_give : Form → Bool
is_give (Give a b k h next) = true
is_give _ = false

abbrev pub is_set : Form → Bool
is_set (Set p x e next) = true
is_set _ = false

abbrev pub is_host : Form → Bool
is_host (Host p x f a b next) = true
is_host _ = false

abbrev pub is_show : Form → Bool
is_show (Show p e next) = true
is_show _ = false

abbrev pub is_if : Form → Bool
is_if (If p e first second) = true
is_if _ = false

abbrev pub is_call : Form → Bool
is_call (Call f ps ks) = true
is_call _ = false

abbrev pub is_end : Form → Bool
is_end End = true
is_end _ = false
