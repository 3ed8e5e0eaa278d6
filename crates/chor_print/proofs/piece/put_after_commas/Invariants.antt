use Rattle.std.proofs.Common.{◌≡◌, ◌++◌, drop}
use Rattle.chor_print.specs.Parts.{after_commas}
use Rattle.chor_print.proofs.piece.put_after_commas.Given as goal

abbrev pub invariant-loop-item : goal.invariant-loop-item
invariant-loop-item g l = l.out.items ++ after_commas (g.T.Piece.text l.names) (drop l.item-index l.items) ≡ l.fn.out.items ++ after_commas (g.T.Piece.text l.names) l.items
