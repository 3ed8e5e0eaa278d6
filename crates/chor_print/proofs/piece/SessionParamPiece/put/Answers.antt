use Rattle.std.proofs.Common.{ℕ, List, ◌++◌, ap, ◌∙◌, append_assoc, codes}
use Rattle.std.proofs.lemmas.Result.{on_ok_weaker}
use Rattle.chor_print.specs.Pieces.{named_text, listed, holder_text}
use Rattle.chor_print.proofs.Chains.{four}
use Rattle.chor_print.proofs.piece.SessionParamPiece.put.Goals as goal

pub returns : goal.returns
returns c =
    let k = c.args.self.now in
    let names = c.args.names.now in
    let o = c.args.out.now.items in
    on_ok_weaker c.put_holders.result
    (λ last. four o (named_text names k.name) (codes " : " ++ named_text names k.protocol) (codes "." ++ named_text names k.state) (codes " {" ++ listed (holder_text names) k.holders ++ codes "}")
    c.in_ok-put.ensures c.in_ok-put_after.ensures c.in_ok-put_after-2.ensures (last ∙ ap (λ (t : List (_)). c.put_after-2.new.out.items ++ (codes " {" ++ listed (holder_text names) t ++ codes "}")) c.as_slice.ensures)
    ∙ ap (λ (t : List ℕ). o ++ t) (simp append_assoc))
    c.put_holders.ensures
