use Rattle.conform.proofs.Parts.{parts_of, first_off}
use Rattle.conform.proofs.following.are_of.Goals as goal

pub returns-then-are_in : goal.returns-then-are_in
returns-then-are_in c = parts_of c.args.parts.now c.args.service.now.active c.args.service.now.serve _ _ c.as_slice-active.result.now c.as_slice.result.now c.as_slice-active.ensures c.as_slice.ensures c.if-parts-active.false c.split_at.ensures.front c.split_at.ensures.back c.are_in.result c.are_in.ensures c.if-are_in.true c.are_in-then-are_in.result c.are_in-then-are_in.ensures

pub returns-else-are_in : goal.returns-else-are_in
returns-else-are_in c = first_off c.args.parts.now c.args.service.now.active c.args.service.now.serve _ c.as_slice-active.result.now c.as_slice-active.ensures c.if-parts-active.false c.split_at.ensures.front c.are_in.result c.are_in.ensures c.if-are_in.false
