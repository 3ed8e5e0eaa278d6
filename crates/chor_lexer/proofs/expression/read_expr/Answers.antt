use Rattle.std.proofs.Common.{◌≡◌, ap, ◌∙◌, sym, drop}
use Rattle.chor_lexer.specs.Tokens.{is_ended}
use Rattle.chor_lexer.proofs.Longest.{Window, is_read, has_place, is_refusal, ended_drop}
use Rattle.chor_lexer.proofs.expression.read_expr.Goals as goal

pub refusal-requires : goal.refusal-requires
refusal-requires c =
    let rest : drop c.args.at c.args.tokens.now.items ≡ c.split_at.result.1.now = sym (c.split_at.ensures.back ∙ ap (drop c.args.at) c.as_slice.ensures) in
    let w : Window c.split_at.result.1.now c.split_at-2.result.0.now c.split_at-2.result.1.now = record { parts = c.split_at-2.ensures.by_index.0; size = c.split_at-2.ensures.front_len ∙ c.min.ensures } in
    has_place _ _ _ _ _ (sym (ap is_ended rest) ∙ ended_drop c.args.tokens.now.items c.args.at c.requires c.args.tokens.now.ended) w c.in-Err.ensures.err

pub returns-in-Ok-clause-found : goal.returns-in-Ok-clause-found
returns-in-Ok-clause-found c =
    let w : Window c.split_at.result.1.now c.split_at-2.result.0.now c.split_at-2.result.1.now = record { parts = c.split_at-2.ensures.by_index.0; size = c.split_at-2.ensures.front_len ∙ c.min.ensures } in
    is_read _ _ _ _ _ _ _ _ (c.split_at.ensures.back ∙ ap (drop c.args.at) c.as_slice.ensures) w c.in-Ok.ensures.ok

pub returns-in-Err-clause-denied : goal.returns-in-Err-clause-denied
returns-in-Err-clause-denied c =
    let w : Window c.split_at.result.1.now c.split_at-2.result.0.now c.split_at-2.result.1.now = record { parts = c.split_at-2.ensures.by_index.0; size = c.split_at-2.ensures.front_len ∙ c.min.ensures } in
    is_refusal _ _ _ _ _ _ _ (c.split_at.ensures.back ∙ ap (drop c.args.at) c.as_slice.ensures) w c.in-Err.ensures.err c.refusal.ensures
