use Rattle.std.proofs.Common.{◌≡◌, ◌==◌, ◌∙◌, ℕ, false, List, [], ◌∷◌, length, refl, sym, arith}
use Rattle.event_reader.proofs.Cuts.{front_len}
use Rattle.transcript_lines.proofs.LineCuts.{line_cut, first_ended, first_unended}
use Rattle.transcript_lines.proofs.lines.first_line.Goals as goal

nothing : (bs : List ℕ) → length bs ≡ 0 → bs ≡ []
nothing [] e = refl
nothing (b ∷ bs) e = absurd (omega arith)

full : (bs : List ℕ) → (length bs == 0) ≡ false → bs ≡ [] → ⊥
full [] e q = absurd cc
full (b ∷ bs) e q = absurd cc

pub split_at-requires : goal.split_at-requires
split_at-requires c = omega (arith, front_len 10 c.args.bytes.now, c.line_len.ensures)

pub returns-in-Some-clause-lines : goal.returns-in-Some-clause-lines
returns-in-Some-clause-lines c =
    first_ended c.args.bytes.now c.split_at.result.0.now c.split_at.result.1.now c.in-Some.rest.now _ (line_cut _ _ _ c.line_len.result c.line_len.ensures c.split_at.ensures.front c.split_at.ensures.back) c.in-Some.ensures.cases.0

pub returns-in-None-clause-lines : goal.returns-in-None-clause-lines
returns-in-None-clause-lines c =
    first_unended c.args.bytes.now c.split_at.result.0.now c.split_at.result.1.now (line_cut _ _ _ c.line_len.result c.line_len.ensures c.split_at.ensures.front c.split_at.ensures.back) (λ e. full c.args.bytes.now (sym c.is_empty.ensures ∙ c.if-is_empty.false) e) (nothing _ c.in-None.ensures.cases)
