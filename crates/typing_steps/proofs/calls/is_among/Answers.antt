use Rattle.std.proofs.Common.{List, Bool, drop, ◌+◌, ◌||◌, ap, sym, ◌∙◌, refl}
use Rattle.chor_tree.specs.declared.file.Named.{Named}
use Rattle.chor_tree.specs.Names.{is_among, names_in}
use Rattle.typing_steps.proofs.Searches.{at_place}
use Rattle.typing_steps.proofs.calls.is_among.Goals as goal

pub returns-then-eq : goal.returns-then-eq
returns-then-eq c =
    let left : List Named → Bool = λ l. is_among (names_in l) c.args.name in
    let i = c.loop-other.other-index in
    ap (λ b. b || left (drop (i + 1) c.args.names.now)) (sym c.if-eq.true ∙ c.eq.ensures)
    ∙ at_place left c.args.names.now c.args.names.now i _ _ refl c.loop-other-test.true c.loop-other.invariant

pub loop-other-preserved : goal.loop-other-preserved
loop-other-preserved c =
    let left : List Named → Bool = λ l. is_among (names_in l) c.args.name in
    let i = c.loop-other.other-index in
    ap (λ b. b || left (drop (i + 1) c.args.names.now)) (sym c.if-eq.false ∙ c.eq.ensures)
    ∙ at_place left c.args.names.now c.args.names.now i _ _ refl c.loop-other-test.true c.loop-other.invariant
