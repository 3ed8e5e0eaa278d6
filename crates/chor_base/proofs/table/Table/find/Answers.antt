use Rattle.std.proofs.Common.{subst, sym, ◌∙◌, List, ℕ, Option}
use Rattle.chor_base.specs.Words.{number_in, IsPlaceAmong}
use Rattle.chor_base.proofs.WordTables.{found_at, absent_at}
use Rattle.chor_base.proofs.table.Table.find.Goals as goal

pub returns-clause-found : goal.returns-clause-found
returns-clause-found c =
    let place : IsPlaceAmong c.args.self.now c.args.word.now c.copied.result = subst (λ (o : Option ℕ). IsPlaceAmong c.args.self.now c.args.word.now o) (sym (c.copied.ensures ∙ c.get.ensures.value))
    (subst (λ (ws : List (List ℕ)). IsPlaceAmong ws c.args.word.now (number_in c.self.inside.numbers.entries c.args.word.now)) c.self.view_is (c.self.invariant.places c.args.word.now)) in
    found_at c.args.self.now c.args.word.now c.copied.result place

pub returns-clause-absent : goal.returns-clause-absent
returns-clause-absent c =
    let place : IsPlaceAmong c.args.self.now c.args.word.now c.copied.result = subst (λ (o : Option ℕ). IsPlaceAmong c.args.self.now c.args.word.now o) (sym (c.copied.ensures ∙ c.get.ensures.value))
    (subst (λ (ws : List (List ℕ)). IsPlaceAmong ws c.args.word.now (number_in c.self.inside.numbers.entries c.args.word.now)) c.self.view_is (c.self.invariant.places c.args.word.now)) in
    absent_at c.args.self.now c.args.word.now c.copied.result place
