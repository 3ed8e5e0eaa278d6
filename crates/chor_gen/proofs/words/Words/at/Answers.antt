use Rattle.std.proofs.Common.{ap, ◌∙◌, ◌≡◌, true, subst, sym}
use Rattle.chor_base.specs.declared.names.NameId.{NameId}
use Rattle.chor_tree.specs.declared.file.Named.{Named}
use Rattle.chor_tree.specs.Kept.{has_name}
use Rattle.chor_gen.specs.Words.{beginning}
use Rattle.chor_gen.proofs.Tables.{number_found, number_there}
use Rattle.chor_gen.proofs.words.Words.at.Goals as goal

pub returns-clause-named : goal.returns-clause-named
returns-clause-named c =
    ap (λ (n : NameId). let named : Named = record { name = n; place = beginning } in named) (c.unwrap_or-name.ensures ∙ number_found c.args.self.now.names c.args.word.now c.find.result c.args.self.now.distinct c.find.ensures.found c.find.ensures.absent)

pub returns-clause-there : goal.returns-clause-there
returns-clause-there c =
    let e = c.unwrap_or-name.ensures ∙ number_found c.args.self.now.names c.args.word.now c.find.result c.args.self.now.distinct c.find.ensures.found c.find.ensures.absent in
    subst (λ (n : NameId). has_name c.args.self.now.names n ≡ true) (sym e) (number_there c.args.self.now.names c.args.word.now c.args.self.now.some)
