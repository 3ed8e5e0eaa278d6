use Rattle.std.proofs.Common.{sym, subst}
use Rattle.chor_base.specs.Words.{AllDistinct}
use Rattle.endpoint_code.specs.declared.endpoints.Endpoints.{Endpoints}
use Rattle.endpoint_code.specs.AboveUnits.{AreUnitsAbove}
use Rattle.endpoint_code.specs.Faults.{IsFaultless}
use Rattle.same_programs.specs.Words.{HasDistinctWords}
use Rattle.endpoint_link.specs.declared.joined.Joined.{Joined}
use Rattle.endpoint_link.specs.InTables.{HasTablesOf}
use Rattle.endpoint_link.specs.Joined.{AreProgramsJoined}
use Rattle.endpoint_link.specs.Linked.{IsLinked}
use Rattle.endpoint_link.proofs.Faultless.{linked_faultless}
use Rattle.endpoint_link.proofs.LinkedUnits.{linked_above}
use Rattle.endpoint_link.proofs.Asked.{linked_asks}
use Rattle.endpoint_link.proofs.linking.link.Goals as goal

module _ (e g r : Endpoints) (j : Joined) (p : AreProgramsJoined e g j) (linked : IsLinked e g r) (tables : HasTablesOf j r) (fine_e : IsFaultless e) (fine_g : IsFaultless g) (words : HasDistinctWords g) where
  differ : HasDistinctWords r
  differ = record { names = subst AllDistinct (sym tables.names) p.distinct_names; texts = subst AllDistinct (sym tables.texts) p.distinct_texts }

  faultless : IsFaultless r
  faultless = linked_faultless e g r linked words differ fine_e fine_g

  above : AreUnitsAbove e r
  above = linked_above e g r linked faultless differ

pub returns-clause-faultless : goal.returns-clause-faultless
returns-clause-faultless c =
    faultless c.args.base.now c.args.given.now c.in_ok-linked.linked c.in_ok-joined.joined c.in_ok-joined.ensures c.in_ok-linked.ensures.linked c.in_ok-linked.ensures.tables c.requires.base c.requires.given
    (record { names = c.len-names.ensures.distinct; texts = c.len-texts.ensures.distinct })

pub returns-clause-above : goal.returns-clause-above
returns-clause-above c =
    above c.args.base.now c.args.given.now c.in_ok-linked.linked c.in_ok-joined.joined c.in_ok-joined.ensures c.in_ok-linked.ensures.linked c.in_ok-linked.ensures.tables c.requires.base c.requires.given
    (record { names = c.len-names.ensures.distinct; texts = c.len-texts.ensures.distinct })

pub returns-clause-asks : goal.returns-clause-asks
returns-clause-asks c = linked_asks c.args.base.now c.args.given.now c.in_ok-linked.linked c.in_ok-linked.ensures.linked
