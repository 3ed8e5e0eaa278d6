use Rattle.canonical_laws.proofs.Anew.{is_cut, reads_anew, is_taken, says_it}
use Rattle.canonical_laws.proofs.laws.text_reads_anew.Goals as goal

pub returns-clause-cut : goal.returns-clause-cut
returns-clause-cut c f rule place r = is_cut r.bytes r.tokens f r.is rule place

pub returns-clause-source : goal.returns-clause-source
returns-clause-source c f old_names old_texts names texts us r = reads_anew r.bytes r.tokens f r.is names texts us

pub returns-clause-taken : goal.returns-clause-taken
returns-clause-taken c f old_names old_texts names texts us rule place r = is_taken r.bytes r.tokens f r.is names texts us rule place

pub returns-clause-file : goal.returns-clause-file
returns-clause-file c f g old_names old_texts us r = says_it r.bytes r.tokens f r.is us g
