use Rattle.std.proofs.Common.{arith}
use Rattle.source_grammar.specs.Grammar.{NameIs}
use Rattle.source_grammar.proofs.ItemLists.{all_of, first_item_halts, first_comes, more_come, item_halts, list_reads, any_list_alike}
use Rattle.source_grammar.proofs.Shorter.{mark_shorter, name_shorter}
use Rattle.source_grammar.proofs.Terminals.{name_reads}
use Rattle.source_grammar.proofs.Statements.{passes}
use Rattle.source_grammar.proofs.PassedNames.{all_names_items}
use Rattle.source_reader.proofs.block.read_all_names.Goals as goal

pub returns-in_err-first-clause-halts : goal.returns-in_err-first-clause-halts
returns-in_err-first-clause-halts c = passes _ _ c.from_residual.ensures.1 (first_item_halts 0 all_of all_names_items (any_list_alike NameIs 0) c.in_err-first.ensures.halts)

pub loop-after-init : goal.loop-after-init
loop-after-init c = first_comes 0 _ _ all_names_items (any_list_alike NameIs 0) (name_reads c.in_ok-first.ensures.read) c.new-names.ensures c.in_ok-push.ensures.ok

pub returns-in_err-name-clause-halts : goal.returns-in_err-name-clause-halts
returns-in_err-name-clause-halts c = passes _ _ c.from_residual-in_err-name.ensures.1 (item_halts _ _ all_names_items c.loop-after.invariant c.in-Some.ensures.found c.in_err-name.ensures.halts)

pub loop-after-preserved : goal.loop-after-preserved
loop-after-preserved c = more_come 0 _ _ all_names_items c.loop-after.invariant c.in-Some.ensures.found (name_reads c.in_ok-name.ensures.read) c.in_ok-push-2.ensures.ok

pub loop-after-smaller : goal.loop-after-smaller
loop-after-smaller c = omega (arith, mark_shorter c.in-Some.ensures.found, name_shorter c.in_ok-name.ensures.read)

pub returns-clause-reads : goal.returns-clause-reads
returns-clause-reads c = list_reads _ _ all_names_items c.loop-after.invariant c.in_default.ensures.none
