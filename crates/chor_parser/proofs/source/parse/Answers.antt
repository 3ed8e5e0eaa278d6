use Rattle.std.proofs.lemmas.Result.{err_from_is_err_and}
use Rattle.source_grammar.proofs.Sequels.{now, later, then_reads}
use Rattle.source_grammar.proofs.Terminals.{holds_if, fails_if}
use Rattle.source_grammar.proofs.Files.{items_part, items_end, main_part, bare_part, header_end}
use Rattle.source_grammar.proofs.Headers.{header_part}
use Rattle.chor_parser.proofs.Joined.{file_within}
use Rattle.source_grammar.proofs.FirstFaults.{refusal_is, unended, whole}
use Rattle.chor_tree.specs.Kept.{Contents}
use Rattle.source_grammar.proofs.Tables.{all_there}
use Rattle.source_grammar.proofs.KeptFiles.{nodes_are, file_kept}
use Rattle.chor_parser.proofs.source.parse.Goals as goal

pub returns-in_err-header-clause-denied : goal.returns-in_err-header-clause-denied
returns-in_err-header-clause-denied c =
    let p = err_from_is_err_and c.from_residual.result c.from_residual.ensures.1 in
    rw (p.1, p.2) (refusal_is _ (whole c.args.tokens.now.ended c.requires.known) (now bare_part header_end c.in_err-header.ensures.halts))

pub returns-in_err-items-clause-denied : goal.returns-in_err-items-clause-denied
returns-in_err-items-clause-denied c =
    let p = err_from_is_err_and c.from_residual-in_err-items.result c.from_residual-in_err-items.ensures.1 in
    rw (p.1, p.2) (refusal_is _ (whole c.args.tokens.now.ended c.requires.known) (later header_part header_end c.in_ok-header.ensures.reads (now main_part items_end c.in_err-items.ensures.halts)))

pub returns-in_err-main-clause-denied : goal.returns-in_err-main-clause-denied
returns-in_err-main-clause-denied c =
    let p = err_from_is_err_and c.from_residual-in_err-main.result c.from_residual-in_err-main.ensures.1 in
    rw (p.1, p.2) (refusal_is _ (whole c.args.tokens.now.ended c.requires.known) (later header_part header_end c.in_ok-header.ensures.reads (later items_part items_end c.in_ok-items.ensures.reads c.in_err-main.ensures.halts)))

pub returns-then-not-is_end-clause-denied : goal.returns-then-not-is_end-clause-denied
returns-then-not-is_end-clause-denied c = unended _ (whole c.args.tokens.now.ended c.requires.known) (then_reads header_part header_end c.in_ok-header.ensures.reads (then_reads items_part items_end c.in_ok-items.ensures.reads c.in_ok-main.ensures.reads)) (λ t left e k. fails_if c.is_end.ensures c.if-not-is_end.true (record { token = t; rest = left; parts = e; last = k })) c.refused.ensures

pub returns-clause-found : goal.returns-clause-found
returns-clause-found c = file_within _ _ _ c.in_ok-header.header c.in_ok-items.items _ _ _ (then_reads header_part header_end c.in_ok-header.ensures.reads (then_reads items_part items_end c.in_ok-items.ensures.reads c.in_ok-main.ensures.reads)) c.in_ok-items.ensures.there c.in_ok-main.ensures.grows c.args.tokens.now.ended (holds_if c.is_end.ensures c.if-not-is_end.false)

pub returns-clause-bodies : goal.returns-clause-bodies
returns-clause-bodies c = all_there _ _ _ c.in_ok-main.ensures.grows c.in_ok-items.ensures.there

pub invariant_of-result : goal.invariant_of-result
invariant_of-result c =
    let made : Contents = record {
      header = c.in_ok-header.header;
      names = c.args.names;
      texts = c.args.texts;
      protocols = c.in_ok-items.items.protocols;
      services = c.in_ok-items.items.services;
      procs = c.in_ok-items.items.procs;
      processes = c.in_ok-main.main.processes;
      nodes = c.read_main.new.tree.nodes;
      body = c.in_ok-main.main.body;
    } in
    let within = file_within _ _ _ c.in_ok-header.header c.in_ok-items.items _ _ _ (then_reads header_part header_end c.in_ok-header.ensures.reads (then_reads items_part items_end c.in_ok-items.ensures.reads c.in_ok-main.ensures.reads)) c.in_ok-items.ensures.there c.in_ok-main.ensures.grows c.args.tokens.now.ended (holds_if c.is_end.ensures c.if-not-is_end.false) in
    record { kept = file_kept made _ within c.requires.texts (nodes_are made c.in_ok-items.ensures.adds c.in_ok-main.ensures.adds) }
