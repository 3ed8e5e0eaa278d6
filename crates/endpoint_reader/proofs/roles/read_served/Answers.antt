use Rattle.std.proofs.Common.{refl, arith}
use Rattle.grammar.proofs.Passing.{passes}
use Rattle.grammar.proofs.Progress.{token_shorter, read_shorter}
use Rattle.endpoint_reader.proofs.RoleLists.{served_begins, served_goes, served_ends, served_close, served_halts}
use Rattle.endpoint_reader.proofs.Known.{none_there, pushed_there}
use Rattle.endpoint_reader.proofs.roles.read_served.Goals as goal

pub roles-init : goal.roles-init
roles-init c = record {
  so_far = served_begins c.new-serve.ensures;
  known = none_there c.args.input.now _ c.new-serve.ensures;
}

pub returns-in_err-name-clause-halts : goal.returns-in_err-name-clause-halts
returns-in_err-name-clause-halts c = passes _ _ c.from_residual.ensures.1 (served_halts c.roles.invariant.so_far c.in_err-name.ensures.halts)

pub returns-in_err-end-clause-halts : goal.returns-in_err-end-clause-halts
returns-in_err-end-clause-halts c = passes _ _ c.from_residual-in_err-end.ensures.1 (served_close _ c.roles.invariant.so_far c.in_ok-name.ensures.reads c.in_default.ensures.none c.in_err-end.ensures.halts)

pub returns-in_default-clause-reads : goal.returns-in_default-clause-reads
returns-in_default-clause-reads c = served_ends _ c.roles.invariant.so_far c.in_ok-name.ensures.reads c.in_default.ensures.none c.in_ok-end.ensures.reads c.in_ok-push.ensures.ok

pub roles-preserved : goal.roles-preserved
roles-preserved c = record {
  so_far = served_goes _ c.roles.invariant.so_far c.in_ok-name.ensures.reads c.in-Some.ensures.found c.in_ok-push.ensures.ok c.saturating_sub-left.ensures;
  known = pushed_there c.args.input.now _ _ _ c.roles.invariant.known c.in_ok-name.ensures.known c.in_ok-push.ensures.ok;
}

pub roles-smaller : goal.roles-smaller
roles-smaller c = omega (arith, token_shorter c.in-Some.ensures.found, read_shorter refl c.in_ok-name.ensures.reads)

pub returns-in_default-clause-known : goal.returns-in_default-clause-known
returns-in_default-clause-known c = pushed_there c.args.input.now _ _ _ c.roles.invariant.known c.in_ok-name.ensures.known c.in_ok-push.ensures.ok
