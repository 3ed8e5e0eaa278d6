use Rattle.typed_sources.proofs.Places.{lists_fit}
use Rattle.typed_sources.proofs.Declared.{main_held, bodies_held}
use Rattle.typed_sources.proofs.users_hold_their_roles.Goals as goal

pub returns-clause-lists : goal.returns-clause-lists
returns-clause-lists c f = lists_fit f

pub returns-clause-main : goal.returns-clause-main
returns-clause-main c f words ok = main_held f words ok

pub returns-clause-bodies : goal.returns-clause-bodies
returns-clause-bodies c f words ok = bodies_held f words ok
