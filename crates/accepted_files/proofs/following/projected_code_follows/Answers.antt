use Rattle.accepted_files.proofs.Realizes.{main_code_follows, realizes}
use Rattle.accepted_files.proofs.following.projected_code_follows.Goals as goal

pub returns-clause-main : goal.returns-clause-main
returns-clause-main c0 e f sets lists is p q m i = main_code_follows f e sets lists is.projects is.roles is.procedures is.main p q m i

pub returns-clause-services : goal.returns-clause-services
returns-clause-services c0 e f sets lists is = (realizes e f sets lists is).begins.services

pub returns-clause-bodies : goal.returns-clause-bodies
returns-clause-bodies c0 e f sets lists is sc h d ps ss c b w = (realizes e f sets lists is).sound.services sc h d ps ss c b w
