use Rattle.accepted_files.proofs.following.projection_never_stuck.Goals as goal

pub returns : goal.returns
returns c e f sets lists is hosts cap unhindered h n run none = c.never_stuck.ensures e f sets lists (c.projection_realizes.ensures e f sets lists is) hosts cap unhindered h n run none
