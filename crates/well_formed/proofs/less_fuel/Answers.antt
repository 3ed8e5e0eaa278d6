use Rattle.well_formed.proofs.Fuel.{follows_less}
use Rattle.well_formed.proofs.less_fuel.Goals as goal

pub returns : goal.returns
returns c e procs n p t q m h = follows_less e procs p n t q m h
