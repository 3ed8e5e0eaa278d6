-- Host functions by the names of a file.
use Rattle.std.specs.Prelude.{Bool, List, slice_index_or}
use Rattle.chor_base.specs.declared.names.NameId.{NameId}
use Rattle.chor_base.specs.declared.fault.Fault.{Fault}
use Rattle.endpoint_reader.specs.declared.lines.LineId.{LineId}
use Rattle.endpoint_reader.specs.declared.lines.Arm.{Arm}
use Rattle.endpoint_reader.specs.declared.written.Written.{Written}
use Rattle.endpoint_names.specs.declared.functions.Functions.{Functions}
use Rattle.endpoint_names.specs.Bodies.{bodies_of, body_at, arms_in}
use Rattle.endpoint_names.specs.Faults.{Setting, body_faults, arms_faults}

-- whether a name is that of a host function
abbrev pub knows : Functions → NameId → Bool
knows f x = slice_index_or f.known.items x.0 f.unnamed

-- what is known in bodies
abbrev pub setting_of : Written → Functions → Setting
setting_of w f = record { written = w; is_function = knows f }

-- the faults of the body that begins at a number, where these sessions are bound
abbrev pub faults_at : Setting → List NameId → LineId → List Fault
faults_at s bs id = body_faults s bs (body_at s.written.lines.items id)

-- the faults in the bodies of arms, where these sessions are bound
abbrev pub faults_in_arms : Setting → List NameId → List Arm → List Fault
faults_in_arms s bs arms = arms_faults s bs (arms_in (bodies_of s.written.lines.items) arms)
