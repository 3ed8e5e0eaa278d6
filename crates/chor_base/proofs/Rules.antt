-- Each rule's name is a letter and a digit.
use Rattle.std.proofs.Common.{◌<◌, length, arith}
use Rattle.chor_base.specs.declared.rule.Rule.{Rule}
use Rattle.chor_base.specs.declared.rule.Rule.TheVariants.{L1, L2, L3, L4, L5, P1, P2, P3, N1, N2, N3, G1, G2, G3, V1, V2, V3, T1, T2, T3, T4, T5, T6, T7, T8, T9, U1, U2, M1, M2, E1, E2, E3, E4}
use Rattle.chor_base.specs.Writing.{rule_name}

pub has_digit : (r : Rule) → 1 < length (rule_name r)
has_digit L1 = omega arith
has_digit L2 = omega arith
has_digit L3 = omega arith
has_digit L4 = omega arith
has_digit L5 = omega arith
has_digit P1 = omega arith
has_digit P2 = omega arith
has_digit P3 = omega arith
has_digit N1 = omega arith
has_digit N2 = omega arith
has_digit N3 = omega arith
has_digit G1 = omega arith
has_digit G2 = omega arith
has_digit G3 = omega arith
has_digit V1 = omega arith
has_digit V2 = omega arith
has_digit V3 = omega arith
has_digit T1 = omega arith
has_digit T2 = omega arith
has_digit T3 = omega arith
has_digit T4 = omega arith
has_digit T5 = omega arith
has_digit T6 = omega arith
has_digit T7 = omega arith
has_digit T8 = omega arith
has_digit T9 = omega arith
has_digit U1 = omega arith
has_digit U2 = omega arith
has_digit M1 = omega arith
has_digit M2 = omega arith
has_digit E1 = omega arith
has_digit E2 = omega arith
has_digit E3 = omega arith
has_digit E4 = omega arith
