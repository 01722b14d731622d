-- A set of small dimensions, of which small cases are made: degree 1, a matrix of 2 times 2, one record.
use Rattle.std.proofs.Common.{get_or, true, false}
use Rattle.spiral_sets.specs.declared.param_set.ParamSet.{ParamSet}
use Rattle.spiral_sets.specs.declared.sets.TheConstants.{SETS}

abbrev pub sample : ParamSet
sample = record {
  id = 0;
  direct = true;
  pack = false;
  degree = 1;
  n = 2;
  p_bits = 8;
  nu1 = 0;
  nu2 = 0;
  w_left = 0;
  w_right = 0;
  w_conv = 0;
  w_gsw = 56;
  q2_bits = 12;
  always = false;
}

-- edge-256
abbrev pub edge : ParamSet
edge = get_or SETS 4 sample
