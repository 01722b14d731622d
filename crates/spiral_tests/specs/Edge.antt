-- The set of the fixtures.
use Rattle.std.specs.Prelude.{true, false}
use Rattle.spiral_sets.specs.declared.param_set.ParamSet.{ParamSet}

-- edge-256
abbrev pub edge : ParamSet
edge = record {
  id = 4;
  direct = true;
  pack = false;
  degree = 256;
  n = 2;
  p_bits = 8;
  nu1 = 1;
  nu2 = 1;
  w_left = 0;
  w_right = 0;
  w_conv = 0;
  w_gsw = 7;
  q2_bits = 12;
  always = false;
}
