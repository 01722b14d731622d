-- The set whose keys are dealt.
use Rattle.std.specs.Prelude.{true, false}
use Rattle.spiral_sets.specs.declared.param_set.ParamSet.{ParamSet}

-- tiny-pack
abbrev pub tiny_pack : ParamSet
tiny_pack = record {
  id = 1;
  direct = false;
  pack = true;
  degree = 256;
  n = 2;
  p_bits = 2;
  nu1 = 2;
  nu2 = 2;
  w_left = 2;
  w_right = 1;
  w_conv = 2;
  w_gsw = 7;
  q2_bits = 20;
  always = true;
}
