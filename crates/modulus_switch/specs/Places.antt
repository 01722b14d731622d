-- Where the polynomials of a reply stand, by row and column: row 0 is the mask, rows 1 to n are the body, row by row.
use Rattle.std.specs.Prelude.{ℕ, ◌+◌, ◌-◌, ◌*◌, ◌==◌, if◌then◌else◌, slice_set, replicate}
use Rattle.spiral_sets.specs.declared.param_set.ParamSet.{ParamSet}
use Rattle.spiral_sets.specs.Sets.{q1, q2, entries}
use Rattle.spiral_model.specs.Words.{Poly, poly_of}
use Rattle.spiral_model.specs.Replies.{SwitchedReply}

-- the place in the body of a row and a column, both from 1
abbrev pub place_in_body : ParamSet → ℕ → ℕ → ℕ
place_in_body set row column = (row - 1) * set.n + (column - 1)

-- the polynomial in a row (from 0) and a column (from 1)
abbrev pub poly_in : SwitchedReply → ℕ → ℕ → Poly
poly_in reply row column = if row == 0 then poly_of reply.mask (column - 1) else poly_of reply.body (place_in_body reply.set row column)

-- the reply with another polynomial there
abbrev pub put_poly : SwitchedReply → ℕ → ℕ → Poly → SwitchedReply
put_poly reply row column a =
    if row == 0 then record reply { mask = slice_set reply.mask (column - 1) a }
    else record reply { body = slice_set reply.body (place_in_body reply.set row column) a }

-- the modulus of a row's numbers
abbrev pub row_modulus : ParamSet → ℕ → ℕ
row_modulus set row = if row == 0 then q2 set else q1 set

-- the reply whose numbers are all 0
abbrev pub zero_reply : ParamSet → ℕ → ℕ → SwitchedReply
zero_reply set count record_length = record {
  set = set;
  count = count;
  record_length = record_length;
  body = replicate (entries set) (replicate set.degree 0);
  mask = replicate set.n (replicate set.degree 0);
}
