-- The reply after the modulus switch, the client's state, and how the one opens the other.
use Rattle.std.specs.Prelude.{ℕ, ℤ, List, ◌≡◌, ◌+◌, ◌*◌, ◌/◌, ◌%◌, ◌<◌, ◌≤◌, length, map, slice_index_or, pos, ◌-ℤ◌, ◌*ℤ◌, unsigned_abs, All}
use Rattle.std.specs.List.{range_with_len, flat_map}
use Rattle.negacyclic.specs.Residues.{residue, nearest}
use Rattle.negacyclic.specs.Ring.{product_at, at}
use Rattle.spiral_sets.specs.declared.param_set.ParamSet.{ParamSet}
use Rattle.spiral_sets.specs.Sets.{IsSet, p, q1, q2, q, entries, max_records, capacity}
use Rattle.spiral_model.specs.Words.{Poly, Cipher, poly_of, row_of, cipher_at}
use Rattle.spiral_model.specs.Records.{record_of}

-- The modulus switch of a residue c modulo q to `modulus`: c modulus / q rounded to the nearest number, an exact
-- half upwards, modulo `modulus`.
unfoldable pub switched : ℕ → ℕ → ℕ
switched modulus c = residue modulus (nearest (pos (c * modulus)) q)

-- A reply: the set, how many records the database has and how long each is, and the result's polynomials after the switch: those of
-- rows 1 to n, row by row, modulo q1, and those of row 0, by column, modulo q2.
pub record SwitchedReply : Type 0 where
  pub set : ParamSet
  pub count : ℕ
  pub record_length : ℕ
  pub body : List Poly
  pub mask : List Poly

-- N numbers below a modulus
pub record IsSwitched (N modulus : ℕ) (a : Poly) : Type 0 where
  pub degree : length a ≡ N
  pub below : All (λ x. x < modulus) a

-- what every reply keeps
pub record IsReply (reply : SwitchedReply) : Type 0 where
  pub known : IsSet reply.set
  pub count : reply.count ≤ max_records reply.set
  pub some_length : 0 < reply.record_length
  pub record_length : reply.record_length ≤ capacity reply.set
  pub body_count : length reply.body ≡ entries reply.set
  pub mask_count : length reply.mask ≡ reply.set.n
  pub body : All (IsSwitched reply.set.degree (q1 reply.set)) reply.body
  pub mask : All (IsSwitched reply.set.degree (q2 reply.set)) reply.mask

-- Entry e, row by row from 0, of a result, whose columns these are: row e / n + 1 of column e % n, switched to q1.
unfoldable pub switched_entry : ParamSet → List Cipher → ℕ → Poly
switched_entry set result e = map (switched (q1 set)) (row_of (cipher_at result (e % set.n)) (e / set.n + 1))

unfoldable pub switched_body : ParamSet → List Cipher → List Poly
switched_body set result = map (switched_entry set result) (range_with_len 0 (entries set))

-- Row 0 of column c, switched to q2.
unfoldable pub switched_zeroth : ParamSet → List Cipher → ℕ → Poly
switched_zeroth set result c = map (switched (q2 set)) (row_of (cipher_at result c) 0)

unfoldable pub switched_mask : ParamSet → List Cipher → List Poly
switched_mask set result = map (switched_zeroth set result) (range_with_len 0 set.n)

-- What the client keeps of its query: the set, the index that it asked for, and the secrets s_1 to s_n, one after
-- the other, each N numbers.
pub record QueryState : Type 0 where
  pub set : ParamSet
  pub index : ℕ
  pub secret : List ℤ

-- -1, 0 or 1
abbrev pub IsTernary : ℤ → Type 0
IsTernary z = unsigned_abs z ≤ 1

-- what every state keeps
pub record IsState (state : QueryState) : Type 0 where
  pub known : IsSet state.set
  pub index : state.index < max_records state.set
  pub secret_length : length state.secret ≡ state.set.n * state.set.degree
  pub ternary : All IsTernary state.secret

-- coefficient k of the secret of row r + 1
abbrev pub secret_at : QueryState → ℕ → ℕ → ℤ
secret_at state r k = slice_index_or state.secret (r * state.set.degree + k) (pos 0)

-- The value that a coefficient opens to, with b the number of the entry and sa the product of its row's secret and the mask of its
-- column: x = p (q2 b - q1 sa) over whole numbers; x / (q1 q2) rounded to the nearest number, an exact half upwards, modulo p.
unfoldable pub opened : ParamSet → ℤ → ℤ → ℕ
opened set b sa = residue (p set) (nearest (pos (p set) *ℤ (pos (q2 set) *ℤ b -ℤ pos (q1 set) *ℤ sa)) (q1 set * q2 set))

-- Coefficient k of entry e, row by row from 0, which stands in row e / n + 1 and column e % n + 1.
unfoldable pub opened_at : QueryState → SwitchedReply → ℕ → ℕ → ℕ
opened_at state reply e k =
    let set = reply.set in
    opened set (at (poly_of reply.body e) k) (product_at set.degree (secret_at state (e / set.n)) (at (poly_of reply.mask (e % set.n))) k)

-- the values of entry e
unfoldable pub opened_entry : QueryState → SwitchedReply → ℕ → List ℕ
opened_entry state reply e = map (opened_at state reply e) (range_with_len 0 reply.set.degree)

-- the values of all entries, row by row
unfoldable pub opened_values : QueryState → SwitchedReply → List ℕ
opened_values state reply = flat_map (opened_entry state reply) (range_with_len 0 (entries reply.set))

-- the opened record: the values as bytes, cut to the record's length
unfoldable pub open_bytes : QueryState → SwitchedReply → List ℕ
open_bytes state reply = record_of reply.set reply.record_length (opened_values state reply)
