-- What a Setup and a Query carry: a set and its ciphertexts.
use Rattle.std.specs.Prelude.{ℕ, List, ◌≡◌, length, slice_index_or, if◌then◌else◌, All, EachIndex, replicate}
use Rattle.std.specs.List.{flat_map}
use Rattle.spiral_sets.specs.declared.param_set.ParamSet.{ParamSet}
use Rattle.spiral_sets.specs.Sets.{IsSet, rows}
use Rattle.spiral_sets.specs.Counts.{Ciphertexts, ciphertext_count, setup_ciphertexts, query_ciphertexts}
use Rattle.spiral_model.specs.Words.{Cipher, cipher_at}
use Rattle.spiral_model.specs.Ciphertexts.{IsCipher}

-- A set and its ciphertexts, in order.
pub record CipherBody : Type 0 where
  pub set : ParamSet
  pub ciphers : List Cipher

-- the rows below row 0 of a query's ciphertexts: those of the set, or one where the query is expanded from one
abbrev pub query_rows : ParamSet → ℕ
query_rows set = if set.direct then rows set else 1

-- what every query's body keeps: the ciphertexts of its set, in their number and shape
pub record IsQuery (query : CipherBody) : Type 0 where
  pub known : IsSet query.set
  pub count : length query.ciphers ≡ ciphertext_count (query_ciphertexts query.set)
  pub shapes : All (IsCipher query.set.degree (query_rows query.set)) query.ciphers

-- the rows below row 0 of each of these ciphertexts, in order
abbrev pub rows_of : List Ciphertexts → List ℕ
rows_of ciphertexts = flat_map (λ c. replicate c.how_many c.m) ciphertexts

-- what the body of every set's keys keeps
pub record IsSetup (keys : CipherBody) : Type 0 where
  pub known : IsSet keys.set
  pub count : length keys.ciphers ≡ ciphertext_count (setup_ciphertexts keys.set)
  pub shapes : EachIndex keys.ciphers (λ x. IsCipher keys.set.degree (slice_index_or (rows_of (setup_ciphertexts keys.set)) x 0) (cipher_at keys.ciphers x))
