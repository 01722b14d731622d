-- A query's body: residues, and the ciphertexts that they make.
use Rattle.std.proofs.Common.{◌≡◌, ℕ, ◌+◌, ◌*◌, ◌^◌, ◌<◌, List, [], ◌∷◌, ◌++◌, length, take, All, refl, sym, ◌∙◌, ap, subst, arith, length-append, lit<}
use Rattle.std.proofs.lemmas.List.{take_all}
use Rattle.negacyclic.specs.Digits.{number_of}
use Rattle.negacyclic.proofs.Digits.{number_of-append_zeros}
use Rattle.spiral_sets.specs.declared.param_set.ParamSet.{ParamSet}
use Rattle.spiral_sets.specs.Sets.{IsSet, q}
use Rattle.spiral_sets.specs.Counts.{query_len, query_ciphertexts, ciphertext_count}
use Rattle.frame_headers.specs.Headers.{number}
use Rattle.frame_headers.specs.Checks.{number_at}
use Rattle.frame_headers.proofs.HeaderLaws.{number_is, number_back}
use Rattle.spiral_model.specs.Words.{Cipher}
use Rattle.spiral_model.specs.Bodies.{CipherBody, query_rows}
use Rattle.spiral_model.specs.Ciphertexts.{IsCipher}
use Rattle.spiral_frames.specs.Frames.{rows_bytes, cipher_bytes, query_message}
use Rattle.spiral_frames.proofs.Bodies.{query_bytes}
use Rattle.pir_wire.specs.Bodies.{IsBodyOf}
use Rattle.pir_wire.specs.Pieces.{AreSpelled}

-- ---- residues

residue_fits : q < 256 ^ 7
unfolding q
residue_fits = lit< tt

pub residue_number : (x : ℕ) (bytes : List ℕ) → x < q → number 7 x ≡ bytes → number_of 256 bytes ≡ x
residue_number x bytes below spelled =
    let fits : x < 256 ^ 7 = omega (arith, residue_fits) in
    ap (number_of 256) (sym spelled) ∙ number_back 7 x fits

pub residue_spelled : (x : ℕ) (bytes : List ℕ) → length bytes ≡ 7 → All (λ b. b < 256) bytes → x ≡ number_of 256 bytes → number 7 x ≡ bytes
residue_spelled x bytes len below is = sym (number_is 7 x bytes len below is)

-- Seven bytes are read as eight, of which the last is 0.
pub seven_read : (bytes filled : List ℕ) (x : ℕ) → length bytes ≡ 7 → filled ≡ bytes → x ≡ number_at (filled ++ 0 ∷ []) 0 → x ≡ number_of 256 bytes
seven_read bytes filled x seven is read =
    read ∙ ap (λ (b : List ℕ). number_of 256 (take 8 (b ++ 0 ∷ []))) is
    ∙ ap (number_of 256) (take_all 8 (bytes ++ 0 ∷ []) (omega (arith, length-append bytes (0 ∷ []))))
    ∙ number_of-append_zeros 256 bytes 1

-- ---- ciphertexts

-- the bytes are those of a query's ciphertexts
abbrev AreCiphers : ParamSet → List ℕ → List Cipher → Type 0
AreCiphers set body ciphers = AreSpelled (IsCipher set.degree (query_rows set)) rows_bytes (ciphertext_count (query_ciphertexts set)) body ciphers

module _ (set : ParamSet) (body : List ℕ) (m count : ℕ) (m_is : m ≡ query_rows set) (count_is : count ≡ ciphertext_count (query_ciphertexts set)) where
  pub room_of_query : length body ≡ query_len set → length body ≡ count * ((m + 1) * (7 * set.degree))
  room_of_query e = rw (m_is, count_is) (e ∙ sym (query_bytes set))

  pub ciphers_of_query : (query : CipherBody) → IsBodyOf set body (query_message query) → AreSpelled (IsCipher set.degree m) rows_bytes count body query.ciphers
  unfolding cipher_bytes
  ciphers_of_query query is =
      rw (m_is, count_is)
      (subst (λ (s : ParamSet). AreCiphers s body query.ciphers) is.set_is (record { many = is.kept.count; fit = is.kept.shapes; spelled = sym is.spelled }))

  pub query_of_ciphers : (ciphers : List Cipher) → IsSet set → AreSpelled (IsCipher set.degree m) rows_bytes count body ciphers
      → IsBodyOf set body (query_message (record { set = set; ciphers = ciphers }))
  unfolding cipher_bytes
  query_of_ciphers ciphers known is =
      let here : AreCiphers set body ciphers = rw (m_is, count_is) at is in
      record { set_is = refl; kept = record { known = known; count = here.many; shapes = here.fit }; spelled = sym here.spelled }
