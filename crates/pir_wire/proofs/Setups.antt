-- A Setup's body: three runs of ciphertexts, each in pieces of one length.
use Rattle.std.proofs.Common.{◌≡◌, ℕ, ◌+◌, ◌-◌, ◌*◌, ◌≤◌, List, ◌++◌, length, take, drop, replicate, All, refl, sym, ◌∙◌, ap, subst, arith}
use Rattle.std.proofs.lemmas.List.{length-replicate}
use Rattle.spiral_sets.specs.declared.param_set.ParamSet.{ParamSet}
use Rattle.spiral_sets.specs.Sets.{IsSet, rows}
use Rattle.spiral_sets.specs.Counts.{setup_len}
use Rattle.spiral_model.specs.Words.{Cipher}
use Rattle.spiral_model.specs.Bodies.{CipherBody, IsSetup}
use Rattle.spiral_frames.specs.Frames.{cipher_bytes, setup_message}
use Rattle.spiral_frames.proofs.SetupBodies.{rounds_count, lifts_count, conversions_count, rounds_len, lifts_len, conversions_len, setup_bytes, setup_of_runs, rounds_of, lifts_of, conversions_of, runs_of_setup, rounds_in_body, lifts_in_body, conversions_in_body, body_of_runs, run_len, setup_degrees}
use Rattle.pir_wire.specs.Bodies.{IsBodyOf}
use Rattle.pir_wire.specs.Pieces.{AreCiphersAt}

-- ---- the bytes of a run

-- as the program cuts them out
pub run_bytes : (bytes : List ℕ) (start len count size : ℕ) → len ≡ count * size
    → take (start + len - start) (drop start bytes) ≡ take (count * size) (drop start bytes)
run_bytes bytes start len count size e =
    let front : start + len - start ≡ count * size = omega (arith, e) in ap (λ (n : ℕ). take n (drop start bytes)) front

-- the same run, its numbers named otherwise
pub same_run : (N m m' count count' start start' : ℕ) (bytes : List ℕ) (ciphers : List Cipher) → m ≡ m' → count ≡ count' → start ≡ start'
    → AreCiphersAt N m count bytes start ciphers → AreCiphersAt N m' count' bytes start' ciphers
same_run N m m' count count' start start' bytes ciphers em ec es are =
    subst (λ (i : ℕ). AreCiphersAt N i count' bytes start' ciphers) em
    (subst (λ (i : ℕ). AreCiphersAt N m i bytes start' ciphers) ec (subst (λ (i : ℕ). AreCiphersAt N m count bytes i ciphers) es are))

-- ---- the three runs of a set

module _ (set : ParamSet) (body : List ℕ) where
  -- the ciphertexts of the round keys, of the lift keys and of the conversion key
  abbrev pub AreRounds : List Cipher → Type 0
  AreRounds ciphers = AreCiphersAt set.degree 1 (rounds_count set) body 0 ciphers

  abbrev pub AreLifts : List Cipher → Type 0
  AreLifts ciphers = AreCiphersAt set.degree set.n (lifts_count set) body (rounds_len set) ciphers

  abbrev pub AreConversions : List Cipher → Type 0
  AreConversions ciphers = AreCiphersAt set.degree (rows set) (conversions_count set) body (rounds_len set + lifts_len set) ciphers

  -- they are in the body
  module _ (size : length body ≡ setup_len set) where
    total : length body ≡ rounds_len set + lifts_len set + conversions_len set
    total = size ∙ setup_bytes set

    pub rounds_room : (count : ℕ) → count ≡ rounds_count set → 0 + run_len set.degree 1 count ≤ length body
    rounds_room count ec = rw ec (omega (arith, total))

    pub lifts_room : (count start : ℕ) → count ≡ lifts_count set → start ≡ rounds_len set → start + run_len set.degree set.n count ≤ length body
    lifts_room count start ec es = rw (ec, es) (omega (arith, total))

    pub conversions_room : (m count start : ℕ) → m ≡ rows set → count ≡ conversions_count set → start ≡ rounds_len set + lifts_len set
        → start + run_len set.degree m count ≤ length body
    conversions_room m count start em ec es = rw (em, ec, es) (omega (arith, total))

    -- A body of such runs is that of a Setup.
    pub setup_of_ciphers : (rounds lifts conversions : List Cipher) → IsSet set → AreRounds rounds → AreLifts lifts → AreConversions conversions
        → IsBodyOf set body (setup_message (record { set = set; ciphers = rounds ++ lifts ++ conversions }))
    unfolding cipher_bytes
    setup_of_ciphers rounds lifts conversions known are_rounds are_lifts are_conversions = record {
      set_is = refl;
      kept = setup_of_runs set rounds lifts conversions known (record {
        rounds_many = are_rounds.many;
        lifts_many = are_lifts.many;
        conversions_many = are_conversions.many;
        rounds_fit = are_rounds.fit;
        lifts_fit = are_lifts.fit;
        conversions_fit = are_conversions.fit;
      });
      spelled = body_of_runs set body rounds lifts conversions size are_rounds.spelled are_lifts.spelled are_conversions.spelled;
    }

  -- those of keys whose body it is
  module _ (keys : CipherBody) (is : IsBodyOf set body (setup_message keys)) where
    pub rounds_of_setup : AreRounds (rounds_of keys)
    unfolding cipher_bytes
    rounds_of_setup =
        let runs = runs_of_setup keys is.kept in
        subst (λ (s : ParamSet). AreCiphersAt s.degree 1 (rounds_count s) body 0 (rounds_of keys)) is.set_is (record {
          many = runs.rounds_many;
          fit = runs.rounds_fit;
          spelled = rounds_in_body keys is.kept ∙ ap (take (rounds_len keys.set)) (sym is.spelled);
        })

    pub lifts_of_setup : AreLifts (lifts_of keys)
    unfolding cipher_bytes
    lifts_of_setup =
        let runs = runs_of_setup keys is.kept in
        subst (λ (s : ParamSet). AreCiphersAt s.degree s.n (lifts_count s) body (rounds_len s) (lifts_of keys)) is.set_is (record {
          many = runs.lifts_many;
          fit = runs.lifts_fit;
          spelled = lifts_in_body keys is.kept ∙ ap (λ (b : List ℕ). take (lifts_len keys.set) (drop (rounds_len keys.set) b)) (sym is.spelled);
        })

    pub conversions_of_setup : AreConversions (conversions_of keys)
    unfolding cipher_bytes
    conversions_of_setup =
        let runs = runs_of_setup keys is.kept in
        let given : ParamSet → Type 0 = λ s. AreCiphersAt s.degree (rows s) (conversions_count s) body (rounds_len s + lifts_len s) (conversions_of keys) in
        subst given is.set_is (record {
          many = runs.conversions_many;
          fit = runs.conversions_fit;
          spelled =
              conversions_in_body keys is.kept
              ∙ ap (λ (b : List ℕ). take (conversions_len keys.set) (drop (rounds_len keys.set + lifts_len keys.set) b)) (sym is.spelled);
        })

-- ---- writing

-- A buffer of zeros, one for each coefficient, has the length of every row.
pub degrees_fit : (keys inside : CipherBody) (ciphers : List Cipher) (numbers : List ℕ) → inside ≡ keys → IsSetup keys → ciphers ≡ inside.ciphers
    → numbers ≡ replicate inside.set.degree 0 → All (λ cipher. All (λ poly. length poly ≡ length numbers) cipher) ciphers
degrees_fit keys inside ciphers numbers seen is ciphers_are zeros =
    let size : length numbers ≡ keys.set.degree =
    ap length zeros ∙ length-replicate {A = ℕ} inside.set.degree 0 ∙ ap (λ (k : CipherBody). k.set.degree) seen in
    let same : ciphers ≡ keys.ciphers = ciphers_are ∙ ap (λ (k : CipherBody). k.ciphers) seen in
    let all = subst (λ (cs : List Cipher). All (λ cipher. All (λ poly. length poly ≡ keys.set.degree) cipher) cs) (sym same) (setup_degrees keys is) in
    λ i d h k e g. all i d h k e g ∙ sym size
