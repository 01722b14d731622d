-- The keys of a set, cut out of a Setup body: where the ciphertexts of one shape lie, and that the keys have their shapes.
use Rattle.std.proofs.Common.{◌≡◌, ℕ, ◌+◌, ◌-◌, ◌*◌, ◌<◌, ◌≤◌, Bool, true, false, List, [], ◌∷◌, ◌++◌, length, get_or, map, take, drop, replicate, All, Option, Some, None, if◌then◌else◌, slice_index_or, refl, sym, ◌∙◌, ap, ap₂, subst, arith, append_assoc, length-drop, le_refl}
use Rattle.std.specs.List.{range_with_len}
use Rattle.std.proofs.lemmas.Nat.{row_fits}
use Rattle.std.proofs.lemmas.List.{length-replicate, length-take-le, get_or-replicate, get_or-take, get_or-drop, get_or_append_left, get_or-append_right, get_or_default}
use Rattle.std.proofs.lemmas.List.Elements.{All-same, All-take, All-drop}
use Rattle.std.proofs.lemmas.List.FromFn.{length-map-range_with_len}
use Rattle.std.proofs.lemmas.List.Sums.{sum_by-append, sum_by-cons}
use Rattle.negacyclic.proofs.Lists.{all_range}
use Rattle.spiral_sets.specs.declared.param_set.ParamSet.{ParamSet}
use Rattle.spiral_sets.specs.Sets.{digit_count, rho, rows, has_keys}
use Rattle.spiral_sets.specs.Counts.{Ciphertexts, ciphertext_count, round_ciphertexts, lift_ciphertexts, conversion_ciphertexts, setup_ciphertexts}
use Rattle.spiral_model.specs.Words.{Cipher}
use Rattle.spiral_model.specs.Ciphertexts.{IsCipher}
use Rattle.spiral_model.specs.Bodies.{CipherBody, IsSetup, rows_of}
use Rattle.spiral_model.specs.KeySwitching.{DigitKey}
use Rattle.spiral_model.specs.Keys.{SetKeys, key_cut, keys_cut, keys_in, left_start, right_start, lift_start, conversion_start}
use Rattle.regev_code.specs.Products.{HasShape}
use Rattle.regev_code.specs.KeyShapes.{IsKey, AreKeys, IsConversion, AreSetKeys}

-- ---- where the ciphertexts of one shape lie

behind_first : (total first rest k : ℕ) → total ≡ first + rest → total + k - first ≡ rest + k
behind_first total first rest k is = omega arith

past_first : (total first rest k : ℕ) → total ≡ first + rest → first ≤ total + k
past_first total first rest k is = omega arith

-- the rows of a ciphertext of a piece, behind those of the pieces in front
rows_at : (front : List Ciphertexts) (piece : Ciphertexts) (back : List Ciphertexts) (k : ℕ) → k < piece.how_many
    → slice_index_or (rows_of (front ++ piece ∷ back)) (ciphertext_count front + k) 0 ≡ piece.m
rows_at [] piece back k h =
    let many = length-replicate {A = ℕ} piece.how_many piece.m in
    let place : ciphertext_count [] + k ≡ k = omega arith in
    ap (λ (i : ℕ). get_or (replicate piece.how_many piece.m ++ rows_of back) i 0) place
    ∙ get_or_append_left (replicate piece.how_many piece.m) (rows_of back) 0 k (omega arith) ∙ get_or-replicate piece.how_many k piece.m 0 h
rows_at (c ∷ front) piece back k h =
    let next : ciphertext_count (c ∷ front) ≡ c.how_many + ciphertext_count front = sum_by-cons (λ (d : Ciphertexts). d.how_many) c front in
    get_or-append_right (replicate c.how_many c.m) (rows_of (front ++ piece ∷ back)) c.how_many (ciphertext_count (c ∷ front) + k) 0
    (length-replicate {A = ℕ} c.how_many c.m)
    (past_first (ciphertext_count (c ∷ front)) c.how_many (ciphertext_count front) k next)
    ∙ ap (λ (i : ℕ). get_or (rows_of (front ++ piece ∷ back)) i 0) (behind_first (ciphertext_count (c ∷ front)) c.how_many (ciphertext_count front) k next)
    ∙ rows_at front piece back k h

-- how many ciphertexts there are
count_around : (front : List Ciphertexts) (piece : Ciphertexts) (back : List Ciphertexts)
    → ciphertext_count (front ++ piece ∷ back) ≡ ciphertext_count front + (piece.how_many + ciphertext_count back)
count_around front piece back =
    sum_by-append (λ (c : Ciphertexts). c.how_many) front (piece ∷ back)
    ∙ ap (λ (n : ℕ). ciphertext_count front + n) (sum_by-cons (λ (c : Ciphertexts). c.how_many) piece back)

-- A set's ciphertexts, with those of one shape from `start` on.
pub record HasPiece (set : ParamSet) (m count start : ℕ) : Type 0 where
  pub front : List Ciphertexts
  pub piece : Ciphertexts
  pub back : List Ciphertexts
  pub all : setup_ciphertexts set ≡ front ++ piece ∷ back
  pub place : start ≡ ciphertext_count front
  pub many : piece.how_many ≡ count
  pub below : piece.m ≡ m

-- ---- what a Setup body has

-- A ciphertext of a body, whatever is read where there is none.
setup_cipher : (body : CipherBody) (x : ℕ) (d : Cipher) → IsSetup body → x < length body.ciphers
    → IsCipher body.set.degree (slice_index_or (rows_of (setup_ciphertexts body.set)) x 0) (get_or body.ciphers x d)
setup_cipher body x d is h =
    subst (IsCipher body.set.degree (slice_index_or (rows_of (setup_ciphertexts body.set)) x 0)) (get_or_default body.ciphers x [] d h) (is.shapes x h)

cipher_shape : (N m : ℕ) (cipher : Cipher) → IsCipher N m cipher → HasShape N (m + 1) cipher
cipher_shape N m cipher is = record { rows_count = is.rows_count; degree = λ k d h. (is.residues k d h).0 }

-- All its ciphertexts have rows of N coefficients.
pub setup_degrees : (body : CipherBody) (N : ℕ) → N ≡ body.set.degree → IsSetup body → All (λ c. All (λ a. length a ≡ N) c) body.ciphers
setup_degrees body N degree is x d h =
    subst (λ (n : ℕ). All (λ a. length a ≡ n) (get_or body.ciphers x d)) (sym degree) (cipher_shape _ _ _ (setup_cipher body x d is h)).degree

-- The same of the list as it is lent, and of a part of it.
pub lent_degrees : (body : CipherBody) (N : ℕ) (lent : List Cipher) → lent ≡ body.ciphers → N ≡ body.set.degree → IsSetup body
    → All (λ c. All (λ a. length a ≡ N) c) lent
lent_degrees body N lent same degree is = All-same (λ (c : Cipher). All (λ a. length a ≡ N) c) lent body.ciphers same (setup_degrees body N degree is)

pub part_degrees : (N start count : ℕ) (ciphers : List Cipher) → All (λ c. All (λ a. length a ≡ N) c) ciphers
    → All (λ c. All (λ a. length a ≡ N) c) (take count (drop start ciphers))
part_degrees N start count ciphers each =
    All-take (λ (c : Cipher). All (λ a. length a ≡ N) c) count (drop start ciphers) (All-drop (λ (c : Cipher). All (λ a. length a ≡ N) c) start ciphers each)

-- A piece lies within the body,
pub piece_room : (body : CipherBody) (m count start : ℕ) → IsSetup body → HasPiece body.set m count start → start + count ≤ length body.ciphers
piece_room body m count start is has =
    let all : length body.ciphers ≡ ciphertext_count (has.front ++ has.piece ∷ has.back) =
    is.count ∙ ap (λ (cs : List Ciphertexts). ciphertext_count cs) has.all in
    omega (arith, all, count_around has.front has.piece has.back, has.place, has.many)

-- and its ciphertexts have its shape.
piece_shape : (body : CipherBody) (m count start k : ℕ) (d : Cipher) → IsSetup body → HasPiece body.set m count start → k < count
    → HasShape body.set.degree (m + 1) (get_or body.ciphers (start + k) d)
piece_shape body m count start k d is has h =
    let within : start + k < length body.ciphers = omega (arith, piece_room body m count start is has) in
    let inside : k < has.piece.how_many = omega (arith, has.many) in
    let rows : slice_index_or (rows_of (setup_ciphertexts body.set)) (start + k) 0 ≡ m =
    ap (λ (cs : List Ciphertexts). slice_index_or (rows_of cs) (start + k) 0) has.all
    ∙ ap (λ (s : ℕ). slice_index_or (rows_of (has.front ++ has.piece ∷ has.back)) (s + k) 0) has.place
    ∙ rows_at has.front has.piece has.back k inside
    ∙ has.below in
    cipher_shape body.set.degree m _ (subst (λ (r : ℕ). IsCipher body.set.degree r (get_or body.ciphers (start + k) d)) rows
    (setup_cipher body (start + k) d is within))

-- ---- keys

-- a key cut out of a piece
pub cut_key : (body : CipherBody) (m w count start at : ℕ) → IsSetup body → HasPiece body.set m count start → at + digit_count w ≤ count
    → IsKey body.set.degree m w (key_cut w body.ciphers (start + at))
cut_key body m w count start at is has fits =
    let t = digit_count w in
    let room = piece_room body m count start is has in
    let size : length (take t (drop (start + at) body.ciphers)) ≡ t =
    length-take-le t (drop (start + at) body.ciphers) (omega (arith, length-drop (start + at) body.ciphers)) in
    record {
      width = refl;
      count = size;
      shapes = λ k d h.
          let within : k < t = omega arith in
          let place : start + at + k ≡ start + (at + k) = omega arith in
          subst (HasShape body.set.degree (m + 1))
          (sym (get_or-take t (drop (start + at) body.ciphers) k d within ∙ get_or-drop (start + at) body.ciphers k d
          ∙ ap (λ (p : ℕ). get_or body.ciphers p d) place))
          (piece_shape body m count start (at + k) d is has (omega arith));
    }

-- and all keys of it
pub cut_keys : (body : CipherBody) (m w count start : ℕ) → IsSetup body → HasPiece body.set m (count * digit_count w) start
    → AreKeys body.set.degree m w count (keys_cut w count body.ciphers start)
unfolding keys_cut
cut_keys body m w count start is has =
    let key : ℕ → DigitKey = λ j. key_cut w body.ciphers (start + j * digit_count w) in
    record {
      many = length-map-range_with_len key 0 count;
      each = all_range (IsKey body.set.degree m w) key count
          (λ j h. cut_key body m w (count * digit_count w) start (j * digit_count w) is has
          (row_fits j (digit_count w) count (digit_count w) h (le_refl (digit_count w))));
    }

-- ---- the pieces of a set

abbrev piece_of : ℕ → ℕ → Ciphertexts
piece_of count m = record { how_many = count; m = m }

-- the ciphertexts of the rounds, where there are any
rounds_are : (set : ParamSet) → set.direct ≡ false
    → setup_ciphertexts set
    ≡ (piece_of (digit_count set.w_right) 1 ∷ piece_of (set.nu1 * digit_count set.w_left) 1 ∷ piece_of (rho set * digit_count set.w_right) 1 ∷ [])
    ++ lift_ciphertexts set ++ conversion_ciphertexts set
rounds_are set expands =
    ap (λ (b : Bool). (if b then [] else piece_of (digit_count set.w_right) 1 ∷ piece_of (set.nu1 * digit_count set.w_left) 1
    ∷ piece_of (rho set * digit_count set.w_right) 1 ∷ [])
    ++ lift_ciphertexts set ++ conversion_ciphertexts set) expands

-- The key of round 0,
pub round0_piece : (set : ParamSet) → set.direct ≡ false → HasPiece set 1 (1 * digit_count set.w_right) 0
round0_piece set expands = record {
  front = [];
  piece = piece_of (digit_count set.w_right) 1;
  back = (piece_of (set.nu1 * digit_count set.w_left) 1 ∷ piece_of (rho set * digit_count set.w_right) 1 ∷ [])
      ++ lift_ciphertexts set ++ conversion_ciphertexts set;
  all = rounds_are set expands;
  place = refl;
  many = omega arith;
  below = refl;
}

-- those of the left rounds,
pub left_piece : (set : ParamSet) → set.direct ≡ false → HasPiece set 1 (set.nu1 * digit_count set.w_left) (left_start set)
left_piece set expands = record {
  front = piece_of (digit_count set.w_right) 1 ∷ [];
  piece = piece_of (set.nu1 * digit_count set.w_left) 1;
  back = (piece_of (rho set * digit_count set.w_right) 1 ∷ []) ++ lift_ciphertexts set ++ conversion_ciphertexts set;
  all = rounds_are set expands;
  place = omega arith;
  many = refl;
  below = refl;
}

-- those of the right rounds,
pub right_piece : (set : ParamSet) → set.direct ≡ false → HasPiece set 1 (rho set * digit_count set.w_right) (right_start set)
right_piece set expands = record {
  front = piece_of (digit_count set.w_right) 1 ∷ piece_of (set.nu1 * digit_count set.w_left) 1 ∷ [];
  piece = piece_of (rho set * digit_count set.w_right) 1;
  back = lift_ciphertexts set ++ conversion_ciphertexts set;
  all = rounds_are set expands;
  place = omega arith;
  many = refl;
  below = refl;
}

-- the lift keys, where the set has keys,
pub lift_piece : (set : ParamSet) → has_keys set ≡ true → HasPiece set set.n (set.n * digit_count set.w_conv) (lift_start set)
lift_piece set some = record {
  front = round_ciphertexts set;
  piece = piece_of (set.n * digit_count set.w_conv) set.n;
  back = conversion_ciphertexts set;
  all = ap (λ (b : Bool). round_ciphertexts set ++ (if b then piece_of (set.n * digit_count set.w_conv) set.n ∷ [] else []) ++ conversion_ciphertexts set) some
      ∙ append_assoc (round_ciphertexts set) (piece_of (set.n * digit_count set.w_conv) set.n ∷ []) (conversion_ciphertexts set);
  place = refl;
  many = refl;
  below = refl;
}

-- and the conversion key.
pub conversion_piece : (set : ParamSet) → set.direct ≡ false → HasPiece set (rows set) (digit_count set.w_conv) (conversion_start set)
conversion_piece set expands = record {
  front = round_ciphertexts set ++ lift_ciphertexts set;
  piece = piece_of (digit_count set.w_conv) (rows set);
  back = [];
  all = ap (λ (b : Bool). round_ciphertexts set ++ lift_ciphertexts set ++ (if b then [] else piece_of (digit_count set.w_conv) (rows set) ∷ [])) expands;
  place = sym (sum_by-append (λ (c : Ciphertexts). c.how_many) (round_ciphertexts set) (lift_ciphertexts set));
  many = refl;
  below = refl;
}

-- ---- the loop over the keys of one use

abbrev digit_key : ℕ → List Cipher → DigitKey
digit_key w ciphers = record { w = w; ciphers = ciphers }

-- a key as the code cuts it out
pub key_cut_is : (w start j t at len : ℕ) (ciphers : List Cipher) (key : DigitKey) → t ≡ digit_count w → at ≡ start + j * t → len ≡ t
    → key ≡ record { w = w; ciphers = take len (drop at ciphers) } → key ≡ key_cut w ciphers (start + j * digit_count w)
key_cut_is w start j t at len ciphers key count place size cut =
    let whole : at ≡ start + j * digit_count w = place ∙ ap (λ (n : ℕ). start + j * n) count in
    cut ∙ ap₂ (λ (n p : ℕ). digit_key w (take n (drop p ciphers))) (size ∙ count) whole

-- all of them
pub keys_cut_all : (w count start j : ℕ) (ciphers : List Cipher) (keys : List DigitKey) → count ≡ j
    → keys ≡ map (λ i. key_cut w ciphers (start + i * digit_count w)) (range_with_len 0 j) → keys ≡ keys_cut w count ciphers start
unfolding keys_cut
keys_cut_all w count start j ciphers keys all so_far =
    so_far ∙ ap (λ (n : ℕ). map (λ i. key_cut w ciphers (start + i * digit_count w)) (range_with_len 0 n)) (sym all)

-- one more key lies within the ciphertexts
pub key_room : (w t count start j len : ℕ) → t ≡ digit_count w → j < count → start + count * digit_count w ≤ len → start + (j * t + t) ≤ len
key_room w t count start j len is h room =
    let fits : j * digit_count w + digit_count w ≤ count * digit_count w = row_fits j (digit_count w) count (digit_count w) h (le_refl (digit_count w)) in
    let same : j * t + t ≡ j * digit_count w + digit_count w = ap (λ (n : ℕ). j * n + n) is in
    omega arith

-- ---- all keys

-- keys by their use
abbrev pub set_keys : ParamSet → List DigitKey → List DigitKey → List DigitKey → List DigitKey → Option DigitKey → SetKeys
set_keys set round0 left right lift conv = record { set = set; round0 = round0; left = left; right = right; lift = lift; conv = conv }

-- the keys that a body has for each use
abbrev round0_in : CipherBody → List DigitKey
round0_in body = if body.set.direct then [] else keys_cut body.set.w_right 1 body.ciphers 0

abbrev left_in : CipherBody → List DigitKey
left_in body = if body.set.direct then [] else keys_cut body.set.w_left body.set.nu1 body.ciphers (left_start body.set)

abbrev right_in : CipherBody → List DigitKey
right_in body = if body.set.direct then [] else keys_cut body.set.w_right (rho body.set) body.ciphers (right_start body.set)

abbrev lift_in : CipherBody → List DigitKey
lift_in body = keys_cut body.set.w_conv body.set.n body.ciphers (lift_start body.set)

abbrev conv_in : CipherBody → Option DigitKey
conv_in body = if body.set.direct then None else Some (key_cut body.set.w_conv body.ciphers (conversion_start body.set))

-- The keys of a body, from those of each use.
pub set_keys_are : (body : CipherBody) (set : ParamSet) (round0 left right lift : List DigitKey) (conv : Option DigitKey) → set ≡ body.set
    → round0 ≡ round0_in body → left ≡ left_in body → right ≡ right_in body → lift ≡ lift_in body → conv ≡ conv_in body
    → set_keys set round0 left right lift conv ≡ keys_in body
unfolding keys_in
set_keys_are body set round0 left right lift conv same e0 e1 e2 e3 e4 =
    ap (λ (s : ParamSet). set_keys s round0 left right lift conv) same
    ∙ ap (λ (ks : List DigitKey). set_keys body.set ks left right lift conv) e0
    ∙ ap (λ (ks : List DigitKey). set_keys body.set (round0_in body) ks right lift conv) e1
    ∙ ap (λ (ks : List DigitKey). set_keys body.set (round0_in body) (left_in body) ks lift conv) e2
    ∙ ap (λ (ks : List DigitKey). set_keys body.set (round0_in body) (left_in body) (right_in body) ks conv) e3
    ∙ ap (λ (k : Option DigitKey). set_keys body.set (round0_in body) (left_in body) (right_in body) (lift_in body) k) e4

-- keys of an expanding set, or none
keys_or_none : (N m w count : ℕ) (b : Bool) (keys : List DigitKey) → (b ≡ false → AreKeys N m w count keys)
    → AreKeys N m w (if b then 0 else count) (if b then [] else keys)
keys_or_none N m w count true keys are = record { many = refl; each = λ k d h. absurd (omega arith) }
keys_or_none N m w count false keys are = are refl

conversion_or_none : (set : ParamSet) (b : Bool) (key : DigitKey) → set.direct ≡ b → (b ≡ false → IsKey set.degree (rows set) set.w_conv key)
    → IsConversion set (if b then None else Some key)
conversion_or_none set true key direct is = direct
conversion_or_none set false key direct is = (direct, is refl)

-- the conversion key is that of the last piece
conversion_cut : (body : CipherBody) → IsSetup body → body.set.direct ≡ false
    → IsKey body.set.degree (rows body.set) body.set.w_conv (key_cut body.set.w_conv body.ciphers (conversion_start body.set))
conversion_cut body is expands =
    let set = body.set in
    let start : conversion_start set + 0 ≡ conversion_start set = omega arith in
    subst (λ (p : ℕ). IsKey set.degree (rows set) set.w_conv (key_cut set.w_conv body.ciphers p)) start
    (cut_key body (rows set) set.w_conv (digit_count set.w_conv) (conversion_start set) 0 is (conversion_piece set expands) (omega arith))

-- The keys of a Setup body keep what the keys of a set keep.
pub keys_in-are : (body : CipherBody) → has_keys body.set ≡ true → IsSetup body → AreSetKeys (keys_in body)
unfolding keys_in
keys_in-are body some is =
    let set = body.set in
    record {
      known = is.known;
      some = some;
      round0 = keys_or_none set.degree 1 set.w_right 1 set.direct _ (λ e. cut_keys body 1 set.w_right 1 0 is (round0_piece set e));
      left = keys_or_none set.degree 1 set.w_left set.nu1 set.direct _ (λ e. cut_keys body 1 set.w_left set.nu1 (left_start set) is (left_piece set e));
      right = keys_or_none set.degree 1 set.w_right (rho set) set.direct _
          (λ e. cut_keys body 1 set.w_right (rho set) (right_start set) is (right_piece set e));
      lift = cut_keys body set.n set.w_conv set.n (lift_start set) is (lift_piece set some);
      conv = conversion_or_none set set.direct _ refl (λ e. conversion_cut body is e);
    }

-- The same of what was found to be they.
pub set_keys_kept : (body : CipherBody) (keys : SetKeys) → has_keys body.set ≡ true → IsSetup body → keys ≡ keys_in body → AreSetKeys keys
set_keys_kept body keys some is same = subst AreSetKeys (sym same) (keys_in-are body some is)
