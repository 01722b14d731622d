-- The noise of ciphertexts in the row that is measured, as the code works it out, and the sums of its norms.
use Rattle.std.proofs.Common.{◌≡◌, ℕ, ◌+◌, ◌-◌, ◌*◌, ◌/◌, ◌^◌, ◌<◌, ◌≤◌, ◌==◌, if◌then◌else◌, Bool, pos, List, [], length, get_or, replicate, sym, ◌∙◌, ap, subst, arith}
use Rattle.std.proofs.lemmas.Int.{ints}
use Rattle.std.proofs.lemmas.List.FromFn.{get_or-map-range_with_len}
use Rattle.negacyclic.specs.Residues.{norm}
use Rattle.negacyclic.specs.Ring.{ring_zero, ring_add, ring_sub, ring_mul}
use Rattle.negacyclic.proofs.Stands.{follows_at, stands_same, stands_zero, add_of, sub_of}
use Rattle.negacyclic.proofs.Ring.{ring_add_comm, ring_mul_comm, ring_mul_zero, ring_sub_mul}
use Rattle.negacyclic.proofs.Lengths.{length-ring_sub, zeros_ring, product_from_zeros}
use Rattle.spiral_sets.specs.declared.param_set.ParamSet.{ParamSet}
use Rattle.spiral_sets.specs.Sets.{q, delta, digit_count, rows}
use Rattle.ring_poly.proofs.Modulus.{q_some}
use Rattle.spiral_model.specs.Words.{Poly, Cipher, Gsw, poly_of, row_of, cipher_at, gsw_at}
use Rattle.spiral_model.specs.Ciphertexts.{phase}
use Rattle.spiral_model.specs.Queries.{first_place, row_message, in_row, first_messages, column_message, gsw_messages, selection_bit}
use Rattle.spiral_model.specs.Noise.{noise, noise_norm, place_noise, row_noise, selection_noise}
use Rattle.regev_code.specs.Seen.{Secrets}
use Rattle.regev_code.specs.Shapes.{OfDegree, polynomial_of, numbers_under, under}
use Rattle.regev_code.proofs.Rows.{under_at, under-length, under-count}
use Rattle.gsw_code.specs.Columns.{row_secrets_of}
use Rattle.noise_check.specs.Rooms.{MeasuredRow, opposite, IsWorkspace, IsRowOf}

-- ---- one ciphertext

-- to add -m is to take m away
added_opposite : (N : ℕ) (a m : Poly) → ring_add q N a (ring_sub q N (ring_zero q N) m) ≡ ring_sub q N a m
added_opposite N a m =
    stands_same (add_of q_some (follows_at q N a) (sub_of q_some (stands_zero {q = q} {N = N} q_some).follows (follows_at q N m)).follows)
    (sub_of q_some (follows_at q N a) (follows_at q N m)) (λ k h. omega (arith, ints))

-- the product with -s is that with s, taken from 0
opposite_product : (N : ℕ) (secret a : Poly) → ring_mul q N (opposite N secret) a ≡ ring_sub q N (ring_zero q N) (ring_mul q N secret a)
opposite_product N secret a =
    let none : ring_mul q N (ring_zero q N) a ≡ ring_zero q N = ring_mul_comm q N (ring_zero q N) a ∙ ring_mul_zero q N q_some a in
    ring_sub_mul q N q_some (ring_zero q N) secret a ∙ ap (λ (x : Poly). ring_sub q N x (ring_mul q N secret a)) none

-- The phase c_i - s c_0 is c_i + (-s) c_0.
pub phase_by_opposite : (N row : ℕ) (secret : Poly) (column : Cipher)
    → ring_add q N (row_of column row) (ring_mul q N (opposite N secret) (row_of column 0)) ≡ phase N secret column row
unfolding phase
phase_by_opposite N row secret column =
    ap (ring_add q N (row_of column row)) (opposite_product N secret (row_of column 0)) ∙ added_opposite N (row_of column row) (ring_mul q N secret (row_of column 0))

-- what the phase has beyond the message, in the steps of the code
pub beyond_worked : (N L M P row : ℕ) (opposed cleared product form phased left message : Poly) (column : Cipher) → L ≡ N → M ≡ N → P ≡ N
    → cleared ≡ replicate {A = ℕ} L 0 → product ≡ ring_add q N cleared (ring_mul q N opposed (row_of column 0)) → form ≡ ring_add q M product (row_of column row)
    → phased ≡ form → left ≡ ring_sub q P phased message
    → left ≡ ring_sub q N (ring_add q N (row_of column row) (ring_mul q N opposed (row_of column 0))) message
beyond_worked N L M P row opposed cleared product form phased left message column el em ep none summed added copied rest =
    let alone = product_from_zeros q N opposed (row_of column 0) q_some in
    let turned = ring_add_comm q N (ring_mul q N opposed (row_of column 0)) (row_of column row) in
    let zeros : cleared ≡ replicate {A = ℕ} N 0 = none ∙ ap (λ (n : ℕ). replicate {A = ℕ} n 0) el in
    cc

-- a norm in a ring of a degree up to 2048
pub norm_size : (N L x : ℕ) → L ≡ N → N ≤ 2048 → x ≤ L * ((q - 1) / 2) → x ≤ 2 ^ 66
unfolding q
norm_size N L x same short most = omega arith

-- the messages of a row
pub first_message_at : (set : ParamSet) (index u r row : ℕ) → row < rows set
    → poly_of (first_messages set index u r) row ≡ row_message set r (if u == first_place set index then pos (delta set) else pos 0) (row + 1)
unfolding in_row
first_message_at set index u r row within =
    get_or-map-range_with_len (row_message set r (if u == first_place set index then pos (delta set) else pos 0)) 1 (rows set) row (row + 1) [] within (omega arith)

pub column_message_at : (set : ParamSet) (secrets : List Poly) (bit r k row : ℕ) → row < rows set
    → poly_of (gsw_messages set secrets bit r k) row ≡ column_message set.degree secrets (bit * 2 ^ (set.w_gsw * k)) r (row + 1)
unfolding gsw_messages
column_message_at set secrets bit r k row within =
    get_or-map-range_with_len (column_message set.degree secrets (bit * 2 ^ (set.w_gsw * k)) r) 1 (rows set) row (row + 1) [] within (omega arith)

-- the norm of the noise, where the code has the opposite of the row's secret, and its message
pub norm_is : (N D row result : ℕ) (secrets : List Poly) (opposed message : Poly) (column : Cipher) (messages : List Poly) → D ≡ N → opposed ≡ opposite N (poly_of secrets row)
    → message ≡ poly_of messages row
    → result ≡ norm q (ring_sub q D (ring_add q D (row_of column (row + 1)) (ring_mul q D opposed (row_of column 0))) message) → result ≡ noise_norm N secrets column messages row
unfolding noise_norm noise
norm_is N D row result secrets opposed message column messages degree key written worked =
    let P : ℕ → Poly → Poly = λ n s. ring_add q n (row_of column (row + 1)) (ring_mul q n s (row_of column 0)) in
    worked ∙ ap (λ (n : ℕ). norm q (ring_sub q n (P n opposed) message)) degree
    ∙ ap (λ (s : Poly). norm q (ring_sub q N (P N s) message)) key
    ∙ ap (λ (a : Poly). norm q (ring_sub q N a message)) (phase_by_opposite N (row + 1) (poly_of secrets row) column)
    ∙ ap (λ (m : Poly). norm q (ring_sub q N (phase N (poly_of secrets row) column (row + 1)) m)) written

-- ---- the row that is measured

-- it is one of those of the secrets under which the ciphertexts stand
pub row_held : (set : ParamSet) (ring N : ℕ) (measured : MeasuredRow) → IsRowOf set ring measured → measured.row < length (numbers_under measured.secrets measured.scalar)
    → measured.row + 1 ≤ length (under N measured.secrets set.pack)
row_held set ring N measured is within =
    let same = ap (λ (b : Bool). length (under N measured.secrets b)) is.scalar in
    omega (arith, same, under-count N measured.secrets measured.scalar)

-- its secret is the row's among all
pub row_opposite : (set : ParamSet) (ring : ℕ) (measured : MeasuredRow) (opposed : Poly) → IsRowOf set ring measured
    → opposed ≡ opposite measured.degree (poly_of (under measured.degree measured.secrets measured.scalar) measured.row)
    → opposed ≡ opposite set.degree (poly_of (row_secrets_of set measured.secrets) measured.row)
row_opposite set ring measured opposed is key =
    key
    ∙ ap (λ (n : ℕ). opposite n (poly_of (under n measured.secrets measured.scalar) measured.row)) is.degree
    ∙ ap (λ (b : Bool). opposite set.degree (poly_of (under set.degree measured.secrets b) measured.row)) is.scalar

-- what it encrypts in a column of a GSW ciphertext
pub column_message_is : (set : ParamSet) (ring : ℕ) (measured : MeasuredRow) (bit power r k : ℕ) (message : Poly) → IsRowOf set ring measured → power ≡ bit * 2 ^ (set.w_gsw * k)
    → message ≡ column_message ring (under ring measured.secrets set.pack) power r (measured.row + 1)
    → message ≡ poly_of (gsw_messages set (row_secrets_of set measured.secrets) bit r k) measured.row
column_message_is set ring measured bit power r k message is counts worked =
    worked
    ∙ ap (λ (n : ℕ). column_message n (under n measured.secrets set.pack) power r (measured.row + 1)) is.ring_degree
    ∙ ap (λ (x : ℕ). column_message set.degree (row_secrets_of set measured.secrets) x r (measured.row + 1)) counts
    ∙ sym (column_message_at set (row_secrets_of set measured.secrets) bit r k measured.row is.within)

-- and in a ciphertext of the first dimension
pub first_message_is : (set : ParamSet) (ring : ℕ) (measured : MeasuredRow) (index u r : ℕ) (message : Poly) → IsRowOf set ring measured
    → message ≡ row_message set r (if u == first_place set index then pos (delta set) else pos 0) (measured.row + 1)
    → message ≡ poly_of (first_messages set index u r) measured.row
first_message_is set ring measured index u r message is worked = worked ∙ sym (first_message_at set index u r measured.row is.within)

-- ---- the room

-- the secret of a row, as the code reads it, has N coefficients
pub key_degree : (N : ℕ) (secrets : Secrets) (scalar : Bool) (row : ℕ) (key : Poly) → OfDegree N secrets → row < length (numbers_under secrets scalar)
    → key ≡ polynomial_of (get_or (numbers_under secrets scalar) row []) → length key ≡ N
key_degree N secrets scalar row key is within read = under-length N secrets scalar row key is within read

-- its opposite, as the code works it out
pub opposite_worked : (N L M : ℕ) (secret cleared room : Poly) → L ≡ N → M ≡ N → cleared ≡ replicate {A = ℕ} L 0 → room ≡ ring_sub q M cleared secret → room ≡ opposite N secret
opposite_worked N L M secret cleared room el em none worked =
    let zeros : cleared ≡ ring_zero q N = none ∙ ap (λ (n : ℕ). replicate {A = ℕ} n 0) el ∙ zeros_ring q N q_some in
    worked ∙ ap (λ (n : ℕ). ring_sub q n cleared secret) em ∙ ap (λ (a : Poly). ring_sub q N a secret) zeros

-- it has N coefficients
pub opposite_degree : (N : ℕ) (secret opposed : Poly) → opposed ≡ opposite N secret → length opposed ≡ N
opposite_degree N secret opposed is = ap length is ∙ length-ring_sub q N (ring_zero q N) secret

-- room for a row of secrets of that degree, of polynomials of that degree
pub room_of : (N : ℕ) (secrets : Secrets) (scalar : Bool) (row : ℕ) (key opposed form phase message : Poly) → OfDegree N secrets → row < length (numbers_under secrets scalar)
    → row < 2 ^ 31 → key ≡ polynomial_of (get_or (numbers_under secrets scalar) row []) → opposed ≡ opposite N key → length form ≡ N → length phase ≡ N → length message ≡ N
    → IsWorkspace (record { degree = length opposed; secrets = secrets; scalar = scalar; row = row }) opposed form phase message
room_of N secrets scalar row key opposed form phase message is within few read turned f h m =
    let size : length opposed ≡ N = opposite_degree N key opposed turned in
    record {
      degrees = subst (λ (n : ℕ). OfDegree n secrets) (sym size) is;
      within = within;
      few = few;
      opposite_is = turned ∙ ap (λ (a : Poly). opposite N a) (under_at N secrets scalar row key is within read)
          ∙ ap (λ (n : ℕ). opposite n (poly_of (under n secrets scalar) row)) (sym size);
      form_degree = f ∙ sym size;
      phase_degree = h ∙ sym size;
      message_degree = m ∙ sym size;
    }

-- ---- the terms of the sums

-- of a place of the first dimension: the norm of column c
abbrev pub first_term : ParamSet → MeasuredRow → ℕ → List Cipher → ℕ → ℕ → ℕ
first_term set measured index firsts u c =
    noise_norm set.degree (row_secrets_of set measured.secrets) (cipher_at firsts (u * rows set + c)) (first_messages set index u (c + 1)) measured.row

-- as the code reads the column
pub first_read : (set : ParamSet) (now before : MeasuredRow) (index u c x : ℕ) (firsts : List Cipher) (column : Cipher) → now ≡ before → column ≡ cipher_at firsts (u * rows set + c)
    → x ≡ noise_norm set.degree (row_secrets_of set now.secrets) column (first_messages set index u (c + 1)) now.row → x ≡ first_term set before index firsts u c
first_read set now before index u c x firsts column same read worked =
    worked ∙ ap (λ (d : Cipher). noise_norm set.degree (row_secrets_of set now.secrets) d (first_messages set index u (c + 1)) now.row) read
    ∙ ap (λ (m : MeasuredRow). first_term set m index firsts u c) same

-- of the first dimension: the norms of place u
abbrev pub place_term : ParamSet → MeasuredRow → ℕ → List Cipher → ℕ → ℕ
place_term set measured index firsts u = place_noise set (row_secrets_of set measured.secrets) index firsts measured.row u

-- of row r of a selection: the norm of column (r, k)
abbrev pub column_term : ParamSet → MeasuredRow → ℕ → Gsw → ℕ → ℕ → ℕ
column_term set measured bit gsw r k =
    noise_norm set.degree (row_secrets_of set measured.secrets) (cipher_at gsw (r * digit_count set.w_gsw + k)) (gsw_messages set (row_secrets_of set measured.secrets) bit r k) measured.row

-- of a selection: the norms of row r
abbrev pub row_term : ParamSet → MeasuredRow → ℕ → Gsw → ℕ → ℕ
row_term set measured bit gsw r = row_noise set (row_secrets_of set measured.secrets) bit gsw measured.row r

-- of all selections: the norms of selection l
abbrev pub selection_term : ParamSet → MeasuredRow → ℕ → List Gsw → ℕ → ℕ
selection_term set measured index gsws l = selection_noise set (row_secrets_of set measured.secrets) (selection_bit set index l) (gsw_at gsws l) measured.row

-- as the code reads the ciphertext and the bit
pub selection_read : (set : ParamSet) (now before : MeasuredRow) (index l bit x : ℕ) (gsws : List Gsw) (gsw : Gsw) → now ≡ before → bit ≡ selection_bit set index l → gsw ≡ gsw_at gsws l
    → x ≡ selection_noise set (row_secrets_of set now.secrets) bit gsw now.row → x ≡ selection_term set before index gsws l
selection_read set now before index l bit x gsws gsw same asked read worked =
    worked ∙ ap (λ (b : ℕ). selection_noise set (row_secrets_of set now.secrets) b gsw now.row) asked
    ∙ ap (λ (g : Gsw). selection_noise set (row_secrets_of set now.secrets) (selection_bit set index l) g now.row) read
    ∙ ap (λ (m : MeasuredRow). selection_term set m index gsws l) same
