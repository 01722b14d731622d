-- A query's ciphertexts: how those that are all sent are cut, into those of the first dimension and the columns of each selection, and
-- the one that is expanded.
use Rattle.std.proofs.Common.{◌≡◌, ℕ, ◌+◌, ◌*◌, ◌≤◌, Bool, true, false, if◌then◌else◌, List, length, map, take, drop, All, Option, Some, sum_by, refl, sym, ◌∙◌, ap, ap₂, arith, length-take-le}
use Rattle.std.specs.List.{range_with_len}
use Rattle.std.proofs.lemmas.List.Elements.{All-same, All-take, All-weaker}
use Rattle.std.proofs.lemmas.List.FromFn.{length-map-range_with_len}
use Rattle.spiral_sets.specs.declared.param_set.ParamSet.{ParamSet}
use Rattle.spiral_sets.specs.Sets.{rows}
use Rattle.spiral_sets.specs.Counts.{query_ciphertexts, firsts_count, gsw_count}
use Rattle.spiral_model.specs.Words.{Cipher, Gsw, cipher_at}
use Rattle.spiral_model.specs.Bodies.{CipherBody, IsQuery}
use Rattle.spiral_model.specs.Ciphertexts.{IsCipher}
use Rattle.spiral_model.specs.Keys.{SetKeys}
use Rattle.spiral_model.specs.Answering.{Ready, firsts_of, gsw_of, gsws_of, expanded_firsts, expanded_gsws, ready_by, ready_of}
use Rattle.regev_code.specs.Products.{HasShape}
use Rattle.gsw_code.specs.Products.{IsGsw, IsReady}

-- ---- the selections, one after the other

-- the columns of selection l
pub gsw_cut : (set : ParamSet) (ciphers : List Cipher) (l start len first count : ℕ) (gsw : Gsw) → first ≡ firsts_count set → count ≡ gsw_count set
    → start ≡ first + l * count → len ≡ count → gsw ≡ take len (drop start ciphers) → gsw ≡ gsw_of set ciphers l
gsw_cut set ciphers l start len first count gsw firsts size at same cut =
    cut ∙ ap (λ (n : ℕ). take n (drop start ciphers)) (same ∙ size)
    ∙ ap (λ (n : ℕ). take (gsw_count set) (drop n ciphers)) (at ∙ ap (λ (n : ℕ). n + l * count) firsts ∙ ap (λ (n : ℕ). firsts_count set + l * n) size)

-- all of them
pub gsws-all : (set : ParamSet) (ciphers : List Cipher) (n : ℕ) (gsws : List Gsw) → n ≡ set.nu2 → gsws ≡ map (gsw_of set ciphers) (range_with_len 0 n)
    → gsws ≡ gsws_of set ciphers
unfolding gsws_of
gsws-all set ciphers n gsws all so_far = so_far ∙ ap (λ (m : ℕ). map (gsw_of set ciphers) (range_with_len 0 m)) all

-- ---- shapes

-- a ciphertext of residues has its shape
cipher-shape : (N m : ℕ) (cipher : Cipher) → IsCipher N m cipher → HasShape N (m + 1) cipher
cipher-shape N m cipher is = record { rows_count = is.rows_count; degree = λ k d h. (is.residues k d h).0 }

-- and so have several
pub ciphers-shapes : (N m : ℕ) (ciphers : List Cipher) → All (IsCipher N m) ciphers → All (HasShape N (m + 1)) ciphers
ciphers-shapes N m ciphers is = All-weaker (IsCipher N m) (HasShape N (m + 1)) (λ c shape. cipher-shape N m c shape) ciphers is

count-one : (set : ParamSet) → set.direct ≡ false → sum_by (λ c. c.how_many) (query_ciphertexts set) ≡ 1
count-one set expanding = rw expanding refl

-- A query that is expanded has one ciphertext.
pub query-one : (set : ParamSet) (query : CipherBody) (ciphers : List Cipher) → query.set ≡ set → set.direct ≡ false → IsQuery query
    → ciphers ≡ query.ciphers → length ciphers ≡ 1
query-one set query ciphers same expanding is sent =
    ap length sent ∙ is.count ∙ count-one query.set (ap (λ (s : ParamSet). s.direct) same ∙ expanding)

-- ---- both parts

abbrev of_parts : List Cipher → List Gsw → Ready
of_parts firsts gsws = record { firsts = firsts; gsws = gsws }

-- as they were sent
pub sent-is : (set : ParamSet) (ciphers firsts : List Cipher) (gsws : List Gsw) → firsts ≡ firsts_of set ciphers → gsws ≡ gsws_of set ciphers
    → record { firsts = firsts; gsws = gsws } ≡ of_parts (firsts_of set ciphers) (gsws_of set ciphers)
sent-is set ciphers firsts gsws front rest = ap₂ of_parts front rest

-- and their shape
pub sent-shape : (set : ParamSet) (ciphers firsts : List Cipher) (gsws : List Gsw) → length ciphers ≡ firsts_count set + set.nu2 * gsw_count set
    → All (HasShape set.degree (rows set + 1)) ciphers → firsts ≡ firsts_of set ciphers → gsws ≡ gsws_of set ciphers → All (IsGsw set) gsws
    → IsReady set (of_parts firsts gsws)
unfolding gsws_of
sent-shape set ciphers firsts gsws count shapes front rest gsws_shapes =
    let within : firsts_count set ≤ length ciphers = omega (arith, count) in
    record {
      firsts_many = ap length front ∙ length-take-le (firsts_count set) ciphers within;
      firsts_shapes = All-same (HasShape set.degree (rows set + 1)) firsts (take (firsts_count set) ciphers) front
          (All-take (HasShape set.degree (rows set + 1)) (firsts_count set) ciphers shapes);
      gsws_many = ap length rest ∙ length-map-range_with_len (gsw_of set ciphers) 0 set.nu2;
      gsws_shapes = gsws_shapes;
    }

-- a direct set's query made ready, whatever keys there are
pub ready-sent : (set : ParamSet) (keys : Option SetKeys) (sent ciphers : List Cipher) (ready : Ready) → set.direct ≡ true → sent ≡ ciphers
    → ready ≡ of_parts (firsts_of set sent) (gsws_of set sent) → ready ≡ ready_of set keys ciphers
unfolding ready_of
ready-sent set keys sent ciphers ready direct same worked =
    worked
    ∙ ap (λ (cs : List Cipher). of_parts (firsts_of set cs) (gsws_of set cs)) same
    ∙ sym (ap (λ (b : Bool). if b then of_parts (firsts_of set ciphers) (gsws_of set ciphers) else ready_by set keys ciphers) direct)

-- another set's query, with its keys
pub ready-expanded : (set : ParamSet) (keys : SetKeys) (given : Option SetKeys) (ciphers : List Cipher) (c : Cipher) (ready : Ready) → set.direct ≡ false
    → given ≡ Some keys
    → c ≡ cipher_at ciphers 0 → ready ≡ of_parts (expanded_firsts set keys c) (expanded_gsws set keys c) → ready ≡ ready_of set given ciphers
unfolding ready_of
ready-expanded set keys given ciphers c ready expanding some only worked =
    worked
    ∙ ap (λ (d : Cipher). of_parts (expanded_firsts set keys d) (expanded_gsws set keys d)) only
    ∙ sym (ap (λ (b : Bool). if b then of_parts (firsts_of set ciphers) (gsws_of set ciphers) else ready_by set (Some keys) ciphers) expanding)
    ∙ ap (λ (o : Option SetKeys). ready_of set o ciphers) (sym some)
