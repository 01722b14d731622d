-- Bodies in the making that are kept as bytes: of Refuse and State frames, and the front of a Reply.
use Rattle.std.proofs.Common.{◌≡◌, ℕ, ℤ, zero, suc, ◌+◌, ◌-◌, ◌^◌, ◌<◌, ◌≤◌, List, [], ◌∷◌, ◌++◌, length, get_or, take, drop, map, All, Option, Some, None, Ok, Err, Result, IfNone, pos, ◌-ℤ◌, refl, sym, ◌∙◌, ap, subst, arith, length-append, length-take}
use Rattle.std.specs.Prelude.{IsSome}
use Rattle.std.proofs.lemmas.List.{take_at, take_all, take-append-le, drop-append-le, get_or_append_left, get_or-append-add, get_or-take, get_or-drop, length-drop}
use Rattle.std.proofs.lemmas.List.Elements.{All-nil, All-cons, All-head, All-tail, All-append}
use Rattle.negacyclic.specs.Digits.{number_of}
use Rattle.spiral_sets.specs.declared.param_set.ParamSet.{ParamSet}
use Rattle.spiral_sets.specs.Sets.{IsSet, name_of, max_records}
use Rattle.spiral_sets.specs.Counts.{state_len}
use Rattle.frame_headers.specs.declared.frame_error.FrameError.TheVariants.{Residue}
use Rattle.frame_headers.specs.declared.kind.FrameKind.{FrameKind}
use Rattle.frame_headers.specs.declared.kind.FrameKind.TheVariants.{Refuse, State}
use Rattle.frame_headers.specs.Headers.{number}
use Rattle.frame_headers.specs.Checks.{refuses, passes, number_at}
use Rattle.frame_headers.proofs.HeaderLaws.{number_is}
use Rattle.frame_headers.proofs.HeaderReading.{checked-none}
use Rattle.spiral_model.specs.Replies.{IsTernary}
use Rattle.spiral_frames.specs.Frames.{Message, kind_of, secret_byte, refuse_body, refuse_message, state_message}
use Rattle.frame_streams.specs.Heads.{header_of, found}
use Rattle.frame_streams.proofs.BehindHeaders.{length-header_of}
use Rattle.frame_streams.proofs.StateChecks.{index_refused, secret_refused, state_clean}
use Rattle.pir_wire.specs.Bodies.{IsBodyOf}
use Rattle.pir_wire.specs.Growing.{BodySeen, IsGrowing, Grows}
use Rattle.pir_wire.specs.BodyParts.{Takes, IsRefusePart, IsStatePart}
use Rattle.pir_wire.specs.declared.decoder.body.GrowError.{GrowError}
use Rattle.pir_wire.specs.declared.decoder.body.GrowError.TheVariants.{Refused, NoMemory}
use Rattle.pir_wire.proofs.States.{state_from_parts}

-- a body of which these bytes have come
abbrev pub seen : FrameKind → ParamSet → List ℕ → BodySeen
seen kind set bytes = record { kind = kind; set = set; bytes = bytes }

-- what was put behind a list and cut off again
pub put_back : (had : ℕ) (old more longer now : List ℕ) → had ≡ length old → longer ≡ old ++ more → now ≡ take had longer → now ≡ old
put_back had old more longer now e is cut = cut ∙ ap (take had) is ∙ take_at old more had (sym e)

-- ---- what was taken

module _ (kind : FrameKind) (set : ParamSet) (Fits : List ℕ → Type 0) where
  pub kept_part : (old new piece : List ℕ) (r : Result ℕ GrowError) → Fits old → Takes kind Fits set old new piece r → Fits new
  kept_part old new piece (Ok n) is h = h.3
  kept_part old new piece (Err (Refused error)) is h = subst Fits (sym h.0) is
  kept_part old new piece (Err NoMemory) is h = subst Fits (sym h) is

  module _ (grows : (bytes : List ℕ) → Fits bytes → IsGrowing (seen kind set bytes)) where
    pub grown : (old new piece : List ℕ) (r : Result ℕ GrowError) → Takes kind Fits set old new piece r → Grows (seen kind set old) (seen kind set new) piece r
    grown old new piece (Ok n) h = (h.0, h.1, ap (seen kind set) h.2, grows new h.3)
    grown old new piece (Err (Refused error)) h = (h.1, h.2, h.3)
    grown old new piece (Err NoMemory) h = tt

-- ---- a Refuse

pub refuse_growing : (set : ParamSet) (bytes : List ℕ) → IsRefusePart set bytes → IsGrowing (seen Refuse set bytes)
refuse_growing set bytes is = record {
  known = is.known;
  clean = λ error refused. let none : found Refuse set bytes ≡ passes = checked-none (length (header_of Refuse set ++ bytes)) in cc;
  within = is.within;
}

-- nine bytes are a code and a place
code_and_place : (bytes : List ℕ) (code at : ℕ) → length bytes ≡ 9 → All (λ b. b < 2 ^ 8) bytes → code ≡ get_or bytes 0 0 → at ≡ number_at bytes 1
    → bytes ≡ code ∷ number 8 at
code_and_place [] code at len below is_code is_at = absurd (omega arith)
code_and_place (b ∷ rest) code at len below is_code is_at =
    let eight : length rest ≡ 8 = omega arith in
    let all : take 8 rest ≡ rest = take_all 8 rest (omega arith) in
    let value : at ≡ number_of 256 rest = is_at ∙ ap (number_of 256) all in
    ap (λ (c : ℕ). c ∷ rest) (sym is_code) ∙ ap (λ (t : List ℕ). code ∷ t) (number_is 8 at rest eight (All-tail (λ b. b < 2 ^ 8) b rest below) value)

pub refuse_read : (set : ParamSet) (bytes : List ℕ) (code at : ℕ) → IsSet set → length bytes ≡ 9 → All (λ b. b < 2 ^ 8) bytes → code < 2 ^ 8 → at < 2 ^ 64
    → code ≡ get_or bytes 0 0 → at ≡ number_at bytes 1 → IsBodyOf set bytes (refuse_message (record { set = set; code = code; place = at }))
unfolding refuse_body
refuse_read set bytes code at known len below small fits is_code is_at = record {
  set_is = refl;
  kept = (known, small, fits);
  spelled = code_and_place bytes code at len below is_code is_at;
}

-- ---- a State

pub state_growing : (set : ParamSet) (bytes : List ℕ) → IsStatePart set bytes → IsGrowing (seen State set bytes)
state_growing set bytes is = record { known = is.known; clean = state_clean set bytes is.low is.small; within = is.within }

-- an index of no record is refused
pub index_found : (set : ParamSet) (longer bytes : List ℕ) (place value bound : ℕ) → longer ≡ bytes → 8 ≤ length longer → place ≡ 15 + length (name_of set) + 0
    → value ≡ number_at longer 0 → bound ≡ max_records set → bound ≤ value → found State set bytes ≡ refuses (Residue place value bound)
index_found set longer bytes place value bound e some is_place is_value is_bound large =
    let start : length (header_of State set) ≡ place = omega (arith, length-header_of State set) in
    let over : max_records set ≤ number_of 256 (take 8 longer) = omega arith in
    ap (found State set) (sym e) ∙ index_refused set longer some over
    ∙ ap (λ (p : ℕ). refuses (Residue p (number_of 256 (take 8 longer)) (max_records set))) start
    ∙ ap (λ (v : ℕ). refuses (Residue place v (max_records set))) (sym is_value)
    ∙ ap (λ (b : ℕ). refuses (Residue place value b)) (sym is_bound)

-- so is a byte above 2 where the secret's next byte has to be
pub secret_found : (set : ParamSet) (old piece : List ℕ) (place value : ℕ) → IsStatePart set old → 8 ≤ length old → length old < state_len set
    → 0 < length piece → place ≡ 15 + length (name_of set) + length old → value ≡ get_or piece 0 0 → 2 < value
    → found State set (old ++ take 1 piece) ≡ refuses (Residue place value 3)
secret_found set old piece place value is some unfinished one is_place is_value large =
    let body : List ℕ = old ++ take 1 piece in
    let size : length body ≡ length old + 1 = omega (arith, length-append old (take 1 piece), length-take 1 piece) in
    let low : number_of 256 (take 8 body) < max_records set = rw (take-append-le 8 old (take 1 piece) some) (is.low some) in
    let last : length old + 0 ≡ length old = omega arith in
    let here : get_or body (length old) 0 ≡ value =
    ap (λ (k : ℕ). get_or body k 0) (sym last) ∙ get_or-append-add old (take 1 piece) 0 0 ∙ get_or-take 1 piece 0 0 (omega arith) ∙ sym is_value in
    let start : length (header_of State set) + length old ≡ place = omega (arith, length-header_of State set) in
    secret_refused set body (omega arith) low (length old) some (omega arith) unfinished
    (λ j from below.
    let there : 8 + (j - 8) ≡ j = omega arith in
    let byte : get_or body j 0 ≡ get_or (drop 8 old) (j - 8) 0 =
    get_or_append_left old (take 1 piece) 0 j below ∙ ap (λ (k : ℕ). get_or old k 0) (sym there) ∙ sym (get_or-drop 8 old (j - 8) 0) in
    rw byte (is.small (j - 8) 0 (omega (arith, length-drop 8 old))))
    (omega (arith, here))
    ∙ ap (λ (p : ℕ). refuses (Residue p (get_or body (length old) 0) 3)) start
    ∙ ap (λ (b : ℕ). refuses (Residue place b 3)) here

-- the byte behind none of at most 2
pub first_large : (wanted count : ℕ) (piece : List ℕ) → count ≡ 0 → 0 < wanted → 0 < length piece
    → (count < length (take wanted piece) → 2 < get_or (take wanted piece) count 0) → 2 < get_or piece 0 0
first_large wanted count piece none one some next =
    let here : get_or (take wanted piece) count 0 ≡ get_or piece 0 0 =
    ap (λ (k : ℕ). get_or (take wanted piece) k 0) none ∙ get_or-take wanted piece 0 0 one in
    omega (arith, here, next (omega (arith, length-take wanted piece)))

-- bytes of at most 2 go on with the secret
pub state_more : (set : ParamSet) (old more new : List ℕ) → IsStatePart set old → 8 ≤ length old → length old + length more ≤ state_len set
    → All (λ b. b ≤ 2) more → new ≡ old ++ more → IsStatePart set new
state_more set old more new is some within small e =
    subst (IsStatePart set) (sym e)
    (record {
      known = is.known;
      within = omega (arith, length-append old more);
      low = λ all. rw (take-append-le 8 old more some) (is.low some);
      small = rw (drop-append-le 8 old more some) (All-append (λ b. b ≤ 2) (drop 8 old) more is.small small);
    })

-- ---- the state of whole bytes

-- bytes of at most 2 are those of numbers -1, 0 and 1
pub record HasSecret (bytes : List ℕ) : Type 0 where
  pub secret : List ℤ
  pub ternary : All IsTernary secret
  pub spelled : map secret_byte secret ≡ bytes

secret_of_byte : (b : ℕ) → b ≤ 2 → IsTernary (pos b -ℤ pos 1) × (secret_byte (pos b -ℤ pos 1) ≡ b)
secret_of_byte zero small = (omega arith, refl)
secret_of_byte (suc zero) small = (omega arith, refl)
secret_of_byte (suc (suc zero)) small = (omega arith, refl)
secret_of_byte (suc (suc (suc b))) small = absurd (omega arith)

has_secret : (bytes : List ℕ) → All (λ b. b ≤ 2) bytes → HasSecret bytes
has_secret [] small = record { secret = []; ternary = All-nil IsTernary; spelled = refl }
has_secret (b ∷ bytes) small =
    let rest : HasSecret bytes = has_secret bytes (All-tail (λ b. b ≤ 2) b bytes small) in
    let first = secret_of_byte b (All-head (λ b. b ≤ 2) b bytes small) in
    record {
      secret = (pos b -ℤ pos 1) ∷ rest.secret;
      ternary = All-cons IsTernary (pos b -ℤ pos 1) rest.secret first.0 rest.ternary;
      spelled = rw (first.1, rest.spelled) refl;
    }

none_absent : {X : Type 0} (r : Option X) {P : Type 0} → IfNone r P → (P → ⊥) → IsSome r
none_absent (Some x) h there = refl
none_absent None h there = absurd (there h)

-- Whole bytes are the body of a state's frame.
pub state_there : {X : Type 0} (r : Option X) (set : ParamSet) (bytes : List ℕ) → IsStatePart set bytes → length bytes ≡ state_len set → All (λ b. b < 2 ^ 8) bytes
    → IfNone r ((m : Message) → kind_of m ≡ State → IsBodyOf set bytes m → ⊥) → IsSome r
state_there r set bytes is len below none =
    let found_secret : HasSecret (drop 8 bytes) = has_secret (drop 8 bytes) is.small in
    let low : number_of 256 (take 8 bytes) < max_records set = is.low (omega arith) in
    none_absent r none
    (λ other.
    other (state_message (record { set = set; index = number_of 256 (take 8 bytes); secret = found_secret.secret })) refl
    (state_from_parts set bytes (number_of 256 (take 8 bytes)) found_secret.secret is.known below len refl low found_secret.ternary found_secret.spelled))
