-- Ciphertexts in the making: what is kept of the body of a Setup or a Query, of which not all has come.
use Rattle.std.specs.Prelude.{ℕ, Bool, true, false, List, [], ◌∷◌, ◌++◌, ◌*◌, ◌≡◌, ◌<◌, ◌≤◌, length, take, slice_index_or, All, EachIndex, ◌⊎◌}
use Rattle.negacyclic.specs.Digits.{number_of}
use Rattle.spiral_sets.specs.declared.param_set.ParamSet.{ParamSet}
use Rattle.spiral_sets.specs.Sets.{IsSet, q}
use Rattle.spiral_sets.specs.Counts.{setup_ciphertexts, query_ciphertexts}
use Rattle.frame_headers.specs.declared.kind.FrameKind.{FrameKind}
use Rattle.frame_headers.specs.declared.kind.FrameKind.TheVariants.{Setup, Query}
use Rattle.spiral_model.specs.Words.{Poly, Cipher, cipher_at}
use Rattle.spiral_model.specs.Bodies.{rows_of}
use Rattle.spiral_model.specs.Ciphertexts.{IsCipher}
use Rattle.spiral_frames.specs.Frames.{poly_bytes, rows_bytes, cipher_bytes}
use Rattle.frame_headers.specs.Checks.{refuses}
use Rattle.frame_streams.specs.Heads.{found}
use Rattle.pir_wire.specs.declared.decoder.parts.Parts.{Parts}
use Rattle.pir_wire.specs.declared.decoder.body.GrowError.{GrowError}
use Rattle.pir_wire.specs.declared.decoder.body.GrowError.TheVariants.{Refused, NoMemory}
use Rattle.pir_wire.specs.Growing.{BodySeen, IsGrowing}

-- the kind of a frame whose body is ciphertexts
abbrev pub kind_by : Bool → FrameKind
kind_by true = Setup
kind_by false = Query

-- the rows below row 0 of each ciphertext of such a body, in order
abbrev pub shapes : Bool → ParamSet → List ℕ
shapes true set = rows_of (setup_ciphertexts set)
shapes false set = rows_of (query_ciphertexts set)

-- Whole ciphertexts of a body, whole rows of the ciphertext at hand, and residues of the row at hand; and how many residues these are in all.
pub record Made : Type 0 where
  pub set : ParamSet
  pub is_setup : Bool
  pub ciphers : List Cipher
  pub rows : List Poly
  pub numbers : List ℕ
  pub count : ℕ

abbrev pub made : Parts → Made
made p = record { set = p.set; is_setup = p.is_setup; ciphers = p.ciphers.items; rows = p.rows.items; numbers = p.numbers.items; count = p.count }

-- their bytes
abbrev pub bytes_made : Made → List ℕ
bytes_made p = cipher_bytes p.ciphers ++ rows_bytes p.rows ++ poly_bytes p.numbers

-- what is seen of a body: besides, fewer bytes than a residue has
abbrev pub body_seen_of : Made → List ℕ → BodySeen
body_seen_of p few = record { kind = kind_by p.is_setup; set = p.set; bytes = bytes_made p ++ few }

-- the rows below row 0 of the ciphertext at hand
abbrev pub below_at_hand : Made → ℕ
below_at_hand p = slice_index_or (shapes p.is_setup p.set) (length p.ciphers) 0

-- every part has the shape that the set says
pub record AreParts (p : Made) : Type 0 where
  pub known : IsSet p.set
  pub each : EachIndex p.ciphers (λ x. IsCipher p.set.degree (slice_index_or (shapes p.is_setup p.set) x 0) (cipher_at p.ciphers x))
  pub rows_fit : All (λ poly. (length poly ≡ p.set.degree) × All (λ x. x < q) poly) p.rows
  pub numbers_fit : All (λ x. x < q) p.numbers
  pub counted : 7 * p.count ≡ length (bytes_made p)

-- A ciphertext is wanting, and the row at hand may be whole.
pub record IsFilling (p : Made) : Type 0 where
  pub parts : AreParts p
  pub wanting : length p.ciphers < length (shapes p.is_setup p.set)
  pub rows_few : length p.rows ≤ below_at_hand p
  pub numbers_few : length p.numbers ≤ p.set.degree

-- What is kept between two pieces: no row at hand is whole, no ciphertext, and no residue; and behind the last ciphertext there is nothing.
pub record IsAtHand (p : Made) (few : List ℕ) : Type 0 where
  pub parts : AreParts p
  pub within : length p.ciphers ≤ length (shapes p.is_setup p.set)
  pub rows_few : length p.rows ≤ below_at_hand p
  pub numbers_few : length p.numbers < p.set.degree
  pub few_few : length few < 7
  pub ended : length p.ciphers ≡ length (shapes p.is_setup p.set) → (length p.numbers ≡ 0) × (length few ≡ 0)

-- what the type of such a body keeps
pub record IsKept (p : Made) (few : List ℕ) : Type 0 where
  pub at_hand : IsAtHand p few
  pub growing : IsGrowing (body_seen_of p few)

-- A whole row became a row of the ciphertext, and whole rows a ciphertext: the bytes are the same.
pub record Settles (p r : Made) : Type 0 where
  pub kept : IsAtHand r []
  pub same_set : r.set ≡ p.set
  pub same_kind : r.is_setup ≡ p.is_setup
  pub same_bytes : bytes_made r ≡ bytes_made p

-- Rows become a ciphertext where there are m + 1.
abbrev pub PutsCipher : ℕ → List Poly → List Cipher → List Poly → List Cipher → Type 0
PutsCipher m rows old left new =
    ((length rows ≤ m) × (left ≡ rows) × (new ≡ old)) ⊎ ((m < length rows) × (left ≡ []) × (new ≡ old ++ rows ∷ []))

-- So many residues were read off the front of a piece.
pub record Took (piece old new : List ℕ) (count : ℕ) : Type 0 where
  pub residues : List ℕ
  pub appended : new ≡ old ++ residues
  pub many : length residues ≡ count
  pub below : All (λ x. x < q) residues
  pub spelled : poly_bytes residues ≡ take (7 * count) piece

-- So many were read, of at most `wanted`; none only where the first one is too large.
pub record Takes (piece old new : List ℕ) (wanted count : ℕ) : Type 0 where
  pub took : Took piece old new count
  pub some : count ≤ wanted
  pub within : 7 * count ≤ length piece
  pub too_large : count ≡ 0 → q ≤ number_of 256 (take 7 piece)

-- Bytes of a piece's front were taken, at least one, and the parts and the bytes at hand stand for them too.
pub record GrownBy (p : Made) (few piece : List ℕ) (r : Made) (left : List ℕ) (n : ℕ) : Type 0 where
  pub some : 1 ≤ n
  pub within : n ≤ length piece
  pub at_hand : IsAtHand r left
  pub same_set : r.set ≡ p.set
  pub same_kind : r.is_setup ≡ p.is_setup
  pub bytes : bytes_made r ++ left ≡ (bytes_made p ++ few) ++ take n piece

-- A byte of the piece refuses the body; or memory was wanting.
abbrev pub RefusedBy : Made → List ℕ → List ℕ → GrowError → Type 0
RefusedBy p few piece (Refused error) =
    (n : ℕ) × (n ≤ length piece) × (found (kind_by p.is_setup) p.set ((bytes_made p ++ few) ++ take n piece) ≡ refuses error)
RefusedBy p few piece NoMemory = Unit {0}
