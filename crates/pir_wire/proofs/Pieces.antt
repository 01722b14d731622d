-- Things that bytes spell one after the other, each in a piece of the same length.
use Rattle.std.proofs.Common.{◌≡◌, ℕ, zero, suc, ◌+◌, ◌-◌, ◌*◌, ◌<◌, List, [], ◌∷◌, ◌++◌, length, take, drop, All, sym, ◌∙◌, ap, arith, length-append}
use Rattle.std.specs.List.{flat_map}
use Rattle.std.proofs.lemmas.List.{append-nil, take_at, drop_at, drop-drop}
use Rattle.std.proofs.lemmas.List.Elements.{All-head, All-tail, All-push}
use Rattle.std.proofs.lemmas.Grind.{flat_map-append}
use Rattle.std.proofs.Math.Seq.{take-add}
use Rattle.pir_wire.specs.Pieces.{AreSpelled}

-- ---- one piece of `count` pieces of the same length

module _ (bytes : List ℕ) (k len count : ℕ) (within : k < count) (room : length bytes ≡ count * len) where
  -- as the program cuts it out
  pub piece_is : take (k * len + len - k * len) (drop (k * len) bytes) ≡ take len (drop (k * len) bytes)
  piece_is = ap (λ (n : ℕ). take n (drop (k * len) bytes)) (omega arith)

-- ---- things, each in a piece

module _ {A : Type 0} (Fits : A → Type 0) (spell : A → List ℕ) (len : ℕ) where
  -- ---- from the bytes to the things

  -- the next piece spells one more
  pub spelled_more : (k : ℕ) (bytes : List ℕ) (x : A) (xs out : List A) → AreSpelled Fits spell k (take (k * len) bytes) xs → Fits x
      → spell x ≡ take len (drop (k * len) bytes) → out ≡ xs ++ x ∷ [] → AreSpelled Fits spell (k + 1) (take ((k + 1) * len) bytes) out
  spelled_more k bytes x xs out before fits piece e =
      let longer : (k + 1) * len ≡ k * len + len = omega arith in
      let bytes_more : take ((k + 1) * len) bytes ≡ take (k * len) bytes ++ spell x =
      ap (λ (n : ℕ). take n bytes) longer ∙ take-add (k * len) len bytes ∙ ap (λ (t : List ℕ). take (k * len) bytes ++ t) (sym piece) in
      record {
        many = omega (arith, ap length e, length-append xs (x ∷ []), before.many);
        fit = rw e (All-push Fits xs x before.fit fits);
        spelled =
            ap (flat_map spell) e ∙ flat_map-append spell xs (x ∷ []) ∙ ap (λ (t : List ℕ). flat_map spell xs ++ t) (append-nil (spell x))
            ∙ ap (λ (t : List ℕ). t ++ spell x) before.spelled ∙ sym bytes_more;
      }

  -- ---- from the things to the bytes

  module _ (each : (x : A) → Fits x → length (spell x) ≡ len) where
    -- a piece that is that of no thing is in no bytes of things
    none_there : (xs : List A) (i : ℕ) → All Fits xs → i < length xs
        → ((x : A) → Fits x → spell x ≡ take len (drop (i * len) (flat_map spell xs)) → ⊥) → ⊥
    none_there [] i fit lt none = absurd (omega arith)
    none_there (x ∷ xs) zero fit lt none =
        let first : Fits x = All-head Fits x xs fit in
        let start : 0 * len ≡ 0 = omega arith in
        let piece : take len (drop (0 * len) (spell x ++ flat_map spell xs)) ≡ spell x =
        ap (λ (n : ℕ). take len (drop n (spell x ++ flat_map spell xs))) start ∙ take_at (spell x) (flat_map spell xs) len (each x first) in
        none x first (sym piece)
    none_there (x ∷ xs) (suc i) fit lt none =
        let first : Fits x = All-head Fits x xs fit in
        let start : suc i * len ≡ len + i * len = omega arith in
        let behind : drop (suc i * len) (spell x ++ flat_map spell xs) ≡ drop (i * len) (flat_map spell xs) =
        ap (λ (n : ℕ). drop n (spell x ++ flat_map spell xs)) start ∙ sym (drop-drop (i * len) len (spell x ++ flat_map spell xs))
        ∙ ap (drop (i * len)) (drop_at (spell x) (flat_map spell xs) len (each x first)) in
        none_there xs i (All-tail Fits x xs fit) (omega arith) (λ y fits e. none y fits (e ∙ ap (take len) (sym behind)))

    pub none_spelled : (count i : ℕ) (bytes : List ℕ) (xs : List A) → i < count
        → ((x : A) → Fits x → spell x ≡ take len (drop (i * len) bytes) → ⊥) → AreSpelled Fits spell count bytes xs → ⊥
    none_spelled count i bytes xs lt none is =
        none_there xs i is.fit (omega (arith, is.many))
        (λ x fits e. none x fits (e ∙ ap (λ (b : List ℕ). take len (drop (i * len) b)) is.spelled))
