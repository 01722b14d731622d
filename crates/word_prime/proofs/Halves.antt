-- What stands for a function modulo a product of factors has halves that stand for it modulo each factor.
use Rattle.std.proofs.Common.{◌≡◌, ℕ, ◌*◌, ◌%◌, ◌<◌, ℤ, pos, ◌+ℤ◌, ◌*ℤ◌, List, length, get_or, All, sym, ◌∙◌, ap, arith, mod-lt}
use Rattle.std.proofs.lemmas.List.{length-map, get_or-map}
use Rattle.std.proofs.lemmas.List.Elements.{All-map}
use Rattle.negacyclic.specs.Residues.{residue}
use Rattle.negacyclic.specs.Ring.{at}
use Rattle.negacyclic.proofs.Integers.{mul-assoc_ℤ}
use Rattle.negacyclic.proofs.Congruence.{Congruent, congruent_equal, congruent_trans}
use Rattle.negacyclic.proofs.Residues.{residue_congruent}
use Rattle.negacyclic.proofs.Stands.{Follows, Stands}
use Rattle.word_prime.specs.Halves.{half}

-- numbers that are congruent modulo p r are congruent modulo p
pub congruent_factor : {p : ℕ} {x y : ℤ} (r m : ℕ) → m ≡ r * p → Congruent m x y → Congruent p x y
congruent_factor {p} {x} {y} r m e near =
    record {
      times = near.times *ℤ pos r;
      differ = near.differ ∙ ap (λ (n : ℕ). y +ℤ near.times *ℤ pos n) e ∙ ap (λ (z : ℤ). y +ℤ z) (sym (mul-assoc_ℤ near.times (pos r) (pos p)));
    }

-- ---- halves

-- how many numbers there are
pub length-half : (p : ℕ) (a : List ℕ) → length (half p a) ≡ length a
unfolding half
length-half p a = length-map a (λ x. x % p)

-- they are residues
pub half-below : (p : ℕ) (a : List ℕ) → 0 < p → All (λ x. x < p) (half p a)
unfolding half
half-below p a some = All-map (λ x. x < p) (λ x. x % p) a (λ k d h. mod-lt (get_or a k d) some)

pub half-at : (p k : ℕ) (a : List ℕ) → k < length a → get_or (half p a) k 0 ≡ get_or a k 0 % p
unfolding half
half-at p k a h = get_or-map (λ x. x % p) a k 0 0 h

-- congruent to the numbers
half_congruent : (p k : ℕ) (a : List ℕ) → 0 < p → k < length a → Congruent p (at (half p a) k) (at a k)
unfolding at residue
half_congruent p k a some h = congruent_trans (congruent_equal (ap pos (half-at p k a h))) (residue_congruent p (pos (get_or a k 0)) some)

-- The half of what follows f modulo p r follows f modulo p,
pub follows_half : {p m N : ℕ} {a : List ℕ} {f : ℕ → ℤ} (r : ℕ) → 0 < p → m ≡ r * p → length a ≡ N → Follows m N a f → Follows p N (half p a) f
follows_half {p} {m} {N} {a} r some e size s =
    record { place = λ k h. congruent_trans (half_congruent p k a some (omega arith)) (congruent_factor r m e (s.place k h)) }

-- and what stands for f has a half that does.
pub stands_half : {p m N : ℕ} {a : List ℕ} {f : ℕ → ℤ} (r : ℕ) → 0 < p → m ≡ r * p → Stands m N a f → Stands p N (half p a) f
stands_half {p} {m} {N} {a} r some e s =
    record {
      some = some;
      size = length-half p a ∙ s.size;
      below = half-below p a some;
      follows = follows_half r some e s.size s.follows;
    }
