-- What holds of each row of the table holds of every set; and the table's numbers that are sums over ciphertexts.
use Rattle.std.proofs.Common.{◌≡◌, refl, slice_index_or}
use Rattle.std.specs.List.{AllByRecursion}
use Rattle.std.proofs.lemmas.List.Elements.{All-contains, All-from_recursion}
use Rattle.spiral_sets.specs.declared.param_set.ParamSet.{ParamSet}
use Rattle.spiral_sets.specs.declared.sets.Counts.{Counts}
use Rattle.spiral_sets.specs.declared.sets.TheConstants.{SETS, COUNTS}
use Rattle.spiral_sets.specs.Sets.{IsSet}
use Rattle.spiral_sets.specs.Counts.{words_needed, setup_len}

pub each_set : (P : ParamSet → Type 0) → AllByRecursion P SETS → (set : ParamSet) → IsSet set → P set
each_set P all set is = All-contains P SETS set (All-from_recursion P SETS all) is

pub setup_len_at : (set : ParamSet) → IsSet set → (d : Counts) → (slice_index_or COUNTS set.id d).setup_len ≡ setup_len set
setup_len_at =
    each_set (λ set. (d : Counts) → (slice_index_or COUNTS set.id d).setup_len ≡ setup_len set)
    (λ _. refl, (λ _. refl, (λ _. refl, (λ _. refl, (λ _. refl, (λ _. refl, (λ _. refl, (λ _. refl, (λ _. refl, (λ _. refl, tt))))))))))

pub words_needed_at : (set : ParamSet) → IsSet set → (d : Counts) → (slice_index_or COUNTS set.id d).words_needed ≡ words_needed set
words_needed_at =
    each_set (λ set. (d : Counts) → (slice_index_or COUNTS set.id d).words_needed ≡ words_needed set)
    (λ _. refl, (λ _. refl, (λ _. refl, (λ _. refl, (λ _. refl, (λ _. refl, (λ _. refl, (λ _. refl, (λ _. refl, (λ _. refl, tt))))))))))
