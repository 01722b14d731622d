-- A command that deals from random words goes on from what it was given, or has ended.
use Rattle.std.proofs.Common.{ℕ, List, ◌≡◌, inl, inr, sym, subst}
use Rattle.pir_io.specs.Files.{FilesSeen}
use Rattle.pir_io.specs.Sink.{SinkSeen}
use Rattle.spiral_sets.specs.declared.param_set.ParamSet.{ParamSet}
use Rattle.tool_base.specs.declared.status.Status.{Status}
use Rattle.tool_base.specs.Sources.{WordSource}
use Rattle.tool_base.specs.Steps.{Scene, Steps, scene, never}
use Rattle.tool_base.proofs.Courses.{behind, found, held}
use Rattle.tool_files.specs.WithWords.{with_words, HasWords}

module _ (set_name : List ℕ) (index : ℕ) (source : WordSource) (rest : ParamSet → List ℕ → Steps) where
  -- with a set and words it goes on, the sink being as it was
  pub with_given : (old now new : FilesSeen) (so mid sn : SinkSeen) (set : ParamSet) (words : List ℕ) (status : Status) → HasWords set_name index source old now set words
      → mid ≡ so → rest set words (scene now new mid sn) status → with_words set_name index source rest (scene old new so sn) status
  with_given old now new so mid sn set words status has same ends =
      found set has.names (held has.has.below (behind has.has.only (found words has.has.given (held has.has.enough (subst (λ (sink : SinkSeen). rest set words (scene now new sink sn) status) same ends)))))

  -- where it ended before that, it ended so whatever it would have gone on with
  pub without_words : (s : Scene) (status : Status) → with_words set_name index source (λ _ _. never) s status → with_words set_name index source rest s status
  without_words s status (inl refused) = inl refused
  without_words s status (inr (set, names, inl refused)) = inr (set, names, inl refused)
  without_words s status (inr (set, names, inr (below, (now, only, inl unread)))) = inr (set, names, inr (below, (now, only, inl unread)))
  without_words s status (inr (set, names, inr (below, (now, only, inr (words, given, inl refused))))) =
      inr (set, names, inr (below, (now, only, inr (words, given, inl refused))))
  without_words s status (inr (set, names, inr (below, (now, only, inr (words, given, inr (_, ends)))))) = absurd ends

-- the words that were given, by another name
pub named_words : (set_name : List ℕ) (index : ℕ) (source : WordSource) (old now : FilesSeen) (set : ParamSet) (words same : List ℕ) → same ≡ words
    → HasWords set_name index source old now set words → HasWords set_name index source old now set same
named_words set_name index source old now set words same is has = subst (λ (ws : List ℕ). HasWords set_name index source old now set ws) (sym is) has
