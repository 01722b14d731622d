use Rattle.std.proofs.Common.{◌≡◌, ◌<◌, ◌^◌, ◌∙◌, Ok, length, ap, sym, arith}
use Rattle.tool_base.specs.Sources.{source_seen, words_in, seed_in}
use Rattle.tool_files.proofs.SourceWords.{words_read, written_front, seed_front}
use Rattle.tool_files.proofs.random_words.read_words.Goals.{in-Words+in_ok-bytes-in-Words, in-Seed+in_ok-bytes-in-Seed}
use Rattle.tool_files.proofs.random_words.read_words.Goals as goal

pub returns-in-Ok : goal.returns-in-Ok
returns-in-Ok g c =
    elim c.match-source.branch [
      | in-Words+in_ok-bytes-in-Words w ↦
          let ok : w.written_words-words.result ≡ Ok c.in-Ok.words = sym w.words-is ∙ c.in-Ok.is in
          let items = rw ok at w.written_words-words.ensures in
          let small : length w.deref.result.now < 2 ^ 63 = omega (arith, w.deref.ensures.len, w.in_ok-bytes-in-Words.bytes.ok, w.in_ok-bytes-in-Words.bytes.small) in
          words_read _ _ _ _ (words_in w.in-Words.name.now) c.args.needed _ _ _ _ c.in-Ok.words (ap g.F.Files.seen w.files-is) (ap source_seen w.in-Words.is) w.in_ok-bytes-in-Words.ensures
          (λ content front. items ∙ written_front w.in-Words.name.now content w.deref.result.now c.args.needed w.saturating_mul.result w.saturating_mul.ensures small (w.deref.ensures.value ∙ front))
      | in-Seed+in_ok-bytes-in-Seed w ↦
          let ok : w.words_of_seed-words.result ≡ Ok c.in-Ok.words = sym w.words-is ∙ c.in-Ok.is in
          let items = rw ok at w.words_of_seed-words.ensures in
          words_read _ _ _ _ (seed_in w.in-Seed.name.now) c.args.needed _ _ _ _ c.in-Ok.words (ap g.F.Files.seen w.files-is) (ap source_seen w.in-Seed.is) w.in_ok-bytes-in-Seed.ensures
          (λ content front. items ∙ seed_front w.in-Seed.name.now content w.deref-in-Seed.result.now c.args.needed (w.deref-in-Seed.ensures.value ∙ front))
    ]
