-- The words that a seed gives, two words of its stream after two others.
use Rattle.std.proofs.Common.{◌≡◌, ℕ, ◌+◌, ◌*◌, ◌^◌, ◌<◌, List, length, get_or, ◌∙◌, ap, arith}
use Rattle.std.proofs.lemmas.List.FromFn.{fill_by_all}
use Rattle.rand_chacha.specs.ChaCha.{ChaCha, word_at, key_of}
use Rattle.spiral_model.specs.Sampling.{seeded_word, seeded_words}

-- the stream of a seed, so many numbers on
abbrev pub stream_at : List ℕ → ℕ → ChaCha
stream_at seed i = record { key = key_of seed; stream = 0; word_pos = 2 * i }

-- the number that two words of the stream make
abbrev number_at : ChaCha → ℕ
number_at stream = word_at 10 stream.key stream.stream stream.word_pos + 2 ^ 32 * word_at 10 stream.key stream.stream (stream.word_pos + 1)

pub number_is : (seed : List ℕ) (i number : ℕ) (stream : ChaCha) → stream ≡ stream_at seed i → number ≡ number_at stream → number ≡ seeded_word seed i
unfolding seeded_word
number_is seed i number stream is read = read ∙ ap {A = ChaCha} (λ s. number_at s) is

-- the stream two words on
pub stream_more : (seed : List ℕ) (i : ℕ) (old new : ChaCha) → old ≡ stream_at seed i → new ≡ record old { word_pos = old.word_pos + 2 } → new ≡ stream_at seed (i + 1)
stream_more seed i old new is rest =
    let place : 2 * i + 2 ≡ 2 * (i + 1) = omega arith in
    rest
    ∙ ap {A = ChaCha} {B = ChaCha} (λ s. record s { word_pos = s.word_pos + 2 }) is
    ∙ ap {A = ℕ} {B = ChaCha} (λ p. record { key = key_of seed; stream = 0; word_pos = p }) place

pub words_all : (seed out : List ℕ) (count : ℕ) → length out ≡ count → ((k : ℕ) → k < count → get_or out k 0 ≡ seeded_word seed k) → out ≡ seeded_words seed count
unfolding seeded_words
words_all seed out count e places = fill_by_all (seeded_word seed) out count 0 e places
