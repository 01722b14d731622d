use Rattle.std.proofs.Common.{ℕ, ◌≡◌, ◌<◌, ◌∙◌, length, inl, refl, ap, arith}
use Rattle.pir_io.specs.Files.{content_of}
use Rattle.spiral_model.specs.Sets.{max_records}
use Rattle.spiral_model.specs.Counts.{words_needed}
use Rattle.tool_base.specs.Sources.{source_seen, source_name}
use Rattle.tool_base.specs.Texts.{index_range_line, words_short_line}
use Rattle.tool_base.proofs.Courses.{behind, found, held, denied, refused_as}
use Rattle.tool_files.specs.RandomWords.{words_given}
use Rattle.tool_files.proofs.words_given.words_for.Goals as goal

pub returns-then-from-bound : goal.returns-then-from-bound
returns-then-from-bound g c =
    denied (λ below. omega (arith, below, c.max_records-bound.ensures)) refl
    (refused_as _ _ _ _ _ _ (ap (index_range_line c.args.index) c.max_records-bound.ensures) (c.refuse_by_text.ensures _ c.index_range_text-text.ensures))

pub returns-in-Err-Failed : goal.returns-in-Err-Failed
returns-in-Err-Failed g c =
    let reads = rw c.in-Err-Failed.field-0-is at c.in-Err-Failed.ensures in
    let below : c.args.index < max_records c.args.set.now = omega arith in
    held below (behind c.read_words.ensures.only (inl (inl (reads.failed refl, (refl, c.refuse.ensures)))))

pub returns-then-len-needed : goal.returns-then-len-needed
returns-then-len-needed g c =
    let below : c.args.index < max_records c.args.set.now = omega arith in
    let held_is : c.len-then-len-needed.result ≡ length c.in-Ok.words.items = omega (arith, c.len-then-len-needed.ensures, c.in-Ok.words.ok) in
    let less : c.len-then-len-needed.result < c.words_needed-needed.result = omega (arith, c.len-then-len-needed.ensures, c.len.ensures, c.if-len-needed.true) in
    let line : words_short_line c.words_needed-needed.result c.len-then-len-needed.result ≡ words_short_line (words_needed c.args.set.now) (length c.in-Ok.words.items) =
    ap (λ n. words_short_line n c.len-then-len-needed.result) c.words_needed-needed.ensures ∙ ap (words_short_line (words_needed c.args.set.now)) held_is in
    held below (behind c.read_words.ensures.only (found c.in-Ok.words.items
    (λ told. c.in-Ok.ensures.given told ∙ ap (λ (n : ℕ). words_given (source_seen c.args.source) (content_of (g.F.Files.seen c.args.files.now) (source_name (source_seen c.args.source))) n) c.words_needed-needed.ensures)
    (denied (λ enough. omega (arith, enough, held_is, less, c.words_needed-needed.ensures)) refl (refused_as _ _ _ _ _ _ line (c.refuse_by_text-then-len-needed.ensures _ c.words_short_text-text.ensures)))))

pub returns : goal.returns
returns g c = (
  record {
    below = omega arith;
    only = c.read_words.ensures.only;
    given = λ told.
        c.in-Ok.ensures.given told
        ∙ ap (λ (n : ℕ). words_given (source_seen c.args.source) (content_of (g.F.Files.seen c.args.files.now) (source_name (source_seen c.args.source))) n) c.words_needed-needed.ensures;
    enough = omega (arith, c.len.ensures, c.in-Ok.words.ok, c.words_needed-needed.ensures);
  },
  refl,
)
