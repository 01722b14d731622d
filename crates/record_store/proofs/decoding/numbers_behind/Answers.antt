use Rattle.std.proofs.Common.{◌≡◌, ◌≢◌, ℕ, ◌+◌, ◌-◌, ◌*◌, inl, inr, refl, Fits, w8, ◌∙◌, ap, sym, arith, get_or, Some}
use Rattle.spiral_model.specs.Sets.{capacity}
use Rattle.spiral_frames.specs.Checks.{number_at, header_len_in, body_len_in, body_len_place}
use Rattle.spiral_sets.proofs.SetBounds.{set_sizes}
use Rattle.record_store.proofs.Numbers.{ends_in_count, too_many, ends_in_length, wrong_length, is_ragged, all_right, no_length, some_length, product_fits, sum_fits}
use Rattle.record_store.proofs.decoding.numbers_behind.Goals as goal
use Rattle.record_store.proofs.decoding.numbers_behind.Goals.{then-length-eq0-via-then-length-eq0, then-length-eq0-via-else-length-eq0+then-length-capacity}

pub returns-then-bytes-start : goal.returns-then-bytes-start
returns-then-bytes-start c =
    ends_in_count c.args.bytes.now c.args.set (omega arith) ∙ ap Some (sym c.short.ensures)

pub returns-then-count-max_records : goal.returns-then-count-max_records
returns-then-count-max_records c =
    let count : c.number_at-count.result ≡ number_at c.args.bytes.now (header_len_in c.args.bytes.now) =
    c.number_at-count.ensures ∙ ap (number_at c.args.bytes.now) c.requires.start in
    rw (count, c.requires.start) (too_many c.args.bytes.now c.args.set (omega arith) (omega (arith, c.max_records.ensures)))

pub returns-then-bytes-start-2 : goal.returns-then-bytes-start-2
returns-then-bytes-start-2 c =
    let count : c.number_at-count.result ≡ number_at c.args.bytes.now (header_len_in c.args.bytes.now) =
    c.number_at-count.ensures ∙ ap (number_at c.args.bytes.now) c.requires.start in
    ends_in_length c.args.bytes.now c.args.set (omega arith) (omega (arith, c.max_records.ensures)) (omega arith)
    ∙ ap Some (sym c.short-then-bytes-start-2.ensures)

pub returns-then-length-eq0 : goal.returns-then-length-eq0
returns-then-length-eq0 c =
    let bytes = c.args.bytes.now in
    let count : c.number_at-count.result ≡ number_at bytes (header_len_in bytes) =
    c.number_at-count.ensures ∙ ap (number_at bytes) c.requires.start in
    let len : c.number_at-length.result ≡ number_at bytes (header_len_in bytes + 8) =
    c.number_at-length.ensures ∙ ap (λ (k : ℕ). number_at bytes (k + 8)) c.requires.start in
    let refused = wrong_length bytes c.args.set (omega arith) (omega (arith, c.max_records.ensures)) (omega arith) in
    elim c.then-length-eq0.branch [
      | then-length-eq0-via-then-length-eq0 w ↦
          rw (len, c.requires.start)
          (refused (no_length (number_at bytes (header_len_in bytes + 8)) (capacity c.args.set) (inl (sym len ∙ w.if-length-eq0.true))))
      | then-length-eq0-via-else-length-eq0+then-length-capacity w ↦
          rw (len, c.requires.start)
          (refused (no_length (number_at bytes (header_len_in bytes + 8)) (capacity c.args.set)
          (inr (omega (arith, len, w.capacity.ensures, w.if-length-capacity.true)))))
    ]

pub overflow_mul-count : goal.overflow_mul-count
overflow_mul-count c =
    let sizes = set_sizes c.args.set c.requires.known in
    product_fits c.number_at-count.result c.number_at-length.result (omega (arith, c.max_records.ensures)) (omega (arith, c.capacity.ensures))

pub overflow_add-count : goal.overflow_add-count
overflow_add-count c =
    let sizes = set_sizes c.args.set c.requires.known in
    sum_fits c.number_at-count.result c.number_at-length.result (omega (arith, c.max_records.ensures)) (omega (arith, c.capacity.ensures))

pub returns-then-body-count : goal.returns-then-body-count
returns-then-body-count c =
    let bytes = c.args.bytes.now in
    let count : c.number_at-count.result ≡ number_at bytes (header_len_in bytes) =
    c.number_at-count.ensures ∙ ap (number_at bytes) c.requires.start in
    let len : c.number_at-length.result ≡ number_at bytes (header_len_in bytes + 8) =
    c.number_at-length.ensures ∙ ap (λ (k : ℕ). number_at bytes (k + 8)) c.requires.start in
    let place : c.args.start - 8 ≡ body_len_place bytes = omega arith in
    let right = some_length (number_at bytes (header_len_in bytes + 8)) (capacity c.args.set) (omega arith) (omega (arith, c.capacity.ensures)) in
    let other : c.args.body ≢ 16 + c.number_at-count.result * c.number_at-length.result = omega (arith, c.if-body-count.true) in
    rw (place, c.requires.body)
    (is_ragged bytes c.args.set (omega arith) (omega (arith, c.max_records.ensures)) (omega arith) right
    (λ e. other (c.requires.body ∙ e ∙ rw (count, len) refl)))

pub overflow_cast-result : goal.overflow_cast-result
overflow_cast-result c = let sizes = set_sizes c.args.set c.requires.known in omega (arith, c.max_records.ensures)

pub returns : goal.returns
returns c =
    let bytes = c.args.bytes.now in
    let count : c.number_at-count.result ≡ number_at bytes (header_len_in bytes) =
    c.number_at-count.ensures ∙ ap (number_at bytes) c.requires.start in
    let len : c.number_at-length.result ≡ number_at bytes (header_len_in bytes + 8) =
    c.number_at-length.ensures ∙ ap (λ (k : ℕ). number_at bytes (k + 8)) c.requires.start in
    let right = some_length (number_at bytes (header_len_in bytes + 8)) (capacity c.args.set) (omega arith) (omega (arith, c.capacity.ensures)) in
    let byte : Fits w8 (get_or bytes 6 0) = c.type_inv.bytes 6 in
    let body : body_len_in bytes ≡ 16 + c.number_at-count.result * c.number_at-length.result = sym c.requires.body ∙ c.if-body-count.false in (
      all_right bytes c.args.set (omega arith) (omega (arith, c.max_records.ensures)) (omega arith) right (body ∙ rw (count, len) refl),
      record {
        known = c.requires.known;
        named = c.requires.named;
        start = ap (λ (k : ℕ). k + 16) c.requires.start;
        near = omega arith;
        count = count;
        record_length = len;
        body = body;
        most = omega (arith, c.max_records.ensures);
        some_length = omega arith;
        fits = omega (arith, c.capacity.ensures);
      },
    )
