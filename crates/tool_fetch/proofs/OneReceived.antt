-- How the input of a link that has to be one frame is read in pieces, and what comes of it.
use Rattle.std.proofs.Common.{ℕ, Bool, true, false, ◌||◌, ◌&&◌, ◌==◌, nat_lt, List, [], ◌++◌, ◌+◌, ◌<◌, ◌≤◌, ◌≡◌, ◌≢◌, ◌∙◌, ◌^◌, IsTrue, length, take, Some, Result, Ok, Err, refl, ap, sym, subst, arith, append-nil, lit<, length-append}
use Rattle.std.proofs.lemmas.Bool.{lt-ltb, ne_eqb}
use Rattle.std.proofs.lemmas.List.{length-take-le}
use Rattle.pir_io.specs.declared.fault.IoFault.{IoFault}
use Rattle.pir_io.specs.declared.fault.IoFault.TheVariants as io
use Rattle.pir_io.specs.Link.{LinkSeen, ReadsLink}
use Rattle.pir_io.proofs.Kept.{rose_before}
use Rattle.frame_headers.specs.declared.frame_error.FrameError.{FrameError}
use Rattle.spiral_frames.specs.FrameChecks.{one_refusal}
use Rattle.pir_wire.specs.declared.message.Message.{Message}
use Rattle.pir_wire.specs.OneFrames.{OneRead}
use Rattle.tool_files.specs.Reading.{SpellsOneOf}
use Rattle.tool_fetch.specs.declared.exchange.LinkError.{LinkError}
use Rattle.tool_fetch.specs.declared.exchange.LinkError.TheVariants.{Fault, Frame, NoMemory}
use Rattle.tool_fetch.specs.Exchanging.{Unread, Receives}
use Rattle.tool_fetch.proofs.EndsShort.{whatever_not_short}
use Rattle.tool_fetch.proofs.SentFrames.{still_tells}

or_true : (b : Bool) → (b || true) ≡ true
or_true true = refl
or_true false = refl

or_false : (b : Bool) → (b || false) ≡ b
or_false true = refl
or_false false = refl

-- These bytes have come on a link that was fresh, and they may still be one frame.
pub record HasCome (old now : LinkSeen) (kinds : ℕ) (r : OneRead) : Type 0 where
  pub tells : now.tells ≡ old.tells
  pub is_open : IsTrue now.is_open
  pub later : old.faults ≤ now.faults
  pub kinds_are : r.kinds ≡ kinds
  pub took : IsTrue old.tells → now.took ≡ r.bytes
  pub goes_on : IsTrue old.tells → now.ended ≡ false
  pub others : IsTrue old.tells → (now.wrote ≡ old.wrote) × (now.closed ≡ old.closed) × (now.log ≡ old.log)

few_bytes : (bytes : List ℕ) (n : ℕ) → length bytes < 2 ^ 24 + n → n ≤ 2 ^ 16 → length bytes < 2 ^ 24 + 2 ^ 16
few_bytes bytes n below most = omega (arith, below, most)

-- nothing has come yet
pub none_yet : (old : LinkSeen) (kinds : ℕ) (r : OneRead) → IsTrue old.is_open → Unread old → r ≡ record { kinds = kinds; bytes = [] } → HasCome old old kinds r
none_yet old kinds r is_open unread is =
    let none : r.bytes ≡ [] = ap (λ (o : OneRead). o.bytes) is in
    record {
      tells = refl;
      is_open = is_open;
      later = omega arith;
      kinds_are = ap (λ (o : OneRead). o.kinds) is;
      took = λ told. (unread told).0 ∙ sym none;
      goes_on = λ told. (unread told).1;
      others = λ told. (refl, refl, refl);
    }

-- memory was wanting before anything was read
pub not_begun : {T : Type 0} (kinds : ℕ) (Is : List ℕ → T → Type 0) (old : LinkSeen) → Unread old → Receives kinds Is old old (Err NoMemory)
not_begun kinds Is old unread = record {
  tells = refl;
  few = λ told.
      let zero_is : length old.took ≡ 0 = ap length (unread told).0 in
      let large : 0 < 2 ^ 24 + 2 ^ 16 = lit< tt in
      omega (arith, zero_is, large);
  others = λ told. (refl, refl, refl);
  came = tt;
}

module _ (old mid now : LinkSeen) (kinds : ℕ) (r : OneRead) (come : HasCome old mid kinds r) (short : length r.bytes < 2 ^ 24)
    (before into : List ℕ) where
  tells_mid : IsTrue old.tells → IsTrue mid.tells
  tells_mid told = still_tells old mid come.tells told

  others_then : (result : Result ℕ IoFault) → ReadsLink mid now before into result → IsTrue old.tells
      → (now.wrote ≡ old.wrote) × (now.closed ≡ old.closed) × (now.log ≡ old.log)
  others_then result reads told =
      let one = come.others told in
      let two = reads.others (tells_mid told) in
      (two.0 ∙ one.0, two.1 ∙ one.1, two.2 ∙ one.2)

  -- where a read failed, only what had come was taken
  few_then : (fault : IoFault) → ReadsLink mid now before into (Err fault) → IsTrue old.tells → length now.took < 2 ^ 24 + 2 ^ 16
  few_then fault reads told =
      let same : length now.took ≡ length r.bytes = ap length ((reads.err (tells_mid told)).0 ∙ come.took told) in
      let large : 0 < 2 ^ 16 = lit< tt in
      omega (arith, same, short, large)

  pub read_failed : {T : Type 0} (Is : List ℕ → T → Type 0) → ReadsLink mid now before into (Err io.Failed) → Receives kinds Is old now (Err Fault)
  read_failed Is reads = record {
    tells = reads.tells ∙ come.tells;
    few = few_then io.Failed reads;
    others = others_then (Err io.Failed) reads;
    came = (rose_before old.faults mid.faults now.faults come.later (reads.cause.failed refl), λ told. (reads.err (tells_mid told)).1 ∙ come.goes_on told);
  }

  pub read_wanting : {T : Type 0} (Is : List ℕ → T → Type 0) → ReadsLink mid now before into (Err io.NoMemory) → Receives kinds Is old now (Err NoMemory)
  read_wanting Is reads = record { tells = reads.tells ∙ come.tells; few = few_then io.NoMemory reads; others = others_then (Err io.NoMemory) reads; came = tt }

  -- ---- the input has ended

  module _ (n : ℕ) (none_read : ReadsLink mid now before into (Ok n)) (none : n ≡ 0) (room : 0 < length into) where
    reads : ReadsLink mid now before into (Ok 0)
    reads = subst (λ (k : ℕ). ReadsLink mid now before into (Ok k)) none none_read

    took_all : IsTrue old.tells → now.took ≡ r.bytes
    took_all told = reads.took (tells_mid told) ∙ append-nil mid.took ∙ come.took told

    has_ended : IsTrue old.tells → IsTrue now.ended
    has_ended told =
        reads.ended (tells_mid told) ∙ ap (λ (b : Bool). mid.ended || (0 == 0 && b)) (lt-ltb 0 (length into) room) ∙ or_true mid.ended

    few_at_end : IsTrue old.tells → length now.took < 2 ^ 24 + 2 ^ 16
    few_at_end told =
        let same : length now.took ≡ length r.bytes = ap length (took_all told) in
        let large : 0 < 2 ^ 16 = lit< tt in
        omega (arith, same, short, large)

    pub whole_here : (m : Message) → SpellsOneOf r.kinds r.bytes m → Receives kinds (SpellsOneOf kinds) old now (Ok m)
    whole_here m is = record {
      tells = reads.tells ∙ come.tells;
      few = few_at_end;
      others = others_then (Ok 0) reads;
      came = λ told. (
        has_ended told,
        subst (λ (l : List ℕ). SpellsOneOf kinds l m) (sym (took_all told)) (subst (λ (k : ℕ). SpellsOneOf k r.bytes m) come.kinds_are is),
      );
    }

    pub refused_at_end : (error : FrameError) → one_refusal r.kinds r.bytes ≡ Some error → Receives kinds (SpellsOneOf kinds) old now (Err (Frame error))
    refused_at_end error refusal = record {
      tells = reads.tells ∙ come.tells;
      few = few_at_end;
      others = others_then (Ok 0) reads;
      came = λ told. (
        subst (λ (l : List ℕ). one_refusal kinds l ≡ Some error) (sym (took_all told)) (subst (λ (k : ℕ). one_refusal k r.bytes ≡ Some error) come.kinds_are refusal),
        λ is_short. has_ended told,
      );
    }

  -- ---- bytes came

  module _ (n : ℕ) (reads : ReadsLink mid now before into (Ok n)) (most : length into ≡ 65536) (piece : List ℕ) (is : piece ≡ take n into) where
    took_more : IsTrue old.tells → now.took ≡ r.bytes ++ piece
    took_more told = reads.took (tells_mid told) ∙ ap (λ (l : List ℕ). l ++ take n into) (come.took told) ∙ ap (λ (l : List ℕ). r.bytes ++ l) (sym is)

    length_more : length (r.bytes ++ piece) ≡ length r.bytes + n
    length_more = length-append r.bytes piece ∙ ap (λ (k : ℕ). length r.bytes + k) (ap length is ∙ length-take-le n into reads.count)

    few_more : IsTrue old.tells → length now.took < 2 ^ 24 + 2 ^ 16
    few_more told =
        let size : length now.took ≡ length r.bytes + n = ap length (took_more told) ∙ length_more in
        omega (arith, size, short, reads.count, most)

    pub come_further : n ≢ 0 → (next : OneRead) → next ≡ record r { bytes = r.bytes ++ piece } → HasCome old now kinds next
    come_further some next next_is = record {
      tells = reads.tells ∙ come.tells;
      is_open = reads.is_open;
      later = omega (arith, come.later, reads.cause.later);
      kinds_are = ap (λ (o : OneRead). o.kinds) next_is ∙ come.kinds_are;
      took = λ told. took_more told ∙ sym (ap (λ (o : OneRead). o.bytes) next_is);
      goes_on = λ told.
          reads.ended (tells_mid told) ∙ ap (λ (b : Bool). mid.ended || (b && nat_lt 0 (length into))) (ne_eqb n 0 some) ∙ or_false mid.ended ∙ come.goes_on told;
      others = others_then (Ok n) reads;
    }

    -- what was refused is refused whatever follows: it isn't Short
    pub refused_here : {T : Type 0} (Is : List ℕ → T → Type 0) (error : FrameError) → ((rest : List ℕ) → one_refusal r.kinds ((r.bytes ++ piece) ++ rest) ≡ Some error)
        → Receives kinds Is old now (Err (Frame error))
    refused_here Is error refusal = record {
      tells = reads.tells ∙ come.tells;
      few = few_more;
      others = others_then (Ok n) reads;
      came = λ told. (
        ap (one_refusal kinds) (took_more told ∙ sym (append-nil (r.bytes ++ piece)))
            ∙ subst (λ (k : ℕ). one_refusal k ((r.bytes ++ piece) ++ []) ≡ Some error) come.kinds_are (refusal []),
        λ is_short. absurd (whatever_not_short r.kinds (r.bytes ++ piece) error refusal is_short),
      );
    }

    -- feeding it met want of memory
    pub feed_wanting : {T : Type 0} (Is : List ℕ → T → Type 0) → Receives kinds Is old now (Err NoMemory)
    feed_wanting Is = record { tells = reads.tells ∙ come.tells; few = few_more; others = others_then (Ok n) reads; came = tt }

-- the loop ended: memory was said to be wanting, which it isn't
pub not_whole : {T : Type 0} (old now : LinkSeen) (kinds : ℕ) (Is : List ℕ → T → Type 0) (r : OneRead) → HasCome old now kinds r → length r.bytes < 2 ^ 24
    → Receives kinds Is old now (Err NoMemory)
not_whole old now kinds Is r come short = record {
  tells = come.tells;
  few = λ told.
      let same : length now.took ≡ length r.bytes = ap length (come.took told) in
      let large : 0 < 2 ^ 16 = lit< tt in
      omega (arith, same, short, large);
  others = come.others;
  came = tt;
}

-- ---- one frame of some kinds, received as what is wanted of it

module _ {T : Type 0} (kinds : ℕ) (Is : List ℕ → T → Type 0) (old new : LinkSeen) where
  pub kind_received : (m : Message) (x : T) → ((bytes : List ℕ) → SpellsOneOf kinds bytes m → Is bytes x)
      → Receives kinds (SpellsOneOf kinds) old new (Ok m) → Receives kinds Is old new (Ok x)
  kind_received m x is reads = record {
    tells = reads.tells;
    few = reads.few;
    others = reads.others;
    came = λ told. let both = reads.came told in (both.0, is new.took both.1);
  }

  pub kind_refused : (error : LinkError) → Receives kinds (SpellsOneOf kinds) old new (Err error) → Receives kinds Is old new (Err error)
  kind_refused Fault reads = record { tells = reads.tells; few = reads.few; others = reads.others; came = reads.came }
  kind_refused (Frame error) reads = record { tells = reads.tells; few = reads.few; others = reads.others; came = reads.came }
  kind_refused NoMemory reads = record { tells = reads.tells; few = reads.few; others = reads.others; came = tt }

  pub kind_unknown : {U : Type 0} {Other : List ℕ → U → Type 0} (r : Result U LinkError) → Receives kinds Other old new r → Receives kinds Is old new (Err NoMemory)
  kind_unknown r reads = record { tells = reads.tells; few = reads.few; others = reads.others; came = tt }
