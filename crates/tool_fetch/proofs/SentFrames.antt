-- What is sent: two pieces of bytes one behind the other, all of them or a prefix where a call fails.
use Rattle.std.proofs.Common.{ℕ, suc, Bool, false, if◌then◌else◌, List, [], ◌∷◌, ◌++◌, ◌+◌, ◌<◌, ◌≡◌, ◌∙◌, ◌^◌, IsTrue, length, take, ◌-◌, Some, Result, Ok, Err, OnOk, OnErr, inl, inr, refl, ap, sym, subst, arith, append-nil, append_assoc, lit<}
use Rattle.std.proofs.lemmas.Bool.{cases_lt, false≢true}
use Rattle.std.proofs.lemmas.List.{take_all, take-append-le}
use Rattle.pir_io.specs.declared.fault.IoFault.{IoFault}
use Rattle.pir_io.specs.declared.fault.IoFault.TheVariants.{Failed, NoMemory}
use Rattle.pir_io.specs.Link.{LinkSeen, NetLog, Session, connecting, WritesLink, EndsLink}
use Rattle.pir_io.specs.Net.{net_log_in, log_of, log_after, start_of, at_hand, Begins}
use Rattle.pir_io.proofs.Kept.{rose_before}
use Rattle.tool_fetch.specs.Fetch.{HasSent}
use Rattle.tool_fetch.specs.Exchanging.{WritesAndEnds, Sends}

-- ---- prefixes of two pieces

-- the first piece and a prefix of the second are a prefix of both
behind_first : (a b : List ℕ) (k : ℕ) → a ++ take k b ≡ take (length a + k) (a ++ b)
behind_first [] b k = let on : 0 + k ≡ k = omega arith in ap (λ (n : ℕ). take n b) (sym on)
behind_first (x ∷ a) b k =
    let on : length (x ∷ a) + k ≡ suc (length a + k) = omega arith in
    ap (λ (l : List ℕ). x ∷ l) (behind_first a b k) ∙ ap (λ (n : ℕ). take n (x ∷ a ++ b)) (sym on)

-- the first piece is one
all_of_first : (a b : List ℕ) → a ≡ take (length a) (a ++ b)
all_of_first a b = sym (take_all (length a) a (omega arith)) ∙ sym (take-append-le (length a) a b (omega arith))

-- a prefix of the first piece is one
part_of_first : (a b : List ℕ) (k : ℕ) → (j : ℕ) × (take k a ≡ take j (a ++ b))
part_of_first a b k =
    elim (cases_lt (length a) k) [
      | inl past ↦ (length a, take_all k a (omega (arith, past)) ∙ all_of_first a b)
      | inr within ↦ (k, sym (take-append-le k a b within))
    ]

-- ---- calls of an open link, one after another

-- nothing was called, as there were no bytes
pub none_written : (old : LinkSeen) (bytes : List ℕ) → IsTrue old.is_open → bytes ≡ [] → WritesLink old old bytes (Ok tt)
none_written old bytes is_open none = record {
  tells = refl;
  is_open = is_open;
  cause = record { later = omega arith; failed = λ e. absurd (cc); no_memory = λ e. refl };
  ok = λ told. sym (append-nil old.wrote) ∙ ap (λ (b : List ℕ). old.wrote ++ b) (sym none);
  failed = λ told e. absurd (cc);
  no_memory = λ told e. refl;
  others = λ told. (refl, refl, refl, refl);
}

-- a link still tells
pub still_tells : (old new : LinkSeen) → new.tells ≡ old.tells → IsTrue old.tells → IsTrue new.tells
still_tells old new same told = subst IsTrue (sym same) told

-- a write that failed wrote a prefix
part_written : (old new : LinkSeen) (bytes : List ℕ) (fault : IoFault) → WritesLink old new bytes (Err fault) → IsTrue old.tells
    → (k : ℕ) × (new.wrote ≡ old.wrote ++ take k bytes)
part_written old new bytes Failed writes told = writes.failed told refl
part_written old new bytes NoMemory writes told = (0, writes.no_memory told refl ∙ sym (append-nil old.wrote))

module _ (old a : LinkSeen) (first second : List ℕ) where
  -- the first piece failed
  pub first_failed : (fault : IoFault) → WritesLink old a first (Err fault) → WritesAndEnds old a (first ++ second) (Err fault)
  first_failed fault writes = record {
    tells = writes.tells;
    is_open = writes.is_open;
    later = writes.cause.later;
    failed = λ e. writes.cause.failed (cc);
    ok = λ told. tt;
    err = λ told.
        let part = part_written old a first fault writes told in
        let of_both = part_of_first first second part.0 in
        (of_both.0, part.1 ∙ ap (λ (l : List ℕ). old.wrote ++ l) of_both.1);
    others = λ told. let same = writes.others told in (same.0, same.1, same.3);
  }

  module _ (wrote : WritesLink old a first (Ok tt)) (b : LinkSeen) where
    -- the second failed
    pub second_failed : (fault : IoFault) → WritesLink a b second (Err fault) → WritesAndEnds old b (first ++ second) (Err fault)
    second_failed fault writes = record {
      tells = writes.tells ∙ wrote.tells;
      is_open = writes.is_open;
      later = omega (arith, wrote.cause.later, writes.cause.later);
      failed = λ e. rose_before old.faults a.faults b.faults wrote.cause.later (writes.cause.failed (cc));
      ok = λ told. tt;
      err = λ told.
          let part = part_written a b second fault writes (still_tells old a wrote.tells told) in (
            length first + part.0,
            part.1 ∙ ap (λ (l : List ℕ). l ++ take part.0 second) (wrote.ok told) ∙ append_assoc old.wrote first (take part.0 second)
                ∙ ap (λ (l : List ℕ). old.wrote ++ l) (behind_first first second part.0),
          );
      others = λ told.
          let one = wrote.others told in
          let two = writes.others (still_tells old a wrote.tells told) in
          (two.0 ∙ one.0, two.1 ∙ one.1, two.3 ∙ one.3);
    }

    module _ (wrote_too : WritesLink a b second (Ok tt)) (new : LinkSeen) where
      both_written : IsTrue old.tells → b.wrote ≡ old.wrote ++ (first ++ second)
      both_written told =
          wrote_too.ok (still_tells old a wrote.tells told) ∙ ap (λ (l : List ℕ). l ++ second) (wrote.ok told) ∙ append_assoc old.wrote first second

      -- both were written, and the side was to be closed
      pub then_ended : (result : Result (Unit {0}) IoFault) → EndsLink b new result → WritesAndEnds old new (first ++ second) result
      then_ended result ends = record {
        tells = ends.tells ∙ wrote_too.tells ∙ wrote.tells;
        is_open = ends.is_open;
        later = omega (arith, wrote.cause.later, wrote_too.cause.later, ends.cause.later);
        failed = λ e. rose_before old.faults b.faults new.faults (omega (arith, wrote.cause.later, wrote_too.cause.later)) (ends.cause.failed e);
        ok = λ told. ended_well result ends told;
        err = λ told. ended_badly result ends told;
        others = λ told.
            let one = wrote.others told in
            let two = wrote_too.others (still_tells old a wrote.tells told) in
            let three = ends.others (tells_last told) in
            (three.0 ∙ two.0 ∙ one.0, three.2 ∙ two.1 ∙ one.1, three.3 ∙ two.3 ∙ one.3);
      } where
        tells_last : IsTrue old.tells → IsTrue b.tells
        tells_last told = still_tells a b wrote_too.tells (still_tells old a wrote.tells told)

        all_written : (result : Result (Unit {0}) IoFault) → EndsLink b new result → IsTrue old.tells → new.wrote ≡ old.wrote ++ (first ++ second)
        all_written result ends told = (ends.others (tells_last told)).1 ∙ both_written told

        ended_well : (result : Result (Unit {0}) IoFault) → EndsLink b new result → IsTrue old.tells
            → OnOk result ((new.wrote ≡ old.wrote ++ (first ++ second)) × IsTrue new.closed)
        ended_well (Ok _) ends told = (all_written (Ok tt) ends told, ends.ok (tells_last told))
        ended_well (Err fault) ends told = tt

        ended_badly : (result : Result (Unit {0}) IoFault) → EndsLink b new result → IsTrue old.tells
            → OnErr result ((k : ℕ) × (new.wrote ≡ old.wrote ++ take k (first ++ second)))
        ended_badly (Ok _) ends told = tt
        ended_badly (Err fault) ends told = (
          length (first ++ second),
          all_written (Err fault) ends told ∙ ap (λ (l : List ℕ). old.wrote ++ l) (sym (take_all (length (first ++ second)) (first ++ second) (omega arith))),
        )

-- ---- a net that connects and sends

-- a net on which no session is at hand has none to add to the past ones
none_at_hand : (net : LinkSeen) → net.is_open ≡ false → (log_of net).past ++ at_hand net ≡ (log_of net).past
none_at_hand net closed =
    let one : List Session = record {
      took = net.took;
      wrote = net.wrote;
      ended = net.ended;
      start = start_of (log_of net).start;
      faults = net.faults - (log_of net).faults_at_start;
    } ∷ [] in
    ap (λ (b : Bool). (log_of net).past ++ (if b then one else [])) closed ∙ append-nil (log_of net).past

few_of_none : (net : LinkSeen) → net.took ≡ [] → length net.took < 2 ^ 24 + 2 ^ 16
few_of_none net none =
    let zero_is : length net.took ≡ 0 = ap length none in
    let large : 0 < 2 ^ 24 + 2 ^ 16 = lit< tt in
    omega (arith, zero_is, large)

module _ (net mid : LinkSeen) (addr : List ℕ) (closed : net.is_open ≡ false) where
  -- the call that connects failed: a fresh session is none, and nothing was sent in it
  pub not_connected : (bytes : List ℕ) (fault : IoFault) → Begins net mid connecting (Some addr) (Err fault) → Sends net mid addr bytes (Err fault)
  not_connected bytes Failed begins = record {
    tells = begins.tells;
    sent = (
      begins.cause.failed refl,
      λ told. (begins.session told).ended,
      λ told.
          let log = begins.log told in (
            0,
            record {
              past = ap (λ (l : NetLog). l.past) log ∙ none_at_hand net closed;
              addr_is = ap (λ (l : NetLog). l.addr) log;
              start = λ is_open. absurd (false≢true (subst IsTrue begins.is_open is_open));
              wrote = (begins.session told).wrote;
              few = few_of_none mid (begins.session told).took;
            },
          ),
    );
  }
  not_connected bytes NoMemory begins = record { tells = begins.tells; sent = inl (begins.no_memory refl) }

  module _ (begins : Begins net mid connecting (Some addr) (Ok tt)) (new : LinkSeen) where
    tells_mid : IsTrue net.tells → IsTrue mid.tells
    tells_mid told = still_tells net mid begins.tells told

    -- what was written since then was sent in the session
    has_sent : {bytes : List ℕ} (result : Result (Unit {0}) IoFault) (out : List ℕ) → WritesAndEnds mid new bytes result → IsTrue net.tells
        → new.wrote ≡ mid.wrote ++ out → HasSent net new addr out
    has_sent result out writes told wrote =
        let others = writes.others (tells_mid told) in
        let log : log_of new ≡ log_after net mid.faults connecting (Some addr) (Ok tt) = ap net_log_in others.2 ∙ begins.log told in
        let fresh = begins.session told in
        record {
          past = ap (λ (l : NetLog). l.past) log ∙ none_at_hand net closed;
          addr_is = ap (λ (l : NetLog). l.addr) log;
          start = λ is_open. ap (λ (l : NetLog). l.start) log;
          wrote = wrote ∙ ap (λ (l : List ℕ). l ++ out) fresh.wrote;
          few = few_of_none new (others.0 ∙ fresh.took);
        }

    -- the call that connects succeeded, and the bytes were to be written
    pub sends_them : (bytes : List ℕ) (result : Result (Unit {0}) IoFault) → WritesAndEnds mid new bytes result → Sends net new addr bytes result
    sends_them bytes (Ok t) writes = record {
      tells = writes.tells ∙ begins.tells;
      sent = (
        writes.is_open,
        omega (arith, begins.cause.later, writes.later),
        λ tells_new.
            let told : IsTrue net.tells = subst IsTrue (writes.tells ∙ begins.tells) tells_new in
            let others = writes.others (tells_mid told) in
            (others.0 ∙ (begins.session told).took, others.1 ∙ (begins.session told).ended),
        λ told. let all = writes.ok (tells_mid told) in (has_sent (Ok t) bytes writes told all.0, all.1),
      );
    }
    sends_them bytes (Err Failed) writes = record {
      tells = writes.tells ∙ begins.tells;
      sent = (
        rose_before net.faults mid.faults new.faults begins.cause.later (writes.failed refl),
        λ told. (writes.others (tells_mid told)).1 ∙ (begins.session told).ended,
        λ told. let part = writes.err (tells_mid told) in (part.0, has_sent (Err Failed) (take part.0 bytes) writes told part.1),
      );
    }
    sends_them bytes (Err NoMemory) writes = record {
      tells = writes.tells ∙ begins.tells;
      sent = inr (λ told. let part = writes.err (tells_mid told) in (part.0, has_sent (Err NoMemory) (take part.0 bytes) writes told part.1));
    }
