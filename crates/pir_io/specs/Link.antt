-- A link to a peer: a stream of bytes each way.
use Rattle.std.specs.Prelude.{ℕ, Bool, IsTrue, List, ◌++◌, ◌≡◌, ◌≤◌, ◌||◌, ◌&&◌, ◌==◌, nat_lt, length, take, Option, Result, Err, IfOk, OnOk, OnErr}
use Rattle.pir_io.specs.declared.fault.IoFault.{IoFault}
use Rattle.pir_io.specs.declared.fault.IoFault.TheVariants.{Failed, NoMemory}
use Rattle.pir_io.specs.Faults.{HasCause}

-- the call that started a session
pub data Start : Type 0 where
  connecting : Start
  accepting : Start

-- a session that is over: the bytes read and written in it, whether its input had ended, the call that
-- started it, and the faults counted since then
pub record Session : Type 0 where
  pub took : List ℕ
  pub wrote : List ℕ
  pub ended : Bool
  pub start : Start
  pub faults : ℕ

-- what a net keeps besides the session at hand: the sessions before it, the latest address given to listen
-- or connect, the call that started the session at hand, and the count of faults when it started
pub record NetLog : Type 0 where
  pub past : List Session
  pub addr : Option (List ℕ)
  pub start : Option Start
  pub faults_at_start : ℕ

-- what a link that wraps another keeps: the bytes and the room that it was made with; and, for contracts alone, what
-- the wrapped link told when it was handed in
pub record Wrapping : Type 0 where
  pub bytes : List ℕ
  pub room : ℕ
  pub took : List ℕ
  pub wrote : List ℕ
  pub ended : Bool
  pub closed : Bool

-- What a link keeps besides its bytes: nothing; the log of a net; or the wrapped link's own log, and what the wrapper
-- keeps.
pub data Log : Type 0 where
  no_log : Log
  net_log : NetLog → Log
  wrapped_log : Log → Wrapping → Log

-- What is seen of a link: whether it tells its bytes, whether it is open, the bytes read and written in this
-- session, whether its input has ended and its writing side is closed, the faults counted, and its log.
pub record LinkSeen : Type 0 where
  pub tells : Bool
  pub is_open : Bool
  pub took : List ℕ
  pub wrote : List ℕ
  pub ended : Bool
  pub closed : Bool
  pub faults : ℕ
  pub log : Log

-- what `read` does: the n bytes at the front of its buffer, which was `before` and is `into`, are those that came next;
-- 0 into a buffer with room is the end of input
pub record ReadsLink (old new : LinkSeen) (before into : List ℕ) (result : Result ℕ IoFault) : Type 0 where
  pub tells : new.tells ≡ old.tells
  pub is_open : IsTrue new.is_open
  pub cause : HasCause old.faults new.faults result
  pub count : IfOk result (λ n. n ≤ length into)
  pub buffer : result ≡ Err NoMemory → into ≡ before
  pub took : IsTrue old.tells → IfOk result (λ n. new.took ≡ old.took ++ take n into)
  pub ended : IsTrue old.tells → IfOk result (λ n. new.ended ≡ (old.ended || (n == 0 && nat_lt 0 (length into))))
  pub err : IsTrue old.tells → OnErr result ((new.took ≡ old.took) × (new.ended ≡ old.ended))
  pub others : IsTrue old.tells → (new.wrote ≡ old.wrote) × (new.closed ≡ old.closed) × (new.log ≡ old.log)

-- what `write` does: all the bytes are written; where it fails, a prefix of them
pub record WritesLink (old new : LinkSeen) (bytes : List ℕ) (result : Result (Unit {0}) IoFault) : Type 0 where
  pub tells : new.tells ≡ old.tells
  pub is_open : IsTrue new.is_open
  pub cause : HasCause old.faults new.faults result
  pub ok : IsTrue old.tells → OnOk result (new.wrote ≡ old.wrote ++ bytes)
  pub failed : IsTrue old.tells → result ≡ Err Failed → (k : ℕ) × (new.wrote ≡ old.wrote ++ take k bytes)
  pub no_memory : IsTrue old.tells → result ≡ Err NoMemory → new.wrote ≡ old.wrote
  pub others : IsTrue old.tells → (new.took ≡ old.took) × (new.ended ≡ old.ended) × (new.closed ≡ old.closed) × (new.log ≡ old.log)

-- what `end` does: it closes the writing side, where it succeeds, and changes nothing else
pub record EndsLink (old new : LinkSeen) (result : Result (Unit {0}) IoFault) : Type 0 where
  pub tells : new.tells ≡ old.tells
  pub is_open : IsTrue new.is_open
  pub cause : HasCause old.faults new.faults result
  pub ok : IsTrue old.tells → OnOk result (IsTrue new.closed)
  pub err : IsTrue old.tells → OnErr result (new.closed ≡ old.closed)
  pub others : IsTrue old.tells → (new.took ≡ old.took) × (new.wrote ≡ old.wrote) × (new.ended ≡ old.ended) × (new.log ≡ old.log)
