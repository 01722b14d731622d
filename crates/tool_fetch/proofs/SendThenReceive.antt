-- A net that sent all its bytes, and then received what came for them.
use Rattle.std.proofs.Common.{ℕ, List, ◌≡◌, ◌∙◌, IsTrue, length, Result, Ok, Err, inr, ap, sym, subst, arith}
use Rattle.std.proofs.lemmas.List.{take_all}
use Rattle.pir_io.specs.Link.{LinkSeen, NetLog}
use Rattle.pir_io.specs.Net.{net_log_in, log_of}
use Rattle.pir_io.proofs.Kept.{rose_before}
use Rattle.tool_files.specs.declared.peer_answer.PeerAnswer.{PeerAnswer}
use Rattle.tool_files.specs.Inputs.{SpellsAnswer, answer_kinds}
use Rattle.tool_fetch.specs.declared.exchange.LinkError.{LinkError}
use Rattle.tool_fetch.specs.declared.exchange.LinkError.TheVariants.{Fault, Frame, NoMemory}
use Rattle.tool_fetch.specs.Fetch.{HasSent}
use Rattle.tool_fetch.specs.Exchanging.{SentAll, SentSome, Sends, Receives, ExchangesAs, Exchanges}
use Rattle.tool_fetch.proofs.SentFrames.{still_tells}

module _ (old mid new : LinkSeen) (addr bytes : List ℕ) (sends : Sends old mid addr bytes (Ok tt)) where
  tells_sent : IsTrue old.tells → IsTrue mid.tells
  tells_sent told = still_tells old mid sends.tells told

  -- what was sent stays so
  all_sent : (result : Result PeerAnswer LinkError) → Receives answer_kinds SpellsAnswer mid new result → IsTrue old.tells → SentAll old new addr bytes
  all_sent result receives told =
      let others = receives.others (tells_sent told) in
      let all = sends.sent.3 told in
      let log : log_of new ≡ log_of mid = ap net_log_in others.2 in (
        record {
          past = ap (λ (l : NetLog). l.past) log ∙ all.0.past;
          addr_is = ap (λ (l : NetLog). l.addr) log ∙ all.0.addr_is;
          start = λ is_open. ap (λ (l : NetLog). l.start) log ∙ all.0.start sends.sent.0;
          wrote = others.0 ∙ all.0.wrote;
          few = receives.few (tells_sent told);
        },
        subst IsTrue (sym others.1) all.1,
      )

  -- all of it is a part of it
  part_sent : (result : Result PeerAnswer LinkError) → Receives answer_kinds SpellsAnswer mid new result → IsTrue old.tells → SentSome old new addr bytes
  part_sent result receives told = (
    length bytes,
    subst (λ (l : List ℕ). HasSent old new addr l) (sym (take_all (length bytes) bytes (omega arith))) (all_sent result receives told).0,
  )

  came_as : (result : Result PeerAnswer LinkError) → Receives answer_kinds SpellsAnswer mid new result → ExchangesAs old new addr bytes result
  came_as (Ok answer) receives = (λ told. all_sent (Ok answer) receives told, λ told. receives.came (tells_sent told))
  came_as (Err (Frame error)) receives = (λ told. all_sent (Err (Frame error)) receives told, λ told. receives.came (tells_sent told))
  came_as (Err Fault) receives = (
    rose_before old.faults mid.faults new.faults sends.sent.1 receives.came.0,
    λ told. receives.came.1 (tells_sent told),
    λ told. part_sent (Err Fault) receives told,
  )
  came_as (Err NoMemory) receives = inr (λ told. part_sent (Err NoMemory) receives told)

  pub exchanged : (result : Result PeerAnswer LinkError) → Receives answer_kinds SpellsAnswer mid new result → Exchanges old new addr bytes result
  exchanged result receives = record { tells = receives.tells ∙ sends.tells; came = came_as result receives }
