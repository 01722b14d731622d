-- Sessions served one after the other: one more, and how serving ends.
use Rattle.std.proofs.Common.{ℕ, List, [], ◌∷◌, ◌++◌, ◌+◌, ◌<◌, ◌≤◌, ◌≡◌, inl, inr, length, take, IsTrue, Option, Ok, Err, refl, ap, sym, subst, ◌∙◌, append_assoc, arith}
use Rattle.std.proofs.lemmas.List.{append-nil, length-append}
use Rattle.std.proofs.Math.Seq.{take-length, take-append_seam, take-append-add}
use Rattle.pir_io.specs.declared.fault.IoFault.TheVariants.{Failed, NoMemory}
use Rattle.pir_io.specs.Sink.{SinkSeen, Puts}
use Rattle.pir_io.specs.Link.{LinkSeen, Session}
use Rattle.pir_io.specs.Net.{log_of}
use Rattle.pir_io.proofs.Kept.{rose_before}
use Rattle.spiral_model.specs.Databases.{RecordTable}
use Rattle.pir_server.specs.declared.session.SessionEnd.{SessionEnd}
use Rattle.tool_base.specs.declared.status.Status.{Status}
use Rattle.tool_base.specs.declared.status.Status.TheVariants as status
use Rattle.tool_base.specs.Texts.{link_fault_line}
use Rattle.tool_base.specs.Puts.{Refused}
use Rattle.tool_serve.specs.Serve.{session_line, session_lines, status_or, EndsWith, faults_in}
use Rattle.tool_serve.specs.SessionsServed.{sessions_of, ToldNext, ServesNext, ToldSoFar, ServedSoFar, ServesAll}
use Rattle.tool_serve.proofs.SessionLists.{lines_more, first_status, first_is_last, all_still, all_more, faults_more}

-- none was served
pub none_served : (table : RecordTable) (net : LinkSeen) (so : SinkSeen) → ServedSoFar table net net so so []
unfolding session_lines faults_in
none_served table net so = record {
  tells = refl;
  later = omega arith;
  put_later = omega arith;
  lines = (refl, λ told. sym (append-nil so.bytes));
  told = λ told. ([], record { addr = refl; sessions_are = sym (append-nil (sessions_of net)); told = tt; counted = omega arith });
}

module _ (table : RecordTable) (net now after : LinkSeen) (so sn : SinkSeen) (ends : List SessionEnd) (so_far : ServedSoFar table net now so sn ends) where
  told_now : IsTrue net.tells → IsTrue now.tells
  told_now told = subst IsTrue (sym so_far.tells) told

  -- ---- one more session

  -- what is told of one more
  told_more : (end : SessionEnd) (session : Session) (sessions : List Session) → ServesNext table now after (Ok end) → ToldNext table now after end session
      → IsTrue net.tells → ToldSoFar table net now ends sessions → ToldSoFar table net after (ends ++ end ∷ []) (sessions ++ session ∷ [])
  told_more end session sessions serves next told so_told = record {
    addr = serves.addr (told_now told) ∙ so_told.addr;
    sessions_are = next.sessions ∙ ap (λ l. l ++ session ∷ []) so_told.sessions_are ∙ append_assoc (sessions_of net) sessions (session ∷ []);
    told = all_more table after.faults sessions ends session end (all_still table now.faults after.faults sessions ends serves.later so_told.told) next.told;
    counted = omega (arith, faults_more sessions session, so_told.counted, next.counted);
  }

  some_more : (end : SessionEnd) → ServesNext table now after (Ok end) → IsTrue net.tells
      → (sessions : List Session) × ToldSoFar table net after (ends ++ end ∷ []) sessions
  some_more end serves told =
      let before = so_far.told told in
      let next = serves.ok (told_now told) in
      (before.0 ++ next.0 ∷ [], told_more end next.0 before.0 serves next.1 told before.1)

  -- the lines with one more, or with a prefix of it
  line_more : (end : SessionEnd) → (so.bytes ++ session_lines 1 ends) ++ session_line (length ends + 1) end ≡ so.bytes ++ session_lines 1 (ends ++ end ∷ [])
  line_more end = append_assoc so.bytes (session_lines 1 ends) (session_line (length ends + 1) end) ∙ ap (λ l. so.bytes ++ l) (sym (lines_more 1 ends end))

  line_begun : (end : SessionEnd) (k : ℕ) → (so.bytes ++ session_lines 1 ends) ++ take k (session_line (length ends + 1) end)
      ≡ so.bytes ++ take (length (session_lines 1 ends) + k) (session_lines 1 (ends ++ end ∷ []))
  line_begun end k =
      append_assoc so.bytes (session_lines 1 ends) (take k (session_line (length ends + 1) end))
      ∙ ap (λ l. so.bytes ++ l) (sym (take-append-add (session_lines 1 ends) (session_line (length ends + 1) end) k))
      ∙ ap (λ l. so.bytes ++ take (length (session_lines 1 ends) + k) l) (sym (lines_more 1 ends end))

  none_of_line : (end : SessionEnd) → so.bytes ++ session_lines 1 ends ≡ so.bytes ++ take (length (session_lines 1 ends)) (session_lines 1 (ends ++ end ∷ []))
  none_of_line end =
      ap (λ l. so.bytes ++ l) (sym (take-append_seam (session_lines 1 ends) (session_line (length ends + 1) end)))
      ∙ ap (λ l. so.bytes ++ take (length (session_lines 1 ends)) l) (sym (lines_more 1 ends end))

  sink_told : IsTrue so.tells → IsTrue sn.tells
  sink_told told = subst IsTrue (sym so_far.lines.0) told

  -- one more session was served, and its line put
  pub served_more : (end : SessionEnd) (sp : SinkSeen) → ServesNext table now after (Ok end) → Puts sn sp (session_line (length ends + 1) end) (Ok tt)
      → ServedSoFar table net after so sp (ends ++ end ∷ [])
  served_more end sp serves puts = record {
    tells = serves.tells ∙ so_far.tells;
    later = omega (arith, so_far.later, serves.later);
    put_later = omega (arith, so_far.put_later, puts.cause.later);
    lines = (
      puts.tells ∙ so_far.lines.0,
      λ told. puts.ok (sink_told told) ∙ ap (λ l. l ++ session_line (length ends + 1) end) (so_far.lines.1 told) ∙ line_more end,
    );
    told = some_more end serves;
  }

  -- ---- how serving ends

  -- what is told where no session was started
  told_still : (sessions : List Session) → (sessions_of after ≡ sessions_of now) → ((log_of after).addr ≡ (log_of now).addr) → now.faults ≤ after.faults
      → ToldSoFar table net now ends sessions → ToldSoFar table net after ends sessions
  told_still sessions same addr later so_told = record {
    addr = addr ∙ so_told.addr;
    sessions_are = same ∙ so_told.sessions_are;
    told = all_still table now.faults after.faults sessions ends later so_told.told;
    counted = omega (arith, so_told.counted, later);
  }

  -- the next session couldn't be started
  pub ends_unstarted : (count : ℕ) (sx : SinkSeen) (ended : Status) → length ends < count → ServesNext table now after (Err Failed)
      → Refused sn sx status.LinkFault link_fault_line ended → ServesAll table count net after so sx ended
  ends_unstarted count sx ended less serves refused = (
    ends,
    record {
      tells = serves.tells ∙ so_far.tells;
      most = omega arith;
      stops = inr (inl (less, rose_before net.faults now.faults after.faults so_far.later (serves.failed refl), sn, so_far.lines, refused));
      told = λ told.
          let before = so_far.told told in (
            before.0,
            told_still before.0 (serves.err (told_now told)) (serves.addr (told_now told)) serves.later before.1,
            λ few is. rose_before (net.faults + faults_in before.0) now.faults after.faults before.1.counted (serves.failed refl),
          );
    },
  )

  -- memory was wanting for that
  pub ends_wanting : (count : ℕ) → length ends < count → ServesNext table now after (Err NoMemory) → ServesAll table count net after so sn status.NoMemory
  ends_wanting count less serves = (
    ends,
    record {
      tells = serves.tells ∙ so_far.tells;
      most = omega arith;
      stops = inr (inr (inl (
        refl,
        so_far.lines.0,
        λ told. (length (session_lines 1 ends), so_far.lines.1 told ∙ ap (λ l. so.bytes ++ l) (sym (take-length (session_lines 1 ends)))),
      )));
      told = λ told.
          let before = so_far.told told in (
            before.0,
            told_still before.0 (serves.err (told_now told)) (serves.addr (told_now told)) serves.later before.1,
            λ few is. absurd (cc),
          );
    },
  )

  -- a session's line couldn't be put
  pub ends_unput : (count : ℕ) (end : SessionEnd) (sp : SinkSeen) → length ends < count → ServesNext table now after (Ok end)
      → Puts sn sp (session_line (length ends + 1) end) (Err Failed) → ServesAll table count net after so sp status.SinkFault
  ends_unput count end sp less serves puts = (
    ends ++ end ∷ [],
    record {
      tells = serves.tells ∙ so_far.tells;
      most = omega (arith, length-append ends (end ∷ []));
      stops = inr (inr (inr (
        refl,
        (
          puts.tells ∙ so_far.lines.0,
          rose_before so.faults sn.faults sp.faults so_far.put_later (puts.cause.failed refl),
          λ told.
              let put = puts.failed (sink_told told) refl in (
                length (session_lines 1 ends) + put.0,
                put.1 ∙ ap (λ l. l ++ take put.0 (session_line (length ends + 1) end)) (so_far.lines.1 told) ∙ line_begun end put.0,
              ),
        ),
      )));
      told = λ told. let more = some_more end serves told in (more.0, more.1, λ few is. absurd (cc));
    },
  )

  -- memory was wanting for it
  pub ends_unwritten : (count : ℕ) (end : SessionEnd) (sp : SinkSeen) → length ends < count → ServesNext table now after (Ok end)
      → Puts sn sp (session_line (length ends + 1) end) (Err NoMemory) → ServesAll table count net after so sp status.NoMemory
  ends_unwritten count end sp less serves puts = (
    ends ++ end ∷ [],
    record {
      tells = serves.tells ∙ so_far.tells;
      most = omega (arith, length-append ends (end ∷ []));
      stops = inr (inr (inl (
        refl,
        puts.tells ∙ so_far.lines.0,
        λ told. (length (session_lines 1 ends), puts.no_memory (sink_told told) refl ∙ so_far.lines.1 told ∙ none_of_line end),
      )));
      told = λ told. let more = some_more end serves told in (more.0, more.1, λ few is. absurd (cc));
    },
  )

  -- all were served
  pub ends_served : (count : ℕ) (first : Option Status) (sx : SinkSeen) (ended : Status) → length ends ≡ count → first ≡ first_status ends
      → EndsWith (status_or first status.Done) sn sx ended → ServesAll table count net now so sx ended
  ends_served count first sx ended all first_is with = (
    ends,
    record {
      tells = so_far.tells;
      most = omega (arith, all);
      stops = inl (all, sn, so_far.lines, subst (λ s. EndsWith s sn sx ended) (ap (λ f. status_or f status.Done) first_is ∙ first_is_last ends) with);
      told = λ told. let before = so_far.told told in (before.0, before.1, λ few is. absurd (omega (arith, all, few)));
    },
  )
