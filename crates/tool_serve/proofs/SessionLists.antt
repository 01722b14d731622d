-- Sessions and their ends one by one: their lines, the first status that one gives, and what is told of them.
use Rattle.std.proofs.Common.{ℕ, List, [], ◌∷◌, ◌++◌, ◌+◌, ◌-◌, ◌^◌, ◌<◌, ◌≤◌, ◌≡◌, ◌⊎◌, inl, inr, length, Option, Some, None, refl, ap, sym, ◌∙◌, append_assoc, arith}
use Rattle.std.specs.Option.{option_or}
use Rattle.std.proofs.lemmas.List.{append-nil}
use Rattle.pir_io.specs.Link.{Session}
use Rattle.spiral_model.specs.Databases.{RecordTable}
use Rattle.pir_server.specs.declared.session.SessionEnd.{SessionEnd}
use Rattle.tool_base.specs.declared.status.Status.{Status}
use Rattle.tool_base.specs.declared.status.Status.TheVariants as status
use Rattle.tool_serve.specs.Serve.{session_line, session_lines, status_of_cause, status_or, last_status, Told, AllTold, faults_in}

-- the lines of one more session
pub lines_more : (k : ℕ) (ends : List SessionEnd) (end : SessionEnd)
    → session_lines k (ends ++ end ∷ []) ≡ session_lines k ends ++ session_line (length ends + k) end
unfolding session_lines
lines_more k [] end =
    let none : k ≡ length {A = SessionEnd} [] + k = omega arith in
    append-nil (session_line k end) ∙ ap (λ n. session_line n end) none
lines_more k (first ∷ ends) end =
    let next : length ends + (k + 1) ≡ length (first ∷ ends) + k = omega arith in
    ap (λ l. session_line k first ++ l) (lines_more (k + 1) ends end)
    ∙ sym (append_assoc (session_line k first) (session_lines (k + 1) ends) (session_line (length ends + (k + 1)) end))
    ∙ ap (λ n. (session_line k first ++ session_lines (k + 1) ends) ++ session_line n end) next

-- ---- the first status

-- the first status that one of the sessions gives the command, where one does
unfoldable pub first_status : List SessionEnd → Option Status
first_status [] = None
first_status (end ∷ ends) = option_or (status_of_cause end.cause) (first_status ends)

or_none : (a : Option Status) → option_or a None ≡ a
or_none None = refl
or_none (Some first) = refl

or_or : (a b c : Option Status) → option_or a (option_or b c) ≡ option_or (option_or a b) c
or_or None b c = refl
or_or (Some first) b c = refl

or_last : (a b : Option Status) (last : Status) → status_or a (status_or b last) ≡ status_or (option_or a b) last
or_last None b last = refl
or_last (Some first) b last = refl

-- that of one more session
pub first_more : (ends : List SessionEnd) (end : SessionEnd) → first_status (ends ++ end ∷ []) ≡ option_or (first_status ends) (status_of_cause end.cause)
unfolding first_status
first_more [] end = or_none (status_of_cause end.cause)
first_more (first ∷ ends) end =
    ap (option_or (status_of_cause first.cause)) (first_more ends end) ∙ or_or (status_of_cause first.cause) (first_status ends) (status_of_cause end.cause)

-- it is the command's, behind the last session
pub first_is_last : (ends : List SessionEnd) → status_or (first_status ends) status.Done ≡ last_status ends
unfolding first_status last_status
first_is_last [] = refl
first_is_last (end ∷ ends) =
    sym (or_last (status_of_cause end.cause) (first_status ends) status.Done) ∙ ap (status_or (status_of_cause end.cause)) (first_is_last ends)

-- ---- what is told

-- a count that stands at its end stands there later
counted_still : (a b : ℕ) (session : Session) → a ≤ b → (0 < session.faults) ⊎ (2 ^ 64 - 1 ≤ a) → (0 < session.faults) ⊎ (2 ^ 64 - 1 ≤ b)
counted_still a b session le (inl counted) = inl counted
counted_still a b session le (inr most) = inr (omega (arith, most))

told_still : (table : RecordTable) (a b : ℕ) (session : Session) (end : SessionEnd) → a ≤ b → Told table a session end → Told table b session end
told_still table a b session end le told = record {
  accepted = told.accepted;
  taken = told.taken;
  within = told.within;
  ends = told.ends;
  fault = λ is. counted_still a b session le (told.fault is);
}

-- what is told of sessions stays when the count rises
pub all_still : (table : RecordTable) (a b : ℕ) (sessions : List Session) (ends : List SessionEnd) → a ≤ b
    → AllTold table a sessions ends → AllTold table b sessions ends
all_still table a b [] [] le all = tt
all_still table a b (session ∷ sessions) (end ∷ ends) le all = (told_still table a b session end le all.0, all_still table a b sessions ends le all.1)
all_still table a b [] (end ∷ ends) le all = absurd all
all_still table a b (session ∷ sessions) [] le all = absurd all

-- one more session is told of
pub all_more : (table : RecordTable) (faults : ℕ) (sessions : List Session) (ends : List SessionEnd) (session : Session) (end : SessionEnd)
    → AllTold table faults sessions ends → Told table faults session end → AllTold table faults (sessions ++ session ∷ []) (ends ++ end ∷ [])
all_more table faults [] [] session end all told = (told, tt)
all_more table faults (first ∷ sessions) (one ∷ ends) session end all told = (all.0, all_more table faults sessions ends session end all.1 told)
all_more table faults [] (one ∷ ends) session end all told = absurd all
all_more table faults (first ∷ sessions) [] session end all told = absurd all

-- the faults counted in one more session
pub faults_more : (sessions : List Session) (session : Session) → faults_in (sessions ++ session ∷ []) ≡ faults_in sessions + session.faults
unfolding faults_in
faults_more [] session = omega arith
faults_more (first ∷ sessions) session = omega (arith, faults_more sessions session)
