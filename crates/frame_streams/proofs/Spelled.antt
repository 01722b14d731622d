-- What is read as a whole frame is spelled by its message; bytes spell at most one, and none is a proper prefix of another.
use Rattle.std.proofs.Common.{◌≡◌, ◌≢◌, ℕ, ◌+◌, ◌^◌, ◌<◌, ◌≤◌, true, List, [], ◌++◌, length, take, drop, All, Option, Some, refl, sym, ◌∙◌, ap, ap₂, subst, arith, lit<, append_assoc, append-nil, length-append, ltb-true, ltb-false}
use Rattle.std.specs.Prelude.{nat_eq, nat_lt}
use Rattle.std.proofs.lemmas.List.{drop-drop, nil_from_length}
use Rattle.std.proofs.lemmas.List.Elements.{All-drop}
use Rattle.negacyclic.specs.Digits.{number_of}
use Rattle.negacyclic.proofs.Digits.{length-digits}
use Rattle.spiral_sets.specs.declared.param_set.ParamSet.{ParamSet}
use Rattle.spiral_sets.specs.Sets.{IsSet, max_records, capacity}
use Rattle.spiral_sets.specs.Counts.{setup_len, query_len}
use Rattle.spiral_sets.proofs.SetBounds.{at_most}
use Rattle.spiral_sets.proofs.SetNames.{state_len-most, reply_len-most}
use Rattle.frame_headers.specs.declared.kind.FrameKind.{FrameKind}
use Rattle.frame_headers.specs.declared.kind.FrameKind.TheVariants.{Setup, Query, Reply, Refuse, State, Database}
use Rattle.frame_headers.specs.Kinds.{code_of_kind, body_len_of}
use Rattle.frame_headers.specs.Headers.{header}
use Rattle.frame_headers.specs.Checks.{accepts, set_in, body_len_in, header_len_in, number_at}
use Rattle.frame_headers.proofs.Outcomes.{AllPass}
use Rattle.spiral_model.specs.Replies.{IsReply, IsState}
use Rattle.spiral_frames.specs.Frames.{Message, PeerRefusal, setup_message, query_message, reply_message, refuse_message, state_message, database_message, kind_of, set_of_message, body_of, refuse_body, reply_body, state_body, frame_of, IsMessage, Spell}
use Rattle.spiral_frames.specs.FrameChecks.{front, whole, body_checks, reply_checks, state_checks}
use Rattle.spiral_frames.proofs.Bodies.{length-query_body, length-state_body, length-reply_body, length-database_body}
use Rattle.spiral_frames.proofs.SetupBodies.{length-setup_body}
use Rattle.spiral_frames.proofs.FrameLaws.{frame_is, length-frame}
use Rattle.spiral_frames.proofs.DatabaseFrames.{not_false, neither, some_from_test}
use Rattle.frame_streams.specs.Parsing.{message_by, message_read, message_in, setup_in, query_in, reply_in, refuse_in, state_in, table_in}
use Rattle.frame_streams.specs.Decoding.{AreKinds}
use Rattle.frame_streams.proofs.CipherBodies.{setup_spelled, query_spelled}
use Rattle.frame_streams.proofs.ReplyBodies.{reply_spelled}
use Rattle.frame_streams.proofs.SmallBodies.{refuse_spelled, state_spelled, table_fits}
use Rattle.frame_streams.proofs.HeadersBack.{name_len_back, body_len_back}
use Rattle.frame_streams.proofs.FramesRead.{IsFrame, frame_read}
use Rattle.frame_streams.proofs.ReadAgain.{read_again}

-- ---- the body of each kind

-- that of a Reply, by the checks of its two numbers
reply_passed : (set : ParamSet) (x : List ℕ) → IsSet set → All (λ b. b < 256) (drop (header_len_in x) x)
    → length (drop (header_len_in x) x) ≡ body_len_of Reply set → AllPass (reply_checks set x) (length x)
    → IsReply (reply_in set (drop (header_len_in x) x)) × (reply_body (reply_in set (drop (header_len_in x) x)) ≡ drop (header_len_in x) x)
unfolding reply_checks
reply_passed set x known below size h =
    let len : ℕ = number_at x (header_len_in x + 8) in
    let passed = neither (nat_eq len 0) (nat_lt (capacity set) len) h.1.1.1.0 in
    let few : number_at x (header_len_in x) ≤ max_records set = ltb-false (max_records set) (number_at x (header_len_in x)) h.1.0 in
    let some : 0 < len = some_from_test len passed.0 in
    let most : len ≤ capacity set = ltb-false (capacity set) len passed.1 in
    let there : drop (header_len_in x + 8) x ≡ drop 8 (drop (header_len_in x) x) = sym (drop-drop 8 (header_len_in x) x) in
    reply_spelled set (drop (header_len_in x) x) known below size few
    (subst (λ (rest : List ℕ). 0 < number_of 256 (take 8 rest)) there some)
    (subst (λ (rest : List ℕ). number_of 256 (take 8 rest) ≤ capacity set) there most)

-- that of a State, by the checks of its index and of its secret
state_passed : (set : ParamSet) (x : List ℕ) → IsSet set → All (λ b. b < 256) (drop (header_len_in x) x)
    → length (drop (header_len_in x) x) ≡ body_len_of State set → AllPass (state_checks set x) (length x)
    → IsState (state_in set (drop (header_len_in x) x)) × (state_body (state_in set (drop (header_len_in x) x)) ≡ drop (header_len_in x) x)
unfolding state_checks
state_passed set x known below size h =
    let low : number_at x (header_len_in x) < max_records set =
    ltb-true (number_at x (header_len_in x)) (max_records set) (not_false (nat_lt (number_at x (header_len_in x)) (max_records set)) h.1.0) in
    state_spelled set x (header_len_in x) (length x) known below size low h.1.1

-- that of a Refuse
refuse_passed : (set : ParamSet) (body : List ℕ) → IsSet set → All (λ b. b < 256) body → length body ≡ 9
    → IsMessage (refuse_message (refuse_in set body)) × (refuse_body (refuse_in set body) ≡ body)
unfolding refuse_in
refuse_passed set body known below size =
    let parts = refuse_spelled set body below size in ((known, parts.0, parts.1.0), parts.1.1)

-- A body that passes the checks of its kind is that of the message read from it.
message_spelled : (kind : FrameKind) (set : ParamSet) (x : List ℕ) → kind ≢ Database → IsSet set → All (λ b. b < 256) (drop (header_len_in x) x)
    → length (drop (header_len_in x) x) ≡ body_len_of kind set → AllPass (body_checks kind set x) (length x)
    → IsMessage (message_by kind set (drop (header_len_in x) x)) × (body_of (message_by kind set (drop (header_len_in x) x)) ≡ drop (header_len_in x) x)
message_spelled Setup set x other known below size passed = setup_spelled set x (header_len_in x) (length x) known below size passed
message_spelled Query set x other known below size passed = query_spelled set x (header_len_in x) (length x) known below size passed
message_spelled Reply set x other known below size passed = reply_passed set x known below size passed
message_spelled Refuse set x other known below size passed = refuse_passed set (drop (header_len_in x) x) known below size
message_spelled State set x other known below size passed = state_passed set x known below size passed
message_spelled Database set x other known below size passed = absurd (other refl)

-- its kind and its set are those read
kind_by : (kind : FrameKind) (set : ParamSet) (body : List ℕ) → kind_of (message_by kind set body) ≡ kind
kind_by Setup set body = refl
kind_by Query set body = refl
kind_by Reply set body = refl
kind_by Refuse set body = refl
kind_by State set body = refl
kind_by Database set body = refl

set_by : (kind : FrameKind) (set : ParamSet) (body : List ℕ) → set_of_message (message_by kind set body) ≡ set
unfolding setup_in query_in reply_in refuse_in state_in table_in
set_by Setup set body = refl
set_by Query set body = refl
set_by Reply set body = refl
set_by Refuse set body = refl
set_by State set body = refl
set_by Database set body = refl

-- ---- a whole frame

module _ (kinds : ℕ) (x : List ℕ) (below : All (λ b. b < 256) x) (frame : IsFrame kinds x) where
  abbrev body : List ℕ
  body = drop (header_len_in x) x

  abbrev m : Message
  m = message_by frame.kind frame.set body

  m_read : message_in x ≡ Some m
  unfolding message_in
  m_read =
      ap (λ (kind : Option FrameKind). message_read kind (set_in x) body) frame.kind_named
      ∙ ap (λ (set : Option ParamSet). message_read (Some frame.kind) set body) frame.set_named

  m_spells : Spell m x
  m_spells =
      let parts = message_spelled frame.kind frame.set x frame.other frame.known (All-drop (λ b. b < 256) (header_len_in x) x below) frame.size frame.passed in
      let len : ℕ = body_len_of frame.kind frame.set in
      let fronts : header (code_of_kind frame.kind) frame.set len ≡ header (code_of_kind (kind_of m)) (set_of_message m) len =
      ap₂ (λ (k : FrameKind) (s : ParamSet). header (code_of_kind k) s len) (sym (kind_by frame.kind frame.set body))
      (sym (set_by frame.kind frame.set body)) in
      record {
        is = parts.0;
        spelled = frame.begins ∙ ap₂ (λ (h b : List ℕ). h ++ b) fronts (sym parts.1) ∙ sym (frame_is m len (ap length parts.1 ∙ frame.size));
      }

  m_accepted : accepts kinds (code_of_kind (kind_of m)) ≡ true
  m_accepted = subst (λ (k : FrameKind). accepts kinds (code_of_kind k) ≡ true) (sym (kind_by frame.kind frame.set body)) frame.accepted

-- What is read as a whole frame is spelled by its message, of an accepted kind.
pub whole_is_spelled : (kinds : ℕ) (x : List ℕ) → All (λ b. b < 256) x → AreKinds kinds → front kinds x ≡ whole (length x)
    → (m : Message) × (message_in x ≡ Some m) × Spell m x × (accepts kinds (code_of_kind (kind_of m)) ≡ true)
whole_is_spelled kinds x below are h =
    let frame : IsFrame kinds x = frame_read kinds x below are h in
    (m kinds x below frame, m_read kinds x below frame, m_spells kinds x below frame, m_accepted kinds x below frame)

-- ---- spellings

-- Bytes spell at most one message.
pub spelled_once : (x : List ℕ) (m n : Message) → Spell m x → Spell n x → m ≡ n
spelled_once x m n hm hn =
    let same : Some m ≡ Some n = sym (read_again m hm.is) ∙ ap message_in (sym hm.spelled ∙ hn.spelled) ∙ read_again n hn.is in
    cc

setup_len-most : (set : ParamSet) → IsSet set → setup_len set ≤ 2 ^ 24
setup_len-most = at_most (λ set. setup_len set) (2 ^ 24) (refl, (refl, (refl, (refl, (refl, (refl, (refl, (refl, (refl, (refl, tt))))))))))

query_len-most : (set : ParamSet) → IsSet set → query_len set ≤ 2 ^ 24
query_len-most = at_most (λ set. query_len set) (2 ^ 24) (refl, (refl, (refl, (refl, (refl, (refl, (refl, (refl, (refl, (refl, tt))))))))))

length-refuse_body : (refusal : PeerRefusal) → length (refuse_body refusal) ≡ 9
unfolding refuse_body
length-refuse_body refusal = omega (arith, length-digits 256 8 refusal.place)

-- the length of a body fits its 8 bytes
pub body_fits : (m : Message) → IsMessage m → length (body_of m) < 256 ^ 8
body_fits (setup_message keys) is =
    let large : 2 ^ 24 < 256 ^ 8 = lit< tt in omega (arith, length-setup_body keys is, setup_len-most keys.set is.known)
body_fits (query_message query) is =
    let large : 2 ^ 24 < 256 ^ 8 = lit< tt in omega (arith, length-query_body query is, query_len-most query.set is.known)
body_fits (reply_message reply) is =
    let large : 88080 < 256 ^ 8 = lit< tt in omega (arith, length-reply_body reply is, reply_len-most reply.set is.known)
body_fits (refuse_message refusal) is =
    let large : 9 < 256 ^ 8 = lit< tt in omega (arith, length-refuse_body refusal)
body_fits (state_message state) is =
    let large : 8200 < 256 ^ 8 = lit< tt in omega (arith, length-state_body state is, state_len-most state.set is.known)
body_fits (database_message table) is =
    subst (λ (n : ℕ). n < 256 ^ 8) (sym (length-database_body table)) (table_fits table is).1.1

-- how many bytes the frame at the front has, by its header
abbrev pub frame_len_in : List ℕ → ℕ
frame_len_in bytes = header_len_in bytes + body_len_in bytes

-- a frame's header says how long the frame is, whatever bytes follow
pub frame_len_back : (m : Message) (rest : List ℕ) → IsMessage m → frame_len_in (frame_of m ++ rest) ≡ length (frame_of m)
unfolding frame_of
frame_len_back m rest is =
    let code : ℕ = code_of_kind (kind_of m) in
    let set : ParamSet = set_of_message m in
    let size : ℕ = length (body_of m) in
    ap frame_len_in (append_assoc (header code set size) (body_of m) rest)
    ∙ ap₂ (λ (a b : ℕ). 15 + a + b) (name_len_back code set size (body_of m ++ rest)) (body_len_back code set size (body_of m ++ rest) (body_fits m is))
    ∙ sym (length-frame m size refl)

-- No spelling is a proper prefix of another.
pub no_proper_prefix : (m n : Message) (x rest : List ℕ) → Spell m x → Spell n (x ++ rest) → rest ≡ []
no_proper_prefix m n x rest hm hn =
    let bytes : frame_of n ++ [] ≡ frame_of m ++ rest =
    append-nil (frame_of n) ∙ sym hn.spelled ∙ ap (λ (y : List ℕ). y ++ rest) hm.spelled in
    let same : length (frame_of n) ≡ length (frame_of m) = sym (frame_len_back n [] hn.is) ∙ ap frame_len_in bytes ∙ frame_len_back m rest hm.is in
    nil_from_length rest (omega (arith, length-append x rest, ap length hn.spelled, ap length hm.spelled, same))
