-- What serving one message comes to.
use Rattle.std.proofs.Common.{◌≡◌, ◌≢◌, ℕ, ◌+◌, inl, inr, Bool, true, false, IsTrue, List, [], ◌∷◌, ◌++◌, Option, Some, None, Ok, Err, refl, ap, ap₂, sym, subst, ◌∙◌, arith, eq-eqb, ne_eqb}
use Rattle.std.specs.Prelude.{not, if◌then◌else◌}
use Rattle.std.proofs.lemmas.List.{append-nil}
use Rattle.pir_io.specs.Link.{LinkSeen}
use Rattle.spiral_sets.specs.declared.param_set.ParamSet.{ParamSet}
use Rattle.spiral_sets.specs.Sets.{IsSet, names, has_keys}
use Rattle.spiral_sets.proofs.SetNames.{same_from_name}
use Rattle.std.specs.Prelude.{slice_index_or}
use Rattle.spiral_model.specs.Bodies.{CipherBody}
use Rattle.spiral_model.specs.Databases.{RecordTable}
use Rattle.spiral_model.specs.Keys.{SetKeys, keys_in}
use Rattle.regev_code.specs.KeyShapes.{AreKeysFor}
use Rattle.spiral_frames.specs.Frames.{Message, PeerRefusal, setup_message, query_message, reply_message, refuse_message, state_message, database_message, set_of_message}
use Rattle.frame_streams.specs.Decoding.{Placed}
use Rattle.frame_streams.specs.Serving.{Serving, reply_frame, refuse_with, kept_keys, lacks_keys, serve_own, serve_one}
use Rattle.frame_streams.proofs.Serving.{serve_open}
use Rattle.pir_server.specs.declared.session.EndCause.{EndCause}
use Rattle.pir_server.specs.declared.session.EndCause.TheVariants.{LinkFault, NoMemory}
use Rattle.pir_server.specs.declared.session.talk.Talk.{Talk}
use Rattle.pir_server.specs.Sessions.{joined}
use Rattle.pir_server.specs.Talks.{Sends, Refuses, GivesUp, unrefused, KeysFit, ServesTo, refusal_at, RefusedWith, Serves}
use Rattle.pir_server.proofs.Writing.{only_none}

-- ---- which set a message is of

-- sets of one id are one
pub same_from_id : (s t : ParamSet) → IsSet s → IsSet t → s.id ≡ t.id → s ≡ t
same_from_id s t hs ht is = same_from_name s t hs ht (ap (λ (k : ℕ). slice_index_or names k []) is)

abbrev at_place : ℕ → Message → Placed
at_place place m = record { place = place; message = m }

module _ (table : RecordTable) (place : ℕ) (m : Message) (keys : Option SetKeys) where
  own : (replies : List (List ℕ)) → (set_of_message m).id ≡ table.set.id
      → serve_one table (unrefused keys replies) (at_place place m) ≡ serve_own table (unrefused keys replies) place m
  own replies is =
      let s : Serving = unrefused keys replies in
      serve_open table s (at_place place m) refl
      ∙ ap (λ (b : Bool). if not b then refuse_with table s 11 place else serve_own table s place m)
      (eq-eqb (set_of_message m).id table.set.id is)

  -- one of another set
  pub other_set : (set_of_message m).id ≢ table.set.id → RefusedWith table (at_place place m) keys 11 place
  other_set other = λ replies.
      let s : Serving = unrefused keys replies in
      serve_open table s (at_place place m) refl
      ∙ ap (λ (b : Bool). if not b then refuse_with table s 11 place else serve_own table s place m)
      (ne_eqb (set_of_message m).id table.set.id other)

-- the refusal that was sent is that one
pub refuses_same : (table : RecordTable) (s : ParamSet) (code at place : ℕ) (old new : LinkSeen) (cause : EndCause) → s ≡ table.set → at ≡ place
    → Refuses (record { set = s; code = code; place = at }) old new cause → Refuses (refusal_at table code place) old new cause
refuses_same table s code at place old new cause set is =
    subst (λ (r : PeerRefusal). Refuses r old new cause) (ap₂ (λ (t : ParamSet) (p : ℕ). record { set = t; code = code; place = p }) set is)

-- ---- by the kind

no_more : (keys : Option SetKeys) (replies : List (List ℕ)) → unrefused keys replies ≡ unrefused keys (replies ++ [])
no_more keys replies = ap (unrefused keys) (sym (append-nil replies))

pub setup_to : (table : RecordTable) (place : ℕ) (setup : CipherBody) (keys kept : Option SetKeys) → setup.set ≡ table.set → kept ≡ kept_keys table.set setup
    → ServesTo table (at_place place (setup_message setup)) keys kept []
setup_to table place setup keys kept set is = λ replies.
    own table place (setup_message setup) keys replies (ap (λ (s : ParamSet). s.id) set)
    ∙ ap (λ (k : Option SetKeys). unrefused k replies) (sym is)
    ∙ no_more kept replies

query_to : (table : RecordTable) (place : ℕ) (query : CipherBody) (keys : Option SetKeys) → query.set ≡ table.set → lacks_keys table.set keys ≡ false
    → ServesTo table (at_place place (query_message query)) keys keys (reply_frame table keys query ∷ [])
query_to table place query keys set is = λ replies.
    own table place (query_message query) keys replies (ap (λ (s : ParamSet). s.id) set)
    ∙ ap (λ (b : Bool). if b then refuse_with table (unrefused keys replies) 12 place else record (unrefused keys replies) { replies = replies ++ reply_frame table keys query ∷ [] })
    is

query_refused : (table : RecordTable) (place : ℕ) (query : CipherBody) (keys : Option SetKeys) → query.set ≡ table.set → lacks_keys table.set keys ≡ true
    → RefusedWith table (at_place place (query_message query)) keys 12 place
query_refused table place query keys set is = λ replies.
    own table place (query_message query) keys replies (ap (λ (s : ParamSet). s.id) set)
    ∙ ap (λ (b : Bool). if b then refuse_with table (unrefused keys replies) 12 place else record (unrefused keys replies) { replies = replies ++ reply_frame table keys query ∷ [] })
    is

-- a message of a kind that isn't served
abbrev pub IsIdle : Message → Type 0
IsIdle (setup_message keys) = ⊥
IsIdle (query_message query) = ⊥
IsIdle (reply_message reply) = Unit {0}
IsIdle (refuse_message refusal) = Unit {0}
IsIdle (state_message state) = Unit {0}
IsIdle (database_message other) = Unit {0}

idle_own : (table : RecordTable) (s : Serving) (place : ℕ) (m : Message) → IsIdle m → serve_own table s place m ≡ s
idle_own table s place (setup_message keys) is = absurd is
idle_own table s place (query_message query) is = absurd is
idle_own table s place (reply_message reply) is = refl
idle_own table s place (refuse_message refusal) is = refl
idle_own table s place (state_message state) is = refl
idle_own table s place (database_message other) is = refl

idle_to : (table : RecordTable) (place : ℕ) (m : Message) (keys : Option SetKeys) → (set_of_message m).id ≡ table.set.id → IsIdle m
    → ServesTo table (at_place place m) keys keys []
idle_to table place m keys set is = λ replies.
    own table place m keys replies set ∙ idle_own table (unrefused keys replies) place m is ∙ no_more keys replies

-- ---- keys

keys_set : (setup : CipherBody) → (keys_in setup).set ≡ setup.set
unfolding keys_in
keys_set setup = refl

kept_fit_by : (has : Bool) (set : ParamSet) (setup : CipherBody) → setup.set ≡ set → KeysFit set (if has then Some (keys_in setup) else None)
kept_fit_by true set setup is = keys_set setup ∙ is
kept_fit_by false set setup is = tt

kept_fit : (set : ParamSet) (setup : CipherBody) (kept : Option SetKeys) → setup.set ≡ set → kept ≡ kept_keys set setup → KeysFit set kept
kept_fit set setup kept same is = subst (KeysFit set) (sym is) (kept_fit_by (has_keys set) set setup same)

pub kept_some : (set : ParamSet) (setup : CipherBody) (kept : Option SetKeys) (b : Bool) → has_keys set ≡ b → (b ≡ true → kept ≡ Some (keys_in setup))
    → (b ≡ false → kept ≡ None) → kept ≡ kept_keys set setup
kept_some set setup kept true has some none = some refl ∙ ap (λ (b : Bool). if b then Some (keys_in setup) else None) (sym has)
kept_some set setup kept false has some none = none refl ∙ ap (λ (b : Bool). if b then Some (keys_in setup) else None) (sym has)

-- keys that aren't wanting are those that an answer takes
pub keys_for : (set : ParamSet) (keys : Option SetKeys) → KeysFit set keys → lacks_keys set keys ≡ false → AreKeysFor set keys
keys_for set (Some keys) fit is = λ has. fit
keys_for set None fit is = is

-- ---- what a step of the session comes to

-- a refused message
pub serves_refused : (table : RecordTable) (placed : Placed) (old new : LinkSeen) (before after : Talk) (code place : ℕ) (cause : EndCause)
    → RefusedWith table placed before.keys code place → code ≢ 1 → after ≡ before → Refuses (refusal_at table code place) old new cause
    → Serves table placed old new before after (Err cause)
serves_refused table placed old new before after code place cause with_ other same r = record {
  only = r.only;
  fault = λ is. r.fault (let both : Err cause ≡ Err LinkFault = is in cc);
  by = (
    ap (λ (t : Talk). t.taken) same,
    ap (λ (t : Talk). t.answered) same,
    λ tells. let more = r.adds tells in (
      more.0,
      more.1,
      inl (record { code = code; place = place; refused_with = with_; other = other; so = more.2 }),
    ),
  );
}

-- memory was wanting
pub serves_wanting : (table : RecordTable) (placed : Placed) (old new : LinkSeen) (before after : Talk) (cause : EndCause) → after ≡ before
    → GivesUp table.set old new cause → Serves table placed old new before after (Err cause)
serves_wanting table placed old new before after cause same g = record {
  only = g.only;
  fault = λ is. let both : Err cause ≡ Err LinkFault = is in let no : NoMemory ≡ LinkFault = sym g.wanting ∙ (let e : cause ≡ LinkFault = cc in e) in absurd (cc);
  by = (
    ap (λ (t : Talk). t.taken) same,
    ap (λ (t : Talk). t.answered) same,
    λ tells. let more = g.adds tells in (more.0, more.1, inr (inr (record { wanting = g.wanting; so = more.2 }))),
  );
}

-- a message that adds no reply and writes nothing
pub serves_quiet : (table : RecordTable) (placed : Placed) (old : LinkSeen) (before after : Talk) → IsTrue old.is_open
    → ServesTo table placed before.keys after.keys [] → KeysFit table.set after.keys → after ≡ record before { keys = after.keys }
    → Serves table placed old old before after (Ok tt)
serves_quiet table placed old before after is_open to fit same = record {
  only = only_none old is_open;
  fault = λ is. absurd (cc);
  by = record {
    frames = [];
    to = to;
    fit = fit;
    decoder = ap (λ (t : Talk). t.decoder) same;
    taken = ap (λ (t : Talk). t.taken) same;
    answered = omega (arith, ap (λ (t : Talk). t.answered) same);
    wrote = λ tells. sym (append-nil old.wrote);
  };
}

pub serves_setup : (table : RecordTable) (place : ℕ) (setup : CipherBody) (old : LinkSeen) (before after : Talk) → IsTrue old.is_open → setup.set ≡ table.set
    → after.keys ≡ kept_keys table.set setup → after ≡ record before { keys = after.keys }
    → Serves table (at_place place (setup_message setup)) old old before after (Ok tt)
serves_setup table place setup old before after is_open set kept same =
    serves_quiet table (at_place place (setup_message setup)) old before after is_open (setup_to table place setup before.keys after.keys set kept)
    (kept_fit table.set setup after.keys set kept) same

pub serves_idle : (table : RecordTable) (place : ℕ) (m : Message) (old : LinkSeen) (t : Talk) → IsTrue old.is_open → (set_of_message m).id ≡ table.set.id
    → IsIdle m → KeysFit table.set t.keys → Serves table (at_place place m) old old t t (Ok tt)
serves_idle table place m old t is_open set is fit =
    serves_quiet table (at_place place m) old t t is_open (idle_to table place m t.keys set is) fit refl

pub serves_other : (table : RecordTable) (place : ℕ) (m : Message) (old new : LinkSeen) (before : Talk) (cause : EndCause)
    → (set_of_message m).id ≢ table.set.id → Refuses (refusal_at table 11 place) old new cause
    → Serves table (at_place place m) old new before before (Err cause)
serves_other table place m old new before cause other r =
    serves_refused table (at_place place m) old new before before 11 place cause (other_set table place m before.keys other) (omega arith) refl r

pub serves_keyless : (table : RecordTable) (place : ℕ) (query : CipherBody) (old new : LinkSeen) (before : Talk) (cause : EndCause)
    → query.set ≡ table.set → lacks_keys table.set before.keys ≡ true → Refuses (refusal_at table 12 place) old new cause
    → Serves table (at_place place (query_message query)) old new before before (Err cause)
serves_keyless table place query old new before cause set lacks r =
    serves_refused table (at_place place (query_message query)) old new before before 12 place cause (query_refused table place query before.keys set lacks)
    (omega arith) refl r

-- ---- a query answered

frame_joined : (frame : List ℕ) → frame ≡ joined (frame ∷ [])
frame_joined frame = sym (append-nil frame)

pub serves_query : (table : RecordTable) (place : ℕ) (query : CipherBody) (old new : LinkSeen) (before after : Talk) → query.set ≡ table.set
    → lacks_keys table.set before.keys ≡ false → KeysFit table.set before.keys → after ≡ record before { answered = before.answered + 1 }
    → Sends table.set (reply_frame table before.keys query) old new (Ok tt)
    → Serves table (at_place place (query_message query)) old new before after (Ok tt)
serves_query table place query old new before after set lacks fit same s =
    let keys : after.keys ≡ before.keys = ap (λ (t : Talk). t.keys) same in
    let frame : List ℕ = reply_frame table before.keys query in
    record {
      only = s.only;
      fault = λ is. absurd (cc);
      by = record {
        frames = frame ∷ [];
        to = subst (λ (k : Option SetKeys). ServesTo table (at_place place (query_message query)) before.keys k (frame ∷ [])) (sym keys)
            (query_to table place query before.keys set lacks);
        fit = subst (KeysFit table.set) (sym keys) fit;
        decoder = ap (λ (t : Talk). t.decoder) same;
        taken = ap (λ (t : Talk). t.taken) same;
        answered = ap (λ (t : Talk). t.answered) same;
        wrote = λ tells. let more = s.adds tells in more.1 ∙ ap (λ (b : List ℕ). old.wrote ++ b) (more.2 ∙ frame_joined frame);
      };
    }

pub serves_failed : (table : RecordTable) (place : ℕ) (query : CipherBody) (old new : LinkSeen) (before after : Talk) (cause : EndCause) → query.set ≡ table.set
    → lacks_keys table.set before.keys ≡ false → after ≡ before → Sends table.set (reply_frame table before.keys query) old new (Err cause)
    → Serves table (at_place place (query_message query)) old new before after (Err cause)
serves_failed table place query old new before after cause set lacks same s = record {
  only = s.only;
  fault = s.fault;
  by = (
    ap (λ (t : Talk). t.taken) same,
    ap (λ (t : Talk). t.answered) same,
    λ tells. let more = s.adds tells in (
      more.0,
      more.1,
      inr (inl (record { frame = reply_frame table before.keys query; to = query_to table place query before.keys set lacks; so = more.2 })),
    ),
  );
}
