-- A turn of a session: a piece is read and its messages served, or the session stops; and the session from its begin to its end.
use Rattle.std.proofs.Common.{◌≡◌, ◌≢◌, ℕ, ◌+◌, ◌^◌, ◌<◌, ◌≤◌, true, false, IsTrue, List, [], ◌∷◌, ◌++◌, length, Option, Some, None, Result, Ok, Err, refl, ap, sym, subst, ◌∙◌, arith, length-append, append_assoc, option_map}
use Rattle.std.proofs.lemmas.List.{append-nil}
use Rattle.std.proofs.lemmas.List.Concat.{flat_map-append}
use Rattle.pir_io.specs.Link.{LinkSeen}
use Rattle.spiral_sets.specs.declared.param_set.ParamSet.{ParamSet}
use Rattle.frame_headers.specs.declared.frame_error.FrameError.{FrameError}
use Rattle.frame_headers.specs.Refusals.{code_of, place_of}
use Rattle.spiral_model.specs.Databases.{RecordTable}
use Rattle.frame_streams.specs.Decoding.{Condition, refused, wanting, reading, Decoding, decoded, first_by, HasRoom}
use Rattle.frame_streams.specs.Serving.{Serving, server_first, refusal_by}
use Rattle.pir_wire.specs.Feeding.{ends_by}
use Rattle.pir_server.specs.declared.session.EndCause.{EndCause}
use Rattle.pir_server.specs.declared.session.EndCause.TheVariants.{Done, LinkFault, Limit, NoMemory}
use Rattle.pir_server.specs.declared.session.talk.Talk.{Talk}
use Rattle.pir_server.specs.declared.session.talk.Piece.{Piece}
use Rattle.pir_server.specs.declared.session.talk.Piece.TheVariants as piece
use Rattle.pir_server.specs.Served.{Served}
use Rattle.pir_server.specs.Sessions.{reply_frames, joined, IsOpenEnded, EndsBy, SessionEnds}
use Rattle.pir_server.specs.Talks.{OnlyWrites, Refuses, GivesUp, Amid, unrefused, KeysFit, TalkAt, IsTalk, IsFresh, Waits, GoesOn, StopsHere, ServesReady, Came, HasFed, TakesPiece, FinishesWith, Finishes, Stops, Turns, Standing}
use Rattle.pir_server.proofs.Midst.{amid_begun, amid_fed, amid_all, amid_replies, first_behind, amid_room, amid_ends, amid_not_short}
use Rattle.pir_server.proofs.Ends.{ends_wanting, ends_unread, ends_refused, ends_done, ends_limit}
use Rattle.pir_server.proofs.Writing.{only_none, still_tells, rose_later}
use Rattle.pir_server.proofs.PiecesTaken.{came_from, came_then}

joined_behind : (w : List ℕ) (a b : List (List ℕ)) → (w ++ joined a) ++ joined b ≡ w ++ joined (a ++ b)
joined_behind w a b = append_assoc w (joined a) (joined b) ∙ ap (λ (j : List ℕ). w ++ j) (sym (flat_map-append (λ frame. frame) a b))

joined_again : (a b : List (List ℕ)) (more : List ℕ) → joined (a ++ b) ++ more ≡ joined a ++ (joined b ++ more)
joined_again a b more = ap (λ (j : List ℕ). j ++ more) (flat_map-append (λ frame. frame) a b) ∙ append_assoc (joined a) (joined b) more

-- ---- before a piece

-- there is room for it
pub waits_room : (table : RecordTable) (t : Talk) (size : ℕ) → IsTalk table t → Waits t → t.taken + size < 2 ^ 64 → HasRoom t.decoder size
waits_room table t size is w fits =
    amid_room table is.x t.decoder (unrefused t.keys is.replies) is.at.amid w.bytes size w.reads (omega (arith, fits, is.at.taken))

never_wanting : (bytes : List ℕ) → reading bytes ≡ wanting → ⊥
never_wanting bytes h = cc

pub waits_reading : (t : Talk) → Waits t → t.decoder.condition ≢ wanting
waits_reading t w = λ is. never_wanting w.bytes (sym w.reads ∙ is)

-- ---- a piece that was fed

module _ (table : RecordTable) (old mid : LinkSeen) (before between : Talk) (room : ℕ) (fits : before.taken + room < 2 ^ 64) (fed : HasFed old mid before between room) where
  pub fed_at : (x : List ℕ) (replies : List (List ℕ)) → TalkAt table x replies before → TalkAt table (x ++ fed.bytes) replies between
  fed_at x replies at =
      let decoder : between.decoder ≡ decoded before.decoder fed.bytes = ap (λ (t : Talk). t.decoder) fed.fed in
      let keys : between.keys ≡ before.keys = ap (λ (t : Talk). t.keys) fed.fed in
      let taken : between.taken ≡ before.taken + length fed.bytes = ap (λ (t : Talk). t.taken) fed.fed in
      let amid = amid_fed table x before.decoder (unrefused before.keys replies) at.amid fed.bytes fed.below in
      record {
        amid = subst (λ (t : Talk). Amid table (x ++ fed.bytes) t.decoder (unrefused t.keys replies)) (sym fed.fed) amid;
        fit = subst (KeysFit table.set) (sym keys) at.fit;
        taken = omega (arith, taken, at.taken, length-append x fed.bytes);
        answered = ap (λ (t : Talk). t.answered) fed.fed ∙ at.answered;
        small = omega (arith, taken, fed.within, fits);
      }

  pub fed_talk : IsTalk table before → IsTalk table between
  fed_talk is = record { x = is.x ++ fed.bytes; replies = is.replies; at = fed_at is.x is.replies is.at }

  module _ (came : Came old mid) (new : LinkSeen) (after : Talk) (only : OnlyWrites mid new) where
    came_all : Came old new
    came_all = came_then old mid new came (came_from mid new only)

    taken_fed : between.taken ≡ before.taken + length fed.bytes
    taken_fed = ap (λ (t : Talk). t.taken) fed.fed

    -- all its messages were served
    turned : (u : Unit {0}) (y : List ℕ) → between.decoder.condition ≡ reading y → GoesOn table mid new between after → after.decoder.ready ≡ []
        → Turns table old new before after room (Ok u)
    turned u y reads g none = record {
      came = came_all;
      fault = λ is. absurd (cc);
      by = record {
        waits = record { none = none; bytes = y; reads = g.condition ∙ reads };
        some = omega (arith, g.taken, taken_fed, fed.some);
        within = omega (arith, g.taken, taken_fed, fed.within);
        goes = λ x replies at.
            let on = g.goes (x ++ fed.bytes) replies (fed_at x replies at) in (
              fed.bytes,
              on.0,
              on.1,
              λ tells.
                  let first = fed.told tells in
                  let still = still_tells old mid came.tells tells in
                  let others = only.others still in
                  (others.0 ∙ first.0, on.2 still ∙ ap (λ (w : List ℕ). w ++ joined on.0) first.1, others.1 ∙ first.2),
            );
      };
    }

    -- the session stops at one of them
    stopped_by : (cause : EndCause) → StopsHere table mid new between after cause → Stops table old new before after room cause
    stopped_by cause s = record {
      within = omega (arith, s.taken, taken_fed, fed.within);
      stops = λ x replies at.
          let here = fed_at x replies at in (
            fed.bytes,
            s.taken ∙ here.taken,
            λ tells.
                let first = fed.told tells in
                let still = still_tells old mid came.tells tells in
                let more = s.stops (x ++ fed.bytes) replies here still in (
                  more.0,
                  (only.others still).0 ∙ first.0,
                  more.1 ∙ ap (λ (w : List ℕ). w ++ more.0) first.1,
                  λ limit. more.2 new.ended limit,
                ),
          );
    }

    turn_stopped : (cause : EndCause) → ServesReady table mid new between after (Err cause) → Turns table old new before after room (Err cause)
    turn_stopped cause s = record {
      came = came_all;
      fault = λ is. rose_later old.faults mid.faults new.faults came.later (s.fault is);
      by = stopped_by cause s.by;
    }

    pub turn_ready : (y : List ℕ) → between.decoder.condition ≡ reading y → (result : Result (Unit {0}) EndCause)
        → ServesReady table mid new between after result → Turns table old new before after room result
    turn_ready y reads (Ok u) s = turned u y reads s.by.0 s.by.1
    turn_ready y reads (Err cause) s = turn_stopped cause s

    pub turn_stops : (cause : EndCause) → ServesReady table mid new between after (Err cause) → Turns table old new before after room (Err cause)
    turn_stops cause s = turn_stopped cause s

    -- the input is refused behind them
    module _ (last : LinkSeen) (error : FrameError) (bad : between.decoder.condition ≡ refused error) (g : GoesOn table mid new between after)
        (none : after.decoder.ready ≡ []) (cause : EndCause) (r : Refuses (refusal_by table.set error) new last cause) where
      refused_stops : Stops table old last before after room cause
      refused_stops = record {
        within = omega (arith, g.taken, taken_fed, fed.within);
        stops = λ x replies at.
            let y : List ℕ = x ++ fed.bytes in
            let on = g.goes y replies (fed_at x replies at) in
            let all : List (List ℕ) = replies ++ on.0 in
            let s : Serving = unrefused after.keys all in
            let amid = on.1.amid in
            let condition : after.decoder.condition ≡ refused error = g.condition ∙ bad in
            let first : server_first table y ≡ Some (refusal_by table.set error) =
            first_behind table y after.decoder s amid none refl ∙ ap (λ (c : Condition). option_map (refusal_by table.set) (first_by c (length y))) condition in
            let other = amid_not_short table y after.decoder s amid error condition in (
              fed.bytes,
              on.1.taken,
              λ tells.
                  let one = fed.told tells in
                  let still = still_tells old mid came.tells tells in
                  let later = still_tells mid new only.tells still in
                  let more = r.adds later in (
                    joined on.0 ++ more.0,
                    (r.only.others later).0 ∙ (only.others still).0 ∙ one.0,
                    more.1
                        ∙ ap (λ (w : List ℕ). w ++ more.0) (on.2 still ∙ ap (λ (w : List ℕ). w ++ joined on.0) one.1)
                        ∙ append_assoc old.wrote (joined on.0) more.0,
                    λ limit.
                        subst (λ (w : List ℕ). EndsBy table limit last.ended y w after.answered cause) (joined_again replies on.0 more.0)
                        (ends_refused table y all after.answered on.1.answered last.ended limit
                        (ap (λ (u : Serving). u.replies) (amid_all table y after.decoder s amid none))
                        (refusal_by table.set error) first refl (λ one. absurd (other one)) cause more.0 more.2),
                  ),
            );
      }

      pub turn_refused : Turns table old last before after room (Err cause)
      turn_refused = record {
        came = came_then old new last came_all (came_from new last r.only);
        fault = λ is. rose_later old.faults new.faults last.faults came_all.later (r.fault (let both : cause ≡ LinkFault = cc in both));
        by = refused_stops;
      }

-- ---- a piece that wasn't

pub turn_unread : (table : RecordTable) (old new : LinkSeen) (before after : Talk) (room : ℕ) (cause : EndCause)
    → TakesPiece table.set old new before after room (Err cause) → Turns table old new before after room (Err cause)
turn_unread table old new before after room cause p =
    let bytes : List ℕ = p.by.0 in
    record {
      came = p.came;
      fault = λ is. p.fault (let both : cause ≡ LinkFault = cc in ap (λ (c : EndCause). Err c) both);
      by = record {
        within = omega (arith, p.by.2, p.by.3);
        stops = λ x replies at.
            let s : Serving = unrefused before.keys replies in
            let amid = amid_fed table x before.decoder s at.amid bytes p.by.1 in
            let all = amid_replies table (x ++ bytes) (decoded before.decoder bytes) s amid in (
              bytes,
              omega (arith, p.by.3, at.taken, length-append x bytes),
              λ tells.
                  let told = p.by.5 tells in (
                    told.0,
                    told.1,
                    told.2,
                    λ limit. ends_unread table (x ++ bytes) replies after.answered (p.by.4 ∙ at.answered) new.ended limit cause all.0 all.1 told.0 told.3,
                  ),
            );
      };
    }

-- ---- the end of the input

module _ (table : RecordTable) (old mid new : LinkSeen) (t : Talk) (room : ℕ) (cause : EndCause) (p : TakesPiece table.set old mid t t room (Ok piece.End)) (w : Waits t) where
  finish_by : (found : Option FrameError) → ends_by t.decoder.condition t.decoder.at ≡ found → FinishesWith table.set found mid new cause
      → Turns table old new t t room (Err cause)
  finish_by None is f =
      let same : new ≡ mid = f.1 in
      let came : Came old new = subst (Came old) (sym same) p.came in
      record {
        came = came;
        fault = λ e. let both : cause ≡ LinkFault = cc in let never : Done ≡ LinkFault = sym f.0 ∙ both in absurd (cc);
        by = record {
          within = omega arith;
          stops = λ x replies at.
              let s : Serving = unrefused t.keys replies in
              let all : reply_frames table x ≡ replies = ap (λ (u : Serving). u.replies) (amid_all table x t.decoder s at.amid w.none) in
              let first : server_first table x ≡ None =
              first_behind table x t.decoder s at.amid w.none refl
              ∙ ap (option_map (refusal_by table.set)) (sym (amid_ends table x t.decoder s at.amid w.bytes w.reads) ∙ is) in
              let here : x ≡ x ++ [] = sym (append-nil x) in (
                [],
                at.taken ∙ ap length here,
                λ tells.
                    let told = p.by.1 tells in
                    let ended : new.ended ≡ true = ap (λ (l : LinkSeen). l.ended) same ∙ told.2 in (
                      [],
                      ap (λ (l : LinkSeen). l.took) same ∙ told.0 ∙ sym (append-nil old.took),
                      ap (λ (l : LinkSeen). l.wrote) same ∙ told.1 ∙ sym (append-nil old.wrote),
                      λ limit.
                          subst (λ (c : EndCause). EndsBy table limit new.ended (x ++ []) (joined replies ++ []) t.answered c) (sym f.0)
                          (subst (λ (y : List ℕ). EndsBy table limit new.ended y (joined replies ++ []) t.answered Done) here
                          (ends_done table x replies t.answered at.answered new.ended limit all first ended)),
                    ),
              );
        };
      }
  finish_by (Some error) is f = record {
    came = came_then old mid new p.came (came_from mid new f.only);
    fault = λ e. rose_later old.faults mid.faults new.faults p.came.later (f.fault (let both : cause ≡ LinkFault = cc in both));
    by = record {
      within = omega arith;
      stops = λ x replies at.
          let s : Serving = unrefused t.keys replies in
          let all : reply_frames table x ≡ replies = ap (λ (u : Serving). u.replies) (amid_all table x t.decoder s at.amid w.none) in
          let first : server_first table x ≡ Some (refusal_by table.set error) =
          first_behind table x t.decoder s at.amid w.none refl
          ∙ ap (option_map (refusal_by table.set)) (sym (amid_ends table x t.decoder s at.amid w.bytes w.reads) ∙ is) in
          let here : x ≡ x ++ [] = sym (append-nil x) in (
            [],
            at.taken ∙ ap length here,
            λ tells.
                let told = p.by.1 tells in
                let still = still_tells old mid p.came.tells tells in
                let others = f.only.others still in
                let ended : new.ended ≡ true = others.1 ∙ told.2 in
                let more = f.adds still in (
                  more.0,
                  others.0 ∙ told.0 ∙ sym (append-nil old.took),
                  more.1 ∙ ap (λ (b : List ℕ). b ++ more.0) told.1,
                  λ limit.
                      subst (λ (y : List ℕ). EndsBy table limit new.ended y (joined replies ++ more.0) t.answered cause) here
                      (ends_refused table x replies t.answered at.answered new.ended limit all (refusal_by table.set error) first refl (λ one. ended) cause more.0 more.2),
                ),
          );
    };
  }

  pub turn_finished : Finishes table.set t.decoder mid new cause → Turns table old new t t room (Err cause)
  turn_finished f = finish_by (ends_by t.decoder.condition t.decoder.at) refl f

pub turn_end : (table : RecordTable) (old mid new : LinkSeen) (before after : Talk) (room : ℕ) (cause : EndCause)
    → TakesPiece table.set old mid before after room (Ok piece.End) → Waits before → Finishes table.set after.decoder mid new cause
    → Turns table old new before after room (Err cause)
turn_end table old mid new before after room cause p w f =
    let P : Talk → Type 0 =
    λ t. TakesPiece table.set old mid before t room (Ok piece.End) → Finishes table.set t.decoder mid new cause → Turns table old new before t room (Err cause) in
    subst P (sym p.by.0) (λ q g. turn_finished table old mid new before room cause q w g) p f

-- ---- the set

pub takes_same : (table : RecordTable) (s : ParamSet) (old new : LinkSeen) (before after : Talk) (room : ℕ) (result : Result Piece EndCause) → s ≡ table.set
    → TakesPiece s old new before after room result → TakesPiece table.set old new before after room result
takes_same table s old new before after room result is = subst (λ (u : ParamSet). TakesPiece u old new before after room result) is

pub finishes_same : (table : RecordTable) (s : ParamSet) (d : Decoding) (old new : LinkSeen) (cause : EndCause) → s ≡ table.set → Finishes s d old new cause
    → Finishes table.set d old new cause
finishes_same table s d old new cause is = subst (λ (u : ParamSet). Finishes u d old new cause) is

pub refused_same : (table : RecordTable) (s : ParamSet) (code place : ℕ) (error : FrameError) (old new : LinkSeen) (cause : EndCause) → s ≡ table.set
    → code ≡ code_of error → place ≡ place_of error → Refuses (record { set = s; code = code; place = place }) old new cause
    → Refuses (refusal_by table.set error) old new cause
refused_same table s code place error old new cause set code_is place_is r =
    let one : Refuses (record { set = table.set; code = code; place = place }) old new cause =
    subst (λ (u : ParamSet). Refuses (record { set = u; code = code; place = place }) old new cause) set r in
    let two : Refuses (record { set = table.set; code = code_of error; place = place }) old new cause =
    subst (λ (k : ℕ). Refuses (record { set = table.set; code = k; place = place }) old new cause) code_is one in
    subst (λ (k : ℕ). Refuses (record { set = table.set; code = code_of error; place = k }) old new cause) place_is two

pub gives_up_same : (table : RecordTable) (s : ParamSet) (old new : LinkSeen) (cause : EndCause) → s ≡ table.set → GivesUp s old new cause
    → GivesUp table.set old new cause
gives_up_same table s old new cause is = subst (λ (u : ParamSet). GivesUp u old new cause) is

pub turns_same : (a b : Served) (old new : LinkSeen) (before after : Talk) (room : ℕ) (result : Result (Unit {0}) EndCause) → a ≡ b
    → Turns a.table old new before after room result → Turns b.table old new before after room result
turns_same a b old new before after room result is = subst (λ (s : Served). Turns s.table old new before after room result) is

-- ---- the session

pub standing_begun : (table : RecordTable) (base : LinkSeen) (t : Talk) → IsTrue base.is_open → (IsTrue base.tells → base.ended ≡ false) → IsFresh t
    → Standing table base base t
standing_begun table base t is_open fresh new = record {
  came = came_from base base (only_none base is_open);
  x = [];
  replies = [];
  at = subst (TalkAt table [] []) (sym new) (record { amid = amid_begun table; fit = tt; taken = refl; answered = refl; small = omega arith });
  waits = subst Waits (sym new) (record { none = refl; bytes = []; reads = refl });
  told = λ tells. (sym (append-nil base.took), sym (append-nil base.wrote), fresh tells);
}

module _ (table : RecordTable) (base now : LinkSeen) (t : Talk) (s : Standing table base now t) where
  pub standing_talk : IsTalk table t
  standing_talk = record { x = s.x; replies = s.replies; at = s.at }

  module _ (new : LinkSeen) (after : Talk) (room : ℕ) where
    pub standing_on : (u : Unit {0}) → Turns table now new t after room (Ok u) → Standing table base new after
    standing_on u turn =
        let on = turn.by.goes s.x s.replies s.at in
        record {
          came = came_then base now new s.came turn.came;
          x = s.x ++ on.0;
          replies = s.replies ++ on.1;
          at = on.2;
          waits = turn.by.waits;
          told = λ tells.
              let before = s.told tells in
              let more = on.3 (still_tells base now s.came.tells tells) in (
                more.0 ∙ ap (λ (w : List ℕ). w ++ on.0) before.0 ∙ append_assoc base.took s.x on.0,
                more.1 ∙ ap (λ (w : List ℕ). w ++ joined on.1) before.1 ∙ joined_behind base.wrote s.replies on.1,
                more.2 ∙ before.2,
              );
        }

    pub standing_within : (u : Unit {0}) (limit : ℕ) → Turns table now new t after room (Ok u) → t.taken + room ≤ limit → after.taken ≤ limit
    standing_within u limit turn fits = omega (arith, turn.by.within, fits)

    pub session_stopped : (limit : ℕ) (cause : EndCause) → Turns table now new t after room (Err cause) → t.taken + room ≤ limit
        → SessionEnds table limit base new (record { answered = after.answered; taken = after.taken; cause = cause })
    session_stopped limit cause turn fits =
        let came = came_then base now new s.came turn.came in
        let on = turn.by.stops s.x s.replies s.at in
        record {
          tells = came.tells;
          is_open = came.is_open;
          later = came.later;
          fault = λ is. rose_later base.faults now.faults new.faults s.came.later (turn.fault (ap (λ (c : EndCause). Err c) is));
          within = omega (arith, turn.by.within, fits);
          others = came.others;
          told = λ tells.
              let before = s.told tells in
              let more = on.2 (still_tells base now s.came.tells tells) in (
                s.x ++ on.0,
                joined s.replies ++ more.0,
                more.1 ∙ ap (λ (w : List ℕ). w ++ on.0) before.0 ∙ append_assoc base.took s.x on.0,
                more.2 ∙ ap (λ (w : List ℕ). w ++ more.0) before.1 ∙ append_assoc base.wrote (joined s.replies) more.0,
                on.1,
                more.3 limit,
              );
        }

  open_ended : (y : List ℕ) (size : ℕ) → IsOpenEnded (option_map (refusal_by table.set) (first_by (reading y) size))
  open_ended [] size = tt
  open_ended (byte ∷ y) size = refl

  pub session_limited : (limit : ℕ) → t.taken ≤ limit → limit ≤ t.taken
      → SessionEnds table limit base now (record { answered = t.answered; taken = t.taken; cause = Limit })
  session_limited limit low high =
      let u : Serving = unrefused t.keys s.replies in
      let all : reply_frames table s.x ≡ s.replies = ap (λ (v : Serving). v.replies) (amid_all table s.x t.decoder u s.at.amid s.waits.none) in
      let first : server_first table s.x ≡ option_map (refusal_by table.set) (first_by (reading s.waits.bytes) (length s.x)) =
      first_behind table s.x t.decoder u s.at.amid s.waits.none refl
      ∙ ap (λ (c : Condition). option_map (refusal_by table.set) (first_by c (length s.x))) s.waits.reads in
      let is_open : IsOpenEnded (server_first table s.x) = subst IsOpenEnded (sym first) (open_ended s.waits.bytes (length s.x)) in
      record {
        tells = s.came.tells;
        is_open = s.came.is_open;
        later = s.came.later;
        fault = λ is. absurd (cc);
        within = low;
        others = s.came.others;
        told = λ tells.
            let told = s.told tells in (
              s.x,
              joined s.replies,
              told.0,
              told.1,
              s.at.taken,
              ends_limit table s.x s.replies t.answered s.at.answered now.ended limit all is_open told.2 (omega (arith, s.at.taken)),
            );
      }

-- there was no memory to begin
pub session_unbegun : (table : RecordTable) (limit : ℕ) (base new : LinkSeen) (cause : EndCause) → GivesUp table.set base new cause
    → SessionEnds table limit base new (record { answered = 0; taken = 0; cause = cause })
session_unbegun table limit base new cause g =
    let came = came_from base new g.only in
    record {
      tells = came.tells;
      is_open = came.is_open;
      later = came.later;
      fault = λ is. let never : NoMemory ≡ LinkFault = sym g.wanting ∙ is in absurd (cc);
      within = omega arith;
      others = came.others;
      told = λ tells.
          let more = g.adds tells in
          let all = amid_replies table [] _ _ (amid_begun table) in (
            [],
            more.0,
            (g.only.others tells).0 ∙ sym (append-nil base.took),
            more.1,
            refl,
            subst (λ (c : EndCause). EndsBy table limit new.ended [] more.0 0 c) (sym g.wanting)
                (ends_wanting table [] [] 0 refl new.ended limit all.0 all.1 more.0 more.2),
          );
    }
