-- Laws of serving: messages one after the other, and what stays of a front of an input.
use Rattle.std.proofs.Common.{◌≡◌, ℕ, ◌≤◌, Bool, true, false, List, [], ◌∷◌, ◌++◌, length, Option, Some, None, refl, ap, sym, ◌∙◌, arith, length-append, append_assoc}
use Rattle.std.specs.Prelude.{not, nat_eq, if◌then◌else◌}
use Rattle.std.proofs.lemmas.List.{append-nil}
use Rattle.spiral_model.specs.Bodies.{CipherBody}
use Rattle.spiral_model.specs.Databases.{RecordTable}
use Rattle.spiral_frames.specs.Frames.{Message, PeerRefusal, setup_message, query_message, reply_message, refuse_message, state_message, database_message, set_of_message}
use Rattle.frame_streams.specs.Decoding.{Placed, Decoding, begun, decoded, messages}
use Rattle.frame_streams.specs.Serving.{reply_frame, Serving, idle, refuse_with, lacks_keys, serve_own, serve_by, serve_one, served, server_kinds, served_input}
use Rattle.frame_streams.proofs.Pieces.{decoded-append}
use Rattle.frame_streams.proofs.Taken.{ready_prefix}

-- ---- one message after another

-- Messages served one part after the other.
pub served-append : (table : RecordTable) (s : Serving) (a b : List Placed) → served table s (a ++ b) ≡ served table (served table s a) b
unfolding served
served-append table s [] b = refl
served-append table s (placed ∷ a) b = served-append table (serve_one table s placed) a b

pub served-nil : (table : RecordTable) (s : Serving) → served table s [] ≡ s
unfolding served
served-nil table s = refl

pub served-cons : (table : RecordTable) (s : Serving) (placed : Placed) (rest : List Placed)
    → served table s (placed ∷ rest) ≡ served table (serve_one table s placed) rest
unfolding served
served-cons table s placed rest = refl

-- One message more behind others.
pub served_more : (table : RecordTable) (s : Serving) (a : List Placed) (placed : Placed)
    → served table s (a ++ placed ∷ []) ≡ serve_one table (served table s a) placed
served_more table s a placed =
    served-append table s a (placed ∷ [])
    ∙ served-cons table (served table s a) placed []
    ∙ served-nil table (serve_one table (served table s a) placed)

-- before a refusal a message is served by its set and kind
pub serve_open : (table : RecordTable) (s : Serving) (placed : Placed) → s.refusal ≡ None → serve_one table s placed ≡ serve_by None table s placed
unfolding serve_one
serve_open table s placed is = ap (λ (r : Option PeerRefusal). serve_by r table s placed) is

-- ---- behind a refusal

pub serve_refused : (table : RecordTable) (s : Serving) (placed : Placed) (refusal : PeerRefusal) → s.refusal ≡ Some refusal → serve_one table s placed ≡ s
unfolding serve_one
serve_refused table s placed refusal is = ap (λ (r : Option PeerRefusal). serve_by r table s placed) is

-- Behind a refusal nothing changes.
pub served_refused : (table : RecordTable) (s : Serving) (a : List Placed) (refusal : PeerRefusal) → s.refusal ≡ Some refusal → served table s a ≡ s
served_refused table s [] refusal is = served-nil table s
served_refused table s (placed ∷ a) refusal is =
    served-cons table s placed a
    ∙ ap (λ (t : Serving). served table t a) (serve_refused table s placed refusal is)
    ∙ served_refused table s a refusal is

-- ---- replies grow

-- the replies of one are those of the other and some more, at most so many
pub record Grows (s t : Serving) (most : ℕ) : Type 0 where
  pub more : List (List ℕ)
  pub replies : t.replies ≡ s.replies ++ more
  pub few : length more ≤ most

grows_none : (s t : Serving) (most : ℕ) → t.replies ≡ s.replies → Grows s t most
grows_none s t most same = record { more = []; replies = same ∙ sym (append-nil s.replies); few = omega arith }

query_grows : (lacks : Bool) (table : RecordTable) (s : Serving) (place : ℕ) (query : CipherBody)
    → Grows s (if lacks then refuse_with table s 12 place else record s { replies = s.replies ++ reply_frame table s.keys query ∷ [] }) 1
query_grows true table s place query = grows_none s _ 1 refl
query_grows false table s place query = record { more = reply_frame table s.keys query ∷ []; replies = refl; few = omega arith }

own_grows : (table : RecordTable) (s : Serving) (place : ℕ) (m : Message) → Grows s (serve_own table s place m) 1
own_grows table s place (setup_message setup) = grows_none s _ 1 refl
own_grows table s place (query_message query) = query_grows (lacks_keys table.set s.keys) table s place query
own_grows table s place (reply_message reply) = grows_none s _ 1 refl
own_grows table s place (refuse_message refusal) = grows_none s _ 1 refl
own_grows table s place (state_message state) = grows_none s _ 1 refl
own_grows table s place (database_message other) = grows_none s _ 1 refl

set_grows : (other : Bool) (table : RecordTable) (s : Serving) (placed : Placed)
    → Grows s (if other then refuse_with table s 11 placed.place else serve_own table s placed.place placed.message) 1
set_grows true table s placed = grows_none s _ 1 refl
set_grows false table s placed = own_grows table s placed.place placed.message

by_grows : (refusal : Option PeerRefusal) (table : RecordTable) (s : Serving) (placed : Placed) → Grows s (serve_by refusal table s placed) 1
by_grows (Some refusal) table s placed = grows_none s s 1 refl
by_grows None table s placed = set_grows (not (nat_eq (set_of_message placed.message).id table.set.id)) table s placed

pub one_grows : (table : RecordTable) (s : Serving) (placed : Placed) → Grows s (serve_one table s placed) 1
unfolding serve_one
one_grows table s placed = by_grows s.refusal table s placed

-- The replies stay in front of what comes, and there are no more than messages.
pub served_grows : (table : RecordTable) (s : Serving) (a : List Placed) → Grows s (served table s a) (length a)
served_grows table s [] = grows_none s (served table s []) 0 (ap (λ (t : Serving). t.replies) (served-nil table s))
served_grows table s (placed ∷ a) =
    let one = one_grows table s placed in
    let rest = served_grows table (serve_one table s placed) a in
    record {
      more = one.more ++ rest.more;
      replies =
          ap (λ (t : Serving). t.replies) (served-cons table s placed a)
          ∙ rest.replies
          ∙ ap (λ (r : List (List ℕ)). r ++ rest.more) one.replies
          ∙ append_assoc s.replies one.more rest.more;
      few = omega (arith, length-append one.more rest.more, one.few, rest.few);
    }

-- ---- a front of an input

-- The messages of a front of an input are the first of its messages.
pub messages_prefix : (kinds : ℕ) (x y : List ℕ) → (later : List Placed) × (messages kinds (x ++ y) ≡ messages kinds x ++ later)
unfolding messages
messages_prefix kinds x y =
    let more = ready_prefix (decoded (begun kinds) x) y in
    (more.0, ap (λ (d : Decoding). d.ready) (decoded-append (begun kinds) x y) ∙ more.1)

-- what a server makes of an input goes on from what it made of a front
pub served_on : (table : RecordTable) (x y : List ℕ) → (later : List Placed) × (served_input table (x ++ y) ≡ served table (served_input table x) later)
unfolding served_input
served_on table x y =
    let more = messages_prefix server_kinds x y in (
      more.0,
      ap (served table idle) more.1 ∙ served-append table idle (messages server_kinds x) more.0,
    )

-- The replies to a front of an input are the first of its replies.
pub replies_prefix : (table : RecordTable) (x y : List ℕ)
    → (later : List (List ℕ)) × ((served_input table (x ++ y)).replies ≡ (served_input table x).replies ++ later)
replies_prefix table x y =
    let on = served_on table x y in
    let grows = served_grows table (served_input table x) on.0 in
    (grows.more, ap (λ (s : Serving). s.replies) on.1 ∙ grows.replies)

-- Once a message of an input is refused, what follows changes nothing.
pub refusal_stays : (table : RecordTable) (x y : List ℕ) (refusal : PeerRefusal) → (served_input table x).refusal ≡ Some refusal
    → served_input table (x ++ y) ≡ served_input table x
refusal_stays table x y refusal is =
    let on = served_on table x y in on.1 ∙ served_refused table (served_input table x) on.0 refusal is
