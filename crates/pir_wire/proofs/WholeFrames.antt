-- Whole frames, by their header and their body.
use Rattle.std.proofs.Common.{ℕ, List, ◌≡◌, ◌<◌, ◌↔◌, ◌++◌, length, take, drop, Option, Some, None, Result, Ok, Err, IfOk, IfNone, sym, ◌∙◌, ap, subst, arith}
use Rattle.spiral_sets.specs.declared.param_set.ParamSet.{ParamSet}
use Rattle.spiral_sets.specs.Sets.{IsSet}
use Rattle.frame_headers.specs.declared.kind.FrameKind.{FrameKind}
use Rattle.frame_headers.specs.declared.kind.FrameKind.TheVariants.{Setup, Query, Reply, Refuse, State, Database}
use Rattle.frame_headers.specs.Kinds.{code_of_kind, body_len_of}
use Rattle.frame_headers.specs.Headers.{header}
use Rattle.frame_headers.proofs.HeaderLaws.{length-header, same_front}
use Rattle.spiral_model.specs.Bodies.{CipherBody}
use Rattle.spiral_model.specs.Replies.{QueryState, SwitchedReply}
use Rattle.spiral_model.specs.Databases.{RecordTable}
use Rattle.spiral_frames.specs.Frames.{Message, PeerRefusal, setup_message, query_message, reply_message, refuse_message, state_message, database_message, kind_of, set_of_message, body_of, frame_of, IsMessage, IsOne}
use Rattle.spiral_frames.proofs.FrameLaws.{frame_is, known_of, length-frame, only_front}
use Rattle.spiral_frames.proofs.Bodies.{length-query_body, length-state_body, length-reply_body}
use Rattle.spiral_frames.proofs.SetupBodies.{length-setup_body}
use Rattle.frame_streams.specs.Heads.{header_of}
use Rattle.pir_wire.specs.Headers.{frame_len_of, BeginsWith, HasOtherFront}
use Rattle.pir_wire.specs.Bodies.{IsBodyOf, HasOneLength}

-- what a call says where it found nothing, said in other words
pub none_then : {X E N M : Type 0} (r : Result (Option X) E) → IfOk r (λ found. IfNone found N) → (N → M) → IfOk r (λ found. IfNone found M)
none_then (Ok (Some x)) h f = tt
none_then (Ok None) h f = f h
none_then (Err e) h f = tt

-- ---- the messages of one kind

-- P of every message of that kind
abbrev pub OfKind : (Message → Type 0) → FrameKind → Type 0
OfKind P Setup = (keys : CipherBody) → P (setup_message keys)
OfKind P Query = (query : CipherBody) → P (query_message query)
OfKind P Reply = (reply : SwitchedReply) → P (reply_message reply)
OfKind P Refuse = (refusal : PeerRefusal) → P (refuse_message refusal)
OfKind P State = (state : QueryState) → P (state_message state)
OfKind P Database = (table : RecordTable) → P (database_message table)

at_message : (P : Message → Type 0) (m : Message) → OfKind P (kind_of m) → P m
at_message P (setup_message keys) each = each keys
at_message P (query_message query) each = each query
at_message P (reply_message reply) each = each reply
at_message P (refuse_message refusal) each = each refusal
at_message P (state_message state) each = each state
at_message P (database_message table) each = each table

pub of_kind : (P : Message → Type 0) (kind : FrameKind) → OfKind P kind → (m : Message) → kind_of m ≡ kind → P m
of_kind P kind each m is = at_message P m (subst (OfKind P) (sym is) each)

body_length : (m : Message) → HasOneLength (kind_of m) → IsMessage m → length (body_of m) ≡ body_len_of (kind_of m) (set_of_message m)
body_length (setup_message keys) one kept = length-setup_body keys kept
body_length (query_message query) one kept = length-query_body query kept
body_length (reply_message reply) one kept = length-reply_body reply kept
body_length (refuse_message refusal) one kept = absurd one
body_length (state_message state) one kept = length-state_body state kept
body_length (database_message table) one kept = absurd one

module _ (kind : FrameKind) (one : HasOneLength kind) (m : Message) (kind_is : kind_of m ≡ kind) where
  length_is : IsMessage m → length (body_of m) ≡ body_len_of kind (set_of_message m)
  length_is kept = body_length m (subst HasOneLength (sym kind_is) one) kept ∙ ap (λ (k : FrameKind). body_len_of k (set_of_message m)) kind_is

  pub length_of_body : (set : ParamSet) (body : List ℕ) → IsBodyOf set body m → length body ≡ body_len_of kind set
  length_of_body set body is = ap length is.spelled ∙ length_is is.kept ∙ ap (body_len_of kind) is.set_is

  frame_by_kind : IsMessage m → frame_of m ≡ header_of kind (set_of_message m) ++ body_of m
  frame_by_kind kept =
      frame_is m (body_len_of kind (set_of_message m)) (length_is kept)
      ∙ ap (λ (k : FrameKind). header (code_of_kind k) (set_of_message m) (body_len_of kind (set_of_message m)) ++ body_of m) kind_is

  -- ---- a frame, and the body behind its header

  module _ (bytes : List ℕ) where
    module _ (set : ParamSet) (start : ℕ) (begins : BeginsWith kind bytes set start) where
      pub one_of_body : IsBodyOf set (drop start bytes) m → IsOne kind bytes m
      one_of_body is = record {
        kind_is = kind_is;
        spells = record {
          is = is.kept;
          spelled =
              begins.front ∙ ap (λ (s : ParamSet). header_of kind s ++ drop start bytes) (sym is.set_is)
              ∙ ap (λ (body : List ℕ). header_of kind (set_of_message m) ++ body) is.spelled ∙ sym (frame_by_kind is.kept);
        };
      }

      pub body_of_one : IsOne kind bytes m → IsBodyOf set (drop start bytes) m
      body_of_one is =
          let kept : IsMessage m = is.spells.is in
          let parts = same_front (code_of_kind kind) (body_len_of kind) (set_of_message m) set (body_of m) (drop start bytes) (known_of m kept) begins.known
          (sym (is.spells.spelled ∙ frame_by_kind kept) ∙ begins.front) in
          record { set_is = parts.0; kept = kept; spelled = sym parts.1 }

    pub none_of_header : ((set : ParamSet) → IsSet set → HasOtherFront kind bytes set) → IsOne kind bytes m → ⊥
    none_of_header none is =
        let kept : IsMessage m = is.spells.is in
        none (set_of_message m) (known_of m kept) (body_of m) (is.spells.spelled ∙ frame_by_kind kept)

  -- ---- a frame in the front of an input, of more bytes than such frames have

  module _ (limit : ℕ) (longer : (set : ParamSet) → IsSet set → frame_len_of kind set < limit) (front input : List ℕ)
      (is_front : front ≡ take limit input) where
    shorter : {x : List ℕ} → IsOne kind x m → length (frame_of m) < limit
    shorter is =
        let kept : IsMessage m = is.spells.is in
        let set : ParamSet = set_of_message m in
        let len : ℕ = body_len_of kind set in
        omega (arith, longer set (known_of m kept), length-header (code_of_kind kind) set len, length-frame m len (length_is kept))

    pub one_of_front : IsOne kind front m ↔ IsOne kind input m
    one_of_front = (
      (λ is. (only_front limit kind input m (shorter is)).0 (subst (λ (x : List ℕ). IsOne kind x m) is_front is)),
      (λ is. subst (λ (x : List ℕ). IsOne kind x m) (sym is_front) ((only_front limit kind input m (shorter is)).1 is)),
    )
