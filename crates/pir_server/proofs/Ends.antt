-- How a session ends, for each cause: what was read and written, said of the whole input.
use Rattle.std.proofs.Common.{◌≡◌, ℕ, zero, suc, ◌≤◌, inl, inr, Bool, true, false, List, [], ◌∷◌, ◌++◌, length, take, Option, Some, None, refl, ap, ap₂, sym, subst, ◌∙◌, arith, length-append, append_assoc}
use Rattle.std.specs.Prelude.{slice_index_or}
use Rattle.std.proofs.lemmas.List.{append-nil, take_at, get_or_at}
use Rattle.spiral_sets.specs.declared.param_set.ParamSet.{ParamSet}
use Rattle.spiral_model.specs.Databases.{RecordTable}
use Rattle.spiral_frames.specs.Frames.{PeerRefusal}
use Rattle.frame_streams.specs.Serving.{server_first, replies_to, refuse_frame, serve_bytes}
use Rattle.pir_server.specs.declared.session.EndCause.{EndCause}
use Rattle.pir_server.specs.declared.session.EndCause.TheVariants.{Done, Refused, LinkFault, Limit, NoMemory}
use Rattle.pir_server.specs.Sessions.{reply_frames, joined, IsOpenEnded, no_memory_frame, EndsBy}
use Rattle.pir_server.specs.Talks.{IsFrontOf, FailedSo, RefusedSo}

abbrev no_bytes : List ℕ
no_bytes = []

take_none : (k : ℕ) → take k (no_bytes) ≡ no_bytes
take_none zero = refl
take_none (suc k) = refl

module _ (table : RecordTable) (x : List ℕ) (replies : List (List ℕ)) (answered : ℕ) (count : answered ≡ length replies) (ended : Bool) (limit : ℕ) where
  -- the replies written are the first of all
  module _ (later : List (List ℕ)) (all : reply_frames table x ≡ replies ++ later) where
    within : answered ≤ length (reply_frames table x)
    within = omega (arith, count, ap length all, length-append replies later)

    written : joined replies ≡ joined (take answered (reply_frames table x))
    written = ap joined (sym (ap (take answered) all ∙ take_at replies later answered (sym count)))

    -- memory was wanting
    pub ends_wanting : (more : List ℕ) → IsFrontOf (no_memory_frame table.set) more → EndsBy table limit ended x (joined replies ++ more) answered NoMemory
    ends_wanting more front = (within, front.0, ap₂ (λ (a b : List ℕ). a ++ b) written front.1)

    -- a call failed that wrote nothing
    pub ends_quiet : (more : List ℕ) → more ≡ [] → EndsBy table limit ended x (joined replies ++ more) answered LinkFault
    ends_quiet more none = (within, 0, inl (ap₂ (λ (a b : List ℕ). a ++ b) written none))

  -- a reply failed
  pub ends_replying : (frame : List ℕ) (later : List (List ℕ)) → reply_frames table x ≡ (replies ++ frame ∷ []) ++ later → (more : List ℕ) → IsFrontOf frame more
      → EndsBy table limit ended x (joined replies ++ more) answered LinkFault
  ends_replying frame later all more front =
      let on : reply_frames table x ≡ replies ++ frame ∷ later = all ∙ append_assoc replies (frame ∷ []) later in
      let there : slice_index_or (reply_frames table x) answered [] ≡ frame =
      ap (λ (fs : List (List ℕ)). slice_index_or fs answered []) on ∙ get_or_at replies frame later [] answered (sym count) in (
        within (frame ∷ later) on,
        front.0,
        inl (ap₂ (λ (a b : List ℕ). a ++ b) (written (frame ∷ later) on) (front.1 ∙ ap (take front.0) (sym there))),
      )

  pub ends_failed : (cause : EndCause) (frame : List ℕ) (later : List (List ℕ)) → reply_frames table x ≡ (replies ++ frame ∷ []) ++ later → (more : List ℕ)
      → FailedSo table.set frame cause more → EndsBy table limit ended x (joined replies ++ more) answered cause
  ends_failed Done frame later all more so = absurd so
  ends_failed (Refused code at) frame later all more so = absurd so
  ends_failed LinkFault frame later all more so = ends_replying frame later all more so
  ends_failed Limit frame later all more so = absurd so
  ends_failed NoMemory frame later all more so =
      ends_wanting (frame ∷ later) (all ∙ append_assoc replies (frame ∷ []) later) more so

  -- reading failed, or feeding
  pub ends_unread : (cause : EndCause) (later : List (List ℕ)) → reply_frames table x ≡ replies ++ later → (more : List ℕ) → FailedSo table.set [] cause more
      → EndsBy table limit ended x (joined replies ++ more) answered cause
  ends_unread Done later all more so = absurd so
  ends_unread (Refused code at) later all more so = absurd so
  ends_unread LinkFault later all more so = ends_quiet later all more (so.1 ∙ take_none so.0)
  ends_unread Limit later all more so = absurd so
  ends_unread NoMemory later all more so = ends_wanting later all more so

  -- ---- all messages were served

  module _ (all : reply_frames table x ≡ replies) where
    every : reply_frames table x ≡ replies ++ []
    every = all ∙ sym (append-nil replies)

    counted : answered ≡ length (reply_frames table x)
    counted = count ∙ ap length (sym all)

    replied : joined replies ≡ replies_to table x
    unfolding replies_to
    replied = ap joined (sym all)

    served_all : (found : Option PeerRefusal) → server_first table x ≡ found → joined replies ++ refuse_frame found ≡ serve_bytes table x
    unfolding serve_bytes
    served_all found is = ap₂ (λ (a b : List ℕ). a ++ b) replied (ap refuse_frame (sym is))

    -- the input has a refusal
    pub ends_refused : (refusal : PeerRefusal) → server_first table x ≡ Some refusal → refusal.set ≡ table.set → (refusal.code ≡ 1 → ended ≡ true)
        → (cause : EndCause) (more : List ℕ) → RefusedSo refusal cause more → EndsBy table limit ended x (joined replies ++ more) answered cause
    ends_refused refusal first set short Done more so = absurd so
    ends_refused refusal first set short (Refused code at) more so = (
      refusal,
      first,
      sym so.0,
      sym so.1,
      λ one. short (sym so.0 ∙ one),
      ap (λ (b : List ℕ). joined replies ++ b) so.2 ∙ served_all (Some refusal) first,
      counted,
    )
    ends_refused refusal first set short LinkFault more so =
        let last : IsOpenEnded (server_first table x) → ended ≡ true = λ is_open. short (subst IsOpenEnded first is_open) in
        let wrote : joined replies ++ more ≡ replies_to table x ++ take so.0 (refuse_frame (server_first table x)) =
        ap₂ (λ (a b : List ℕ). a ++ b) replied (so.1 ∙ ap (λ (found : Option PeerRefusal). take so.0 (refuse_frame found)) (sym first)) in
        (within [] every, so.0, inr (last, counted, wrote))
    ends_refused refusal first set short Limit more so = absurd so
    ends_refused refusal first set short NoMemory more so =
        ends_wanting [] every more (so.0, so.1 ∙ ap (λ (s : ParamSet). take so.0 (no_memory_frame s)) set)

    -- it has none, and has ended
    pub ends_done : server_first table x ≡ None → ended ≡ true → EndsBy table limit ended x (joined replies ++ []) answered Done
    ends_done first is = (is, first, served_all None first, counted)

    -- so many bytes were read
    pub ends_limit : IsOpenEnded (server_first table x) → ended ≡ false → length x ≡ limit → EndsBy table limit ended x (joined replies) answered Limit
    ends_limit is_open is size = (is, size, is_open, replied, counted)
