-- The reply to a look-up opens to the record that was asked for.
use Rattle.std.proofs.Common.{ℕ, List, Result, Ok, Err, sym, ◌∙◌, ap, ap₂, arith}
use Rattle.spiral_model.specs.Replies.{QueryState, SwitchedReply, open_bytes}
use Rattle.noise_laws.proofs.LookUps.{of_one_set, asked_below, look_up_opens}
use Rattle.pir_client.specs.declared.opening.OpenError.{OpenError}
use Rattle.pir_client.specs.declared.opening.OpenError.TheVariants.{WrongSet, Absent, NoMemory}
use Rattle.pir_client.specs.Opens.{Opens, Retrieves}

-- Where the answer is right for state and reply, it is so for those of a look-up.
pub retrieved : {T : Type 0} (bytes_of : T → List ℕ) (state : QueryState) (reply : SwitchedReply) (result : Result T OpenError)
    → Opens bytes_of state reply result → Retrieves bytes_of state reply result
retrieved bytes_of state reply (Ok opened) opens table words index look_up state_is reply_is =
    opens.2 ∙ ap₂ open_bytes state_is reply_is ∙ look_up_opens table words index look_up
retrieved bytes_of state reply (Err (WrongSet expected found)) opens table words index look_up state_is reply_is =
    opens.2 (ap (λ (s : QueryState). s.set) state_is ∙ of_one_set table words index ∙ ap (λ (r : SwitchedReply). r.set) (sym reply_is))
retrieved bytes_of state reply (Err (Absent asked count)) opens table words index look_up state_is reply_is =
    let below = asked_below table words index look_up in
    let index_is = ap (λ (s : QueryState). s.index) state_is in
    let count_is = ap (λ (r : SwitchedReply). r.count) reply_is in
    omega (arith, below, index_is, count_is, opens.1, opens.2, opens.3)
retrieved bytes_of state reply (Err NoMemory) opens table words index look_up state_is reply_is = tt
