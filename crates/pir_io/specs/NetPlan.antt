-- The inputs of a net in memory, and what its reads give of them.
use Rattle.std.specs.Prelude.{ℕ, List, [], ◌++◌, ◌≡◌, length, take, drop, min, unwrap_or, slice_get, Option, None, true, false, Result, IsOkAnd}
use Rattle.std.specs.Option.{option_map}
use Rattle.pir_io.specs.declared.fault.IoFault.{IoFault}
use Rattle.pir_io.specs.Link.{LinkSeen, net_log}
use Rattle.pir_io.specs.Net.{log_of, at_hand}

-- what the peer sends in each session, and the most bytes that a read gives
pub record NetPlan : Type 0 where
  pub inputs : List (List ℕ)
  pub piece : ℕ

-- what the peer sends in the session at hand; nothing in those past the last input
abbrev pub input_at_hand : NetPlan → LinkSeen → List ℕ
input_at_hand plan net = unwrap_or (slice_get plan.inputs (length (log_of net).past)) []

-- what was not read of it yet
abbrev pub left_to_read : NetPlan → LinkSeen → List ℕ
left_to_read plan net = drop (length net.took) (input_at_hand plan net)

-- a read gives the next bytes of the input, as many as it may
abbrev pub ReadsInput : NetPlan → LinkSeen → List ℕ → Result ℕ IoFault → Type 0
ReadsInput plan net into result = IsOkAnd result (λ n. (n ≡ min (min plan.piece (length into)) (length (left_to_read plan net)))
    × (take n into ≡ take n (left_to_read plan net)))

-- the bytes written in a session; none where it hasn't begun
abbrev pub written_in : LinkSeen → ℕ → Option (List ℕ)
written_in net session = option_map (λ s. s.wrote) (slice_get ((log_of net).past ++ at_hand net) session)

-- no session has begun, and there is no address
abbrev pub unused_net : LinkSeen
unused_net = record { tells = true; is_open = false; took = []; wrote = []; ended = false; closed = false; faults = 0; log = net_log (record { past = []; addr = None; start = None; faults_at_start = 0 }) }
