-- What a net in memory has left to read, as its fields tell it; and what was read, as it grows.
use Rattle.std.proofs.Common.{ℕ, zero, suc, true, List, [], ◌∷◌, ◌++◌, ◌+◌, ◌≡◌, length, take, drop, refl, ap, sym}
use Rattle.std.proofs.Math.Seq.{take-add}
use Rattle.std.proofs.lemmas.List.{length-map}
use Rattle.std.proofs.lemmas.Option.{slice_get-map}
use Rattle.pir_io.specs.declared.sessions.Sessions.{Sessions}
use Rattle.pir_io.specs.NetPlan.{left_to_read}
use Rattle.pir_io.specs.Sessions.{sessions_seen, sessions_plan, input_of}

drop_taken : (n : ℕ) (xs : List ℕ) → drop (length (take n xs)) xs ≡ drop n xs
drop_taken zero xs = refl
drop_taken (suc n) [] = refl
drop_taken (suc n) (x ∷ xs) = drop_taken n xs

pub left_is : (faults : ℕ) (sessions : Sessions) → (sessions_seen faults sessions).is_open ≡ true → left_to_read (sessions_plan sessions) (sessions_seen faults sessions) ≡ drop sessions.read (input_of sessions)
left_is faults sessions is_open = simp (is_open, length-map, slice_get-map, drop_taken)

-- what was read grows by what is read next
pub taken_more : (input into : List ℕ) (read n : ℕ) → take n into ≡ take n (drop read input) → take (read + n) input ≡ take read input ++ take n into
taken_more input into read n next = rw take-add (ap (λ xs. take read input ++ xs) (sym next))
