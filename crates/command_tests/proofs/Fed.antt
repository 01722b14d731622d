-- The room that a decoder has left where bytes are fed in pieces.
use Rattle.std.proofs.Common.{◌≡◌, ℕ, ◌+◌, ◌-◌, ◌≤◌, ◌<◌, ◌^◌, List, ◌++◌, length, take, drop, sym, subst, arith}
use Rattle.std.proofs.lemmas.List.{length-take, length-drop}
use Rattle.frame_streams.specs.Decoding.{Condition, refused, wanting, reading, Decoding, RoomIn, HasRoom, decoded}
use Rattle.frame_streams.proofs.Onwards.{room_kept}

less_in : (c : Condition) (at n k : ℕ) → k ≤ n → RoomIn c at n → RoomIn c at k
less_in (reading bytes) at n k less room = omega (arith, less, room)
less_in (refused error) at n k less room = tt
less_in wanting at n k less room = tt

module _ (d : Decoding) (bytes : List ℕ) (place count : ℕ) (within : place + count ≤ length bytes) where
  abbrev piece : List ℕ
  piece = take (place + count - place) (drop place bytes)

  size : length piece ≡ count
  size = omega (arith, length-take (place + count - place) (drop place bytes), length-drop place bytes, within)

  pub room_for_piece : HasRoom d (length bytes - place) → HasRoom d (length piece)
  room_for_piece room = less_in d.condition d.at (length bytes - place) (length piece) (omega (arith, size, within)) room

  pub room_behind_piece : (new : Decoding) → new ≡ decoded d piece → HasRoom d (length bytes - place) → HasRoom new (length bytes - (place + count))
  room_behind_piece new is room =
      let all : length bytes - place ≡ length piece + (length bytes - (place + count)) = omega (arith, size, within) in
      subst (λ (e : Decoding). HasRoom e (length bytes - (place + count))) (sym is)
      (room_kept d piece (length bytes - (place + count)) (subst (λ (k : ℕ). HasRoom d k) all room))
