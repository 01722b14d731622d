-- What is seen of a link in memory, all whose input is at hand.
use Rattle.std.specs.Prelude.{ℕ, List, [], true, false, take}
use Rattle.pir_io.specs.Link.{LinkSeen, Log, no_log, wrapped_log}
use Rattle.tool_local.specs.declared.buffer_link.BufferLink.{BufferLink}

-- what it was made with, which its log keeps: the input and the length of a piece
abbrev pub made_with : List ℕ → ℕ → Log
made_with input piece = wrapped_log no_log (record { bytes = input; room = piece; took = []; wrote = []; ended = false; closed = false })

-- it counts no fault
abbrev pub buffer_seen : BufferLink → LinkSeen
buffer_seen link = record {
  tells = true;
  is_open = true;
  took = take link.read link.input.items;
  wrote = link.wrote.items;
  ended = link.ended;
  closed = link.closed;
  faults = 0;
  log = made_with link.input.items link.piece;
}

-- nothing was read or written, and neither side has ended
abbrev pub unused_buffer : List ℕ → ℕ → LinkSeen
unused_buffer input piece =
    record { tells = true; is_open = true; took = []; wrote = []; ended = false; closed = false; faults = 0; log = made_with input piece }
