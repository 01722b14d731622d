-- How contracts see the messages of frames.
use Rattle.pir_wire.specs.declared.message.Message.{Message as Read}
use Rattle.pir_wire.specs.declared.message.Message.TheVariants as read
use Rattle.spiral_frames.specs.Frames.{Message, setup_message, query_message, reply_message, refuse_message, state_message}

abbrev pub message_seen : Read → Message
message_seen (read.Setup keys) = setup_message keys
message_seen (read.Query query) = query_message query
message_seen (read.Reply reply) = reply_message reply
message_seen (read.Refuse set code at) = refuse_message (record { set = set; code = code; place = at })
message_seen (read.State state) = state_message state
