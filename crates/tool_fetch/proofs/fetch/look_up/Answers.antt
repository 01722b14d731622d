use Rattle.std.proofs.Common.{ℕ, ◌≡◌, ◌∙◌, ◌++◌, ap}
use Rattle.frame_headers.specs.Refusals.{code_of, place_of}
use Rattle.tool_base.specs.Texts.{bad_frame_line}
use Rattle.tool_base.proofs.Courses.{refused_as}
use Rattle.tool_fetch.proofs.LookingUp.{bad_frame, sent_these}
use Rattle.tool_fetch.proofs.fetch.look_up.Goals as goal

pub returns-in-Err-Frame : goal.returns-in-Err-Frame
returns-in-Err-Frame g c =
    let error = c.in-Err-Frame.error in
    let line_is : bad_frame_line 2 c.code.result c.place.result ≡ bad_frame_line 2 (code_of error) (place_of error) =
    ap (λ (k : ℕ). bad_frame_line 2 k c.place.result) c.code.ensures ∙ ap (λ (k : ℕ). bad_frame_line 2 (code_of error) k) c.place.ensures in
    bad_frame (g.N.Link.seen c.args.net.now) (g.N.Link.seen c.exchange.new.net) c.args.fetch.now.addr.now c.args.fetch.now.out.now
    (c.args.asked.now.setup.items ++ c.args.asked.now.query.items) c.args.asked.now.state
    (g.F.Files.seen c.args.files.now) (g.O.Sink.seen c.args.sink.now) (g.O.Sink.seen c.refuse_by_text.new.sink) c.refuse_by_text.result error
    (sent_these _ _ _ _ _ _ _ _ c.deref.ensures.value c.deref-2.ensures.value (rw c.in-Err-Frame.field-0-is at c.in-Err-Frame.ensures.does))
    (refused_as _ _ _ _ _ _ line_is (c.refuse_by_text.ensures _ c.bad_frame_text.ensures))
