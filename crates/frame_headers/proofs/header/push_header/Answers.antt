use Rattle.std.proofs.Common.{ap, ◌∙◌, List, ℕ, ◌++◌}
use Rattle.frame_headers.proofs.HeaderLaws.{header_pushed}
use Rattle.frame_headers.proofs.header.push_header.Goals as goal

pub returns : goal.returns
returns c =
    header_pushed c.args.code c.args.body_len c.args.set.now _ _ _ _ _ _ _ c.name-name.result.now c.to_le_bytes.result
    c.in_ok-extend_from_slice.ensures.items c.in_ok-push.ensures.items c.in_ok-push-2.ensures.items
    c.name-name.ensures c.in_ok-push-3.ensures.items
    (c.in_ok-extend_from_slice-2.ensures.items ∙ ap (λ (name : List ℕ). c.push-3.new.self.items ++ name) c.as_bytes.ensures.value)
    c.to_le_bytes.ensures c.in_ok-extend_from_slice-3.ensures.items
