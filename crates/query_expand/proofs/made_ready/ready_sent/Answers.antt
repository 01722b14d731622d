use Rattle.std.proofs.Common.{◌≡◌, ◌∙◌, ◌+◌, ℕ, take, ap}
use Rattle.std.proofs.lemmas.List.Elements.{All-take}
use Rattle.spiral_sets.specs.Sets.{rows}
use Rattle.spiral_model.specs.Answering.{firsts_of}
use Rattle.regev_code.specs.Products.{HasShape}
use Rattle.gsw_code.proofs.Products.{shapes_degrees}
use Rattle.query_expand.proofs.Cuts.{sent-is, sent-shape}
use Rattle.query_expand.proofs.made_ready.ready_sent.Goals as goal

front : (c : goal.In_ok-sent_gsws) → c.in_ok-forms_of.field-0.items ≡ firsts_of c.args.set.now c.args.ciphers.now
front c = c.in_ok-forms_of.ensures ∙ ap (λ (n : ℕ). take n c.args.ciphers.now) c.firsts_count-firsts.ensures.value

pub forms_of-requires : goal.forms_of-requires
forms_of-requires c = record {
  degrees =
      shapes_degrees c.args.ring.now c.args.set.now.degree (rows c.args.set.now + 1) _ c.requires.ring
      (All-take (HasShape c.args.set.now.degree (rows c.args.set.now + 1)) c.firsts_count-firsts.result c.args.ciphers.now c.requires.shapes);
}

pub returns-clause-value : goal.returns-clause-value
returns-clause-value c =
    sent-is c.args.set.now c.args.ciphers.now c.in_ok-forms_of.field-0.items c.in_ok-sent_gsws.field-0.items (front c) c.in_ok-sent_gsws.ensures.value

pub returns-clause-shape : goal.returns-clause-shape
returns-clause-shape c =
    sent-shape c.args.set.now c.args.ciphers.now c.in_ok-forms_of.field-0.items c.in_ok-sent_gsws.field-0.items
    c.requires.count c.requires.shapes (front c) c.in_ok-sent_gsws.ensures.value c.in_ok-sent_gsws.ensures.shapes
