use Rattle.std.proofs.Common.{◌+◌, ◌*◌, refl, arith}
use Rattle.negacyclic.proofs.Lists.{pushed_more}
use Rattle.spiral_sets.specs.Sets.{digit_count}
use Rattle.spiral_model.specs.Keys.{key_cut}
use Rattle.regev_code.proofs.KeyCuts.{key_cut_is, keys_cut_all}
use Rattle.regev_code.proofs.keys.keys_from.Goals as goal

pub loop-j-preserved : goal.loop-j-preserved
loop-j-preserved c =
    pushed_more (λ i. key_cut c.args.w c.args.ciphers.now (c.args.start + i * digit_count c.args.w)) 0 c.loop-j.j c.loop-j.j c.loop-j.keys.items
    c.push.new.self.items
    c.in_ok-from_ciphers.field-0 (omega arith) c.loop-j.invariant c.in_ok-push.ensures.items
    (key_cut_is c.args.w c.args.start c.loop-j.j c.digit_count-t.result _ _ c.args.ciphers.now c.in_ok-from_ciphers.field-0 c.digit_count-t.ensures.value
    refl (omega arith)
    c.in_ok-from_ciphers.ensures)

pub returns : goal.returns
returns c = keys_cut_all c.args.w c.args.count c.args.start c.loop-j.j c.args.ciphers.now c.loop-j.keys.items (omega arith) c.loop-j.invariant
