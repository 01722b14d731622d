use Rattle.std.proofs.Common.{refl}
use Rattle.tool_base.specs.Words.{noise_seen}
use Rattle.tool_files.proofs.WithGiven.{with_given, without_words, named_words}
use Rattle.tool_files.proofs.Reporting.{noise_rest, noise_reported}
use Rattle.tool_files.proofs.noise.noise_files.Goals as goal

pub returns-in-Err : goal.returns-in-Err
returns-in-Err g c =
    let n = noise_seen c.args.noise.now in without_words n.set_name n.index n.source (noise_rest n) _ c.in-Err.status c.in-Err.ensures

pub measure_for-requires : goal.measure_for-requires
measure_for-requires g c = record { known = c.in-Ok.ensures.0.known }

pub returns : goal.returns
returns g c =
    let n = noise_seen c.args.noise.now in
    with_given n.set_name n.index n.source (noise_rest n) _ _ _ _ _ _ c.in-Ok.given.set c.deref.result.now c.finish.result
    (named_words n.set_name n.index n.source _ _ c.in-Ok.given.set _ c.deref.result.now c.deref.ensures.value c.in-Ok.ensures.0) c.in-Ok.ensures.1
    (noise_reported n c.in-Ok.given.set c.deref.result.now c.in-Ok-measure_for.report c.in-Ok-lines_of.lines.items c.deref-2.result.now _ c.finish.result c.in-Ok.ensures.0.known
    c.in-Ok-measure_for.ensures.measures.1 c.in-Ok-lines_of.ensures c.deref-2.ensures.value (refl, c.finish.ensures))
