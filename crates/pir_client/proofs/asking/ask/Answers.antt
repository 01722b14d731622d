use Rattle.std.proofs.Common.{◌≡◌, Option, refl, sym, subst, arith}
use Rattle.std.specs.Prelude.{IfSome}
use Rattle.std.specs.Option.{option_copied}
use Rattle.spiral_sets.proofs.SetBounds.{n-most}
use Rattle.spiral_model.specs.Bodies.{CipherBody, IsSetup}
use Rattle.spiral_model.specs.Noise.{dealt_report, Fits}
use Rattle.noise_check.proofs.FittingRows.{length-report, report_fits}
use Rattle.pir_client.specs.Asks.{setup_frame}
use Rattle.pir_client.proofs.QueryShapes.{length-dealt, first-miss, keys-framed, asked-is, asked-front}
use Rattle.pir_client.proofs.asking.ask.Goals as goal

pub first_miss-requires : goal.first_miss-requires
first_miss-requires c =
    let rows = dealt_report c.args.set.now c.args.words.now c.args.index in
    omega (
      arith,
      length-report c.args.set.now rows c.in_ok-dealt.dealt.report c.requires.known c.in_ok-dealt.ensures.report,
      length-dealt c.args.set.now c.args.words.now c.args.index,
      n-most c.args.set.now c.requires.known,
    )

pub returns-in-Some-clause-asks : goal.returns-in-Some-clause-asks
returns-in-Some-clause-asks c = (
  c.in_ok-check_words.ensures,
  first-miss c.args.set.now (dealt_report c.args.set.now c.args.words.now c.args.index) c.in_ok-dealt.dealt.report c.in-Some.miss c.index-row.result.now
      c.requires.known
      c.in_ok-dealt.ensures.report c.in-Some.ensures c.index-row.ensures,
)

pub setup_bytes-requires : goal.setup_bytes-requires
setup_bytes-requires c = subst (λ (setup : Option CipherBody). IfSome setup (λ body. IsSetup body)) (sym c.as_ref.ensures.value) c.in_ok-dealt.ensures.keys

pub encode_query-requires : goal.encode_query-requires
encode_query-requires c = c.in_ok-dealt.ensures.shape

pub returns-clause-asks : goal.returns-clause-asks
returns-clause-asks c =
    let set = c.args.set.now in
    let words = c.args.words.now in
    let fits : Fits set words c.args.index =
    (report_fits set (dealt_report set words c.args.index) c.in_ok-dealt.dealt.report c.requires.known c.in_ok-dealt.ensures.report).0 c.in_default.ensures in
    let framed : c.in_ok-setup.setup.items ≡ setup_frame set words =
    keys-framed set c.args.index words c.in_ok-dealt.dealt (option_copied c.as_ref.result) c.in_ok-setup.setup.items c.in_ok-dealt.ensures
    c.as_ref.ensures.value c.in_ok-setup.ensures in
    (c.in_ok-check_words.ensures, asked-is set c.args.index words c.in_ok-dealt.dealt _ c.in_ok-dealt.ensures refl framed c.in_ok-query.ensures refl fits)

pub returns-clause-front : goal.returns-clause-front
returns-clause-front c =
    let set = c.args.set.now in
    let words = c.args.words.now in
    let fits : Fits set words c.args.index =
    (report_fits set (dealt_report set words c.args.index) c.in_ok-dealt.dealt.report c.requires.known c.in_ok-dealt.ensures.report).0 c.in_default.ensures in
    let framed : c.in_ok-setup.setup.items ≡ setup_frame set words =
    keys-framed set c.args.index words c.in_ok-dealt.dealt (option_copied c.as_ref.result) c.in_ok-setup.setup.items c.in_ok-dealt.ensures
    c.as_ref.ensures.value c.in_ok-setup.ensures in
    asked-front set c.args.index words _ c.requires.known
    (asked-is set c.args.index words c.in_ok-dealt.dealt _ c.in_ok-dealt.ensures refl framed c.in_ok-query.ensures refl fits)
