use Rattle.std.proofs.Common.{◌≡◌, ◌*◌, ℕ, ap, ◌∙◌, arith, rules}
use Rattle.sgm_stages.specs.Pair.{pair_sample}
use Rattle.sgm_stages.proofs.PairLaws.{first_pixels, sample_more, byte_more, all_pixels}
use Rattle.sgm_stages.proofs.generated.samples.Goals as goal

pub loop-i-preserved : goal.loop-i-preserved
loop-i-preserved c = record {
  samples = sample_more c.size.inside.width _ (pair_sample c.args.number c.args.side) _ _ _ c.in_ok-push.ensures.items c.loop-i.invariant.samples c.sample.ensures.value;
  bytes = byte_more _ _ _ c.in_ok-push.ensures.items c.loop-i.invariant.bytes c.sample.ensures.byte;
}

pub returns-clause-samples : goal.returns-clause-samples
returns-clause-samples c =
    let f = pair_sample c.args.number c.args.side in let width = c.args.size.width in let height = c.args.size.height in
    let same : c.size.inside.width ≡ width = search rules in
    let whole : c.loop-i.i ≡ width * height = omega (arith, c.pixels-count.ensures.pixels) in
    c.loop-i.invariant.samples ∙ ap (λ (w : ℕ). first_pixels w f c.loop-i.i) same ∙ ap (λ (n : ℕ). first_pixels width f n) whole ∙ all_pixels width height f
