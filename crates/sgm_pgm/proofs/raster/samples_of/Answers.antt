use Rattle.std.proofs.Common.{◌≡◌, ℕ, ◌+◌, ◌*◌, ◌/◌, ◌∙◌, ◌<◌, length, get_or, arith, nat_lt, Bool, true, false, List, Result, Ok, Err, IfOk, if◌then◌else◌, ap, sym}
use Rattle.std.proofs.lemmas.Result.{IfOk-weaker}
use Rattle.std.specs.Global.{Vec}
use Rattle.sgm_pgm.specs.Raster.{raster_of}
use Rattle.sgm_pgm.proofs.RasterLaws.{raster_of-single, raster_of-double, pairs_are}
use Rattle.sgm_pgm.proofs.raster.samples_of.Goals as goal

pub returns-then-is_single-clause-bytes : goal.returns-then-is_single-clause-bytes
returns-then-is_single-clause-bytes c =
    let low : nat_lt c.args.maxval 256 ≡ true = sym c.is_single.ensures ∙ c.if-is_single.true in
    IfOk-weaker c.single_bytes.result (λ v. v.items ≡ c.args.raster.now) (λ v. raster_of c.args.maxval v.items ≡ c.args.raster.now) (λ v is. raster_of-single c.args.maxval v.items low ∙ is) c.single_bytes.ensures

halves : {E : Type 0} (r : Result (Vec ℕ) E) (maxval : ℕ) (raster : List ℕ) → nat_lt maxval 256 ≡ false → length raster / 2 * 2 ≡ length raster → ((k : ℕ) → get_or raster k 0 < 256) → IfOk r (λ v. length v.items ≡ length raster / 2) → IfOk r (λ v. (k : ℕ) → k < length raster / 2 → get_or v.items k 0 ≡ 256 * get_or raster (2 * k) 0 + get_or raster (2 * k + 1) 0) → IfOk r (λ v. raster_of maxval v.items ≡ raster)
halves (Ok v) maxval raster high even fits half each = raster_of-double maxval v.items high ∙ pairs_are v.items raster (omega arith) fits (λ k lt. each k (omega arith))
halves (Err e) maxval raster high even fits half each = tt

pub returns-else-is_single-clause-bytes : goal.returns-else-is_single-clause-bytes
returns-else-is_single-clause-bytes c =
    let high : nat_lt c.args.maxval 256 ≡ false = sym c.is_single.ensures ∙ c.if-is_single.false in
    let even : length c.args.raster.now ≡ c.args.size.width * c.args.size.height * 2 = c.requires ∙ ap (λ (b : Bool). c.args.size.width * c.args.size.height * (if b then 1 else 2)) high in
    let half : length c.args.raster.now / 2 * 2 ≡ length c.args.raster.now = omega arith in
    halves c.pairs_of_bytes.result c.args.maxval c.args.raster.now high half (λ k. omega (arith, c.type_inv.raster k)) c.pairs_of_bytes.ensures.half c.pairs_of_bytes.ensures.each
