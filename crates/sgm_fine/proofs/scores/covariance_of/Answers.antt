use Rattle.std.proofs.Common.{◌≡◌, ℤ, pos, ◌*ℤ◌, to_z, of_z, w64, arith}
use Rattle.std.proofs.lemmas.Int.{ints}
use Rattle.sgm_base.specs.Ranges.{Within}
use Rattle.sgm_fine.proofs.SideSums.{covariance_fits, covariance_kept, covariance_small, wide_product}
use Rattle.sgm_fine.proofs.scores.covariance_of.Goals as goal

many : (t : ℤ) → Within 2199023255552 t → to_z w64 (of_z w64 (pos 25 *ℤ to_z w64 (of_z w64 t))) ≡ pos 25 *ℤ t
many t h = omega (arith, ints, h.0, h.1)

kept : (a b : ℤ) → Within 1048576 a → Within 1048576 b → to_z w64 (of_z w64 (to_z w64 (of_z w64 a) *ℤ to_z w64 (of_z w64 b))) ≡ a *ℤ b
kept a b p q =
    wide_product 1048576 1048576 a b (to_z w64 (of_z w64 a)) (to_z w64 (of_z w64 b)) (omega arith) (omega (arith, ints, p.0, p.1)) (omega (arith, ints, q.0, q.1)) p q

pub overflow_sub-result : goal.overflow_sub-result
overflow_sub-result c =
    covariance_fits c.args.products c.args.a c.args.b _ _ c.requires.products c.requires.a c.requires.b (many c.args.products c.requires.products)
    (kept c.args.a c.args.b c.requires.a c.requires.b)

pub returns-clause-value : goal.returns-clause-value
returns-clause-value c =
    covariance_kept c.args.products c.args.a c.args.b _ _ c.requires.products c.requires.a c.requires.b (many c.args.products c.requires.products)
    (kept c.args.a c.args.b c.requires.a c.requires.b)

pub returns-clause-small : goal.returns-clause-small
returns-clause-small c =
    covariance_small c.args.products c.args.a c.args.b _ c.requires.products c.requires.a c.requires.b
    (covariance_kept c.args.products c.args.a c.args.b _ _ c.requires.products c.requires.a c.requires.b (many c.args.products c.requires.products)
    (kept c.args.a c.args.b c.requires.a c.requires.b))
