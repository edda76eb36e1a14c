use Rattle.std.proofs.Common.{◌≡◌, Bool, true, false, ℤ, pos, ◌+ℤ◌, ◌*ℤ◌, is_some, if◌then◌else◌, to_z, of_z, w16, w32, arith, ap, ap₂, sym, ◌∙◌}
use Rattle.std.proofs.lemmas.Int.{ints}
use Rattle.sgm_base.specs.Ranges.{Within}
use Rattle.sgm_fine.proofs.slopes.with_step.Goals as goal
use Rattle.sgm_fine.proofs.slopes.with_step.Goals.{then-is_some, else-is_some}

added : (a b : ℤ) → Within 1600 a → Within 16777216 b → to_z w32 (of_z w32 (to_z w32 (of_z w32 a) +ℤ to_z w32 (of_z w32 b))) ≡ a +ℤ b
added a b ha hb = omega (arith, ints, ha.0, ha.1, hb.0, hb.1)

held : (z : ℤ) → Within 32 z → to_z w16 (of_z w16 z) ≡ z
held z h = omega (arith, ints, h.0, h.1)

near : (z : ℤ) → Within 2 z → Within 32 z
near z h = (omega (arith, ints, h.0), omega (arith, ints, h.1))

times_one : (z : ℤ) → z ≡ z *ℤ pos 1
times_one z = omega (arith, ints)

times_none : (z : ℤ) → pos 0 ≡ z *ℤ pos 0
times_none z = omega (arith, ints)

marked : (z : ℤ) (a b : Bool) → a ≡ b → z *ℤ (if a then pos 1 else pos 0) ≡ z *ℤ (if b then pos 1 else pos 0)
marked z a b e = ap (λ t. z *ℤ (if t then pos 1 else pos 0)) e

pub returns-clause-moment : goal.returns-clause-moment
returns-clause-moment c =
    let step : to_z w16 (of_z w16 c.unwrap_or.result) ≡ c.unwrap_or.result = omega (arith, ints, c.unwrap_or.type_inv) in
    added c.args.slope.moment c.product.result c.requires.slope.moment c.product.ensures.small
    ∙ ap (λ (z : ℤ). c.args.slope.moment +ℤ z) (c.product.ensures.value ∙ ap₂ (λ (y z : ℤ). y *ℤ z) (held c.args.distance (near c.args.distance c.requires.distance)) (step ∙ c.unwrap_or.ensures))

pub returns-clause-spread : goal.returns-clause-spread
returns-clause-spread c =
    let s = c.args.slope.spread in
    let d = c.args.distance in
    let h = c.requires.slope.spread in
    let small : Within 1600 s = (omega (arith, ints, h.0), omega (arith, ints, h.1)) in
    let same = held d (near d c.requires.distance) in
    elim c.if-is_some.branch [
      | then-is_some w ↦
          ap (λ (z : ℤ). to_z w32 (of_z w32 (to_z w32 (of_z w32 s) +ℤ z))) w.result-is ∙ added s c.product-square.result small c.product-square.ensures.small
          ∙ ap (λ (z : ℤ). s +ℤ z) (c.product-square.ensures.value ∙ ap₂ (λ (y z : ℤ). y *ℤ z) same same ∙ times_one (d *ℤ d) ∙ marked (d *ℤ d) true (is_some c.args.step) (sym w.if-is_some.true ∙ c.is_some.ensures))
      | else-is_some w ↦
          ap (λ (z : ℤ). to_z w32 (of_z w32 (to_z w32 (of_z w32 s) +ℤ z))) w.result-is ∙ added s (pos 0) small (omega (arith, ints), omega (arith, ints))
          ∙ ap (λ (z : ℤ). s +ℤ z) (times_none (d *ℤ d) ∙ marked (d *ℤ d) false (is_some c.args.step) (sym w.if-is_some.false ∙ c.is_some.ensures))
    ]
