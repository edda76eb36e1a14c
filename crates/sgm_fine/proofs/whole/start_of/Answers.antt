use Rattle.std.proofs.Common.{◌≡◌, ◌-ℤ◌, pos, to_z, of_z, w32, ℤ, ◌^◌, arith}
use Rattle.std.proofs.lemmas.Int.{ints}
use Rattle.sgm_base.specs.Ranges.{IsFromTo, Within}
use Rattle.sgm_fine.proofs.PlaceSamples.{lowered}
use Rattle.sgm_fine.proofs.whole.start_of.Goals as goal

-- what the code computes
computed : (l d : ℤ) → Within (2 ^ 22) l → Within 6600 d → IsFromTo (pos 8) (pos 65511) (l -ℤ d)
    → to_z w32 (of_z w32 (to_z w32 (of_z w32 (to_z w32 (of_z w32 l) -ℤ to_z w32 (of_z w32 d))) -ℤ pos 8)) ≡ (l -ℤ d) -ℤ pos 8
computed l d hl hd h = omega (arith, ints, lowered l d hl hd, h.0, h.1)

pub overflow_cast-result : goal.overflow_cast-result
overflow_cast-result c =
    let is = computed _ _ (c.requires.lie.columns c.args.i c.requires.place.0) (c.requires.lie.rows c.args.j c.requires.place.1) (c.requires.among c.args.i c.args.j c.requires.place.0 c.requires.place.1) in
    let h = c.requires.among c.args.i c.args.j c.requires.place.0 c.requires.place.1 in
    (omega (arith, ints, is, h.0, h.1), omega (arith, ints, is, h.0, h.1))

pub returns-clause-value : goal.returns-clause-value
returns-clause-value c =
    let is = computed _ _ (c.requires.lie.columns c.args.i c.requires.place.0) (c.requires.lie.rows c.args.j c.requires.place.1) (c.requires.among c.args.i c.args.j c.requires.place.0 c.requires.place.1) in
    let h = c.requires.among c.args.i c.args.j c.requires.place.0 c.requires.place.1 in
    omega (arith, ints, is, h.0, h.1)

pub returns-clause-small : goal.returns-clause-small
returns-clause-small c =
    let is = computed _ _ (c.requires.lie.columns c.args.i c.requires.place.0) (c.requires.lie.rows c.args.j c.requires.place.1) (c.requires.among c.args.i c.args.j c.requires.place.0 c.requires.place.1) in
    let h = c.requires.among c.args.i c.args.j c.requires.place.0 c.requires.place.1 in
    omega (arith, ints, is, h.0, h.1)
