use Rattle.std.proofs.Common.{◌+◌, refl, arith}
use Rattle.sgm_census.proofs.RowBits.{bits_small}
use Rattle.sgm_census.proofs.Threes.{places_more}
use Rattle.sgm_census.proofs.pack.nine_bits.Goals as goal

pub three_more-six-requires-clause-room : goal.three_more-six-requires-clause-room
three_more-six-requires-clause-room c = omega (arith, c.three_more-three.ensures, bits_small c.args.centre c.args.values.now c.args.at 3)

pub three_more-requires-clause-room : goal.three_more-requires-clause-room
three_more-requires-clause-room c =
    let six = places_more c.args.centre c.args.at 3 6 (c.args.at + 3) c.three_more-three.result c.three_more-six.result c.args.values.now refl refl c.three_more-three.ensures c.three_more-six.ensures in
    omega (arith, six, bits_small c.args.centre c.args.values.now c.args.at 6)

pub returns : goal.returns
returns c =
    let six = places_more c.args.centre c.args.at 3 6 (c.args.at + 3) c.three_more-three.result c.three_more-six.result c.args.values.now refl refl c.three_more-three.ensures c.three_more-six.ensures in
    places_more c.args.centre c.args.at 6 9 (c.args.at + 6) c.three_more-six.result c.three_more.result c.args.values.now refl refl six c.three_more.ensures
