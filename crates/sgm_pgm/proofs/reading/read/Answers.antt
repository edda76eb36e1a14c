use Rattle.std.proofs.Common.{Err}
use Rattle.std.proofs.lemmas.Result.{err_from_is_err_and}
use Rattle.sgm_pgm.specs.Read.{AnswersReading}
use Rattle.sgm_pgm.proofs.ReadLaws.{answers_reading, answers_only, reads_one}
use Rattle.sgm_pgm.proofs.reading.read.Goals as goal

pub returns-in_err-header-clause-unique : goal.returns-in_err-header-clause-unique
returns-in_err-header-clause-unique c reading reads =
    let p = err_from_is_err_and c.from_residual.result c.from_residual.ensures.1 in
    rw (p.1, p.2) (reads_one c.args.bytes.now reading (Err c.in_err-header.field-0.0) reads c.in_err-header.ensures.err)

pub returns-clause-exact : goal.returns-clause-exact
returns-clause-exact c =
    answers_reading c.args.bytes.now c.in_ok-header.header.width c.in_ok-header.header.height c.in_ok-header.header.maxval c.in_ok-header.raster.now c.image_behind.result c.in_ok-header.ensures.ok c.image_behind.ensures

pub returns-clause-unique : goal.returns-clause-unique
returns-clause-unique c reading reads =
    let exact : AnswersReading c.args.bytes.now c.image_behind.result =
    answers_reading c.args.bytes.now c.in_ok-header.header.width c.in_ok-header.header.height c.in_ok-header.header.maxval c.in_ok-header.raster.now c.image_behind.result c.in_ok-header.ensures.ok c.image_behind.ensures in
    answers_only c.args.bytes.now c.image_behind.result reading exact reads
