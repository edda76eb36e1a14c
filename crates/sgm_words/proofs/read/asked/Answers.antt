use Rattle.std.proofs.Common.{◌≡◌, drop, arith, refl}
use Rattle.sgm_words.specs.Faults.{options_at}
use Rattle.sgm_words.specs.Operands.{bytes_of}
use Rattle.sgm_words.specs.OptionTable.{setting_of}
use Rattle.sgm_words.proofs.SettingRanges.{value_read, value_is}
use Rattle.sgm_words.proofs.read.asked.Goals as goal

pub invariant_of-refine : goal.invariant_of-refine
invariant_of-refine c = (value_read 2 _ c.args.settings.now _ (omega arith) c.requires c.value_at-peak.ensures).1

pub invariant_of-refine-in-Demo : goal.invariant_of-refine-in-Demo
invariant_of-refine-in-Demo c = (value_read 2 _ c.args.settings.now _ (omega arith) c.requires c.value_at-peak.ensures).1

pub returns-in-Match-clause-in_range : goal.returns-in-Match-clause-in_range
returns-in-Match-clause-in_range c =
    (value_read 0 _ c.args.settings.now _ (omega arith) c.requires c.value_at-strips.ensures, value_read 1 _ c.args.settings.now _ (omega arith) c.requires c.value_at-workers.ensures)

pub returns-in-Demo-clause-in_range : goal.returns-in-Demo-clause-in_range
returns-in-Demo-clause-in_range c =
    (value_read 0 _ c.args.settings.now _ (omega arith) c.requires c.value_at-strips.ensures, value_read 1 _ c.args.settings.now _ (omega arith) c.requires c.value_at-workers.ensures)

pub returns-in-Match-clause-exact : goal.returns-in-Match-clause-exact
returns-in-Match-clause-exact c =
    let later = drop (options_at c.args.command) (bytes_of c.args.words.now) in
    let strips : c.value_at-strips.result ≡ setting_of 0 later = value_is 0 later c.args.settings.now _ (omega arith) c.requires c.value_at-strips.ensures in
    let workers : c.value_at-workers.result ≡ setting_of 1 later = value_is 1 later c.args.settings.now _ (omega arith) c.requires c.value_at-workers.ensures in
    let peak : c.value_at-peak.result ≡ setting_of 2 later = value_is 2 later c.args.settings.now _ (omega arith) c.requires c.value_at-peak.ensures in
    let fill : c.value_at-fill.result ≡ setting_of 3 later = value_is 3 later c.args.settings.now _ (omega arith) c.requires c.value_at-fill.ensures in
    rw (strips, workers, peak, fill, c.in-Match.is) refl

pub returns-in-Demo-clause-exact : goal.returns-in-Demo-clause-exact
returns-in-Demo-clause-exact c =
    let later = drop (options_at c.args.command) (bytes_of c.args.words.now) in
    let strips : c.value_at-strips.result ≡ setting_of 0 later = value_is 0 later c.args.settings.now _ (omega arith) c.requires c.value_at-strips.ensures in
    let workers : c.value_at-workers.result ≡ setting_of 1 later = value_is 1 later c.args.settings.now _ (omega arith) c.requires c.value_at-workers.ensures in
    let peak : c.value_at-peak.result ≡ setting_of 2 later = value_is 2 later c.args.settings.now _ (omega arith) c.requires c.value_at-peak.ensures in
    let fill : c.value_at-fill.result ≡ setting_of 3 later = value_is 3 later c.args.settings.now _ (omega arith) c.requires c.value_at-fill.ensures in
    rw (c.number_at.ensures, strips, workers, peak, fill, c.in-Demo.is) refl

pub returns-in-Trace-clause-exact : goal.returns-in-Trace-clause-exact
returns-in-Trace-clause-exact c =
    rw (c.direction_at.ensures, c.number_at-in-Trace.ensures, c.number_at-in-Trace-2.ensures, c.number_at-in-Trace-3.ensures, c.in-Trace.is) refl
