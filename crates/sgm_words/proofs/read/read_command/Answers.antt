use Rattle.std.proofs.Common.{Option, ap}
use Rattle.std.specs.Option.{option_or}
use Rattle.sgm_words.specs.Faults.{options_fault, overwrite_fault}
use Rattle.sgm_words.specs.Operands.{bytes_of}
use Rattle.sgm_words.specs.Words.{asked_of, unless_fault}
use Rattle.sgm_words.specs.declared.usage.UsageFault.{UsageFault}
use Rattle.sgm_words.proofs.read.read_command.Goals as goal

pub returns-in-Some-clause-exact : goal.returns-in-Some-clause-exact
returns-in-Some-clause-exact c =
    let words = bytes_of c.args.words.now in
    let later = option_or (options_fault c.args.command words) (overwrite_fault c.args.command words) in
    ap (λ (fault : Option UsageFault). unless_fault (option_or fault later) (asked_of c.args.command words)) c.in-Some.ensures
