-- The ranges of what the words ask for.
use Rattle.std.specs.Prelude.{⊤, ℕ, ◌≤◌}
use Rattle.sgm_base.specs.declared.limits.TheConstants.{MAX_STRIPS, MAX_WORKERS}
use Rattle.sgm_words.specs.Commands.{entry_of}
use Rattle.sgm_words.specs.declared.commands.Command.TheVariants as command
use Rattle.sgm_words.specs.declared.options.Options.{Options}
use Rattle.sgm_words.specs.declared.options.Options.TheVariants.{Match, Demo, Trace, Change, Merge}

-- a number of strips
abbrev pub IsStrips : ℕ → Type 0
IsStrips n = (1 ≤ n) × (n ≤ MAX_STRIPS)

-- a number of workers
abbrev pub IsWorkers : ℕ → Type 0
IsWorkers n = (1 ≤ n) × (n ≤ MAX_WORKERS)

-- the options are in their ranges; that of `peak` belongs to its type
abbrev pub AreInRange : Options → Type 0
AreInRange (Match strips workers refine) = IsStrips strips × IsWorkers workers
AreInRange (Demo number strips workers refine) = IsStrips strips × IsWorkers workers
AreInRange (Trace dir x y d) = ⊤
AreInRange Change = ⊤
AreInRange Merge = ⊤

-- how many operands go with the options
abbrev pub operand_count : Options → ℕ
operand_count (Match strips workers refine) = (entry_of command.Match).operands
operand_count (Demo number strips workers refine) = (entry_of command.Demo).operands
operand_count (Trace dir x y d) = (entry_of command.Trace).operands
operand_count Change = (entry_of command.Change).operands
operand_count Merge = (entry_of command.Merge).operands
