-- What the words ask for.
use Rattle.std.specs.Prelude.{ℕ, List, [], ◌∷◌, ◌==◌, Option, None, Some, unwrap_or, Result, Ok}
use Rattle.std.specs.Prelude.{Err, drop}
use Rattle.sgm_energy.specs.declared.dir.Dir.{Dir}
use Rattle.sgm_energy.specs.declared.dir.Dir.TheVariants as dir
use Rattle.sgm_base.specs.Refining.{Refining}
use Rattle.sgm_words.specs.Commands.{command_named}
use Rattle.sgm_words.specs.Directions.{direction_of}
use Rattle.sgm_words.specs.Faults.{options_at, fault_of}
use Rattle.sgm_words.specs.Numbers.{number_of}
use Rattle.sgm_words.specs.Operands.{word}
use Rattle.sgm_words.specs.OptionTable.{setting_of}
use Rattle.sgm_words.specs.declared.commands.Command.{Command}
use Rattle.sgm_words.specs.declared.commands.Command.TheVariants as command
use Rattle.sgm_words.specs.declared.option_table.TheConstants.{STRIPS, WORKERS, PEAK, FILL}
use Rattle.sgm_words.specs.declared.options.Options.{Options}
use Rattle.sgm_words.specs.declared.options.Options.TheVariants.{Match, Demo, Trace, Change, Merge}
use Rattle.sgm_words.specs.declared.usage.UsageFault.{UsageFault}
use Rattle.sgm_words.specs.declared.usage.UsageFault.TheVariants.{NoCommand, UnknownCommand}

-- how the map is to be refined, where these words are the options
abbrev pub refine_of : List (List ℕ) → Refining
refine_of later = record { peak = setting_of PEAK later; fill = setting_of FILL later == 1 }

-- the number at a position
abbrev pub number_at : List (List ℕ) → ℕ → ℕ
number_at words position = unwrap_or (number_of (word words position)) 0

-- the direction at a position
abbrev pub direction_at : List (List ℕ) → ℕ → Dir
direction_at words position = unwrap_or (direction_of (word words position)) dir.Right

-- what a command's words ask for, where they have no fault
abbrev pub asked_of : Command → List (List ℕ) → Options
asked_of command.Match words =
    let later = drop (options_at command.Match) words in
    Match (setting_of STRIPS later) (setting_of WORKERS later) (refine_of later)
asked_of command.Demo words =
    let later = drop (options_at command.Demo) words in
    Demo (number_at words 1) (setting_of STRIPS later) (setting_of WORKERS later) (refine_of later)
asked_of command.Trace words = Trace (direction_at words 4) (number_at words 5) (number_at words 6)
    (number_at words 7)
asked_of command.Change words = Change
asked_of command.Merge words = Merge

-- these options, unless there is a fault
abbrev pub unless_fault : Option UsageFault → Options → Result Options UsageFault
unless_fault None options = Ok options
unless_fault (Some fault) options = Err fault

-- the words of a command
abbrev pub read_command : Option Command → List (List ℕ) → Result Options UsageFault
read_command None words = Err UnknownCommand
read_command (Some command) words = unless_fault (fault_of command words) (asked_of command words)

-- the options, or the first fault of the words
unfoldable pub read_of : List (List ℕ) → Result Options UsageFault
read_of [] = Err NoCommand
read_of (name ∷ later) = read_command (command_named name) (name ∷ later)
