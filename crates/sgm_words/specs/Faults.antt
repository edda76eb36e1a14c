-- What is wrong with the words after a command. A fault is looked for at each position, and the
-- first counts.
use Rattle.std.specs.Prelude.{ℕ, ◌+◌, ◌-◌, List, [], Bool, not, ◌&&◌, nat_lt, if◌then◌else◌, Option}
use Rattle.std.specs.Prelude.{None, Some, is_some, take, drop, length, slice_get}
use Rattle.std.specs.List.{filter_map, list_any, range_with_len}
use Rattle.std.specs.Option.{option_or}
use Rattle.std.specs.Str.{bytes_eq}
use Rattle.sgm_words.specs.Commands.{entry_of}
use Rattle.sgm_words.specs.Directions.{direction_of}
use Rattle.sgm_words.specs.Files.{is_file_name}
use Rattle.sgm_words.specs.Numbers.{number_of}
use Rattle.sgm_words.specs.Operands.{word}
use Rattle.sgm_words.specs.OptionTable.{set_by, given}
use Rattle.sgm_words.specs.declared.commands.Command.{Command}
use Rattle.sgm_words.specs.declared.option_table.Setting.{Setting}
use Rattle.sgm_words.specs.declared.usage.UsageFault.{UsageFault}
use Rattle.sgm_words.specs.declared.usage.UsageFault.TheVariants.{TooFew, EmptyName, BadDirection}
use Rattle.sgm_words.specs.declared.usage.UsageFault.TheVariants.{BadNumber, BadOption}
use Rattle.sgm_words.specs.declared.usage.UsageFault.TheVariants.{RepeatedOption, OutputIsInput}

-- the first fault that a check finds at one of so many positions from this one on
unfoldable pub first_fault : (ℕ → Option UsageFault) → ℕ → ℕ → Option UsageFault
first_fault check from count = slice_get (filter_map check (range_with_len from count)) 0

-- fewer words after the command than it has operands
abbrev pub too_few : Command → List (List ℕ) → Option UsageFault
too_few command words =
    let have = length words - 1 in let need = (entry_of command).operands in
    if nat_lt have need then Some (TooFew have need) else None

-- the name at this position is empty
abbrev pub name_fault : List (List ℕ) → ℕ → Option UsageFault
name_fault words position = if bytes_eq (word words position) [] then Some (EmptyName position)
    else None

-- the command has a direction, and the word after the names is none
abbrev pub direction_fault : Command → List (List ℕ) → Option UsageFault
direction_fault command words =
    let position = (entry_of command).names + 1 in
    if (entry_of command).has_direction && not (is_some (direction_of (word words position)))
    then Some (BadDirection position) else None

-- the word at this position is no number
abbrev pub number_fault : List (List ℕ) → ℕ → Option UsageFault
number_fault words position = if is_some (number_of (word words position)) then None
    else Some (BadNumber position)

-- where options begin
abbrev pub options_at : Command → ℕ
options_at command = (entry_of command).operands + 1

-- what a word sets, where the command has options
abbrev pub set_for : Command → List ℕ → Option Setting
set_for command text = if (entry_of command).has_options then set_by text else None

-- a word that sets this, after these words, is no option, or it repeats one
abbrev pub setting_fault : List (List ℕ) → Option Setting → ℕ → Option UsageFault
setting_fault before None position = Some (BadOption position)
setting_fault before (Some setting) position = if is_some (given setting.place before)
    then Some (RepeatedOption position) else None

-- the word at this position, behind the operands, is no option, or it repeats one
abbrev pub option_fault : Command → List (List ℕ) → ℕ → Option UsageFault
option_fault command words position =
    let start = options_at command in
    setting_fault (take (position - start) (drop start words))
    (set_for command (word words position)) position

-- the name is that of an output of the command
abbrev pub is_output : Command → List ℕ → List ℕ → Bool
is_output command out name = list_any (λ output. is_file_name output out name)
    (entry_of command).outputs

-- the name at this position is that of an output
abbrev pub output_fault : Command → List (List ℕ) → ℕ → Option UsageFault
output_fault command words position =
    if is_output command (word words (entry_of command).names) (word words position)
    then Some (OutputIsInput position) else None

-- what is wrong with the operands themselves
abbrev pub operand_fault : Command → List (List ℕ) → Option UsageFault
operand_fault command words =
    let entry = entry_of command in
    option_or (too_few command words)
    (option_or (first_fault (name_fault words) 1 entry.names)
    (option_or (direction_fault command words)
    (first_fault (number_fault words) (entry.operands + 1 - entry.numbers) entry.numbers)))

-- the first fault of the words after the operands
abbrev pub options_fault : Command → List (List ℕ) → Option UsageFault
options_fault command words = first_fault (option_fault command words) (options_at command)
    (length words - options_at command)

-- the first name, the last one apart, that is that of an output
abbrev pub overwrite_fault : Command → List (List ℕ) → Option UsageFault
overwrite_fault command words = first_fault (output_fault command words) 1
    ((entry_of command).names - 1)

-- the checks of a command, in order
abbrev pub fault_of : Command → List (List ℕ) → Option UsageFault
fault_of command words = option_or (operand_fault command words)
    (option_or (options_fault command words) (overwrite_fault command words))
