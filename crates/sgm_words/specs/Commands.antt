-- The commands.
use Rattle.std.specs.Prelude.{ℕ, List, [], ◌∷◌, Bool, true, false, codes, Option, find}
use Rattle.std.specs.Str.{bytes_eq}
use Rattle.sgm_words.specs.declared.commands.Command.{Command}
use Rattle.sgm_words.specs.declared.commands.Command.TheVariants.{Match, Demo, Trace, Change, Merge}
use Rattle.sgm_words.specs.declared.files.Output.{Output}
use Rattle.sgm_words.specs.declared.files.Output.TheVariants.{Disparity, Heights, Report}
use Rattle.sgm_words.specs.declared.files.Output.TheVariants.{Difference, Volumes}

-- a command: its name, how many operands it has, how many of them are names, which come first,
-- whether a direction comes after the names, how many are numbers, which come last, whether options
-- follow, and the outputs that are named after its last name
pub record CommandEntry : Type 0 where
  pub name : List ℕ
  pub operands : ℕ
  pub names : ℕ
  pub has_direction : Bool
  pub numbers : ℕ
  pub has_options : Bool
  pub outputs : List Output

abbrev pub command_entry : List ℕ → ℕ → ℕ → Bool → ℕ → Bool → List Output → CommandEntry
command_entry name operands names has_direction numbers has_options outputs = record {
  name = name;
  operands = operands;
  names = names;
  has_direction = has_direction;
  numbers = numbers;
  has_options = has_options;
  outputs = outputs;
}

-- the table of commands
abbrev pub entry_of : Command → CommandEntry
entry_of Match = command_entry (codes "match") 4 4 false 0 true (Disparity ∷ Heights ∷ Report ∷ [])
entry_of Demo = command_entry (codes "demo") 1 0 false 1 true []
entry_of Trace = command_entry (codes "trace") 7 3 true 3 false []
entry_of Change = command_entry (codes "change") 3 3 false 0 false (Difference ∷ Volumes ∷ [])
entry_of Merge = command_entry (codes "merge") 3 3 false 0 false (Heights ∷ Report ∷ [])

abbrev pub commands : List Command
commands = Match ∷ Demo ∷ Trace ∷ Change ∷ Merge ∷ []

-- this is the command's name
abbrev pub is_named : List ℕ → Command → Bool
is_named name command = bytes_eq (entry_of command).name name

-- the command of this name
unfoldable pub command_named : List ℕ → Option Command
command_named name = find (is_named name) commands
