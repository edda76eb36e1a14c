-- A list of names, one on a line, for a merge: its names, or its first fault.
use Rattle.std.specs.Prelude.{◌≡◌, ⊤, ℕ, List, [], ◌∷◌, ◌++◌, Bool, ◌==◌, ◌||◌, nat_lt, length, map}
use Rattle.std.specs.Prelude.{codes, filter_map, Option, None, Some, Result, Ok, Err, Vec, String}
use Rattle.std.specs.Prelude.{string_bytes, if◌then◌else◌}
use Rattle.std.specs.List.{position_from}
use Rattle.std.specs.Option.{option_map, option_or}
use Rattle.std.specs.Str.{bytes_eq, is_utf8}
use Rattle.std.specs.declared.alloc.Global.{Global}
use Rattle.sgm_list.specs.Faults.{is_faulty}
use Rattle.sgm_text.specs.Words.{lines_of, words_of}
use Rattle.sgm_list.specs.declared.limits.TheConstants.{MAX_ENTRIES}
use Rattle.sgm_list.specs.declared.names.NamesError.{NamesError}
use Rattle.sgm_list.specs.declared.names.NamesError.TheVariants.{Fault, NoMemory}
use Rattle.sgm_list.specs.declared.names.NamesFault.{NamesFault}
use Rattle.sgm_list.specs.declared.names.NamesFault.TheVariants.{NotText, Line, NoEntries, TooMany}
use Rattle.sgm_list.specs.declared.names.NamesFault.TheVariants.{Output}

-- the name that words are, if they are one
abbrev pub name_in : List (List ℕ) → Option (List ℕ)
name_in (name ∷ []) = Some name
name_in _ = None

-- the names of a text, in order
abbrev pub names_in : List ℕ → List (List ℕ)
names_in text = filter_map (λ line. name_in (words_of line)) (lines_of text)

abbrev pub text_fault : List ℕ → Option NamesFault
text_fault bytes = if is_utf8 bytes then None else Some NotText

-- the first line that has words, but not one, counted from 1
abbrev pub line_fault : List ℕ → Option NamesFault
line_fault bytes = option_map Line (position_from (is_faulty 1) 1 (lines_of bytes))

-- so many names are none, or too many
abbrev pub fault_of_count : ℕ → Option NamesFault
fault_of_count count = if count == 0 then Some NoEntries else if nat_lt MAX_ENTRIES count
    then Some TooMany else None

abbrev pub count_fault : List ℕ → Option NamesFault
count_fault bytes = fault_of_count (length (names_in bytes))

-- the name is that of a file that a merge with this OUT writes
abbrev pub is_written : List ℕ → List ℕ → Bool
is_written out name = bytes_eq name (out ++ codes ".asc") || bytes_eq name (out ++ codes ".csv")

-- the first name that is, counted from 0
abbrev pub output_fault : List ℕ → List ℕ → Option NamesFault
output_fault out bytes = option_map Output (position_from (is_written out) 0 (names_in bytes))

-- the first fault of a list for a merge with this OUT, in this order
unfoldable pub names_fault : List ℕ → List ℕ → Option NamesFault
names_fault out bytes =
    option_or (text_fault bytes)
    (option_or (line_fault bytes)
    (option_or (count_fault bytes) (output_fault out bytes)))

-- the names, unless there is a fault
abbrev pub unless_fault : Option NamesFault → List (List ℕ) → Result (List (List ℕ)) NamesFault
unless_fault None names = Ok names
unless_fault (Some fault) names = Err fault

-- the names of a list, or its first fault
abbrev pub names_reading : List ℕ → List ℕ → Result (List (List ℕ)) NamesFault
names_reading out bytes = unless_fault (names_fault out bytes) (names_in bytes)

-- what a reader answers that gives this reading, unless memory ran out
abbrev pub Gives : Result (List (List ℕ)) NamesFault
    → Result (Vec (String Global) Global) NamesError → Type 0
Gives reading (Ok names) = reading ≡ Ok (map string_bytes names.items)
Gives reading (Err (Fault fault)) = reading ≡ Err fault
Gives reading (Err NoMemory) = ⊤
