-- The first fault of a list.
use Rattle.std.specs.Prelude.{◌≡◌, ⊤, ℕ, List, Bool, ◌==◌, ◌||◌, not, nat_lt, length, Option, None}
use Rattle.std.specs.Prelude.{Some, if◌then◌else◌}
use Rattle.std.specs.List.{position_from}
use Rattle.std.specs.Option.{option_map, option_or}
use Rattle.std.specs.Str.{is_utf8}
use Rattle.sgm_list.specs.declared.fault.ListError.{ListError}
use Rattle.sgm_list.specs.declared.fault.ListError.TheVariants.{Fault, NoMemory}
use Rattle.sgm_list.specs.declared.fault.ListFault.{ListFault}
use Rattle.sgm_list.specs.declared.fault.ListFault.TheVariants.{TooLong, NotText, Line, TooMany}
use Rattle.sgm_list.specs.declared.fault.ListFault.TheVariants.{Clash}
use Rattle.sgm_base.specs.declared.limits.TheConstants.{MAX_LIST_BYTES}
use Rattle.sgm_list.specs.declared.limits.TheConstants.{MAX_ENTRIES}
use Rattle.sgm_text.specs.Words.{lines_of, words_of}
use Rattle.sgm_list.specs.Entries.{entries_of}
use Rattle.sgm_list.specs.Clashes.{first_clash}

abbrev pub length_fault : List ℕ → Option ListFault
length_fault bytes = if nat_lt MAX_LIST_BYTES (length bytes) then Some TooLong else None

abbrev pub text_fault : List ℕ → Option ListFault
text_fault bytes = if is_utf8 bytes then None else Some NotText

-- a line has words, but not so many
abbrev pub is_faulty : ℕ → List ℕ → Bool
is_faulty need line = let count = length (words_of line) in not (count == 0 || count == need)

-- the first line that has words, but not four, counted from 1
abbrev pub line_fault : List ℕ → Option ListFault
line_fault bytes = option_map Line (position_from (is_faulty 4) 1 (lines_of bytes))

abbrev pub count_fault : List ℕ → Option ListFault
count_fault bytes = let count = length (entries_of bytes) in
    if nat_lt MAX_ENTRIES count then Some (TooMany count) else None

abbrev pub clash_fault : List ℕ → List ℕ → Option ListFault
clash_fault list bytes = option_map Clash (first_clash list (entries_of bytes))

-- the first fault of the bytes of the list of this name, in this order
unfoldable pub list_fault : List ℕ → List ℕ → Option ListFault
list_fault list bytes =
    option_or (length_fault bytes)
    (option_or (text_fault bytes)
    (option_or (line_fault bytes)
    (option_or (count_fault bytes) (clash_fault list bytes))))

-- the error is that fault, unless memory ran out
abbrev pub IsFault : Option ListFault → ListError → Type 0
IsFault first (Fault fault) = first ≡ Some fault
IsFault first NoMemory = ⊤
