-- The options, and what words set them to.
use Rattle.std.specs.Prelude.{ℕ, ◌+◌, List, [], ◌∷◌, ◌==◌, if◌then◌else◌, codes, Option, None}
use Rattle.std.specs.Prelude.{option_map, unwrap_or, take, drop, length, slice_index_or, find}
use Rattle.std.specs.List.{filter_map}
use Rattle.std.specs.Option.{option_or}
use Rattle.std.specs.Str.{bytes_eq}
use Rattle.sgm_base.specs.declared.limits.TheConstants.{MAX_STRIPS, MAX_WORKERS}
use Rattle.sgm_base.specs.declared.limits.TheConstants.{MAX_PEAK}
use Rattle.sgm_words.specs.Numbers.{number_within}
use Rattle.sgm_words.specs.declared.option_table.Setting.{Setting}

-- an option: its name with the sign, its least and greatest value, and what a missing one is
pub record OptionEntry : Type 0 where
  pub name : List ℕ
  pub least : ℕ
  pub greatest : ℕ
  pub missing : ℕ

abbrev pub option_entry : List ℕ → ℕ → ℕ → ℕ → OptionEntry
option_entry name least greatest missing = record {
  name = name;
  least = least;
  greatest = greatest;
  missing = missing;
}

-- the table of options
abbrev pub option_table : List OptionEntry
option_table =
    option_entry (codes "strips=") 1 MAX_STRIPS 1
    ∷ option_entry (codes "workers=") 1 MAX_WORKERS 1
    ∷ option_entry (codes "peak=") 0 MAX_PEAK 0
    ∷ option_entry (codes "fill=") 0 1 0
    ∷ []

-- the value that a word gives to an option: its name and then a number in its range
unfoldable pub value_for : List ℕ → OptionEntry → Option ℕ
value_for text entry =
    if bytes_eq (take (length entry.name) text) entry.name
    then number_within entry.least entry.greatest (drop (length entry.name) text) else None

-- what a word sets, of these entries, the first of which stands at this place
abbrev pub set_among : ℕ → List OptionEntry → List ℕ → Option Setting
set_among place [] text = None
set_among place (entry ∷ later) text =
    option_or (option_map (λ value. record { place = place; value = value }) (value_for text entry))
    (set_among (place + 1) later text)

-- what a word sets, if it is an option
unfoldable pub set_by : List ℕ → Option Setting
set_by text = set_among 0 option_table text

-- the value to which the words set the option at a place: that of the first that sets it
unfoldable pub given : ℕ → List (List ℕ) → Option ℕ
given place words = option_map (λ setting. setting.value)
    (find (λ setting. setting.place == place) (filter_map set_by words))

-- the entry at a place of the table
abbrev pub entry_at : ℕ → OptionEntry
entry_at place = slice_index_or option_table place (option_entry [] 0 0 0)

-- the value of the option at a place, where these words are the options
abbrev pub setting_of : ℕ → List (List ℕ) → ℕ
setting_of place words = unwrap_or (given place words) (entry_at place).missing
