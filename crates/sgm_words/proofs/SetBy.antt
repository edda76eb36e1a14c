-- Looking through the table of options, entry by entry.
use Rattle.std.proofs.Common.{◌≡◌, ℕ, ◌+◌, ◌<◌, ◌≤◌, List, [], drop, Option, None, Some, option_map, refl, sym, ap, ◌∙◌}
use Rattle.std.proofs.lemmas.List.{drop_more, drop_all}
use Rattle.std.specs.Option.{option_or}
use Rattle.sgm_words.specs.OptionTable.{OptionEntry, option_entry, option_table, entry_at, value_for, set_among, set_by}
use Rattle.sgm_words.specs.declared.option_table.Setting.{Setting}
use Rattle.sgm_words.specs.declared.option_table.TheConstants.{OPTION_COUNT}

at : (place : ℕ) (text : List ℕ) → place < OPTION_COUNT
    → set_among place (drop place option_table) text ≡ option_or (option_map (λ value. record { place = place; value = value }) (value_for text (entry_at place))) (set_among (place + 1) (drop (place + 1) option_table) text)
at place text lt = ap (λ (entries : List OptionEntry). set_among place entries text) (drop_more option_table place (option_entry [] 0 0 0) lt)

pub set_first : (text : List ℕ) → set_among 0 (drop 0 option_table) text ≡ set_by text
unfolding set_by
set_first text = refl

-- the word doesn't set the option at this place
pub set_next : (place : ℕ) (text : List ℕ) (o : Option Setting) → place < OPTION_COUNT → value_for text (entry_at place) ≡ None → set_among place (drop place option_table) text ≡ o
    → set_among (place + 1) (drop (place + 1) option_table) text ≡ o
set_next place text o lt none so =
    sym (at place text lt ∙ ap (λ (v : Option ℕ). option_or (option_map (λ value. record { place = place; value = value }) v) (set_among (place + 1) (drop (place + 1) option_table) text)) none) ∙ so

-- it does
pub set_here : (place value : ℕ) (text : List ℕ) (o : Option Setting) → place < OPTION_COUNT → value_for text (entry_at place) ≡ Some value → set_among place (drop place option_table) text ≡ o
    → Some (record { place = place; value = value }) ≡ o
set_here place value text o lt some so =
    sym (at place text lt ∙ ap (λ (v : Option ℕ). option_or (option_map (λ value. record { place = place; value = value }) v) (set_among (place + 1) (drop (place + 1) option_table) text)) some) ∙ so

-- no option is left
pub set_end : (place : ℕ) (text : List ℕ) (o : Option Setting) → OPTION_COUNT ≤ place → set_among place (drop place option_table) text ≡ o → None ≡ o
set_end place text o le so =
    sym (ap (λ (entries : List OptionEntry). set_among place entries text) (drop_all place option_table le)) ∙ so
