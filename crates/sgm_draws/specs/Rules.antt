-- What the table of the draws keeps between any two steps, whoever makes them.
use Rattle.std.specs.Prelude.{◌≡◌, ℕ, ◌+◌, ◌≤◌, ◌⊎◌, List, All, length, min, nat_le, slice_index}
use Rattle.std.specs.Prelude.{if◌then◌else◌}
use Rattle.std.specs.List.{sum_by}
use Rattle.atomic_table.specs.Table.{State}
use Rattle.sgm_draws.specs.Numbers.{times, once_below}
use Rattle.sgm_draws.specs.Views.{IsLive, spent}
use Rattle.sgm_draws.specs.declared.view.View.{View}

-- how often a number stands in the lists of all tickets together, and in what they have gathered
abbrev pub times_drawn : List View → ℕ → ℕ
times_drawn views number = sum_by (λ v. times v.drawn number) views

abbrev pub times_gathered : List View → ℕ → ℕ
times_gathered views number = sum_by (λ v. times v.gathered number) views

-- how many numbers of tickets all tickets have gathered, and those that saw the end: the count, or
-- more
abbrev pub all_gathered : List View → ℕ
all_gathered views = sum_by (λ v. length v.gathered) views

abbrev pub gathered_at_end : ℕ → View → ℕ
gathered_at_end count v = if nat_le count v.seen then length v.gathered else 0

abbrev pub ends_seen : ℕ → List View → ℕ
ends_seen count views = sum_by (gathered_at_end count) views

-- the word, which counts the draws
abbrev pub word_of : State (Unit {0}) View → ℕ
word_of s = slice_index s.words 0

-- Of so many numbers, and so many tickets that were made. A ticket that was joined to another has
-- handed all over, so it stands in no sum.
pub record Rule (count made : ℕ) (s : State (Unit {0}) View) : Type 0 where
  pub one_word : length s.words ≡ 1
  pub tickets : All (λ v. (v ≡ spent) ⊎ IsLive count made v) s.views
  -- the lists together are the numbers below both the word and the count, each once: none has a
  -- number twice, and no two have one in common
  pub drawn : (number : ℕ) → times_drawn s.views number ≡ once_below (min (word_of s) count) number
  -- the numbers gathered are those of the tickets made, and each is gathered by one ticket
  pub gathered : (number : ℕ) → times_gathered s.views number ≡ once_below made number
  pub all : all_gathered s.views ≡ made
  -- no ticket saw more than the word
  pub seen : All (λ v. v.seen ≤ word_of s) s.views
  -- the word goes past the count by at most as many as the tickets that saw the end have gathered
  pub past : word_of s ≤ count + ends_seen count s.views
