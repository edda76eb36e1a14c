-- Which word and which slot belong to a direction and to a strip.
use Rattle.std.specs.Prelude.{ℕ, ◌+◌, ◌-◌}
use Rattle.sgm_energy.specs.declared.dir.Dir.{Dir}
use Rattle.sgm_energy.specs.Dirs.{number_of}

-- those of a direction that is not level have the number of its front, 0 to 5. Nothing is said of a
-- level one
abbrev pub dir_word : Dir → ℕ
dir_word dir = number_of dir - 2

abbrev pub strip_word : ℕ → ℕ
strip_word strip = 6 + strip

-- how many words there are, and as many slots
abbrev pub word_count : ℕ → ℕ
word_count strips = 6 + strips
