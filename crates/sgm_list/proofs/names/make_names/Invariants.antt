use Rattle.std.proofs.Common.{◌≡◌, ◌++◌, map}
use Rattle.std.specs.Prelude.{filter_map, string_bytes}
use Rattle.sgm_list.specs.Names.{name_in, names_in}
use Rattle.sgm_text.specs.Words.{lines_left, words_of}
use Rattle.sgm_list.specs.Reading.{size_left}
use Rattle.sgm_list.proofs.names.make_names.Given as goal

abbrev pub invariant-loop-left : goal.invariant-loop-left
invariant-loop-left l = map string_bytes l.names.items ++ filter_map (λ line. name_in (words_of line)) (lines_left l.left) ≡ names_in l.text

abbrev pub decreases-loop-left : goal.decreases-loop-left
decreases-loop-left l = size_left l.left
