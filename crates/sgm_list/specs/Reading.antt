-- Words of the reader's own functions. No public clause cites them.
use Rattle.std.specs.Prelude.{◌≡◌, ℕ, suc, List, length, Option, None, Some}
use Rattle.std.specs.Borrow.{Bor}
use Rattle.std.specs.BTreeMap.{BTreeMap, get_by}
use Rattle.std.specs.Cmp.Lexicographic.{slice_cmp}
use Rattle.std.specs.List.{position_from}
use Rattle.std.specs.Ordering.{nat_cmp}
use Rattle.std.specs.Str.{bytes_eq}
use Rattle.sgm_list.specs.Entries.{EntryNames}

-- one more than its bytes, none where its last line is done
abbrev pub size_left : Option (Bor (List ℕ)) → ℕ
size_left None = 0
size_left (Some rest) = suc (length rest.now)

-- a text finds the first entry of which it is OUT
abbrev pub AreFirsts : BTreeMap (Bor (List ℕ)) ℕ → List EntryNames → Type 0
AreFirsts firsts entries = (out : List ℕ)
    → get_by (λ k. slice_cmp nat_cmp out k.now) firsts
    ≡ position_from (λ entry. bytes_eq out entry.out) 0 entries
