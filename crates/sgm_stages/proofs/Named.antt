-- The files of a match, of a change and of a merge have the names of their outputs, which differ.
use Rattle.std.proofs.Common.{◌≡◌, ◌++◌, ℕ, true, false, ◌||◌, List, [], ◌∷◌, Option, Some, None, refl, ap, ◌∙◌, All, codes, rules}
use Rattle.std.specs.Str.{bytes_eq}
use Rattle.std.proofs.lemmas.Slice.Eq.{bytes_eq-Decides}
use Rattle.std.proofs.lemmas.List.{append_cancel_left}
use Rattle.std.proofs.lemmas.List.Elements.{All-append}
use Rattle.sgm_words.specs.Operands.{Operands, ChangeOperands, MergeOperands, of_match, of_change, of_merge}
use Rattle.sgm_words.specs.declared.files.Output.TheVariants.{Disparity, Heights, Report, Difference, Volumes}
use Rattle.sgm_stages.specs.Changing.{GridTexts}
use Rattle.sgm_stages.specs.Texts.{Texts}
use Rattle.sgm_stages.specs.Merging.{MergedTexts}
use Rattle.sgm_stages.specs.Outputs.{IsNamed, file_of, files_with, files_of, change_files_of, merge_files_of}
use Rattle.sgm_stages.proofs.Holding.{Distinct}

-- ---- the names are those of the outputs

heights_named : (asked : Operands) (text : Option (List ℕ)) → All (IsNamed (of_match asked)) (files_with asked.out Heights text)
heights_named asked None = search rules
heights_named asked (Some text) = search rules

report_named : (asked : Operands) (text : Option (List ℕ)) → All (IsNamed (of_match asked)) (files_with asked.out Report text)
report_named asked None = search rules
report_named asked (Some text) = search rules

disparity_named : (asked : Operands) (text : List ℕ) → All (IsNamed (of_match asked)) (file_of asked.out Disparity text ∷ [])
disparity_named asked text = search rules

pub all_named : (asked : Operands) (texts : Texts) → All (IsNamed (of_match asked)) (files_of asked.out texts)
all_named asked texts =
    All-append (IsNamed (of_match asked)) (file_of asked.out Disparity texts.disparity ∷ []) _ (disparity_named asked texts.disparity)
    (All-append (IsNamed (of_match asked)) (files_with asked.out Heights texts.heights) _ (heights_named asked texts.heights) (report_named asked texts.report))

difference_named : (asked : ChangeOperands) (text : List ℕ) → All (IsNamed (of_change asked)) (file_of asked.out Difference text ∷ [])
difference_named asked text = search rules

volumes_named : (asked : ChangeOperands) (text : List ℕ) → All (IsNamed (of_change asked)) (file_of asked.out Volumes text ∷ [])
volumes_named asked text = search rules

pub all_change_named : (asked : ChangeOperands) (texts : GridTexts) → All (IsNamed (of_change asked)) (change_files_of asked.out texts)
all_change_named asked texts =
    All-append (IsNamed (of_change asked)) (file_of asked.out Difference texts.difference ∷ []) (file_of asked.out Volumes texts.volumes ∷ []) (difference_named asked texts.difference) (volumes_named asked texts.volumes)

merged_named : (asked : MergeOperands) (listed : Option (List (List ℕ))) (text : List ℕ) → All (IsNamed (of_merge asked listed)) (file_of asked.out Heights text ∷ [])
merged_named asked listed text = search rules

tallied_named : (asked : MergeOperands) (listed : Option (List (List ℕ))) (text : Option (List ℕ)) → All (IsNamed (of_merge asked listed)) (files_with asked.out Report text)
tallied_named asked listed None = search rules
tallied_named asked listed (Some text) = search rules

pub all_merge_named : (asked : MergeOperands) (listed : Option (List (List ℕ))) (texts : MergedTexts) → All (IsNamed (of_merge asked listed)) (merge_files_of asked.out texts)
all_merge_named asked listed texts =
    All-append (IsNamed (of_merge asked listed)) (file_of asked.out Heights texts.heights ∷ []) (files_with asked.out Report texts.report) (merged_named asked listed texts.heights) (tallied_named asked listed texts.report)

-- ---- the names differ

apart : (out a b : List ℕ) → bytes_eq a b ≡ false → bytes_eq (out ++ a) (out ++ b) ≡ false
apart out a b other = elim (bytes_eq (out ++ a) (out ++ b)) as (λ t. bytes_eq (out ++ a) (out ++ b) ≡ t → t ≡ false) [
  | true ↦ λ e. (let same : a ≡ b = append_cancel_left out a b ((bytes_eq-Decides (out ++ a) (out ++ b)).0 e) in
      let yes : bytes_eq a b ≡ true = (bytes_eq-Decides a b).1 same in absurd (cc))
  | false ↦ λ e. refl
] refl

files_distinct : (out disparity : List ℕ) (heights report : Option (List ℕ)) → Distinct (file_of out Disparity disparity ∷ files_with out Heights heights ++ files_with out Report report)
files_distinct out disparity None None = (refl, tt)
files_distinct out disparity None (Some report) = (ap (λ b. b || false) (apart out (codes ".pgm") (codes ".csv") refl), (refl, tt))
files_distinct out disparity (Some heights) None = (ap (λ b. b || false) (apart out (codes ".pgm") (codes ".asc") refl), (refl, tt))
files_distinct out disparity (Some heights) (Some report) = (
  ap (λ b. b || (bytes_eq (out ++ codes ".pgm") (out ++ codes ".csv") || false)) (apart out (codes ".pgm") (codes ".asc") refl)
      ∙ ap (λ b. b || false) (apart out (codes ".pgm") (codes ".csv") refl),
  (ap (λ b. b || false) (apart out (codes ".asc") (codes ".csv") refl), (refl, tt)),
)

pub all_distinct : (out : List ℕ) (texts : Texts) → Distinct (files_of out texts)
all_distinct out texts = files_distinct out texts.disparity texts.heights texts.report

pub all_change_distinct : (out : List ℕ) (texts : GridTexts) → Distinct (change_files_of out texts)
all_change_distinct out texts = (ap (λ b. b || false) (apart out (codes ".asc") (codes ".csv") refl), (refl, tt))

merge_distinct : (out heights : List ℕ) (report : Option (List ℕ)) → Distinct (file_of out Heights heights ∷ files_with out Report report)
merge_distinct out heights None = (refl, tt)
merge_distinct out heights (Some report) = (ap (λ b. b || false) (apart out (codes ".asc") (codes ".csv") refl), (refl, tt))

pub all_merge_distinct : (out : List ℕ) (texts : MergedTexts) → Distinct (merge_files_of out texts)
all_merge_distinct out texts = merge_distinct out texts.heights texts.report
