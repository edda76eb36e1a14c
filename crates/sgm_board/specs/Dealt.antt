-- New passes. No public clause speaks of this.
use Rattle.std.specs.Prelude.{◌≡◌, ℕ, List, [], ◌∷◌, slice_get, Some}
use Rattle.atomic_table.specs.Seated.{TableId}
use Rattle.sgm_board.specs.Views.{new_view}
use Rattle.sgm_board.specs.declared.view.About.{About}
use Rattle.sgm_board.specs.declared.pass.Pass.{Pass}

-- the new pass of this number
pub record IsDealt (table : TableId) (about : About) (number : ℕ) (pass : Pass) : Type 0 where
  pub same_table : pass.seat.table_id ≡ table
  pub me : pass.seat.me ≡ (new_view (Some about) number (number ∷ []), [])

-- the new passes 0, 1, 2 and so on
abbrev pub AreDealt : TableId → About → List Pass → Type 0
AreDealt table about passes = (number : ℕ) (pass : Pass) → slice_get passes number ≡ Some pass
    → IsDealt table about number pass
