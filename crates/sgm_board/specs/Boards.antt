-- A board and its passes, as contracts see them.
use Rattle.std.specs.Prelude.{◌≡◌, ℕ, ◌<◌, ◌-◌, true, false, List, slice_get, length, Some, None}
use Rattle.atomic_table.specs.Seated.{TableId}
use Rattle.sgm_energy.specs.declared.dir.Dir.{Dir}
use Rattle.sgm_energy.specs.Dirs.{position_of}
use Rattle.sgm_strip.specs.Cuts.{CutParts}
use Rattle.sgm_strip.specs.Scenes.{SceneParts}
use Rattle.sgm_strip.specs.Parcels.{ParcelParts, IsOf, is_done}
use Rattle.sgm_strip.specs.Fronts.{FrontParts, visit_of}
use Rattle.sgm_board.specs.Plans.{about_of}
use Rattle.sgm_board.specs.Passes.{PassParts, parts_of_view, new_pass}
use Rattle.sgm_board.specs.declared.pass.Pass.{Pass}
use Rattle.sgm_board.specs.declared.board.Board.{Board}

-- the table of a board, its scene, its cut, and the number of passes that were made for it
abbrev pub table_of : Board → TableId
table_of board = board.table.shared.table_id

abbrev pub scene_of : Board → SceneParts
scene_of board = (about_of board.table.shared.key).scene

abbrev pub cut_of : Board → CutParts
cut_of board = (about_of board.table.shared.key).cut

abbrev pub strips_of : Board → ℕ
strips_of board = (cut_of board).strips

abbrev pub passes_of : Board → ℕ
passes_of board = board.table.shared.key.passes

abbrev pub parts_of : Pass → PassParts
parts_of pass = parts_of_view pass.seat.me.0

-- the pass is of this board
pub record IsPassOf (board : Board) (pass : Pass) : Type 0 where
  pub same_table : pass.seat.table_id ≡ table_of board
  pub about : pass.seat.me.0.about ≡ Some (about_of board.table.shared.key)

-- the passes are new ones of this board, with the numbers 0, 1, 2 and so on
abbrev pub AreNew : Board → List Pass → Type 0
AreNew board passes = (number : ℕ) (pass : Pass) → slice_get passes number ≡ Some pass
    → IsPassOf board pass × (parts_of pass ≡ new_pass number)

-- it holds no strip and has no front
pub record IsIdle (p : PassParts) : Type 0 where
  pub no_strip : p.strip ≡ None
  pub no_front : p.front ≡ None

-- it has gathered the numbers of all passes that were made
abbrev pub HasAll : ℕ → PassParts → Type 0
HasAll made p = (number : ℕ) → number < made → p.gathered number ≡ true

-- the parcel is that of the strip that the pass holds, of the board's scene and cut, with the
-- directions done that the pass shows
pub record IsHeld (board : Board) (p : PassParts) (parcel : ParcelParts) : Type 0 where
  pub of_board : IsOf (scene_of board) (cut_of board) parcel
  pub held : p.strip ≡ Some parcel.strip
  pub done : (dir : Dir) → is_done parcel.done dir ≡ p.done dir

-- the pass is of this board, and holds nothing
pub record IsIdlePassOf (board : Board) (pass : Pass) : Type 0 where
  pub own : IsPassOf board pass
  pub idle : IsIdle (parts_of pass)

-- the pass is of this board, holds the strip of this parcel and has no front
pub record HoldsOnly (board : Board) (pass : Pass) (parcel : ParcelParts) : Type 0 where
  pub own : IsPassOf board pass
  pub bare : (parts_of pass).front ≡ None
  pub held : IsHeld board (parts_of pass) parcel

-- the front is of the board's scene and cut
abbrev pub IsFrontOn : Board → FrontParts → Type 0
IsFrontOn board front = (front.scene ≡ scene_of board) × (front.cut ≡ cut_of board)

-- the front went through this strip last, with this worker
abbrev pub IsLastBy : FrontParts → ℕ → ℕ → Type 0
IsLastBy front strip worker = slice_get front.visits (length front.visits - 1)
    ≡ Some (visit_of strip worker)

-- the front is that of this direction, and the parcel's strip comes next for it: it visited those
-- at the positions before, and the direction is not done in the parcel
pub record IsDue (board : Board) (dir : Dir) (parcel : ParcelParts)
    (front : FrontParts) : Type 0 where
  pub on_board : IsFrontOn board front
  pub same_dir : front.dir ≡ dir
  pub visited : length front.visits ≡ position_of dir parcel.strip (strips_of board)
  pub left : is_done parcel.done dir ≡ false

-- the front went through this parcel last, with this worker, and its direction is done there. Both
-- are of the board's scene and cut
pub record WentThrough (board : Board) (worker : ℕ) (parcel : ParcelParts)
    (front : FrontParts) : Type 0 where
  pub of_board : IsOf (scene_of board) (cut_of board) parcel
  pub on_board : IsFrontOn board front
  pub last : IsLastBy front parcel.strip worker
  pub done : is_done parcel.done front.dir ≡ true
