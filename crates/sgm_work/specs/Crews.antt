-- Workers, each with its pass and room for a row. No public clause speaks of this.
use Rattle.std.specs.Prelude.{◌≡◌, ℕ, true, List, All}
use Rattle.crossbeam_utils.specs.declared.cache_padded.CachePadded.{CachePadded}
use Rattle.crossbeam_utils.specs.Padded.{padded_value}
use Rattle.sgm_strip.specs.Scenes.{row_length}
use Rattle.sgm_board.specs.declared.board.Board.{Board}
use Rattle.sgm_board.specs.declared.pass.Pass.{Pass}
use Rattle.sgm_board.specs.Passes.{PassParts}
use Rattle.sgm_board.specs.Boards.{parts_of, scene_of, IsPassOf, IsIdle}
use Rattle.sgm_work.specs.declared.matching.Worker.{Worker}

abbrev pub pass_of : CachePadded Worker → Pass
pass_of worker = (padded_value worker).pass

abbrev pub room_of : CachePadded Worker → ℕ
room_of worker = (padded_value worker).spare

-- its pass is one of this board and holds nothing, and its room is that of a row
pub record CanWork (board : Board) (worker : Worker) : Type 0 where
  pub own : IsPassOf board worker.pass
  pub idle : IsIdle (parts_of worker.pass)
  pub room : worker.spare ≡ row_length (scene_of board)

abbrev pub AllCanWork : Board → List (CachePadded Worker) → Type 0
AllCanWork board crew = All (λ worker. CanWork board (padded_value worker)) crew

-- what the first has gathered the second has gathered too
abbrev pub GathersFrom : PassParts → PassParts → Type 0
GathersFrom p q = (number : ℕ) → p.gathered number ≡ true → q.gathered number ≡ true
