use Rattle.std.proofs.Common.{◌≡◌, ℕ, ◌<◌, ◌==◌, ◌&&◌, length, nat_lt, if◌then◌else◌}
use Rattle.sgm_grid.specs.Cells.{height_at}
use Rattle.sgm_merge.specs.Merging.{held_at}
use Rattle.sgm_merge.specs.Tallies.{kept_of}
use Rattle.sgm_merge.proofs.merge.Merge.write_row.Given as goal

-- the cells of the row before this one were written
abbrev pub invariant-loop-col : goal.invariant-loop-col
invariant-loop-col l = record {
  spec : l.grid.spec ≡ l.self.spec;
  len : length l.grid.heights ≡ length l.fn.grid.heights;
  cells : (col line : ℕ) → col < l.self.spec.cols → line < l.self.spec.rows
      → height_at l.grid col line ≡ (if nat_lt col l.col && (l.row == line) then kept_of l.self.keep (held_at l.self.spec l.self.held col line) else height_at l.fn.grid col line);
}
