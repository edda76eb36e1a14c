use Rattle.std.proofs.Common.{◌≡◌, ℕ, ◌*◌, ◌<◌, None, length, nat_lt, if◌then◌else◌}
use Rattle.sgm_grid.specs.Cells.{height_at}
use Rattle.sgm_merge.specs.Merging.{held_at}
use Rattle.sgm_merge.specs.Tallies.{kept_of}
use Rattle.sgm_merge.proofs.merge.Merge.grid.Given as goal

-- the rows before this one were written
abbrev pub invariant-loop-row : goal.invariant-loop-row
invariant-loop-row l = record {
  spec : l.grid.spec ≡ l.fn.self.spec;
  len : length l.grid.heights ≡ l.fn.self.spec.cols * l.fn.self.spec.rows;
  cells : (col line : ℕ) → col < l.fn.self.spec.cols → line < l.fn.self.spec.rows
      → height_at l.grid col line ≡ (if nat_lt line l.row then kept_of l.fn.self.keep (held_at l.fn.self.spec l.fn.self.held col line) else None);
}
