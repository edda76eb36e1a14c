use Rattle.std.proofs.Common.{◌≡◌, List, All, length}
use Rattle.sgm_io.specs.Held.{Held}
use Rattle.sgm_list.specs.Entries.{EntryNames}
use Rattle.sgm_stages.specs.Inputs.{InputBytes}
use Rattle.sgm_batch.specs.Pieces.{IsPieceOf}
use Rattle.sgm_series.specs.Answers.{AreAnswers}
use Rattle.sgm_series.specs.Batches.{AreInputsAt}
use Rattle.sgm_series.proofs.making.place_pieces.Given as goal

abbrev pub invariant-loop-piece : goal.invariant-loop-piece
invariant-loop-piece l = record {
  next : goal.iterator-loop-piece.can_next l.piece-iterator;
  finite : goal.iterator-loop-piece.is_finite l.piece-iterator;
  count : length l.answers ≡ length l.fn.answers;
  answers : (entries : List EntryNames) (held : Held) (inputs : List InputBytes) → AreInputsAt entries held l.places inputs → All (IsPieceOf inputs) l.fn.pieces.items
      → AreAnswers entries held l.fn.answers → AreAnswers entries held l.answers;
}
