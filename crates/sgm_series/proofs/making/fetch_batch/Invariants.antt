use Rattle.std.proofs.Common.{◌≡◌, List, All, take, IsTrue}
use Rattle.sgm_stages.specs.Moments.{Keeps}
use Rattle.sgm_stages.specs.Verdict.{Verdict}
use Rattle.sgm_series.specs.Plans.{AreVerdicts, IsJudged}
use Rattle.sgm_series.specs.Batches.{AreInputsAt, IsBatch}
use Rattle.sgm_series.proofs.Batching.{AnswerThese}
use Rattle.sgm_series.proofs.making.fetch_batch.Given as goal

abbrev pub invariant-loop-place : goal.invariant-loop-place
invariant-loop-place g l = record {
  batch : IsBatch l.place l.batch;
  answers : IsTrue g.S.Shelf.tells → AnswerThese l.entries (g.S.Shelf.held l.fn.shelf) l.batch.answers.items;
  inputs : IsTrue g.S.Shelf.tells → AreInputsAt l.entries (g.S.Shelf.held l.fn.shelf) l.batch.places.items l.batch.inputs.items;
  judged : IsTrue g.S.Shelf.tells → (verdicts : List Verdict) → AreVerdicts l.entries (g.S.Shelf.held l.fn.shelf) verdicts → All IsJudged (take l.place verdicts);
  keeps : Keeps g.S.Shelf l.fn.shelf l.shelf;
  reads : g.S.Shelf.read_faults l.shelf ≡ g.S.Shelf.read_faults l.fn.shelf;
  writes : g.S.Shelf.write_faults l.shelf ≡ g.S.Shelf.write_faults l.fn.shelf;
}
