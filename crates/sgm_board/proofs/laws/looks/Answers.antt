use Rattle.std.proofs.Common.{refl}
use Rattle.sgm_board.specs.Views.{after_look, after_try}
use Rattle.sgm_board.specs.Events.{found}
use Rattle.sgm_board.proofs.Lawful.{one_look, one_read}
use Rattle.sgm_board.proofs.laws.looks.Goals as goal

pub returns-clause-looks : goal.returns-clause-looks
returns-clause-looks c about made s m at word v shown stands =
    one_look about made s m shown at word v (after_look v word (found s word)) stands record { number = refl; about = refl; gathered = refl } refl refl refl (λ t f e l. shown.due at t f v stands e l)

pub returns-clause-reads : goal.returns-clause-reads
returns-clause-reads c about made s m at word v rule stands = one_read about made s at word v rule stands

pub returns-clause-tries : goal.returns-clause-tries
returns-clause-tries c about made s m at word strip dir v shown stands =
    one_look about made s m shown at word v (after_try (after_look v word (found s word)) strip dir) stands record { number = refl; about = refl; gathered = refl } refl refl refl (λ t f e l. shown.due at t f v stands e l)
