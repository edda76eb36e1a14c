use Rattle.sgm_stages.proofs.Judging.{judged, stop_left, stop_right, stop_calib}
use Rattle.sgm_stages.proofs.judge.judge_pair.Goals as goal

pub returns-in-Ok-judge_calib : goal.returns-in-Ok-judge_calib
returns-in-Ok-judge_calib c = λ left right calib on_left on_right on_calib.
    judged left right calib _ _ _ (c.in-Ok.ensures left on_left) (c.in-Ok-judge_image.ensures right on_right) (c.in-Ok-judge_calib.ensures calib on_calib)

pub returns-in-Err-judge_calib : goal.returns-in-Err-judge_calib
returns-in-Err-judge_calib c = λ left right calib on_left on_right on_calib.
    stop_calib left right calib _ _ _ (c.in-Ok.ensures left on_left) (c.in-Ok-judge_image.ensures right on_right) (c.in-Err-judge_calib.ensures calib on_calib)

pub returns-in-Err-judge_image : goal.returns-in-Err-judge_image
returns-in-Err-judge_image c = λ left right calib on_left on_right on_calib.
    stop_right left right calib _ _ (c.in-Ok.ensures left on_left) (c.in-Err-judge_image.ensures right on_right)

pub returns-in-Err : goal.returns-in-Err
returns-in-Err c = λ left right calib on_left on_right on_calib. stop_left left right calib _ (c.in-Err.ensures left on_left)
