use Rattle.std.proofs.Common.{◌||◌, ◌∙◌}
use Rattle.std.proofs.Crossing.{crosses}
use denote.Param.Send.{sendable}
use Rattle.sgm_board.proofs.Crossing.{pass_send, board_sync}
use Rattle.sgm_board_tests.proofs.tests.working.work_both.Goals as goal

pub join-one-requires-send-F : goal.join-one-requires-send-F
join-one-requires-send-F g c κs within = search (pass_send, board_sync, sendable, crosses) depth 20

pub join-one-requires-send-A : goal.join-one-requires-send-A
join-one-requires-send-A g c κs within = search (pass_send, sendable) depth 20

pub close-requires-clause-all : goal.close-requires-clause-all
close-requires-clause-all g c number inside =
    let first = c.join-one.ensures.first.1 in
    let second = c.join-one.ensures.second.1 in
    c.join.ensures.joined.gathered number ∙ ((λ i. first i number || second i number) ∙ c.requires.all number inside)
