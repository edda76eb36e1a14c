-- Room for points.
use Rattle.std.proofs.Common.{ℕ, ◌+◌, ◌≤◌, arith}
use Rattle.std.proofs.lemmas.List.Elements.{All-weaker}
use Rattle.sgm_grid.specs.Binning.{Binned, HasRoom, Sum, greatest_heights, height_sums, most_points}

-- room for some points is room for fewer
pub room_for_fewer : (bins : Binned) (n m : ℕ) → m ≤ n → HasRoom bins n → HasRoom bins m
room_for_fewer (greatest_heights grid) n m fewer room = tt
room_for_fewer (height_sums held) n m fewer room =
    All-weaker (λ (sum : Sum). sum.count + n ≤ most_points) (λ (sum : Sum). sum.count + m ≤ most_points) (λ sum h. omega (arith, h, fewer)) held.sums room
