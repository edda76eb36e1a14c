-- Directions by their numbers, and the strips at their positions.
use Rattle.std.proofs.Common.{◌≡◌, ℕ, zero, suc, ◌-◌, ◌<◌, Bool, true, false, cond, get_or, refl, sym, ap, ◌∙◌, lit<, arith}
use Rattle.sgm_energy.specs.declared.dir.Dir.{Dir}
use Rattle.sgm_energy.specs.declared.dir.Dir.TheVariants.{Right, Left, Down, DownRight, DownLeft, Up, UpRight, UpLeft}
use Rattle.sgm_energy.specs.Dirs.{directions, number_of, goes_down, position_of, strip_at}

pub number_lt : (dir : Dir) → number_of dir < 8
number_lt Right = lit< tt
number_lt Left = lit< tt
number_lt Down = lit< tt
number_lt DownRight = lit< tt
number_lt DownLeft = lit< tt
number_lt Up = lit< tt
number_lt UpRight = lit< tt
number_lt UpLeft = lit< tt

-- the direction of a number
pub numbered : ℕ → Dir
numbered n = get_or directions n Right

numbered_back : (dir : Dir) → numbered (number_of dir) ≡ dir
unfolding numbered
numbered_back Right = refl
numbered_back Left = refl
numbered_back Down = refl
numbered_back DownRight = refl
numbered_back DownLeft = refl
numbered_back Up = refl
numbered_back UpRight = refl
numbered_back UpLeft = refl

pub same_number : (a b : Dir) → number_of a ≡ number_of b → a ≡ b
same_number a b e = sym (numbered_back a) ∙ ap numbered e ∙ numbered_back b

pub number_numbered : (k : ℕ) → k < 8 → number_of (numbered k) ≡ k
unfolding numbered
number_numbered zero h = refl
number_numbered (suc zero) h = refl
number_numbered (suc (suc zero)) h = refl
number_numbered (suc (suc (suc zero))) h = refl
number_numbered (suc (suc (suc (suc zero)))) h = refl
number_numbered (suc (suc (suc (suc (suc zero))))) h = refl
number_numbered (suc (suc (suc (suc (suc (suc zero)))))) h = refl
number_numbered (suc (suc (suc (suc (suc (suc (suc zero))))))) h = refl
number_numbered (suc (suc (suc (suc (suc (suc (suc (suc k)))))))) h = absurd (omega arith)

-- ---- positions, from either end
either_end : (down : Bool) (k n : ℕ) → k < n → cond down k (n - 1 - k) < n
either_end true k n h = h
either_end false k n h = omega arith

back_again : (down : Bool) (k n : ℕ) → k < n → cond down (cond down k (n - 1 - k)) (n - 1 - cond down k (n - 1 - k)) ≡ k
back_again true k n h = refl
back_again false k n h = omega arith

pub strip_inside : (dir : Dir) (position strips : ℕ) → position < strips → strip_at dir position strips < strips
strip_inside dir position strips h = either_end (goes_down dir) position strips h

pub position_inside : (dir : Dir) (strip strips : ℕ) → strip < strips → position_of dir strip strips < strips
position_inside dir strip strips h = either_end (goes_down dir) strip strips h

-- at the position of a strip stands the strip
pub strip_there : (dir : Dir) (strip strips : ℕ) → strip < strips → strip_at dir (position_of dir strip strips) strips ≡ strip
strip_there dir strip strips h = back_again (goes_down dir) strip strips h
