-- The words of directions, and the positions of strips.
use Rattle.std.proofs.Common.{◌≡◌, ◌≢◌, ℕ, zero, suc, ◌-◌, ◌<◌, Bool, true, false, arith, cond, get_or, refl, sym, ap, ◌∙◌, Some, None}
use Rattle.sgm_energy.specs.declared.dir.Dir.{Dir}
use Rattle.sgm_energy.specs.declared.dir.Dir.TheVariants.{Right, Left, Down, DownRight, DownLeft, Up, UpRight, UpLeft}
use Rattle.sgm_energy.specs.declared.dir.TheConstants.Dir.{FRONTS}
use Rattle.sgm_energy.specs.Dirs.{number_of, is_level, goes_down, position_of, strip_at, front_of, dir_of_front}
use Rattle.sgm_energy.proofs.DirLemmas.{same_number}
use Rattle.sgm_handover.proofs.Dirs.{front_lt, same_front, front_is}
use Rattle.sgm_board.specs.Words.{dir_word, strip_word}

pub dir_word_lt : (dir : Dir) → dir_word dir < 6
dir_word_lt dir = front_lt dir

-- directions of one word are one
pub same_word : (a b : Dir) → is_level a ≡ false → is_level b ≡ false → dir_word a ≡ dir_word b → a ≡ b
same_word a b la lb e = same_number a b (same_front a b la lb e)

pub other_word : (a b : Dir) → is_level a ≡ false → is_level b ≡ false → number_of a ≢ number_of b → dir_word a ≢ dir_word b
other_word a b la lb ne e = ne (same_front a b la lb e)

pub not_strip_word : (dir : Dir) (strip : ℕ) → dir_word dir ≢ strip_word strip
not_strip_word dir strip e = let l = front_lt dir in absurd (omega arith)

-- the word of a direction that has a front is the front's number
pub word_is : (dir : Dir) (place : ℕ) → is_level dir ≡ false → front_of dir ≡ Some place → place ≡ dir_word dir
word_is dir place level e = let both : Some place ≡ Some (dir_word dir) = sym e ∙ front_is dir level in cc

lt_either : (b : Bool) (n p : ℕ) → p < n → cond b p (n - 1 - p) < n
lt_either true n p h = h
lt_either false n p h = omega arith

twice_either : (b : Bool) (n p : ℕ) → p < n → cond b (cond b p (n - 1 - p)) (n - 1 - cond b p (n - 1 - p)) ≡ p
twice_either true n p h = refl
twice_either false n p h = omega arith

pub position_lt : (dir : Dir) (strip strips : ℕ) → strip < strips → position_of dir strip strips < strips
position_lt dir strip strips h = lt_either (goes_down dir) strips strip h

-- a strip stands at its position, and at a position stands the strip whose position it is
pub strip_at-position_of : (dir : Dir) (strip strips : ℕ) → strip < strips → strip_at dir (position_of dir strip strips) strips ≡ strip
strip_at-position_of dir strip strips h = twice_either (goes_down dir) strips strip h

pub position_of-strip_at : (dir : Dir) (position strips : ℕ) → position < strips → position_of dir (strip_at dir position strips) strips ≡ position
position_of-strip_at dir position strips h = twice_either (goes_down dir) strips position h

none_place : (place : ℕ) → None ≡ Some place → ⊥
none_place place e = cc

at_place : (a b : ℕ) → Some a ≡ Some b → dir_of_front b ≡ dir_of_front a
at_place a b e = let same : a ≡ b = cc in ap dir_of_front (sym same)

-- the front of a direction is that direction's alone
pub dir_of_front-front_of : (dir : Dir) (place : ℕ) → front_of dir ≡ Some place → dir_of_front place ≡ Some dir
dir_of_front-front_of Right place e = absurd (none_place place e)
dir_of_front-front_of Left place e = absurd (none_place place e)
dir_of_front-front_of Down place e = at_place 0 place e
dir_of_front-front_of DownRight place e = at_place 1 place e
dir_of_front-front_of DownLeft place e = at_place 2 place e
dir_of_front-front_of Up place e = at_place 3 place e
dir_of_front-front_of UpRight place e = at_place 4 place e
dir_of_front-front_of UpLeft place e = at_place 5 place e

-- the direction that is listed at a place has its front there
pub listed : (place : ℕ) (dir : Dir) → place < 6 → dir ≡ get_or FRONTS place dir → (front_of dir ≡ Some place) × (is_level dir ≡ false)
listed zero dir h e = (ap front_of e, ap is_level e)
listed (suc zero) dir h e = (ap front_of e, ap is_level e)
listed (suc (suc zero)) dir h e = (ap front_of e, ap is_level e)
listed (suc (suc (suc zero))) dir h e = (ap front_of e, ap is_level e)
listed (suc (suc (suc (suc zero)))) dir h e = (ap front_of e, ap is_level e)
listed (suc (suc (suc (suc (suc zero))))) dir h e = (ap front_of e, ap is_level e)
listed (suc (suc (suc (suc (suc (suc k)))))) dir h e = absurd (omega (arith, h))
