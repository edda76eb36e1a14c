-- Sums over the directions that are done.
use Rattle.std.proofs.Common.{◌≡◌, ◌≢◌, ℕ, ◌+◌, ◌*◌, ◌<◌, ◌≤◌, Bool, true, false, cond, refl, ap, arith}
use Rattle.std.specs.List.{sum_by}
use Rattle.sgm_energy.specs.declared.dir.Dir.{Dir}
use Rattle.sgm_energy.specs.declared.dir.Dir.TheVariants.{Right, Left, Down, DownRight, DownLeft, Up, UpRight, UpLeft}
use Rattle.sgm_energy.specs.Dirs.{directions}
use Rattle.sgm_energy.specs.Rays.{Pixel, Problem, IsInside}
use Rattle.sgm_energy.specs.Energies.{path_value, sum_done, path_sum, IsWithin}
use Rattle.sgm_energy.proofs.PathLaws.{high}

spread : (f : Dir → ℕ) → sum_by f directions ≡ f Right + f Left + f Down + f DownRight + f DownLeft + f Up + f UpRight + f UpLeft
spread f = omega arith

-- a sum in which one term rises from 0 to v
one_more : (f h : Dir → ℕ) (dir : Dir) (v : ℕ) → f dir ≡ 0 → h dir ≡ v → ((other : Dir) → other ≢ dir → h other ≡ f other) → sum_by h directions ≡ sum_by f directions + v
one_more f h Right v a b c = omega (arith, spread f, spread h, c Left (λ e. absurd (cc)), c Down (λ e. absurd (cc)), c DownRight (λ e. absurd (cc)), c DownLeft (λ e. absurd (cc)), c Up (λ e. absurd (cc)), c UpRight (λ e. absurd (cc)), c UpLeft (λ e. absurd (cc)))
one_more f h Left v a b c = omega (arith, spread f, spread h, c Right (λ e. absurd (cc)), c Down (λ e. absurd (cc)), c DownRight (λ e. absurd (cc)), c DownLeft (λ e. absurd (cc)), c Up (λ e. absurd (cc)), c UpRight (λ e. absurd (cc)), c UpLeft (λ e. absurd (cc)))
one_more f h Down v a b c = omega (arith, spread f, spread h, c Right (λ e. absurd (cc)), c Left (λ e. absurd (cc)), c DownRight (λ e. absurd (cc)), c DownLeft (λ e. absurd (cc)), c Up (λ e. absurd (cc)), c UpRight (λ e. absurd (cc)), c UpLeft (λ e. absurd (cc)))
one_more f h DownRight v a b c = omega (arith, spread f, spread h, c Right (λ e. absurd (cc)), c Left (λ e. absurd (cc)), c Down (λ e. absurd (cc)), c DownLeft (λ e. absurd (cc)), c Up (λ e. absurd (cc)), c UpRight (λ e. absurd (cc)), c UpLeft (λ e. absurd (cc)))
one_more f h DownLeft v a b c = omega (arith, spread f, spread h, c Right (λ e. absurd (cc)), c Left (λ e. absurd (cc)), c Down (λ e. absurd (cc)), c DownRight (λ e. absurd (cc)), c Up (λ e. absurd (cc)), c UpRight (λ e. absurd (cc)), c UpLeft (λ e. absurd (cc)))
one_more f h Up v a b c = omega (arith, spread f, spread h, c Right (λ e. absurd (cc)), c Left (λ e. absurd (cc)), c Down (λ e. absurd (cc)), c DownRight (λ e. absurd (cc)), c DownLeft (λ e. absurd (cc)), c UpRight (λ e. absurd (cc)), c UpLeft (λ e. absurd (cc)))
one_more f h UpRight v a b c = omega (arith, spread f, spread h, c Right (λ e. absurd (cc)), c Left (λ e. absurd (cc)), c Down (λ e. absurd (cc)), c DownRight (λ e. absurd (cc)), c DownLeft (λ e. absurd (cc)), c Up (λ e. absurd (cc)), c UpLeft (λ e. absurd (cc)))
one_more f h UpLeft v a b c = omega (arith, spread f, spread h, c Right (λ e. absurd (cc)), c Left (λ e. absurd (cc)), c Down (λ e. absurd (cc)), c DownRight (λ e. absurd (cc)), c DownLeft (λ e. absurd (cc)), c Up (λ e. absurd (cc)), c UpRight (λ e. absurd (cc)))

at_most : (f : Dir → ℕ) (m : ℕ) → ((dir : Dir) → f dir ≤ m) → sum_by f directions ≤ 8 * m
at_most f m h = omega (arith, spread f, h Right, h Left, h Down, h DownRight, h DownLeft, h Up, h UpRight, h UpLeft)

-- a sum in which one term is 0 has room for one more
with_room : (f : Dir → ℕ) (dir : Dir) (m : ℕ) → f dir ≡ 0 → ((dir : Dir) → f dir ≤ m) → sum_by f directions ≤ 7 * m
with_room f Right m e h = omega (arith, spread f, h Left, h Down, h DownRight, h DownLeft, h Up, h UpRight, h UpLeft)
with_room f Left m e h = omega (arith, spread f, h Right, h Down, h DownRight, h DownLeft, h Up, h UpRight, h UpLeft)
with_room f Down m e h = omega (arith, spread f, h Right, h Left, h DownRight, h DownLeft, h Up, h UpRight, h UpLeft)
with_room f DownRight m e h = omega (arith, spread f, h Right, h Left, h Down, h DownLeft, h Up, h UpRight, h UpLeft)
with_room f DownLeft m e h = omega (arith, spread f, h Right, h Left, h Down, h DownRight, h Up, h UpRight, h UpLeft)
with_room f Up m e h = omega (arith, spread f, h Right, h Left, h Down, h DownRight, h DownLeft, h UpRight, h UpLeft)
with_room f UpRight m e h = omega (arith, spread f, h Right, h Left, h Down, h DownRight, h DownLeft, h Up, h UpLeft)
with_room f UpLeft m e h = omega (arith, spread f, h Right, h Left, h Down, h DownRight, h DownLeft, h Up, h UpRight)

-- the term of a direction
term : (Dir → Bool) → Problem → Pixel → ℕ → Dir → ℕ
term done g p d dir = cond (done dir) (path_value g dir p d) 0

term_same : (done now : Dir → Bool) (g : Problem) (p : Pixel) (d : ℕ) (dir : Dir) → now dir ≡ done dir → term now g p d dir ≡ term done g p d dir
unfolding term
term_same done now g p d dir e = ap (λ b. cond b (path_value g dir p d) 0) e

term_done : (done : Dir → Bool) (g : Problem) (p : Pixel) (d : ℕ) (dir : Dir) → done dir ≡ true → term done g p d dir ≡ path_value g dir p d
unfolding term
term_done done g p d dir e = ap (λ b. cond b (path_value g dir p d) 0) e

term_left : (done : Dir → Bool) (g : Problem) (p : Pixel) (d : ℕ) (dir : Dir) → done dir ≡ false → term done g p d dir ≡ 0
unfolding term
term_left done g p d dir e = ap (λ b. cond b (path_value g dir p d) 0) e

if_le : (b : Bool) (v m : ℕ) → v ≤ m → cond b v 0 ≤ m
if_le true v m h = h
if_le false v m h = omega arith

term_le : (done : Dir → Bool) (g : Problem) (p : Pixel) (d most top : ℕ) (dir : Dir) → d < g.count → IsInside g p → IsWithin g most top → term done g p d dir ≤ most + top
unfolding term
term_le done g p d most top dir h i w = if_le (done dir) (path_value g dir p d) (most + top) (high g dir p d most top h i w)

sum_is : (done : Dir → Bool) (g : Problem) (p : Pixel) (d : ℕ) → sum_done done g p d ≡ sum_by (term done g p d) directions
unfolding sum_done term
sum_is done g p d = refl

pub done_none : (g : Problem) (p : Pixel) (d : ℕ) → sum_done (λ _. false) g p d ≡ 0
unfolding sum_done
done_none g p d = refl

pub done_more : (done now : Dir → Bool) (dir : Dir) (g : Problem) (p : Pixel) (d : ℕ) → done dir ≡ false → now dir ≡ true → ((other : Dir) → other ≢ dir → now other ≡ done other)
    → sum_done now g p d ≡ sum_done done g p d + path_value g dir p d
done_more done now dir g p d left here others =
    omega (
      arith,
      sum_is now g p d,
      sum_is done g p d,
      one_more (term done g p d) (term now g p d) dir (path_value g dir p d) (term_left done g p d dir left) (term_done now g p d dir here)
          (λ other ne. term_same done now g p d other (others other ne)),
    )

pub done_all : (done : Dir → Bool) (g : Problem) (p : Pixel) (d : ℕ) → ((dir : Dir) → done dir ≡ true) → sum_done done g p d ≡ path_sum g p d
unfolding path_sum
done_all done g p d all =
    omega (
      arith,
      sum_is done g p d,
      spread (term done g p d),
      spread (λ dir. path_value g dir p d),
      term_done done g p d Right (all Right),
      term_done done g p d Left (all Left),
      term_done done g p d Down (all Down),
      term_done done g p d DownRight (all DownRight),
      term_done done g p d DownLeft (all DownLeft),
      term_done done g p d Up (all Up),
      term_done done g p d UpRight (all UpRight),
      term_done done g p d UpLeft (all UpLeft),
    )

pub done_room : (done : Dir → Bool) (dir : Dir) (g : Problem) (p : Pixel) (d most top : ℕ) → d < g.count → IsInside g p → IsWithin g most top → done dir ≡ false
    → sum_done done g p d ≤ 7 * (most + top)
done_room done dir g p d most top h i w left =
    omega (
      arith,
      sum_is done g p d,
      with_room (term done g p d) dir (most + top) (term_left done g p d dir left) (λ other. term_le done g p d most top other h i w),
    )

pub done_bound : (done : Dir → Bool) (g : Problem) (p : Pixel) (d most top : ℕ) → d < g.count → IsInside g p → IsWithin g most top → sum_done done g p d ≤ 8 * (most + top)
done_bound done g p d most top h i w =
    omega (arith, sum_is done g p d, at_most (term done g p d) (most + top) (λ dir. term_le done g p d most top dir h i w))

pub sum_bound : (g : Problem) (p : Pixel) (d most top : ℕ) → d < g.count → IsInside g p → IsWithin g most top → path_sum g p d ≤ 8 * (most + top)
sum_bound g p d most top h i w =
    omega (arith, done_all (λ _. true) g p d (λ _. refl), done_bound (λ _. true) g p d most top h i w)
