-- Pixels, the problem that is solved over them, and the rays through them.
use Rattle.std.specs.Prelude.{◌≡◌, ℕ, ◌+◌, ◌-◌, ◌<◌, List, [], ◌∷◌, ◌++◌, take, length, Option}
use Rattle.std.specs.Prelude.{Some, None, option_and_then, zero, suc, nat_lt, if◌then◌else◌, ℤ, pos}
use Rattle.std.specs.Prelude.{negsuc, ◌+ℤ◌, ◌*ℤ◌}
use Rattle.std.specs.Option.{option_map_or}
use Rattle.sgm_base.specs.Values.{Values, value_at}
use Rattle.sgm_energy.specs.declared.dir.Dir.{Dir}
use Rattle.sgm_energy.specs.Dirs.{offset}
use Rattle.sgm_energy.specs.Pens.{Penalties, far_of}

-- the column, to the right from 0, and the row, downwards from 0
pub record Pixel : Type 0 where
  pub x : ℕ
  pub y : ℕ

abbrev pub pixel_at : ℕ → ℕ → Pixel
pixel_at x y = record { x = x; y = y }

-- An image of width by height pixels, each of which is to have an index below count: the cost of an
-- index at a pixel, and, from one pixel of a ray to the next, the penalty of an index that changes
-- by one, p1, and that of an index that changes by more, far.
pub record Problem : Type 0 where
  pub width : ℕ
  pub height : ℕ
  pub count : ℕ
  pub cost : Pixel → ℕ → ℕ
  pub p1 : ℕ
  pub far : Pixel → Pixel → ℕ

-- The problem with these penalties over an image with this guide: where they follow the image, the
-- penalty of an index that changes by more than one is what the guide leaves of it.
abbrev pub guided_problem : ℕ → ℕ → ℕ → (Pixel → ℕ → ℕ) → Penalties → Values → Problem
guided_problem width height count cost penalties guide =
    record {
      width = width;
      height = height;
      count = count;
      cost = cost;
      p1 = penalties.p1;
      far = λ q p. far_of penalties (value_at guide p.x p.y) (value_at guide q.x q.y);
    }

abbrev pub IsInside : Problem → Pixel → Type 0
IsInside g p = (p.x < g.width) × (p.y < g.height)

-- the pixel r is p less k offsets
pub record StandsBefore (dir : Dir) (p : Pixel) (k : ℕ) (r : Pixel) : Type 0 where
  pub across : pos r.x +ℤ (pos k *ℤ (offset dir).0) ≡ pos p.x
  pub down : pos r.y +ℤ (pos k *ℤ (offset dir).1) ≡ pos p.y

-- ps is the ray that comes to p: all pixels p less k offsets, for k = 0, 1, 2 and so on, that come
-- before the first one outside the image, the farthest first
pub record IsRay (g : Problem) (dir : Dir) (p : Pixel) (ps : List Pixel) : Type 0 where
  -- a pixel of it with k pixels after it lies in the image and is p less k offsets
  pub inside : (qs rs : List Pixel) (r : Pixel) → ps ≡ qs ++ r ∷ rs → IsInside g r
  pub places : (qs rs : List Pixel) (r : Pixel) → ps ≡ qs ++ r ∷ rs
      → StandsBefore dir p (length rs) r
  -- one offset further than the first there is no pixel of the image
  pub ends : (r : Pixel) → StandsBefore dir p (length ps) r → ¬ IsInside g r

-- n less z, where that is a number below limit
abbrev pub minus : ℕ → ℕ → ℤ → Option ℕ
minus limit n (pos k) = if nat_lt n k then None else if nat_lt (n - k) limit then Some (n - k)
    else None
minus limit n (negsuc k) = if nat_lt (n + (k + 1)) limit then Some (n + (k + 1)) else None

-- the column and the row that a direction comes from, where they lie in an image so wide or high
abbrev pub column_before : Dir → ℕ → ℕ → Option ℕ
column_before dir width x = minus width x (offset dir).0

abbrev pub row_before : Dir → ℕ → ℕ → Option ℕ
row_before dir height y = minus height y (offset dir).1

-- the pixel before p in a direction: p less the offset, where that lies in the image
abbrev pub predecessor : Problem → Dir → Pixel → Option Pixel
predecessor g dir p =
    option_and_then (λ x. option_and_then (λ y. Some (pixel_at x y)) (row_before dir g.height p.y))
    (column_before dir g.width p.x)

-- p, and before it the pixels from which a ray comes to it, at most n of them, the farthest first
unfoldable pub ray_within : Problem → Dir → ℕ → Pixel → List Pixel
ray_within g dir zero p = p ∷ []
ray_within g dir (suc n) p = option_map_or (ray_within g dir n) (predecessor g dir p) [] ++ p ∷ []

-- the ray that comes to p. No ray is longer than the two sides together
unfoldable pub ray : Problem → Dir → Pixel → List Pixel
ray g dir p = ray_within g dir (g.width + g.height) p

-- the ray without p
unfoldable pub before : Problem → Dir → Pixel → List Pixel
before g dir p = take (length (ray g dir p) - 1) (ray g dir p)
