-- The pixels of a ray, walked from its last.
use Rattle.std.proofs.Common.{◌≡◌, ℕ, ◌<◌, ◌≤◌, List, [], ◌∷◌, ◌++◌, map, reverse, refl, sym, ap, ◌∙◌, arith}
use Rattle.std.proofs.lemmas.List.{map-append, reverse-append}
use Rattle.sgm_energy.specs.declared.dir.Dir.{Dir}
use Rattle.sgm_energy.specs.declared.dir.Dir.TheVariants.{Right, Left, Down, DownRight, DownLeft, Up, UpRight, UpLeft}
use Rattle.sgm_energy.specs.Rays.{Pixel, Problem, IsInside}
use Rattle.sgm_energy.proofs.RayLemmas.{room}

pub map-reverse : {X Y : Type 0} (f : X → Y) (xs : List X) → map f (reverse xs) ≡ reverse (map f xs)
map-reverse f [] = refl
map-reverse f (x ∷ xs) =
    ap (map f) (reverse-append (x ∷ []) xs) ∙ map-append f (reverse xs) (x ∷ []) ∙ ap (λ ys. ys ++ f x ∷ []) (map-reverse f xs)
    ∙ sym (reverse-append (f x ∷ []) (map f xs))

-- no ray is longer than the longer side
pub room_within : (g : Problem) (dir : Dir) (p : Pixel) (most : ℕ) → g.width ≤ most → g.height ≤ most → IsInside g p → room g dir p < most
unfolding room
room_within g Right p most w h i = omega (arith, w, i.0)
room_within g Left p most w h i = omega (arith, w, i.0)
room_within g Down p most w h i = omega (arith, h, i.1)
room_within g DownRight p most w h i = omega (arith, h, i.1)
room_within g DownLeft p most w h i = omega (arith, h, i.1)
room_within g Up p most w h i = omega (arith, h, i.1)
room_within g UpRight p most w h i = omega (arith, h, i.1)
room_within g UpLeft p most w h i = omega (arith, h, i.1)
