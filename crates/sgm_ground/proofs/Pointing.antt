-- The points of a map, and what is held of them.
use Rattle.std.proofs.Common.{◌≡◌, ℕ, zero, suc, ◌+◌, ◌*◌, ◌<◌, ◌≤◌, List, [], ◌∷◌, ◌++◌, get_or, Option, Some, None, ℤ, refl, sym, ap, ◌∙◌, arith}
use Rattle.std.specs.Prelude.{fold, option_and_then}
use Rattle.std.specs.List.{filter_map, flat_map, range_with_len}
use Rattle.std.proofs.lemmas.List.Elements.{filter_map-append}
use Rattle.std.proofs.lemmas.List.Sums.{fold-append}
use Rattle.std.proofs.lemmas.Grind.{flat_map-append}
use Rattle.std.proofs.Math.Nat.{mul-le-mul_right}
use Rattle.sgm_base.specs.Values.{Values, row_of, value_at}
use Rattle.sgm_base.specs.declared.point.Point.{Point}
use Rattle.sgm_census.proofs.InWindow.{get_or-row_of}
use Rattle.sgm_height.specs.declared.station.Station.{Station}
use Rattle.sgm_grid.specs.Binning.{Binned, with_point}
use Rattle.sgm_ground.specs.Heights.{point_at, points_of_row}

-- ---- one place more

range_more : (a n : ℕ) → range_with_len a (n + 1) ≡ range_with_len a n ++ (a + n) ∷ []
range_more a zero = let same : a ≡ a + 0 = omega arith in ap (λ k. k ∷ []) same
range_more a (suc n) =
    let same : a + 1 + n ≡ a + suc n = omega arith in
    let longer : suc n + 1 ≡ suc (n + 1) = omega arith in
    ap (range_with_len a) longer ∙ ap (λ xs. a ∷ xs) (range_more (a + 1) n ∙ ap (λ k. range_with_len (a + 1) n ++ k ∷ []) same)

-- the numbers below n + 1
pub below_more : (n : ℕ) → range_with_len 0 (n + 1) ≡ range_with_len 0 n ++ n ∷ []
below_more n = let same : 0 + n ≡ n = omega arith in range_more 0 n ∙ ap (λ k. range_with_len 0 n ++ k ∷ []) same

-- what is held after a point, where there is one
abbrev pub after : Binned → Option Point → Binned
after bins None = bins
after bins (Some p) = with_point bins p

one_point : (f : ℕ → Option Point) (n : ℕ) (bins : Binned) (o : Option Point) → f n ≡ o → fold with_point bins (filter_map f (n ∷ [])) ≡ after bins o
one_point f n bins None e = rw e refl
one_point f n bins (Some p) e = rw e refl

pub points_more : (f : ℕ → Option Point) (n : ℕ) (bins : Binned)
    → fold with_point bins (filter_map f (range_with_len 0 (n + 1))) ≡ after (fold with_point bins (filter_map f (range_with_len 0 n))) (f n)
points_more f n bins =
    ap (λ xs. fold with_point bins (filter_map f xs)) (below_more n)
    ∙ ap (fold with_point bins) (filter_map-append f (range_with_len 0 n) (n ∷ []))
    ∙ fold-append with_point bins (filter_map f (range_with_len 0 n)) (filter_map f (n ∷ []))
    ∙ one_point f n (fold with_point bins (filter_map f (range_with_len 0 n))) (f n) refl

-- the loop over a row goes on past a pixel with a point, and past one without
pub row_point : (f : ℕ → Option Point) (n : ℕ) (start now new : Binned) (p : Point)
    → now ≡ fold with_point start (filter_map f (range_with_len 0 n)) → Some p ≡ f n → new ≡ with_point now p
    → new ≡ fold with_point start (filter_map f (range_with_len 0 (n + 1)))
row_point f n start now new p before here is =
    is ∙ ap (λ g. with_point g p) before ∙ ap (after (fold with_point start (filter_map f (range_with_len 0 n)))) here ∙ sym (points_more f n start)

pub row_none : (f : ℕ → Option Point) (n : ℕ) (start now : Binned)
    → now ≡ fold with_point start (filter_map f (range_with_len 0 n)) → None ≡ f n
    → now ≡ fold with_point start (filter_map f (range_with_len 0 (n + 1)))
row_none f n start now before here =
    before ∙ ap (after (fold with_point start (filter_map f (range_with_len 0 n)))) here ∙ sym (points_more f n start)

-- ---- one row more

pub append_none : {X : Type 0} (xs : List X) → xs ++ [] ≡ xs
append_none [] = refl
append_none (x ∷ xs) = ap (λ ys. x ∷ ys) (append_none xs)

pub rows_more : (f : ℕ → List Point) (n : ℕ) (start now new : Binned)
    → now ≡ fold with_point start (flat_map f (range_with_len 0 n)) → new ≡ fold with_point now (f n)
    → new ≡ fold with_point start (flat_map f (range_with_len 0 (n + 1)))
rows_more f n start now new before is =
    is ∙ ap (λ g. fold with_point g (f n)) before
    ∙ sym (
    ap (λ xs. fold with_point start (flat_map f xs)) (below_more n)
    ∙ ap (fold with_point start) (flat_map-append f (range_with_len 0 n) (n ∷ []))
    ∙ fold-append with_point start (flat_map f (range_with_len 0 n)) (flat_map f (n ∷ []))
    ∙ ap (fold with_point (fold with_point start (flat_map f (range_with_len 0 n)))) (append_none (f n)))

same_points : (f g : ℕ → Option Point) (a n : ℕ) → ((x : ℕ) → x < a + n → f x ≡ g x) → filter_map f (range_with_len a n) ≡ filter_map g (range_with_len a n)
same_points f g a zero h = refl
same_points f g a (suc n) h =
    let rest = same_points f g (a + 1) n (λ x l. h x (omega arith)) in
    let here : f a ≡ g a = h a (omega arith) in
    rw (here, rest) refl

-- the points of a row of the map are those of its pixels
pub row_points : (station : Station) (first : ℤ) (map : Values) (y n : ℕ) (row : List (Option ℕ)) → y < map.height → row ≡ row_of map y → n ≡ map.width
    → filter_map (λ x. option_and_then (point_at station first x y) (get_or row x None)) (range_with_len 0 n) ≡ points_of_row station first map y
row_points station first map y n row inside is wide =
    ap (λ k. filter_map (λ x. option_and_then (point_at station first x y) (get_or row x None)) (range_with_len 0 k)) wide
    ∙ ap (λ r. filter_map (λ x. option_and_then (point_at station first x y) (get_or r x None)) (range_with_len 0 map.width)) is
    ∙ same_points (λ x. option_and_then (point_at station first x y) (get_or (row_of map y) x None)) (λ x. option_and_then (point_at station first x y) (value_at map x y)) 0 map.width
    (λ x l. ap (option_and_then (point_at station first x y)) (get_or-row_of map x y (omega arith) inside))

-- a row of a map that has more rows takes no more than is left
pub row_fits : (y height width : ℕ) → y < height → width + y * width ≤ height * width
row_fits y height width inside =
    let rows : suc y * width ≤ height * width = mul-le-mul_right width inside in omega (arith, rows)
