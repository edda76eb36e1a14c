-- Rectified rows.
use Rattle.std.proofs.Common.{◌≡◌, ℕ, ◌+◌, ◌-◌, ◌*◌, ◌/◌, ◌%◌, ◌<◌, ◌≤◌, cond, ltb, ◌&&◌, List, ◌++◌, length, get_or, set, take, map, below_more, Option, Some, None, option_map, IfSome, pos, sym, ap, ◌∙◌, subst, arith, inl, inr}
use Rattle.std.specs.List.{range_with_len}
use Rattle.std.specs.Prelude.{min}
use Rattle.std.proofs.Math.Nat.{div-mul-le_self, dvd-mul_left, mod-mod_of_dvd, mul-add-div_right, mul-add-mod_self_right, mul-le-mul_right, mul-mod_left, mul-sub, zero-mod}
use Rattle.std.proofs.lemmas.Bool.{cases_lt, lt-ltb}
use Rattle.std.proofs.lemmas.List.{get_or-take, get_or_append_left, get_or-append_right, get_or-set_same, get_or-set_other, ext_get_or}
use Rattle.std.proofs.lemmas.List.FromFn.{length-map-range_with_len, get_or-map-range_with_len}
use Rattle.std.proofs.lemmas.Nat.{div-add-mod', div-mul-add, mod-mul-add}
use Rattle.sgm_base.specs.Picture.{Picture}
use Rattle.sgm_base.specs.Values.{Values}
use Rattle.sgm_rectify.specs.declared.warp.Warp.{Warp}
use Rattle.sgm_rectify.specs.declared.warp.Warp.TheVariants.{Identity}
use Rattle.sgm_rectify.specs.Places.{place_of}
use Rattle.sgm_rectify.specs.Bilinear.{whole, fraction, mean_at, bilinear}
use Rattle.sgm_rectify.specs.Rectified.{rectified, rectified_values}
use Rattle.sgm_rectify.proofs.Means.{mean_of}

-- one row more
pub row_more : (width y : ℕ) (into front row rest : List (Option ℕ)) (f : ℕ → ℕ → Option ℕ) → front ≡ take (y * width) into → length front ≡ y * width → length row ≡ width
    → ((k : ℕ) → k < y * width → get_or into k None ≡ f (k % width) (k / width)) → ((x : ℕ) → x < width → get_or row x None ≡ f x y)
    → (k : ℕ) → k < (y + 1) * width → get_or (front ++ (row ++ rest)) k None ≡ f (k % width) (k / width)
row_more width y into front row rest f ef lf lr old new k h = elim (cases_lt k (y * width)) [
  | inl l ↦
      get_or_append_left front (row ++ rest) None k (omega (arith, lf, l)) ∙ ap (λ us. get_or us k None) ef ∙ get_or-take (y * width) into k None l ∙ old k l
  | inr l ↦
      (let x : ℕ = k - y * width in
      let inside : x < width = omega arith in
      let at : y * width + x ≡ k = omega arith in
      let column : k % width ≡ x = ap (λ n. n % width) (sym at) ∙ mod-mul-add y width x inside in
      let line : k / width ≡ y = ap (λ n. n / width) (sym at) ∙ div-mul-add y width x inside in
      get_or-append_right front (row ++ rest) (y * width) k None lf l
      ∙ get_or_append_left row rest None x (omega arith) ∙ new x inside ∙ sym (ap (λ n. f n (k / width)) column ∙ ap (λ n. f x n) line))
]

-- rows that begin at a place

pub begin_of : (start width : ℕ) → start % width ≡ 0 → start / width * width ≡ start
begin_of start width whole = omega (arith, div-add-mod' start width, whole)

-- a row that has room lies inside
pub row_inside : (start row len width height : ℕ) → 0 < width → start % width ≡ 0 → row < len / width → start + len ≤ width * height → start / width + row < height
row_inside start row len width height some whole room inside =
    let first = start / width in
    elim (cases_lt (first + row) height) [
      | inl l ↦ l
      | inr l ↦ absurd (omega (arith, inside, begin_of start width whole, mul-le-mul_right width l, mul-le-mul_right {m = row + 1} {n = len / width} width (omega (arith, room)), div-mul-le_self len width, some))
    ]

-- the column and the row of a place behind it
pub place_column : (start k width : ℕ) → start % width ≡ 0 → k % width ≡ (start + k) % width
place_column start k width whole =
    sym (mul-add-mod_self_right (start / width) width k) ∙ ap (λ n. (n + k) % width) (begin_of start width whole)

pub place_row : (start k width : ℕ) → 0 < width → start % width ≡ 0 → start / width + k / width ≡ (start + k) / width
place_row start k width some whole =
    sym (mul-add-div_right some (start / width) k) ∙ ap (λ n. (n + k) / width) (begin_of start width whole)

-- a part that is so many rows, or what is left, has whole rows
pub begins_whole : (start rows width : ℕ) → start % (rows * width) ≡ 0 → start % width ≡ 0
begins_whole start rows width e =
    sym (mod-mod_of_dvd width start (dvd-mul_left width rows)) ∙ ap (λ n. n % width) e ∙ zero-mod width

pub ends_whole : (start len rows width height : ℕ) → start % width ≡ 0 → len ≡ min (rows * width) (width * height - start) → len % width ≡ 0
ends_whole start len rows width height whole e = elim (cases_lt (rows * width) (width * height - start)) [
  | inl l ↦ (let full : len ≡ rows * width = omega (arith, e, l) in ap (λ n. n % width) full ∙ mul-mod_left rows width)
  | inr l ↦
      (let rest : len ≡ (height - start / width) * width = omega (arith, e, l, begin_of start width whole, mul-sub width height (start / width)) in
      ap (λ n. n % width) rest ∙ mul-mod_left (height - start / width) width)
]

-- all rows
pub all_rows : (image : Picture) (warp : Warp) (into : List (Option ℕ)) → length into ≡ image.width * image.height
    → ((k : ℕ) → k < length into → get_or into k None ≡ rectified image warp (k % image.width) (k / image.width))
    → into ≡ (rectified_values image warp).entries
unfolding rectified_values
all_rows image warp into e h =
    let n : ℕ = image.width * image.height in
    let f : ℕ → Option ℕ = λ k. rectified image warp (k % image.width) (k / image.width) in
    ext_get_or None into (map f (range_with_len 0 n)) (e ∙ sym (length-map-range_with_len f 0 n))
    (λ k l.
    let inside : k < n = omega (arith, e) in
    h k l ∙ sym (get_or-map-range_with_len f 0 n k k None inside (omega arith)))

-- at a pixel's own place the value is its sample
inside-is : (image : Picture) (x y v : ℕ) → x < image.width → y < image.height → cond {A = Option ℕ} (ltb x image.width && ltb y image.height) (Some v) None ≡ Some v
inside-is image x y v h k =
    ap (λ b. cond {A = Option ℕ} (b && ltb y image.height) (Some v) None) (lt-ltb x image.width h) ∙ ap (λ b. cond {A = Option ℕ} b (Some v) None) (lt-ltb y image.height k)

mean_at-pixel : (image : Picture) (x y : ℕ) → x < image.width → y < image.height → mean_at image (pos x) (pos y) 0 0 ≡ Some (get_or image.samples (y * image.width + x) 0)
unfolding mean_at
mean_at-pixel image x y h k =
    let v : ℕ = get_or image.samples (y * image.width + x) 0 in
    let rounded : (65536 * v + (0 + (0 + (0 + 0))) + 32768) / 65536 ≡ v = omega arith in
    ap (λ o. mean_of (option_map (λ s. 65536 * s) o) (Some 0) (Some 0) (Some 0)) (inside-is image x y v h k) ∙ ap (λ n. Some n) rounded

pub rectified-identity : (image : Picture) (x y : ℕ) → x < image.width → y < image.height → rectified image Identity x y ≡ Some (get_or image.samples (y * image.width + x) 0)
unfolding rectified place_of bilinear
rectified-identity image x y h k =
    let column : (256 * x) / 256 ≡ x = omega arith in
    let line : (256 * y) / 256 ≡ y = omega arith in
    let right : (256 * x) % 256 ≡ 0 = omega arith in
    let down : (256 * y) % 256 ≡ 0 = omega arith in
    ap (λ (n : ℕ). mean_at image (pos n) (whole (pos (256 * y))) (fraction (pos (256 * x))) (fraction (pos (256 * y)))) column
    ∙ ap (λ (n : ℕ). mean_at image (pos x) (pos n) (fraction (pos (256 * x))) (fraction (pos (256 * y)))) line
    ∙ ap (λ (n : ℕ). mean_at image (pos x) (pos y) n (fraction (pos (256 * y)))) right
    ∙ ap (λ (n : ℕ). mean_at image (pos x) (pos y) 0 n) down
    ∙ mean_at-pixel image x y h k

-- one entry more
pub entry_more : (into : List (Option ℕ)) (x : ℕ) (v : Option ℕ) (f : ℕ → Option ℕ) → x < length into → ((k : ℕ) → k < x → get_or into k None ≡ f k) → v ≡ f x
    → (k : ℕ) → k < x + 1 → get_or (set into x v) k None ≡ f k
entry_more into x v f h old new =
    below_more (λ k. get_or (set into x v) k None ≡ f k) x (λ k l. get_or-set_other into x k v None (omega arith) ∙ old k l) (get_or-set_same into x v None h ∙ new)

-- a plane that was made
pub made_is : (o : Option Values) (p v : Values) → o ≡ Some p → IfSome o (λ q. q ≡ v) → p ≡ v
made_is o p v e h = subst (λ (q : Option Values). IfSome q (λ r. r ≡ v)) e h
