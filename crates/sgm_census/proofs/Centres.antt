-- The centre of a window among its values, and codes without it.
use Rattle.std.proofs.Common.{◌≡◌, ℕ, ◌+◌, ◌-◌, ◌*◌, ◌/◌, ◌%◌, ◌<◌, ◌≤◌, suc, Bool, ltb, List, [], ◌∷◌, ◌++◌, length, take, drop, get_or, Option, Some, None, option_map, option_and_then, refl, sym, ap, ◌∙◌, subst, arith, length-append, append_assoc, ◌⊎◌, inl, inr}
use Rattle.std.proofs.lemmas.Bool.{cases_lt}
use Rattle.std.proofs.lemmas.List.{take_at, drop_at, length-take, length-drop, take-append-drop, drop_more}
use Rattle.std.proofs.lemmas.Nat.{mul-add-lt}
use Rattle.std.specs.List.{remove}
use Rattle.sgm_base.specs.Values.{Values, value_at}
use Rattle.sgm_census.specs.Windows.{WindowSides, IsWindow, greatest_of}
use Rattle.sgm_census.specs.Codes.{value_near, window_values, less_than, code_at}
use Rattle.sgm_census.proofs.InWindow.{length-window_values, get_or-window_values, value_near-inside, value_near-left, value_near-right, value_near-top, value_near-bottom}
use Rattle.sgm_census.proofs.LessThan.{joined, less_than-append, less_than-one, less_than_none, length-less_than}

-- the place of the centre among the values of a window
abbrev pub middle : WindowSides → ℕ
middle window = window.width * window.height / 2

pub record IsMiddle (width height m : ℕ) : Type 0 where
  pub twice : width * height ≡ 2 * m + 1
  pub place : m ≡ height / 2 * width + width / 2

height_cases : (height : ℕ) → 3 ≤ height → height ≤ 7 → height % 2 ≡ 1 → (height ≡ 3) ⊎ ((height ≡ 5) ⊎ (height ≡ 7))
height_cases height low high odd = elim (cases_lt height 4) [
  | inl h ↦ inl (omega arith)
  | inr h ↦ elim (cases_lt height 6) [ inl k ↦ inr (inl (omega arith)) | inr k ↦ inr (inr (omega arith)) ]
]

middle_at : (width height : ℕ) → width % 2 ≡ 1 → (height ≡ 3) ⊎ ((height ≡ 5) ⊎ (height ≡ 7)) → IsMiddle width height (width * height / 2)
middle_at width height odd (inl e) = subst (λ h. IsMiddle width h (width * h / 2)) (sym e) record { twice = omega arith; place = omega arith }
middle_at width height odd (inr (inl e)) = subst (λ h. IsMiddle width h (width * h / 2)) (sym e) record { twice = omega arith; place = omega arith }
middle_at width height odd (inr (inr e)) = subst (λ h. IsMiddle width h (width * h / 2)) (sym e) record { twice = omega arith; place = omega arith }

pub is_middle : (width height : ℕ) → IsWindow width height → IsMiddle width height (width * height / 2)
is_middle width height w = middle_at width height w.odd_width (height_cases height w.high.0 w.high.1 w.odd_height)

-- the centre's value stands in the middle
pub get_or-middle : (plane : Values) (window : WindowSides) (x y : ℕ) → IsWindow window.width window.height → get_or (window_values plane window x y) (middle window) None ≡ value_at plane x y
get_or-middle plane window x y w =
    let across : window.width / 2 < window.width = omega (arith, w.wide) in
    let down : window.height / 2 < window.height = omega (arith, w.high) in
    ap (λ k. get_or (window_values plane window x y) k None) (is_middle window.width window.height w).place
    ∙ get_or-window_values plane window x y (window.width / 2) (window.height / 2) across down
    ∙ value_near-inside plane window x y (window.width / 2) (window.height / 2) x y (omega arith) (omega arith) (omega arith) (omega arith)

-- ---- without one value

remove_push : {X : Type 0} (a : Option (List X)) (t : X) (b : Option (List X)) (m : ℕ) → ((xs : List X) → a ≡ Some xs → length xs ≡ m)
    → joined a b ≡ option_map (λ bs. remove bs m) (joined a (joined (Some (t ∷ [])) b))
remove_push None t b m h = refl
remove_push (Some xs) t None m h = refl
remove_push (Some xs) t (Some ys) m h =
    let long : length xs ≡ m = h xs refl in
    let taken : take m (xs ++ (t ∷ ys)) ≡ xs = take_at xs (t ∷ ys) m long in
    let dropped : drop (suc m) (xs ++ (t ∷ ys)) ≡ ys = ap (λ us. drop (suc m) us) (sym (append_assoc xs (t ∷ []) ys)) ∙ drop_at (xs ++ t ∷ []) ys (suc m) (omega (arith, length-append xs (t ∷ []), long)) in
    ap (λ us. Some us) (sym (ap (λ us. us ++ drop (suc m) (xs ++ (t ∷ ys))) taken ∙ ap (λ us. xs ++ us) dropped))

-- the truth values without one of them are those of the values without it, where that value is there
pub less_than-remove : (centre v m : ℕ) (xs : List (Option ℕ)) → m < length xs → get_or xs m None ≡ Some v → less_than centre (remove xs m) ≡ option_map (λ bs. remove bs m) (less_than centre xs)
less_than-remove centre v m xs h e =
    let front = take m xs in
    let rest = drop (suc m) xs in
    let next : suc m ≡ m + 1 = omega arith in
    let split : xs ≡ front ++ (Some v ∷ rest) =
    sym (take-append-drop m xs) ∙ ap (λ us. front ++ us) (drop_more xs m None h ∙ ap (λ o. o ∷ drop (m + 1) xs) e ∙ ap (λ k. Some v ∷ drop k xs) (sym next)) in
    let whole : less_than centre xs ≡ joined (less_than centre front) (joined (Some (ltb v centre ∷ [])) (less_than centre rest)) =
    ap (λ us. less_than centre us) split ∙ less_than-append centre front (Some v ∷ rest)
    ∙ ap (λ o. joined (less_than centre front) o) (less_than-append centre (Some v ∷ []) rest ∙ ap (λ o. joined o (less_than centre rest)) (less_than-one centre v)) in
    less_than-append centre front rest
    ∙ remove_push (less_than centre front) (ltb v centre) (less_than centre rest) m (λ bs f. length-less_than centre front bs f ∙ omega (arith, length-take m xs))
    ∙ ap (λ o. option_map (λ bs. remove bs m) o) (sym whole)

-- ---- codes

pub code_at-void : (plane : Values) (window : WindowSides) (x y : ℕ) → value_at plane x y ≡ None → code_at plane window x y ≡ None
unfolding code_at
code_at-void plane window x y e = ap (λ o. option_and_then (λ centre. less_than centre (remove (window_values plane window x y) (window.width * window.height / 2))) o) e

pub code_at-there : (plane : Values) (window : WindowSides) (x y centre : ℕ) → IsWindow window.width window.height → value_at plane x y ≡ Some centre
    → code_at plane window x y ≡ option_map (λ bs. remove bs (middle window)) (less_than centre (window_values plane window x y))
unfolding code_at
code_at-there plane window x y centre w e =
    let twice = (is_middle window.width window.height w).twice in
    ap (λ o. option_and_then (λ c. less_than c (remove (window_values plane window x y) (window.width * window.height / 2))) o) e
    ∙ less_than-remove centre centre (middle window) (window_values plane window x y) (omega (arith, length-window_values plane window x y, twice)) (get_or-middle plane window x y w ∙ e)

-- a value of the window is missing
missing : (plane : Values) (window : WindowSides) (x y i j : ℕ) (o : Option ℕ) → IsWindow window.width window.height → value_at plane x y ≡ o → i < window.width → j < window.height → value_near plane window x y i j ≡ None
    → code_at plane window x y ≡ None
missing plane window x y i j None w o h k e = code_at-void plane window x y o
missing plane window x y i j (Some centre) w o h k e =
    let inside : j * window.width + i < length (window_values plane window x y) = omega (arith, length-window_values plane window x y, mul-add-lt j window.width i window.height k h) in
    code_at-there plane window x y centre w o
    ∙ ap (λ p. option_map (λ bs. remove bs (middle window)) p)
    (less_than_none centre (window_values plane window x y) (j * window.width + i) None inside (get_or-window_values plane window x y i j h k ∙ e))

-- the window leaves the plane on one of its four sides
pub code_at-outside : (plane : Values) (window : WindowSides) (x y : ℕ) → IsWindow window.width window.height
    → (x < window.width / 2) ⊎ ((plane.width ≤ x + window.width / 2) ⊎ ((y < window.height / 2) ⊎ (plane.height ≤ y + window.height / 2)))
    → code_at plane window x y ≡ None
code_at-outside plane window x y w (inl h) = missing plane window x y 0 0 _ w refl (omega (arith, w.wide)) (omega (arith, w.high)) (value_near-left plane window x y 0 0 (omega arith))
code_at-outside plane window x y w (inr (inl h)) =
    missing plane window x y (window.width - 1) 0 _ w refl (omega (arith, w.wide)) (omega (arith, w.high)) (value_near-right plane window x y (window.width - 1) 0 (omega (arith, w.wide, w.odd_width)))
code_at-outside plane window x y w (inr (inr (inl h))) = missing plane window x y 0 0 _ w refl (omega (arith, w.wide)) (omega (arith, w.high)) (value_near-top plane window x y 0 0 (omega arith))
code_at-outside plane window x y w (inr (inr (inr h))) =
    missing plane window x y 0 (window.height - 1) _ w refl (omega (arith, w.wide)) (omega (arith, w.high)) (value_near-bottom plane window x y 0 (window.height - 1) (omega (arith, w.high, w.odd_height)))

length-code : (plane : Values) (window : WindowSides) (x y : ℕ) (o : Option ℕ) (code : List Bool) → IsWindow window.width window.height
    → option_and_then (λ centre. less_than centre (remove (window_values plane window x y) (middle window))) o ≡ Some code → length code ≡ greatest_of window
length-code plane window x y None code w e = cc
length-code plane window x y (Some centre) code w e =
    let values = window_values plane window x y in
    let m = middle window in
    omega (
      arith,
      length-less_than centre (remove values m) code e,
      length-append (take m values) (drop (suc m) values),
      length-take m values,
      length-drop (suc m) values,
      length-window_values plane window x y,
      (is_middle window.width window.height w).twice,
    )

-- a code has a truth value for each pixel of the window beside the centre
pub length-code_at : (plane : Values) (window : WindowSides) (x y : ℕ) (code : List Bool) → IsWindow window.width window.height → code_at plane window x y ≡ Some code → length code ≡ greatest_of window
unfolding code_at
length-code_at plane window x y code w e = length-code plane window x y (value_at plane x y) code w e
