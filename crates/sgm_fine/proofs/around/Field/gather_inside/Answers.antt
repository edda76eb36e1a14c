use Rattle.std.proofs.Common.{◌≡◌, ℕ, ◌+◌, ◌*◌, ◌<◌, ◌≤◌, ◌-◌, ◌/◌, ◌%◌, List, Option, None, refl, length, get_or, inl, inr, arith, rules, ap, ap₂, ◌∙◌}
use Rattle.std.proofs.lemmas.Bool.{cases_lt}
use Rattle.std.proofs.lemmas.List.{places}
use Rattle.std.proofs.lemmas.List.Edits.{get_or-between}
use Rattle.std.proofs.lemmas.Bool.Decides.{nat_tests}
use borrow.Rule.Slice.PartMut.{put_mid}
use Rattle.sgm_base.specs.Values.{Values, values_of}
use Rattle.sgm_fine.specs.Windows.{value_around}
use Rattle.sgm_fine.proofs.around.Field.gather_inside.Goals as goal

-- a row of five entries is written behind those before
row_more : (f : ℕ → ℕ → Option ℕ) (xs ys : List (Option ℕ)) (j n : ℕ) → length xs ≡ 25 → length ys ≡ 5 → j < 5
    → ((k : ℕ) → k < 5 * j → get_or xs k None ≡ f (k % 5) (k / 5))
    → ((i : ℕ) → i < 5 → get_or ys i None ≡ f i j)
    → (k : ℕ) → k < 5 * (j + 1) → get_or (put_mid (5 * j) n xs ys) k None ≡ f (k % 5) (k / 5)
row_more f xs ys j n lx ly few before row k lt = elim (cases_lt k (5 * j)) [
  | inl less ↦ search (rules, places) ∙ before k less
  | inr rest ↦
      let i : ℕ = k - 5 * j in
      let column : i ≡ k % 5 = omega (arith, lt, rest) in
      let down : j ≡ k / 5 = omega (arith, lt, rest) in
      search (rules, places) ∙ row i (omega (arith, lt, rest)) ∙ ap₂ f column down
]

-- an entry of a window that lies inside
entry_around : (map : Values) (x y i j at : ℕ) → 2 ≤ x → x + 2 < map.width → 2 ≤ y → y + 2 < map.height → i < 5 → j < 5
    → at ≡ (y + j - 2) * map.width + x - 2
    → get_or map.entries (at + i) None ≡ value_around map 2 x y i j
entry_around map x y i j at left right above below hi hj e =
    let same : at + i ≡ (y + j - 2) * map.width + (x + i - 2) = omega (arith, e, left) in
    ap (λ n. get_or map.entries n None) same ∙ grind (arith, nat_tests)

pub loop-j-preserved : goal.loop-j-preserved
loop-j-preserved c =
    let j = c.loop-j.j in
    let map = values_of c.self.inside.width c.self.inside.height c.self.inside.entries.now in
    let is : map ≡ c.args.self.now = c.self.view_is in
    let wide : map.width ≡ c.args.self.now.width = ap (λ (f : Values). f.width) is in
    let high : map.height ≡ c.args.self.now.height = ap (λ (f : Values). f.height) is in
    let at : ℕ = (c.args.y + j - 2) * map.width + c.args.x - 2 in
    let long : length c.copy_from_slice.new.self ≡ 5 = omega (arith, c.copy_from_slice.auto.self) in
    record {
      len = search (rules, places);
      few = omega (arith, c.loop-j-test.true);
      each = row_more (value_around c.args.self.now 2 c.args.x c.args.y) c.loop-j.window c.copy_from_slice.new.self j (5 * (j + 1) - 5 * j) c.loop-j.invariant.len long (omega (arith, c.loop-j-test.true)) c.loop-j.invariant.each (λ i hi.
          ap (λ l. get_or l i None) c.copy_from_slice.ensures.after
          ∙ get_or-between map.entries at (at + 5) i None (omega (arith, hi))
          ∙ entry_around map c.args.x c.args.y i j at c.requires.columns.0 (omega (arith, wide, c.requires.columns.1)) c.requires.rows.0 (omega (arith, high, c.requires.rows.1)) hi c.loop-j-test.true refl
          ∙ ap (λ f. value_around f 2 c.args.x c.args.y i j) is);
    }
