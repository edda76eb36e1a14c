-- Directions and the numbers of their fronts.
use Rattle.std.proofs.Common.{◌≡◌, ◌≢◌, ℕ, ◌-◌, ◌<◌, Bool, true, false, cond, List, length, get_or, set, sym, refl, ap, ◌∙◌, arith, lit<, zero, suc, get_or-set_same, get_or-set_other, Option, Some, None}
use mathlib.Core.Logic.{dite}
use native.Mathlib.Decide.{ℕ_discrete}
use Rattle.std.specs.Option.{option_map_or}
use Rattle.std.proofs.lemmas.Bool.{true≢false}
use Rattle.sgm_energy.specs.declared.dir.Dir.{Dir}
use Rattle.sgm_energy.specs.declared.dir.Dir.TheVariants.{Right, Left, Down, DownRight, DownLeft, Up, UpRight, UpLeft}
use Rattle.sgm_energy.specs.Dirs.{number_of, is_level, front_of}
use Rattle.sgm_energy.proofs.DirLemmas.{same_number}
use Rattle.sgm_handover.specs.Handover.{changed}
use Rattle.sgm_handover.specs.Fields.{at_front}
use Rattle.sgm_handover.proofs.Maps.{changed_there, changed_else}

-- the front of a direction that is not level
pub front_is : (dir : Dir) → is_level dir ≡ false → front_of dir ≡ Some (number_of dir - 2)
front_is dir e = ap (λ (b : Bool). let o : Option ℕ = cond b None (Some (number_of dir - 2)) in o) e

pub front_lt : (dir : Dir) → number_of dir - 2 < 6
front_lt Right = lit< tt
front_lt Left = lit< tt
front_lt Down = lit< tt
front_lt DownRight = lit< tt
front_lt DownLeft = lit< tt
front_lt Up = lit< tt
front_lt UpRight = lit< tt
front_lt UpLeft = lit< tt

pub front_inside : (dir : Dir) (front : ℕ) → is_level dir ≡ false → front_of dir ≡ Some front → front < 6
front_inside dir front level e =
    let e' : Some front ≡ Some (number_of dir - 2) = sym e ∙ front_is dir level in
    let same : front ≡ number_of dir - 2 = cc in omega (arith, same, front_lt dir)

-- the direction of a front
pub dir_of : (k : ℕ) → k < 6 → (dir : Dir) × (is_level dir ≡ false) × (number_of dir - 2 ≡ k)
dir_of zero h = (Down, refl, refl)
dir_of (suc zero) h = (DownRight, refl, refl)
dir_of (suc (suc zero)) h = (DownLeft, refl, refl)
dir_of (suc (suc (suc zero))) h = (Up, refl, refl)
dir_of (suc (suc (suc (suc zero)))) h = (UpRight, refl, refl)
dir_of (suc (suc (suc (suc (suc zero))))) h = (UpLeft, refl, refl)
dir_of (suc (suc (suc (suc (suc (suc k)))))) h = absurd (omega arith)

-- two directions that are not level have one front only where they are one
pub same_front : (a b : Dir) → is_level a ≡ false → is_level b ≡ false → number_of a - 2 ≡ number_of b - 2 → number_of a ≡ number_of b
same_front a b ea eb e = omega (arith, high a ea, high b eb)
  where
    high : (dir : Dir) → is_level dir ≡ false → 1 < number_of dir
    high Right e = absurd (true≢false e)
    high Left e = absurd (true≢false e)
    high Down e = lit< tt
    high DownRight e = lit< tt
    high DownLeft e = lit< tt
    high Up e = lit< tt
    high UpRight e = lit< tt
    high UpLeft e = lit< tt

module _ {A : Type 0} (xs : List A) (none : A) where
  pub at_front_is : (dir : Dir) → is_level dir ≡ false → at_front xs none dir ≡ get_or xs (number_of dir - 2) none
  at_front_is dir e = ap (λ o. option_map_or (λ front. get_or xs front none) o none) (front_is dir e)

  at_level : (dir : Dir) → is_level dir ≡ true → at_front xs none dir ≡ none
  at_level dir e = ap (λ (b : Bool). option_map_or (λ front. get_or xs front none) (let o : Option ℕ = cond b None (Some (number_of dir - 2)) in o) none) e

level_or : (b : Bool) (P : Type 0) → (b ≡ true → P) → (b ≡ false → P) → P
level_or true P up flat = up refl
level_or false P up flat = flat refl

-- a list that is changed at the front of a direction is, by direction, changed at that direction
pub at_front-set : {A : Type 0} (xs : List A) (none : A) (dir : Dir) (front : ℕ) (x : A) (other : Dir) → is_level dir ≡ false → front_of dir ≡ Some front → front < length xs
    → at_front (set xs front x) none other ≡ changed number_of (at_front xs none) dir x other
at_front-set xs none dir front x other level e short =
    let same : front ≡ number_of dir - 2 = let e' : Some front ≡ Some (number_of dir - 2) = sym e ∙ front_is dir level in cc in
    dite (ℕ_discrete (number_of other) (number_of dir))
    (λ here.
    let there : other ≡ dir = same_number other dir here in
    let level' : is_level other ≡ false = ap is_level there ∙ level in
    at_front_is (set xs front x) none other level'
    ∙ ap (λ k. get_or (set xs front x) k none) (let k : number_of other - 2 ≡ front = omega arith in k)
    ∙ get_or-set_same xs front x none short
    ∙ sym (changed_there number_of (at_front xs none) dir x other here))
    (λ ne. level_or (is_level other) _
    (λ up. at_level (set xs front x) none other up ∙ sym (at_level xs none other up) ∙ sym (changed_else number_of (at_front xs none) dir x other ne))
    (λ flat.
    let far : number_of other - 2 ≢ front = λ k. ne (same_front other dir flat level (k ∙ same)) in
    at_front_is (set xs front x) none other flat
    ∙ get_or-set_other xs front (number_of other - 2) x none far
    ∙ sym (at_front_is xs none other flat)
    ∙ sym (changed_else number_of (at_front xs none) dir x other ne)))
