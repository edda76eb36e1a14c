-- Sets of directions, as lists of truth values.
use Rattle.std.specs.List.{list_all}
use Rattle.std.proofs.Common.{◌≡◌, ◌≢◌, ℕ, zero, suc, ◌+◌, ◌<◌, Bool, true, false, List, [], ◌∷◌, length, get_or, set, refl, sym, ap, ◌∙◌, arith, get_or-set_same, get_or-set_other, length-set}
use mathlib.Core.Logic.{dite}
use native.Mathlib.Decide.{ℕ_discrete}
use Rattle.sgm_energy.specs.declared.dir.Dir.{Dir}
use Rattle.sgm_energy.specs.declared.dir.Dir.TheVariants.{Right, Left}
use Rattle.sgm_energy.specs.Dirs.{number_of}
use Rattle.sgm_energy.specs.Rays.{Pixel, Problem}
use Rattle.sgm_energy.specs.Energies.{path_value, sum_done}
use Rattle.sgm_energy.proofs.DirLemmas.{number_lt, numbered, number_numbered, same_number}
use Rattle.sgm_strip.specs.Parcels.{is_done, with_done, level_done, IsComplete}

pub done_here : (done : List Bool) (dir : Dir) → length done ≡ 8 → is_done (with_done done dir) dir ≡ true
done_here done dir e = get_or-set_same done (number_of dir) true false (omega (arith, e, number_lt dir))

-- a set of eight that was made with a direction has it
pub done_with : (done now : List Bool) (dir : Dir) → now ≡ with_done done dir → length now ≡ 8
    → is_done now dir ≡ true
done_with done now dir e eight =
    let long : length done ≡ 8 =
    sym (length-set done (number_of dir) true) ∙ ap length (sym e) ∙ eight in
    ap (λ s. is_done s dir) e ∙ done_here done dir long

pub done_else : (done : List Bool) (dir other : Dir) → other ≢ dir → is_done (with_done done dir) other ≡ is_done done other
done_else done dir other ne = get_or-set_other done (number_of dir) (number_of other) true false (λ e. ne (same_number other dir e))

pub done_still : (done : List Bool) (dir other : Dir) → length done ≡ 8 → is_done done other ≡ true → is_done (with_done done dir) other ≡ true
done_still done dir other e h = dite (ℕ_discrete (number_of other) (number_of dir))
    (λ same. ap (λ k. get_or (set done (number_of dir) true) k false) same ∙ done_here done dir e)
    (λ ne. get_or-set_other done (number_of dir) (number_of other) true false ne ∙ h)

-- the sum over both level directions
pub level_sum : (g : Problem) (p : Pixel) (d : ℕ) → path_value g Right p d + path_value g Left p d ≡ sum_done (is_done level_done) g p d
unfolding sum_done
level_sum g p d = omega arith

-- ---- all of a set
all_at : (xs : List Bool) (k : ℕ) → list_all (λ b. b) xs ≡ true → k < length xs → get_or xs k false ≡ true
all_at [] k h l = absurd (omega arith)
all_at (true ∷ xs) zero h l = refl
all_at (true ∷ xs) (suc k) h l = all_at xs k h (omega arith)
all_at (false ∷ xs) k h l = absurd (cc)

all_from : (xs : List Bool) → ((k : ℕ) → k < length xs → get_or xs k false ≡ true) → list_all (λ b. b) xs ≡ true
all_from [] h = refl
all_from (true ∷ xs) h = all_from xs (λ k l. h (suc k) (omega arith))
all_from (false ∷ xs) h = absurd (let e = h 0 (omega arith) in cc)

pub complete_from : (done : List Bool) → length done ≡ 8 → list_all (λ b. b) done ≡ true → IsComplete done
complete_from done e h dir = all_at done (number_of dir) h (omega (arith, e, number_lt dir))

pub complete_to : (done : List Bool) → length done ≡ 8 → IsComplete done → list_all (λ b. b) done ≡ true
complete_to done e h = all_from done (λ k l. ap (λ j. get_or done j false) (sym (number_numbered k (omega (arith, e)))) ∙ h (numbered k))
