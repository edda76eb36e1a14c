-- One new pass more.
use Rattle.std.proofs.Common.{◌≡◌, ℕ, List, [], ◌∷◌, ◌++◌, length, sym, ◌∙◌, subst, ⊎_elim, Some}
use Rattle.std.specs.List.{slice_get}
use Rattle.atomic_table.specs.Seated.{TableId}
use Rattle.sgm_board.specs.declared.view.About.{About}
use Rattle.sgm_board.specs.declared.pass.Pass.{Pass}
use Rattle.sgm_board.specs.Dealt.{IsDealt, AreDealt}
use Rattle.sgm_board.proofs.Getting.{get-push}

pub AreDealt-push : (table : TableId) (about : About) (ps : List Pass) (p : Pass) (k : ℕ) → length ps ≡ k → AreDealt table about ps → IsDealt table about k p → AreDealt table about (ps ++ p ∷ [])
AreDealt-push table about ps p k long all last i q h = ⊎_elim (λ (e : slice_get ps i ≡ Some q). all i q e)
    (λ (t : (i ≡ length ps) × (p ≡ q)). let e = t.0 ∙ long in subst (λ (x : ℕ × Pass). IsDealt table about x.0 x.1) (λ j. (sym e j, t.1 j)) last) (get-push ps p q i h)
