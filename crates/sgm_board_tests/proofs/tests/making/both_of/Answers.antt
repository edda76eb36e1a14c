use Rattle.std.proofs.Common.{◌≡◌, ℕ, List, [], ◌∷◌, ◌++◌, length, length-append, arith, ap, ◌∙◌, Some}
use Rattle.std.specs.List.{slice_get}
use Rattle.sgm_board.specs.declared.pass.Pass.{Pass}
use Rattle.sgm_board_tests.proofs.tests.making.both_of.Goals as goal

both : {A : Type 0} (xs rest : List A) (a b : A) → xs ≡ (rest ++ a ∷ []) ++ b ∷ [] → length xs ≡ 2 → (slice_get xs 0 ≡ Some a) × (slice_get xs 1 ≡ Some b)
both xs [] a b e long = (ap (λ ys. slice_get ys 0) e, ap (λ ys. slice_get ys 1) e)
both xs (x ∷ rest) a b e long = absurd (omega (arith, ap length e, length-append ((x ∷ rest) ++ a ∷ []) (b ∷ []), length-append (x ∷ rest) (a ∷ [])))

pub returns-clause-first : goal.returns-clause-first
returns-clause-first c =
    let first = c.in-Some-pop.first in
    let second = c.in-Some.second in
    let items = c.in-Some.ensures.items ∙ ap (λ (xs : List Pass). xs ++ second ∷ []) c.in-Some-pop.ensures.items in
    c.requires.1 0 first (both c.args.passes.items c.pop-2.new.self.items first second items (omega (arith, c.requires.0, c.args.passes.ok))).0

pub returns-clause-second : goal.returns-clause-second
returns-clause-second c =
    let first = c.in-Some-pop.first in
    let second = c.in-Some.second in
    let items = c.in-Some.ensures.items ∙ ap (λ (xs : List Pass). xs ++ second ∷ []) c.in-Some-pop.ensures.items in
    c.requires.1 1 second (both c.args.passes.items c.pop-2.new.self.items first second items (omega (arith, c.requires.0, c.args.passes.ok))).1
