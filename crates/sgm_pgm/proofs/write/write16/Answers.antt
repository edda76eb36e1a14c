use Rattle.std.proofs.Common.{◌≡◌, ◌∙◌, ap, refl, List, ℕ, ◌++◌, append_assoc, arith}
use Rattle.std.proofs.lemmas.Grind.{common_steps}
use Rattle.std.specs.Prelude.{decimal}
use Rattle.sgm_base.specs.Sides.{Sides}
use Rattle.sgm_pgm.specs.Write.{text_of}
use Rattle.sgm_pgm.proofs.write.write16.Goals as goal

-- a part more behind what was added
added : (old front mid : List ℕ) {new part shown : List ℕ} → mid ≡ old ++ front → new ≡ mid ++ part → part ≡ shown
    → new ≡ old ++ (front ++ shown)
added old front mid {new} {part} {shown} before more is =
    more ∙ ap (λ (x : List ℕ). mid ++ x) is ∙ ap (λ (x : List ℕ). x ++ shown) before ∙ append_assoc old front shown

pub returns-clause-ok : goal.returns-clause-ok
unfolding text_of
returns-clause-ok c =
    let old = c.args.into.now.items in
    let magic = c.append.ensures.items ∙ ap (λ (x : List ℕ). x ++ _) c.reserve.ensures.items in
    let width = added old _ _ magic c.append-2.ensures.items
    (c.as_bytes-width.ensures.value ∙ c.format.ensures.text ∙ ap (λ (s : Sides). decimal s.width) c.size.view_is) in
    let space = added old _ _ width c.append-3.ensures.items refl in
    let height = added old _ _ space c.append-4.ensures.items
    (c.as_bytes-height.ensures.value ∙ c.format-2.ensures.text ∙ ap (λ (s : Sides). decimal s.height) c.size.view_is) in
    added old _ _ (added old _ _ height c.append-5.ensures.items refl) c.append_samples.ensures refl

pub append-requires-2 : goal.append-requires-2
append-requires-2 c = grind (arith, common_steps)

pub append-requires-3 : goal.append-requires-3
append-requires-3 c = grind (arith, common_steps)

pub append-requires-4 : goal.append-requires-4
append-requires-4 c = grind (arith, common_steps)

pub append-requires-5 : goal.append-requires-5
append-requires-5 c = grind (arith, common_steps)

pub append_samples-requires : goal.append_samples-requires
append_samples-requires c = grind (arith, common_steps)
