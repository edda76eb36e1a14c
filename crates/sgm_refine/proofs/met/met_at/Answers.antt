use Rattle.std.proofs.Common.{◌≡◌, Option, ℕ, ◌∷◌, [], ◌<◌, arith}
use Rattle.sgm_refine.specs.declared.met.TheConstants.{LEVEL, DOWNWARDS, UPWARDS}
use Rattle.sgm_refine.proofs.MetRows.{at_row}
use Rattle.sgm_refine.proofs.met.met_at.Goals as goal

eight : (a b c d e f g h a' b' c' d' e' f' g' h' : Option ℕ) → a ≡ a' → b ≡ b' → c ≡ c' → d ≡ d' → e ≡ e' → f ≡ f' → g ≡ g' → h ≡ h'
    → a ∷ b ∷ c ∷ d ∷ e ∷ f ∷ g ∷ h ∷ [] ≡ a' ∷ b' ∷ c' ∷ d' ∷ e' ∷ f' ∷ g' ∷ h' ∷ []
eight a b c d e f g h a' b' c' d' e' f' g' h' i j k l m n o p = cc

pub returns : goal.returns
returns c m y ew hl hd hu =
    let x = c.args.x in
    let hx : x < m.width = omega (arith, ew, c.requires.column) in
    eight _ _ _ _ _ _ _ _ _ _ _ _ _ _ _ _
    (at_row m LEVEL y 0 x _ c.args.level.now hl (omega arith) hx (omega (arith, ew)))
    (at_row m LEVEL y 1 x _ c.args.level.now hl (omega arith) hx (omega (arith, ew)))
    (at_row m DOWNWARDS y 0 x _ c.args.down.now hd (omega arith) hx (omega (arith, ew)))
    (at_row m DOWNWARDS y 1 x _ c.args.down.now hd (omega arith) hx (omega (arith, ew)))
    (at_row m DOWNWARDS y 2 x _ c.args.down.now hd (omega arith) hx (omega (arith, ew)))
    (at_row m UPWARDS y 0 x _ c.args.up.now hu (omega arith) hx (omega (arith, ew)))
    (at_row m UPWARDS y 1 x _ c.args.up.now hu (omega arith) hx (omega (arith, ew)))
    (at_row m UPWARDS y 2 x _ c.args.up.now hu (omega arith) hx (omega (arith, ew)))
