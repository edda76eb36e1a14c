use Rattle.std.proofs.Common.{◌≡◌, ℕ, zero, suc, ◌<◌, ◌++◌, ◌∷◌, [], ◌∙◌, List, length, Some, false, sym, ap, subst, arith}
use Rattle.std.specs.Prelude.{slice_get}
use Rattle.std.proofs.lemmas.List.{length_push}
use Rattle.sgm_energy.specs.declared.dir.Dir.{Dir}
use Rattle.sgm_energy.specs.declared.dir.Dir.TheVariants.{Down, DownRight, DownLeft, Up, UpRight, UpLeft}
use Rattle.sgm_energy.specs.Dirs.{dir_of_front, front_of, is_level}
use Rattle.sgm_strip.specs.Fronts.{FrontParts}
use Rattle.sgm_board.specs.Ready.{IsNewFront}
use Rattle.sgm_work.proofs.Making.{front_more}
use Rattle.sgm_work.proofs.parcels.fronts.Goals as goal

-- a direction with a front isn't level
across : (dir : Dir) (place : ℕ) → place < 6 → Some dir ≡ dir_of_front place → is_level dir ≡ false
across dir zero inside e = let same : dir ≡ Down = cc in ap is_level same
across dir (suc zero) inside e = let same : dir ≡ DownRight = cc in ap is_level same
across dir (suc (suc zero)) inside e = let same : dir ≡ DownLeft = cc in ap is_level same
across dir (suc (suc (suc zero))) inside e = let same : dir ≡ Up = cc in ap is_level same
across dir (suc (suc (suc (suc zero)))) inside e = let same : dir ≡ UpRight = cc in ap is_level same
across dir (suc (suc (suc (suc (suc zero))))) inside e = let same : dir ≡ UpLeft = cc in ap is_level same
across dir (suc (suc (suc (suc (suc (suc k)))))) inside e = absurd (omega (arith, inside))

pub make-requires-clause-across : goal.make-requires-clause-across
make-requires-clause-across c = across c.in-Some.dir c.loop-place.place c.loop-place-test.true c.in-Some.ensures

pub loop-place-preserved : goal.loop-place-preserved
loop-place-preserved c =
    let scene = c.args.scene.now in
    let cut = c.args.cut in
    let old = c.loop-place.fronts.items in
    let front = c.in_ok-front.front in
    let items : c.push.new.self.items ≡ old ++ front ∷ [] = c.in_ok-push.ensures.items in
    record {
      six = ap length items ∙ length_push old front ∙ omega (arith, c.loop-place.invariant.six);
      new = subst (λ (v : List FrontParts). (dir : Dir) (k : ℕ) (f : FrontParts) → front_of dir ≡ Some k → slice_get v k ≡ Some f → IsNewFront scene cut dir f) (sym items)
          (front_more scene cut old front c.in-Some.dir c.loop-place.place c.loop-place.invariant.six (sym c.in-Some.ensures) c.in_ok-front.ensures.made c.loop-place.invariant.new);
    }

pub returns : goal.returns
returns c = record {
  six = omega (arith, c.loop-place.invariant.six, c.loop-place-test.false);
  new = c.loop-place.invariant.new;
}
