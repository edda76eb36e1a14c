use Rattle.std.proofs.Common.{◌≡◌, ℕ, ◌+◌, [], ◌∷◌, ◌++◌, ◌∙◌, List, length, length-append, Some, sym, ap, subst, arith}
use Rattle.std.specs.Prelude.{slice_get}
use Rattle.sgm_energy.specs.declared.dir.Dir.{Dir}
use Rattle.sgm_energy.specs.Dirs.{dir_of_front}
use Rattle.sgm_strip.specs.Fronts.{FrontParts}
use Rattle.sgm_board.specs.Ready.{IsNewFront}
use Rattle.sgm_board.proofs.Getting.{each-push}
use Rattle.sgm_board_tests.proofs.tests.making.fronts_of.Goals as goal

pub loop-number-preserved : goal.loop-number-preserved
loop-number-preserved c =
    let old = c.loop-number.fronts.items in
    let inv = c.loop-number.invariant in
    let dir = c.in-Some.dir in
    let front = c.in_ok-front.front in
    let made = c.in_ok-front.ensures.made in
    let fits : ℕ → FrontParts → Type 0 = λ place f. (d : Dir) × (dir_of_front place ≡ Some d) × IsNewFront c.args.scene.now c.args.cut d f in
    let is : fits c.loop-number.number front = (
      dir,
      c.in-Some.ensures.dir,
      record {
        same_scene = ap (λ (f : FrontParts). f.scene) made;
        same_cut = ap (λ (f : FrontParts). f.cut) made;
        same_dir = ap (λ (f : FrontParts). f.dir) made;
        unvisited = ap (λ (f : FrontParts). f.visits) made;
      },
    ) in
    let items : c.push.new.self.items ≡ old ++ front ∷ [] = c.in_ok-push.ensures.items in
    record {
      all = ap length items ∙ (length-append old (front ∷ []) ∙ omega (arith, inv.all));
      each = subst (λ (v : List FrontParts). (s : ℕ) (f : FrontParts) → slice_get v s ≡ Some f → fits s f) (sym items) (each-push fits old front c.loop-number.number inv.all inv.each is);
    }
