use Rattle.std.proofs.Common.{◌≡◌, ◌+◌, ◌*◌, ℕ, ◌∙◌, ap, subst, sym, Some, None, false}
use Rattle.sgm_energy.specs.Dirs.{is_level, position_of}
use Rattle.sgm_strip.specs.Cuts.{CutParts}
use Rattle.sgm_board.specs.Words.{dir_word}
use Rattle.sgm_board.specs.Views as view
use Rattle.sgm_board.specs.Views.{IsLive}
use Rattle.sgm_board.specs.Pockets.{ReadsAll, pocket}
use Rattle.sgm_board.specs.Passes.{parts_of_view, after_look, after_put}
use Rattle.sgm_board.specs.Boards.{parts_of}
use Rattle.sgm_board.proofs.Parts.{parts-look, parts-put}
use Rattle.sgm_board.proofs.Visits.{length-visits}
use Rattle.sgm_board.proofs.board.Board.put.Goals as goal

pub put-requires-clause-front : goal.put-requires-clause-front
put-requires-clause-front c =
    let front = c.args.front in
    let kept = c.dir-dir.ensures.kept in
    let on = c.requires.through.on_board in
    let strips : front.cut.strips ≡ c.strips-strips.result = ap (λ (cut : CutParts). cut.strips) on.1 ∙ sym c.strips-strips.ensures in
    record {
      kept = kept;
      same_scene = on.0;
      same_cut = on.1;
      same_dir = sym c.dir-dir.ensures.value;
      visited = length-visits front c.args.parcel.now.strip (parts_of c.args.pass.now).number kept c.requires.through.last ∙ (λ i. position_of (sym c.dir-dir.ensures.value i) (sym c.strip-strip.ensures.value i) (strips i) + 1);
    }

pub invariant_of-pass : goal.invariant_of-pass
invariant_of-pass c =
    let p = c.args.pass.now in
    let now = c.put.ensures.1 in
    let view = sym (ap (λ m. m.0) now) in
    record {
      numbered = ap (λ m. m.0.number) now ∙ p.numbered;
      alive = subst IsLive view p.alive;
      read = subst ReadsAll view p.read;
      slots = ap (λ m. m.1) now ∙ (ap (λ (strip : ℕ). pocket (Some strip) None) c.strip-strip.ensures.value ∙ (ap (λ strip. pocket strip None) (sym c.requires.held) ∙ (λ i. pocket (view i).strip (view i).front)));
    }

pub returns-clause-put : goal.returns-clause-put
returns-clause-put c =
    let v = c.args.pass.now.seat.me.0 in
    let front = c.args.front in
    let strip = c.args.parcel.now.strip in
    let dir = c.dir-dir.ensures.value in
    let level : is_level c.dir-dir.result ≡ false = ap is_level dir ∙ c.dir-dir.ensures.kept.across in
    let was : ℕ = 2 * position_of c.dir-dir.result c.strip-strip.result c.strips-strips.result + 1 in
    let looked = view.after_look v (dir_word c.dir-dir.result) was in
    let reads : ReadsAll looked = c.args.pass.now.read in
    ap (λ m. parts_of_view m.0) c.put.ensures.1
    ∙ (parts-put looked strip c.dir-dir.result c.requires.held level reads
    ∙ (ap (λ p. after_put p c.dir-dir.result) (parts-look v (dir_word c.dir-dir.result) was)
    ∙ (λ i. after_put (after_look (parts_of_view v) (dir_word (dir i)) (2 * position_of (dir i) (c.strip-strip.ensures.value i) (c.strips-strips.ensures i) + 1)) (dir i))))
