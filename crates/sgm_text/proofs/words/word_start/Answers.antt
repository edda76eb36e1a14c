use Rattle.std.proofs.Common.{◌≡◌, true, get_or, refl, sym, ◌∙◌, arith}
use Rattle.std.proofs.lemmas.Str.{IsCharBoundary-start}
use Rattle.sgm_text.specs.Words.{is_space}
use Rattle.sgm_text.proofs.WordLaws.{cut_behind, space_more}
use Rattle.sgm_text.proofs.words.word_start.Goals as goal

pub loop-start-init : goal.loop-start-init
loop-start-init c = record {
  within = omega arith;
  boundary = IsCharBoundary-start c.args.bytes.now;
  same = refl;
}

pub loop-start-preserved : goal.loop-start-preserved
loop-start-preserved c =
    let bytes = c.args.bytes.now in
    let at = c.loop-start.start in
    let inside = c.loop-start-test.true in
    let space : is_space (get_or bytes at 0) ≡ true = sym c.is_space.ensures ∙ c.if-is_space.true in
    record {
      within = omega arith;
      boundary = λ utf8. cut_behind bytes at utf8 inside space;
      same = space_more bytes at inside space ∙ c.loop-start.invariant.same;
    }
