use Rattle.std.proofs.Common.{◌∙◌, ap, sym, Option, Some, option_map, List, ℕ, Bor}
use Rattle.std.specs.Str.{bytes_eq}
use Rattle.sgm_io.proofs.FiledLaws.{put_all-one-yes, put_all-one-no}
use Rattle.sgm_io.proofs.files.bytes_under.Goals as goal
use Rattle.sgm_io.proofs.files.bytes_under.Goals.{then-eq, else-eq}

pub loop-file-preserved : goal.loop-file-preserved
loop-file-preserved c = elim c.if-eq.branch [
  | then-eq w ↦ ap (λ (o : Option (Bor (List ℕ))). option_map (λ b. b.now) o) w.found-is ∙ ap (λ (b : List ℕ). Some b) w.bytes.ensures ∙ sym (put_all-one-yes c.args.files.now c.loop-file.file-index c.file-item.result c.args.name.now c.loop-file-test.true c.file-item.is (ap (λ (n : List ℕ). bytes_eq c.args.name.now n) (sym c.name.ensures) ∙ sym c.eq.ensures ∙ w.if-eq.true))
  | else-eq w ↦ ap (λ (o : Option (Bor (List ℕ))). option_map (λ b. b.now) o) w.found-is ∙ c.loop-file.invariant ∙ sym (put_all-one-no c.args.files.now c.loop-file.file-index c.file-item.result c.args.name.now c.loop-file-test.true c.file-item.is (ap (λ (n : List ℕ). bytes_eq c.args.name.now n) (sym c.name.ensures) ∙ sym c.eq.ensures ∙ w.if-eq.false))
]
