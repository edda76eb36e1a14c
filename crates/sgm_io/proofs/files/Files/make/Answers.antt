use Rattle.std.proofs.Common.{subst, sym}
use Rattle.std.proofs.lemmas.List.{map_push}
use Rattle.std.proofs.lemmas.List.Elements.{All-push}
use Rattle.sgm_io.specs.Held.{AreBytes}
use Rattle.sgm_io.specs.Filed.{HaveBytes, named_bytes}
use Rattle.sgm_io.proofs.files.Files.make.Goals as goal

pub loop-name-preserved : goal.loop-name-preserved
loop-name-preserved c =
    let kept = c.loop-name.kept.items in
    let more = c.in_ok-push.ensures.items in
    record {
      files = cc (more, map_push named_bytes c.loop-name.yielded (c.in-Some.name, c.in-Some.bytes));
      bytes = subst HaveBytes (sym more) (All-push (λ f. AreBytes f.bytes) kept c.make.result c.loop-name.invariant.bytes c.make.ensures.bytes);
    }
