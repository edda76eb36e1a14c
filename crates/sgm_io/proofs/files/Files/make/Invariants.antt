use Rattle.std.proofs.Common.{◌≡◌, map}
use Rattle.sgm_io.specs.Filed.{HaveBytes, named_bytes}
use Rattle.sgm_io.proofs.files.Files.make.Given as goal

abbrev pub invariant-loop-name : goal.invariant-loop-name
invariant-loop-name l = record {
  files : l.kept.items ≡ map named_bytes l.yielded;
  bytes : HaveBytes l.kept.items;
}
