use Rattle.std.proofs.Common.{◌≡◌, take, option_map}
use Rattle.sgm_io.specs.Held.{put_all, no_files}
use Rattle.sgm_io.proofs.files.bytes_under.Given as goal

abbrev pub invariant-loop-file : goal.invariant-loop-file
invariant-loop-file l = option_map (λ bytes. bytes.now) l.found ≡ put_all (take l.file-index l.files) no_files l.name
