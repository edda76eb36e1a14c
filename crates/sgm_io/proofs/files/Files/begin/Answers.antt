use Rattle.std.proofs.Common.{◌∙◌, ap, List, [], ◌∷◌, ◌++◌, Option, option_map}
use Rattle.sgm_io.specs.Held.{NamedBytes, put_all}
use Rattle.sgm_io.specs.Filed.{last_file, name_at}
use Rattle.sgm_io.proofs.FiledLaws.{put_all-append, last_file-append, empty_file}
use Rattle.sgm_io.proofs.files.Files.begin.Goals as goal

pub returns-clause-held : goal.returns-clause-held
returns-clause-held c = λ first.
    let fs = c.args.self.now.files.items in
    ap (λ (x : List NamedBytes). put_all x first) c.in_ok-push.ensures.items
    ∙ ap (λ (x : NamedBytes). put_all (fs ++ x ∷ []) first) (empty_file c.make.result _ c.args.name.now _ c.make.ensures.parts c.in_ok-name.ensures.ok c.new.ensures.items)
    ∙ put_all-append fs _ first

pub returns-clause-writing : goal.returns-clause-writing
returns-clause-writing c =
    let fs = c.args.self.now.files.items in
    ap (λ (x : List NamedBytes). option_map name_at (last_file x)) c.in_ok-push.ensures.items
    ∙ ap (λ (x : NamedBytes). option_map name_at (last_file (fs ++ x ∷ []))) (empty_file c.make.result _ c.args.name.now _ c.make.ensures.parts c.in_ok-name.ensures.ok c.new.ensures.items)
    ∙ ap (λ (o : Option NamedBytes). option_map name_at o) (last_file-append fs _)
