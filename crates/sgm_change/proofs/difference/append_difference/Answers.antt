use Rattle.std.proofs.Common.{◌≡◌, ◌∙◌, ap, sym, Some, Option, ℤ}
use Rattle.std.specs.Fmt.{signed_decimal}
use Rattle.sgm_change.specs.Texts.{difference_text}
use Rattle.sgm_change.proofs.Counted.{code_apart}
use Rattle.sgm_change.proofs.Rows.{added_err, added_ok}
use Rattle.sgm_change.proofs.difference.append_difference.Goals as goal

pub returns-in-Some-Some-clause-ok : goal.returns-in-Some-Some-clause-ok
returns-in-Some-Some-clause-ok c =
    let before = c.in-Some-Some.before in
    let after = c.in-Some-Some.after in
    let both : difference_text c.args.earlier c.args.later ≡ difference_text (Some before) (Some after) =
    ap (λ (o : Option ℤ). difference_text o c.args.later) c.in-Some-Some.is-0 ∙ ap (λ (o : Option ℤ). difference_text (Some before) o) c.in-Some-Some.is-1 in
    added_ok c.extend_from_slice.result c.args.into.now.items c.extend_from_slice.new.self.items c.as_bytes.result.now (difference_text c.args.earlier c.args.later)
    c.extend_from_slice.ensures.items
    (c.as_bytes.ensures.value ∙ c.format.ensures.text
    ∙ ap signed_decimal (code_apart before after (c.requires.earlier before c.in-Some-Some.is-0) (c.requires.later after c.in-Some-Some.is-1)) ∙ sym both)

pub returns-in-Some-Some-clause-err : goal.returns-in-Some-Some-clause-err
returns-in-Some-Some-clause-err c =
    added_err c.extend_from_slice.result c.args.into.now.items c.extend_from_slice.new.self.items c.as_bytes.result.now c.extend_from_slice.ensures.items
