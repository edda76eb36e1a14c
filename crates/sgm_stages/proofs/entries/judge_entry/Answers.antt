use Rattle.std.proofs.Common.{◌∙◌, sym, ap}
use Rattle.sgm_grid.specs.Asc.{asc_reading}
use Rattle.sgm_grid.specs.declared.grid_spec.GridSpec.{GridSpec}
use Rattle.sgm_merge.specs.Fits.{fits}
use Rattle.sgm_stages.proofs.EntryLaws.{given_on_cells, refused_off_cells, stop_reading}
use Rattle.sgm_stages.proofs.Steps.{handed_on}
use Rattle.sgm_stages.proofs.entries.judge_entry.Goals as goal

pub returns-in_err-entry-clause-reading : goal.returns-in_err-entry-clause-reading
returns-in_err-entry-clause-reading c =
    handed_on _ _ c.from_residual.result c.in_err-entry.field-0.0 c.from_residual.ensures.1
    (stop_reading c.args.spec c.args.number (asc_reading c.args.bytes.now) c.in_err-entry.field-0.0 c.in_err-entry.ensures)

pub returns-then-not-fits-clause-reading : goal.returns-then-not-fits-clause-reading
returns-then-not-fits-clause-reading c =
    refused_off_cells c.args.spec c.args.number (asc_reading c.args.bytes.now) c.in_ok-entry.entry c.in_ok-entry.ensures
    (ap (λ (e : GridSpec). fits c.args.spec e) (sym c.spec.ensures.spec) ∙ sym c.fits.ensures ∙ c.if-not-fits.true)

pub returns-clause-reading : goal.returns-clause-reading
returns-clause-reading c =
    given_on_cells c.args.spec c.args.number (asc_reading c.args.bytes.now) c.in_ok-entry.entry c.in_ok-entry.ensures
    (ap (λ (e : GridSpec). fits c.args.spec e) (sym c.spec.ensures.spec) ∙ sym c.fits.ensures ∙ c.if-not-fits.false)
