use Rattle.std.proofs.Common.{◌≡◌, List, length, sym, subst, ap, ◌+◌, ◌∙◌}
use Rattle.sgm_merge.specs.Merging.{IsMerging, merging_of}
use Rattle.sgm_merge.specs.Tallies.{Heights}
use Rattle.sgm_merge.proofs.Totals.{Adds, added_merge, still_merging, whole_written}
use Rattle.sgm_merge.proofs.merge.Merge.add.Goals as goal

pub returns : goal.returns
returns c =
    let s = c.self.inside in
    let same : length c.add_cells.new.tallies ≡ length s.tallies.items = c.add_cells.ensures.len ∙ ap length c.deref_mut.ensures.value in
    let adds : Adds s.spec c.args.entry.now s.tallies.items c.add_cells.new.tallies = subst (λ (old : List Heights). Adds s.spec c.args.entry.now old c.add_cells.new.tallies) c.deref_mut.ensures.value c.add_cells.ensures.cells in
    ap (merging_of s.keep s.spec (s.entries + 1)) (whole_written s.tallies.items c.add_cells.new.tallies s.tallies.len (sym c.deref_mut.ensures.len ∙ ap length c.deref_mut.ensures.value) same)
    ∙ added_merge s.keep s.spec s.entries c.args.entry.now s.tallies.items c.add_cells.new.tallies c.args.self.now c.self.invariant.ranges (same ∙ c.self.invariant.full) adds c.self.view_is

pub invariant_of-self : goal.invariant_of-self
invariant_of-self c =
    let s = c.self.inside in
    let same : length c.add_cells.new.tallies ≡ length s.tallies.items = c.add_cells.ensures.len ∙ ap length c.deref_mut.ensures.value in
    let adds : Adds s.spec c.args.entry.now s.tallies.items c.add_cells.new.tallies = subst (λ (old : List Heights). Adds s.spec c.args.entry.now old c.add_cells.new.tallies) c.deref_mut.ensures.value c.add_cells.ensures.cells in
    subst (λ (t : List Heights). IsMerging (merging_of s.keep s.spec (s.entries + 1) t)) (sym (whole_written s.tallies.items c.add_cells.new.tallies s.tallies.len (sym c.deref_mut.ensures.len ∙ ap length c.deref_mut.ensures.value) same))
    (still_merging s.keep s.spec s.entries c.args.entry.now s.tallies.items c.add_cells.new.tallies c.self.invariant same adds)
