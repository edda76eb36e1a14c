use Rattle.std.proofs.Common.{◌≡◌, ◌*◌, ◌<◌, ℕ, map, subst, sym, Result, Ok, Err}
use Rattle.std.specs.Prelude.{IfOk, IfSome, All}
use Rattle.sgm_base.specs.Values.{Values}
use Rattle.sgm_strip.specs.Scenes.{problem_of}
use Rattle.sgm_select.specs.Selection.{matches_of}
use Rattle.sgm_select.specs.Strips.{AreRowsOf}
use Rattle.sgm_select.proofs.MatchLemmas.{all_indices}
use Rattle.sgm_select.proofs.matching.matches.Goals as goal

pub join_strips-requires : goal.join_strips-requires
join_strips-requires c =
    let whole = matches_of (problem_of c.args.scene.now) c.args.scene.now.span.first in
    let cut = c.requires.parcels.cut in
    record {
      rows = (
        whole,
        cut,
        subst (λ vs. AreRowsOf whole cut (map (λ v. v.items) vs)) (sym c.deref.ensures.value) (c.in_ok-strips.ensures cut c.requires.parcels.strips),
        c.size.ensures.width,
        c.size.ensures.height,
      );
    }

pub returns-clause-exact : goal.returns-clause-exact
returns-clause-exact c =
    let whole = matches_of (problem_of c.args.scene.now) c.args.scene.now.span.first in
    let cut = c.requires.parcels.cut in
    c.join_strips.ensures.exact whole cut
    (subst (λ vs. AreRowsOf whole cut (map (λ v. v.items) vs)) (sym c.deref.ensures.value) (c.in_ok-strips.ensures cut c.requires.parcels.strips))
    c.size.ensures.width c.size.ensures.height

indices_from : {E : Type 0} (n : ℕ) (r : Result Values E) (whole : Values) → IfOk r (λ m. m ≡ whole) → All (λ entry. IfSome entry (λ value. (d : ℕ) × (d < n) × (value ≡ 16 * d))) whole.entries
    → IfOk r (λ m. All (λ entry. IfSome entry (λ value. (d : ℕ) × (d < n) × (value ≡ 16 * d))) m.entries)
indices_from n (Ok m) whole e low = subst (λ (v : Values). All (λ entry. IfSome entry (λ value. (d : ℕ) × (d < n) × (value ≡ 16 * d))) v.entries) (sym e) low
indices_from n (Err error) whole e low = tt

pub returns-clause-indices : goal.returns-clause-indices
returns-clause-indices c =
    let g = problem_of c.args.scene.now in
    indices_from c.args.scene.now.span.count c.join_strips.result (matches_of g c.args.scene.now.span.first) (returns-clause-exact c) (all_indices g c.args.scene.now.span.first)
