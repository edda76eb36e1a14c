-- From strip to strip: the row to which a direction comes first, and the row from which it comes.
use Rattle.std.proofs.Common.{◌≡◌, ℕ, ◌+◌, ◌-◌, ◌<◌, Bool, true, false, cond, Some, None, ap, ◌∙◌, arith}
use Rattle.std.proofs.lemmas.Bool.{true≢false}
use Rattle.sgm_energy.specs.declared.dir.Dir.{Dir}
use Rattle.sgm_energy.specs.declared.dir.Dir.TheVariants.{Right, Left, Down, DownRight, DownLeft, Up, UpRight, UpLeft}
use Rattle.sgm_energy.specs.Dirs.{goes_down, is_level, position_of, strip_at}
use Rattle.sgm_energy.specs.Rays.{row_before}
use Rattle.sgm_energy.proofs.RayLemmas.{minus_one, minus_one_none, minus_up, minus_up_none}
use Rattle.sgm_strip.specs.Cuts.{CutParts, IsCut, first_row, rows_of, last_row}
use Rattle.sgm_strip.specs.Passing.{visited}
use Rattle.sgm_strip.proofs.CutLemmas.{first_top, first_end, first_more, first_within}

-- the row of the strip to which the direction comes first
abbrev pub entry : CutParts → Dir → ℕ → ℕ
entry cut dir strip = first_row cut strip + visited dir (rows_of cut strip) 0

top_entry : (cut : CutParts) (strip : ℕ) → IsCut cut → strip ≡ 0 → row_before Down cut.height (entry cut Down strip) ≡ None
top_entry cut strip k e = minus_one_none cut.height (entry cut Down strip) (omega (arith, ap (first_row cut) e, first_top cut k))

bottom_entry : (cut : CutParts) (strip : ℕ) → IsCut cut → strip < cut.strips → cut.strips - 1 - strip ≡ 0 → row_before Up cut.height (entry cut Up strip) ≡ None
bottom_entry cut strip k h e =
    let last : strip + 1 ≡ cut.strips = omega arith in
    minus_up_none cut.height (entry cut Up strip) (omega (arith, ap (first_row cut) last, first_end cut k, first_more cut strip k))

-- before the strip at position 0 the image has no row
pub entry_first : (cut : CutParts) (dir : Dir) (strip : ℕ) → IsCut cut → is_level dir ≡ false → strip < cut.strips → position_of dir strip cut.strips ≡ 0
    → row_before dir cut.height (entry cut dir strip) ≡ None
entry_first cut Right strip k e h p = absurd (true≢false e)
entry_first cut Left strip k e h p = absurd (true≢false e)
entry_first cut Down strip k e h p = top_entry cut strip k p
entry_first cut DownRight strip k e h p = top_entry cut strip k p
entry_first cut DownLeft strip k e h p = top_entry cut strip k p
entry_first cut Up strip k e h p = bottom_entry cut strip k h p
entry_first cut UpRight strip k e h p = bottom_entry cut strip k h p
entry_first cut UpLeft strip k e h p = bottom_entry cut strip k h p

above : (cut : CutParts) (strip before : ℕ) → IsCut cut → strip < cut.strips → strip ≡ before + 1 → row_before Down cut.height (entry cut Down strip) ≡ Some (last_row cut Down before)
above cut strip before k h e =
    let here : first_row cut strip ≡ first_row cut (before + 1) = ap (first_row cut) e in
    let some : 0 < entry cut Down strip = omega (arith, here, first_more cut before k) in
    let same : entry cut Down strip - 1 ≡ first_row cut (before + 1) - 1 = omega (arith, here) in
    minus_one cut.height (entry cut Down strip) some (omega (arith, first_within cut strip k (omega arith), first_more cut before k, here)) ∙ ap (λ m. Some m) same

under : (cut : CutParts) (strip before : ℕ) → IsCut cut → strip + 1 < cut.strips → before ≡ strip + 1 → row_before Up cut.height (entry cut Up strip) ≡ Some (last_row cut Up before)
under cut strip before k h e =
    let here : first_row cut before ≡ first_row cut (strip + 1) = ap (first_row cut) e in
    let same : entry cut Up strip + 1 ≡ first_row cut before = omega (arith, here, first_more cut strip k) in
    let inside : entry cut Up strip + 1 < cut.height = omega (arith, same, here, first_more cut (strip + 1) k, first_within cut (strip + 1 + 1) k (omega arith)) in
    minus_up cut.height (entry cut Up strip) inside ∙ ap (λ m. Some m) same

-- before the strip at the next position comes the last row of the strip at this one
pub entry_next : (cut : CutParts) (dir : Dir) (strip position : ℕ) → IsCut cut → is_level dir ≡ false → strip < cut.strips → position_of dir strip cut.strips ≡ position + 1
    → row_before dir cut.height (entry cut dir strip) ≡ Some (last_row cut dir (strip_at dir position cut.strips))
entry_next cut Right strip position k e h p = absurd (true≢false e)
entry_next cut Left strip position k e h p = absurd (true≢false e)
entry_next cut Down strip position k e h p = above cut strip position k h p
entry_next cut DownRight strip position k e h p = above cut strip position k h p
entry_next cut DownLeft strip position k e h p = above cut strip position k h p
entry_next cut Up strip position k e h p = under cut strip (cut.strips - 1 - position) k (omega arith) (omega arith)
entry_next cut UpRight strip position k e h p = under cut strip (cut.strips - 1 - position) k (omega arith) (omega arith)
entry_next cut UpLeft strip position k e h p = under cut strip (cut.strips - 1 - position) k (omega arith) (omega arith)

last_of : (down : Bool) (first next : ℕ) → first < next
    → first + cond down (next - first - 1) (next - first - (next - first - 1 + 1)) ≡ cond down (next - 1) first
last_of true first next h = omega arith
last_of false first next h = omega arith

-- the row to which it comes last
pub leaving : (cut : CutParts) (dir : Dir) (strip : ℕ) → IsCut cut
    → first_row cut strip + visited dir (rows_of cut strip) (rows_of cut strip - 1) ≡ last_row cut dir strip
leaving cut dir strip k = last_of (goes_down dir) (first_row cut strip) (first_row cut (strip + 1)) (first_more cut strip k)
