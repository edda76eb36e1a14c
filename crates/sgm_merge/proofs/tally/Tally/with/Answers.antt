use Rattle.std.proofs.Common.{◌≡◌, ◌+◌, ◌==◌, if◌then◌else◌, ◌+ℤ◌, to_z, of_z, w32, w64, arith, ap, ◌∙◌}
use Rattle.std.specs.Int.{int_max}
use Rattle.std.proofs.lemmas.Int.{ints}
use Rattle.sgm_merge.specs.Tallies.{Heights}
use Rattle.sgm_merge.proofs.Entries.{heights_are}
use Rattle.sgm_merge.proofs.tally.Tally.with.Goals as goal

pub returns : goal.returns
returns c =
    let s = c.self.inside in
    let total : to_z w64 (of_z w64 (to_z w64 (of_z w64 s.total) +ℤ to_z w64 (of_z w64 (to_z w32 (of_z w32 c.args.height))))) ≡ s.total +ℤ c.args.height = omega (arith, ints) in
    let highest : to_z w32 (of_z w32 c.highest_with.result) ≡ c.highest_with.result = omega (arith, ints) in
    let height : to_z w32 (of_z w32 c.args.height) ≡ c.args.height = omega (arith, ints) in
    ap (λ t. heights_are t (s.count + 1) (to_z w32 (of_z w32 c.highest_with.result))) total
    ∙ ap (λ t. heights_are (s.total +ℤ c.args.height) (s.count + 1) t) (highest ∙ c.highest_with.ensures.value)
    ∙ ap (λ t. heights_are (t +ℤ c.args.height) (s.count + 1) (if c.args.self.count == 0 then to_z w32 (of_z w32 c.args.height) else int_max c.args.self.highest (to_z w32 (of_z w32 c.args.height)))) (ap (λ (h : Heights). h.total) c.self.view_is)
    ∙ ap (λ n. heights_are (c.args.self.total +ℤ c.args.height) (n + 1) (if c.args.self.count == 0 then to_z w32 (of_z w32 c.args.height) else int_max c.args.self.highest (to_z w32 (of_z w32 c.args.height)))) (ap (λ (h : Heights). h.count) c.self.view_is)
    ∙ ap (λ z. heights_are (c.args.self.total +ℤ c.args.height) (c.args.self.count + 1) (if c.args.self.count == 0 then z else int_max c.args.self.highest z)) height
