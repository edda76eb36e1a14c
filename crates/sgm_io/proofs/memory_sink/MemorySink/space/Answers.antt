use Rattle.std.proofs.Common.{◌≡◌, ◌∙◌, ℕ, ◌==◌, ◌||◌, Bool, false, Option, sym, ap, length, subst, arith}
use Rattle.std.specs.Option.{option_map_or}
use Rattle.sgm_io.specs.MemorySink.{stops_in, taken_by, room_of}
use Rattle.sgm_io.specs.Piece.{FillsUpTo}
use Rattle.std.proofs.Math.Bool.{or-false}
use Rattle.sgm_io.proofs.FillLaws.{FillsUpTo-same, FillsUpTo-all}
use Rattle.sgm_io.proofs.memory_sink.MemorySink.space.Goals as goal

pub returns-in-Some-clause-fills : goal.returns-in-Some-clause-fills
returns-in-Some-clause-fills c =
    let sink = c.args.self.now in
    let same : c.len-at.result ≡ length (taken_by sink) = omega arith in
    let stops : ℕ → Option ℕ → Bool = λ at trip. (at == room_of sink) || option_map_or (λ stop. at == stop) trip false in
    let P : ℕ → Type 0 = λ at. FillsUpTo (stops_in sink) at c.args.most c.fill_to.result in
    subst P same (FillsUpTo-same _ _ _ _ _
    (λ at. ap (λ (trip : Option ℕ). stops at trip) (sym c.in-Some.is))
    (c.fill_to.ensures.fills _ c.args.most (c.fill_to-count.ensures.fills (λ at. false) c.args.most (FillsUpTo-all _ _))))

pub returns-in-None-clause-fills : goal.returns-in-None-clause-fills
returns-in-None-clause-fills c =
    let sink = c.args.self.now in
    let same : c.len-at.result ≡ length (taken_by sink) = omega arith in
    let stops : ℕ → Option ℕ → Bool = λ at trip. (at == room_of sink) || option_map_or (λ stop. at == stop) trip false in
    let P : ℕ → Type 0 = λ at. FillsUpTo (stops_in sink) at c.args.most c.fill_to-count.result in
    subst P same (FillsUpTo-same _ _ _ _ _
    (λ at. sym (or-false (at == room_of sink)) ∙ ap (λ (trip : Option ℕ). stops at trip) (sym c.in-None.is))
    (c.fill_to-count.ensures.fills (λ at. false) c.args.most (FillsUpTo-all _ _)))
