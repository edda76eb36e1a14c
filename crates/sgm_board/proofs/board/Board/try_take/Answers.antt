use Rattle.std.proofs.Common.{◌*◌, ◌∷◌, ℕ, ◌∙◌, ap, sym, subst, Some}
use Rattle.sgm_energy.specs.Dirs.{position_of}
use Rattle.sgm_board.specs.Words.{dir_word}
use Rattle.sgm_board.specs.declared.slot.Slot.TheVariants.{Empty}
use Rattle.sgm_board.specs.Views as view
use Rattle.sgm_board.specs.Views.{IsLive}
use Rattle.sgm_board.specs.Pockets.{ReadsAll, pocket}
use Rattle.sgm_board.specs.Passes.{parts_of_view, after_look, after_try, after_take}
use Rattle.sgm_board.proofs.Handing.{still_held}
use Rattle.sgm_board.proofs.Options.{if_some_map, if_none_map, either_way}
use Rattle.sgm_board.proofs.Parts.{parts-look, parts-try, shows_known}
use Rattle.sgm_board.proofs.board.Board.try_take.Goals as goal

-- the answer by its cases: a front or none
pub invariant_of-pass : goal.invariant_of-pass
invariant_of-pass c =
    let p = c.args.pass.now in
    let v = p.seat.me.0 in
    let held = c.requires.holds.held.held in
    either_way c.take.result _ _ _
    (λ front now.
    let new = sym (ap (λ m. m.0) now) in
    record {
      numbered = ap (λ m. m.0.number) now ∙ p.numbered;
      alive = subst IsLive new p.alive;
      read = subst ReadsAll new p.read;
      slots = ap (λ m. m.1) now
          ∙ (ap (λ cs. (dir_word c.args.dir, Empty) ∷ cs) (p.slots ∙ (λ i. pocket (held i) (c.requires.holds.bare i)))
          ∙ (ap (λ strip. pocket strip (Some c.args.dir)) (sym held) ∙ (λ i. pocket (new i).strip (new i).front)));
    })
    (λ none.
    let now = none.2 in
    let new = sym (ap (λ m. m.0) now) in
    record {
      numbered = ap (λ m. m.0.number) now ∙ p.numbered;
      alive = subst IsLive new p.alive;
      read = subst ReadsAll new p.read;
      slots = ap (λ m. m.1) now ∙ (p.slots ∙ (λ i. pocket (new i).strip (new i).front));
    })
    c.take.ensures.some c.take.ensures.none

pub returns-clause-held : goal.returns-clause-held
returns-clause-held c =
    let parcel = c.args.parcel.now in
    let board = c.args.self.now in
    let before = parts_of_view c.args.pass.now.seat.me.0 in
    let after = parts_of_view c.take.new.seat.me.0 in
    either_way c.take.result _ _ _
    (λ front now. let e = ap (λ m. parts_of_view m.0) now in still_held board before after parcel (ap (λ p. p.strip) e) (ap (λ p. p.done) e) c.requires.holds.held)
    (λ none. let e = ap (λ m. parts_of_view m.0) none.2 in still_held board before after parcel (ap (λ p. p.strip) e) (ap (λ p. p.done) e) c.requires.holds.held)
    c.take.ensures.some c.take.ensures.none

pub returns-clause-front : goal.returns-clause-front
returns-clause-front c =
    let parcel = c.requires.holds.held in
    if_some_map c.take.result _ _
    (λ front now. record {
      on_board = (now.0.same_scene, now.0.same_cut);
      same_dir = now.0.same_dir;
      visited = now.0.visited ∙ (λ i. position_of c.args.dir (c.strip-strip.ensures.value i) (c.strips-strips.ensures i));
      left = parcel.done c.args.dir ∙ (shows_known c.args.pass.now.seat.me.0 c.args.parcel.now.strip c.args.dir parcel.held c.requires.across c.args.pass.now.read ∙ now.1);
    })
    c.take.ensures.front

pub returns-clause-some : goal.returns-clause-some
returns-clause-some c =
    let v = c.args.pass.now.seat.me.0 in
    let dir = c.args.dir in
    let strip = c.strip-strip.result in
    let due : ℕ = 2 * position_of dir strip c.strips-strips.result in
    let looked = view.after_look v (dir_word dir) due in
    if_some_map c.take.result _ _
    (λ front now.
    ap (λ m. parts_of_view m.0) now
    ∙ (ap (λ p. after_take p dir) (parts-try looked strip dir c.requires.across)
    ∙ (ap (λ p. after_take (after_try p strip dir) dir) (parts-look v (dir_word dir) due)
    ∙ (λ i. after_take (after_try (after_look (parts_of_view v) (dir_word dir) (2 * position_of dir (c.strip-strip.ensures.value i) (c.strips-strips.ensures i))) (c.strip-strip.ensures.value i) dir) dir))))
    c.take.ensures.some

pub returns-clause-none : goal.returns-clause-none
returns-clause-none c =
    let v = c.args.pass.now.seat.me.0 in
    let dir = c.args.dir in
    let strip = c.strip-strip.result in
    if_none_map c.take.result _ _
    (λ none.
    let found = none.0 in (
      found,
      λ e. none.1 (e ∙ (λ i. 2 * position_of dir (sym c.strip-strip.ensures.value i) (sym c.strips-strips.ensures i))),
      ap (λ m. parts_of_view m.0) none.2
          ∙ (parts-try (view.after_look v (dir_word dir) found) strip dir c.requires.across
          ∙ (ap (λ p. after_try p strip dir) (parts-look v (dir_word dir) found)
          ∙ ap (λ (s : ℕ). after_try (after_look (parts_of_view v) (dir_word dir) found) s dir) c.strip-strip.ensures.value)),
    ))
    c.take.ensures.none
