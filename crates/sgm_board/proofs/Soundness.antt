-- A state that a board shows is sound.
use Rattle.std.proofs.Common.{◌≡◌, ℕ, ◌+◌, ◌*◌, ◌≤◌, false, length, get_or, sym, refl, ap, ◌∙◌, arith, Option, Some, None}
use Rattle.atomic_table.specs.Table.{State}
use Rattle.sgm_energy.specs.declared.dir.Dir.{Dir}
use Rattle.sgm_energy.specs.Dirs.{is_level}
use Rattle.sgm_strip.specs.Cuts.{CutParts}
use Rattle.sgm_handover.specs.Handover.{Handover, Sound, next}
use Rattle.sgm_board.specs.declared.view.About.{About}
use Rattle.sgm_board.specs.declared.view.View.{View}
use Rattle.sgm_board.specs.declared.slot.Slot.{Slot}
use Rattle.sgm_board.specs.Words.{dir_word}
use Rattle.sgm_board.specs.Shows.{Shows, one_if_any}
use Rattle.sgm_board.proofs.Numbered.{one_pass}

pub at_most_one : (o : Option ℕ) → one_if_any o ≤ 1
at_most_one None = omega arith
at_most_one (Some w) = omega arith

module _ (about : About) (made : ℕ) (s : State Slot View) (m : Handover) (sh : Shows about made s m) where
  -- no front has passed more strips than there are, and one that is out has one to go
  room : (f : Dir) → is_level f ≡ false → (o : Option ℕ) → m.away f ≡ o → m.passed f + one_if_any o ≤ m.strips
  room f l None e =
      let x = sh.fronts f l e in
      let long : length x.0.visits ≤ x.0.cut.strips = x.2.kept.few in
      let passed : length x.0.visits ≡ m.passed f = x.2.visited in
      let strips : x.0.cut.strips ≡ m.strips = ap (λ (c : CutParts). c.strips) x.2.same_cut ∙ sym sh.strips in
      omega arith
  room f l (Some w) e =
      let x = sh.front_words.out f w l e in
      let z = sh.front_words.has_it x.0 f x.1 x.2 x.3.0 in
      let h = z.4 in omega arith

  pub word_bound : (f : Dir) → is_level f ≡ false → get_or s.words (dir_word f) 0 ≤ 2 * m.strips
  word_bound f l =
      let a = sh.front_words.word f l in
      let b = room f l (m.away f) refl in
      let c = at_most_one (m.away f) in omega arith

  pub shows-sound : Sound m
  shows-sound = record {
    in_range = λ f l. let b = room f l (m.away f) refl in omega arith;
    one_strip = λ t u w ht hu.
        let x = sh.strip_words.held t w ht.0 ht.1 in
        let y = sh.strip_words.held u w hu.0 hu.1 in
        let a = sh.strip_words.holds x.0 t x.1 x.2 x.3.0 in
        let b = sh.strip_words.holds y.0 u y.1 y.2 y.3.0 in
        let same : x.1 ≡ y.1 = one_pass made s.views sh.numbers x.0 y.0 x.1 y.1 x.2 y.2 a.1 b.1 (x.3.1 ∙ sym y.3.1) in
        let e : Some t ≡ Some u = sym x.3.0 ∙ (ap (λ (v : View). v.strip) same ∙ y.3.0) in cc;
    one_front = λ f g w lf lg hf hg.
        let x = sh.front_words.out f w lf hf in
        let y = sh.front_words.out g w lg hg in
        let a = sh.front_words.has_it x.0 f x.1 x.2 x.3.0 in
        let b = sh.front_words.has_it y.0 g y.1 y.2 y.3.0 in
        let same : x.1 ≡ y.1 = one_pass made s.views sh.numbers x.0 y.0 x.1 y.1 x.2 y.2 a.2 b.2 (x.3.1 ∙ sym y.3.1) in
        let e : Some f ≡ Some g = sym x.3.0 ∙ (ap (λ (v : View). v.front) same ∙ y.3.0) in cc;
    beside = λ f w l h.
        let x = sh.front_words.out f w l h in
        let a = sh.front_words.has_it x.0 f x.1 x.2 x.3.0 in
        let b = sh.strip_words.holds x.0 (next m f) x.1 x.2 a.3 in
        (a.4, b.0.1 ∙ ap Some x.3.1);
  }
