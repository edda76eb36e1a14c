-- What the words set the options to, one word after the other.
use Rattle.std.proofs.Common.{◌≡◌, inl, inr, ℕ, ◌<◌, List, [], ◌∷◌, ◌++◌, length, get_or, set, Option, None, Some, option_map, Bool, true, false, cond, eqb, refl, sym, ap, ◌∙◌, arith, find, get_or-set_same, get_or-set_other, eq-eqb}
use Rattle.std.specs.List.{filter_map}
use Rattle.std.specs.Option.{option_or}
use Rattle.std.proofs.lemmas.Bool.{cases_eq, ne_eqb}
use Rattle.std.proofs.lemmas.List.Elements.{filter_map-append}
use Rattle.std.proofs.lemmas.List.Folds.{find-append}
use Rattle.sgm_words.specs.OptionTable.{set_by, given}
use Rattle.sgm_words.specs.Settings.{AreGiven}
use Rattle.sgm_words.specs.declared.option_table.Setting.{Setting}
use Rattle.sgm_words.specs.declared.option_table.TheConstants.{OPTION_COUNT}

-- the test for the option at a place
abbrev is_at : ℕ → Setting → Bool
is_at place setting = eqb setting.place place

joined : (a : Option Setting) (b : Bool) (s : Setting) → option_map (λ x. x.value) (option_or a (cond b (Some s) None)) ≡ option_or (option_map (λ x. x.value) a) (cond b (Some s.value) None)
joined None true s = refl
joined None false s = refl
joined (Some x) b s = refl

-- one word more
given_more : (place : ℕ) (words : List (List ℕ)) (text : List ℕ) (s : Setting) → set_by text ≡ Some s → given place (words ++ text ∷ []) ≡ option_or (given place words) (cond (is_at place s) (Some s.value) None)
unfolding given
given_more place words text s sets =
    let one : filter_map set_by (text ∷ []) ≡ s ∷ [] = rw sets refl in
    let more : filter_map set_by (words ++ text ∷ []) ≡ filter_map set_by words ++ s ∷ [] = filter_map-append set_by words (text ∷ []) ∙ ap (λ (xs : List Setting). filter_map set_by words ++ xs) one in
    ap (λ (xs : List Setting). option_map (λ x. x.value) (find (is_at place) xs)) more
    ∙ ap (λ (o : Option Setting). option_map (λ x. x.value) o) (find-append (is_at place) (filter_map set_by words) (s ∷ []))
    ∙ joined (find (is_at place) (filter_map set_by words)) (is_at place s) s

or_none : (o : Option ℕ) → option_or o None ≡ o
or_none None = refl
or_none (Some x) = refl

or_other : (o : Option ℕ) (b : Bool) (x : Option ℕ) → b ≡ false → option_or o (cond b x None) ≡ o
or_other o true x e = absurd (cc)
or_other o false x e = or_none o

or_here : (o : Option ℕ) (b : Bool) (x : Option ℕ) → o ≡ None → b ≡ true → x ≡ option_or o (cond b x None)
or_here None true x e t = refl
or_here o false x e t = absurd (cc)
or_here (Some y) true x e t = absurd (cc)

-- a word that sets an option that isn't set yet
pub given_set : (words : List (List ℕ)) (settings : List (Option ℕ)) (text : List ℕ) (s : Setting) → AreGiven words settings → length settings ≡ OPTION_COUNT → s.place < OPTION_COUNT → set_by text ≡ Some s
    → get_or settings s.place None ≡ None → AreGiven (words ++ text ∷ []) (set settings s.place (Some s.value))
given_set words settings text s so long lt sets free = record {
  at = λ place within. elim (cases_eq place s.place) [
    | inl same ↦
        let at_place : s.place < length settings = omega arith in
        let now : get_or (set settings s.place (Some s.value)) place None ≡ Some s.value = rw same (get_or-set_same settings s.place (Some s.value) None at_place) in
        let before : given place words ≡ None = sym (so.at place within) ∙ ap (λ (k : ℕ). get_or settings k None) same ∙ free in
        now ∙ or_here (given place words) (is_at place s) (Some s.value) before (eq-eqb s.place place (sym same)) ∙ sym (given_more place words text s sets)
    | inr other ↦
        get_or-set_other settings s.place place (Some s.value) None other ∙ so.at place within
        ∙ sym (or_other (given place words) (is_at place s) (Some s.value) (ne_eqb s.place place (λ e. other (sym e)))) ∙ sym (given_more place words text s sets)
  ];
}

-- no word
pub given_none : (settings : List (Option ℕ)) → ((place : ℕ) → get_or settings place None ≡ None) → AreGiven [] settings
unfolding given
given_none settings none = record { at = λ place within. none place }
