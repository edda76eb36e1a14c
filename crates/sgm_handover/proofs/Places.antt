-- The state after a write to one field of a machine.
use Rattle.std.proofs.Common.{◌≡◌, ◌≢◌, ℕ, ◌+◌, ◌-◌, ◌<◌, zero, suc, false, List, length, get_or, set, replicate, sym, refl, ap, ◌∙◌, subst, get_or-set_same, get_or-set_other, Option, Some, None}
use mathlib.Core.Logic.{dite}
use native.Mathlib.Decide.{ℕ_discrete}
use Rattle.std.specs.Option.{option_map_or}
use Rattle.sgm_energy.specs.declared.dir.Dir.{Dir}
use Rattle.sgm_energy.specs.Dirs.{number_of, is_level, front_of}
use Rattle.sgm_handover.specs.Handover.{Sound, changed, fresh, HasNoFront}
use Rattle.sgm_handover.specs.Events.{after}
use Rattle.sgm_handover.specs.Fields.{at_front, handover}
use Rattle.sgm_handover.specs.declared.event.Event.TheVariants.{Claim, Take, Put, Return}
use Rattle.sgm_handover.proofs.Maps.{changed_there, changed_else, released}
use Rattle.sgm_handover.proofs.Dirs.{at_front-set, at_front_is, front_lt, dir_of}
use Rattle.sgm_handover.proofs.Soundness.{fresh-sound}

-- a list after a write is, by place, the changed map
at_place-set : {A : Type 0} (xs : List A) (k : ℕ) (x d : A) → k < length xs → (j : ℕ) → get_or (set xs k x) j d ≡ changed (λ n. n) (λ i. get_or xs i d) k x j
at_place-set xs k x d h j =
    let number : ℕ → ℕ = λ n. n in
    dite (ℕ_discrete j k)
    (λ e. ap (λ i. get_or (set xs k x) i d) e ∙ (get_or-set_same xs k x d h ∙ sym (changed_there number (λ i. get_or xs i d) k x j e)))
    (λ ne. get_or-set_other xs k j x d ne ∙ sym (changed_else number (λ i. get_or xs i d) k x j ne))

module _ (n : ℕ) (passed : List ℕ) (away holders : List (Option ℕ)) where
  pub claimed : (w s : ℕ) → s < length holders → handover n passed away (set holders s (Some w)) ≡ after (handover n passed away holders) (Claim w s)
  claimed w s h = λ i. record { strips = n; passed = at_front passed 0; away = at_front away None; holder = λ j. at_place-set holders s (Some w) None h j i }

  pub taken_out : (w : ℕ) (d : Dir) (front : ℕ) → is_level d ≡ false → front_of d ≡ Some front → front < length away → handover n passed (set away front (Some w)) holders ≡ after (handover n passed away holders) (Take w d)
  taken_out w d front level e h = λ i. record { strips = n; passed = at_front passed 0; away = λ dir. at_front-set away None d front (Some w) dir level e h i; holder = λ j. get_or holders j None }

  pub put_back : (w : ℕ) (d : Dir) (front p : ℕ) → is_level d ≡ false → front_of d ≡ Some front → front < length passed → front < length away → p ≡ get_or passed front 0 + 1
      → handover n (set passed front p) (set away front None) holders ≡ after (handover n passed away holders) (Put w d)
  put_back w d front p level e h h' ep =
      let here : get_or passed front 0 + 1 ≡ at_front passed 0 d + 1 = ap (λ (o : Option ℕ). option_map_or (λ k. get_or passed k 0) o 0 + 1) (sym e) in
      ap (λ (x : ℕ). handover n (set passed front x) (set away front None) holders) (ep ∙ here)
      ∙ (λ i. record { strips = n; passed = λ dir. at_front-set passed 0 d front (at_front passed 0 d + 1) dir level e h i; away = λ dir. at_front-set away None d front None dir level e h' i; holder = λ j. get_or holders j None })

  pub let_go : (w : ℕ) (holders' : List (Option ℕ)) → ((k : ℕ) → get_or holders' k None ≡ released w (get_or holders k None)) → handover n passed away holders' ≡ after (handover n passed away holders) (Return w)
  let_go w holders' e = λ i. record { strips = n; passed = at_front passed 0; away = at_front away None; holder = λ j. e j i }

all_same : {A : Type 0} (n i : ℕ) (a : A) → get_or (replicate n a) i a ≡ a
all_same zero i a = refl
all_same (suc n) zero a = refl
all_same (suc n) (suc i) a = all_same n i a

same_or : {A : Type 0} (n : ℕ) (a : A) (o : Option ℕ) → option_map_or (λ k. get_or (replicate n a) k a) o a ≡ a
same_or n a None = refl
same_or n a (Some k) = all_same n k a

pub fresh-fields : (n : ℕ) (holders : List (Option ℕ)) → holders ≡ replicate n None → handover n (replicate 6 0) (replicate 6 None) holders ≡ fresh n
fresh-fields n holders e = λ i. record {
  strips = n;
  passed = λ dir. same_or 6 0 (front_of dir) i;
  away = λ dir. same_or {A = Option ℕ} 6 None (front_of dir) i;
  holder = λ s. (ap (λ (xs : List (Option ℕ)). get_or xs s None) e ∙ all_same {A = Option ℕ} n s None) i;
}

pub fresh-fields-sound : (n : ℕ) (holders : List (Option ℕ)) → holders ≡ replicate n None → Sound (handover n (replicate 6 0) (replicate 6 None) holders)
fresh-fields-sound n holders e = subst Sound (sym (fresh-fields n holders e)) (fresh-sound n)

-- who stands in the list of fronts has a front
pub no_front : (n : ℕ) (passed : List ℕ) (away holders : List (Option ℕ)) (w : ℕ) → ((k : ℕ) → k < 6 → get_or away k None ≢ Some w) → HasNoFront (handover n passed away holders) w
no_front n passed away holders w h dir level e = h (number_of dir - 2) (front_lt dir) (sym (at_front_is away None dir level) ∙ e)

pub some_front : (n : ℕ) (passed : List ℕ) (away holders : List (Option ℕ)) (w k : ℕ) → k < 6 → get_or away k None ≡ Some w → ¬ HasNoFront (handover n passed away holders) w
some_front n passed away holders w k h e none =
    let it = dir_of k h in
    none it.0 it.1 (at_front_is away None it.0 it.1 ∙ ap (λ j. get_or away j None) it.2 ∙ e)
