-- The first trip that fails a call.
use Rattle.std.proofs.Common.{◌≡◌, ◌∙◌, ℕ, suc, ◌+◌, ◌<◌, ◌≤◌, List, [], ◌∷◌, Bool, true, false, cond, Some, None, refl, sym, ap, arith, length, nat_lt, ◌||◌, ◌&&◌, not, if◌then◌else◌, get_or, take, string_bytes, subst, ◌==◌}
use Rattle.std.specs.Str.{bytes_eq}
use Rattle.std.specs.List.{list_any, position, position_or_len, remove}
use Rattle.std.proofs.lemmas.Bool.{ltb-true, ltb-false}
use Rattle.std.proofs.lemmas.List.Folds.{list_any_more}
use Rattle.std.proofs.lemmas.List.Sums.{passes_at_first}
use Rattle.std.proofs.lemmas.Slice.Eq.{bytes_eq-Decides}
use Rattle.sgm_io.specs.declared.trip.Trip.{Trip}
use Rattle.sgm_io.specs.declared.trip.Trip.TheVariants as trip
use Rattle.sgm_io.specs.declared.trip.Call.{Call}
use Rattle.sgm_io.specs.declared.trip.Call.TheVariants as call
use Rattle.sgm_io.specs.Trips.{without_first, trip_name, fails_append, is_append_at}
use Rattle.sgm_io.specs.Calls.{fails, call_name}

and-left : (a b : Bool) → (a && b) ≡ true → a ≡ true
and-left true b is = refl
and-left false b is = cc

-- what is known of the place of the first
pub record IsFirst (test : Trip → Bool) (trips : List Trip) (at : ℕ) : Type 0 where
  pub within : at < length trips
  pub passes : (d : Trip) → test (get_or trips at d) ≡ true
  pub left : remove trips at ≡ without_first test trips

-- no trip passes
pub record IsNone (test : Trip → Bool) (trips : List Trip) : Type 0 where
  pub absent : list_any test trips ≡ false
  pub left : without_first test trips ≡ trips

left-cons : (test : Trip → Bool) (one : Trip) (trips : List Trip) (b : Bool) → (position_or_len test trips < length trips → remove trips (position_or_len test trips) ≡ without_first test trips) →
    cond (not b) (1 + position_or_len test trips) 0 < length (one ∷ trips) → remove (one ∷ trips) (cond (not b) (1 + position_or_len test trips) 0) ≡ (if b then trips else one ∷ without_first test trips)
left-cons test one trips true rest lt = refl
left-cons test one trips false rest lt =
    let next : 1 + position_or_len test trips ≡ suc (position_or_len test trips) = omega arith in
    ap (λ (k : ℕ). remove (one ∷ trips) k) next ∙ ap (λ (others : List Trip). one ∷ others) (rest (omega arith))

left-first : (test : Trip → Bool) (trips : List Trip) → position_or_len test trips < length trips → remove trips (position_or_len test trips) ≡ without_first test trips
left-first test [] lt = absurd (omega arith)
left-first test (one ∷ trips) lt = left-cons test one trips (test one) (left-first test trips) lt

absent-cons : (test : Trip → Bool) (one : Trip) (trips : List Trip) (b : Bool) → (length trips ≤ position_or_len test trips → (list_any test trips ≡ false) × (without_first test trips ≡ trips)) →
    length (one ∷ trips) ≤ cond (not b) (1 + position_or_len test trips) 0 → ((b || list_any test trips) ≡ false) × ((if b then trips else one ∷ without_first test trips) ≡ one ∷ trips)
absent-cons test one trips true rest le = absurd (omega arith)
absent-cons test one trips false rest le = let more = rest (omega arith) in (more.0, ap (λ (others : List Trip). one ∷ others) more.1)

none-passes : (test : Trip → Bool) (trips : List Trip) → length trips ≤ position_or_len test trips → (list_any test trips ≡ false) × (without_first test trips ≡ trips)
none-passes test [] le = (refl, refl)
none-passes test (one ∷ trips) le = absent-cons test one trips (test one) (none-passes test trips) le

found-at : (b : Bool) (p at : ℕ) → Some at ≡ cond b (Some p) None → (b ≡ true) × (at ≡ p)
found-at true p at is = (refl, cc)
found-at false p at is = (cc, cc)

nowhere : (b : Bool) (p : ℕ) → None ≡ cond b (Some p) None → b ≡ false
nowhere true p is = cc
nowhere false p is = refl

pub IsFirst-position : (test : Trip → Bool) (trips : List Trip) (at : ℕ) → Some at ≡ position test trips → IsFirst test trips at
IsFirst-position test trips at is =
    let place = position_or_len test trips in
    let found = found-at (nat_lt place (length trips)) place at is in
    let within : place < length trips = ltb-true place (length trips) found.0 in
    let P : ℕ → Type 0 = λ k. IsFirst test trips k in
    subst P (sym found.1) (record { within = within; passes = λ d. passes_at_first test trips d within; left = left-first test trips within })

pub IsNone-position : (test : Trip → Bool) (trips : List Trip) → None ≡ position test trips → IsNone test trips
IsNone-position test trips is =
    let place = position_or_len test trips in
    let more = none-passes test trips (ltb-false place (length trips) (nowhere (nat_lt place (length trips)) place is)) in
    record { absent = more.0; left = more.1 }

same : (asked name : List ℕ) → bytes_eq asked name ≡ true → name ≡ asked
same asked name is = sym ((bytes_eq-Decides asked name).0 is)

-- the trip is of the name that the call is of
pub named : (c : Call) (t : Trip) → fails c t ≡ true → trip_name t ≡ call_name c
named (call.Fetch name) (trip.Fetch tripped) is = same name.now (string_bytes tripped) is
named (call.Fetch name) (trip.Create tripped) is = cc
named (call.Fetch name) (trip.AppendAt tripped length) is = cc
named (call.Fetch name) (trip.Finish tripped) is = cc
named (call.Create name) (trip.Fetch tripped) is = cc
named (call.Create name) (trip.Create tripped) is = same name.now (string_bytes tripped) is
named (call.Create name) (trip.AppendAt tripped length) is = cc
named (call.Create name) (trip.Finish tripped) is = cc
named (call.Append name at) (trip.Fetch tripped) is = cc
named (call.Append name at) (trip.Create tripped) is = cc
named (call.Append name at) (trip.AppendAt tripped length) is = same name.now (string_bytes tripped) (and-left (bytes_eq name.now (string_bytes tripped)) (at == length) is)
named (call.Append name at) (trip.Finish tripped) is = cc
named (call.Finish name) (trip.Fetch tripped) is = cc
named (call.Finish name) (trip.Create tripped) is = cc
named (call.Finish name) (trip.AppendAt tripped length) is = cc
named (call.Finish name) (trip.Finish tripped) is = same name.now (string_bytes tripped) is

-- one trip more
pub fails_append-more : (trips : List Trip) (name : List ℕ) (i : ℕ) (t : Trip) (at : ℕ) → i < length trips → t ≡ get_or trips i t →
    fails_append (take (i + 1) trips) name at ≡ (fails_append (take i trips) name at || is_append_at name at t)
fails_append-more trips name i t at lt is =
    list_any_more (is_append_at name at) trips i t lt ∙ ap (λ (x : Trip). fails_append (take i trips) name at || is_append_at name at x) (sym is)
