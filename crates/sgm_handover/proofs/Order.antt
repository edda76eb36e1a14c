-- The strips at which a front is taken are those of its positions, in order.
use Rattle.std.proofs.Common.{◌≡◌, ◌≢◌, ℕ, zero, suc, ◌+◌, ◌<◌, ◌≤◌, Bool, true, false, cond, List, [], ◌∷◌, ◌++◌, option_to_list, sym, refl, ap, ◌∙◌, subst, arith, eq-eqb, ne_eqb, append_assoc, append-nil, Option, Some, None}
use Rattle.std.specs.Prelude.{is_some, find}
use Rattle.std.specs.List.{range_with_len}
use Rattle.std.proofs.lemmas.List.FromFn.{map-range_with_len_more}
use mathlib.Core.Logic.{dite}
use native.Mathlib.Decide.{ℕ_discrete}
use Rattle.sgm_energy.specs.declared.dir.Dir.{Dir}
use Rattle.sgm_energy.specs.Dirs.{number_of, strip_at}
use Rattle.sgm_handover.specs.Handover.{Handover, fresh, next, Sound, changed, is_worker}
use Rattle.sgm_handover.specs.Events.{Legal, after, run, AllLegal, strip_of, taken_at, taken, strips_below, begun, TakenInOrder}
use Rattle.sgm_handover.specs.declared.event.Event.{Event}
use Rattle.sgm_handover.specs.declared.event.Event.TheVariants.{Claim, Take, Put, Return}
use Rattle.sgm_handover.proofs.Maps.{changed_there, changed_here, changed_else, is_worker_not, is_worker_here}
use Rattle.sgm_energy.proofs.DirLemmas.{same_number, strip_inside}
use Rattle.sgm_handover.proofs.Soundness.{fresh-sound, after-sound}
use Rattle.sgm_handover.proofs.Runs.{first_legal, rest_legal}

-- the first number that does is the one that does, where no other does
find_only : (p : ℕ → Bool) (a n s : ℕ) → a ≤ s → s < a + n → p s ≡ true → ((t : ℕ) → t < a + n → t ≢ s → p t ≡ false) → find p (range_with_len a n) ≡ Some s
find_only p a zero s low high h others = absurd (omega arith)
find_only p a (suc n) s low high h others = dite (ℕ_discrete a s)
    (λ e. ap (λ (b : Bool). let o : Option ℕ = cond b (Some a) (find p (range_with_len (a + 1) n)) in o) (ap p e ∙ h) ∙ ap Some e)
    (λ ne. ap (λ (b : Bool). let o : Option ℕ = cond b (Some a) (find p (range_with_len (a + 1) n)) in o) (others a (omega arith) ne)
    ∙ find_only p (a + 1) n s (omega arith) (omega arith) h (λ t lt nt. others t (omega arith) nt))

held_is : (m : Handover) (w s : ℕ) → Sound m → s < m.strips → m.holder s ≡ Some w → strip_of m w ≡ Some s
held_is m w s r l h =
    find_only (λ t. is_worker w (m.holder t)) 0 m.strips s (omega arith) (omega arith) (is_worker_here w (m.holder s) h)
    (λ t lt ne. is_worker_not w (m.holder t) (λ e. ne (r.one_strip t s w (omega arith, e) (l, h))))

one_below : (dir : Dir) (n k j : ℕ) → j ≡ k + 1 → strips_below dir n j ≡ strips_below dir n k ++ strip_at dir k n ∷ []
one_below dir n k j e = ap (strips_below dir n) e ∙ map-range_with_len_more (λ p. strip_at dir p n) 0 k k (omega arith)

abbrev flag : Option ℕ → ℕ
flag o = cond (is_some o) 1 0

take_here : (m : Handover) (w : ℕ) (d : Dir) → Sound m → Legal m (Take w d) → strips_below d m.strips (begun (after m (Take w d)) d) ≡ strips_below d m.strips (begun m d) ++ taken_at m d (Take w d)
take_here m w d r l =
    let s = next m d in
    let held : strip_of m w ≡ Some s = held_is m w s r (strip_inside d (m.passed d) m.strips l.1.0) l.1.1 in
    let it : taken_at m d (Take w d) ≡ s ∷ [] =
    ap (λ (b : Bool). let xs : List ℕ = cond b (option_to_list (strip_of m w)) [] in xs) (eq-eqb (number_of d) (number_of d) refl) ∙ ap (λ (o : Option ℕ). option_to_list o) held in
    let one_more : begun (after m (Take w d)) d ≡ m.passed d + 1 = ap (λ (o : Option ℕ). m.passed d + flag o) (changed_here number_of m.away d (Some w)) in
    let before : begun m d ≡ m.passed d = ap (λ (o : Option ℕ). m.passed d + flag o) l.2 ∙ omega arith in
    one_below d m.strips (m.passed d) _ one_more ∙ (λ i. strips_below d m.strips (sym before i) ++ sym it i)

take_else : (m : Handover) (w : ℕ) (d dir : Dir) → number_of dir ≢ number_of d → strips_below dir m.strips (begun (after m (Take w d)) dir) ≡ strips_below dir m.strips (begun m dir) ++ taken_at m dir (Take w d)
take_else m w d dir ne =
    let it : taken_at m dir (Take w d) ≡ [] = ap (λ (b : Bool). let xs : List ℕ = cond b (option_to_list (strip_of m w)) [] in xs) (ne_eqb (number_of d) (number_of dir) (λ e. ne (sym e))) in
    ap (λ (o : Option ℕ). strips_below dir m.strips (m.passed dir + flag o)) (changed_else number_of m.away d (Some w) dir ne)
    ∙ (sym (append-nil (strips_below dir m.strips (begun m dir))) ∙ ap (λ (xs : List ℕ). strips_below dir m.strips (begun m dir) ++ xs) (sym it))

put_count : (m : Handover) (w : ℕ) (d : Dir) → Legal m (Put w d) → (dir : Dir) → begun (after m (Put w d)) dir ≡ begun m dir
put_count m w d l dir = dite (ℕ_discrete (number_of dir) (number_of d))
    (λ e.
    let there : dir ≡ d = same_number dir d e in
    let was : begun m dir ≡ m.passed d + 1 = ap (begun m) there ∙ ap (λ (o : Option ℕ). m.passed d + flag o) l.1 in
    let passed : changed number_of m.passed d (m.passed d + 1) dir ≡ m.passed d + 1 = changed_there number_of m.passed d (m.passed d + 1) dir e in
    let away : flag (changed number_of m.away d None dir) ≡ 0 = ap (λ (o : Option ℕ). flag o) (changed_there number_of m.away d None dir e) in
    omega (arith, was, passed, away))
    (λ ne. λ i. changed_else number_of m.passed d (m.passed d + 1) dir ne i + flag (changed_else number_of m.away d None dir ne i))

no_more : (dir : Dir) (n k : ℕ) → strips_below dir n k ≡ strips_below dir n k ++ []
no_more dir n k = sym (append-nil (strips_below dir n k))

one_step : (m : Handover) (e : Event) (dir : Dir) → Sound m → Legal m e → strips_below dir (after m e).strips (begun (after m e) dir) ≡ strips_below dir m.strips (begun m dir) ++ taken_at m dir e
one_step m (Claim w s) dir r l = no_more dir m.strips (begun m dir)
one_step m (Take w d) dir r l = dite (ℕ_discrete (number_of dir) (number_of d))
    (λ e. subst (λ (g : Dir). strips_below g m.strips (begun (after m (Take w d)) g) ≡ strips_below g m.strips (begun m g) ++ taken_at m g (Take w d)) (sym (same_number dir d e)) (take_here m w d r l))
    (λ ne. take_else m w d dir ne)
one_step m (Put w d) dir r l = ap (strips_below dir m.strips) (put_count m w d l dir) ∙ no_more dir m.strips (begun m dir)
one_step m (Return w) dir r l = no_more dir m.strips (begun m dir)

all_steps : (m : Handover) (es : List Event) (dir : Dir) → Sound m → AllLegal m es → strips_below dir (run m es).strips (begun (run m es) dir) ≡ strips_below dir m.strips (begun m dir) ++ taken m dir es
all_steps m [] dir r l = no_more dir m.strips (begun m dir)
all_steps m (e ∷ es) dir r l =
    all_steps (after m e) es dir (after-sound m e (first_legal m e es l) r) (rest_legal m e es l)
    ∙ (ap (λ (xs : List ℕ). xs ++ taken (after m e) dir es) (one_step m e dir r (first_legal m e es l)) ∙ append_assoc (strips_below dir m.strips (begun m dir)) (taken_at m dir e) (taken (after m e) dir es))

same_strips : (m : Handover) (e : Event) → (after m e).strips ≡ m.strips
same_strips m (Claim w s) = refl
same_strips m (Take w d) = refl
same_strips m (Put w d) = refl
same_strips m (Return w) = refl

run_strips : (m : Handover) (es : List Event) → (run m es).strips ≡ m.strips
run_strips m [] = refl
run_strips m (e ∷ es) = run_strips (after m e) es ∙ same_strips m e

pub taken_in_order : (n : ℕ) (es : List Event) → AllLegal (fresh n) es → TakenInOrder (run (fresh n) es) es
taken_in_order n es l dir level =
    ap (λ k. taken (fresh k) dir es) (run_strips (fresh n) es) ∙ sym (all_steps (fresh n) es dir (fresh-sound n) l)
