-- An outline encloses the same places when it is walked backwards.
use Rattle.std.proofs.Common.{◌≡◌, ℕ, ◌+◌, ◌*◌, ◌++◌, Bool, true, false, not, ◌&&◌, ◌==◌, if◌then◌else◌, List, [], ◌∷◌, cond, ℤ, pos, ◌+ℤ◌, ◌-ℤ◌, ◌*ℤ◌, refl, sym, ap, ◌∙◌, arith}
use Rattle.std.specs.Prelude.{count_by, int_lt, reverse, zip, ◌%◌}
use Rattle.std.proofs.Math.IntN.{*ℤ_comm, *ℤ-zero, zero-*ℤ}
use Rattle.std.proofs.lemmas.Int.{ints}
use Rattle.std.proofs.lemmas.List.{reverse-append}
use Rattle.std.proofs.lemmas.List.Sums.{sum_by-cons}
use borrow.Author.Differences.{up, down}
use Rattle.sgm_report.specs.Outlines.{Corner, Edge, edges, encloses, is_reached, passes_east, side_of, straddles}

-- 1 where that holds, and 0 where it doesn't
abbrev counted : Bool → ℕ
counted holds = cond holds 1 0

-- how many of the edges from one corner over some others to a last one pass
abbrev passed : (Edge → Bool) → Corner → List Corner → Corner → ℕ
passed passes from [] to = counted (passes (from, to))
passed passes from (next ∷ more) to = counted (passes (from, next)) + passed passes next more to

counted_edges : (passes : Edge → Bool) (from to : Corner) (more : List Corner)
    → count_by passes (zip (from ∷ more) (more ++ to ∷ [])) ≡ passed passes from more to
counted_edges passes from to [] =
    let one = sum_by-cons (λ (edge : Edge). counted (passes edge)) (from, to) [] in
    one ∙ omega arith
counted_edges passes from to (next ∷ more) =
    sum_by-cons (λ (edge : Edge). counted (passes edge)) (from, next) (zip (next ∷ more) (more ++ to ∷ []))
    ∙ ap (λ (n : ℕ). counted (passes (from, next)) + n) (counted_edges passes next to more)

passed_push : (passes : Edge → Bool) (from last to : Corner) (more : List Corner)
    → passed passes from (more ++ last ∷ []) to ≡ passed passes from more last + counted (passes (last, to))
passed_push passes from last to [] = refl
passed_push passes from last to (next ∷ more) =
    let rest = passed_push passes next last to more in
    omega (arith, rest)

-- backwards as many pass, where an edge passes as its reverse does
passed_back : (passes : Edge → Bool) → ((a b : Corner) → passes (a, b) ≡ passes (b, a)) → (from to : Corner) (more : List Corner)
    → passed passes from (reverse more) to ≡ passed passes to more from
passed_back passes turn from to [] = ap (λ (b : Bool). counted b) (turn from to)
passed_back passes turn from to (next ∷ more) =
    let last = passed_push passes from next to (reverse more) in
    let rest = passed_back passes turn from next more in
    let edge : counted (passes (next, to)) ≡ counted (passes (to, next)) = ap (λ (b : Bool). counted b) (turn next to) in
    ap (λ (t : List Corner). passed passes from t to) (reverse-append (next ∷ []) more)
    ∙ omega (arith, last, rest, edge)

-- the edges of an outline count the same from each corner
counted_from_last : (passes : Edge → Bool) (last : Corner) (more : List Corner)
    → count_by passes (edges (more ++ last ∷ [])) ≡ passed passes last more last
counted_from_last passes last [] = counted_edges passes last last []
counted_from_last passes last (next ∷ more) =
    let all = counted_edges passes next next (more ++ last ∷ []) in
    let end = passed_push passes next last next more in
    all ∙ omega (arith, end)

counted_back : (passes : Edge → Bool) → ((a b : Corner) → passes (a, b) ≡ passes (b, a)) → (corners : List Corner)
    → count_by passes (edges (reverse corners)) ≡ count_by passes (edges corners)
counted_back passes turn [] = refl
counted_back passes turn (first ∷ more) =
    ap (λ (t : List Corner). count_by passes (edges t)) (reverse-append (first ∷ []) more)
    ∙ counted_from_last passes first (reverse more)
    ∙ passed_back passes turn first first more
    ∙ sym (counted_edges passes first first more)

one_turn : (a b : Bool) → (if a then not b else b) ≡ (if b then not a else a)
one_turn true true = refl
one_turn true false = refl
one_turn false true = refl
one_turn false false = refl

times_difference : (a b c : ℤ) → a *ℤ (b -ℤ c) ≡ (a *ℤ b) -ℤ (a *ℤ c)
times_difference a b c =
    let e : up (b -ℤ c) + (down b + up c) ≡ down (b -ℤ c) + (up b + down c) = omega (arith, ints) in
    omega (arith, ints, ap (λ n. up a * n) e, ap (λ n. down a * n) e)

-- the product of two distances
times_apart : (p q a b : ℤ) → (p -ℤ a) *ℤ (q -ℤ b) ≡ (((p *ℤ q) -ℤ (b *ℤ p)) -ℤ (a *ℤ q)) +ℤ (a *ℤ b)
times_apart p q a b =
    let outer = times_difference (p -ℤ a) q b in
    let left = *ℤ_comm (p -ℤ a) q ∙ times_difference q p a in
    let right = *ℤ_comm (p -ℤ a) b ∙ times_difference b p a in
    omega (arith, ints, outer, left, right)

both_turned : (a b : ℤ) → (pos 0 -ℤ a) *ℤ (pos 0 -ℤ b) ≡ a *ℤ b
both_turned a b =
    let apart = times_apart (pos 0) (pos 0) a b in
    let none = zero-*ℤ (pos 0) in
    omega (arith, ints, apart, none, *ℤ-zero a, *ℤ-zero b)

inner_turn : (a b c d east north : ℤ)
    → pos 0 -ℤ (((a -ℤ east) *ℤ (d -ℤ b)) +ℤ ((north -ℤ b) *ℤ (c -ℤ a)))
    ≡ ((c -ℤ east) *ℤ (b -ℤ d)) +ℤ ((north -ℤ d) *ℤ (a -ℤ c))
inner_turn a b c d east north =
    let one = times_apart a d east b in
    let two = times_apart north c b a in
    let three = times_apart c b east d in
    let four = times_apart north a d c in
    omega (arith, ints, one, two, three, four, *ℤ_comm a d, *ℤ_comm north c, *ℤ_comm a north, *ℤ_comm b c)

side_turn : (a b c d east north : ℤ)
    → (((a -ℤ east) *ℤ (d -ℤ b)) +ℤ ((north -ℤ b) *ℤ (c -ℤ a))) *ℤ (d -ℤ b)
    ≡ (((c -ℤ east) *ℤ (b -ℤ d)) +ℤ ((north -ℤ d) *ℤ (a -ℤ c))) *ℤ (b -ℤ d)
side_turn a b c d east north =
    let inner = ((a -ℤ east) *ℤ (d -ℤ b)) +ℤ ((north -ℤ b) *ℤ (c -ℤ a)) in
    let rise : pos 0 -ℤ (d -ℤ b) ≡ b -ℤ d = omega (arith, ints) in
    sym (both_turned inner (d -ℤ b))
    ∙ ap (λ (z : ℤ). z *ℤ (pos 0 -ℤ (d -ℤ b))) (inner_turn a b c d east north)
    ∙ ap (λ (z : ℤ). (((c -ℤ east) *ℤ (b -ℤ d)) +ℤ ((north -ℤ d) *ℤ (a -ℤ c))) *ℤ z) rise

edge_turn : (east north : ℤ) (a b : Corner) → passes_east east north (a, b) ≡ passes_east east north (b, a)
unfolding passes_east
edge_turn east north a b =
    ap (λ (t : Bool). t && int_lt (pos 0) (side_of east north (a, b))) (one_turn (is_reached north a) (is_reached north b))
    ∙ ap (λ (z : ℤ). straddles north (b, a) && int_lt (pos 0) z)
    (side_turn (pos 2 *ℤ a.0) (pos 2 *ℤ a.1) (pos 2 *ℤ b.0) (pos 2 *ℤ b.1) east north)

pub outline_backwards : (corners : List Corner) (east north : ℤ) → encloses (reverse corners) east north ≡ encloses corners east north
outline_backwards corners east north =
    ap (λ (n : ℕ). n % 2 == 1) (counted_back (passes_east east north) (edge_turn east north) corners)
