-- How the marks of a row's cells follow the edges of an outline.
use Rattle.std.proofs.Common.{inl, inr, ◌≡◌, ℕ, ◌+◌, ◌-◌, ◌%◌, ◌<◌, ◌≤◌, ◌==◌, Bool, true, false, not, cond, if◌then◌else◌, nat_lt, List, [], ◌∷◌, ◌++◌, length, get_or, take, drop, map, refl, sym, ap, ap₂, ◌∙◌, arith}
use Rattle.std.specs.Prelude.{count_by, replicate}
use Rattle.std.specs.List.{range_with_len}
use Rattle.std.proofs.lemmas.Bool.{cases_lt, lt-ltb, le-ltb}
use Rattle.std.proofs.lemmas.Grind.{get_or_after_one}
use Rattle.std.proofs.lemmas.List.{ext_get_or, get_or-append_right, get_or-drop, get_or-map, get_or-take, get_or_append_left, get_or-replicate, get_or_default, length-append, length-drop, length-map, length-replicate, length-take-le, take_all, take_more}
use Rattle.std.proofs.lemmas.List.FromFn.{get_or-map-range_with_len, length-map-range_with_len}
use Rattle.std.proofs.lemmas.List.Sums.{sum_by_push}
use Rattle.std.proofs.lemmas.Slice.Zip.{get_or-zip, length-zip}
use Rattle.sgm_report.specs.Outlines.{Corner, Edge, edges}

ends_count : (cs : List Corner) → length (drop 1 cs ++ take 1 cs) ≡ length cs
ends_count [] = refl
ends_count (c ∷ cs) = omega (arith, length-append cs (c ∷ []))

pub edges_count : (cs : List Corner) → length (edges cs) ≡ length cs
edges_count cs = omega (arith, length-zip cs (drop 1 cs ++ take 1 cs), ends_count cs)

-- an edge by its ends
edge_at : (cs : List Corner) (i : ℕ) (d e : Corner) (f : Edge) → i < length cs → get_or (drop 1 cs ++ take 1 cs) i d ≡ e
    → (get_or cs i d, e) ≡ get_or (edges cs) i f
edge_at cs i d e f h next =
    sym (get_or_default (edges cs) i f (d, d) (omega (arith, edges_count cs, h))
    ∙ get_or-zip cs (drop 1 cs ++ take 1 cs) i (d, d) h (omega (arith, ends_count cs, h))
    ∙ ap (λ (c : Corner). (get_or cs i d, c)) next)

-- the edge from a corner to the next one
pub edge_between : (cs : List Corner) (i : ℕ) (d : Corner) (f : Edge) → i + 1 < length cs
    → (get_or cs i d, get_or cs (i + 1) d) ≡ get_or (edges cs) i f
edge_between cs i d f h =
    let rest : i < length (drop 1 cs) = omega (arith, length-drop 1 cs, h) in
    let order : 1 + i ≡ i + 1 = omega arith in
    edge_at cs i d (get_or cs (i + 1) d) f (omega (arith, h))
    (get_or_append_left (drop 1 cs) (take 1 cs) d i rest ∙ get_or_after_one cs i d ∙ ap (λ (k : ℕ). get_or cs k d) order)

-- the edge from the last corner to the first one
pub edge_back : (cs : List Corner) (i : ℕ) (d : Corner) (f : Edge) → i < length cs → length cs ≤ i + 1
    → (get_or cs i d, get_or cs 0 d) ≡ get_or (edges cs) i f
edge_back [] i d f h last = absurd (omega (arith, h))
edge_back (c ∷ cs) i d f h last =
    let none : i - length cs ≡ 0 = omega (arith, h) in
    edge_at (c ∷ cs) i d c f h
    (get_or-append_right cs (c ∷ []) (length cs) i d refl (omega (arith, last)) ∙ ap (λ (k : ℕ). get_or (c ∷ []) k d) none)

-- whether an odd number of the first edges pass
abbrev pub odd_of : (Edge → Bool) → List Edge → ℕ → Bool
odd_of passes es k = count_by passes (take k es) % 2 == 1

odd_next : (n : ℕ) → ((n + 1) % 2 == 1) ≡ not (n % 2 == 1)
odd_next n = grind arith

odd_step : (b : Bool) (n : ℕ) → ((n + cond b 1 0) % 2 == 1) ≡ (if b then not (n % 2 == 1) else (n % 2 == 1))
odd_step true n = odd_next n
odd_step false n = let e : n + 0 ≡ n = omega arith in ap (λ (k : ℕ). k % 2 == 1) e

-- one edge more
pub odd_more : (passes : Edge → Bool) (es : List Edge) (k : ℕ) (e : Edge) → k < length es → e ≡ get_or es k e
    → odd_of passes es (k + 1) ≡ (if passes e then not (odd_of passes es k) else odd_of passes es k)
odd_more passes es k e h at =
    let more : take (k + 1) es ≡ take k es ++ e ∷ [] = take_more es k e h ∙ ap (λ (x : Edge). take k es ++ x ∷ []) (sym at) in
    ap (λ (t : List Edge). count_by passes t % 2 == 1) more
    ∙ ap (λ (n : ℕ). n % 2 == 1) (sum_by_push (λ (x : Edge). cond (passes x) 1 0) (take k es) e)
    ∙ odd_step (passes e) (count_by passes (take k es))

-- all edges
pub odd_all : (passes : Edge → Bool) (es : List Edge) (k : ℕ) → length es ≤ k → odd_of passes es k ≡ (count_by passes es % 2 == 1)
odd_all passes es k h = ap (λ (t : List Edge). count_by passes t % 2 == 1) (take_all k es h)

turned_count : (marks : List Bool) (west : ℕ) → west ≤ length marks → length (map not (take west marks)) ≡ west
turned_count marks west h = omega (arith, length-map (take west marks) not, length-take-le west marks h)

turned_below : (marks : List Bool) (west i : ℕ) → west ≤ length marks → i < west
    → get_or (map not (take west marks) ++ drop west marks) i false ≡ not (get_or marks i false)
turned_below marks west i few lt =
    get_or_append_left (map not (take west marks)) (drop west marks) false i (omega (arith, lt, turned_count marks west few))
    ∙ get_or-map not (take west marks) i false false (omega (arith, lt, length-take-le west marks few))
    ∙ ap not (get_or-take west marks i false lt)

turned_above : (marks : List Bool) (west i : ℕ) → west ≤ length marks → west ≤ i
    → get_or (map not (take west marks) ++ drop west marks) i false ≡ get_or marks i false
turned_above marks west i few le =
    let at : west + (i - west) ≡ i = omega (arith, le) in
    get_or-append_right (map not (take west marks)) (drop west marks) west i false (turned_count marks west few) le
    ∙ get_or-drop west marks (i - west) false
    ∙ ap (λ (k : ℕ). get_or marks k false) at

turned_at : (marks : List Bool) (west i : ℕ) → west ≤ length marks
    → get_or (map not (take west marks) ++ drop west marks) i false ≡ (if nat_lt i west then not (get_or marks i false) else get_or marks i false)
turned_at marks west i few =
    let mark : Bool = get_or marks i false in
    elim (cases_lt i west) [
      | inl lt ↦ turned_below marks west i few lt ∙ ap (λ (b : Bool). if b then not mark else mark) (sym (lt-ltb i west lt))
      | inr le ↦ turned_above marks west i few le ∙ ap (λ (b : Bool). if b then not mark else mark) (sym (le-ltb i west le))
    ]

-- marks of which the first ones are turned round
pub turned : (before after : ℕ → Bool) (first count west : ℕ) (marks : List Bool) → west ≤ count
    → marks ≡ map before (range_with_len first count)
    → ((i : ℕ) → i < count → after (first + i) ≡ (if nat_lt i west then not (before (first + i)) else before (first + i)))
    → map not (take west marks) ++ drop west marks ≡ map after (range_with_len first count)
turned before after first count west marks few is each =
    let many : length marks ≡ count = ap (λ (t : List Bool). length t) is ∙ length-map-range_with_len before first count in
    let same : length (map not (take west marks) ++ drop west marks) ≡ count =
    omega (arith, length-append (map not (take west marks)) (drop west marks), turned_count marks west (omega arith), length-drop west marks) in
    ext_get_or false _ _ (omega (arith, same, length-map-range_with_len after first count))
    (λ (i : ℕ) (h : i < length (map not (take west marks) ++ drop west marks)).
    let within : i < count = omega (arith, h, same) in
    let old : get_or marks i false ≡ before (first + i) =
    ap (λ (t : List Bool). get_or t i false) is ∙ get_or-map-range_with_len before first count i (first + i) false within refl in
    turned_at marks west i (omega (arith, few, many))
    ∙ ap (λ (b : Bool). if nat_lt i west then not b else b) old
    ∙ sym (each i within)
    ∙ sym (get_or-map-range_with_len after first count i (first + i) false within refl))

-- before any edge no cell is marked
pub none_passed : (col cols : ℕ) (marks : List Bool) → marks ≡ replicate cols false → marks ≡ map (λ (c : ℕ). false) (range_with_len col cols)
none_passed col cols marks is =
    let f : ℕ → Bool = λ (c : ℕ). false in
    is
    ∙ ext_get_or true (replicate cols false) (map f (range_with_len col cols))
    (length-replicate cols false ∙ sym (length-map-range_with_len f col cols))
    (λ (i : ℕ) (lt : i < length (replicate cols false)).
    let within : i < cols = omega (arith, length-replicate cols false) in
    get_or-replicate cols i false true within
    ∙ sym (get_or-map-range_with_len f col cols i (col + i) true within refl))

-- and after all of them each is by all of them
pub all_passed : (passes : ℕ → Edge → Bool) (es : List Edge) (k : ℕ) → length es ≤ k → (cols : List ℕ)
    → map (λ col. odd_of (passes col) es k) cols ≡ map (λ col. count_by (passes col) es % 2 == 1) cols
all_passed passes es k h [] = refl
all_passed passes es k h (col ∷ cols) = ap₂ (λ (b : Bool) (bs : List Bool). b ∷ bs) (odd_all (passes col) es k h) (all_passed passes es k h cols)
