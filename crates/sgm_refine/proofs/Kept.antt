-- What is kept of a map.
use Rattle.std.proofs.Common.{◌≡◌, ℕ, ◌*◌, ◌<◌, ◌≤◌, suc, cond, List, [], ◌∷◌, length, map, Option, None, refl, sym, ap, ◌∙◌, arith, zero-add, get_or}
use Rattle.std.specs.List.{Contains}
use Rattle.std.proofs.lemmas.Bool.{le-leb, lt-leb}
use Rattle.std.proofs.lemmas.List.FromFn.{length-map-range_with_len, get_or-map-range_with_len}
use Rattle.sgm_base.specs.Values.{Values, IsValues, values_of}
use Rattle.sgm_energy.proofs.Members.{in_below, in_filter}
use Rattle.sgm_refine.specs.Segments.{places, value_of, goes, segment, kept_at, kept}
use Rattle.sgm_refine.proofs.Chains.{goes_self}

-- two lists of one length with the same entries
pub same_entries : {X : Type 0} (xs ys : List X) (d : X) → length xs ≡ length ys → ((k : ℕ) → k < length xs → get_or xs k d ≡ get_or ys k d) → xs ≡ ys
same_entries [] [] d l h = refl
same_entries [] (y ∷ ys) d l h = absurd (omega arith)
same_entries (x ∷ xs) [] d l h = absurd (omega arith)
same_entries {X} (x ∷ xs) (y ∷ ys) d l h =
    let here : x ≡ y = h 0 (omega arith) in
    let rest : xs ≡ ys = same_entries xs ys d (omega arith) (λ k m. h (suc k) (omega arith)) in
    cc

-- a map's entries are those that are kept
pub kept_entries : (w : ℕ) (es : List (Option ℕ)) (least : ℕ) (ks : List (Option ℕ)) → length ks ≡ length es → ((k : ℕ) → k < length es → get_or ks k None ≡ kept_at w es least k)
    → ks ≡ map (kept_at w es least) (places es)
kept_entries w es least ks l h =
    same_entries ks (map (kept_at w es least) (places es)) None (l ∙ sym (length-map-range_with_len (kept_at w es least) 0 (length es)))
    (λ k m. h k (omega arith) ∙ sym (get_or-map-range_with_len (kept_at w es least) 0 (length es) k k None (omega arith) (zero-add k)))

pub own_segment : (w : ℕ) (es : List (Option ℕ)) (p : ℕ) → p < length es → Contains (segment w es p) p
unfolding segment
own_segment w es p l = in_filter (goes w es (length es) p) (places es) p (in_below (length es) p l) (goes_self w es (length es) p p refl)

pub kept_large : (w : ℕ) (es : List (Option ℕ)) (least p : ℕ) → least ≤ length (segment w es p) → kept_at w es least p ≡ value_of es p
unfolding kept_at
kept_large w es least p h = ap (λ b. cond b (value_of es p) None) (le-leb least (length (segment w es p)) h)

pub kept_small : (w : ℕ) (es : List (Option ℕ)) (least p : ℕ) → length (segment w es p) < least → kept_at w es least p ≡ None
unfolding kept_at
kept_small w es least p h = ap (λ b. cond b (value_of es p) None) (lt-leb least (length (segment w es p)) h)

pub all_kept : (m : Values) (least : ℕ) → IsValues m → least ≤ 1 → kept m least ≡ m
unfolding kept
all_kept m least v h =
    let same : m.entries ≡ map (kept_at m.width m.entries least) (places m.entries) =
    kept_entries m.width m.entries least m.entries refl (λ k l.
    let own = own_segment m.width m.entries k l in sym (kept_large m.width m.entries least k (omega (arith, own.1)))) in
    ap (λ es. values_of m.width m.height es) (sym same)

pub kept_is : (m made : Values) (least w h v : ℕ) (given es : List (Option ℕ)) → w ≡ m.width → h ≡ m.height → v ≡ w → given ≡ m.entries
    → es ≡ map (kept_at v given least) (places given) → made ≡ values_of w h es → made ≡ kept m least
unfolding kept
kept_is m made least w h v given es ew eh ev eg e is = cc

pub kept_full : (m : Values) (least w h v : ℕ) (given es : List (Option ℕ)) → IsValues m → w ≡ m.width → h ≡ m.height → given ≡ m.entries
    → es ≡ map (kept_at v given least) (places given) → length es ≡ w * h
kept_full m least w h v given es kept ew eh eg e =
    let full : length es ≡ m.width * m.height = ap length e ∙ length-map-range_with_len (kept_at v given least) 0 (length given) ∙ ap length eg ∙ kept.full in
    cc
