-- Segments of a map: the pixels that chains of linked pixels join. A pixel is named by its place in
-- the map's entries, row by row: that of (x, y) is y * width + x.
use Rattle.std.specs.Prelude.{◌≡◌, ℕ, ◌+◌, ◌/◌, Bool, true, false, ◌&&◌, ◌||◌, ◌==◌, nat_le}
use Rattle.std.specs.Prelude.{if◌then◌else◌, List, [], ◌∷◌, length, map, filter, Option, Some, None}
use Rattle.std.specs.Prelude.{slice_index_or, zero, suc}
use Rattle.std.specs.List.{list_any, range_with_len}
use Rattle.sgm_base.specs.Values.{Values, values_of}
use Rattle.sgm_refine.specs.declared.segments.TheConstants.{LINK_DISTANCE}

-- all pixels of a map
abbrev pub places : List (Option ℕ) → List ℕ
places entries = range_with_len 0 (length entries)

-- the disparity of a pixel
abbrev pub value_of : List (Option ℕ) → ℕ → Option ℕ
value_of entries k = slice_index_or entries k None

-- whether k comes right after j in a row, or stands right below it in a column
abbrev pub comes_after : ℕ → ℕ → ℕ → Bool
comes_after width j k = (k == j + 1 && (j / width == k / width)) || (k == j + width)

-- whether two pixels are neighbours in a row or a column
abbrev pub are_neighbours : ℕ → ℕ → ℕ → Bool
are_neighbours width j k = comes_after width j k || comes_after width k j

-- whether both are disparities, which differ by at most LINK_DISTANCE
abbrev pub are_close : Option ℕ → Option ℕ → Bool
are_close (Some a) (Some b) = nat_le a (b + LINK_DISTANCE) && nat_le b (a + LINK_DISTANCE)
are_close _ _ = false

-- whether two pixels are linked: neighbours with disparities that are close
unfoldable pub is_linked : ℕ → List (Option ℕ) → ℕ → ℕ → Bool
is_linked width entries j k = are_neighbours width j k
    && are_close (value_of entries j) (value_of entries k)

-- a chain of linked pixels from j to k: j, and then `rest`, each linked to the next, of which the
-- last is k
abbrev pub IsChain : ℕ → List (Option ℕ) → ℕ → List ℕ → ℕ → Type 0
IsChain width entries j [] k = j ≡ k
IsChain width entries j (i ∷ rest) k = (is_linked width entries j i ≡ true)
    × IsChain width entries i rest k

-- whether a chain of at most n links goes from j to k
unfoldable pub goes : ℕ → List (Option ℕ) → ℕ → ℕ → ℕ → Bool
goes width entries zero j k = j == k
goes width entries (suc n) j k =
    (j == k)
    || list_any (λ i. is_linked width entries j i && goes width entries n i k) (places entries)

-- The segment of a pixel: all pixels to which a chain goes from it, itself among them. Where there
-- is a chain there is one with no more links than there are pixels.
unfoldable pub segment : ℕ → List (Option ℕ) → ℕ → List ℕ
segment width entries p = filter (goes width entries (length entries) p) (places entries)

-- the disparity of a pixel whose segment has at least `least` pixels; else none
unfoldable pub kept_at : ℕ → List (Option ℕ) → ℕ → ℕ → Option ℕ
kept_at width entries least p = if nat_le least (length (segment width entries p))
    then value_of entries p else None

-- the map without its segments of fewer than `least` pixels
unfoldable pub kept : Values → ℕ → Values
kept values least =
    values_of values.width values.height
    (map (kept_at values.width values.entries least) (places values.entries))
