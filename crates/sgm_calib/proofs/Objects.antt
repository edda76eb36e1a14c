-- The keys that each object without objects is given are those that name it as their object and that its sort is given.
use Rattle.std.proofs.Common.{◌≡◌, [], ◌∷◌, ◌++◌, refl}
use Rattle.sgm_calib.specs.declared.sort.Sort.{Sort}
use Rattle.sgm_calib.specs.Table as table
use Rattle.sgm_calib.specs.Table.{keys, given_rows, rows_in}

pub rows_in-disparities : (sort : Sort) → rows_in table.disparities sort ≡ table.first ∷ table.count ∷ given_rows sort (table.fine ∷ [])
unfolding rows_in keys
rows_in-disparities sort = refl

pub rows_in-census : (sort : Sort) → rows_in table.census sort ≡ table.census_keys
unfolding rows_in keys
rows_in-census sort = refl

pub rows_in-penalties : (sort : Sort) → rows_in table.penalties sort ≡ table.p1 ∷ table.p2 ∷ given_rows sort (table.adapt ∷ [])
unfolding rows_in keys
rows_in-penalties sort = refl

pub rows_in-camera : (sort : Sort) → rows_in table.camera sort ≡ table.camera_keys
unfolding rows_in keys
rows_in-camera sort = refl

pub rows_in-pose : (sort : Sort) → rows_in table.pose sort ≡ table.pose_keys
unfolding rows_in keys
rows_in-pose sort = refl

pub rows_in-grid : (sort : Sort) → rows_in table.grid sort ≡ table.place_keys ++ given_rows sort table.gridding_keys
unfolding rows_in keys
rows_in-grid sort = refl
