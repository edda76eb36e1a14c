-- Samples that are all below the limit need no halvings.
use Rattle.std.proofs.Common.{◌≡◌, ℕ, ◌-◌, ◌<◌, refl, List, ◌++◌, true, Some, slice_index, pos, arith, ap, ◌∙◌}
use Rattle.std.specs.List.{All, find, list_all, range_with_len}
use Rattle.std.specs.Prelude.{nat_lt, unwrap_or, ℤ, neg_ℤ}
use Rattle.std.proofs.lemmas.Bool.{cond-true, lt-ltb}
use Rattle.std.proofs.lemmas.Bool.Decides.{Decides-by_and}
use Rattle.std.proofs.lemmas.List.Elements.{All-append, All-weaker}
use Rattle.sgm_fine.specs.Samples.{Centre, half, lefts, rights}
use Rattle.sgm_fine.specs.Small.{halved, halvings, least, small, small_left, small_right}

-- less another one and not halved, a sample is no greater
unhalved : (low v : ℕ) → halved low 0 v ≡ v - low
unhalved low v = omega arith

pub halvings_none : (limit : ℕ) (samples : List ℕ) → All (λ v. v < limit) samples → halvings limit samples ≡ 0
halvings_none limit samples below =
    let test = λ (a : ℕ). list_all (λ v. nat_lt (halved (least samples) a v) limit) samples in
    let q = λ (v : ℕ). nat_lt (halved (least samples) 0 v) limit in
    let first : test 0 ≡ true =
    (Decides-by_and q (λ v. q v ≡ true) (list_all q) (λ v. (λ e. e, λ e. e)) refl (λ _ _. refl) samples).1
    (All-weaker (λ v. v < limit) (λ v. q v ≡ true) (λ v h. lt-ltb (halved (least samples) 0 v) limit (omega (arith, h, unhalved (least samples) v))) samples below) in
    ap (λ o. unwrap_or o 0) (cond-true (test 0) (Some 0) (find test (range_with_len 1 20)) first)

pub small_whole : (limit : ℕ) (all samples : List ℕ) (k : ℕ) → All (λ v. v < limit) all → small limit all samples k ≡ pos (slice_index samples k - least all)
small_whole limit all samples k below =
    ap (λ n. pos (halved (least all) n (slice_index samples k))) (halvings_none limit all below) ∙ ap pos (unhalved (least all) (slice_index samples k))

-- the same of a pixel's window
pub left_whole : (c : Centre) (k : ℕ) → All (λ v. v < 256) (lefts c) → small_left c k ≡ pos (slice_index (lefts c) k - least (lefts c))
left_whole c k below = small_whole 256 (lefts c) (lefts c) k below

pub right_whole : (c : Centre) (offset : ℤ) (k : ℕ) → All (λ v. v < 4096) (rights c half) → All (λ v. v < 4096) (rights c (pos 0)) → All (λ v. v < 4096) (rights c (neg_ℤ half))
    → small_right c offset k ≡ pos (slice_index (rights c offset) k - least (rights c half ++ rights c (pos 0) ++ rights c (neg_ℤ half)))
right_whole c offset k after here before =
    small_whole 4096 (rights c half ++ rights c (pos 0) ++ rights c (neg_ℤ half)) (rights c offset) k
    (All-append (λ v. v < 4096) (rights c half ++ rights c (pos 0)) (rights c (neg_ℤ half)) (All-append (λ v. v < 4096) (rights c half) (rights c (pos 0)) after here) before)
