-- A choice by a test.
use Rattle.std.proofs.Common.{◌≡◌, Bool, true, false, if◌then◌else◌, refl}

pub chosen : {A : Type 0} (b : Bool) (x yes no' : A) → x ≡ yes → (b ≡ false → x ≡ no') → x ≡ (if b then yes else no')
chosen true x y n is other = is
chosen false x y n is other = other refl
