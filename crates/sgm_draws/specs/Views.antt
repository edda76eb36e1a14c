-- What a ticket knows, and how each of its steps changes that.
use Rattle.std.specs.Prelude.{◌≡◌, ℕ, zero, suc, ◌+◌, ◌≤◌, List, [], ◌∷◌, ◌++◌, max}
use Rattle.sgm_draws.specs.Numbers.{times}
use Rattle.sgm_draws.specs.declared.view.View.{View}

-- a ticket that has drawn nothing, of so many numbers and so many tickets made, which has gathered
-- these tickets' numbers
abbrev pub new_view : ℕ → ℕ → ℕ → List ℕ → View
new_view count made number gathered =
    record {
      number = number;
      count = count;
      made = made;
      gathered = gathered;
      drawn = [];
      seen = 0;
      looks = 0;
    }

-- a ticket that was joined to another: it has handed all over
abbrev pub spent : View
spent = new_view 0 0 0 []

-- a ticket is live until it is joined to another: it has gathered its own number
pub record IsLive (count made : ℕ) (v : View) : Type 0 where
  pub of_count : v.count ≡ count
  pub of_made : v.made ≡ made
  pub own : 1 ≤ times v.gathered v.number

-- so many numbers from k on
abbrev pub count_up : ℕ → ℕ → List ℕ
count_up k zero = []
count_up k (suc more) = k ∷ count_up (k + 1) more

-- the ticket of this number, with those of the tickets from it on, which are still to be dealt out
abbrev pub dealer : ℕ → ℕ → ℕ → ℕ → View
dealer count made number more = new_view count made number (count_up number more)

-- where a dealer is cut in two, it keeps the first number, and a new dealer has the others
abbrev pub first_of : List ℕ → List ℕ
first_of [] = []
first_of (x ∷ xs) = x ∷ []

abbrev pub dealer_of : ℕ → ℕ → List ℕ → View
dealer_of count made (x ∷ y ∷ ys) = new_view count made y (y ∷ ys)
dealer_of count made xs = spent

abbrev pub kept_view : View → View
kept_view v = record v { gathered = first_of v.gathered }

abbrev pub dealt_view : View → View
dealt_view v = dealer_of v.count v.made v.gathered

-- a number was drawn
abbrev pub after_draw : View → ℕ → View
after_draw v number = record v {
  drawn = v.drawn ++ number ∷ [];
  seen = number;
  looks = v.looks + 1;
}

-- all numbers were drawn before: the word was this one
abbrev pub after_end : View → ℕ → View
after_end v found = record v { seen = found; looks = v.looks + 1 }

-- a ticket with what two have
abbrev pub joined_view : View → View → View
joined_view v w = record v {
  gathered = v.gathered ++ w.gathered;
  drawn = v.drawn ++ w.drawn;
  seen = max v.seen w.seen;
  looks = v.looks + w.looks;
}
