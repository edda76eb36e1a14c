-- What a pass knows, and how each of its steps changes that.
use Rattle.std.specs.Prelude.{◌≡◌, ℕ, ◌+◌, ◌*◌, Bool, true, ◌&&◌, ◌||◌, List, [], ◌∷◌, ◌++◌, Option}
use Rattle.std.specs.Prelude.{Some, None, is_some}
use Rattle.sgm_energy.specs.declared.dir.Dir.{Dir}
use Rattle.sgm_energy.specs.Dirs.{is_level}
use Rattle.sgm_strip.specs.Parcels.{is_done}
use Rattle.sgm_board.specs.Tallies.{has, put_at, one_more, greater, count_up}
use Rattle.sgm_board.specs.Words.{dir_word}
use Rattle.sgm_board.specs.declared.view.About.{About}
use Rattle.sgm_board.specs.declared.view.View.{View}

-- a pass that has made no step
abbrev pub new_view : Option About → ℕ → List ℕ → View
new_view about number gathered = record {
  number = number;
  about = about;
  gathered = gathered;
  strip = None;
  done_at_claim = [];
  put_since = [];
  read_since = [];
  front = None;
  seen = [];
  looks = [];
  claims = [];
  tries = [];
  puts = 0;
}

-- a pass that was joined to another
abbrev pub spent : View
spent = new_view None 0 []

-- a pass is live until it is joined to another: it has its own number
abbrev pub IsLive : View → Type 0
IsLive v = has v.gathered v.number ≡ true

-- the pass of this number, with so many numbers from its own on, which are still to be dealt out
abbrev pub dealer : About → ℕ → ℕ → View
dealer about number count = new_view (Some about) number (count_up number count)

-- where a dealer is cut in two, it keeps the first number, and a new dealer has the others
abbrev pub first_of : List ℕ → List ℕ
first_of [] = []
first_of (x ∷ xs) = x ∷ []

abbrev pub dealer_of : Option About → List ℕ → View
dealer_of about (x ∷ y ∷ ys) = new_view about y (y ∷ ys)
dealer_of about xs = spent

abbrev pub kept_view : View → View
kept_view v = record v { gathered = first_of v.gathered }

abbrev pub dealt_view : View → View
dealt_view v = dealer_of v.about v.gathered

-- a pass with the numbers of both, and with the later value seen of each direction's word
abbrev pub joined_view : View → View → View
joined_view v w = record v {
  gathered = v.gathered ++ w.gathered;
  seen = greater v.seen w.seen;
  looks = greater v.looks w.looks;
}

-- one look at a word, which was found so
abbrev pub after_look : View → ℕ → ℕ → View
after_look v word found = record v {
  seen = put_at v.seen word found;
  looks = one_more v.looks word;
}

-- a strip is held, in whose parcel these directions are done. No direction's word was read since
abbrev pub after_claim : View → ℕ → List Bool → View
after_claim v strip done =
    record v {
      strip = Some strip;
      done_at_claim = done;
      put_since = [];
      read_since = [];
      claims = one_more v.claims strip;
    }

-- the word of one direction more was read since the claim
abbrev pub after_read : View → ℕ → View
after_read v word = record v { read_since = word ∷ v.read_since }

-- the strip is given back, and nothing is left of what was known of it
abbrev pub after_return : View → View
after_return v = record v { strip = None; done_at_claim = []; put_since = []; read_since = [] }

-- the place of a strip and a direction among the tries
abbrev pub try_place : ℕ → Dir → ℕ
try_place strip dir = 6 * strip + dir_word dir

abbrev pub after_try : View → ℕ → Dir → View
after_try v strip dir = record v { tries = one_more v.tries (try_place strip dir) }

abbrev pub after_take : View → Dir → View
after_take v dir = record v { front = Some dir }

-- the front is put back, and its direction is done in the strip held
abbrev pub after_put : View → Dir → View
after_put v dir = record v {
  front = None;
  put_since = dir_word dir ∷ v.put_since;
  puts = v.puts + 1;
}

-- whether the direction is done in the parcel of the strip held: it was when the strip was claimed,
-- or its front was put since
abbrev pub is_known_done : View → Dir → Bool
is_known_done v dir = is_done v.done_at_claim dir || has v.put_since (dir_word dir)

-- whether the word of the direction, which is not level, was read since the claim
abbrev pub has_read : View → Dir → Bool
has_read v dir = has v.read_since (dir_word dir)

-- whether the pass shows the direction as done in the strip held: the level ones always, the others
-- once it has read their words
abbrev pub shows_done : View → Dir → Bool
shows_done v dir = is_some v.strip && (is_level dir || (has_read v dir && is_known_done v dir))
