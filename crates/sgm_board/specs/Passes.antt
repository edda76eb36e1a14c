-- What contracts see of a pass, and what each kind of step leaves of it.
use Rattle.std.specs.Prelude.{◌≡◌, ℕ, ◌+◌, ◌*◌, ◌≤◌, ◌<◌, Bool, true, false}
use Rattle.std.specs.Prelude.{◌||◌, ◌==◌, nat_lt, Option, Some, None, slice_index, max}
use Rattle.std.specs.Prelude.{if◌then◌else◌}
use Rattle.sgm_energy.specs.declared.dir.Dir.{Dir}
use Rattle.sgm_energy.specs.Dirs.{is_level, number_of}
use Rattle.sgm_handover.specs.Handover.{changed}
use Rattle.sgm_board.specs.Tallies.{has}
use Rattle.sgm_board.specs.Views.{has_read, shows_done, try_place}
use Rattle.sgm_board.specs.declared.view.View.{View}

pub record PassParts : Type 0 where
  -- its number, and which numbers of passes it has gathered
  pub number : ℕ
  pub gathered : ℕ → Bool
  -- the strip that it holds, and the direction whose front it has
  pub strip : Option ℕ
  pub front : Option Dir
  -- which directions it shows as done in the strip held, and which words of directions it has read
  -- since its claim
  pub done : Dir → Bool
  pub read : Dir → Bool
  -- by word the value last seen, and how often the pass looked at it
  pub seen : ℕ → ℕ
  pub looks : ℕ → ℕ
  -- by strip the claims, by strip and direction the tries while it was held, and the puts
  pub claims : ℕ → ℕ
  pub tries : ℕ → Dir → ℕ
  pub puts : ℕ

-- what contracts see of what a pass knows. A level direction has no word and no tries
abbrev pub parts_of_view : View → PassParts
parts_of_view v = record {
  number = v.number;
  gathered = has v.gathered;
  strip = v.strip;
  front = v.front;
  done = shows_done v;
  read = λ dir. if is_level dir then false else has_read v dir;
  seen = slice_index v.seen;
  looks = slice_index v.looks;
  claims = slice_index v.claims;
  tries = λ strip dir. if is_level dir then 0 else slice_index v.tries (try_place strip dir);
  puts = v.puts;
}

-- a pass that has made no step
abbrev pub new_pass : ℕ → PassParts
new_pass number = record {
  number = number;
  gathered = λ other. number == other;
  strip = None;
  front = None;
  done = λ _. false;
  read = λ _. false;
  seen = λ _. 0;
  looks = λ _. 0;
  claims = λ _. 0;
  tries = λ _ _. 0;
  puts = 0;
}

-- one look at a word, which was found so
abbrev pub after_look : PassParts → ℕ → ℕ → PassParts
after_look p word found =
    record p {
      seen = changed (λ n. n) p.seen word found;
      looks = changed (λ n. n) p.looks word (p.looks word + 1);
    }

-- the strip is held, with these directions done. No direction's word was read since
abbrev pub after_claim : PassParts → ℕ → (Dir → Bool) → PassParts
after_claim p strip done =
    record p {
      strip = Some strip;
      done = done;
      read = λ _. false;
      claims = changed (λ n. n) p.claims strip (p.claims strip + 1);
    }

-- the strip is given back. Nothing is shown of it any more
abbrev pub after_return : PassParts → PassParts
after_return p = record p { strip = None; done = λ _. false; read = λ _. false }

-- one try more of this direction at this strip
abbrev pub after_try : PassParts → ℕ → Dir → PassParts
after_try p strip dir =
    record p {
      tries =
          changed (λ n. n) p.tries strip
          (changed number_of (p.tries strip) dir (p.tries strip dir + 1));
    }

-- the pass has the front of this direction
abbrev pub after_take : PassParts → Dir → PassParts
after_take p dir = record p { front = Some dir }

-- the front is put back, and its direction is done in the strip held
abbrev pub after_put : PassParts → Dir → PassParts
after_put p dir = record p {
  front = None;
  done = changed number_of p.done dir true;
  puts = p.puts + 1;
}

-- The pass has read the word of each direction that is not level, each once, and has made no other
-- step. No such word was above twice the number of strips
pub record HasReadAll (strips : ℕ) (p q : PassParts) : Type 0 where
  pub most : (word : ℕ) → word < 6 → q.seen word ≤ 2 * strips
  pub read : q ≡ record p {
    read = λ dir. if is_level dir then false else true;
    seen = λ word. if nat_lt word 6 then q.seen word else p.seen word;
    looks = λ word. if nat_lt word 6 then p.looks word + 1 else p.looks word;
  }

-- The pass has gathered the numbers of both, and of each direction's word it has the later value
-- seen, which is the greater. Of the values of a strip's word, and of looks, claims, tries and
-- puts, nothing is said
pub record HasJoined (p other q : PassParts) : Type 0 where
  pub same_number : q.number ≡ p.number
  pub gathered : (number : ℕ) → q.gathered number ≡ (p.gathered number || other.gathered number)
  pub same_strip : q.strip ≡ p.strip
  pub same_front : q.front ≡ p.front
  pub later : (word : ℕ) → word < 6 → q.seen word ≡ max (p.seen word) (other.seen word)
