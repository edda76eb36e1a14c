-- What a worker's calls add to what its pass shows.
use Rattle.std.specs.Prelude.{◌≡◌, ℕ, ◌+◌, ◌*◌, ◌<◌, ◌≤◌, false}
use Rattle.sgm_energy.specs.declared.dir.Dir.{Dir}
use Rattle.sgm_energy.specs.Dirs.{is_level}
use Rattle.sgm_board.specs.Words.{dir_word, strip_word}
use Rattle.sgm_board.specs.Passes.{PassParts}

-- its number and the numbers that it has gathered are as before
pub record IsSamePass (p q : PassParts) : Type 0 where
  pub same_number : q.number ≡ p.number
  pub same_gathered : q.gathered ≡ p.gathered

-- at each strip as many tries of each direction that is not level were added as claims
abbrev pub TriesWhatItClaims : PassParts → PassParts → Type 0
TriesWhatItClaims p q =
    (strip : ℕ) (dir : Dir) → is_level dir ≡ false
    → q.tries strip dir + p.claims strip ≡ p.tries strip dir + q.claims strip

-- each strip's word was looked at so many times more, or oftener
abbrev pub LooksMore : ℕ → ℕ → PassParts → PassParts → Type 0
LooksMore count strips p q = (strip : ℕ) → strip < strips
    → p.looks (strip_word strip) + count ≤ q.looks (strip_word strip)

-- each direction's word was last seen at twice the number of strips: its front has passed them all
abbrev pub SeesAllPassed : ℕ → PassParts → Type 0
SeesAllPassed strips p = (dir : Dir) → is_level dir ≡ false → p.seen (dir_word dir) ≡ 2 * strips

-- how often a worker scans at most
abbrev pub most_scans : ℕ → ℕ
most_scans strips = 6 * strips + 1048576
