-- What a try, the tries at a strip and a visit of a strip leave of a pass. No public clause speaks
-- of this.
use Rattle.std.specs.Prelude.{◌≡◌, ◌≢◌, ℕ, ◌+◌, ◌<◌, ◌≤◌, ◌⊎◌, Some}
use Rattle.sgm_energy.specs.declared.dir.Dir.{Dir}
use Rattle.sgm_energy.specs.Dirs.{front_of, number_of}
use Rattle.sgm_board.specs.Words.{strip_word}
use Rattle.sgm_board.specs.Passes.{PassParts}
use Rattle.sgm_work.specs.Worked.{IsSamePass, TriesWhatItClaims}

-- the direction was tried once at the strip, and the pass holds the strip that it held
pub record HasTried (strip : ℕ) (dir : Dir) (handed : ℕ) (p q : PassParts) : Type 0 where
  pub same : IsSamePass p q
  pub same_strip : q.strip ≡ p.strip
  pub claims : q.claims ≡ p.claims
  pub here : q.tries strip dir ≡ p.tries strip dir + 1
  pub others : (s : ℕ) (d : Dir) → (s ≢ strip) ⊎ (number_of d ≢ number_of dir)
      → q.tries s d ≡ p.tries s d
  pub puts : q.puts ≡ p.puts + handed
  pub looks : (s : ℕ) → q.looks (strip_word s) ≡ p.looks (strip_word s)

-- the directions of the fronts below so many were each tried once at the strip
pub record HasTriedFirst (strip count handed : ℕ) (p q : PassParts) : Type 0 where
  pub same : IsSamePass p q
  pub claims : q.claims ≡ p.claims
  pub tried : (dir : Dir) (front : ℕ) → front_of dir ≡ Some front → front < count
      → q.tries strip dir ≡ p.tries strip dir + 1
  pub left : (dir : Dir) (front : ℕ) → front_of dir ≡ Some front → count ≤ front
      → q.tries strip dir ≡ p.tries strip dir
  pub others : (s : ℕ) (dir : Dir) → s ≢ strip → q.tries s dir ≡ p.tries s dir
  pub puts : q.puts ≡ p.puts + handed
  pub looks : (s : ℕ) → p.looks (strip_word s) ≤ q.looks (strip_word s)

-- the strip was tried once, and where it was claimed each direction
pub record HasVisited (strip handed : ℕ) (p q : PassParts) : Type 0 where
  pub same : IsSamePass p q
  pub puts : q.puts ≡ p.puts + handed
  pub balanced : TriesWhatItClaims p q
  pub looked : p.looks (strip_word strip) < q.looks (strip_word strip)
  pub looks : (s : ℕ) → p.looks (strip_word s) ≤ q.looks (strip_word s)

-- the pass looked at words of directions and made no other step
pub record HasGlanced (p q : PassParts) : Type 0 where
  pub same : IsSamePass p q
  pub claims : q.claims ≡ p.claims
  pub tries : q.tries ≡ p.tries
  pub looks : (s : ℕ) → q.looks (strip_word s) ≡ p.looks (strip_word s)
