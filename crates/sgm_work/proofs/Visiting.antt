-- What a visit of a strip adds, and visits one after the other.
use Rattle.std.proofs.Common.{◌≡◌, ℕ, ◌+◌, ◌<◌, ◌≤◌, Bool, false, cond, Some, refl, sym, ap, subst, ◌∙◌, inl, inr, arith}
use Rattle.std.proofs.lemmas.Bool.{cases_eq, le-ltb, true≢false}
use Rattle.sgm_energy.specs.declared.dir.Dir.{Dir}
use Rattle.sgm_energy.specs.declared.dir.Dir.TheVariants.{Right, Left, Down, DownRight, DownLeft, Up, UpRight, UpLeft}
use Rattle.sgm_energy.specs.Dirs.{front_of, is_level}
use Rattle.sgm_board.specs.Words.{strip_word}
use Rattle.sgm_board.specs.Passes.{PassParts, after_claim, after_look, HasReadAll}
use Rattle.sgm_board.specs.Boards.{parts_of, IsIdlePassOf, IsPassOf}
use Rattle.sgm_board.specs.declared.board.Board.{Board}
use Rattle.sgm_board.specs.declared.pass.Pass.{Pass}
use Rattle.sgm_work.specs.Worked.{IsSamePass, LooksMore, TriesWhatItClaims}
use Rattle.sgm_work.specs.Tries.{HasTriedFirst, HasVisited}
use Rattle.sgm_work.proofs.Adding.{where_same, where_else}

-- a direction that is not level has one of six fronts
pub front_across : (dir : Dir) → is_level dir ≡ false → (front : ℕ) × (front_of dir ≡ Some front) × (front < 6)
front_across Right e = absurd (true≢false e)
front_across Left e = absurd (true≢false e)
front_across Down e = (0, refl, omega arith)
front_across DownRight e = (1, refl, omega arith)
front_across DownLeft e = (2, refl, omega arith)
front_across Up e = (3, refl, omega arith)
front_across UpRight e = (4, refl, omega arith)
front_across UpLeft e = (5, refl, omega arith)

pub same_pass : (p : PassParts) → IsSamePass p p
same_pass p = record { same_number = refl; same_gathered = refl }

pub same_still : (p q r : PassParts) → IsSamePass p q → IsSamePass q r → IsSamePass p r
same_still p q r a b = record { same_number = b.same_number ∙ a.same_number; same_gathered = b.same_gathered ∙ a.same_gathered }

pub tries_none : (p : PassParts) → TriesWhatItClaims p p
tries_none p strip dir level = refl

pub tries_more : (p q r : PassParts) → TriesWhatItClaims p q → TriesWhatItClaims q r → TriesWhatItClaims p r
tries_more p q r a b strip dir level = omega (arith, a strip dir level, b strip dir level)

-- a pass that held nothing and has looked at a word
pub still_idle : (board : Board) (old new : Pass) (word found : ℕ) → IsIdlePassOf board old → IsPassOf board new → parts_of new ≡ after_look (parts_of old) word found → IsIdlePassOf board new
still_idle board old new word found idle own is = record {
  own = own;
  idle = record { no_strip = ap (λ (p : PassParts). p.strip) is ∙ idle.idle.no_strip; no_front = ap (λ (p : PassParts). p.front) is ∙ idle.idle.no_front };
}

-- ---- one strip

looks_one : (p : PassParts) (strip s found : ℕ) → p.looks (strip_word s) ≤ (after_look p (strip_word strip) found).looks (strip_word s)
looks_one p strip s found = elim (cases_eq (strip_word s) (strip_word strip)) [
  | inl same ↦ omega (arith, where_same (strip_word s) (strip_word strip) (p.looks (strip_word strip) + 1) (p.looks (strip_word s)) same, ap p.looks same)
  | inr other ↦ omega (arith, where_else (strip_word s) (strip_word strip) (p.looks (strip_word strip) + 1) (p.looks (strip_word s)) other)
]

looks_here : (p : PassParts) (strip found : ℕ) → (after_look p (strip_word strip) found).looks (strip_word strip) ≡ p.looks (strip_word strip) + 1
looks_here p strip found = where_same (strip_word strip) (strip_word strip) (p.looks (strip_word strip) + 1) (p.looks (strip_word strip)) refl

pub visited_miss : (p q : PassParts) (strip found : ℕ) → q ≡ after_look p (strip_word strip) found → HasVisited strip 0 p q
visited_miss p q strip found is = subst (HasVisited strip 0 p) (sym is) record {
  same = record { same_number = refl; same_gathered = refl };
  puts = omega arith;
  balanced = λ s dir level. refl;
  looked = omega (arith, looks_here p strip found);
  looks = λ s. looks_one p strip s found;
}

pub visited_hit : (p u q : PassParts) (strips strip handed found : ℕ) (done : Dir → Bool) → HasReadAll strips (after_claim (after_look p (strip_word strip) found) strip done) u → HasTriedFirst strip 6 handed u q
    → HasVisited strip handed p q
visited_hit p u q strips strip handed found done read tried = record {
  same = record { same_number = tried.same.same_number ∙ ap (λ (x : PassParts). x.number) read.read; same_gathered = tried.same.same_gathered ∙ ap (λ (x : PassParts). x.gathered) read.read };
  puts = omega (arith, tried.puts, ap (λ (x : PassParts). x.puts) read.read);
  balanced = λ s dir level. elim (cases_eq s strip) [
    | inl same ↦ (let front = front_across dir level in
        subst (λ n. q.tries n dir + p.claims n ≡ p.tries n dir + q.claims n) (sym same)
        (omega (
          arith,
          tried.tried dir front.0 front.1 front.2,
          ap (λ (x : PassParts). x.tries strip dir) read.read,
          claims strip,
          where_same strip strip (p.claims strip + 1) (p.claims strip) refl,
        )))
    | inr other ↦ omega (arith, tried.others s dir other, ap (λ (x : PassParts). x.tries s dir) read.read, claims s, where_else s strip (p.claims strip + 1) (p.claims s) other)
  ];
  looked = omega (arith, tried.looks strip, looks strip, looks_here p strip found);
  looks = λ s. omega (arith, tried.looks s, looks s, looks_one p strip s found);
}
  where
    claims : (s : ℕ) → q.claims s ≡ (after_claim p strip done).claims s
    claims s = ap (λ (f : ℕ → ℕ). f s) (tried.claims ∙ ap (λ (x : PassParts). x.claims) read.read)

    looks : (s : ℕ) → u.looks (strip_word s) ≡ (after_look p (strip_word strip) found).looks (strip_word s)
    looks s = ap (λ (x : PassParts). x.looks (strip_word s)) read.read
        ∙ ap (λ (b : Bool). cond b ((after_look p (strip_word strip) found).looks (strip_word s) + 1) ((after_look p (strip_word strip) found).looks (strip_word s))) (le-ltb (strip_word s) 6 (omega arith))

-- ---- the strips one after the other

pub looks_more : (p q r : PassParts) (strip handed : ℕ) → LooksMore 1 strip p q → ((s : ℕ) → p.looks (strip_word s) ≤ q.looks (strip_word s)) → HasVisited strip handed q r → LooksMore 1 (strip + 1) p r
looks_more p q r strip handed below kept visited s h = elim (cases_eq s strip) [
  | inl same ↦ subst (λ n. p.looks (strip_word n) + 1 ≤ r.looks (strip_word n)) (sym same) (omega (arith, kept strip, visited.looked))
  | inr other ↦ omega (arith, below s (omega arith), visited.looks s)
]
