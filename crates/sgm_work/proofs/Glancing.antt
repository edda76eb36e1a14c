-- Looks at the words of directions, and scans one after the other.
use Rattle.std.proofs.Common.{◌≡◌, ℕ, ◌+◌, ◌*◌, ◌/◌, ◌<◌, ◌≤◌, Some, refl, sym, ap, subst, ◌∙◌, inl, inr, arith}
use Rattle.std.proofs.lemmas.Bool.{cases_eq}
use Rattle.sgm_energy.specs.declared.dir.Dir.{Dir}
use Rattle.sgm_energy.specs.declared.dir.Dir.TheVariants.{Right, Left, Down, DownRight, DownLeft, Up, UpRight, UpLeft}
use Rattle.sgm_energy.specs.Dirs.{front_of}
use Rattle.sgm_board.specs.Words.{dir_word, strip_word}
use Rattle.sgm_board.specs.Passes.{PassParts, after_look}
use Rattle.sgm_work.specs.Worked.{IsSamePass, LooksMore, SeesAllPassed, TriesWhatItClaims}
use Rattle.sgm_work.specs.Tries.{HasGlanced}
use Rattle.sgm_work.proofs.Adding.{dir_look, where_same, where_else}
use Rattle.sgm_work.proofs.Visiting.{front_across, same_pass, same_still}

-- the word of a direction has the number of its front
pub word_is : (dir : Dir) (front : ℕ) → front_of dir ≡ Some front → dir_word dir ≡ front
word_is Right front e = absurd (cc)
word_is Left front e = absurd (cc)
word_is Down front e = let q : front ≡ 0 = cc in sym q
word_is DownRight front e = let q : front ≡ 1 = cc in sym q
word_is DownLeft front e = let q : front ≡ 2 = cc in sym q
word_is Up front e = let q : front ≡ 3 = cc in sym q
word_is UpRight front e = let q : front ≡ 4 = cc in sym q
word_is UpLeft front e = let q : front ≡ 5 = cc in sym q

pub glanced_none : (p : PassParts) → HasGlanced p p
glanced_none p = record { same = same_pass p; claims = refl; tries = refl; looks = λ s. refl }

pub glanced_more : (p q r : PassParts) (dir : Dir) (found : ℕ) → HasGlanced p q → r ≡ after_look q (dir_word dir) found → HasGlanced p r
glanced_more p q r dir found was is = subst (HasGlanced p) (sym is) record {
  same = record { same_number = was.same.same_number; same_gathered = was.same.same_gathered };
  claims = was.claims;
  tries = was.tries;
  looks = λ s. dir_look dir s (q.looks (dir_word dir) + 1) (q.looks (strip_word s)) ∙ was.looks s;
}

-- the word was seen at twice the number of strips, as were those before it
pub over_more : (strips front found passed : ℕ) (dir : Dir) (q r : PassParts) → front_of dir ≡ Some front → r ≡ after_look q (dir_word dir) found → passed ≡ found / 2 → found ≤ 2 * strips → strips ≤ passed
    → ((word : ℕ) → word < front → q.seen word ≡ 2 * strips) → (word : ℕ) → word < front + 1 → r.seen word ≡ 2 * strips
over_more strips front found passed dir q r at is half most all before word h =
    let here = word_is dir front at in
    ap (λ (x : PassParts). x.seen word) is ∙ elim (cases_eq word (dir_word dir)) [
      | inl same ↦ where_same word (dir_word dir) found (q.seen word) same ∙ (let e : found ≡ 2 * strips = omega (arith, half, most, all) in e)
      | inr other ↦ where_else word (dir_word dir) found (q.seen word) other ∙ before word (omega (arith, here, other))
    ]

-- the words of all six directions were
pub over_all : (strips front : ℕ) (p : PassParts) → 6 ≤ front → ((word : ℕ) → word < front → p.seen word ≡ 2 * strips) → SeesAllPassed strips p
over_all strips front p all seen dir level =
    let own = front_across dir level in
    let e = word_is dir own.0 own.1 in
    seen (dir_word dir) (omega (arith, e, own.2))

-- ---- scans

-- a scan, and then looks at words of directions
pub scanned : (p q r u : PassParts) (count strips : ℕ) → LooksMore count strips p q → LooksMore 1 strips q r → HasGlanced r u → LooksMore (count + 1) strips p u
scanned p q r u count strips before one glanced s h = omega (arith, before s h, one s h, glanced.looks s)

pub tries_glanced : (p q r u : PassParts) → TriesWhatItClaims p q → TriesWhatItClaims q r → HasGlanced r u → TriesWhatItClaims p u
tries_glanced p q r u before one glanced s dir level =
    omega (arith, before s dir level, one s dir level, ap (λ (f : ℕ → Dir → ℕ). f s dir) glanced.tries, ap (λ (f : ℕ → ℕ). f s) glanced.claims)

pub same_glanced : (p q r u : PassParts) → IsSamePass p q → IsSamePass q r → HasGlanced r u → IsSamePass p u
same_glanced p q r u before one glanced = same_still p r u (same_still p q r before one) glanced.same
