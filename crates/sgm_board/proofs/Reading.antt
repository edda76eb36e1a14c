-- The words of the directions, read one after the other.
use Rattle.std.proofs.Common.{◌≡◌, ◌≢◌, ℕ, ◌+◌, ◌*◌, ◌≤◌, ◌==◌, get_or, sym, refl, ap, ◌∙◌, subst, arith, eq-eqb}
use mathlib.Core.Logic.{dite}
use native.Mathlib.Decide.{ℕ_discrete}
use Rattle.sgm_board.specs.declared.view.View.{View}
use Rattle.sgm_board.specs.Tallies.{has}
use Rattle.sgm_board.specs.Views.{after_look, after_read}
use Rattle.sgm_board.specs.Pockets.{HasRead}
use Rattle.sgm_board.proofs.Tallies.{put_at_here, put_at_else, or_left, or_right}

pub none_read : (strips : ℕ) (v : View) → HasRead strips 0 v v
none_read strips v = record {
  number = refl;
  about = refl;
  gathered = refl;
  strip = refl;
  front = refl;
  done_at_claim = refl;
  put_since = refl;
  claims = refl;
  tries = refl;
  puts = refl;
  reads = λ f l. absurd (omega arith);
  most = λ f l. absurd (omega arith);
  once = λ f l. absurd (omega arith);
  seen = λ i l. refl;
  looks = λ i l. refl;
}

pub one_read : (strips k x : ℕ) (v w u : View) → x ≤ 2 * strips → HasRead strips k v w → u ≡ after_read (after_look w k x) k → HasRead strips (k + 1) v u
one_read strips k x v w u small h is =
    let looks₁ = get_or w.looks k 0 + 1 in
    subst (HasRead strips (k + 1) v) (sym is) record {
      number = h.number;
      about = h.about;
      gathered = h.gathered;
      strip = h.strip;
      front = h.front;
      done_at_claim = h.done_at_claim;
      put_since = h.put_since;
      claims = h.claims;
      tries = h.tries;
      puts = h.puts;
      reads = λ f l. dite (ℕ_discrete k f) (λ e. or_left (k == f) (has w.read_since f) (eq-eqb k f e)) (λ ne. or_right (k == f) (has w.read_since f) (h.reads f (let q : f ≢ k = (λ e. ne (sym e)) in omega arith)));
      most = λ i l. dite (ℕ_discrete i k)
          (λ e. let a = ap (λ (j : ℕ). get_or (after_look w k x).seen j 0) e in let b = put_at_here w.seen k x in omega arith)
          (λ ne. let a = put_at_else w.seen k i x ne in let b = h.most i (omega arith) in omega arith);
      once = λ i l. dite (ℕ_discrete i k)
          (λ e. ap (λ (j : ℕ). get_or (after_look w k x).looks j 0) e ∙ (put_at_here w.looks k looks₁ ∙ (ap (λ (n : ℕ). n + 1) (h.looks k (omega arith)) ∙ ap (λ (j : ℕ). get_or v.looks j 0 + 1) (sym e))))
          (λ ne. put_at_else w.looks k i looks₁ ne ∙ h.once i (omega arith));
      seen = λ i l. put_at_else w.seen k i x (λ e. omega arith) ∙ h.seen i (omega arith);
      looks = λ i l. put_at_else w.looks k i looks₁ (λ e. omega arith) ∙ h.looks i (omega arith);
    }
