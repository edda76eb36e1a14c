-- Lines that a sink is given one after the other.
use Rattle.std.proofs.Common.{◌≡◌, ℕ, List, [], ◌++◌, sym, ap, ◌∙◌, subst, append-nil, append_assoc, Bool, true, false, Result, Ok, Err}
use Rattle.std.specs.Result.{is_ok}
use Rattle.sgm_io.specs.Sink.{GrowsByPrefix, WritesWhole}
use Rattle.sgm_io.specs.declared.sink.SinkError.{SinkError}
use Rattle.sgm_series.specs.Received.{Received, ReceivesMore, StaysWhole}

-- a beginning of the lines is one of them and more
grows_on : (lines more start now : List ℕ) → GrowsByPrefix lines start now → GrowsByPrefix (lines ++ more) start now
grows_on lines more start now grows = record {
  part = grows.part;
  prefix = record { rest = grows.prefix.rest ++ more; is = sym (append_assoc grows.part grows.prefix.rest more) ∙ ap (λ (x : List ℕ). x ++ more) grows.prefix.is };
  added = grows.added;
}

-- a beginning of a line behind lines
grows_behind : (lines line start old new : List ℕ) → old ≡ start ++ lines → GrowsByPrefix line old new → GrowsByPrefix (lines ++ line) start new
grows_behind lines line start old new before grows = record {
  part = lines ++ grows.part;
  prefix = record { rest = grows.prefix.rest; is = append_assoc lines grows.part grows.prefix.rest ∙ ap (λ (x : List ℕ). lines ++ x) grows.prefix.is };
  added = grows.added ∙ ap (λ (x : List ℕ). x ++ grows.part) before ∙ append_assoc start lines grows.part;
}

-- the line of a write, and the write's answer
pub wrote : (r : Result (Unit {0}) SinkError) (whole : Bool) (line lines start old new : List ℕ) → whole ≡ true → WritesWhole line r old new → Received whole lines start old → Received (is_ok r) (lines ++ line) start new
wrote r whole line lines start old new is writes before =
    let P : Bool → Type 0 = λ b. Received b lines start old in
    wrote_behind r line lines start old new writes (subst P is before)
  where
    wrote_behind : (r : Result (Unit {0}) SinkError) (line lines start old new : List ℕ) → WritesWhole line r old new → old ≡ start ++ lines → Received (is_ok r) (lines ++ line) start new
    wrote_behind (Ok done) line lines start old new writes before = writes ∙ ap (λ (x : List ℕ). x ++ line) before ∙ append_assoc start lines line
    wrote_behind (Err error) line lines start old new writes before = grows_behind lines line start old new before writes

-- nothing more is received
pub receives_none : (whole : Bool) (now : List ℕ) → ReceivesMore whole whole [] now now
receives_none true now = λ lines start is. is ∙ ap (λ (x : List ℕ). start ++ x) (sym (append-nil lines))
receives_none false now = λ lines start grows. grows_on lines [] start now grows

-- lines, and then others
pub receives_both : (a b c : Bool) (first second old mid new : List ℕ) → ReceivesMore a b first old mid → ReceivesMore b c second mid new → ReceivesMore a c (first ++ second) old new
receives_both a b c first second old mid new one two = λ lines start before.
    let P : List ℕ → Type 0 = λ all. Received c all start new in
    subst P (append_assoc lines first second) (two (lines ++ first) start (one lines start before))

pub whole_both : (a b c : Bool) (old mid new : ℕ) → StaysWhole a b old mid → StaysWhole b c mid new → StaysWhole a c old new
whole_both a b c old mid new one two = λ start before. two start (one start before)
