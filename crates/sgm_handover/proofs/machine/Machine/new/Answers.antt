use Rattle.std.proofs.Common.{◌≡◌, ◌∙◌, ap, length, arith, Option, None, List}
use Rattle.std.specs.Prelude.{ℕ}
use Rattle.std.proofs.lemmas.List.{length-replicate}
use Rattle.sgm_handover.proofs.Places.{fresh-fields, fresh-fields-sound}
use Rattle.sgm_handover.proofs.machine.Machine.new.Goals as goal

pub invariant_of-result : goal.invariant_of-result
invariant_of-result c =
    let whole : length c.in_ok-holders.holders.items ≡ c.args.strips =
    ap (λ (xs : List (Option ℕ)). length xs) c.in_ok-holders.ensures ∙ length-replicate {A = Option ℕ} c.args.strips None in
    record {
      sized = omega arith;
      sound = fresh-fields-sound c.args.strips _ c.in_ok-holders.ensures;
    }

pub returns : goal.returns
returns c = fresh-fields c.args.strips _ c.in_ok-holders.ensures
