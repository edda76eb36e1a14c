use Rattle.std.proofs.Common.{◌≡◌, ◌<◌, ◌∙◌, ℕ, Option, arith, get_or, length, set, ap}
use borrow.Author.Count.{below_more}
use Rattle.std.specs.Option.{option_or}
use Rattle.std.proofs.lemmas.List.{get_or-set_same, get_or-set_other, get_or_default, length-set}
use Rattle.sgm_threads.proofs.sharing.put_own.Goals as goal

pub loop-k-preserved : goal.loop-k-preserved
loop-k-preserved g c =
    let k = c.loop-k.k in
    let own = c.loop-k.own.items in
    let places = c.loop-k.places in
    let held = c.loop-k.invariant in
    let empty = c.put_one.new.own in
    let piece = c.put_one.new.place in
    let inside : k < length places = omega (arith, c.loop-k-test.true, held.count) in
    let owned : k < length own = omega (arith, c.loop-k-test.true, held.own_count, c.requires) in
    let Done : Option g.row.X.Denot → ℕ → Type 0 = λ d i. get_or (set places k piece) i d ≡ option_or (get_or c.args.own.items i d) (get_or c.args.places.now i d) in
    record {
      own_count = length-set own k empty ∙ held.own_count;
      count = length-set places k piece ∙ held.count;
      own_left = λ j d h. get_or-set_other own k j empty d (λ e. omega arith) ∙ held.own_left j d (omega arith);
      left = λ j d h. get_or-set_other places k j piece d (λ e. omega arith) ∙ held.left j d (omega arith);
      done = λ j d h. below_more (Done d) k
          (λ i u. get_or-set_other places k i piece d (λ e. omega arith) ∙ held.done i d u)
          (get_or-set_same places k piece d inside ∙ c.put_one.ensures
          ∙ ap (λ o. option_or o (get_or places k c.index-places-k.result)) (c.index_mut.ensures.value ∙ get_or_default own k _ d owned ∙ held.own_left k d (omega arith))
          ∙ ap (option_or (get_or c.args.own.items k d)) (get_or_default places k _ d inside ∙ held.left k d (omega arith)))
          j h;
    }
