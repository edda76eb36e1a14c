use Rattle.std.proofs.Common.{arith, ◌≡◌, ◌∙◌, ℕ, ap, subst, refl}
use Rattle.sgm_board.specs.Tallies.{has}
use Rattle.sgm_board.specs.Plans.{about_of}
use Rattle.sgm_board.specs.Views.{IsLive}
use Rattle.sgm_board.specs.Pockets.{HasRead}
use Rattle.sgm_board.proofs.Rules.{reads}
use Rattle.sgm_board.proofs.Reading.{none_read, one_read}
use Rattle.sgm_board.proofs.steps.read_all.Goals as goal

pub loop-word-init : goal.loop-word-init
loop-word-init c = record { table = refl; slots = refl; view = none_read (about_of c.args.shown.now.key).cut.strips c.args.seat.now.me.0 }

pub load-requires : goal.load-requires
load-requires c =
    let k = c.args.shown.now.key in
    let inv = c.loop-word.invariant in
    let live : IsLive c.loop-word.seat.me.0 = (λ i. has (inv.view.gathered i) (inv.view.number i)) ∙ c.requires.live.0 in
    (inv.table ∙ c.requires.table.0, omega arith, reads (about_of k) k.passes c.args.shown.now.table_id.slots c.loop-word.seat.id c.loop-word.seat.me c.loop-word.word c.loop-word-test.true live)

pub loop-word-preserved : goal.loop-word-preserved
loop-word-preserved c =
    let inv = c.loop-word.invariant in
    let did = c.load.ensures in
    let about = about_of c.args.shown.now.key in
    record {
      table = did.0 ∙ inv.table;
      slots = ap (λ m. m.1) did.2.0 ∙ inv.slots;
      view = one_read about.cut.strips c.loop-word.word c.load.result c.args.seat.now.me.0 c.loop-word.seat.me.0 c.load.new.seat.me.0 (did.2.1 about (inv.view.about ∙ c.requires.live.1)) inv.view (ap (λ m. m.0) did.2.0);
    }

pub returns : goal.returns
returns c =
    let inv = c.loop-word.invariant in
    let all : c.loop-word.word ≡ 6 = omega arith in
    record { table = inv.table; slots = inv.slots; view = subst (λ (k : ℕ). HasRead (about_of c.args.shown.now.key).cut.strips k c.args.seat.now.me.0 c.loop-word.seat.me.0) all inv.view }
