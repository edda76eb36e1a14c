use Rattle.std.proofs.Common.{◌≡◌, ◌∙◌, ◌<◌, ℕ, List, ap, sym, arith, length}
use Rattle.std.proofs.lemmas.Bool.{eqb-false}
use Rattle.sgm_io.specs.Keep.{name_of}
use Rattle.sgm_io.specs.MemoryShelf.{writing_in, trips_in, stops_here}
use Rattle.sgm_io.specs.Trips.{fails_append, is_append_at, without_first}
use Rattle.sgm_io.proofs.Choice.{chosen}
use Rattle.sgm_io.proofs.FiledLaws.{current_name, current_length}
use Rattle.sgm_io.proofs.memory_shelf.MemoryShelf.trips_append.Goals as goal

pub returns-clause-tripped : goal.returns-clause-tripped
returns-clause-tripped c =
    let files = c.args.self.now.files in
    let name = c.name.ensures ∙ current_name _ c.in-Some.file.now c.in-Some.ensures in
    let at = ap (λ (bytes : List ℕ). length bytes) c.bytes.ensures ∙ current_length files.is_open files.files.items c.in-Some.file.now c.in-Some.ensures in
    let stops : c.trips.result ≡ stops_here c.args.self.now =
    c.trips.ensures.tripped
    ∙ ap (λ (n : List ℕ). fails_append (trips_in c.args.self.now) n (length c.bytes.result.now)) name
    ∙ ap (λ (k : ℕ). fails_append (trips_in c.args.self.now) (name_of (writing_in c.args.self.now)) k) at in
    let some : 0 < length c.args.piece.now = (let differ = eqb-false (length c.args.piece.now) 0 (sym c.if-is_empty.ensures) in omega arith) in
    (λ yes. (some, sym stops ∙ yes), λ both. stops ∙ both.1)

pub returns-clause-left : goal.returns-clause-left
returns-clause-left c =
    let files = c.args.self.now.files in
    let name = c.name.ensures ∙ current_name _ c.in-Some.file.now c.in-Some.ensures in
    let at = ap (λ (bytes : List ℕ). length bytes) c.bytes.ensures ∙ current_length files.is_open files.files.items c.in-Some.file.now c.in-Some.ensures in
    chosen c.trips.result _ _ _
    (c.trips.ensures.left
    ∙ ap (λ (n : List ℕ). without_first (is_append_at n (length c.bytes.result.now)) (trips_in c.args.self.now)) name
    ∙ ap (λ (k : ℕ). without_first (is_append_at (name_of (writing_in c.args.self.now)) k) (trips_in c.args.self.now)) at)
    c.trips.ensures.all_left
