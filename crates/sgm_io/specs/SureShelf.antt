-- What contracts see of a shelf that never fails.
use Rattle.std.specs.Prelude.{ℕ, List, Option, option_map}
use Rattle.sgm_io.specs.declared.sure_shelf.SureShelf.{SureShelf}
use Rattle.sgm_io.specs.Filed.{current_of, name_at}
use Rattle.sgm_io.specs.Held.{Held, put_all, empty_files}
use Rattle.sgm_io.specs.Names.{is_among}
use Rattle.sgm_io.specs.Unfinished.{NameSet}

-- the bytes under each name
abbrev pub sure_held : SureShelf → Held
sure_held shelf = put_all shelf.files.files.items empty_files

-- the name being written
abbrev pub sure_writing : SureShelf → Option (List ℕ)
sure_writing shelf = option_map name_at (current_of shelf.files.is_open shelf.files.files.items)

-- the names that were begun and not finished
abbrev pub sure_unfinished : SureShelf → NameSet
sure_unfinished shelf = is_among shelf.files.unfinished.names.items
