-- The lines of the faults of a list.
use Rattle.std.specs.Prelude.{ℕ, List, ◌++◌, codes, decimal}
use Rattle.sgm_list.specs.declared.fault.ListFault.{ListFault}
use Rattle.sgm_list.specs.declared.fault.ListFault.TheVariants.{TooLong, NotText, Line, TooMany}
use Rattle.sgm_list.specs.declared.fault.ListFault.TheVariants.{Clash}

abbrev pub fault_line : ListFault → List ℕ
fault_line TooLong = codes "sgm_series: list is too long\n"
fault_line NotText = codes "sgm_series: list is not text\n"
fault_line (Line number) = codes "sgm_series: line " ++ decimal number
    ++ codes " does not have four words\n"
fault_line (TooMany entries) = codes "sgm_series: too many entries\n"
fault_line (Clash entry) = codes "sgm_series: entry " ++ decimal entry ++ codes " clashes\n"
