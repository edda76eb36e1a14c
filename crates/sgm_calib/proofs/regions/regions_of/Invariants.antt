use Rattle.std.proofs.Common.{◌≡◌, ◌++◌, map, drop, All}
use Rattle.serde_json.specs.View.{view}
use Rattle.sgm_report.specs.Areas.{IsArea}
use Rattle.sgm_calib.specs.Checks.{first_of}
use Rattle.sgm_calib.specs.RegionKeys.{region_faults, area_in}
use Rattle.sgm_calib.proofs.regions.regions_of.Given as goal

-- the regions so far and those of the elements that are left are all, and no earlier element has a fault
abbrev pub invariant-loop-index : goal.invariant-loop-index
invariant-loop-index l = record {
  value : l.regions.items ++ map (area_in l.sort) (map view (drop l.index l.items)) ≡ map (area_in l.sort) (map view l.items);
  inside : All (IsArea l.grid) l.regions.items;
  passed : first_of (region_faults l.sort l.grid 0 (map view l.items))
      ≡ first_of (region_faults l.sort l.grid l.index (map view (drop l.index l.items)));
}
