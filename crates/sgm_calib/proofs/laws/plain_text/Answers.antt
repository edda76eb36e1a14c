use Rattle.std.proofs.Common.{◌≡◌, ◌<◌, ℕ, arith, List, true, nat_lt, codes, refl}
use Rattle.std.specs.List.{list_all}
use Rattle.std.specs.Str.{IsAscii}
use Rattle.std.proofs.lemmas.Str.{IsUtf8-from_ascii}
use Rattle.std.proofs.lemmas.Str.Ascii.{IsAscii-from_all}
use Rattle.std.proofs.lemmas.List.Elements.{All-weaker}
use Rattle.std.proofs.lemmas.List.Sums.{AllPass-from_list_all}
use borrow.Author.Tests.{ltb-true}
use Rattle.serde_json.proofs.OnLiterals.{serde_json_on_literals}
use Rattle.sgm_calib.specs.Read.{value}
use Rattle.sgm_calib.specs.Table.{keys, rows_in, is_known}
use Rattle.sgm_calib.specs.Checks.{number_in, text_in, object_fault, elements, sort_of}
use Rattle.sgm_calib.specs.WarpKeys.{warps_fault, warp_in}
use Rattle.sgm_calib.specs.RegionKeys.{regions_fault, regions_in}
use Rattle.sgm_calib.specs.Judge.{rule_in, version_fault, itself_fault, section_fault, top_fault, entries_fault, camera_in, pose_in, grid_in, gridding_in, columns_in, judged}
use Rattle.sgm_calib.proofs.laws.plain_text.Goals as goal

abbrev text : List ℕ
text = codes "{\"version\":1,\"disparities\":{\"first\":0,\"count\":64},\"census\":{\"width\":9,\"height\":7},\"penalties\":{\"p1\":10,\"p2\":120}}"

is_ascii : (bytes : List ℕ) → list_all (λ byte. nat_lt byte 128) bytes ≡ true → IsAscii bytes
is_ascii bytes tested =
    IsAscii-from_all bytes
    (All-weaker (λ byte. nat_lt byte 128 ≡ true) (λ byte. byte < 128) (λ byte below. omega (arith, ltb-true, below)) bytes
    (AllPass-from_list_all (λ byte. nat_lt byte 128) bytes tested))

pub returns : goal.returns
unfolding serde_json_on_literals keys rows_in is_known number_in text_in object_fault elements warps_fault warp_in regions_fault regions_in sort_of rule_in version_fault itself_fault section_fault top_fault entries_fault camera_in pose_in grid_in gridding_in columns_in judged
returns c = value _ (record { text = IsUtf8-from_ascii text (is_ascii text refl); value = refl }) refl
