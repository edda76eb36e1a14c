-- What a survey's threads share, though they share a guide: a scene, its planes, and parcels, which
-- may move to them.
use Rattle.std.proofs.Crossing.{crosses}
use denote.Param.Send.{IsSync, sendable}
use Rattle.sgm_strip.proofs.Crossing.{parcel_send, parcel_sync, scene_sync}
use Rattle.sgm_map.specs.contracts.planes.ScenePlanes as planes

pub planes_sync : IsSync planes.the_row
planes_sync = search (scene_sync, sendable, crosses) depth 20

pub ruleset shared = (planes_sync, scene_sync, parcel_send, parcel_sync)
