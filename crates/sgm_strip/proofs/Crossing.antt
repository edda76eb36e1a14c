-- Parcels may move to other threads, and threads may share them and a scene, though they share a guide.
use Rattle.std.proofs.Crossing.{crosses}
use denote.Param.Send.{IsSend, IsSync, sendable}
use Rattle.sgm_strip.specs.contracts.guide.Guide as guide
use Rattle.sgm_strip.specs.contracts.scene.Scene as scene
use Rattle.sgm_strip.specs.contracts.parcel.Parcel as parcel

pub guide_send : IsSend guide.the_row
guide_send = search (sendable, crosses) depth 20

pub guide_sync : IsSync guide.the_row
guide_sync = search (sendable, crosses) depth 20

pub scene_sync : IsSync scene.the_row
scene_sync = search (guide_sync, sendable, crosses) depth 20

pub parcel_send : IsSend parcel.the_row
parcel_send = search (guide_send, sendable, crosses) depth 20

pub parcel_sync : IsSync parcel.the_row
parcel_sync = search (guide_sync, sendable, crosses) depth 20
