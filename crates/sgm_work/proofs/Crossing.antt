-- What the threads that make parcels share, and what comes back from them.
use Rattle.sgm_strip.proofs.Crossing.{parcel_send, parcel_sync, scene_sync}

pub ruleset shared = (scene_sync, parcel_send, parcel_sync)
