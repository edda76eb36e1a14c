use Rattle.sgm_energy.proofs.RayLemmas.{ray_first, ray_next, before_last}
use Rattle.sgm_energy.proofs.Places.{is_ray, only_ray}
use Rattle.sgm_energy.proofs.laws.rays.Goals as goal

pub returns-clause-is_ray : goal.returns-clause-is_ray
returns-clause-is_ray c = is_ray

pub returns-clause-only : goal.returns-clause-only
returns-clause-only c = only_ray

pub returns-clause-first : goal.returns-clause-first
returns-clause-first c = ray_first

pub returns-clause-next : goal.returns-clause-next
returns-clause-next c = ray_next

pub returns-clause-last : goal.returns-clause-last
returns-clause-last c = before_last
