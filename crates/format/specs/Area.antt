-- A volume on a disk: the disk's sectors, and the sizes of the volume.
use Rattle.disk.specs.Medium.{Sectors}
use Rattle.format.specs.declared.geometry.Geometry.{Geometry}

pub record Area : Type 0 where
  pub sectors : Sectors
  pub sizes : Geometry
