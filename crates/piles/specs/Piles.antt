-- Whole piles: a fuse over a forwarder over an image or a dump.
use Rattle.std.specs.Prelude.{◌≡◌, ℕ, cond, List, [], ◌∷◌, length, Result, slice_index_or}
use Rattle.fault.specs.declared.fault.Fault.{Fault}
use Rattle.images.specs.declared.image.Image.{Image}
use Rattle.images.specs.declared.plain.Straight.{Straight}
use Rattle.images.specs.declared.swapped.Exchanged.{Exchanged}
use Rattle.piles.specs.declared.forwarder.Forwarder.{Forwarder}
use Rattle.piles.specs.declared.fuse.Fuse.{Fuse}
use Rattle.disk.specs.Medium.{Medium, ran}
use Rattle.disk.specs.Disks.{serves, answer}
use Rattle.images.specs.Images.{image, dump}
use Rattle.piles.specs.Fuses.{fused}
use Rattle.piles.specs.Forward.{forward}

-- a fuse over a forwarder over a disk whose meaning is known
abbrev pub pile : {X : Type 0} → (X → Medium) → Fuse (Forwarder X) → Medium
pile m p = fused p.writes (forward p.below.worn.items (m p.below.below))

-- over the plain image of the caller's bytes
abbrev pub plain_pile : Fuse (Forwarder (Image Straight)) → Medium
plain_pile = pile (λ d. image d.bytes.now)

-- over the swapped dump of the caller's bytes
abbrev pub swapped_pile : Fuse (Forwarder (Image Exchanged)) → Medium
swapped_pile = pile (λ d. dump d.bytes.now)

-- a read of sector s into a buffer on a disk that means m: its answer r and the bytes that it leaves
pub record Reads (m : Medium) (s : ℕ) (buf : List ℕ) (r : Result (Unit {0}) Fault) (left : List ℕ) : Type 0 where
  pub result : r ≡ answer (length buf) s (length m.sectors)
  pub buffer : left ≡ cond (serves (length buf) s (length m.sectors)) (slice_index_or m.sectors s []) buf

-- a write of sector s from a buffer: its answer r and what the disk means afterwards
pub record Writes (m : Medium) (s : ℕ) (buf : List ℕ) (r : Result (Unit {0}) Fault) (end : Medium) : Type 0 where
  pub result : r ≡ answer (length buf) s (length m.sectors)
  pub after : end ≡ cond (serves (length buf) s (length m.sectors)) (ran ((s, buf) ∷ []) m) m
