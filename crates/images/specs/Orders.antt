-- The order in which the bytes of a sector lie in an image.
use Rattle.std.specs.Prelude.{◌≡◌, ℕ, suc, List, [], ◌∷◌, map, length, refl}
use Rattle.std.proofs.Common.{sym, ap}
use Rattle.std.proofs.lemmas.List.{map-id}
use Rattle.disk.specs.Medium.{Medium, Sectors, endless}
use Rattle.images.specs.Images.{image, dump, swapped}

-- What each order keeps: turned twice, bytes are as they were; none comes or goes; and an image is the disk of its sectors, turned.
pub record OrderLaws (turned : List ℕ → List ℕ) (medium_of : List ℕ → Medium) : Type 0 where
  pub twice : (x : List ℕ) → turned (turned x) ≡ x
  pub len : (x : List ℕ) → length (turned x) ≡ length x
  pub medium : (bs : List ℕ) → medium_of bs ≡ record { sectors = map turned (image bs).sectors; power = endless }

pub straight_laws : OrderLaws (λ x. x) image
straight_laws = record {
  twice = λ x. refl;
  len = λ x. refl;
  medium = λ bs. ap (λ (S : Sectors). record { sectors = S; power = endless }) (sym (map-id (image bs).sectors));
}

pub length_swapped : (x : List ℕ) → length (swapped x) ≡ length x
unfolding swapped
length_swapped [] = refl
length_swapped (a ∷ []) = refl
length_swapped (a ∷ b ∷ r) = ap (λ (n : ℕ). suc (suc n)) (length_swapped r)

pub swapped_twice : (x : List ℕ) → swapped (swapped x) ≡ x
unfolding swapped
swapped_twice [] = refl
swapped_twice (a ∷ []) = refl
swapped_twice (a ∷ b ∷ r) = ap (λ (t : List ℕ). a ∷ b ∷ t) (swapped_twice r)

pub swapped_laws : OrderLaws swapped dump
swapped_laws = record { twice = swapped_twice; len = length_swapped; medium = λ bs. refl }
