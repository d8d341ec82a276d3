-- Readings, evaluated: nothing, one byte, V after 01's writes, a volume that log-in refuses, and the 65,536th; and inputs of several.
use mathlib.Core.Path.{◌≡◌, refl}
use mathlib.Core.Bool.{Bool, true, false}
use mathlib.Core.List.{[], ◌∷◌}
use Rattle.disk_geometry.specs.Geometry.{bytes}
use Rattle.listing.specs.Listing.{geometry_v}
use Rattle.shelf_holdings.proofs.Examples.{volume, written, bad}
use Rattle.shelf_figures.specs.declared.Shelf.{Shelf}
use Rattle.shelf_figures.specs.Shelf.{bare}
use Rattle.shelf_figures.proofs.Examples.{refused, both}
use Rattle.shelf_figures.proofs.Examples as shelves
use Rattle.shelf.specs.declared.Reading.{Reading}
use Rattle.shelf.specs.Reading.{volume_bytes, after_read}
use Rattle.shelf.specs.Readings.{readings}
use Rattle.shelf.proofs.ReadingsLaws.{nothing}

abbrev then : Shelf → Bool → Reading
then s more = record { shelf = s; more = more }

pub record Examples : Type 0 where
  pub long : bytes geometry_v ≡ volume_bytes
  pub no_byte : after_read bare [] ≡ then bare false
  -- "a short last one is refused"
  pub short : after_read bare (229 ∷ []) ≡ then (refused 1) false
  -- behind a whole volume another may follow, also where log-in refuses it
  pub whole : after_read bare (volume written) ≡ then (both 0 1) true
  pub not_sound : after_read bare (volume bad) ≡ then (refused 1) true
  pub second : after_read (refused 1) (volume written) ≡ then (both 1 2) true
  -- "the program prints the figures before it"
  pub one_too_many : after_read (refused 65535) (volume written) ≡ then (refused 65535) false

pub examples : Examples
unfolding after_read bytes
examples =
    record {
      long = refl;
      no_byte = refl;
      short = rw (shelves.examples).one_byte;
      whole = rw (shelves.examples).alone;
      not_sound = rw (shelves.examples).bad_slot_lem;
      second = rw (shelves.examples).counted;
      one_too_many = refl;
    }

pub record Inputs : Type 0 where
  -- a volume behind one that log-in refuses is counted; behind a short one, or behind the end, none is
  pub behind_refused : readings bare (volume bad ∷ (volume written ∷ ([] ∷ []))) ≡ both 1 2
  pub behind_short : readings bare ((229 ∷ []) ∷ (volume written ∷ [])) ≡ refused 1
  pub behind_the_end : readings bare (volume written ∷ ([] ∷ (volume bad ∷ []))) ≡ both 0 1

pub inputs : Inputs
unfolding readings
inputs =
    record {
      behind_refused = rw (examples.not_sound, examples.second) (nothing (both 1 2) []);
      behind_short = rw examples.short;
      behind_the_end = rw examples.whole (nothing (both 0 1) (volume bad ∷ []));
    }
