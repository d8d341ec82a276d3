-- The bytes carry the figures: "64 zero bytes are an empty shelf", and what was laid is read back. Proved in `proofs/LayoutLaws`.
use Rattle.std.specs.Prelude.{◌≡◌, true, length, replicate}
use Rattle.shelf_figures.specs.declared.Shelf.{Shelf}
use Rattle.shelf_figures.specs.Shelf.{bare, is_kept}
use Rattle.shelf_bytes.specs.Layout.{shelf_bytes, encoded, decoded}

pub record RoundTrip : Type 0 where
  pub zeros : encoded bare ≡ replicate shelf_bytes 0
  pub long : (s : Shelf) → length (encoded s) ≡ shelf_bytes
  pub read_back : (s : Shelf) → is_kept s ≡ true → decoded (encoded s) ≡ s
