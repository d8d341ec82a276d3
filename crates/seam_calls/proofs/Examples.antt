-- Log-in, a call and a cut at the seam, evaluated on drives whose bytes are written out by hand: of the wrong length, of the right one,
-- outside the rules, and of an eight-inch disk.
use mathlib.Core.Path.{◌≡◌, refl}
use mathlib.Core.List.{List, [], ◌∷◌, ◌++◌}
use Prim.Native.Nat.{ℕ}
use lib.ListN.{replicate}
use Rattle.lists.specs.Bytes.{part, all}
use Rattle.numbers.specs.Numbers.{bytes_of, number}
use Rattle.disk_geometry.specs.Geometry.{geometry_of, lawful, bytes}
use Rattle.disk_stores.specs.Stores.{laid}
use Rattle.call_answers.specs.Refusal.{first_met}
use Rattle.call_served.specs.Calls.{call_of}
use Rattle.filecalls.specs.State.{is_open}
use Rattle.filecalls.specs.Outcome.{unless, outcome, changed_state}
use Rattle.filecalls.specs.LogIn.{log_in_tests, refused_log_in, log_in}
use Rattle.filecalls.specs.Small.{user_tests, user_act}
use Rattle.bdos.specs.Step.{does, step}
use Rattle.bdos.specs.Stores.{call_stores}
use Rattle.drive_bytes.specs.Layout.{head_bytes, search_bytes, held_bytes, front_bytes, encoded, encoded_in, kind_stored, words_at, fields, laid_out, is_drive, decoded}
use Rattle.seam_words.specs.Answered.{answered}
use Rattle.seam_calls.specs.Seam.{Sealed, sealed, at_seam, log_in_at_seam, cut_at_seam}

-- what has to compute where a call is evaluated
unfoldable computes : Unit {0}
unfolding part all bytes_of number lawful bytes laid first_met call_of is_open unless outcome changed_state log_in_tests refused_log_in log_in user_tests user_act does step call_stores head_bytes search_bytes held_bytes front_bytes encoded encoded_in kind_stored words_at fields laid_out is_drive decoded answered at_seam log_in_at_seam cut_at_seam
computes = tt

-- B 2,048, T of two bytes, D 1, user 3, and n zeros: not protected, no search, a straight placing, no block held
abbrev drive : ℕ → ℕ → ℕ → List ℕ
drive low high n = 0 ∷ 8 ∷ low ∷ high ∷ 1 ∷ 0 ∷ 3 ∷ replicate n 0

-- T 257 in 544 bytes and in 64, and T 5,000 in 544
abbrev wide : List ℕ
wide = drive 1 1 537

abbrev short : List ℕ
short = drive 1 1 57

abbrev too_many : List ℕ
too_many = drive 136 19 537

-- an eight-inch disk, no block held
abbrev on_floppy : List ℕ
on_floppy = 0 ∷ 4 ∷ 243 ∷ 0 ∷ 2 ∷ 0 ∷ replicate 18 0 ++ (1 ∷ replicate 39 0)

-- what is lent: no control block, no buffer, and here no volume
abbrev lent : ℕ → List ℕ → Sealed
lent r s = sealed r s [] [] []

abbrev logs : ℕ → ℕ → List ℕ → Sealed
logs b t s = log_in_at_seam (geometry_of b t 1) [] s

abbrev calls : ℕ → ℕ → List ℕ → Sealed
calls n p s = at_seam n p s [] [] []

abbrev cuts : ℕ → ℕ → List ℕ → Sealed
cuts n p s = cut_at_seam 9 n p s [] [] []

-- function n on a floppy's drive, lent a volume of T times B zeros
abbrev anew : ℕ → Sealed
anew n = at_seam n 0 on_floppy (replicate 248832 0) [] []

pub record Examples : Type 0 where
  -- log-in, "the length that a drive must have is that of T alone": 32, and nothing changed; so too where the geometry is refused
  pub log_in_short : logs 2048 257 (replicate 64 7) ≡ lent 32 (replicate 64 7)
  pub log_in_long : logs 2048 256 (replicate 544 7) ≡ lent 32 (replicate 544 7)
  pub log_in_unlawful_short : logs 1024 257 (replicate 64 7) ≡ lent 32 (replicate 64 7)
  -- of the right length: B 1,024 with T 257 is 32, a volume of no byte 33, and the drive is closed, zeros
  pub log_in_unlawful : logs 1024 257 (replicate 544 7) ≡ lent 32 (replicate 544 0)
  pub log_in_33 : logs 2048 257 (replicate 544 7) ≡ lent 33 (replicate 544 0)
  -- a call: the user's code, the bytes stay; "A drive whose length does not fit its T counts as closed": 32, and they stay
  pub user_told : calls 32 255 wide ≡ lent 3 wide
  pub user_of_short : calls 32 255 short ≡ lent 32 short
  pub user_of_too_many : calls 32 255 too_many ≡ lent 32 too_many
  -- a cut: "a drive of another length is 32 and stays as it is"; one that counts as closed is zeros after it
  pub cut_of_short : cuts 34 0 short ≡ lent 32 short
  pub cut_of_too_many : cuts 34 0 too_many ≡ lent 32 (replicate 544 0)
  -- "0 where the call is not refused", whatever it answers, and no store is made; "the drive is closed after every answer"
  pub cut_not_refused : cuts 32 255 wide ≡ lent 0 (replicate 544 0)
  pub cut_refused : cuts 13 0 wide ≡ lent 33 (replicate 544 0)
  -- "13 and 37 keep the placing": 33, where a straight log-in would find slot 0 bad; "refused they leave zeros of the same length"
  pub anew_by_13 : anew 13 ≡ sealed 33 (replicate 64 0) (replicate 248832 0) [] []
  pub anew_by_37 : anew 37 ≡ sealed 33 (replicate 64 0) (replicate 248832 0) [] []

pub examples : Examples
unfolding computes
examples = record {
  log_in_short = refl;
  log_in_long = refl;
  log_in_unlawful_short = refl;
  log_in_unlawful = refl;
  log_in_33 = refl;
  user_told = refl;
  user_of_short = refl;
  user_of_too_many = refl;
  cut_of_short = refl;
  cut_of_too_many = refl;
  cut_not_refused = refl;
  cut_refused = refl;
  anew_by_13 = refl;
  anew_by_37 = refl;
}
