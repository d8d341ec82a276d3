-- Request (xii), "if the emulator is closed halfway", evaluated: the list of stores of each changing call, and volumes where
-- it is cut. All values are worked out by hand from the request: "whole 128-byte records: data records first, then directory
-- records in rising order"; a directory record that holds an entry that the call sets is stored once, also where its bytes
-- don't change.
use Rattle.std.specs.Prelude.{◌≡◌, refl, true, false, List, [], ◌∷◌, ◌++◌, ℕ}
use Rattle.lists.specs.Bytes.{part}
use Rattle.disk_stores.specs.Stores.{Store, store, cut}
use Rattle.filecalls.specs.declared.Drive.{Drive}
use Rattle.filecalls.specs.State.{logged_in}
use Rattle.filecalls.specs.LogIn.{log_in as log_in_reply}
use Rattle.filecalls.specs.Stores.{delete_stores, make_stores, rename_stores, attributes_stores, sequential_stores, direct_stores}
use Rattle.several.specs.Stores.{singles_stores, several_stores}
use Rattle.examples.specs.Script.{words, seen}
use Rattle.examples.specs.Samples.{sigla, lemmata, from, entry, empty, control, fresh, record_of, renaming, filled, old, small, disk}

-- SIGLA.TXT has two entries in directory record 0, beside LEMMATA.TXT; no block is free
abbrev pub in_one_of : List ℕ
in_one_of = disk (entry 0 sigla 0 0 8 (1 ∷ []) ++ entry 0 lemmata 0 0 8 (2 ∷ []) ++ entry 0 sigla 1 0 8 (3 ∷ []) ++ empty 29)

-- and here one in record 0 and one in record 1; block 3 is free
abbrev pub record0 : List ℕ
record0 = entry 0 sigla 0 0 8 (1 ∷ []) ++ entry 0 lemmata 0 0 0 [] ++ empty 2

abbrev pub record1 : List ℕ
record1 = entry 0 sigla 1 0 1 (2 ∷ []) ++ empty 3

abbrev pub in_two : List ℕ
in_two = disk (record0 ++ record1 ++ empty 24)

-- the states after log-in, by their held blocks: 1, 2 and 3; 1 and 2
abbrev pub full : Drive
full = logged_in small (words (14 ∷ []))

abbrev pub ready : Drive
ready = logged_in small (words (6 ∷ []))

full_is : (log_in_reply small in_one_of).drive ≡ full
unfolding seen old
full_is = refl

ready_is : (log_in_reply small in_two).drive ≡ ready
unfolding seen old
ready_is = refl

-- record 0 where the first entry of SIGLA.TXT counts so many records, in these blocks
abbrev pub grown0 : ℕ → List ℕ → List ℕ
grown0 rc blocks = entry 0 sigla 0 0 rc blocks ++ entry 0 lemmata 0 0 0 [] ++ empty 2

-- ---- the calls on names: directory records alone
abbrev pub naming : List (List Store)
naming =
    delete_stores full in_one_of (fresh sigla)
    ∷ delete_stores ready in_two (fresh sigla)
    ∷ attributes_stores ready in_two (fresh sigla)
    ∷ rename_stores ready in_two (renaming sigla (from 66))
    ∷ make_stores ready in_two (fresh (from 66))
    ∷ delete_stores ready in_two (fresh (from 66))
    ∷ make_stores ready in_two (fresh sigla)
    ∷ []

abbrev pub naming_told : List (List Store)
naming_told =
    -- two entries in one record: one store
    (store 0 (entry 0xE5 sigla 0 0 8 (1 ∷ []) ++ entry 0 lemmata 0 0 8 (2 ∷ []) ++ entry 0xE5 sigla 1 0 8 (3 ∷ []) ++ empty 1) ∷ [])
    -- in two records: two, rising
    ∷ (store 0 (entry 0xE5 sigla 0 0 8 (1 ∷ []) ++ entry 0 lemmata 0 0 0 [] ++ empty 2)
    ∷ store 1 (entry 0xE5 sigla 1 0 1 (2 ∷ []) ++ empty 3)
    ∷ [])
    -- attributes that the file has already: no byte changes, and both records are stored
    ∷ (store 0 record0 ∷ store 1 record1 ∷ [])
    -- a rename
    ∷ (store 0 (entry 0 (from 66) 0 0 8 (1 ∷ []) ++ entry 0 lemmata 0 0 0 [] ++ empty 2)
    ∷ store 1 (entry 0 (from 66) 1 0 1 (2 ∷ []) ++ empty 3)
    ∷ [])
    -- a new entry: the record of its slot, the lowest empty one
    ∷ (store 0 (entry 0 sigla 0 0 8 (1 ∷ []) ++ entry 0 lemmata 0 0 0 [] ++ entry 0 (from 66) 0 0 0 [] ++ empty 1) ∷ [])
    -- refused by 255 and 43: none
    ∷ []
    ∷ []
    ∷ []

naming_stores : naming ≡ naming_told
unfolding seen old
naming_stores = refl

-- ---- the writes: data, and then the directory record of the entry
abbrev pub writing : List (List Store)
writing =
    direct_stores false ready in_two (record_of sigla 3) (filled 7)
    ∷ direct_stores true ready in_two (record_of sigla 3) (filled 7)
    ∷ direct_stores false ready in_two (record_of sigla 8) (filled 7)
    ∷ direct_stores true ready in_two (record_of sigla 10) (filled 7)
    ∷ sequential_stores ready in_two (control sigla 0 0 0 [] 7 0) (filled 7)
    ∷ direct_stores false full in_one_of (record_of sigla 8) (filled 7)
    ∷ []

abbrev pub writing_told : List (List Store)
writing_told =
    -- a block that is there: record 3 of block 1, and the entry, which stays; 40 fills nothing there
    (store 11 (filled 7) ∷ store 0 record0 ∷ [])
    ∷ (store 11 (filled 7) ∷ store 0 record0 ∷ [])
    -- 34 with a new block, 3: its record 0
    ∷ (store 24 (filled 7) ∷ store 0 (grown0 9 (1 ∷ 3 ∷ [])) ∷ [])
    -- 40 with a new block: its eight records, each once, rising
    ∷ (store 24 (filled 0)
    ∷ store 25 (filled 0)
    ∷ store 26 (filled 7)
    ∷ store 27 (filled 0)
    ∷ store 28 (filled 0)
    ∷ store 29 (filled 0)
    ∷ store 30 (filled 0)
    ∷ store 31 (filled 0)
    ∷ store 0 (grown0 11 (1 ∷ 3 ∷ []))
    ∷ [])
    -- 21 at record 7
    ∷ (store 15 (filled 7) ∷ store 0 record0 ∷ [])
    -- refused by 2: none
    ∷ []
    ∷ []

writing_stores : writing ≡ writing_told
unfolding seen old
writing_stores = refl

-- ---- function 221 stores as its single writes would: records 7 and 8
abbrev pub two : List ℕ
two = filled 7 ++ filled 8

abbrev pub several_seen : List (List Store)
several_seen =
    several_stores ready in_two (control sigla 0 0 0 [] 7 0) two 2
    ∷ several_stores full in_one_of (control sigla 0 0 0 [] 7 0) two 2
    ∷ several_stores ready in_two (control sigla 0 0 0 [] 7 0) two 17
    ∷ []

abbrev pub several_told : List (List Store)
several_told =
    (store 15 (filled 7) ∷ store 0 record0 ∷ store 24 (filled 8) ∷ store 0 (grown0 9 (1 ∷ 3 ∷ [])) ∷ [])
    -- the second is refused by 2, and the first stays done
    ∷ (store 15 (filled 7)
    ∷ store 0 (entry 0 sigla 0 0 8 (1 ∷ []) ++ entry 0 lemmata 0 0 8 (2 ∷ []) ++ entry 0 sigla 1 0 8 (3 ∷ []) ++ empty 1)
    ∷ [])
    -- refused by 46: none
    ∷ []
    ∷ []

several_stores_lem : several_seen ≡ several_told
unfolding seen old singles_stores several_stores
several_stores_lem = refl

-- ---- cuts: what the first k stores leave
abbrev pub delete_cut : ℕ → List ℕ
delete_cut k = cut small in_two k (delete_stores ready in_two (fresh sigla))

abbrev pub write_cut : ℕ → List ℕ
write_cut k = cut small in_two k (direct_stores false ready in_two (record_of sigla 8) (filled 7))

abbrev pub several_cut : ℕ → List ℕ
several_cut k = cut small in_two k (several_stores ready in_two (control sigla 0 0 0 [] 7 0) two 2)

abbrev pub cuts : List (List ℕ)
cuts =
    delete_cut 0
    ∷ part (delete_cut 1) 0 256
    ∷ part (delete_cut 2) 0 256
    ∷ delete_cut 528
    ∷ part (write_cut 1) 0 128
    ∷ part (write_cut 1) 3072 256
    ∷ part (write_cut 2) 0 128
    ∷ part (several_cut 3) 0 128
    ∷ part (several_cut 3) 1920 128
    ∷ part (several_cut 3) 3072 256
    ∷ []

abbrev pub cuts_told : List (List ℕ)
cuts_told =
    -- none is made
    in_two
    -- in the middle: the file's first entry is gone, its second is there
    ∷ (entry 0xE5 sigla 0 0 8 (1 ∷ []) ++ entry 0 lemmata 0 0 0 [] ++ empty 2 ++ record1)
    ∷ (entry 0xE5 sigla 0 0 8 (1 ∷ []) ++ entry 0 lemmata 0 0 0 [] ++ empty 2 ++ entry 0xE5 sigla 1 0 1 (2 ∷ []) ++ empty 3)
    -- with enough of them all is done, and no byte else changes
    ∷ disk (entry 0xE5 sigla 0 0 8 (1 ∷ []) ++ entry 0 lemmata 0 0 0 [] ++ empty 2 ++ entry 0xE5 sigla 1 0 1 (2 ∷ []) ++ empty 27)
    -- the data is stored, and no entry names its block yet
    ∷ record0
    ∷ (filled 7 ++ old 3200 128)
    ∷ grown0 9 (1 ∷ 3 ∷ [])
    -- the first record is done, the second is data alone
    ∷ record0
    ∷ filled 7
    ∷ (filled 8 ++ old 3200 128)
    ∷ []

cuts_hold : cuts ≡ cuts_told
unfolding seen old singles_stores several_stores
cuts_hold = refl
