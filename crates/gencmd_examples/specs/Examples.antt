-- What becomes of the texts: whole files, byte by byte, over a buffer full of EEH; and the number of each refusal at its border.
use Rattle.std.specs.Prelude.{◌≡◌, refl, Ok, Err, List, [], ◌∷◌, ◌++◌, ℕ, replicate}
use Rattle.lists.specs.Bounded.{every_from}
use Rattle.numbers.specs.Numbers.{bytes_of}
use Rattle.gencmd_lines.specs.declared.Refusal.TheVariants.{Room}
use Rattle.gencmd_lines.specs.Refusal.{told}
use Rattle.gencmd_lines.specs.Digits.{digit_of, line_byte}
use Rattle.gencmd_lines.specs.Line.{is_spelled, sum_from, sum_of, group_of_type, data_refusal, line_refusal}
use Rattle.gencmd_lines.specs.Lines.{lines_of, lines_in, lines_from, lines_refusal, data_lines}
use Rattle.gencmd_groups.specs.declared.Groups.{Groups}
use Rattle.gencmd_groups.specs.Groups.{given, byte_at, list_from, reach_of, reaches, sizes_of}
use Rattle.gencmd_file.specs.File.{descriptor, descriptors, header, image, file_length, file_with}
use Rattle.gencmd_file.specs.Gencmd.{after, refusal_of, gencmd}
use Rattle.gencmd_file.specs.Longest.{longest}
use Rattle.gencmd_examples.specs.Texts.{end, three, four, among, last, four_last, beyond, none_at_last, wrong, small, letter_g, colon_within, short, type_02, type_03, type_80, type_85, type_02_beyond, type_02_wrong, data_byte, code_and_data, code_and_extra, no_byte, odd_end, wrong_end, short_end}

abbrev zeros : ℕ → List ℕ
zeros n = replicate n 0

abbrev buffer : ℕ → List ℕ
buffer n = replicate n 0xEE

-- the file of the three bytes: the code group has the base page, so it has 16 paragraphs; 128 + 256 bytes are 3 records
abbrev pub three_file : List ℕ
three_file =
    (0x01 ∷ 0x10 ∷ 0x00 ∷ 0x00 ∷ 0x00 ∷ 0x10 ∷ 0x00 ∷ 0x10 ∷ 0x00 ∷ []) ++ (zeros 119
    ++ (zeros 5 ++ ((0x11 ∷ 0x22 ∷ 0x33 ∷ []) ++ zeros 248)))

-- The file of the four groups: code has 02 04 05, since the later line counts, and 1 paragraph; the data group has the base page
-- and a 17th paragraph, for its byte at 0100H; the byte at 0010H makes 2 paragraphs, the one at 000FH 1. Extra, type 3, stands
-- before stack, type 4. 128 + 16 * 21 = 464 bytes are filled up to 4 records.
abbrev pub four_file : List ℕ
four_file =
    (0x01 ∷ 0x01 ∷ 0x00 ∷ 0x00 ∷ 0x00 ∷ 0x01 ∷ 0x00 ∷ 0x01 ∷ 0x00
    ∷ 0x02 ∷ 0x11 ∷ 0x00 ∷ 0x00 ∷ 0x00 ∷ 0x11 ∷ 0x00 ∷ 0x11 ∷ 0x00
    ∷ 0x03 ∷ 0x02 ∷ 0x00 ∷ 0x00 ∷ 0x00 ∷ 0x02 ∷ 0x00 ∷ 0x02 ∷ 0x00
    ∷ 0x04 ∷ 0x01 ∷ 0x00 ∷ 0x00 ∷ 0x00 ∷ 0x01 ∷ 0x00 ∷ 0x01 ∷ 0x00 ∷ []) ++ (zeros 92
    ++ ((0x02 ∷ 0x04 ∷ 0x05 ∷ []) ++ (zeros 13
    ++ (zeros 256 ++ ((0x22 ∷ []) ++ (zeros 15
    ++ (zeros 16 ++ ((0x33 ∷ []) ++ (zeros 15
    ++ (zeros 15 ++ ((0x44 ∷ [])
    ++ zeros 48)))))))))))

-- the number for a text with a buffer of so many bytes
abbrev number : List ℕ → ℕ → ℕ
number text room = told (refusal_of text room)

-- and that of its lines alone
abbrev lines : List ℕ → ℕ
lines text = told (lines_refusal (lines_of text))

-- the paragraphs of a text's groups, and the length of its file, without its bytes
abbrev sizes_in : List ℕ → Groups
sizes_in text = sizes_of (reaches (lines_in text))

abbrev sizes : ℕ → ℕ → ℕ → ℕ → Groups
sizes code «data» extra stack = record { code = code; «data» = «data»; extra = extra; stack = stack }

abbrev long_file : List ℕ → ℕ
long_file text = file_length (sizes_in text)

pub record Examples : Type 0 where
  code_alone_lem : gencmd (three ++ end) (buffer 400) ≡ after (Ok 384) (three_file ++ buffer 16)
  four_groups : gencmd four (buffer 513) ≡ after (Ok 512) (four_file ++ buffer 1)
  -- text around lines is ignored, and nothing is read behind the end line: a line there is not refused, and gives no byte
  ignored : gencmd among (buffer 384) ≡ after (Ok 384) three_file
  -- the base page is in the data group, or else in the code group, and that one has 16 paragraphs; the others as many as their bytes need
  page_groups : (sizes_in code_and_data ≡ sizes 1 16 0 0) × (sizes_in code_and_extra ≡ sizes 16 0 2 0)
  -- refused: every byte stays
  refused : gencmd (three ++ end) (buffer 383) ≡ after (Err Room) (buffer 383)
  -- 70: small letters, a letter behind F, a colon within a line, a line that the text's end cuts off
  digits : (number (small ++ end) 400 ∷ number (letter_g ++ end) 400 ∷ number (colon_within ++ end) 400 ∷ number short 400 ∷ number (58 ∷ []) 400 ∷ [])
      ≡ (70 ∷ 70 ∷ 70 ∷ 70 ∷ 70 ∷ [])
  sums : (number (wrong ++ end) 400 ∷ number (three ++ wrong_end) 400 ∷ []) ≡ (71 ∷ 71 ∷ [])
  types : (number (type_02 ++ end) 400 ∷ number (type_03 ++ end) 400 ∷ number (type_80 ++ end) 400 ∷ number (type_85 ++ end) 400 ∷ [])
      ≡ (72 ∷ 72 ∷ 72 ∷ 72 ∷ [])
  -- 73's border: FFFFH is within, and so is a line without bytes there
  addresses : (lines (last ++ end) ∷ lines (beyond ++ end) ∷ lines (none_at_last ++ end) ∷ []) ≡ (0 ∷ 73 ∷ 0 ∷ [])
  -- an end line is tested for 70 and 71 alone
  ends : (number (three ++ odd_end) 400 ∷ number (three ++ short_end) 400 ∷ []) ≡ (0 ∷ 70 ∷ [])
  -- of one line 70, 71, 72, 73 in this order; of two lines the first; no test of a line comes after 74
  first_line_first : (number (type_02_wrong ++ end) 400 ∷ number (type_02_beyond ++ end) 400 ∷ number (wrong ++ (small ++ end)) 400
      ∷ number (beyond ++ (wrong ++ end)) 400 ∷ number (three ++ wrong) 400 ∷ []) ≡ (71 ∷ 72 ∷ 71 ∷ 73 ∷ 71 ∷ [])
  -- 74 comes before 75 and 76
  no_end : (number [] 400 ∷ number three 400 ∷ number data_byte 400 ∷ number three 0 ∷ []) ≡ (74 ∷ 74 ∷ 74 ∷ 74 ∷ [])
  -- a line without bytes gives no code byte; 75 comes before 76
  no_code : (number end 400 ∷ number (data_byte ++ end) 400 ∷ number (no_byte ++ end) 400 ∷ number end 0 ∷ []) ≡ (75 ∷ 75 ∷ 75 ∷ 75 ∷ [])
  room : (number (three ++ end) 383 ∷ number (three ++ end) 384 ∷ number four 511 ∷ number four 512 ∷ []) ≡ (76 ∷ 0 ∷ 76 ∷ 0 ∷ [])
  -- four groups that reach to FFFFH make the longest file
  longest_file : (lines four_last ∷ long_file four_last ∷ []) ≡ (0 ∷ longest ∷ [])

pub examples_hold : Examples
unfolding gencmd refusal_of file_with image header descriptors descriptor list_from sizes_of reach_of byte_at given lines_from lines_refusal data_lines line_refusal data_refusal is_spelled sum_of sum_from group_of_type line_byte digit_of every_from bytes_of
examples_hold =
    record {
      code_alone_lem = refl;
      four_groups = refl;
      ignored = refl;
      page_groups = (refl, refl);
      refused = refl;
      digits = refl;
      sums = refl;
      types = refl;
      addresses = refl;
      ends = refl;
      first_line_first = refl;
      no_end = refl;
      no_code = refl;
      room = refl;
      longest_file = refl;
    }
