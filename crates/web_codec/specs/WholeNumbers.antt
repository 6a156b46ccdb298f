-- Whole numbers within the bounds of their types.
use Rattle.std.specs.Prelude.{ℕ, ℤ, pos, negsuc, neg_ℤ, List, [], ◌∷◌, ◌++◌, ◌&&◌, ◌==◌, nat_le}
use Rattle.std.specs.Prelude.{Option, None, Some, option_map, option_and_then, if◌then◌else◌}
use Rattle.std.specs.Prelude.{Result, Ok, Err, codes, decimal, int_le}
use Rattle.std.specs.Fmt.{signed_decimal}
use Rattle.serde_json.specs.Data.{Data}
use Rattle.serde_json.specs.Find.{as_number, as_i64, as_u64}
use Rattle.web_texts.specs.Digits.{digits_up_to, number_of}
use Rattle.web_codec.specs.declared.faults.ReadFault.{ReadFault}

abbrev pub above : ℕ → ReadFault
above most = record { text = codes "no whole number from 0 to " ++ decimal most }

-- a number of at most `most`
abbrev pub up_to : ℕ → Option ℕ → Result ℕ ReadFault
up_to most None = Err (above most)
up_to most (Some n) = if nat_le n most then Ok n else Err (above most)

abbrev pub outside : ℤ → ℤ → ReadFault
outside least most = record {
  text = codes "no whole number from "
      ++ (signed_decimal least ++ (codes " to " ++ signed_decimal most));
}

-- a number of at least `least` and at most `most`
abbrev pub within : ℤ → ℤ → Option ℤ → Result ℤ ReadFault
within least most None = Err (outside least most)
within least most (Some n) =
    if int_le least n && int_le n most then Ok n else Err (outside least most)

abbrev pub unsigned_in : Data → Option ℕ
unsigned_in d = option_and_then as_u64 (as_number d)

abbrev pub signed_in : Data → Option ℤ
signed_in d = option_and_then as_i64 (as_number d)

-- digits, before which a minus may stand
abbrev pub signed_number_of : List ℕ → Option ℤ
signed_number_of [] = None
signed_number_of (b ∷ bs) =
    if b == 45 then option_map (λ n. neg_ℤ (pos n)) (digits_up_to 9223372036854775808 bs)
    else option_map (λ n. pos n) (digits_up_to 9223372036854775807 (b ∷ bs))

-- each type's numbers, from JSON values and from texts
abbrev pub u8_of : Data → Result ℕ ReadFault
u8_of d = up_to 255 (unsigned_in d)

abbrev pub u8_field : List ℕ → Result ℕ ReadFault
u8_field t = up_to 255 (number_of t)

abbrev pub u16_of : Data → Result ℕ ReadFault
u16_of d = up_to 65535 (unsigned_in d)

abbrev pub u16_field : List ℕ → Result ℕ ReadFault
u16_field t = up_to 65535 (number_of t)

abbrev pub u32_of : Data → Result ℕ ReadFault
u32_of d = up_to 4294967295 (unsigned_in d)

abbrev pub u32_field : List ℕ → Result ℕ ReadFault
u32_field t = up_to 4294967295 (number_of t)

abbrev pub u64_of : Data → Result ℕ ReadFault
u64_of d = up_to 18446744073709551615 (unsigned_in d)

abbrev pub u64_field : List ℕ → Result ℕ ReadFault
u64_field t = up_to 18446744073709551615 (number_of t)

abbrev pub usize_of : Data → Result ℕ ReadFault
usize_of d = up_to 18446744073709551615 (unsigned_in d)

abbrev pub usize_field : List ℕ → Result ℕ ReadFault
usize_field t = up_to 18446744073709551615 (number_of t)

abbrev pub i8_of : Data → Result ℤ ReadFault
i8_of d = within (negsuc 127) (pos 127) (signed_in d)

abbrev pub i8_field : List ℕ → Result ℤ ReadFault
i8_field t = within (negsuc 127) (pos 127) (signed_number_of t)

abbrev pub i16_of : Data → Result ℤ ReadFault
i16_of d = within (negsuc 32767) (pos 32767) (signed_in d)

abbrev pub i16_field : List ℕ → Result ℤ ReadFault
i16_field t = within (negsuc 32767) (pos 32767) (signed_number_of t)

abbrev pub i32_of : Data → Result ℤ ReadFault
i32_of d = within (negsuc 2147483647) (pos 2147483647) (signed_in d)

abbrev pub i32_field : List ℕ → Result ℤ ReadFault
i32_field t = within (negsuc 2147483647) (pos 2147483647) (signed_number_of t)

abbrev pub i64_of : Data → Result ℤ ReadFault
i64_of d = within (negsuc 9223372036854775807) (pos 9223372036854775807) (signed_in d)

abbrev pub i64_field : List ℕ → Result ℤ ReadFault
i64_field t = within (negsuc 9223372036854775807) (pos 9223372036854775807) (signed_number_of t)

abbrev pub isize_of : Data → Result ℤ ReadFault
isize_of d = within (negsuc 9223372036854775807) (pos 9223372036854775807) (signed_in d)

abbrev pub isize_field : List ℕ → Result ℤ ReadFault
isize_field t = within (negsuc 9223372036854775807) (pos 9223372036854775807) (signed_number_of t)
