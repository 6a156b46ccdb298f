use Rattle.std.proofs.Common.{◌≡◌, ◌≤◌, true, take}
use Rattle.std.specs.List.{list_all}
use Rattle.std.specs.Char.{is_ascii_digit}
use Rattle.web_texts.specs.Digits.{digits_value}
use Rattle.web_texts.proofs.texts.digits.number_of.Given as goal

abbrev pub invariant-loop-byte : goal.invariant-loop-byte
invariant-loop-byte l = record {
  digits : list_all is_ascii_digit (take l.byte-index l.text) ≡ true;
  value_is : l.value ≡ digits_value (take l.byte-index l.text);
  small : l.value ≤ l.max;
}
