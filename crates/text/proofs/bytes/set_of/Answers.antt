-- `text::bytes::set_of` meets its contract: each arm's set is computed to hold its class. From the law of a set that holds a class.
use Rattle.text.specs.Bytes.{within, is_space, is_not_space, is_not_slash, is_upper, is_not_upper, is_alpha, is_digit, is_length_byte, is_alphanumeric, is_hex_digit, is_visible, is_printable, is_label_byte, is_table_label_byte, is_name_byte, is_toplabel_byte, is_macro_literal, is_delimiter}
use Rattle.text.specs.Runs.{is_in}
use Rattle.text.specs.Sets.{has_bit, in_set}
use Rattle.text.proofs.Laws.Sets.{holds}
use Rattle.text.proofs.bytes.set_of.Goals as goal

pub returns-in-Space : goal.returns-in-Space
unfolding in_set has_bit within is_in is_space
returns-in-Space c = search holds

pub returns-in-NotSpace : goal.returns-in-NotSpace
unfolding in_set has_bit within is_in is_not_space
returns-in-NotSpace c = search holds

pub returns-in-NotDot : goal.returns-in-NotDot
unfolding in_set has_bit within is_in
returns-in-NotDot c = search holds

pub returns-in-NotColon : goal.returns-in-NotColon
unfolding in_set has_bit within is_in
returns-in-NotColon c = search holds

pub returns-in-NotSlash : goal.returns-in-NotSlash
unfolding in_set has_bit within is_in is_not_slash
returns-in-NotSlash c = search holds

pub returns-in-Upper : goal.returns-in-Upper
unfolding in_set has_bit within is_in is_upper
returns-in-Upper c = search holds

pub returns-in-NotUpper : goal.returns-in-NotUpper
unfolding in_set has_bit within is_in is_not_upper is_upper
returns-in-NotUpper c = search holds

pub returns-in-Alpha : goal.returns-in-Alpha
unfolding in_set has_bit within is_in is_alpha is_upper
returns-in-Alpha c = search holds

pub returns-in-Digit : goal.returns-in-Digit
unfolding in_set has_bit within is_in is_digit
returns-in-Digit c = search holds

pub returns-in-LengthByte : goal.returns-in-LengthByte
unfolding in_set has_bit within is_in is_length_byte
returns-in-LengthByte c = search holds

pub returns-in-Alphanumeric : goal.returns-in-Alphanumeric
unfolding in_set has_bit within is_in is_alphanumeric is_alpha is_upper is_digit
returns-in-Alphanumeric c = search holds

pub returns-in-HexDigit : goal.returns-in-HexDigit
unfolding in_set has_bit within is_in is_hex_digit is_digit
returns-in-HexDigit c = search holds

pub returns-in-Visible : goal.returns-in-Visible
unfolding in_set has_bit within is_in is_visible
returns-in-Visible c = search holds

pub returns-in-Printable : goal.returns-in-Printable
unfolding in_set has_bit within is_in is_printable
returns-in-Printable c = search holds

pub returns-in-LabelByte : goal.returns-in-LabelByte
unfolding in_set has_bit within is_in is_label_byte is_visible
returns-in-LabelByte c = search holds

pub returns-in-TableLabelByte : goal.returns-in-TableLabelByte
unfolding in_set has_bit within is_in is_table_label_byte is_label_byte is_visible is_not_upper is_upper
returns-in-TableLabelByte c = search holds

pub returns-in-NameByte : goal.returns-in-NameByte
unfolding in_set has_bit within is_in is_name_byte is_alphanumeric is_alpha is_upper is_digit
returns-in-NameByte c = search holds

pub returns-in-ToplabelByte : goal.returns-in-ToplabelByte
unfolding in_set has_bit within is_in is_toplabel_byte is_alphanumeric is_alpha is_upper is_digit
returns-in-ToplabelByte c = search holds

pub returns-in-MacroLiteral : goal.returns-in-MacroLiteral
unfolding in_set has_bit within is_in is_macro_literal
returns-in-MacroLiteral c = search holds

pub returns-in-Delimiter : goal.returns-in-Delimiter
unfolding in_set has_bit within is_in is_delimiter
returns-in-Delimiter c = search holds
